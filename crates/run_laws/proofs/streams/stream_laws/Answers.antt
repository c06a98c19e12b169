use Rattle.run_laws.proofs.StreamRuns.{streams_are_told_next_rows, streams_are_sent_once}
use Rattle.run_laws.proofs.streams.stream_laws.Goals as goal

pub returns-clause-told : goal.returns-clause-told
returns-clause-told c = streams_are_told_next_rows

pub returns-clause-once : goal.returns-clause-once
returns-clause-once c = streams_are_sent_once
