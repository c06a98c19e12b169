use Rattle.stream_laws.proofs.StreamResults.{streams_send_next_rows}
use Rattle.stream_laws.proofs.StreamsOnce.{streams_send_once}
use Rattle.stream_laws.proofs.laws.streams.Goals as goal

pub returns : goal.returns
returns c = record { next = streams_send_next_rows; once = streams_send_once }
