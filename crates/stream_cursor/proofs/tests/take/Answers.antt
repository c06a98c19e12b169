use Rattle.stream_cursor.proofs.Examples.{opened_streams}
use Rattle.stream_cursor.proofs.tests.take.Goals as goal

pub returns : goal.returns
returns c =
    λ next h. opened_streams next c.args.job c.in_ok-members.members c.args.map.now c.open_job.new.self c.open_job.ensures.entries c.open_job.ensures.ready h
