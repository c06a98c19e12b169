use Rattle.std.proofs.Common.{◌+◌}
use Rattle.stream_cursor.proofs.Examples.{joined_streams}
use Rattle.bench_cohorts.proofs.work.join_all.Goals as goal

pub loop-number-preserved : goal.loop-number-preserved
loop-number-preserved c =
    joined_streams (c.loop-number.number + 1) _ c.in_ok-binding.binding c.loop-number.map c.join.new.self c.in_ok-binding.ensures
    c.in_ok-join.ensures.ok c.join.ensures.ready c.loop-number.invariant
