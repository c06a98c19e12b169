use Rattle.std.proofs.Common.{arith}
use Rattle.stream_cursor.proofs.tests.met.Goals as goal

pub move_one-requires : goal.move_one-requires
move_one-requires c = (c.in_ok-_one.ensures 3 c.in_ok-map.ensures).there 1 (omega arith) (omega arith)
