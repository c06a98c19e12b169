use Rattle.stream_cursor.proofs.Examples.{ticked_streams}
use Rattle.stream_cursor.proofs.tests.tick.Goals as goal

pub returns : goal.returns
returns c = λ next h. ticked_streams next c.args.map.now c.tick.new.self c.tick.ensures.entries c.tick.ensures.ready h
