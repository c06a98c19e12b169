use Rattle.std.proofs.Common.{refl}
use Rattle.stream_cursor.proofs.Examples.{joined_streams, on_ok_more}
use Rattle.stream_cursor.proofs.tests.join.Goals as goal

pub returns : goal.returns
returns c =
    on_ok_more c.join.result _ _ (λ is. joined_streams c.args.sub _ _ c.args.map.now c.join.new.self refl is c.join.ensures.ready c.requires) c.join.ensures.ok
