use Rattle.std.proofs.Common.{refl}
use Rattle.connection_server.proofs.Receiving.{ends_timeout, serves_timeout}
use Rattle.connection_server.proofs.intake.take_in.Goals as goal

pub returns-in-Ok : goal.returns-in-Ok
returns-in-Ok g c =
    let due = c.is_due.ensures.yes c.if-is_due.true in
    serves_timeout c.args.conn c.args.start c.now_ms-now.result c.args.pass.now c.tell.new.pass _ _
    (g.C.Clock.tells c.now_ms-now.new.self) c.args.late.now _ due.0 c.now_ms-now.ensures due.1 c.in-Ok.ensures

pub returns-in-Err : goal.returns-in-Err
returns-in-Err g c =
    let due = c.is_due.ensures.yes c.if-is_due.true in (
      refl,
      ends_timeout c.args.conn c.args.start c.now_ms-now.result c.args.pass.now c.tell.new.pass _ _
          (g.C.Clock.tells c.now_ms-now.new.self) c.args.late.now c.in-Err.end due.0 c.now_ms-now.ensures c.in-Err.ensures,
    )
