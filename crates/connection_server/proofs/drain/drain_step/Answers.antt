use Rattle.connection_server.proofs.Draining.{stops_close, stops_closed, stops_text}
use Rattle.connection_server.proofs.drain.drain_step.Goals as goal

pub returns-in-Err-send : goal.returns-in-Err-send
returns-in-Err-send g c =
    stops_text c.args.conn c.args.pass.now c.drain_one.new.pass _ _ _ c.in-Err-send.end
    (rw c.in-Ok-Sent.field-0-is at c.in-Ok-Sent.ensures) c.in-Err-send.ensures

pub returns-in-Ok-close : goal.returns-in-Ok-close
returns-in-Ok-close g c =
    stops_closed c.args.conn c.args.pass.now c.drain_one.new.pass _ _ _ c.code.result c.code.ensures
    (rw c.in-Ok-Done.field-0-is at c.in-Ok-Done.ensures) c.in-Ok-close.ensures

pub returns-in-Err-close : goal.returns-in-Err-close
returns-in-Err-close g c =
    stops_close c.args.conn c.args.pass.now c.drain_one.new.pass _ _ _ c.in-Err-close.end
    (rw c.in-Ok-Done.field-0-is at c.in-Ok-Done.ensures) c.in-Err-close.ensures
