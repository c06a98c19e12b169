use denote.Param.Send.{sendable}
use Rattle.std.proofs.Crossing.{crosses}
use Rattle.link_ws.proofs.link.WsLink.TheSendSync as link
use Rattle.link_ws.proofs.port.WsConn.TheSendSync as conn
use Rattle.outside.proofs.sys_clock.SysClock.TheSendSync as clock
use Rattle.outside.proofs.tcp_port.TcpPort.TheSendSync as port
use Rattle.subs_cli.proofs.Sending.{work_send, worked_send}
use Rattle.subs_cli.proofs.bell_gate.BellGate.TheSendSync as gate
use Rattle.subs_cli.proofs.serve.serve.Goals as goal

pub new-requires-4-send-W : goal.new-requires-4-send-W
new-requires-4-send-W g c κs within =
    search (work_send, conn.the_send, port.the_send, clock.the_send, gate.the_send, crosses, sendable) depth 60 fits 20000

pub new-requires-4-send-W-Out : goal.new-requires-4-send-W-Out
new-requires-4-send-W-Out g c κs within =
    search (worked_send, link.the_send, port.the_send, clock.the_send, crosses, sendable) depth 60 fits 20000
