use Rattle.connection_server.proofs.Running.{served_session}
use Rattle.connection_server.proofs.serve.serve_conn.Goals as goal

pub returns : goal.returns
returns g c =
    served_session c.args.conn c.now_ms-start.result c.args.pass.now c.open.new.pass c.run-end.new.pass c.depart.new.pass _ _ _
    (g.C.Clock.tells c.now_ms-start.new.self) _ c.run-end.result c.in-Ok.ensures c.now_ms-start.ensures c.run-end.ensures
    c.depart.ensures
