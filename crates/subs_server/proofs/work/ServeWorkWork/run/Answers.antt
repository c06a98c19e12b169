use Rattle.subs_server.specs.declared.task.PortEnd.TheVariants.{NoMemory}
use Rattle.subs_server.proofs.Working.{port_suits}
use Rattle.subs_server.proofs.Porting.{takes_served, takes_last, takes_not_split, takes_no_parts, serves_more, serves_last}
use Rattle.subs_server.proofs.work.ServeWorkWork.run.Goals as goal

pub loop-preserved-in-Ok : goal.loop-preserved-in-Ok
loop-preserved-in-Ok g c =
    serves_more g.Q.Conn.Splits.left g.Q.Conn.Splits.written g.Q.Conn.Splits.never_fails
    (g.Q.Listener.coming c.in-Commits.from) (g.Q.Listener.coming c.loop.from) (g.Q.Listener.coming c.accept.new.self)
    (g.Q.Listener.faults c.in-Commits.from) (g.Q.Listener.faults c.loop.from) (g.Q.Listener.faults c.accept.new.self)
    c.args.self.pass c.loop.pass c.serve_commits-end.new.pass c.in-Conn-accept.conn c.loop.invariant
    c.in-Conn-accept.ensures.coming c.accept.ensures.later
    (takes_served g.Q.Conn.Splits.left g.Q.Conn.Splits.written g.Q.Conn.Splits.never_fails c.in-Conn-accept.conn
    c.loop.pass c.serve_commits-end.new.pass _ _ _ _ c.serve_commits-end.result c.in-Ok.ensures.goes_on
    c.serve_commits-end.ensures.commits c.in-Both.ensures.left c.in-Both.ensures.written
    (λ steady. let never = c.in-Both.ensures.steady steady in
    ((c.serve_commits-end.ensures.source_steady never.0).1, (c.serve_commits-end.ensures.sink_steady never.1).1)))

pub loop-preserved : goal.loop-preserved
loop-preserved g c =
    serves_more g.Q.Conn.Splits.left g.Q.Conn.Splits.written g.Q.Conn.Splits.never_fails
    (g.Q.Listener.coming c.in-Commits.from) (g.Q.Listener.coming c.loop.from) (g.Q.Listener.coming c.accept.new.self)
    (g.Q.Listener.faults c.in-Commits.from) (g.Q.Listener.faults c.loop.from) (g.Q.Listener.faults c.accept.new.self)
    c.args.self.pass c.loop.pass c.loop.pass c.in-Conn-accept.conn c.loop.invariant
    c.in-Conn-accept.ensures.coming c.accept.ensures.later
    (takes_not_split g.Q.Conn.Splits.left g.Q.Conn.Splits.written g.Q.Conn.Splits.never_fails c.in-Conn-accept.conn
    c.loop.pass (c.split.ensures.failed c.in-Failed-split.is))

pub returns-in-Err : goal.returns-in-Err
returns-in-Err g c =
    port_suits _ _ _ _ g.Q.Conn.Splits.left g.Q.Conn.Splits.written g.Q.Conn.Splits.never_fails
    g.Q.Listener.coming g.Q.Listener.faults c.args.self.pass c.serve_commits-end.new.pass _ c.in-Commits.from c.accept.new.self
    c.in-Err.end c.in-Commits.is (
    serves_last g.Q.Conn.Splits.left g.Q.Conn.Splits.written g.Q.Conn.Splits.never_fails
    (g.Q.Listener.coming c.in-Commits.from) (g.Q.Listener.coming c.loop.from) (g.Q.Listener.coming c.accept.new.self)
    (g.Q.Listener.faults c.in-Commits.from) (g.Q.Listener.faults c.loop.from) (g.Q.Listener.faults c.accept.new.self)
    c.args.self.pass c.loop.pass c.serve_commits-end.new.pass c.in-Conn-accept.conn c.in-Err.end c.loop.invariant
    c.in-Conn-accept.ensures.coming
    (takes_last g.Q.Conn.Splits.left g.Q.Conn.Splits.written g.Q.Conn.Splits.never_fails c.in-Conn-accept.conn
    c.loop.pass c.serve_commits-end.new.pass _ _ _ _ c.serve_commits-end.result c.in-Err.end c.in-Err.ensures.ends
    c.serve_commits-end.ensures.commits c.in-Both.ensures.left c.in-Both.ensures.written))

pub returns-in-NoMemory-split : goal.returns-in-NoMemory-split
returns-in-NoMemory-split g c =
    port_suits _ _ _ _ g.Q.Conn.Splits.left g.Q.Conn.Splits.written g.Q.Conn.Splits.never_fails
    g.Q.Listener.coming g.Q.Listener.faults c.args.self.pass c.loop.pass _ c.in-Commits.from c.accept.new.self
    NoMemory c.in-Commits.is (
    serves_last g.Q.Conn.Splits.left g.Q.Conn.Splits.written g.Q.Conn.Splits.never_fails
    (g.Q.Listener.coming c.in-Commits.from) (g.Q.Listener.coming c.loop.from) (g.Q.Listener.coming c.accept.new.self)
    (g.Q.Listener.faults c.in-Commits.from) (g.Q.Listener.faults c.loop.from) (g.Q.Listener.faults c.accept.new.self)
    c.args.self.pass c.loop.pass c.loop.pass c.in-Conn-accept.conn _ c.loop.invariant
    c.in-Conn-accept.ensures.coming
    (takes_no_parts g.Q.Conn.Splits.left g.Q.Conn.Splits.written g.Q.Conn.Splits.never_fails c.in-Conn-accept.conn
    c.loop.pass))
