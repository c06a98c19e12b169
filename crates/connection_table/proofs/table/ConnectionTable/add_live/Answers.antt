use Rattle.std.proofs.Common.{ap}
use Rattle.std.proofs.lemmas.Result.{on_ok_weaker, on_err_weaker}
use Rattle.connection_table.specs.Connected.{Table, with_live}
use Rattle.connection_table.proofs.Entries.{through, absent, kept}
use Rattle.connection_table.proofs.table.ConnectionTable.add_live.Goals as goal
use Rattle.connection_table.proofs.table.ConnectionTable.add_live.Goals.{in-Some, in-None}

pub returns-clause-ok : goal.returns-clause-ok
returns-clause-ok c =
    let view = ap (λ (t : Table). t.connections) c.self.view_is in
    elim c.match-get_mut.branch [
      | in-Some w ↦ rw (w.self-inside-is, w.result-is) (on_ok_weaker w.add_live.result
          (λ becomes. through c.args.conn (with_live c.args.number) c.self.inside.connections
          (c.get_mut.follows.lender w.add_live.new.self) w.in-Some.connection.now w.add_live.new.self _
          c.self.invariant.ordered w.in-Some.ensures.value (c.get_mut.follows.holds w.add_live.new.self).0
          (becomes.is c.args.conn) view)
          w.add_live.ensures.ok)
      | in-None w ↦ rw (w.self-inside-is, w.result-is) (absent c.args.conn (with_live c.args.number)
          c.self.inside.connections c.get_mut.follows.lender-at-none _ w.in-None.ensures.value
          c.get_mut.follows.holds-at-none view)
    ]

pub returns-clause-err : goal.returns-clause-err
returns-clause-err c =
    let view = ap (λ (t : Table). t.connections) c.self.view_is in
    elim c.match-get_mut.branch [
      | in-Some w ↦ rw (w.self-inside-is, w.result-is) (on_err_weaker w.add_live.result
          (λ becomes. kept c.args.conn c.self.inside.connections (c.get_mut.follows.lender w.add_live.new.self)
          w.in-Some.connection.now w.add_live.new.self _ c.self.invariant.ordered w.in-Some.ensures.value
          (c.get_mut.follows.holds w.add_live.new.self).0 (becomes.is c.args.conn) view)
          w.add_live.ensures.err)
      | in-None w ↦ rw w.result-is tt
    ]
