use Rattle.std.proofs.Common.{ap}
use Rattle.connection_table.specs.Connected.{Table, without_live}
use Rattle.connection_table.proofs.Entries.{through, absent}
use Rattle.connection_table.proofs.table.ConnectionTable.forget.Goals as goal
use Rattle.connection_table.proofs.table.ConnectionTable.forget.Goals.{in-Some, in-None}

pub returns-clause-connections : goal.returns-clause-connections
returns-clause-connections c =
    let view = ap (λ (t : Table). t.connections) c.self.view_is in
    elim c.match-get_mut.branch [
      | in-Some w ↦ rw w.self-inside-is (through c.args.conn (without_live c.args.number) c.self.inside.connections
          (c.get_mut.follows.lender w.forget.new.self) w.in-Some.connection.now w.forget.new.self _
          c.self.invariant.ordered w.in-Some.ensures.value (c.get_mut.follows.holds w.forget.new.self).0
          (w.forget.ensures.is c.args.conn) view)
      | in-None w ↦ rw w.self-inside-is (absent c.args.conn (without_live c.args.number) c.self.inside.connections
          c.get_mut.follows.lender-at-none _ w.in-None.ensures.value c.get_mut.follows.holds-at-none view)
    ]
