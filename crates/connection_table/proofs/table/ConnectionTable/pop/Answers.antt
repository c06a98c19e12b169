use Rattle.std.proofs.Common.{ap}
use Rattle.connection_table.specs.Connected.{Table, without_first}
use Rattle.connection_table.proofs.Entries.{found_is, through, absent}
use Rattle.connection_table.proofs.table.ConnectionTable.pop.Goals as goal
use Rattle.connection_table.proofs.table.ConnectionTable.pop.Goals.{in-Some, in-None}

pub returns-clause-first : goal.returns-clause-first
returns-clause-first c =
    let is = found_is c.args.conn c.self.inside.connections _ (ap (λ (t : Table). t.connections) c.self.view_is) in
    elim c.match-get_mut.branch [
      | in-Some w ↦ rw (w.result-is, is, ← w.in-Some.ensures.value) w.pop.ensures.first
      | in-None w ↦ rw (w.result-is, is, ← w.in-None.ensures.value)
    ]

pub returns-clause-connections : goal.returns-clause-connections
returns-clause-connections c =
    let view = ap (λ (t : Table). t.connections) c.self.view_is in
    elim c.match-get_mut.branch [
      | in-Some w ↦ rw w.self-inside-is (through c.args.conn without_first c.self.inside.connections
          (c.get_mut.follows.lender w.pop.new.self) w.in-Some.connection.now w.pop.new.self _ c.self.invariant.ordered
          w.in-Some.ensures.value (c.get_mut.follows.holds w.pop.new.self).0 (w.pop.ensures.rest.is c.args.conn) view)
      | in-None w ↦ rw w.self-inside-is (absent c.args.conn without_first c.self.inside.connections
          c.get_mut.follows.lender-at-none _ w.in-None.ensures.value c.get_mut.follows.holds-at-none view)
    ]
