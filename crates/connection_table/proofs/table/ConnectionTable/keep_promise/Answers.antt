use Rattle.std.proofs.Common.{ap}
use Rattle.connection_table.specs.Connected.{Table, with_text}
use Rattle.connection_table.proofs.Entries.{through}
use Rattle.connection_table.proofs.table.ConnectionTable.keep_promise.Goals as goal

pub returns-clause-connections : goal.returns-clause-connections
returns-clause-connections c =
    through c.args.conn (with_text c.args.text) c.self.inside.connections (c.get_mut.follows.lender c.keep.new.self)
    c.in-Some.connection.now c.keep.new.self _ c.self.invariant.ordered c.in-Some.ensures.value
    (c.get_mut.follows.holds c.keep.new.self).0 (c.keep.ensures.is c.args.conn)
    (ap (λ (t : Table). t.connections) c.self.view_is)
