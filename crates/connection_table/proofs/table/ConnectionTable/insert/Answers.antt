use Rattle.std.proofs.Common.{ap}
use Rattle.connection_table.specs.Connected.{Table, opened}
use Rattle.connection_table.proofs.Entries.{added, none_from}
use Rattle.connection_table.proofs.Promises.{one_more}
use Rattle.connection_table.proofs.table.ConnectionTable.insert.Goals as goal

pub invariant_of-self-2 : goal.invariant_of-self-2
invariant_of-self-2 c =
    let none = none_from c.args.conn c.self.inside.connections _ (ap (λ (t : Table). t.connections) c.self.view_is)
    c.requires in
    one_more c.args.conn c.self.inside.connections c.insert.new.self c.self.inside.promised.items c.opened.result
    c.self.invariant none c.in_ok-insert.ensures.updates.0 c.opened.ensures.promises c.insert.ensures.ordered

pub returns-clause-ok : goal.returns-clause-ok
returns-clause-ok c =
    let view = ap (λ (t : Table). t.connections) c.self.view_is in
    let none = none_from c.args.conn c.self.inside.connections _ view c.requires in
    added c.args.conn c.opened.result (opened c.args.conn) c.self.inside.connections c.insert.new.self _ none
    c.in_ok-insert.ensures.entries (c.opened.ensures.seen c.args.conn) view
