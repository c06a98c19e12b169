use Rattle.std.proofs.Common.{◌∙◌, ap, sym}
use Rattle.connection_table.specs.Connected.{Table}
use Rattle.connection_table.proofs.Entries.{some_seen}
use Rattle.connection_table.proofs.table.ConnectionTable.knows.Goals as goal

pub returns : goal.returns
returns c =
    c.contains_key.ensures
    ∙ sym (some_seen c.args.conn c.self.inside.connections _ (ap (λ (t : Table). t.connections) c.self.view_is))
