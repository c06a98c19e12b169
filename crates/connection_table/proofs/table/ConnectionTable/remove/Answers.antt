use Rattle.std.proofs.Common.{◌∙◌, ◌≡◌, ap, map, rules}
use Rattle.std.proofs.lemmas.Fn.{filter_same}
use Rattle.connection_table.specs.Connected.{Table, without, others}
use Rattle.connection_table.specs.Seen.{seen_entry}
use Rattle.connection_table.proofs.Entries.{removed}
use Rattle.connection_table.proofs.Promises.{one_less}
use Rattle.connection_table.proofs.table.ConnectionTable.remove.Goals as goal

pub invariant_of-self : goal.invariant_of-self
invariant_of-self c =
    let left : c.retain.new.self.items ≡ others c.args.conn c.self.inside.promised.items = filter_same _ _ _
    (λ x b f' k. search rules) _ _ c.retain.ensures.filtered in
    rw left (one_less c.args.conn c.self.inside.connections c.remove.new.self c.self.inside.promised.items
    c.self.invariant c.remove.ensures.updates.0 c.remove.ensures.ordered)

pub returns-clause-connections : goal.returns-clause-connections
returns-clause-connections c =
    ap (map seen_entry) c.remove.ensures.entries
    ∙ removed c.args.conn c.self.inside.connections.entries c.self.invariant.ordered
    ∙ ap (without c.args.conn) (ap (λ (t : Table). t.connections) c.self.view_is)

pub returns-clause-promised : goal.returns-clause-promised
returns-clause-promised c =
    let left : c.retain.new.self.items ≡ others c.args.conn c.self.inside.promised.items = filter_same _ _ _
    (λ x b f' k. search rules) _ _ c.retain.ensures.filtered in
    left ∙ ap (λ (t : Table). others c.args.conn t.promised) c.self.view_is
