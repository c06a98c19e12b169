use Rattle.std.proofs.Common.{sym, ◌∙◌}
use Rattle.subscription_table.proofs.Entries.{found}
use Rattle.subscription_table.proofs.table.SubscriptionTable.get.Goals as goal

pub returns : goal.returns
returns c = rw (sym c.self.view_is) (c.get.ensures.value ∙ found c.args.number c.self.inside.held.entries c.self.invariant)
