use Rattle.std.proofs.Common.{sym}
use Rattle.subscription_table.proofs.Entries.{ascends}
use Rattle.subscription_table.proofs.table.SubscriptionTable.ascend.Goals as goal

pub returns : goal.returns
returns c = rw (sym c.self.view_is) (ascends c.self.inside.held.entries c.self.invariant c.len.ensures.ordered)
