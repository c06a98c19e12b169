use Rattle.std.proofs.Common.{sym}
use Rattle.subscription_table.proofs.Entries.{numbered_without, removed, at}
use Rattle.subscription_table.proofs.table.SubscriptionTable.remove.Goals as goal

pub invariant_of-self : goal.invariant_of-self
invariant_of-self c =
    rw c.remove.ensures.entries (numbered_without (at c.args.number) c.self.inside.held.entries c.self.invariant)

pub returns : goal.returns
returns c =
    rw (sym c.self.view_is, c.remove.ensures.entries) (removed c.args.number c.self.inside.held.entries c.self.invariant c.len.ensures.ordered)
