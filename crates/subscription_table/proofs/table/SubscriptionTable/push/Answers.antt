use Rattle.std.proofs.Common.{subst, sym, List, All, ◌<◌}
use Rattle.subscription_table.specs.declared.held.Held.{Held}
use Rattle.subscription_table.proofs.Entries.{inserted, numbered_more, values_more}
use Rattle.subscription_table.proofs.table.SubscriptionTable.push.Goals as goal

pub invariant_of-self-2 : goal.invariant_of-self-2
invariant_of-self-2 c =
    let below = subst (λ (hs : List Held). All (λ (g : Held). g.number < c.args.held.number) hs) (sym c.self.view_is) c.requires in
    rw (c.in_ok-_none.ensures.entries, inserted c.self.inside.held.entries c.args.held c.self.invariant below)
    (numbered_more c.self.inside.held.entries c.args.held c.self.invariant)

pub returns-clause-ok : goal.returns-clause-ok
returns-clause-ok c =
    let below = subst (λ (hs : List Held). All (λ (g : Held). g.number < c.args.held.number) hs) (sym c.self.view_is) c.requires in
    rw (sym c.self.view_is, c.in_ok-_none.ensures.entries, inserted c.self.inside.held.entries c.args.held c.self.invariant below)
    (values_more c.self.inside.held.entries c.args.held.number c.args.held)
