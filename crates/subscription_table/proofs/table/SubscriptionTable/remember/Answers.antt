use Rattle.std.proofs.Common.{refl, sym}
use Rattle.subscription_table.specs.Kept.{remembers}
use Rattle.subscription_table.proofs.Entries.{at, numbered_written, unwritten, written}
use Rattle.subscription_table.proofs.table.SubscriptionTable.remember.Goals as goal
use Rattle.subscription_table.proofs.table.SubscriptionTable.remember.Goals.{in-Some, in_default}

pub invariant_of-self : goal.invariant_of-self
invariant_of-self c =
    elim c.match-get_mut.branch [
      | in-Some w ↦
          let now = w.in-Some.held.now in
          rw (w.self-inside-is, w.remember_in.ensures, (c.get_mut.follows.holds (remembers c.args.text now)).0)
          (numbered_written (at c.args.number) (remembers c.args.text now) now c.self.inside.held.entries refl c.self.invariant (sym w.in-Some.ensures.value))
      | in_default w ↦ rw (w.self-inside-is, c.get_mut.follows.holds-at-none) c.self.invariant
    ]

pub returns : goal.returns
returns c =
    elim c.match-get_mut.branch [
      | in-Some w ↦
          let now = w.in-Some.held.now in
          rw (sym c.self.view_is, w.self-inside-is, w.remember_in.ensures, (c.get_mut.follows.holds (remembers c.args.text now)).0)
          (written c.args.number c.args.text now c.self.inside.held.entries c.self.invariant c.get_mut.ensures.ordered (sym w.in-Some.ensures.value))
      | in_default w ↦
          rw (sym c.self.view_is, w.self-inside-is, c.get_mut.follows.holds-at-none)
          (unwritten c.args.number c.args.text c.self.inside.held.entries c.self.invariant (sym w.in_default.ensures.value))
    ]
