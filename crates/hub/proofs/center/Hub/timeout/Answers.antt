use Rattle.std.proofs.Common.{◌∙◌, sym, ap, refl}
use Rattle.std.specs.Option.{option_copied}
use Rattle.machine.specs.State.{Timeout}
use Rattle.hub_model.proofs.Conversations.{timeout_unknown}
use Rattle.hub.specs.Seen.{seen}
use Rattle.hub.proofs.Calls.{timeout_closes, timeout_stays, unknown_by}
use Rattle.hub.proofs.Sound.{sound_next}
use Rattle.hub.proofs.center.Hub.timeout.Goals as goal

pub close-requires-clause-event : goal.close-requires-clause-event
close-requires-clause-event c = (
  Timeout c.args.conn,
  rw (← c.self.view_is)
      (timeout_closes c.args.conn (seen c.self.inside) c.in-Some.phase.now
      (sym c.phase.ensures ∙ ap option_copied c.in-Some.is) (sym c.is_fresh.ensures ∙ c.if-is_fresh.true)),
)

pub returns-then-is_fresh : goal.returns-then-is_fresh
returns-then-is_fresh c =
    c.close.ensures.reply (Timeout c.args.conn)
    (rw (← c.self.view_is)
    (timeout_closes c.args.conn (seen c.self.inside) c.in-Some.phase.now
    (sym c.phase.ensures ∙ ap option_copied c.in-Some.is) (sym c.is_fresh.ensures ∙ c.if-is_fresh.true)))

pub invariant_of-self : goal.invariant_of-self
invariant_of-self c =
    sound_next c.self.inside _ _ _ _ _ c.self.invariant (refl, refl, refl, refl, refl, refl) c.self.invariant.promised
    c.self.invariant.ready
    (timeout_unknown c.args.conn (seen c.self.inside)
    (unknown_by c.args.conn (seen c.self.inside) (sym c.phase.ensures ∙ ap option_copied c.in_default.is)))

pub returns-in_default : goal.returns-in_default
returns-in_default c =
    rw (← c.self.view_is)
    (timeout_unknown c.args.conn (seen c.self.inside)
    (unknown_by c.args.conn (seen c.self.inside) (sym c.phase.ensures ∙ ap option_copied c.in_default.is)))

pub invariant_of-self-2 : goal.invariant_of-self-2
invariant_of-self-2 c =
    sound_next c.self.inside _ _ _ _ _ c.self.invariant (refl, refl, refl, refl, refl, refl) c.self.invariant.promised
    c.self.invariant.ready
    (timeout_stays c.args.conn (seen c.self.inside) c.in-Some.phase.now
    (sym c.phase.ensures ∙ ap option_copied c.in-Some.is) (sym c.is_fresh.ensures ∙ c.if-is_fresh.false))

pub returns : goal.returns
returns c =
    rw (← c.self.view_is, c.nothing.ensures)
    (timeout_stays c.args.conn (seen c.self.inside) c.in-Some.phase.now
    (sym c.phase.ensures ∙ ap option_copied c.in-Some.is) (sym c.is_fresh.ensures ∙ c.if-is_fresh.false))
