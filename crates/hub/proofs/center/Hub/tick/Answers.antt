use Rattle.std.proofs.Common.{◌∙◌, refl}
use Rattle.hub.specs.Seen.{seen}
use Rattle.hub.proofs.Calls.{ticks_by}
use Rattle.hub.proofs.Sound.{sound_next}
use Rattle.hub.proofs.center.Hub.tick.Goals as goal

pub invariant_of-self : goal.invariant_of-self
invariant_of-self c =
    sound_next c.self.inside _ _ _ _ _ c.self.invariant (refl, refl, refl, refl, refl, refl) c.self.invariant.promised
    (c.tick.ensures.ready ∙ c.self.invariant.ready)
    (ticks_by (seen c.self.inside) c.tick.result c.tick.new.self.entries c.tick.ensures.entries c.tick.ensures.answer)

pub returns-clause-does : goal.returns-clause-does
returns-clause-does c =
    rw (← c.self.view_is)
    (ticks_by (seen c.self.inside) c.tick.result c.tick.new.self.entries c.tick.ensures.entries c.tick.ensures.answer)
