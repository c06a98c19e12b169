use Rattle.std.proofs.Common.{refl}
use Rattle.hub.specs.Seen.{seen}
use Rattle.hub_model.proofs.Conversations.{skips}
use Rattle.hub.proofs.Sound.{sound_next}
use Rattle.hub.proofs.center.Hub.skip.Goals as goal

pub invariant_of-self : goal.invariant_of-self
invariant_of-self c =
    sound_next c.self.inside _ _ _ _ _ c.self.invariant (refl, refl, refl, refl, refl, refl) c.self.invariant.promised
    c.self.invariant.ready (skips (seen c.self.inside))

pub returns : goal.returns
returns c = rw (← c.self.view_is) (skips (seen c.self.inside))
