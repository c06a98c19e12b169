use Rattle.std.proofs.Common.{refl, [], arith}
use Rattle.machine.specs.State.{Skip, Skipped}
use Rattle.hub_model.specs.Steps.{counted}
use Rattle.hub_model.proofs.Conversations.{skips}
use Rattle.hub.specs.Seen.{seen}
use Rattle.hub.proofs.Sound.{sound_as}
use Rattle.hub.proofs.center.Hub.count.Goals as goal

pub invariant_of-self : goal.invariant_of-self
invariant_of-self c =
    let sound = c.self.invariant in
    let version = sound.version in
    let subscribed = sound.subscribed in
    let jobs_made = sound.jobs_made in
    sound_as c.self.inside _ (counted (seen c.self.inside)) Skip Skipped [] [] sound (skips (seen c.self.inside)) refl
    (record {
      catalog = sound.catalog;
      promised = sound.promised;
      ready = sound.ready;
      version = omega (arith, version);
      subscribed = omega (arith, subscribed);
      jobs_made = omega (arith, jobs_made);
    })
