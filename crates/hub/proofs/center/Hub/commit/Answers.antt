use Rattle.std.proofs.Common.{◌∙◌, sym, ap, arith}
use Rattle.data_model.specs.declared.catalog.Catalog.{Catalog}
use Rattle.data_model.specs.Transactions.{apply}
use Rattle.hub_model.proofs.Conversations.{commit_accepted, commit_refused}
use Rattle.hub.specs.Seen.{seen}
use Rattle.hub.proofs.Sound.{sound_after, sound_next}
use Rattle.std.proofs.Common.{refl}
use Rattle.hub.proofs.center.Hub.commit.Goals as goal

pub invariant_of-self : goal.invariant_of-self
invariant_of-self g c =
    let version = c.self.invariant.version in
    let subscribed = c.self.invariant.subscribed in
    let jobs_made = c.self.invariant.jobs_made in
    sound_after c.self.inside _ _ _ _ _ c.self.invariant
    (commit_accepted c.args.tx.now c.in-Ok.after.tables (seen c.self.inside)
    (ap (λ (catalog : Catalog). apply catalog c.self.inside.snapshot.tables c.args.tx.now)
    (sym c.catalog.ensures.value) ∙ c.in-Ok.ensures.applied))
    (record {
      catalog = c.in-Ok.ensures.catalog ∙ c.catalog.ensures.value;
      promised = c.self.invariant.promised;
      ready = c.self.invariant.ready;
      version = omega (arith, version);
      subscribed = omega (arith, subscribed);
      jobs_made = omega (arith, jobs_made);
    })

pub invariant_of-self-in-Err-Refused : goal.invariant_of-self-in-Err-Refused
invariant_of-self-in-Err-Refused g c =
    sound_next c.self.inside _ _ _ _ _ c.self.invariant (refl, refl, refl, refl, refl, refl) c.self.invariant.promised
    c.self.invariant.ready
    (commit_refused c.args.tx.now c.in-Err-Refused.fault (seen c.self.inside)
    (ap (λ (catalog : Catalog). apply catalog c.self.inside.snapshot.tables c.args.tx.now)
    (sym c.catalog.ensures.value)
    ∙ c.in-Err-Refused.ensures.refused c.in-Err-Refused.fault c.in-Err-Refused.field-0-is))

pub returns-in-Ok-clause-reply : goal.returns-in-Ok-clause-reply
returns-in-Ok-clause-reply g c =
    rw (← c.self.view_is)
    (commit_accepted c.args.tx.now c.in-Ok.after.tables (seen c.self.inside)
    (ap (λ (catalog : Catalog). apply catalog c.self.inside.snapshot.tables c.args.tx.now)
    (sym c.catalog.ensures.value) ∙ c.in-Ok.ensures.applied))

pub returns-in-Err-Refused-clause-reply : goal.returns-in-Err-Refused-clause-reply
returns-in-Err-Refused-clause-reply g c =
    rw (← c.self.view_is)
    (commit_refused c.args.tx.now c.in-Err-Refused.fault (seen c.self.inside)
    (ap (λ (catalog : Catalog). apply catalog c.self.inside.snapshot.tables c.args.tx.now)
    (sym c.catalog.ensures.value)
    ∙ c.in-Err-Refused.ensures.refused c.in-Err-Refused.fault c.in-Err-Refused.field-0-is))
