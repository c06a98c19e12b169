-- A hub after one more event.
use Rattle.std.proofs.Common.{◌≡◌, ◌∙◌, sym, ap, subst, ◌≤◌, ◌+◌, List, [], ◌∷◌, ◌++◌, arith}
use Rattle.role_model.specs.declared.metadata.Metadata.{Metadata}
use Rattle.machine.specs.declared.queued.Queued.{Queued}
use Rattle.machine.specs.State.{Event, Reply, Close}
use Rattle.hub_model.specs.Kept.{Kept}
use Rattle.hub_model.specs.Stands.{Does}
use Rattle.hub.specs.declared.center.Hub.TheInside.{Inside}
use Rattle.hub.specs.Seen.{seen, IsSound}

-- what is plain to see of a hub between two calls
pub record IsPlain (x : Inside) : Type 0 where
  pub catalog : x.snapshot.catalog ≡ x.meta.catalog
  pub promised : x.connections.promised ≡ []
  pub ready : x.cohorts.ready ≡ []
  pub version : x.version ≤ x.events
  pub subscribed : x.subscribed ≤ x.events
  pub jobs_made : x.jobs_made ≤ x.events

-- an event takes a hub to one that stands for a history again
pub sound_after : (x y : Inside) (e : Event) (reply : Reply) (queued : List Queued) (closed : List Close) → IsSound x →
    Does (seen x) (seen y) e reply queued closed → IsPlain y → IsSound y
sound_after x y e reply queued closed sound does plain = record {
  catalog = plain.catalog;
  promised = plain.promised;
  ready = plain.ready;
  version = plain.version;
  subscribed = plain.subscribed;
  jobs_made = plain.jobs_made;
  history = sound.history ++ e ∷ [];
  stands = (does.happened sound.history sound.stands).stands;
}

-- the same where what is kept afterwards is this
pub sound_as : (x y : Inside) (k : Kept) (e : Event) (reply : Reply) (queued : List Queued) (closed : List Close) →
    IsSound x → Does (seen x) k e reply queued closed → k ≡ seen y → IsPlain y → IsSound y
sound_as x y k e reply queued closed sound does is plain =
    sound_after x y e reply queued closed sound
    (subst (λ (j : Kept). Does (seen x) j e reply queued closed) is does) plain

-- an event that leaves the database and the counts of subscriptions and jobs
abbrev pub KeepsCounts : Inside → Inside → Type 0
KeepsCounts x y = (y.snapshot.catalog ≡ x.snapshot.catalog) × (y.meta ≡ x.meta) × (y.version ≡ x.version)
    × (y.subscribed ≡ x.subscribed) × (y.jobs_made ≡ x.jobs_made) × (y.events ≡ x.events + 1)

pub sound_next : (x y : Inside) (e : Event) (reply : Reply) (queued : List Queued) (closed : List Close) → IsSound x →
    KeepsCounts x y → y.connections.promised ≡ [] → y.cohorts.ready ≡ [] →
    Does (seen x) (seen y) e reply queued closed → IsSound y
sound_next x y e reply queued closed sound same promised ready does =
    let version = sound.version in
    let subscribed = sound.subscribed in
    let jobs_made = sound.jobs_made in
    sound_after x y e reply queued closed sound does (record {
      catalog = same.0 ∙ sound.catalog ∙ ap (λ (m : Metadata). m.catalog) (sym same.1);
      promised = promised;
      ready = ready;
      version = omega (arith, version, same.2, same.5);
      subscribed = omega (arith, subscribed, same.3, same.5);
      jobs_made = omega (arith, jobs_made, same.4, same.5);
    })
