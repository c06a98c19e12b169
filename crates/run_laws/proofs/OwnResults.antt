-- Every turn tells the result of the subscription's own query on the snapshot of the job's version.
use Rattle.std.proofs.Common.{◌≡◌, inl, inr, ◌∙◌, sym, ap, refl, subst, ℕ, ◌≤◌, nat_lt, Bool, true, false, if◌then◌else◌, Some, None, Option, List, [], ◌∷◌, ◌++◌, append-nil, append_assoc, length, map, arith}
use Rattle.std.proofs.lemmas.List.{take-append-le}
use Rattle.data_model.specs.Rows.{Database, no_rows}
use Rattle.data_model.specs.Transactions.{snapshot, database_after}
use Rattle.data_model.specs.declared.transaction.TxChange.{TxChange}
use Rattle.data_model.specs.declared.catalog.Catalog.{Catalog}
use Rattle.role_model.specs.declared.metadata.Metadata.{Metadata}
use Rattle.query_model.specs.declared.kind.SubKind.{SubKind}
use Rattle.query_model.specs.declared.kind.SubKind.TheVariants.{Live, Once, Stream}
use Rattle.plan_model.specs.Outcomes.{Outcome}
use Rattle.query_model.specs.Results.{result}
use Rattle.wire_model.specs.ServerMessages.{next_text}
use Rattle.machine.specs.State.{State, Subscription, Member, Job, Event, Publish, Effect, nothing, opening}
use Rattle.machine.specs.Batches.{is_job, subscription_at, job_at}
use Rattle.machine.specs.Publication.{is_new, publish_kind, publish_member, database_of}
use Rattle.machine.specs.Run.{happens, after_all, run}
use Rattle.run_laws.proofs.Cases.{told_live, told_rows}
use Rattle.run_laws.specs.Laws.{Turn, turn_of, turns_in, turns_of_job, turns_at, turns_from, turns, said, to_connection, IsOwnResult, TellsOwnResults, version_of}
use Rattle.run_laws.proofs.Among.{Among, among_append, found_among, all_from_among}
use Rattle.run_laws.proofs.Apart.{Sound}
use Rattle.run_laws.proofs.SoundRuns.{event_sound, run_sound}
use Rattle.run_laws.proofs.Order.{event_on, turns_are}

if_said : (connection : ℕ) (b : Bool) (e f : Effect) (ts : List (List ℕ)) → e.queued ≡ map (to_connection connection) ts → f.queued ≡ [] → (if b then e else f).queued ≡ map (to_connection connection) (if b then ts else [])
if_said connection true e f ts h i = h
if_said connection false e f ts h i = i

kind_said : (k : SubKind) (sub : Subscription) (r : Outcome) (s : State) → (publish_kind k sub r s).queued ≡ map (to_connection sub.connection) (said k sub r)
kind_said Live sub r s =
    if_said sub.connection (is_new sub.last r.text) (told_live sub r s) (nothing s) (next_text sub.id r.text ∷ []) refl refl
kind_said Once sub r s = refl
kind_said Stream sub r s =
    if_said sub.connection (nat_lt 0 r.rows) (told_rows sub r s) (nothing s) (next_text sub.id r.text ∷ []) refl refl

-- a turn over the databases of all versions
abbrev IsOwn : Metadata → (ℕ → Database) → Turn → Type 0
IsOwn meta at t =
    t.queued ≡ map (to_connection t.subscription.connection) (said t.subscription.query.kind t.subscription (result meta t.subscription.query t.subscription.cursor (at t.version)))

own_when : (meta : Metadata) (at : ℕ → Database) (version : ℕ) (s : State) (sub : Subscription) (live : Bool) (t : Turn) →
    Among t (if live then record { version = version; subscription = sub; queued = (if live then publish_kind sub.query.kind sub (result meta sub.query sub.cursor (at version)) s else nothing s).queued } ∷ [] else []) →
    IsOwn meta at t
own_when meta at version s sub true t (inl e) =
    subst (λ (u : Turn). IsOwn meta at u) (sym e) (kind_said sub.query.kind sub (result meta sub.query sub.cursor (at version)) s)
own_when meta at version s sub true t (inr a) = absurd a
own_when meta at version s sub false t a = absurd a

own_turn : (meta : Metadata) (at : ℕ → Database) (version : ℕ) (s : State) (o : Option Subscription) (t : Turn) → Among t (turn_of meta (at version) version s o) → IsOwn meta at t
own_turn meta at version s (Some sub) t a = own_when meta at version s sub sub.live t a
own_turn meta at version s None t a = absurd a

own_turns : (meta : Metadata) (at : ℕ → Database) (version : ℕ) (ms : List Member) (s : State) (t : Turn) → Among t (turns_in meta (at version) version ms s) → IsOwn meta at t
own_turns meta at version [] s t a = absurd a
own_turns meta at version (m ∷ ms) s t a =
    let sub = subscription_at m.subscription s.subscriptions in
    let after = (publish_member meta (at version) s sub).state in
    elim (among_append t (turn_of meta (at version) version s sub) (turns_in meta (at version) version ms after) a) [
      | inl b ↦ own_turn meta at version s sub t b
      | inr b ↦ own_turns meta at version ms after t b
    ]

-- a turn at an event: its own result by the transactions then, of which there are as many as its version or more
abbrev pub IsOwnNow : Metadata → State → Turn → Type 0
IsOwnNow meta s t = IsOwnResult meta s t × (t.version ≤ version_of s)

own_job : (meta : Metadata) (number : ℕ) (s : State) (o : Option Job) → Sound s → job_at number s.jobs ≡ o → (t : Turn) → Among t (turns_of_job meta s o) → IsOwnNow meta s t
own_job meta number s (Some job) w at t a =
    let is = turns_are meta (database_of meta s job) job job.members s (λ m b. b) t a in
    let version = is.0 in
    let low = w.versions job (found_among (is_job number) s.jobs job at).0 in
    (own_turns meta (snapshot meta.catalog s.transactions) job.version job.members s t a, omega (arith, version, low))
own_job meta number s None w at t a = absurd a

pub own_at : (meta : Metadata) (s : State) (e : Event) → Sound s → (t : Turn) → Among t (turns_at meta s e) → IsOwnNow meta s t
own_at meta s (Publish job) w t a = own_job meta job s (job_at job s.jobs) w refl t a
own_at meta s _ w t a = absurd a

-- later transactions leave earlier snapshots
pub snapshot_later : (catalog : Catalog) (txs more : List (List TxChange)) (version : ℕ) → version ≤ length txs → snapshot catalog (txs ++ more) version ≡ snapshot catalog txs version
snapshot_later catalog txs more version h = ap (λ (l : List (List TxChange)). database_after catalog l (no_rows catalog)) (take-append-le version txs more h)

own_later : (meta : Metadata) (s u : State) (more : List (List TxChange)) → u.transactions ≡ s.transactions ++ more → (t : Turn) → IsOwnNow meta s t → IsOwnResult meta u t
own_later meta s u more grows t own =
    own.0
    ∙ ap (λ (db : Database). map (to_connection t.subscription.connection) (said t.subscription.query.kind t.subscription (result meta t.subscription.query t.subscription.cursor db)))
    (sym (snapshot_later meta.catalog s.transactions more t.version own.1) ∙ ap (λ (txs : List (List TxChange)). snapshot meta.catalog txs t.version) (sym grows))

-- the transactions of a run begin with those before
pub all_grow : (meta : Metadata) (h : List Event) (s : State) → (more : List (List TxChange)) × ((after_all meta s h).transactions ≡ s.transactions ++ more)
all_grow meta [] s = ([], sym (append-nil s.transactions))
all_grow meta (e ∷ h) s =
    let g = event_on meta s e in
    let rest = all_grow meta h (happens meta s e).state in
    (g.more ++ rest.0, rest.1 ∙ ap (λ (l : List (List TxChange)). l ++ rest.0) g.grows ∙ append_assoc s.transactions g.more rest.0)

pub own_from : (meta : Metadata) (h : List Event) (s : State) → Sound s → (t : Turn) → Among t (turns_from meta s h) → IsOwnResult meta (after_all meta s h) t
own_from meta [] s w t a = absurd a
own_from meta (e ∷ h) s w t a =
    let after = (happens meta s e).state in
    let grown = all_grow meta (e ∷ h) s in
    elim (among_append t (turns_at meta s e) (turns_from meta after h) a) [
      | inl b ↦ own_later meta s (after_all meta s (e ∷ h)) grown.0 grown.1 t (own_at meta s e w t b)
      | inr b ↦ own_from meta h after (event_sound meta s e w) t b
    ]

pub tells_own_results : (meta : Metadata) → TellsOwnResults meta
tells_own_results meta h = all_from_among (IsOwnResult meta (run meta h)) (turns meta h) (λ t a. own_from meta h opening (run_sound meta []) t a)
