-- What is asked for at the turns of one subscription is what it asks for at the end.
use Rattle.std.proofs.Common.{◌≡◌, inl, inr, ◌∙◌, sym, ap, refl, subst, ℕ, ◌≤◌, Bool, true, false, if◌then◌else◌, Some, None, Option, List, [], ◌∷◌, length, length-append, arith}
use Rattle.std.specs.Option.{IfSome, option_map, option_or}
use Rattle.std.proofs.lemmas.Bool.{eqb-true}
use Rattle.data_model.specs.Rows.{Database}
use Rattle.data_model.specs.declared.transaction.TxChange.{TxChange}
use Rattle.role_model.specs.declared.metadata.Metadata.{Metadata}
use Rattle.query_model.specs.Queries.{Query}
use Rattle.machine.specs.State.{State, Subscription, Member, Job, Event, Publish}
use Rattle.machine.specs.Batches.{is_subscription, subscription_at, job_at}
use Rattle.machine.specs.Publication.{publish_member, database_of}
use Rattle.machine.specs.Run.{happens, after_all}
use Rattle.run_laws.specs.Laws.{Turn, turn_of, turns_in, turns_of_job, turns_at, turns_from, is_turn_of, version_of}
use Rattle.run_laws.proofs.Among.{Among, among_append, found_among}
use Rattle.run_laws.proofs.Cases.{IsOther}
use Rattle.run_laws.proofs.Following.{Alike, Follows, member_follows, event_proceeds}
use Rattle.run_laws.proofs.Finding.{at_followed, at_proceeded}
use Rattle.run_laws.proofs.Apart.{Sound}
use Rattle.run_laws.proofs.SoundRuns.{event_sound}
use Rattle.run_laws.proofs.OwnResults.{own_at, all_grow}

-- the subscription, where there is one, asks for this
abbrev pub Asks : Query → List ℕ → Option Subscription → Type 0
Asks q id o = IfSome o (λ x. (x.query ≡ q) × (x.id ≡ id))

asks_mapped : (q : Query) (id : List ℕ) (f : Subscription → Subscription) → Alike f → (o : Option Subscription) → Asks q id o → Asks q id (option_map f o)
asks_mapped q id f a (Some x) h = (a.query x ∙ h.0, a.id x ∙ h.1)
asks_mapped q id f a None h = tt

asks_before : (q : Query) (id : List ℕ) (f : Subscription → Subscription) → Alike f → (o p : Option Subscription) → Asks q id (option_or (option_map f o) p) → Asks q id o
asks_before q id f a (Some x) p h = (sym (a.query x) ∙ h.0, sym (a.id x) ∙ h.1)
asks_before q id f a None p h = tt

asks_followed : (q : Query) (id : List ℕ) (number : ℕ) (subs after : List Subscription) → Follows subs after → Asks q id (subscription_at number subs) → Asks q id (subscription_at number after)
asks_followed q id number subs after f h = subst (Asks q id) (sym (at_followed subs after f number)) (asks_mapped q id f.change f.alike (subscription_at number subs) h)

asks_at_start : (q : Query) (id : List ℕ) (meta : Metadata) (number : ℕ) (h : List Event) (s : State) → Asks q id (subscription_at number (after_all meta s h).subscriptions) → Asks q id (subscription_at number s.subscriptions)
asks_at_start q id meta number [] s asks = asks
asks_at_start q id meta number (e ∷ h) s asks =
    let after = (happens meta s e).state in
    let p = event_proceeds meta s e in
    asks_before q id p.change p.alike (subscription_at number s.subscriptions) (subscription_at number p.more)
    (subst (Asks q id) (at_proceeded (IsOther e) s.subscriptions after.subscriptions p number) (asks_at_start q id meta number h after asks))

-- turns

turn_when : (q : Query) (id : List ℕ) (number : ℕ) (t u : Turn) (live : Bool) → (is_turn_of number u ≡ true → (u.subscription.query ≡ q) × (u.subscription.id ≡ id)) → Among t (if live then u ∷ [] else []) → is_turn_of number t ≡ true →
    (t.subscription.query ≡ q) × (t.subscription.id ≡ id)
turn_when q id number t u true h (inl e) own =
    subst (λ (x : Turn). (x.subscription.query ≡ q) × (x.subscription.id ≡ id)) (sym e) (h (ap (is_turn_of number) (sym e) ∙ own))
turn_when q id number t u true h (inr a) own = absurd a
turn_when q id number t u false h a own = absurd a

turn_asks : (q : Query) (id : List ℕ) (meta : Metadata) (db : Database) (version number k : ℕ) (s : State) (o : Option Subscription) → subscription_at k s.subscriptions ≡ o → Asks q id (subscription_at number s.subscriptions) →
    (t : Turn) → Among t (turn_of meta db version s o) → is_turn_of number t ≡ true → (t.subscription.query ≡ q) × (t.subscription.id ≡ id)
turn_asks q id meta db version number k s None at asks t a own = absurd a
turn_asks q id meta db version number k s (Some sub) at asks t a own =
    turn_when q id number t (record { version = version; subscription = sub; queued = (publish_member meta db s (Some sub)).queued }) sub.live
    (λ mine.
    let is = eqb-true sub.number k (found_among (is_subscription k) s.subscriptions sub at).1 in
    let found = ap (λ (n : ℕ). subscription_at n s.subscriptions) (sym (eqb-true sub.number number mine) ∙ is) ∙ at in
    subst (Asks q id) found asks) a own

turns_in_ask : (q : Query) (id : List ℕ) (meta : Metadata) (db : Database) (version number : ℕ) (ms : List Member) (s : State) → Asks q id (subscription_at number s.subscriptions) →
    (t : Turn) → Among t (turns_in meta db version ms s) → is_turn_of number t ≡ true → (t.subscription.query ≡ q) × (t.subscription.id ≡ id)
turns_in_ask q id meta db version number [] s asks t a own = absurd a
turns_in_ask q id meta db version number (m ∷ ms) s asks t a own =
    let sub = subscription_at m.subscription s.subscriptions in
    let after = (publish_member meta db s sub).state in
    elim (among_append t (turn_of meta db version s sub) (turns_in meta db version ms after) a) [
      | inl b ↦ turn_asks q id meta db version number m.subscription s sub refl asks t b own
      | inr b ↦ turns_in_ask q id meta db version number ms after (asks_followed q id number s.subscriptions after.subscriptions (member_follows meta db s sub) asks) t b own
    ]

job_asks : (q : Query) (id : List ℕ) (meta : Metadata) (number : ℕ) (s : State) (o : Option Job) → Asks q id (subscription_at number s.subscriptions) → (t : Turn) → Among t (turns_of_job meta s o) → is_turn_of number t ≡ true →
    (t.subscription.query ≡ q) × (t.subscription.id ≡ id)
job_asks q id meta number s (Some job) asks t a own = turns_in_ask q id meta (database_of meta s job) job.version number job.members s asks t a own
job_asks q id meta number s None asks t a own = absurd a

event_asks : (q : Query) (id : List ℕ) (meta : Metadata) (number : ℕ) (s : State) (e : Event) → Asks q id (subscription_at number s.subscriptions) → (t : Turn) → Among t (turns_at meta s e) → is_turn_of number t ≡ true →
    (t.subscription.query ≡ q) × (t.subscription.id ≡ id)
event_asks q id meta number s (Publish job) asks t a own = job_asks q id meta number s (job_at job s.jobs) asks t a own
event_asks q id meta number s _ asks t a own = absurd a

pub turns_ask : (q : Query) (id : List ℕ) (meta : Metadata) (number : ℕ) (h : List Event) (s : State) → Asks q id (subscription_at number (after_all meta s h).subscriptions) →
    (t : Turn) → Among t (turns_from meta s h) → is_turn_of number t ≡ true → (t.subscription.query ≡ q) × (t.subscription.id ≡ id)
turns_ask q id meta number [] s asks t a own = absurd a
turns_ask q id meta number (e ∷ h) s asks t a own =
    let after = (happens meta s e).state in
    elim (among_append t (turns_at meta s e) (turns_from meta after h) a) [
      | inl b ↦ event_asks q id meta number s e (asks_at_start q id meta number (e ∷ h) s asks) t b own
      | inr b ↦ turns_ask q id meta number h after asks t b own
    ]

-- no turn is of a version to come
pub turns_up_to : (meta : Metadata) (h : List Event) (s : State) → Sound s → (t : Turn) → Among t (turns_from meta s h) → t.version ≤ version_of (after_all meta s h)
turns_up_to meta [] s w t a = absurd a
turns_up_to meta (e ∷ h) s w t a =
    let after = (happens meta s e).state in
    elim (among_append t (turns_at meta s e) (turns_from meta after h) a) [
      | inl b ↦
          (let low = (own_at meta s e w t b).1 in
          let grown = all_grow meta (e ∷ h) s in
          let count = ap (λ (l : List (List TxChange)). length l) grown.1 in
          let both = length-append s.transactions grown.0 in
          omega (arith, low, count, both))
      | inr b ↦ turns_up_to meta h after (event_sound meta s e w) t b
    ]
