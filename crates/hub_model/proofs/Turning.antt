-- What is kept after a member's turn is enough for the machine's state after it.
use Rattle.std.proofs.Common.{
  ◌≡◌,
  ◌∙◌,
  inl,
  inr,
  sym,
  ap,
  refl,
  subst,
  ℕ,
  ◌==◌,
  Bool,
  true,
  false,
  ◌||◌,
  ◌&&◌,
  cond,
  if◌then◌else◌,
  Option,
  Some,
  List,
  [],
  ◌∷◌,
  map,
  None,
  nat_lt,
}
use Rattle.std.proofs.lemmas.Bool.{eqb-true, eqb-false}
use Rattle.std.proofs.lemmas.List.{length-map}
use Rattle.std.specs.List.{AllZip, list_any, filter, range_with_len}
use Rattle.std.specs.Option.{option_map}
use Rattle.scalar_val.specs.declared.val.Val.{Val}
use Rattle.data_model.specs.Rows.{Database}
use Rattle.role_model.specs.declared.metadata.Metadata.{Metadata}
use Rattle.plan_model.specs.Outcomes.{Outcome}
use Rattle.query_model.specs.declared.kind.SubKind.TheVariants.{Stream, Live, Once}
use Rattle.query_model.specs.declared.kind.SubKind.{SubKind}
use Rattle.query_model.specs.Results.{result}
use Rattle.wire_model.specs.ServerMessages.{next_text, complete_text}
use Rattle.cohort_map.specs.Keys.{with_cursor}
use Rattle.cohort_map.specs.Entries.{Entry, moved, rehomed}
use Rattle.connection_table.specs.Connected.{at}
use Rattle.subscription_table.specs.declared.held.Held.{Held}
use Rattle.subscription_table.specs.Kept.{remembers as held_remembers, with_last}
use Rattle.machine.specs.State.{State, Subscription, Effect, nothing}
use Rattle.machine.specs.Batches.{subscription_at, is_member, is_subscription}
use Rattle.machine.specs.Publication.{
  at_subscription,
  with_subscription,
  remembers,
  moves_to,
  is_new,
  publish_live,
  publish_once,
  publish_stream,
  publish_kind,
  publish_member,
}
use Rattle.machine.specs.Connections.{with_connection, queues}
use Rattle.machine.specs.declared.queued.Queued.{Queued}
use Rattle.hub_model.specs.Tellings.{Telling, queued_by}
use Rattle.hub_model.specs.Steps.{queued}
use Rattle.hub_model.specs.Kept.{
  Kept,
  is_kept,
  kept_of,
  entry_of,
  Holds,
  is_live_on,
  live_of,
  connected,
  Represents,
}
use Rattle.hub_model.proofs.Closed.{one_ended}
use Rattle.hub_model.proofs.Connections.{text_queued}
use Rattle.hub_model.proofs.Tells.{turns_one}
use Rattle.hub_model.proofs.Told.{told_by, told_with, told_to}
use Rattle.hub_model.proofs.Items.{Among, among_filter, map_same, filter_same, map_mapped, filter_mapped, found_among}
use Rattle.hub_model.proofs.JobFacts.{AreNumbered, one_of_number}

-- ---- changes of one subscription

-- what others go by stays as it is
record IsSteady (g : Subscription → Subscription) : Type 0 where
  number : (x : Subscription) → (g x).number ≡ x.number
  connection : (x : Subscription) → (g x).connection ≡ x.connection
  live : (x : Subscription) → (g x).live ≡ x.live

chosen : {A : Type 0} (field : Subscription → A) (g : Subscription → Subscription) (b : Bool) (x : Subscription) →
    field (g x) ≡ field x → field (if b then g x else x) ≡ field x
chosen field g true x h = h
chosen field g false x h = refl

at_steady : (number : ℕ) (g : Subscription → Subscription) → IsSteady g → IsSteady (at_subscription number g)
at_steady number g steady = record {
  number = λ x. chosen (λ (y : Subscription). y.number) g (x.number == number) x (steady.number x);
  connection = λ x. chosen (λ (y : Subscription). y.connection) g (x.number == number) x (steady.connection x);
  live = λ x. chosen (λ (y : Subscription). y.live) g (x.number == number) x (steady.live x);
}

numbered_map : (f : Subscription → Subscription) → ((x : Subscription) → (f x).number ≡ x.number) →
    (subs : List Subscription) → AreNumbered subs → AreNumbered (map f subs)
numbered_map f same subs numbered =
    map_mapped (λ (x : Subscription). x.number) f subs
    ∙ map_same (λ x. (f x).number) (λ x. x.number) subs (λ x a. same x)
    ∙ numbered
    ∙ ap (λ (n : ℕ). range_with_len 1 n) (sym (length-map subs f))

numbered_at : (number : ℕ) (g : Subscription → Subscription) → ((x : Subscription) → (g x).number ≡ x.number) →
    (subs : List Subscription) → AreNumbered subs → AreNumbered (map (at_subscription number g) subs)
numbered_at number g same =
    numbered_map (at_subscription number g)
    (λ x. chosen (λ (y : Subscription). y.number) g (x.number == number) x (same x))

-- other numbers find what they found
other_first : (number other : ℕ) (g : Subscription → Subscription) (x : Subscription) (o : Option Subscription)
    (b c : Bool) → (x.number == number) ≡ b → (x.number == other) ≡ c → (number == other) ≡ false →
    (g x).number ≡ x.number →
    cond ((if b then g x else x).number == other) (Some (if b then g x else x)) o ≡ cond c (Some x) o
other_first number other g x o true true e f apart same =
    absurd (eqb-false number other apart (sym (eqb-true x.number number e) ∙ eqb-true x.number other f))
other_first number other g x o true false e f apart same =
    ap (λ (b : Bool). cond b (Some (g x)) o) (ap (λ (n : ℕ). n == other) same ∙ f)
other_first number other g x o false c e f apart same = ap (λ (b : Bool). cond b (Some x) o) f

other_at : (number other : ℕ) (g : Subscription → Subscription) → ((x : Subscription) → (g x).number ≡ x.number) →
    (number == other) ≡ false → (subs : List Subscription) →
    subscription_at other (map (at_subscription number g) subs) ≡ subscription_at other subs
other_at number other g same apart [] = refl
other_at number other g same apart (x ∷ subs) =
    ap (λ (o : Option Subscription). cond ((at_subscription number g x).number == other)
    (Some (at_subscription number g x)) o) (other_at number other g same apart subs)
    ∙ other_first number other g x (subscription_at other subs) (x.number == number) (x.number == other) refl refl apart
    (same x)

-- ---- what is kept after them

zip_over : {X Y : Type 0} (R : X → Y → Type 0) (f : X → X) (g : Y → Y) (xs : List X) (ys : List Y) →
    ((x : X) → Among x xs → (y : Y) → R x y → R (f x) (g y)) → AllZip R xs ys → AllZip R (map f xs) (map g ys)
zip_over R f g [] [] h all = tt
zip_over R f g [] (y ∷ ys) h all = absurd all
zip_over R f g (x ∷ xs) [] h all = absurd all
zip_over R f g (x ∷ xs) (y ∷ ys) h all =
    (h x (inl refl) y all.0, zip_over R f g xs ys (λ z a. h z (inr a)) all.1)

zip_left : {X Y : Type 0} (R : X → Y → Type 0) (f : X → X) (xs : List X) (ys : List Y) →
    ((x : X) → Among x xs → (y : Y) → R x y → R (f x) y) → AllZip R xs ys → AllZip R (map f xs) ys
zip_left R f [] [] h all = tt
zip_left R f [] (y ∷ ys) h all = absurd all
zip_left R f (x ∷ xs) [] h all = absurd all
zip_left R f (x ∷ xs) (y ∷ ys) h all = (h x (inl refl) y all.0, zip_left R f xs ys (λ z a. h z (inr a)) all.1)

module _ (s : State) (f : Subscription → Subscription) (steady : IsSteady f) where
  abbrev after : State
  after = record s { subscriptions = map f s.subscriptions }

  kept_after : kept_of after ≡ map f (kept_of s)
  kept_after =
      filter_mapped (is_kept s.jobs) f s.subscriptions
      ∙ ap (map f) (filter_same (λ x. is_kept s.jobs (f x)) (is_kept s.jobs) s.subscriptions
      (λ x a i. steady.live x i || list_any (is_member (steady.number x i)) s.jobs))

  live_after : (conn : ℕ) → live_of (map f s.subscriptions) conn ≡ live_of s.subscriptions conn
  live_after conn =
      ap (map (λ (x : Subscription). x.number)) (filter_mapped (is_live_on conn) f s.subscriptions)
      ∙ map_mapped (λ (x : Subscription). x.number) f (filter (λ x. is_live_on conn (f x)) s.subscriptions)
      ∙ map_same (λ x. (f x).number) (λ x. x.number) (filter (λ x. is_live_on conn (f x)) s.subscriptions)
      (λ x a. steady.number x)
      ∙ ap (map (λ (x : Subscription). x.number)) (filter_same (λ x. is_live_on conn (f x)) (is_live_on conn)
      s.subscriptions (λ x a i. steady.live x i && steady.connection x i == conn))

  connections_after :
      map (connected s.subscriptions) s.connections ≡ map (connected (map f s.subscriptions)) s.connections
  connections_after =
      map_same (connected s.subscriptions) (connected (map f s.subscriptions)) s.connections
      (λ c a. ap (λ (ns : List ℕ). record { number = c.number; phase = c.phase; queue = c.queue; live = ns })
      (sym (live_after c.number)))

  represents_after : (k : Kept) (entries : List Entry) (held : List Held) → Represents k s →
      entries ≡ map (entry_of after) (map f (kept_of s)) → AllZip (Holds k.meta) (map f (kept_of s)) held →
      Represents (record k { entries = entries; held = held }) after
  represents_after k entries held r e all = record {
    version = r.version;
    tables = r.tables;
    connections = r.connections ∙ connections_after;
    entries = e ∙ ap (map (entry_of after)) (sym kept_after);
    held = subst (λ (subs : List Subscription). AllZip (Holds k.meta) subs held) (sym kept_after) all;
    jobs = r.jobs;
    subscribed = r.subscribed ∙ sym (length-map s.subscriptions f);
    jobs_made = r.jobs_made;
  }

-- a text is remembered

remembers_steady : (text : List ℕ) → IsSteady (remembers text)
remembers_steady text = record { number = λ x. refl; connection = λ x. refl; live = λ x. refl }

entry_remembers : (s : State) (text : List ℕ) (b : Bool) (x : Subscription) →
    entry_of s x ≡ entry_of s (if b then remembers text x else x)
entry_remembers s text true x = refl
entry_remembers s text false x = refl

holds_remembers : (meta : Metadata) (text : List ℕ) (b : Bool) (x : Subscription) (h : Held) → Holds meta x h →
    Holds meta (if b then remembers text x else x) (if b then held_remembers text h else h)
holds_remembers meta text true x h holds = record {
  number = holds.number;
  connection = holds.connection;
  id = holds.id;
  kind = holds.kind;
  last = refl;
  plan = holds.plan;
  initial = holds.initial;
  admitted = holds.admitted;
  cursor = holds.cursor;
}
holds_remembers meta text false x h holds = holds

pub text_remembered : (number : ℕ) (text : List ℕ) (k : Kept) (s : State) → Represents k s →
    Represents (record k { held = with_last number text k.held }) (with_subscription number (remembers text) s)
text_remembered number text k s r =
    let f = at_subscription number (remembers text) in
    represents_after s f (at_steady number (remembers text) (remembers_steady text)) k k.entries
    (with_last number text k.held) r
    (r.entries
    ∙ map_same (entry_of s) (λ x. entry_of s (at_subscription number (remembers text) x)) (kept_of s)
    (λ x a. entry_remembers s text (x.number == number) x)
    ∙ sym (map_mapped (entry_of s) f (kept_of s)))
    (zip_over (Holds k.meta) f (λ (h : Held). if h.number == number then held_remembers text h else h) (kept_of s)
    k.held (λ x a h holds. subst (λ (b : Bool). Holds k.meta (f x) (if b then held_remembers text h else h))
    (ap (λ (n : ℕ). n == number) (sym holds.number))
    (holds_remembers k.meta text (x.number == number) x h holds)) r.held)

-- a cursor moves

moves_steady : (cursor : Val) → IsSteady (moves_to cursor)
moves_steady cursor = record { number = λ x. refl; connection = λ x. refl; live = λ x. refl }

entry_moves : (s : State) (cursor : Val) (b : Bool) (x : Subscription) →
    (if b then record (entry_of s x) { binding = with_cursor cursor (entry_of s x).binding } else entry_of s x)
    ≡ entry_of s (if b then moves_to cursor x else x)
entry_moves s cursor true x = refl
entry_moves s cursor false x = refl

holds_moves : (meta : Metadata) (cursor : Val) (b : Bool) (x : Subscription) (h : Held) →
    (b ≡ true → x.query.kind ≡ Stream) → Holds meta x h → Holds meta (if b then moves_to cursor x else x) h
holds_moves meta cursor true x h stream holds = record {
  number = holds.number;
  connection = holds.connection;
  id = holds.id;
  kind = holds.kind;
  last = holds.last;
  plan = holds.plan;
  initial = holds.initial;
  admitted = holds.admitted;
  cursor = λ other. absurd (other (stream refl));
}
holds_moves meta cursor false x h stream holds = holds

pub stream_moved : (number : ℕ) (cursor : Val) (k : Kept) (s : State) → Represents k s →
    ((x : Subscription) → Among x s.subscriptions → x.number ≡ number → x.query.kind ≡ Stream) →
    Represents (record k { entries = rehomed number cursor k.entries }) (with_subscription number (moves_to cursor) s)
stream_moved number cursor k s r stream =
    let f = at_subscription number (moves_to cursor) in
    represents_after s f (at_steady number (moves_to cursor) (moves_steady cursor)) k
    (rehomed number cursor k.entries) k.held r
    (ap (rehomed number cursor) r.entries
    ∙ map_mapped (moved number cursor) (entry_of s) (kept_of s)
    ∙ map_same (λ x. moved number cursor (entry_of s x))
    (λ x. entry_of s (at_subscription number (moves_to cursor) x)) (kept_of s)
    (λ x a. entry_moves s cursor (x.number == number) x)
    ∙ sym (map_mapped (entry_of s) f (kept_of s)))
    (zip_left (Holds k.meta) f (kept_of s) k.held
    (λ x a h holds. holds_moves k.meta cursor (x.number == number) x h
    (λ e. stream x (among_filter (is_kept s.jobs) x s.subscriptions a).0 (eqb-true x.number number e)) holds) r.held)

-- ---- turns

abbrev pub turned : Option Telling → Kept → Kept
turned (Some t) k = turns_one t k
turned None k = k

abbrev pub queued_for : Option Telling → List Queued
queued_for (Some t) = queued_by t
queued_for None = []

-- what a turn of the subscription of a number comes to
pub record Turned (k : Kept) (s : State) (number : ℕ) (o : Option Telling) (e : Effect) : Type 0 where
  pub represents : Represents (turned o k) e.state
  pub queued : e.queued ≡ queued_for o
  pub closed : e.closed ≡ []
  pub others : (other : ℕ) → (number == other) ≡ false →
      subscription_at other e.state.subscriptions ≡ subscription_at other s.subscriptions
  pub numbered : AreNumbered e.state.subscriptions
  pub jobs : e.state.jobs ≡ s.jobs

module _ (k : Kept) (s : State) (number : ℕ) (r : Represents k s) (numbered : AreNumbered s.subscriptions) where
  turned_none : Turned k s number None (nothing s)
  turned_none = record {
    represents = r;
    queued = refl;
    closed = refl;
    others = λ other apart. refl;
    numbered = numbered;
    jobs = refl;
  }

  turned_if : (b : Bool) (t : Telling) (e : Effect) → (b ≡ true → Turned k s number (Some t) e) →
      Turned k s number (if b then Some t else None) (if b then e else nothing s)
  turned_if true t e h = h refl
  turned_if false t e h = turned_none

  module _ (sub : Subscription) (at : subscription_at number s.subscriptions ≡ Some sub) where
    own : sub.number ≡ number
    own = eqb-true sub.number number (found_among (is_subscription number) s.subscriptions sub at).1

    is_own : (x : Subscription) → Among x s.subscriptions → x.number ≡ sub.number → x ≡ sub
    is_own x a e =
        one_of_number s.subscriptions numbered x sub a
        (found_among (is_subscription number) s.subscriptions sub at).0 e

    -- the change of the one subscription leaves others as they are
    others_stay : (g : Subscription → Subscription) → ((x : Subscription) → (g x).number ≡ x.number) →
        (other : ℕ) → (number == other) ≡ false →
        subscription_at other (map (at_subscription sub.number g) s.subscriptions)
        ≡ subscription_at other s.subscriptions
    others_stay g same other apart =
        other_at sub.number other g same (ap (λ (n : ℕ). n == other) own ∙ apart) s.subscriptions

    turned_live : (o : Outcome) → Turned k s number (told_by Live sub o) (publish_live sub o s)
    turned_live o =
        turned_if (is_new sub.last o.text) _ _ (λ new. record {
          represents = text_remembered sub.number o.text (queued sub.connection (next_text sub.id o.text) k)
              (with_connection sub.connection (queues (next_text sub.id o.text)) s)
              (text_queued sub.connection (next_text sub.id o.text) k s r);
          queued = refl;
          closed = refl;
          others = others_stay (remembers o.text) (λ x. refl);
          numbered = numbered_at sub.number (remembers o.text) (λ x. refl) s.subscriptions numbered;
          jobs = refl;
        })

    turned_once : (o : Outcome) → Turned k s number (told_by Once sub o) (publish_once sub o s)
    turned_once o =
        let next = next_text sub.id o.text in
        let told = queued sub.connection next k in
        let then_s = with_connection sub.connection (queues next) s in
        record {
          represents = one_ended sub.connection sub.number (queued sub.connection (complete_text sub.id) told)
              (with_connection sub.connection (queues (complete_text sub.id)) then_s)
              (text_queued sub.connection (complete_text sub.id) told then_s (text_queued sub.connection next k s r))
              (λ x a e. ap (λ (y : Subscription). y.connection) (is_own x a e));
          queued = refl;
          closed = refl;
          others = others_stay (λ x. record x { live = false }) (λ x. refl);
          numbered = numbered_at sub.number (λ x. record x { live = false }) (λ x. refl) s.subscriptions numbered;
          jobs = refl;
        }

    turned_stream : (o : Outcome) → sub.query.kind ≡ Stream →
        Turned k s number (told_by Stream sub o) (publish_stream sub o s)
    turned_stream o kind =
        turned_if (nat_lt 0 o.rows) _ _ (λ some. record {
          represents = stream_moved sub.number o.last (queued sub.connection (next_text sub.id o.text) k)
              (with_connection sub.connection (queues (next_text sub.id o.text)) s)
              (text_queued sub.connection (next_text sub.id o.text) k s r)
              (λ x a e. ap (λ (y : Subscription). y.query.kind) (is_own x a e) ∙ kind);
          queued = refl;
          closed = refl;
          others = others_stay (moves_to o.last) (λ x. refl);
          numbered = numbered_at sub.number (moves_to o.last) (λ x. refl) s.subscriptions numbered;
          jobs = refl;
        })

    turned_kind : (kind : SubKind) → sub.query.kind ≡ kind → (o : Outcome) →
        Turned k s number (told_by kind sub o) (publish_kind kind sub o s)
    turned_kind Live e o = turned_live o
    turned_kind Once e o = turned_once o
    turned_kind Stream e o = turned_stream o e

    turned_by : (b : Bool) (o : Outcome) (outcome : Option Outcome) → sub.live ≡ b → outcome ≡ Some o →
        Turned k s number (if b then told_with sub outcome else None)
        (if b then publish_kind sub.query.kind sub o s else nothing s)
    turned_by true o outcome live is =
        subst (λ (outcome : Option Outcome). Turned k s number (told_with sub outcome)
        (publish_kind sub.query.kind sub o s)) (sym is) (turned_kind sub.query.kind refl o)
    turned_by false o outcome live is = turned_none

  -- a member's turn, where the outcome is its own result
  pub turned_at : (meta : Metadata) (db : Database) (outcome : Option Outcome) (o : Option Subscription) →
      subscription_at number s.subscriptions ≡ o →
      outcome ≡ option_map (λ (sub : Subscription). result meta sub.query sub.cursor db) o →
      Turned k s number (told_to o outcome) (publish_member meta db s o)
  turned_at meta db outcome (Some sub) at is =
      turned_by sub at sub.live (result meta sub.query sub.cursor db) outcome refl is
  turned_at meta db outcome None at is = turned_none
