-- What a member is told of an outcome is what its subscription of the machine is told.
use Rattle.std.proofs.Common.{
  ◌≡◌,
  ◌∙◌,
  sym,
  ap,
  refl,
  subst,
  ℕ,
  ◌-◌,
  nat_lt,
  ◌==◌,
  Bool,
  true,
  false,
  ◌&&◌,
  cond,
  if◌then◌else◌,
  Option,
  Some,
  None,
  List,
  [],
  ◌∷◌,
  slice_get,
}
use Rattle.std.proofs.lemmas.Bool.{eqb-true}
use Rattle.std.specs.List.{AllZip, list_any, filter}
use Rattle.role_model.specs.declared.metadata.Metadata.{Metadata}
use Rattle.plan_model.specs.Outcomes.{Outcome}
use Rattle.query_model.specs.declared.kind.SubKind.{SubKind}
use Rattle.query_model.specs.declared.kind.SubKind.TheVariants.{Live, Once, Stream}
use Rattle.wire_model.specs.ServerMessages.{next_text, complete_text}
use Rattle.cohort_map.specs.declared.member.Member.{Member}
use Rattle.cohort_map.specs.Entries.{Entry, is_live_entry, has_live}
use Rattle.subscription_table.specs.declared.held.Held.{Held}
use Rattle.subscription_table.specs.Kept.{held_at}
use Rattle.machine.specs.State.{State, Subscription}
use Rattle.machine.specs.Batches.{is_subscription, subscription_at, is_member}
use Rattle.machine.specs.Publication.{is_new}
use Rattle.hub_model.specs.Kept.{Kept, is_kept, kept_of, entry_of, Holds, Represents}
use Rattle.hub_model.specs.Tellings.{
  Change,
  Remembers,
  Ends,
  Moves,
  Telling,
  telling_by,
  telling_with,
  telling_of,
}
use Rattle.hub_model.proofs.Items.{
  Among,
  among_filter,
  filter_among,
  or_true_left,
  and_true,
  and_both,
  not_both,
  among_any,
  not_any,
  any_mapped,
  found_among,
  found_none,
}
use Rattle.hub_model.proofs.JobFacts.{AreNumbered, one_of_number}

-- the subscription of a number is the only one
pub is_found : (number : ℕ) (subs : List Subscription) (sub x : Subscription) → AreNumbered subs →
    subscription_at number subs ≡ Some sub → Among x subs → (x.number == number) ≡ true → x ≡ sub
is_found number subs sub x numbered at a e =
    let found = found_among (is_subscription number) subs sub at in
    one_of_number subs numbered x sub a found.0
    (eqb-true x.number number e ∙ sym (eqb-true sub.number number found.1))

-- ---- who is live

abbrev pub is_live_at : Option Subscription → Bool
is_live_at (Some sub) = sub.live
is_live_at None = false

abbrev is_live_as : ℕ → Subscription → Bool
is_live_as number sub = sub.number == number && sub.live

any_live : (s : State) (number : ℕ) → AreNumbered s.subscriptions → (o : Option Subscription) →
    subscription_at number s.subscriptions ≡ o → (b : Bool) → is_live_at o ≡ b →
    list_any (is_live_as number) (kept_of s) ≡ b
any_live s number numbered (Some sub) at true live =
    let found = found_among (is_subscription number) s.subscriptions sub at in
    let kept = filter_among (is_kept s.jobs) sub s.subscriptions found.0
    (or_true_left sub.live (list_any (is_member sub.number) s.jobs) live) in
    among_any (is_live_as number) sub (kept_of s) kept (and_both (sub.number == number) sub.live found.1 live)
any_live s number numbered (Some sub) at false live =
    not_any (is_live_as number) (kept_of s)
    (λ x a e.
    let both = and_true (x.number == number) x.live e in
    let among = (among_filter (is_kept s.jobs) x s.subscriptions a).0 in
    let same = is_found number s.subscriptions sub x numbered at among both.0 in
    not_both x.live both.1 (ap (λ (sub : Subscription). sub.live) same ∙ live))
any_live s number numbered None at true live = absurd (cc)
any_live s number numbered None at false live =
    not_any (is_live_as number) (kept_of s)
    (λ x a e.
    not_both (x.number == number) (and_true (x.number == number) x.live e).0
    (found_none (is_subscription number) s.subscriptions at x
    (among_filter (is_kept s.jobs) x s.subscriptions a).0))

pub has_live_is : (k : Kept) (s : State) (number : ℕ) → Represents k s → AreNumbered s.subscriptions →
    has_live number k.entries ≡ is_live_at (subscription_at number s.subscriptions)
has_live_is k s number r numbered =
    ap (λ (entries : List Entry). has_live number entries) r.entries
    ∙ any_mapped (is_live_entry number) (entry_of s) (kept_of s)
    ∙ any_live s number numbered (subscription_at number s.subscriptions) refl _ refl

-- ---- what is held

-- what is held for a subscription
pub record HeldFor (meta : Metadata) (number : ℕ) (sub : Subscription) (o : Option Held) : Type 0 where
  pub held : Held
  pub is : o ≡ Some held
  pub holds : Holds meta sub held

-- the first of its number
zip_found : (meta : Metadata) (number : ℕ) (sub x : Subscription) (h : Held) (o : Option Subscription) (p : Option Held)
    (b : Bool) → (x.number == number) ≡ b → Holds meta x h → cond b (Some x) o ≡ Some sub →
    (o ≡ Some sub → HeldFor meta number sub p) → HeldFor meta number sub (cond (h.number == number) (Some h) p)
zip_found meta number sub x h o p true e holds at rest = record {
  held = h;
  is = rw (holds.number, e) refl;
  holds = subst (λ (x : Subscription). Holds meta x h) (cc) holds;
}
zip_found meta number sub x h o p false e holds at rest = rw (holds.number, e) (rest at)

held_by : (meta : Metadata) (number : ℕ) (sub : Subscription) (subs : List Subscription) (held : List Held) →
    AllZip (Holds meta) subs held → subscription_at number subs ≡ Some sub →
    HeldFor meta number sub (held_at number held)
held_by meta number sub [] [] all at = absurd (cc)
held_by meta number sub [] (h ∷ held) all at = absurd all
held_by meta number sub (x ∷ subs) [] all at = absurd all
held_by meta number sub (x ∷ subs) (h ∷ held) all at =
    zip_found meta number sub x h (subscription_at number subs) (held_at number held) (x.number == number) refl all.0 at
    (λ later. held_by meta number sub subs held all.1 later)

-- a subscription that is kept is found among those that are kept
found_kept : (number : ℕ) (kept : Subscription → Bool) (sub x : Subscription) (o p : Option Subscription) (b c : Bool) →
    (x.number == number) ≡ b → kept x ≡ c → kept sub ≡ true → cond b (Some x) o ≡ Some sub →
    (o ≡ Some sub → p ≡ Some sub) → (xs : List Subscription) → p ≡ subscription_at number xs →
    subscription_at number (cond c (x ∷ xs) xs) ≡ Some sub
found_kept number kept sub x o p true true e f h at rest xs is = rw e at
found_kept number kept sub x o p true false e f h at rest xs is =
    let same : x ≡ sub = cc in absurd (not_both (kept sub) h (sym (ap kept same) ∙ f))
found_kept number kept sub x o p false true e f h at rest xs is = rw e (sym is ∙ rest at)
found_kept number kept sub x o p false false e f h at rest xs is = sym is ∙ rest at

at_kept : (number : ℕ) (kept : Subscription → Bool) (sub : Subscription) (subs : List Subscription) →
    kept sub ≡ true → subscription_at number subs ≡ Some sub → subscription_at number (filter kept subs) ≡ Some sub
at_kept number kept sub [] h at = absurd (cc)
at_kept number kept sub (x ∷ subs) h at =
    found_kept number kept sub x (subscription_at number subs) (subscription_at number (filter kept subs))
    (x.number == number) (kept x) refl refl h at (λ later. at_kept number kept sub subs h later) (filter kept subs) refl

pub held_for : (k : Kept) (s : State) (number : ℕ) (sub : Subscription) → Represents k s →
    subscription_at number s.subscriptions ≡ Some sub → sub.live ≡ true →
    HeldFor k.meta number sub (held_at number k.held)
held_for k s number sub r at live =
    held_by k.meta number sub (kept_of s) k.held r.held (at_kept number (is_kept s.jobs) sub s.subscriptions
    (or_true_left sub.live (list_any (is_member sub.number) s.jobs) live) at)

-- ---- what is told

-- what is held of a subscription, as it is told
abbrev as_held : Subscription → Held → Held
as_held sub h =
    record h { number = sub.number; connection = sub.connection; id = sub.id; last = sub.last }

abbrev pub telling_to : Subscription → List (List ℕ) → Change → Telling
telling_to sub texts change = record { sub = sub.number; conn = sub.connection; texts = texts; change = change }

-- what the machine tells a live subscription
abbrev pub told_by : SubKind → Subscription → Outcome → Option Telling
told_by Live sub o =
    if is_new sub.last o.text then Some (telling_to sub (next_text sub.id o.text ∷ []) (Remembers o.text)) else None
told_by Once sub o = Some (telling_to sub (next_text sub.id o.text ∷ complete_text sub.id ∷ []) Ends)
told_by Stream sub o =
    if nat_lt 0 o.rows then Some (telling_to sub (next_text sub.id o.text ∷ []) (Moves o.last)) else None

abbrev pub told_with : Subscription → Option Outcome → Option Telling
told_with sub (Some o) = told_by sub.query.kind sub o
told_with sub None = None

abbrev pub told_to : Option Subscription → Option Outcome → Option Telling
told_to (Some sub) o = if sub.live then told_with sub o else None
told_to None o = None

by_held : (kind : SubKind) (sub : Subscription) (h : Held) (o : Outcome) →
    telling_by kind (as_held sub h) o ≡ told_by kind sub o
by_held Live sub h o = refl
by_held Once sub h o = refl
by_held Stream sub h o = refl

with_held : (meta : Metadata) (sub : Subscription) (h : Held) (o : Option Outcome) → Holds meta sub h →
    telling_with (Some h) o ≡ told_with sub o
with_held meta sub h (Some o) holds =
    (λ i. telling_by (holds.kind i) (record h {
      number = holds.number i;
      connection = holds.connection i;
      id = holds.id i;
      last = holds.last i;
    }) o)
    ∙ by_held sub.query.kind sub h o
with_held meta sub h None holds = refl

told_at : (k : Kept) (s : State) (number : ℕ) (outcome : Option Outcome) → Represents k s →
    (o : Option Subscription) → subscription_at number s.subscriptions ≡ o → (b : Bool) → is_live_at o ≡ b →
    (if b then telling_with (held_at number k.held) outcome else None) ≡ told_to o outcome
told_at k s number outcome r (Some sub) at true live =
    let held = held_for k s number sub r at live in
    ap (λ (h : Option Held). telling_with h outcome) held.is
    ∙ with_held k.meta sub held.held outcome held.holds
    ∙ ap (λ (b : Bool). if b then told_with sub outcome else None) (sym live)
told_at k s number outcome r (Some sub) at false live =
    ap (λ (b : Bool). if b then told_with sub outcome else None) (sym live)
told_at k s number outcome r None at true live = absurd (cc)
told_at k s number outcome r None at false live = refl

-- A member's telling is that of its subscription.
pub telling_is : (k : Kept) (s : State) (outcomes : List Outcome) (m : Member) → Represents k s →
    AreNumbered s.subscriptions →
    telling_of k outcomes m ≡ told_to (subscription_at m.sub s.subscriptions) (slice_get outcomes (m.id - 1))
telling_is k s outcomes m r numbered =
    let outcome = slice_get outcomes (m.id - 1) in
    ap (λ (b : Bool). if b then telling_with (held_at m.sub k.held) outcome else None)
    (has_live_is k s m.sub r numbered)
    ∙ told_at k s m.sub outcome r (subscription_at m.sub s.subscriptions) refl _ refl
