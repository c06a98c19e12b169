-- No two tellings of a job are of one subscription, since no two of its members are.
use Rattle.std.proofs.Common.{
  ◌≡◌,
  sym,
  refl,
  subst,
  ℕ,
  ◌-◌,
  ◌==◌,
  nat_lt,
  Bool,
  true,
  false,
  cond,
  if◌then◌else◌,
  Option,
  Some,
  None,
  List,
  [],
  ◌∷◌,
  slice_get,
}
use Rattle.std.proofs.lemmas.Bool.{eqb-true}
use Rattle.std.specs.Bool.{⊤}
use Rattle.std.specs.Option.{IfSome}
use Rattle.std.specs.List.{AllByRecursion, filter_map, cons_option}
use Rattle.plan_model.specs.Outcomes.{Outcome}
use Rattle.query_model.specs.declared.kind.SubKind.{SubKind}
use Rattle.query_model.specs.declared.kind.SubKind.TheVariants.{Live, Once, Stream}
use Rattle.cohort_map.specs.declared.member.Member.{Member}
use Rattle.cohort_map.specs.Entries.{has_live}
use Rattle.stream_cursor.specs.declared.moves.Move.{Move}
use Rattle.stream_cursor.specs.Moves.{names, AreApart}
use Rattle.subscription_table.specs.declared.held.Held.{Held}
use Rattle.subscription_table.specs.Kept.{held_at}
use Rattle.machine.specs.Publication.{is_new}
use Rattle.hub_model.specs.Kept.{Kept}
use Rattle.hub_model.specs.Tellings.{
  Change,
  Remembers,
  Ends,
  Moves,
  Telling,
  telling_by,
  telling_with,
  telling_of,
  tellings,
  moved_by,
  move_of,
}

-- no two items have one number
abbrev pub Apart : {X : Type 0} → (X → ℕ) → List X → Type 0
Apart number [] = ⊤
Apart number (x ∷ xs) = AllByRecursion (λ y. (number x == number y) ≡ false) xs × Apart number xs

-- ---- a telling is of its member's subscription

abbrev pub IsOf : ℕ → Option Telling → Type 0
IsOf number o = IfSome o (λ t. t.sub ≡ number)

of_branch : (number : ℕ) (b : Bool) (o : Option Telling) → IsOf number o → IsOf number (if b then o else None)
of_branch number true o h = h
of_branch number false o h = tt

of_kind : (number : ℕ) (kind : SubKind) (h : Held) (o : Outcome) → h.number ≡ number →
    IsOf number (telling_by kind h o)
of_kind number Live h o e = of_branch number (is_new h.last o.text) (Some _) e
of_kind number Once h o e = e
of_kind number Stream h o e = of_branch number (nat_lt 0 o.rows) (Some _) e

found_number : (number : ℕ) (h : Held) (b : Bool) (o : Option Held) → (h.number == number) ≡ b →
    IfSome o (λ (h : Held). h.number ≡ number) → IfSome (cond b (Some h) o) (λ (h : Held). h.number ≡ number)
found_number number h true o is rest = eqb-true h.number number is
found_number number h false o is rest = rest

pub held_number : (number : ℕ) (held : List Held) → IfSome (held_at number held) (λ (h : Held). h.number ≡ number)
held_number number [] = tt
held_number number (h ∷ held) =
    found_number number h (h.number == number) (held_at number held) refl (held_number number held)

of_held : (number : ℕ) (h : Option Held) (o : Option Outcome) → IfSome h (λ (h : Held). h.number ≡ number) →
    IsOf number (telling_with h o)
of_held number (Some h) (Some o) e = of_kind number h.kind h o e
of_held number (Some h) None e = tt
of_held number None o e = tt

pub telling_is_of : (k : Kept) (outcomes : List Outcome) (m : Member) → IsOf m.sub (telling_of k outcomes m)
telling_is_of k outcomes m =
    of_branch m.sub (has_live m.sub k.entries) (telling_with (held_at m.sub k.held) (slice_get outcomes (m.id - 1)))
    (of_held m.sub (held_at m.sub k.held) (slice_get outcomes (m.id - 1)) (held_number m.sub k.held))

-- ---- tellings are apart

all_cons : (P : ℕ → Type 0) (number : ℕ) (o : Option Telling) (ts : List Telling) → IsOf number o → P number →
    AllByRecursion (λ t. P t.sub) ts → AllByRecursion (λ t. P t.sub) (cons_option o ts)
all_cons P number (Some t) ts e p all = (subst P (sym e) p, all)
all_cons P number None ts e p all = all

pub all_told : (P : ℕ → Type 0) (k : Kept) (outcomes : List Outcome) (ms : List Member) →
    AllByRecursion (λ m. P m.sub) ms → AllByRecursion (λ t. P t.sub) (tellings k outcomes ms)
all_told P k outcomes [] all = tt
all_told P k outcomes (m ∷ ms) all =
    all_cons P m.sub (telling_of k outcomes m) (tellings k outcomes ms) (telling_is_of k outcomes m) all.0
    (all_told P k outcomes ms all.1)

apart_cons : (number : ℕ) (o : Option Telling) (ts : List Telling) → IsOf number o →
    AllByRecursion (λ t. (number == t.sub) ≡ false) ts → Apart (λ t. t.sub) ts → Apart (λ t. t.sub) (cons_option o ts)
apart_cons number (Some t) ts e all apart =
    (subst (λ (n : ℕ). AllByRecursion (λ u. (n == u.sub) ≡ false) ts) (sym e) all, apart)
apart_cons number None ts e all apart = apart

-- no two tellings are of one subscription
pub tellings_apart : (k : Kept) (outcomes : List Outcome) (ms : List Member) → Apart (λ m. m.sub) ms →
    Apart (λ t. t.sub) (tellings k outcomes ms)
tellings_apart k outcomes [] apart = tt
tellings_apart k outcomes (m ∷ ms) apart =
    apart_cons m.sub (telling_of k outcomes m) (tellings k outcomes ms) (telling_is_of k outcomes m)
    (all_told (λ n. (m.sub == n) ≡ false) k outcomes ms apart.0) (tellings_apart k outcomes ms apart.1)

-- ---- and so are moves

all_moved : (P : ℕ → Type 0) (sub : ℕ) (c : Change) (ms : List Move) → P sub → AllByRecursion (λ m. P m.sub) ms →
    AllByRecursion (λ m. P m.sub) (cons_option (moved_by sub c) ms)
all_moved P sub (Remembers text) ms p all = all
all_moved P sub Ends ms p all = all
all_moved P sub (Moves cursor) ms p all = (p, all)

all_moves : (P : ℕ → Type 0) (ts : List Telling) → AllByRecursion (λ t. P t.sub) ts →
    AllByRecursion (λ m. P m.sub) (filter_map move_of ts)
all_moves P [] all = tt
all_moves P (t ∷ ts) all = all_moved P t.sub t.change (filter_map move_of ts) all.0 (all_moves P ts all.1)

apart_moved : (sub : ℕ) (c : Change) (ms : List Move) → AllByRecursion (λ m. names sub m ≡ false) ms → AreApart ms →
    AreApart (cons_option (moved_by sub c) ms)
apart_moved sub (Remembers text) ms all apart = apart
apart_moved sub Ends ms all apart = apart
apart_moved sub (Moves cursor) ms all apart = (all, apart)

-- no two moves are of one subscription
pub moves_apart : (ts : List Telling) → Apart (λ t. t.sub) ts → AreApart (filter_map move_of ts)
moves_apart [] apart = tt
moves_apart (t ∷ ts) apart =
    apart_moved t.sub t.change (filter_map move_of ts) (all_moves (λ n. (t.sub == n) ≡ false) ts apart.0)
    (moves_apart ts apart.1)
