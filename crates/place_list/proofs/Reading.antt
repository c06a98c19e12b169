-- What is read at an ascending list of places that has all places of interest.
use Rattle.std.proofs.Common.{if◌then◌else◌, ◌≡◌, ◌∙◌, ℕ, ◌<◌, ◌≤◌, ◌+◌, ◌-◌, zero, suc, Bool, true, false, ◌||◌, Option, Some, None, is_some, List, [], ◌∷◌, get_or, refl, sym, ap, subst, arith, inl, inr}
use Rattle.std.specs.List.{AllByRecursion, Contains, filter, filter_map, cons_option, list_any, slice_get}
use Rattle.std.proofs.lemmas.Bool.{cases_lt}
use Rattle.place_list.specs.Places.{Ascends, Covers, read_at}
use Rattle.place_list.proofs.Ascending.{above_at}

-- the items from a place on, at places counted from 0
abbrev pub read_from : {X : Type 0} → ℕ → List X → List ℕ → List X
read_from from xs ps = filter_map (λ p. slice_get xs (p - from)) ps

absent : (ps : List ℕ) (n : ℕ) → AllByRecursion (λ q. n < q) ps → Contains ps n → ⊥
absent ps n above (k, within, is) =
    let less : n < get_or ps k n = above_at n ps k n above within in
    absurd (omega arith)

in_rest : (p : ℕ) (ps : List ℕ) (q : ℕ) → p < q → Contains (p ∷ ps) q → Contains ps q
in_rest p ps q less (zero, within, is) = absurd (omega arith)
in_rest p ps q less (suc k, within, is) = (k, omega arith, is)

wider : (m n : ℕ) (ps : List ℕ) → m ≤ n → AllByRecursion (λ q. n < q) ps → AllByRecursion (λ q. m < q) ps
wider m n [] order above = tt
wider m n (p ∷ ps) order above = let less = above.0 in (omega arith, wider m n ps order above.1)

nothing : {X : Type 0} (from : ℕ) (ps : List ℕ) → read_from {X = X} from [] ps ≡ []
nothing from [] = refl
nothing from (p ∷ ps) = nothing from ps

later : {X : Type 0} (x : X) (xs : List X) (from : ℕ) (ps : List ℕ) → AllByRecursion (λ q. from < q) ps
    → read_from from (x ∷ xs) ps ≡ read_from (suc from) xs ps
later x xs from [] above = refl
later x xs from (p ∷ ps) above =
    let less = above.0 in
    let here : p - from ≡ suc (p - suc from) = omega arith in
    ap (λ (n : ℕ). cons_option (slice_get (x ∷ xs) n) (read_from from (x ∷ xs) ps)) here
    ∙ ap (cons_option (slice_get xs (p - suc from))) (later x xs from ps above.1)

none_is : {Y : Type 0} (o : Option Y) → (is_some o ≡ true → ⊥) → o ≡ None
none_is None never = refl
none_is (Some y) never = absurd (never refl)

abbrev pub CoversFrom : {X Y : Type 0} → (X → Option Y) → ℕ → List X → List ℕ → Type 0
CoversFrom {X} f from xs ps = (i : ℕ) (x : X) → slice_get xs i ≡ Some x → is_some (f x) ≡ true → Contains ps (from + i)

covers_later : {X Y : Type 0} (f : X → Option Y) (from : ℕ) (x : X) (xs : List X) (ps : List ℕ)
    → CoversFrom f from (x ∷ xs) ps → CoversFrom f (suc from) xs ps
covers_later f from x xs ps covers i y is some =
    let same : from + suc i ≡ suc from + i = omega arith in
    subst (λ (n : ℕ). Contains ps n) same (covers (suc i) y is some)

covers_rest : {X Y : Type 0} (f : X → Option Y) (from p : ℕ) (xs : List X) (ps : List ℕ) → p < from
    → CoversFrom f from xs (p ∷ ps) → CoversFrom f from xs ps
covers_rest f from p xs ps less covers i y is some = in_rest p ps (from + i) (omega arith) (covers i y is some)

not_below : (m p : ℕ) (ps : List ℕ) → m ≤ suc p → AllByRecursion (λ q. p < q) ps → AllByRecursion (λ q. m ≤ q) ps
not_below m p [] order above = tt
not_below m p (q ∷ ps) order above = let less = above.0 in (omega arith, not_below m p ps order above.1)

-- the first item is of no interest
skipped : {X Y : Type 0} (f : X → Option Y) (x : X) (xs : List X) (from : ℕ) (ps : List ℕ)
    → AllByRecursion (λ q. from < q) ps → CoversFrom f from (x ∷ xs) ps
    → filter_map f (read_from (suc from) xs ps) ≡ filter_map f xs
    → filter_map f (read_from from (x ∷ xs) ps) ≡ filter_map f (x ∷ xs)
skipped f x xs from ps above covers rest =
    let same : from + 0 ≡ from = omega arith in
    let none : f x ≡ None = none_is (f x) (λ some. absent ps from above
    (subst (λ (n : ℕ). Contains ps n) same (covers 0 x refl some))) in
    ap (filter_map f) (later x xs from ps above) ∙ rest ∙ ap (λ (o : Option _). cons_option o (filter_map f xs)) (sym none)

-- the first item is read
taken : {X Y : Type 0} (f : X → Option Y) (x : X) (xs : List X) (from p : ℕ) (ps : List ℕ) → p ≡ from
    → AllByRecursion (λ q. p < q) ps → filter_map f (read_from (suc from) xs ps) ≡ filter_map f xs
    → filter_map f (read_from from (x ∷ xs) (p ∷ ps)) ≡ filter_map f (x ∷ xs)
taken f x xs from p ps same above rest =
    let first : p - from ≡ 0 = omega arith in
    let beyond = wider from p ps (omega arith) above in
    ap (λ (n : ℕ). filter_map f (cons_option (slice_get (x ∷ xs) n) (read_from from (x ∷ xs) ps))) first
    ∙ ap (λ (ys : List _). filter_map f (x ∷ ys)) (later x xs from ps beyond)
    ∙ ap (cons_option (f x)) rest

pub read_all : {X Y : Type 0} (f : X → Option Y) (xs : List X) (from : ℕ) (ps : List ℕ) → Ascends ps
    → AllByRecursion (λ q. from ≤ q) ps → CoversFrom f from xs ps
    → filter_map f (read_from from xs ps) ≡ filter_map f xs
read_all f [] from ps up after covers = ap (filter_map f) (nothing from ps)
read_all f (x ∷ xs) from [] up after covers =
    skipped f x xs from [] tt covers (read_all f xs (suc from) [] tt tt (covers_later f from x xs [] covers))
read_all f (x ∷ xs) from (p ∷ ps) up after covers =
    elim (cases_lt from p) [
      | inl less ↦ (let above : AllByRecursion (λ q. from < q) (p ∷ ps) = (less, wider from p ps (omega arith) up.0) in
          skipped f x xs from (p ∷ ps) above covers
          (read_all f xs (suc from) (p ∷ ps) up (omega arith, not_below (suc from) p ps (omega arith) up.0) (covers_later f from x xs (p ∷ ps) covers)))
      | inr most ↦ (let same : p ≡ from = let least = after.0 in omega arith in
          taken f x xs from p ps same up.0
          (read_all f xs (suc from) ps up.1 (not_below (suc from) p ps (omega arith) up.0)
          (covers_rest f (suc from) p xs ps (omega arith) (covers_later f from x xs (p ∷ ps) covers))))
    ]

-- ---- from the start

from_start : {X : Type 0} (xs : List X) (ps : List ℕ) → read_from 0 xs ps ≡ read_at xs ps
from_start xs [] = refl
from_start xs (p ∷ ps) =
    let same : p - 0 ≡ p = omega arith in
    ap (λ (n : ℕ). cons_option (slice_get xs n) (read_from 0 xs ps)) same
    ∙ ap (cons_option (slice_get xs p)) (from_start xs ps)

all_from_start : (ps : List ℕ) → AllByRecursion (λ q. 0 ≤ q) ps
all_from_start [] = tt
all_from_start (p ∷ ps) = (omega arith, all_from_start ps)

-- what a function that sees only items of interest makes of them
pub read_map : {X Y : Type 0} (f : X → Option Y) (u : X → Bool) (xs : List X) (ps : List ℕ) → Ascends ps
    → Covers u xs ps → ((x : X) → is_some (f x) ≡ true → u x ≡ true)
    → filter_map f (read_at xs ps) ≡ filter_map f xs
read_map f u xs ps up covers only =
    let from : CoversFrom f 0 xs ps = λ i x is some.
    let same : i ≡ 0 + i = omega arith in
    subst (λ (n : ℕ). Contains ps n) same (covers i x is (only x some)) in
    ap (filter_map f) (sym (from_start xs ps)) ∙ read_all f xs 0 ps up (all_from_start ps) from

abbrev pub if_true : {X : Type 0} → (X → Bool) → X → Option X
if_true u x = if u x then Some x else None

one_kept : {X : Type 0} (b : Bool) (x : X) (xs ys : List X) → xs ≡ ys
    → (if b then x ∷ xs else xs) ≡ cons_option (if b then Some x else None) ys
one_kept true x xs ys same = ap (λ (zs : List _). x ∷ zs) same
one_kept false x xs ys same = same

as_map : {X : Type 0} (u : X → Bool) (xs : List X) → filter u xs ≡ filter_map (if_true u) xs
as_map u [] = refl
as_map u (x ∷ xs) = one_kept (u x) x (filter u xs) (filter_map (if_true u) xs) (as_map u xs)

is_true : {X : Type 0} (b : Bool) (x : X) → is_some (if b then Some x else None) ≡ true → b ≡ true
is_true true x some = refl
is_true false x some = some

pub read_filter : {X : Type 0} (v u : X → Bool) (xs : List X) (ps : List ℕ) → Ascends ps → Covers u xs ps
    → ((x : X) → v x ≡ true → u x ≡ true) → filter v (read_at xs ps) ≡ filter v xs
read_filter v u xs ps up covers only =
    as_map v (read_at xs ps)
    ∙ read_map (if_true v) u xs ps up covers (λ x some. only x (is_true (v x) x some))
    ∙ sym (as_map v xs)

any_kept : {X : Type 0} (v : X → Bool) (b : Bool) (x : X) (xs : List X) → v x ≡ b → list_any v xs ≡ list_any v (filter v xs)
    → (b || list_any v xs) ≡ list_any v (if b then x ∷ filter v xs else filter v xs)
any_kept v true x xs is rest = ap (λ (c : Bool). c || list_any v (filter v xs)) (sym is)
any_kept v false x xs is rest = rest

any_filter : {X : Type 0} (v : X → Bool) (xs : List X) → list_any v xs ≡ list_any v (filter v xs)
any_filter v [] = refl
any_filter v (x ∷ xs) = any_kept v (v x) x xs refl (any_filter v xs)

pub read_any : {X : Type 0} (v u : X → Bool) (xs : List X) (ps : List ℕ) → Ascends ps → Covers u xs ps
    → ((x : X) → v x ≡ true → u x ≡ true) → list_any v (read_at xs ps) ≡ list_any v xs
read_any v u xs ps up covers only =
    any_filter v (read_at xs ps) ∙ ap (list_any v) (read_filter v u xs ps up covers only) ∙ sym (any_filter v xs)
