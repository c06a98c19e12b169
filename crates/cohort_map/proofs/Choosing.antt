-- The turns of the loops that choose a batch among seats.
use Rattle.std.specs.Prelude.{nat_lt}
use Rattle.std.proofs.Common.{if◌then◌else◌, ◌≡◌, ◌∙◌, ℕ, ◌<◌, ◌≤◌, ◌+◌, Bool, true, false, ◌&&◌, Option, Some, None}
use Rattle.std.proofs.Common.{List, [], ◌∷◌, ◌++◌, length, drop, get_or, refl, sym, ap, subst, length-append, arith}
use Rattle.std.proofs.lemmas.Bool.{ltb-true}
use Rattle.std.proofs.lemmas.List.{at_drop_more, at_drop_all, append-nil}
use Rattle.std.specs.Option.{option_to_list}
use Rattle.std.specs.List.{AllByRecursion, filter_map, cons_option, find, slice_get}
use Rattle.place_list.specs.Places.{read_at}
use Rattle.cohort_map.specs.declared.key.CohortKey.{CohortKey}
use Rattle.cohort_map.specs.declared.seat.Seat.{Seat}
use Rattle.cohort_map.specs.Choice.{is_next, with_cohort, chosen_cohorts}

pub all_rest : {X : Type 0} (P : X → Type 0) (xs : List X) (i : ℕ) (d : X) → i < length xs
    → AllByRecursion P (drop i xs) → AllByRecursion P (drop (i + 1) xs)
all_rest P xs i d within all =
    let here : drop i xs ≡ get_or xs i d ∷ drop (i + 1) xs = at_drop_more (λ (ys : List _). ys) xs i d within in
    (subst (AllByRecursion P) here all).1

pub all_seen : {X Y : Type 0} (f : X → Option Y) (xs : List X) (ys : List Y) (i : ℕ) → length xs ≤ i
    → ys ++ filter_map f (drop i xs) ≡ filter_map f xs → ys ≡ filter_map f xs
all_seen f xs ys i past is =
    sym (append-nil ys) ∙ sym (at_drop_all (λ (zs : List _). ys ++ filter_map f zs) xs i past) ∙ is

found_cons : {X : Type 0} (P : X → Type 0) (t : X → Bool) (x : X) (xs : List X) (y : X) (b : Bool) → t x ≡ b → P x
    → find t (x ∷ xs) ≡ Some y → (find t xs ≡ Some y → P y) → P y
found_cons P t x xs y true test holds is more =
    let here : Some x ≡ Some y = rw test at is in
    let same : x ≡ y = cc in
    subst P same holds
found_cons P t x xs y false test holds is more = more (rw test at is)

pub found_all : {X : Type 0} (P : X → Type 0) (t : X → Bool) (xs : List X) (y : X) → AllByRecursion P xs
    → find t xs ≡ Some y → P y
found_all P t [] y all is = absurd (cc)
found_all P t (x ∷ xs) y all is = found_cons P t x xs y (t x) refl all.0 is (λ rest. found_all P t xs y all.1 rest)

-- ---- one more seat

pub chosen_more : (keys : List CohortKey) (limit first : ℕ) (cs ds : List ℕ) (seats : List Seat) (i : ℕ) (d : Seat)
    (all : List ℕ) → i < length seats → with_cohort keys limit first cs (get_or seats i d) ≡ ds
    → chosen_cohorts keys limit first cs (drop i seats) ≡ all
    → chosen_cohorts keys limit first ds (drop (i + 1) seats) ≡ all
chosen_more keys limit first cs ds seats i d all within taken is =
    ap (λ (es : List ℕ). chosen_cohorts keys limit first es (drop (i + 1) seats)) (sym taken)
    ∙ sym (at_drop_more (chosen_cohorts keys limit first cs) seats i d within)
    ∙ is

left_true : (a b : Bool) → (a && b) ≡ true → a ≡ true
left_true true b h = refl
left_true false b h = h

pub has_room : (keys : List CohortKey) (limit first : ℕ) (cs : List ℕ) (s : Seat) → is_next keys limit first cs s ≡ true
    → length cs < limit
has_room keys limit first cs s next = ltb-true (length cs) limit (left_true (nat_lt (length cs) limit) _ next)

pub taken_by : (keys : List CohortKey) (limit first : ℕ) (cs : List ℕ) (s : Seat) (b : Bool)
    → is_next keys limit first cs s ≡ b
    → with_cohort keys limit first cs s ≡ (if b then cs ++ s.cohort ∷ [] else cs)
taken_by keys limit first cs s b test = ap (λ (x : Bool). if x then cs ++ s.cohort ∷ [] else cs) test

pub one_more : (cs : List ℕ) (c limit : ℕ) → length cs < limit → length (cs ++ c ∷ []) ≤ limit
one_more cs c limit room = simp length-append (omega arith)

next_bound : (keys : List CohortKey) (limit first : ℕ) (cs : List ℕ) (s : Seat) (b : Bool) → is_next keys limit first cs s ≡ b
    → length cs ≤ limit → length (if b then cs ++ s.cohort ∷ [] else cs) ≤ limit
next_bound keys limit first cs s true is bound = one_more cs s.cohort limit (has_room keys limit first cs s is)
next_bound keys limit first cs s false is bound = bound

pub with_bound : (keys : List CohortKey) (limit first : ℕ) (cs : List ℕ) (s : Seat) → length cs ≤ limit
    → length (with_cohort keys limit first cs s) ≤ limit
with_bound keys limit first cs s = next_bound keys limit first cs s (is_next keys limit first cs s) refl

-- ---- the seat at a place

pub option_bound : (keys : List CohortKey) (limit first : ℕ) (cs : List ℕ) (o : Option Seat) → length cs ≤ limit
    → length (chosen_cohorts keys limit first cs (option_to_list o)) ≤ limit
option_bound keys limit first cs None bound = bound
option_bound keys limit first cs (Some s) bound = with_bound keys limit first cs s bound

option_more : (keys : List CohortKey) (limit first : ℕ) (cs : List ℕ) (o : Option Seat) (seats : List Seat)
    → chosen_cohorts keys limit first (chosen_cohorts keys limit first cs (option_to_list o)) seats
    ≡ chosen_cohorts keys limit first cs (cons_option o seats)
option_more keys limit first cs None seats = refl
option_more keys limit first cs (Some s) seats = refl

pub read_step : (keys : List CohortKey) (limit first : ℕ) (cs ds : List ℕ) (seats : List Seat) (ps : List ℕ) (i d : ℕ)
    (all : List ℕ) → i < length ps
    → ds ≡ chosen_cohorts keys limit first cs (option_to_list (slice_get seats (get_or ps i d)))
    → chosen_cohorts keys limit first cs (read_at seats (drop i ps)) ≡ all
    → chosen_cohorts keys limit first ds (read_at seats (drop (i + 1) ps)) ≡ all
read_step keys limit first cs ds seats ps i d all within taken is =
    ap (λ (es : List ℕ). chosen_cohorts keys limit first es (read_at seats (drop (i + 1) ps))) taken
    ∙ option_more keys limit first cs (slice_get seats (get_or ps i d)) (read_at seats (drop (i + 1) ps))
    ∙ sym (at_drop_more (λ (qs : List ℕ). chosen_cohorts keys limit first cs (read_at seats qs)) ps i d within)
    ∙ is
