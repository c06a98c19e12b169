-- Which numbers live, how many there are, and that the numbers of entries ascend.
use Rattle.std.proofs.Common.{if◌then◌else◌, ◌≡◌, ◌∙◌, ℕ, ◌<◌, zero, suc, Bool, true, false, ◌&&◌, ◌||◌, ◌==◌, Option, Some, None, is_some, List, [], ◌∷◌, length, refl, sym, ap, arith, eq-eqb}
use Rattle.std.proofs.lemmas.Bool.{ne_eqb}
use Rattle.std.proofs.lemmas.Bool.Decides.{nat_tests}
use Rattle.std.specs.Option.{option_map}
use Rattle.std.specs.List.{All, AllByRecursion, cons_option, list_any, filter, slice_get}
use Rattle.std.specs.List.Sorted.{IsStrictlySortedBy}
use Rattle.std.specs.Ordering.{nat_cmp}
use Rattle.std.specs.declared.cmp.Ordering.TheVariants.{Less}
use Rattle.cohort_map.specs.declared.key.CohortKey.{CohortKey}
use Rattle.cohort_map.specs.declared.seat.Seat.{Seat}
use Rattle.cohort_map.specs.Entries.{Entry, is_live, is_live_entry, has_live, live_count, if_kept, numbers}
use Rattle.cohort_map.specs.Seats.{Rise, is_kept, entry_with, seen, entries_of, is_at, is_live_at, seat_live}
use Rattle.cohort_map.proofs.Alls.{all_at, all_weaker}
use Rattle.cohort_map.proofs.Lists.{any_seen, filter_seen}
use Rattle.cohort_map.proofs.Rising.{below_place}
use Rattle.cohort_map.proofs.Views.{Within, test_seen, live_kept, all_filter, kept_filter, length_seen}

some_is : (s t : Seat) → Some s ≡ Some t → s ≡ t
some_is s t e = cc

-- ---- one number

live_at : (n : ℕ) (s : Seat) → (s.number == n) ≡ true → is_live_at n s ≡ s.live
live_at n s here = rw here refl

away_live : (n : ℕ) (s : Seat) → (s.number == n) ≡ false → is_live_at n s ≡ false
away_live n s away = rw away refl

live_none : (n : ℕ) (seats : List Seat) → AllByRecursion (λ s. n < s.number) seats → list_any (is_live_at n) seats ≡ false
live_none n [] above = refl
live_none n (s ∷ seats) above =
    rw (away_live n s (ne_eqb s.number n (λ e. absurd (omega arith)))) (live_none n seats above.1)

or_nothing : (b : Bool) → b ≡ (b || false)
or_nothing true = refl
or_nothing false = refl

-- no other seat has the number
pub live_here : (n : ℕ) (seats : List Seat) (i : ℕ) (s : Seat) → Rise seats → slice_get seats i ≡ Some s → s.number ≡ n → s.live ≡ list_any (is_live_at n) seats
live_here n [] i s up is number = absurd (cc)
live_here n (t ∷ seats) zero s up is number =
    let same : t ≡ s = some_is t s is in
    let first : t.number ≡ n = ap (λ (u : Seat). u.number) same ∙ number in
    let rest = live_none n seats (all_weaker (λ u. t.number < u.number) (λ u. n < u.number) (λ u less. omega arith) seats up.0) in
    ap (λ (u : Seat). u.live) (sym same)
    ∙ rw (live_at n t (eq-eqb t.number n first), rest) (or_nothing t.live)
live_here n (t ∷ seats) (suc i) s up is number =
    let less = below_place seats i s t.number up.0 is in
    rw (away_live n t (ne_eqb t.number n (λ e. absurd (omega arith)))) (live_here n seats i s up.1 is number)

or_parts : (a b : Bool) → (a || b) ≡ false → (a ≡ false) × (b ≡ false)
or_parts true b h = cc
or_parts false b h = (refl, h)

unkept : (b l : Bool) (j : Option ℕ) → (b && (l || is_some j)) ≡ false → (b && l) ≡ false
unkept true true j none = none
unkept true false j none = refl
unkept false l j none = refl

pub live_absent : (n : ℕ) (seats : List Seat) → list_any (is_at n) seats ≡ false → false ≡ list_any (is_live_at n) seats
live_absent n [] none = refl
live_absent n (s ∷ seats) none =
    let parts = or_parts (is_at n s) (list_any (is_at n) seats) none in
    rw (unkept (s.number == n) s.live s.job parts.0) (live_absent n seats parts.1)

and_right : (a b : Bool) → (a && b) ≡ true → b ≡ true
and_right true b h = h
and_right false b h = cc

pub live_seen : (keys : List CohortKey) (n : ℕ) (seats : List Seat) → AllByRecursion (Within (length keys)) seats → list_any (is_live_at n) seats ≡ has_live n (entries_of keys seats)
live_seen keys n seats all =
    any_seen (Within (length keys)) (seen keys) (is_live_at n) (is_live_entry n)
    (λ s within. test_seen keys s (is_live_at n s) (is_live_entry n) within (λ h. live_kept s.live s.job (and_right (s.number == n) s.live h)) (λ k is kept. refl))
    seats all

-- ---- how many

pub count_seen : (keys : List CohortKey) (seats : List Seat) → AllByRecursion (Within (length keys)) seats → length (filter seat_live seats) ≡ live_count (entries_of keys seats)
count_seen keys seats all =
    let only : (s : Seat) → seat_live s ≡ true → is_kept s ≡ true = λ (s : Seat) h. live_kept s.live s.job h in
    sym (length_seen keys (filter seat_live seats) (all_filter (Within (length keys)) seat_live seats all) (kept_filter seat_live only seats))
    ∙ ap length (sym (filter_seen (Within (length keys)) (seen keys) seat_live is_live
    (λ s within. test_seen keys s (seat_live s) is_live within (only s) (λ k is kept. refl)) seats all))

-- ---- all entries

pub all_in : {X : Type 0} (P : X → Type 0) (xs : List X) → AllByRecursion P xs → All P xs
all_in P xs all k d within = all_at P xs k d all within

one_seen : (P : Entry → Type 0) (kept : Bool) (o : Option CohortKey) (s : Seat) (es : List Entry) → ((k : CohortKey) → kept ≡ true → P (entry_with s k)) → AllByRecursion P es → AllByRecursion P (cons_option (if kept then option_map (entry_with s) o else None) es)
one_seen P true None s es holds all = all
one_seen P true (Some k) s es holds all = (holds k refl, all)
one_seen P false o s es holds all = all

pub all_seen : (keys : List CohortKey) (P : Entry → Type 0) (Q : Seat → Type 0) → ((s : Seat) (k : CohortKey) → Q s → is_kept s ≡ true → P (entry_with s k)) → (seats : List Seat) → AllByRecursion Q seats → AllByRecursion P (entries_of keys seats)
all_seen keys P Q holds [] all = tt
all_seen keys P Q holds (s ∷ seats) all =
    one_seen P (is_kept s) (slice_get keys s.cohort) s (entries_of keys seats) (λ k kept. holds s k all.0 kept) (all_seen keys P Q holds seats all.1)

less_cmp : (m n : ℕ) → m < n → nat_cmp m n ≡ Less
less_cmp m n less = grind (arith, nat_tests)

over_numbers : (n : ℕ) (es : List Entry) → AllByRecursion (λ e. n < e.number) es → AllByRecursion (λ m. nat_cmp n m ≡ Less) (numbers es)
over_numbers n [] all = tt
over_numbers n (e ∷ es) all = (less_cmp n e.number all.0, over_numbers n es all.1)

one_sorted : (kept : Bool) (o : Option CohortKey) (s : Seat) (es : List Entry) → AllByRecursion (λ e. s.number < e.number) es → IsStrictlySortedBy nat_cmp (numbers es) → IsStrictlySortedBy nat_cmp (numbers (cons_option (if kept then option_map (entry_with s) o else None) es))
unfolding IsStrictlySortedBy
one_sorted true None s es above sorted = sorted
one_sorted true (Some k) s es above sorted = (over_numbers s.number es above, sorted)
one_sorted false o s es above sorted = sorted

pub ascends : (keys : List CohortKey) (seats : List Seat) → Rise seats → IsStrictlySortedBy nat_cmp (numbers (entries_of keys seats))
unfolding IsStrictlySortedBy
ascends keys [] up = tt
ascends keys (s ∷ seats) up =
    one_sorted (is_kept s) (slice_get keys s.cohort) s (entries_of keys seats)
    (all_seen keys (λ e. s.number < e.number) (λ t. s.number < t.number) (λ t k less kept. less) seats up.0)
    (ascends keys seats up.1)

kept_entry : (s : Seat) (k : CohortKey) → is_kept s ≡ true → if_kept (entry_with s k) ≡ Some (entry_with s k)
kept_entry s k kept = rw kept refl

pub all_kept : (keys : List CohortKey) (seats : List Seat) → AllByRecursion (Within (length keys)) seats → All (λ e. if_kept e ≡ Some e) (entries_of keys seats)
all_kept keys seats all =
    all_in (λ e. if_kept e ≡ Some e) (entries_of keys seats)
    (all_seen keys (λ e. if_kept e ≡ Some e) (Within (length keys)) (λ s k within kept. kept_entry s k kept) seats all)
