-- Seats in ascending order of their numbers, and the seat of one number among them.
use Rattle.std.proofs.Common.{◌≡◌, ◌≢◌, ◌∙◌, ℕ, ◌<◌, ◌≤◌, ◌+◌, zero, suc, Bool, true, false, ◌&&◌, ◌||◌, ◌==◌, Some, None, List, [], ◌∷◌, ◌++◌, length, map, get_or, refl, sym, ap, subst, arith}
use Rattle.std.proofs.lemmas.Bool.{eqb-true}
use Rattle.std.proofs.lemmas.List.{get_or_read}
use Rattle.std.specs.List.{AllByRecursion, list_any, slice_get}
use Rattle.std.proofs.Math.ListN.{set}
use Rattle.cohort_map.specs.declared.seat.Seat.{Seat}
use Rattle.cohort_map.specs.Seats.{Rise, HasSeat, is_kept, is_at, at, AreBelow, AreFrom}
use Rattle.cohort_map.proofs.Alls.{all_at, all_more, all_front, all_over, all_weaker, read_same}
use Rattle.std.proofs.lemmas.Option.{get_or_from_slice_get}

pub rise_upto : (seats : List Seat) (i j : ℕ) (d : Seat) → Rise seats → i ≤ j → j < length seats → (get_or seats i d).number ≤ (get_or seats j d).number
rise_upto [] i j d up order within = absurd (omega arith)
rise_upto (s ∷ seats) zero zero d up order within = omega arith
rise_upto (s ∷ seats) (suc i) zero d up order within = absurd (omega arith)
rise_upto (s ∷ seats) zero (suc j) d up order within =
    let less : s.number < (get_or seats j d).number = all_at (λ t. s.number < t.number) seats j d up.0 (omega arith) in
    omega arith
rise_upto (s ∷ seats) (suc i) (suc j) d up order within = rise_upto seats i j d up.1 (omega arith) (omega arith)

pub rise_over : (g : Seat → Seat) → ((s : Seat) → (g s).number ≡ s.number) → (seats : List Seat) → Rise seats → Rise (map g seats)
rise_over g keeps [] up = tt
rise_over g keeps (s ∷ seats) up =
    (all_over (λ t. s.number < t.number) (λ t. (g s).number < t.number) g (λ t less. let e = keeps s in let f = keeps t in omega arith) seats up.0, rise_over g keeps seats up.1)

pub rise_more : (seats : List Seat) (s : Seat) → Rise seats → AllByRecursion (λ t. t.number < s.number) seats → Rise (seats ++ s ∷ [])
rise_more [] s up below = (tt, tt)
rise_more (t ∷ seats) s up below = (all_more (λ u. t.number < u.number) seats s up.0 below.0, rise_more seats s up.1 below.1)

pub rise_front : (seats others : List Seat) → Rise (seats ++ others) → Rise seats
rise_front [] others up = tt
rise_front (s ∷ seats) others up = (all_front (λ t. s.number < t.number) seats others up.0, rise_front seats others up.1)

and_parts : (a b : Bool) → (a && b) ≡ true → (a ≡ true) × (b ≡ true)
and_parts true true h = (refl, refl)
and_parts true false h = cc
and_parts false b h = cc

pub number_of : (n : ℕ) (s : Seat) → is_at n s ≡ true → s.number ≡ n
number_of n s h = eqb-true s.number n (and_parts (s.number == n) (is_kept s) h).0

pub kept_of : (n : ℕ) (s : Seat) → is_at n s ≡ true → is_kept s ≡ true
kept_of n s h = (and_parts (s.number == n) (is_kept s) h).1

not_both : (b k : Bool) → ((b ≡ true) → ⊥) → (b && k) ≡ false
not_both true k h = absurd (h refl)
not_both false k h = refl

pub other_number : (n : ℕ) (s : Seat) → s.number ≢ n → is_at n s ≡ false
other_number n s apart = not_both (s.number == n) (is_kept s) (λ e. apart (eqb-true s.number n e))

pub at_here : (n : ℕ) (f : Seat → Seat) (s : Seat) → is_at n s ≡ true → at n f s ≡ f s
at_here n f s is = rw is refl

pub at_other : (n : ℕ) (f : Seat → Seat) (s : Seat) → is_at n s ≡ false → at n f s ≡ s
at_other n f s is = rw is refl

same_above : (n : ℕ) (f : Seat → Seat) (seats : List Seat) → AllByRecursion (λ t. n < t.number) seats → map (at n f) seats ≡ seats
same_above n f [] above = refl
same_above n f (s ∷ seats) above =
    let apart : s.number ≢ n = λ e. absurd (omega arith) in
    let here = at_other n f s (other_number n s apart) in
    let rest = same_above n f seats above.1 in
    λ i. here i ∷ rest i

some_is : {X : Type 0} (x y : X) → Some x ≡ Some y → x ≡ y
some_is x y e = cc

pub below_place : (seats : List Seat) (i : ℕ) (s : Seat) (m : ℕ) → AllByRecursion (λ t. m < t.number) seats → slice_get seats i ≡ Some s → m < s.number
below_place [] i s m above is = absurd (cc)
below_place (t ∷ seats) zero s m above is = subst (λ (v : Seat). m < v.number) (some_is t s is) above.0
below_place (t ∷ seats) (suc i) s m above is = below_place seats i s m above.1 is

or_parts : (a b : Bool) → (a || b) ≡ false → (a ≡ false) × (b ≡ false)
or_parts true b h = cc
or_parts false b h = (refl, h)

or_right : (a b : Bool) → b ≡ true → (a || b) ≡ true
or_right true b h = refl
or_right false b h = h

-- the seat of a number is written, and no other has the number
pub one_set : (n : ℕ) (f : Seat → Seat) (seats : List Seat) (i : ℕ) (s : Seat) → Rise seats → slice_get seats i ≡ Some s → is_at n s ≡ true → map (at n f) seats ≡ set seats i (f s)
one_set n f [] i s up is holds = absurd (cc)
one_set n f (t ∷ seats) zero s up is holds =
    let same : t ≡ s = some_is t s is in
    let number = number_of n s holds in
    let above = all_weaker (λ u. t.number < u.number) (λ u. n < u.number) (λ u less. let e : t.number ≡ n = ap (λ (v : Seat). v.number) same ∙ number in omega arith) seats up.0 in
    let rest = same_above n f seats above in
    let here : at n f t ≡ f s = subst (λ (v : Seat). at n f v ≡ f s) (sym same) (at_here n f s holds) in
    λ i. here i ∷ rest i
one_set n f (t ∷ seats) (suc i) s up is holds =
    let number = number_of n s holds in
    let below = below_place seats i s t.number up.0 is in
    let here = at_other n f t (other_number n t (λ e. absurd (omega arith))) in
    let rest = one_set n f seats i s up.1 is holds in
    λ i. here i ∷ rest i

pub none_set : (n : ℕ) (f : Seat → Seat) (seats : List Seat) → list_any (is_at n) seats ≡ false → map (at n f) seats ≡ seats
none_set n f [] none = refl
none_set n f (s ∷ seats) none =
    let parts = or_parts (is_at n s) (list_any (is_at n) seats) none in
    let here = at_other n f s parts.0 in
    let rest = none_set n f seats parts.1 in
    λ i. here i ∷ rest i

pub any_at : (t : Seat → Bool) (seats : List Seat) (i : ℕ) (s : Seat) → slice_get seats i ≡ Some s → t s ≡ true → list_any t seats ≡ true
any_at t [] i s is holds = absurd (cc)
any_at t (u ∷ seats) zero s is holds = rw (ap t (some_is u s is) ∙ holds) refl
any_at t (u ∷ seats) (suc i) s is holds = or_right (t u) _ (any_at t seats i s is holds)

none_above : (n : ℕ) (seats : List Seat) → AllByRecursion (λ t. n < t.number) seats → list_any (is_at n) seats ≡ false
none_above n [] above = refl
none_above n (s ∷ seats) above = rw (other_number n s (λ e. absurd (omega arith))) (none_above n seats above.1)

-- ---- the search

pub below_step : (n : ℕ) (seats : List Seat) (m : ℕ) (s : Seat) → Rise seats → m < length seats → s ≡ get_or seats m s → s.number < n → AreBelow n seats (m + 1)
below_step n seats m s up within is less k d before =
    let read = ap (λ (v : Seat). v.number) (get_or_read seats m s within is d) in
    let order = rise_upto seats k m d up (omega arith) within in
    omega arith

pub from_step : (n : ℕ) (seats : List Seat) (m : ℕ) (s : Seat) → Rise seats → m < length seats → s ≡ get_or seats m s → n ≤ s.number → AreFrom n seats m
from_step n seats m s up within is least k d from inside =
    let read = ap (λ (v : Seat). v.number) (get_or_read seats m s within is d) in
    let order = rise_upto seats m k d up from inside in
    omega arith

-- no seat has the number: those before the place have lesser ones, and those from it on none that is kept
pub none_by : (n : ℕ) (seats : List Seat) (place : ℕ) → Rise seats → AreBelow n seats place → AreFrom n seats place → ((d : Seat) → place < length seats → is_at n (get_or seats place d) ≡ false) → list_any (is_at n) seats ≡ false
none_by n [] place up below from here = refl
none_by n (s ∷ seats) zero up below from here =
    let first : is_at n s ≡ false = here s (omega arith) in
    let least : n ≤ s.number = from 0 s (omega arith) (omega arith) in
    rw first (none_above n seats (all_weaker (λ t. s.number < t.number) (λ t. n < t.number) (λ t less. omega arith) seats up.0))
none_by n (s ∷ seats) (suc place) up below from here =
    let less : s.number < n = below 0 s (omega arith) in
    let first = other_number n s (λ e. absurd (omega arith)) in
    rw first (none_by n seats place up.1 (λ k d before. below (suc k) d (omega arith)) (λ k d after within. from (suc k) d (omega arith) (omega arith)) (λ d within. here d (omega arith)))

-- ---- reads of a seat, as code makes them

abbrev pub no_seat : Seat
no_seat = record { number = 0; cohort = 0; live = false; due = false; job = None }

pub below_at : (n : ℕ) (seats : List Seat) (m : ℕ) → Rise seats → m < length seats → (get_or seats m no_seat).number < n → AreBelow n seats (m + 1)
below_at n seats m up within less k d before =
    let read = ap (λ (v : Seat). v.number) (read_same seats m no_seat d within) in
    let order = rise_upto seats k m d up (omega arith) within in
    omega arith

pub from_at : (n : ℕ) (seats : List Seat) (m : ℕ) → Rise seats → m < length seats → n ≤ (get_or seats m no_seat).number → AreFrom n seats m
from_at n seats m up within least k d from inside =
    let read = ap (λ (v : Seat). v.number) (read_same seats m no_seat d within) in
    let order = rise_upto seats m k d up from inside in
    omega arith

-- the seat of a number is written, and no other has the number
pub set_at : (n : ℕ) (f : Seat → Seat) (seats : List Seat) (place : ℕ) → Rise seats → HasSeat n seats place → set seats place (f (get_or seats place no_seat)) ≡ map (at n f) seats
set_at n f seats place up h =
    ap (λ (v : Seat). set seats place (f v)) (get_or_from_slice_get seats place h.seat no_seat h.is)
    ∙ sym (one_set n f seats place h.seat up h.is h.holds)
