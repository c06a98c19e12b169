-- The entry of a number, by its seat.
use Rattle.std.proofs.Common.{◌≡◌, ◌∙◌, ℕ, ◌<◌, zero, suc, Bool, true, false, ◌||◌, Option, Some, None, List, [], ◌∷◌, length, refl, sym, ap, subst, arith, get_or, if◌then◌else◌}
use Rattle.std.proofs.lemmas.Option.{get_or_from_slice_get}
use Rattle.std.specs.Option.{option_map}
use Rattle.std.specs.List.{AllByRecursion, list_any, find, filter, slice_get}
use Rattle.cohort_map.specs.declared.key.CohortKey.{CohortKey}
use Rattle.cohort_map.specs.declared.seat.Seat.{Seat}
use Rattle.cohort_map.specs.Entries.{Entry, entry_at, is_busy_by, members_by, members_with}
use Rattle.cohort_map.specs.Indexed.{AreApart}
use Rattle.cohort_map.specs.Seats.{Rise, HasSeat, IsCohortOf, is_at, seen, entry_with, entries_of, is_cohort_busy, seat_numbers, is_live_in}
use Rattle.cohort_map.proofs.Lists.{onto}
use Rattle.cohort_map.proofs.Rising.{number_of, kept_of, other_number, below_place, no_seat}
use Rattle.cohort_map.proofs.Views.{Within, has_key, entry_seen, seen_kept, busy_seen, members_seen}

some_is : {X : Type 0} (x y : X) → Some x ≡ Some y → x ≡ y
some_is x y e = cc

some_key : (k l : CohortKey) → Some k ≡ Some l → k ≡ l
some_key k l e = cc

find_one : (n : ℕ) (seats : List Seat) (i : ℕ) (s : Seat) → Rise seats → slice_get seats i ≡ Some s → is_at n s ≡ true → find (is_at n) seats ≡ Some s
find_one n [] i s up is holds = absurd (cc)
find_one n (t ∷ seats) zero s up is holds =
    let same : t ≡ s = some_is t s is in
    let here : is_at n t ≡ true = ap (is_at n) same ∙ holds in
    rw here is
find_one n (t ∷ seats) (suc i) s up is holds =
    let number = number_of n s holds in
    let below = below_place seats i s t.number up.0 is in
    let here = other_number n t (λ e. absurd (omega arith)) in
    rw here (find_one n seats i s up.1 is holds)

or_left : (a b : Bool) → (a || b) ≡ false → a ≡ false
or_left true b h = h
or_left false b h = refl

or_right : (a b : Bool) → (a || b) ≡ false → b ≡ false
or_right true b h = absurd (cc)
or_right false b h = h

pub find_none : (t : Seat → Bool) (seats : List Seat) → list_any t seats ≡ false → find t seats ≡ None
find_none t [] none = refl
find_none t (s ∷ seats) none = rw (or_left (t s) (list_any t seats) none) (find_none t seats (or_right (t s) (list_any t seats) none))

pub cohort_is : (n : ℕ) (seats : List Seat) (place : ℕ) → Rise seats → HasSeat n seats place → IsCohortOf n seats (get_or seats place no_seat).cohort
cohort_is n seats place up h = record {
  seat = h.seat;
  is = find_one n seats place h.seat up h.is h.holds;
  of = ap (λ (s : Seat). s.cohort) (sym (get_or_from_slice_get seats place h.seat no_seat h.is));
}

found_cons : (P : Seat → Type 0) (t : Seat → Bool) (u : Seat) (seats : List Seat) (s : Seat) (b : Bool) → t u ≡ b → P u → (if b then Some u else find t seats) ≡ Some s → (find t seats ≡ Some s → P s × (t s ≡ true)) → P s × (t s ≡ true)
found_cons P t u seats s true holds p is more =
    let same : u ≡ s = some_is u s is in
    (subst P same p, subst (λ (v : Seat). t v ≡ true) same holds)
found_cons P t u seats s false holds p is more = more is

pub found : (P : Seat → Type 0) (t : Seat → Bool) (seats : List Seat) (s : Seat) → AllByRecursion P seats → find t seats ≡ Some s → P s × (t s ≡ true)
found P t [] s all is = absurd (cc)
found P t (u ∷ seats) s all is = found_cons P t u seats s (t u) refl all.0 is (found P t seats s all.1)

-- the seat that a number has, with its key
pub record Keyed (keys : List CohortKey) (n : ℕ) (seats : List Seat) (cohort : ℕ) : Type 0 where
  pub key : CohortKey
  pub at : slice_get keys cohort ≡ Some key
  pub seat : Seat
  pub of : seat.cohort ≡ cohort
  pub entry : entry_at n (entries_of keys seats) ≡ Some (entry_with seat key)

pub keyed : (keys : List CohortKey) (n : ℕ) (seats : List Seat) (cohort : ℕ) → AllByRecursion (Within (length keys)) seats → IsCohortOf n seats cohort → Keyed keys n seats cohort
keyed keys n seats cohort within h =
    let both = found (Within (length keys)) (is_at n) seats h.seat within h.is in
    let key = has_key keys h.seat.cohort both.0 in
    record {
      key = key.0;
      at = ap (slice_get keys) (sym h.of) ∙ key.1;
      seat = h.seat;
      of = h.of;
      entry = entry_seen keys n seats within ∙ ap (λ (o : Option Seat). onto o (seen keys)) h.is ∙ seen_kept keys h.seat key.0 key.1 (kept_of n h.seat both.1);
    }

pub cohort_within : (keys : List CohortKey) (n : ℕ) (seats : List Seat) (cohort : ℕ) → AllByRecursion (Within (length keys)) seats → IsCohortOf n seats cohort → cohort < length keys
cohort_within keys n seats cohort within h =
    subst (λ (c : ℕ). c < length keys) h.of (found (Within (length keys)) (is_at n) seats h.seat within h.is).0

pub entry_none : (keys : List CohortKey) (n : ℕ) (seats : List Seat) → AllByRecursion (Within (length keys)) seats → find (is_at n) seats ≡ None → entry_at n (entries_of keys seats) ≡ None
entry_none keys n seats within none = entry_seen keys n seats within ∙ ap (λ (o : Option Seat). onto o (seen keys)) none

pub busy_is : (keys : List CohortKey) (n : ℕ) (seats : List Seat) (cohort : ℕ) → AreApart keys → AllByRecursion (Within (length keys)) seats → IsCohortOf n seats cohort → is_cohort_busy seats cohort ≡ is_busy_by (entries_of keys seats) (entry_at n (entries_of keys seats))
busy_is keys n seats cohort apart within h =
    let k = keyed keys n seats cohort within h in
    ap (is_cohort_busy seats) (sym k.of)
    ∙ busy_seen keys seats k.seat k.key apart within (ap (slice_get keys) k.of ∙ k.at)
    ∙ ap (is_busy_by (entries_of keys seats)) (sym k.entry)

pub members_is : (keys : List CohortKey) (n : ℕ) (seats : List Seat) (cohort : ℕ) → AreApart keys → AllByRecursion (Within (length keys)) seats → IsCohortOf n seats cohort → seat_numbers (filter (is_live_in cohort) seats) ≡ members_with n (entries_of keys seats)
members_is keys n seats cohort apart within h =
    let k = keyed keys n seats cohort within h in
    ap (λ (c : ℕ). seat_numbers (filter (is_live_in c) seats)) (sym k.of)
    ∙ members_seen keys seats k.seat k.key apart within (ap (slice_get keys) k.of ∙ k.at)
    ∙ ap (members_by (entries_of keys seats)) (sym k.entry)

pub binding_is : (keys : List CohortKey) (n : ℕ) (seats : List Seat) (cohort : ℕ) (key : CohortKey) → AllByRecursion (Within (length keys)) seats → IsCohortOf n seats cohort → slice_get keys cohort ≡ Some key → Some key.binding ≡ option_map (λ (e : Entry). e.binding) (entry_at n (entries_of keys seats))
binding_is keys n seats cohort key within h at =
    let k = keyed keys n seats cohort within h in
    let same : k.key ≡ key = some_key k.key key (sym k.at ∙ at) in
    ap (λ (l : CohortKey). Some l.binding) (sym same) ∙ ap (option_map (λ (e : Entry). e.binding)) (sym k.entry)
