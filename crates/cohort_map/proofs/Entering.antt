-- A subscription that joins, and a pair that is made ready.
use Rattle.std.proofs.Common.{◌≡◌, ◌∙◌, ℕ, ◌<◌, ◌≤◌, Bool, true, false, ◌&&◌, ◌||◌, Option, Some, None, List, [], ◌∷◌, ◌++◌, length, refl, sym, ap, subst, arith, if◌then◌else◌}
use Rattle.std.proofs.Common.{◌+◌, Result, Ok, Err, OnErr}
use Rattle.std.specs.List.{All, AllByRecursion, list_any, find, slice_get}
use Rattle.std.proofs.lemmas.List.Elements.{filter_map-append}
use Rattle.scalar_val.specs.declared.val.Val.{Val}
use Rattle.cohort_map.specs.declared.key.CohortKey.{CohortKey}
use Rattle.cohort_map.specs.declared.seat.Seat.{Seat}
use Rattle.cohort_map.specs.declared.seat.ReadySeat.{ReadySeat}
use Rattle.cohort_map.specs.Entries.{Entry, Ready}
use Rattle.cohort_map.specs.Seats.{Rise, is_at, entry_with, entries_of, ready_seen, ready_of, CanMove, IsReady, IsSeated, IsSound, IsCohortOf, IsCut, EndsKept}
use Rattle.std.specs.BTreeMap.{BTreeMap}
use Rattle.place_list.specs.Places.{Places}
use Rattle.cohort_map.specs.declared.key.PollerKey.{PollerKey}
use Rattle.cohort_map.specs.Polled.{ArePolled, AreMade}
use Rattle.cohort_map.proofs.Alls.{all_more, all_weaker, all_from}
use Rattle.cohort_map.proofs.Listing.{cut_front}
use Rattle.cohort_map.proofs.Polling.{polled_front, polled_more, polled_made}
use Rattle.cohort_map.proofs.Finding.{found}
use Rattle.cohort_map.proofs.Rising.{number_of}
use Rattle.cohort_map.proofs.Rehoming.{moved_key, got_within}
use Rattle.cohort_map.proofs.Seated.{Stay, more_seen, more_ready_seen, more_seated, cut_seated, cut_seen, number_below, ready_below, joined_seated, joined_seen}

pub on_err : {T E : Type 0} (r : Result T E) (P : Type 0) → P → OnErr r P
on_err (Ok x) P holds = tt
on_err (Err e) P holds = holds

-- ---- more keys, and no empty seats at the end

pub kept_seated : (keys more : List CohortKey) (seats cut : List Seat) (ready : List ReadySeat) → Stay keys more →
    length keys ≤ length more → IsCut seats cut → IsSeated keys seats ready → IsSeated more cut ready
kept_seated keys more seats cut ready stay grows is seated =
    cut_seated more seats cut ready is (more_seated keys more seats ready stay grows seated)

pub kept_seen : (keys more : List CohortKey) (seats cut : List Seat) (ready : List ReadySeat) → Stay keys more →
    IsCut seats cut → IsSeated keys seats ready → entries_of more cut ≡ entries_of keys seats
kept_seen keys more seats cut ready stay is seated =
    cut_seen more seats cut is ∙ more_seen keys more seats stay seated.sound

pub kept_ready : (keys more : List CohortKey) (seats : List Seat) (ready : List ReadySeat) → Stay keys more →
    IsSeated keys seats ready → ready_of more ready ≡ ready_of keys ready
kept_ready keys more seats ready stay seated = more_ready_seen keys more seats ready stay seated.movable

pub kept_polled : (keys more : List CohortKey) (seats cut : List Seat) (before after : BTreeMap PollerKey Places)
    → Stay keys more → AllByRecursion (IsSound (length keys)) seats → IsCut seats cut → AreMade before after
    → ArePolled keys seats before → ArePolled more cut after
kept_polled keys more seats cut before after stay sound is made polled =
    polled_front more seats cut after (cut_front seats cut is)
    (polled_more keys more seats after stay sound (polled_made keys seats before after made polled))

pub same_key : (keys : List CohortKey) (c : ℕ) (k l : CohortKey) → slice_get keys c ≡ Some k → slice_get keys c ≡ Some l
    → k ≡ l
same_key keys c k l at_k at_l = let same : Some k ≡ Some l = sym at_k ∙ at_l in cc

-- ---- a seat more

abbrev pub new_seat : ℕ → ℕ → Seat
new_seat number cohort = record { number = number; cohort = cohort; live = true; due = false; job = None }

pub new_seated : (keys more : List CohortKey) (seats cut : List Seat) (ready : List ReadySeat) (n c : ℕ)
    (key : CohortKey) → Stay keys more → length keys ≤ length more → IsCut seats cut → EndsKept cut →
    slice_get more c ≡ Some key → All (λ (e : Entry). e.number < n) (entries_of keys seats) →
    All (λ (r : Ready). r.number < n) (ready_of keys ready) → IsSeated keys seats ready →
    IsSeated more (cut ++ new_seat n c ∷ []) ready
new_seated keys more seats cut ready n c key stay grows is ends at above apart seated =
    let kept = kept_seated keys more seats cut ready stay grows is seated in
    let entries = kept_seen keys more seats cut ready stay is seated in
    let pairs = kept_ready keys more seats ready stay seated in
    let below = number_below more cut n kept.rise ends kept.sound
    (subst (λ (es : List Entry). All (λ (e : Entry). e.number < n) es) (sym entries) above) in
    let before = ready_below more cut ready n kept.movable
    (subst (λ (rs : List Ready). AllByRecursion (λ (r : Ready). r.number < n) rs) (sym pairs)
    (all_from (λ (r : Ready). r.number < n) (ready_of keys ready) apart)) in
    joined_seated more cut ready (new_seat n c) (got_within more c key at) refl below before kept

pub new_seen : (keys more : List CohortKey) (seats cut : List Seat) (ready : List ReadySeat) (n c : ℕ)
    (key : CohortKey) → Stay keys more → IsCut seats cut → slice_get more c ≡ Some key → IsSeated keys seats ready →
    entries_of more (cut ++ new_seat n c ∷ []) ≡ entries_of keys seats ++ entry_with (new_seat n c) key ∷ []
new_seen keys more seats cut ready n c key stay is at seated =
    joined_seen more cut (new_seat n c) key at refl
    ∙ ap (λ (es : List Entry). es ++ entry_with (new_seat n c) key ∷ []) (kept_seen keys more seats cut ready stay is seated)

-- each number is below the next one
pub below_more : (entries all : List Entry) (n : ℕ) (e : Entry) → e.number ≡ n
    → AllByRecursion (λ (f : Entry). f.number < n) entries → all ≡ entries ++ e ∷ []
    → AllByRecursion (λ (f : Entry). f.number < n + 1) all
below_more entries all n e named below is =
    let wider = all_weaker (λ (f : Entry). f.number < n) (λ (f : Entry). f.number < n + 1) (λ f less. omega arith) entries below in
    subst (AllByRecursion (λ (f : Entry). f.number < n + 1)) (sym is)
    (all_more (λ (f : Entry). f.number < n + 1) entries e wider (omega arith))

-- ---- a pair more

some_same : {X : Type 0} (x y : X) → Some x ≡ Some y → x ≡ y
some_same x y e = cc

none_step : {X : Type 0} (b v any : Bool) (x : X) (rest : Option X) → (if b then Some x else rest) ≡ None →
    (rest ≡ None → any ≡ false) → ((b && v) || any) ≡ false
none_step true v any x rest is more = absurd (cc)
none_step false v any x rest is more = more is

pub none_any : {X : Type 0} (t u : X → Bool) (xs : List X) → find t xs ≡ None → list_any (λ x. t x && u x) xs ≡ false
none_any t u [] is = refl
none_any t u (x ∷ xs) is =
    none_step (t x) (u x) (list_any (λ y. t y && u y) xs) x (find t xs) is (none_any t u xs)

only_step : (n : ℕ) (t : Seat) (seats : List Seat) (s : Seat) (b : Bool) → is_at n t ≡ b →
    AllByRecursion (λ u. t.number < u.number) seats → (if b then Some t else find (is_at n) seats) ≡ Some s →
    (find (is_at n) seats ≡ Some s → AllByRecursion (λ (u : Seat). n ≡ u.number → u ≡ s) seats) →
    AllByRecursion (λ (u : Seat). n ≡ u.number → u ≡ s) (t ∷ seats)
only_step n t seats s true here above is more =
    let number = number_of n t here in
    ((λ _. some_same t s is), all_weaker (λ u. t.number < u.number) (λ (u : Seat). n ≡ u.number → u ≡ s) (λ u less same. absurd (omega arith)) seats above)
only_step n t seats s false here above is more =
    let both = found (λ u. t.number < u.number) (is_at n) seats s above is in
    let number = number_of n s both.1 in
    let less = both.0 in
    ((λ same. absurd (omega arith)), more is)

-- no two seats have one number
only_one : (n : ℕ) (seats : List Seat) (s : Seat) → Rise seats → find (is_at n) seats ≡ Some s →
    AllByRecursion (λ (u : Seat). n ≡ u.number → u ≡ s) seats
only_one n [] s up is = tt
only_one n (t ∷ seats) s up is = only_step n t seats s (is_at n t) refl up.0 is (only_one n seats s up.1)

new_moves : (more : List CohortKey) (n from c : ℕ) (k : CohortKey) (cursor : Val) (s u : Seat) → s.cohort ≡ from →
    slice_get more from ≡ Some k → slice_get more c ≡ Some (moved_key k cursor) → (n ≡ u.number → u ≡ s) →
    CanMove more (record { number = n; cohort = c }) u
new_moves more n from c k cursor s u of at at_c one named l to at_u at_to =
    let same : u ≡ s = one named in
    let key : l ≡ k = some_same l k (sym at_u ∙ ap (λ (t : Seat). slice_get more t.cohort) same ∙ ap (slice_get more) of ∙ at) in
    let moved : to ≡ moved_key k cursor = some_same to (moved_key k cursor) (sym at_to ∙ at_c) in
    moved ∙ ap (λ (m : CohortKey). moved_key m cursor) (sym key)
    ∙ ap (moved_key l) (sym (ap (λ (m : CohortKey). m.binding.cursor) moved))

pub paired_seated : (keys more : List CohortKey) (seats : List Seat) (ready : List ReadySeat) (n from c : ℕ)
    (k : CohortKey) (cursor : Val) → Stay keys more → length keys ≤ length more → IsCohortOf n seats from →
    slice_get keys from ≡ Some k → slice_get more c ≡ Some (moved_key k cursor) → IsSeated keys seats ready →
    IsSeated more seats (ready ++ record { number = n; cohort = c } ∷ [])
paired_seated keys more seats ready n from c k cursor stay grows of at at_c seated =
    let kept = more_seated keys more seats ready stay grows seated in
    record {
      rise = kept.rise;
      sound = kept.sound;
      movable = all_more (IsReady more seats) ready (record { number = n; cohort = c }) kept.movable (record {
        within = got_within more c (moved_key k cursor) at_c;
        moves = all_weaker (λ (u : Seat). n ≡ u.number → u ≡ of.seat) (CanMove more (record { number = n; cohort = c }))
            (λ u one. new_moves more n from c k cursor of.seat u of.of (stay from k at) at_c one)
            seats (only_one n seats of.seat seated.rise of.is);
      });
    }

pub paired_seen : (keys more : List CohortKey) (seats : List Seat) (ready : List ReadySeat) (n c : ℕ) (k : CohortKey)
    (cursor : Val) → Stay keys more → slice_get more c ≡ Some (moved_key k cursor) → IsSeated keys seats ready →
    ready_of more (ready ++ record { number = n; cohort = c } ∷ []) ≡
    ready_of keys ready ++ record { number = n; cursor = cursor } ∷ []
paired_seen keys more seats ready n c k cursor stay at_c seated =
    let r : ReadySeat = record { number = n; cohort = c } in
    let here : ready_seen more r ≡ Some (record { number = n; cursor = cursor }) = rw at_c refl in
    filter_map-append (ready_seen more) ready (r ∷ [])
    ∙ ap (λ (rs : List Ready). ready_of more ready ++ rs) (rw here refl)
    ∙ ap (λ (rs : List Ready). rs ++ record { number = n; cursor = cursor } ∷ []) (kept_ready keys more seats ready stay seated)
