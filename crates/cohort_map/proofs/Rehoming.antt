-- A stream that is moved to a cohort that was made ready for it.
use Rattle.std.proofs.Common.{if◌then◌else◌, ◌≡◌, ◌∙◌, ℕ, ◌<◌, ◌+◌, zero, suc, Bool, true, false, ◌&&◌, ◌==◌, Option, Some, List, [], ◌∷◌, length, map, drop, refl, sym, ap, subst, arith, get_or, eq-eqb, ◌⊎◌, inl, inr}
use Rattle.std.proofs.lemmas.Bool.{eqb-true}
use Rattle.std.specs.List.{AllByRecursion, Contains, cons_option, slice_get}
use Rattle.std.specs.Ordering.{is_eq}
use Rattle.scalar_val.specs.declared.val.Val.{Val}
use Rattle.scalar_val.specs.ValOrder.{val_cmp}
use Rattle.scalar_val.proofs.OrderLaws.{val_cmp-exact, val_cmp-total}
use Rattle.cohort_map.specs.declared.key.CohortKey.{CohortKey}
use Rattle.cohort_map.specs.declared.seat.Seat.{Seat}
use Rattle.cohort_map.specs.declared.seat.ReadySeat.{ReadySeat}
use Rattle.cohort_map.specs.Keys.{with_cursor}
use Rattle.cohort_map.specs.Entries.{Entry, Ready, moved, rehomed}
use Rattle.cohort_map.specs.Seats.{is_kept, is_at, at, seen, entry_with, entries_of, ready_with, ready_seen, ready_of, IsReadyWithin, IsSound, CanMove, IsReady, IsSeated, IsReadyTo, TellsReady, seat_moved}
use Rattle.cohort_map.proofs.Lists.{onto, seen_over, some_map}
use Rattle.cohort_map.proofs.Alls.{all_at, all_over, all_weaker, all_both, drop_at, read_same}
use Rattle.cohort_map.proofs.Exact.{eq_is, is_equal}
use Rattle.cohort_map.proofs.Rising.{rise_over, number_of, kept_of, at_here, at_other}
use Rattle.cohort_map.proofs.Views.{Within, has_key, seen_kept, within_of}

abbrev pub moved_key : CohortKey → Val → CohortKey
moved_key k v = record { poller = k.poller; binding = with_cursor v k.binding }

-- the cohort of place `c` is that of any seat of the number, with this cursor
pub record Reaches (keys : List CohortKey) (n c : ℕ) (cursor : Val) (s : Seat) : Type 0 where
  pub to : (k : CohortKey) → s.number ≡ n → slice_get keys s.cohort ≡ Some k → slice_get keys c ≡ Some (moved_key k cursor)

seat_reaches : (keys : List CohortKey) (n c : ℕ) (cursor : Val) (r : ReadySeat) (key : CohortKey) (s : Seat) → r.number ≡ n → r.cohort ≡ c → slice_get keys c ≡ Some key → key.binding.cursor ≡ cursor → CanMove keys r s → Reaches keys n c cursor s
seat_reaches keys n c cursor r key s number cohort is reaches can = record {
  to = λ k named ats.
      let same : key ≡ moved_key k key.binding.cursor = can (number ∙ sym named) k key ats (ap (slice_get keys) cohort ∙ is) in
      is ∙ ap (λ (l : CohortKey). Some l) (same ∙ ap (moved_key k) reaches);
}

pub all_reach : (keys : List CohortKey) (seats : List Seat) (ready : List ReadySeat) (n c : ℕ) (cursor : Val) → IsSeated keys seats ready → IsReadyTo keys ready n cursor c → AllByRecursion (Reaches keys n c cursor) seats
all_reach keys seats ready n c cursor seated pair =
    let held : IsReady keys seats (get_or ready pair.among.0 pair.seat) = all_at (IsReady keys seats) ready pair.among.0 pair.seat seated.movable pair.among.1 in
    let is : IsReady keys seats pair.seat = subst (IsReady keys seats) pair.among.2 held in
    all_weaker (CanMove keys pair.seat) (Reaches keys n c cursor) (λ s can. seat_reaches keys n c cursor pair.seat pair.key s pair.numbered pair.to pair.is pair.reaches can) seats is.moves

move_here : (keys : List CohortKey) (n c : ℕ) (cursor : Val) (s : Seat) (k : CohortKey) → slice_get keys s.cohort ≡ Some k → Reaches keys n c cursor s → is_at n s ≡ true → seen keys (at n (seat_moved c) s) ≡ onto (seen keys s) (λ e. Some (moved n cursor e))
move_here keys n c cursor s k is reaches here =
    let number = number_of n s here in
    let kept = kept_of n s here in
    let same : (s.number == n) ≡ true = eq-eqb s.number n number in
    ap (seen keys) (at_here n (seat_moved c) s here)
    ∙ seen_kept keys (seat_moved c s) (moved_key k cursor) (reaches.to k number is) kept
    ∙ ap (λ (b : Bool). Some (if b then record (entry_with s k) { binding = with_cursor cursor k.binding } else entry_with s k)) (sym same)
    ∙ ap (λ (o : Option Entry). onto o (λ e. Some (moved n cursor e))) (sym (seen_kept keys s k is kept))

and_true : (b k : Bool) → k ≡ true → (b && k) ≡ b
and_true true true h = refl
and_true false true h = refl
and_true b false h = absurd (cc)

some_same : {X : Type 0} (x y : X) → Some x ≡ Some y → x ≡ y
some_same x y e = cc

stay_by : (keys : List CohortKey) (n : ℕ) (cursor : Val) (s : Seat) (k : CohortKey) (kept : Bool) → is_kept s ≡ kept → slice_get keys s.cohort ≡ Some k → is_at n s ≡ false → seen keys s ≡ onto (seen keys s) (λ e. Some (moved n cursor e))
stay_by keys n cursor s k true kept is away =
    let other : (s.number == n) ≡ false = sym (and_true (s.number == n) (is_kept s) kept) ∙ away in
    seen_kept keys s k is kept
    ∙ ap (λ (b : Bool). Some (if b then record (entry_with s k) { binding = with_cursor cursor k.binding } else entry_with s k)) (sym other)
    ∙ ap (λ (o : Option Entry). onto o (λ e. Some (moved n cursor e))) (sym (seen_kept keys s k is kept))
stay_by keys n cursor s k false kept is away = rw kept refl

move_by : (keys : List CohortKey) (n c : ℕ) (cursor : Val) (s : Seat) (k : CohortKey) (b : Bool) → is_at n s ≡ b → slice_get keys s.cohort ≡ Some k → Reaches keys n c cursor s → seen keys (at n (seat_moved c) s) ≡ onto (seen keys s) (λ e. Some (moved n cursor e))
move_by keys n c cursor s k true here is reaches = move_here keys n c cursor s k is reaches here
move_by keys n c cursor s k false away is reaches =
    ap (seen keys) (at_other n (seat_moved c) s away) ∙ stay_by keys n cursor s k (is_kept s) refl is away

pub moved_seen : (keys : List CohortKey) (seats : List Seat) (ready : List ReadySeat) (n c : ℕ) (cursor : Val) → IsSeated keys seats ready → IsReadyTo keys ready n cursor c → entries_of keys (map (at n (seat_moved c)) seats) ≡ rehomed n cursor (entries_of keys seats)
moved_seen keys seats ready n c cursor seated pair =
    seen_over (λ s. Within (length keys) s × Reaches keys n c cursor s) (seen keys) (at n (seat_moved c)) (λ e. Some (moved n cursor e))
    (λ s h. let key = has_key keys s.cohort h.0 in move_by keys n c cursor s key.0 (is_at n s) refl key.1 h.1)
    seats (all_both (Within (length keys)) (Reaches keys n c cursor) seats (within_of (length keys) seats seated.sound) (all_reach keys seats ready n c cursor seated pair))
    ∙ some_map (moved n cursor) (entries_of keys seats)

-- ---- the invariant

number_by : (b : Bool) (s t : Seat) → t.number ≡ s.number → (if b then t else s).number ≡ s.number
number_by true s t e = e
number_by false s t e = refl

sound_by : (count : ℕ) (b : Bool) (s t : Seat) → IsSound count s → IsSound count t → IsSound count (if b then t else s)
sound_by count true s t h g = g
sound_by count false s t h g = h

can_by : (keys : List CohortKey) (n c : ℕ) (cursor : Val) (r : ReadySeat) (s : Seat) (k0 : CohortKey) (b : Bool) → is_at n s ≡ b → slice_get keys s.cohort ≡ Some k0 → Reaches keys n c cursor s → CanMove keys r s → CanMove keys r (if b then seat_moved c s else s)
can_by keys n c cursor r s k0 false away ats reaches can named k to atc atr = can named k to atc atr
can_by keys n c cursor r s k0 true here ats reaches can named k to atc atr =
    let number = number_of n s here in
    let from : k ≡ moved_key k0 cursor = some_same k (moved_key k0 cursor) (sym atc ∙ reaches.to k0 number ats) in
    can named k0 to ats atr ∙ ap (λ (l : CohortKey). moved_key l to.binding.cursor) (sym from)

pub moved_seated : (keys : List CohortKey) (seats : List Seat) (ready : List ReadySeat) (n c : ℕ) (cursor : Val) → c < length keys → IsSeated keys seats ready → IsReadyTo keys ready n cursor c → IsSeated keys (map (at n (seat_moved c)) seats) ready
moved_seated keys seats ready n c cursor inside seated pair =
    let reach = all_reach keys seats ready n c cursor seated pair in
    let within = within_of (length keys) seats seated.sound in
    record {
      rise = rise_over (at n (seat_moved c)) (λ s. number_by (is_at n s) s (seat_moved c s) refl) seats seated.rise;
      sound = all_over (IsSound (length keys)) (IsSound (length keys)) (at n (seat_moved c)) (λ s h. sound_by (length keys) (is_at n s) s (seat_moved c s) h (record { within = inside; lives = h.lives })) seats seated.sound;
      movable = all_weaker (IsReady keys seats) (IsReady keys (map (at n (seat_moved c)) seats)) (λ r h. record {
        within = h.within;
        moves = all_over (λ s. (Within (length keys) s × Reaches keys n c cursor s) × CanMove keys r s) (CanMove keys r) (at n (seat_moved c))
            (λ s g. let key = has_key keys s.cohort g.0.0 in can_by keys n c cursor r s key.0 (is_at n s) refl key.1 g.0.1 g.1) seats
            (all_both (λ s. Within (length keys) s × Reaches keys n c cursor s) (CanMove keys r) seats (all_both (Within (length keys)) (Reaches keys n c cursor) seats within reach) h.moves);
      }) ready seated.movable;
    }

-- ---- the search for the pair

pub got_within : (keys : List CohortKey) (c : ℕ) (k : CohortKey) → slice_get keys c ≡ Some k → c < length keys
got_within [] c k is = absurd (cc)
got_within (l ∷ keys) zero k is = omega arith
got_within (l ∷ keys) (suc c) k is = let rest = got_within keys c k is in omega arith

pub ready_within : (keys : List CohortKey) (seats : List Seat) (ready : List ReadySeat) →
    AllByRecursion (IsReady keys seats) ready → AllByRecursion (IsReadyWithin (length keys)) ready
ready_within keys seats = all_weaker (IsReady keys seats) (IsReadyWithin (length keys)) (λ r h. h.within)

contains_rest : {X : Type 0} (x : X) (xs : List X) (p : X) → (x ≡ p → ⊥) → Contains (x ∷ xs) p → Contains xs p
contains_rest x xs p other (zero, within, is) = absurd (other is)
contains_rest x xs p other (suc i, within, is) = (i, omega arith, is)

pub contains_none : {X : Type 0} (xs : List X) (p : X) → xs ≡ [] → Contains xs p → ⊥
contains_none [] p none (i, within, is) = omega arith
contains_none (x ∷ xs) p none among = absurd (cc)

-- a ready seat isn't that of the pair
abbrev pub IsOther : List CohortKey → ℕ → Val → ReadySeat → Type 0
IsOther keys n cursor r =
    (k : CohortKey) → slice_get keys r.cohort ≡ Some k → r.number ≡ n → k.binding.cursor ≡ cursor → ⊥

pub pair_later : (keys : List CohortKey) (ready : List ReadySeat) (i n : ℕ) (cursor : Val) (r : ReadySeat) →
    i < length ready → r ≡ get_or ready i r → r.cohort < length keys → IsOther keys n cursor r →
    Contains (ready_of keys (drop i ready)) (record { number = n; cursor = cursor }) →
    Contains (ready_of keys (drop (i + 1) ready)) (record { number = n; cursor = cursor })
pair_later keys ready i n cursor r inside is within other among =
    let key = has_key keys r.cohort within in
    let here : ready_seen keys r ≡ Some (ready_with r key.0) = rw key.1 refl in
    let split : drop i ready ≡ r ∷ drop (i + 1) ready = drop_at ready i r inside is in
    let pair : Ready = record { number = n; cursor = cursor } in
    let seen_first = ap (ready_of keys) split
    ∙ ap (λ (o : Option Ready). cons_option o (ready_of keys (drop (i + 1) ready))) here in
    contains_rest (ready_with r key.0) (ready_of keys (drop (i + 1) ready)) pair
    (λ same. other key.0 key.1 (ap (λ (q : Ready). q.number) same) (ap (λ (q : Ready). q.cursor) same))
    (subst (λ (rs : List Ready). Contains rs pair) seen_first among)

abbrev pub no_ready : ReadySeat
no_ready = record { number = 0; cohort = 0 }

pub other_number : (keys : List CohortKey) (n : ℕ) (cursor : Val) (r : ReadySeat) → (r.number ≡ n → ⊥) →
    IsOther keys n cursor r
other_number keys n cursor r other k is named reaches = other named

pub other_cursor : (keys : List CohortKey) (n : ℕ) (cursor : Val) (r : ReadySeat) (key : CohortKey) →
    slice_get keys r.cohort ≡ Some key → is_eq (val_cmp key.binding.cursor cursor) ≡ false → IsOther keys n cursor r
other_cursor keys n cursor r key at differs k is named reaches =
    let same : key ≡ k = some_same key k (sym at ∙ is) in
    let equal = is_equal val_cmp val_cmp-total key.binding.cursor cursor (ap (λ (l : CohortKey). l.binding.cursor) same ∙ reaches) in
    absurd (cc)

pub reached : (keys : List CohortKey) (ready : List ReadySeat) (n : ℕ) (cursor : Val) (i : ℕ) (key : CohortKey) →
    i < length ready → (get_or ready i no_ready).number ≡ n →
    slice_get keys (get_or ready i no_ready).cohort ≡ Some key → is_eq (val_cmp key.binding.cursor cursor) ≡ true →
    IsReadyTo keys ready n cursor (get_or ready i no_ready).cohort
reached keys ready n cursor i key inside named is equal = record {
  seat = get_or ready i no_ready;
  key = key;
  among = (i, inside, read_same ready i (get_or ready i no_ready) no_ready inside);
  numbered = named;
  to = refl;
  is = is;
  reaches = val_cmp-exact key.binding.cursor cursor (eq_is (val_cmp key.binding.cursor cursor) equal);
}

-- ---- by a test

both_true : (a b : Bool) → (a && b) ≡ true → (a ≡ true) × (b ≡ true)
both_true true b h = (refl, h)
both_true false b h = cc

one_false : (a b : Bool) → (a && b) ≡ false → (a ≡ false) ⊎ (b ≡ false)
one_false true b h = inr h
one_false false b h = inl refl

pub reached_by : (keys : List CohortKey) (ready : List ReadySeat) (n : ℕ) (cursor : Val) (i : ℕ) (told : Bool) →
    i < length ready → (get_or ready i no_ready).cohort < length keys → told ≡ true →
    TellsReady keys (get_or ready i no_ready) n cursor told → IsReadyTo keys ready n cursor (get_or ready i no_ready).cohort
reached_by keys ready n cursor i told inside within holds tells =
    let r : ReadySeat = get_or ready i no_ready in
    let key = has_key keys r.cohort within in
    let both = both_true (r.number == n) (is_eq (val_cmp key.0.binding.cursor cursor)) (sym (tells key.0 key.1) ∙ holds) in
    reached keys ready n cursor i key.0 inside (eqb-true r.number n both.0) key.1 both.1

pub other_by : (keys : List CohortKey) (n : ℕ) (cursor : Val) (r : ReadySeat) (told : Bool) →
    r.cohort < length keys → told ≡ false → TellsReady keys r n cursor told → IsOther keys n cursor r
other_by keys n cursor r told within fails tells =
    let key = has_key keys r.cohort within in
    elim (one_false (r.number == n) (is_eq (val_cmp key.0.binding.cursor cursor)) (sym (tells key.0 key.1) ∙ fails)) [
      | inl differs ↦ other_number keys n cursor r (λ same. let equal = eq-eqb r.number n same in absurd (cc))
      | inr differs ↦ other_cursor keys n cursor r key.0 key.1 differs
    ]
