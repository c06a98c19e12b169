-- What contracts see of seats, before and after each call.
use Rattle.std.specs.Prelude.{⊤}
use Rattle.std.proofs.Common.{if◌then◌else◌, ◌≡◌, ◌∙◌, ℕ, ◌<◌, zero, suc, Bool, true, false, ◌&&◌, ◌||◌, not, ◌==◌, Option, Some, None, is_some, List, [], ◌∷◌, length, map, refl, sym, ap, arith, eq-eqb}
use Rattle.std.specs.Option.{option_map}
use Rattle.std.specs.List.{AllByRecursion, list_any, find, filter, slice_get}
use Rattle.std.proofs.lemmas.Bool.{eqb-true}
use Rattle.cohort_map.specs.declared.key.CohortKey.{CohortKey}
use Rattle.cohort_map.specs.declared.member.Member.{Member}
use Rattle.cohort_map.specs.declared.seat.Seat.{Seat}
use Rattle.cohort_map.specs.Keys.{same_poller, same_binding}
use Rattle.cohort_map.specs.Entries.{Entry, is_entry, entry_at, has, is_marked, if_kept, ended, left, are_of_one_cohort, is_busy, numbers, is_live_in_cohort_of, with_due, ticked, is_due, due_count}
use Rattle.cohort_map.specs.Batches.{is_member, marked, opened, is_job, unmarked, freed, closed}
use Rattle.cohort_map.specs.Indexed.{AreApart}
use Rattle.cohort_map.specs.Seats.{is_kept, entry_with, seen, entries_of, IsSound, is_at, at, seat_ended, seat_marked, seat_opened, seat_freed, seat_closed, has_job_in, is_cohort_busy, seat_ticked, seat_due, seat_numbers, is_live_in}
use Rattle.cohort_map.proofs.Lists.{onto, passes, seen_over, some_map, any_seen, find_seen, filter_seen}
use Rattle.cohort_map.proofs.Exact.{same_poller-is, same_binding-is}

abbrev pub seen_at : Option CohortKey → Seat → Option Entry
seen_at o s = if is_kept s then option_map (entry_with s) o else None

abbrev pub a_seat : ℕ → ℕ → Bool → Bool → Option ℕ → Seat
a_seat n c l d j = record { number = n; cohort = c; live = l; due = d; job = j }

all_true : (seats : List Seat) → AllByRecursion (λ s. ⊤) seats
all_true [] = tt
all_true (s ∷ seats) = (tt, all_true seats)

onto_by : (kept : Bool) (o : Option CohortKey) (s : Seat) (f g : Entry → Option Entry) → ((k : CohortKey) → f (entry_with s k) ≡ g (entry_with s k)) → onto (if kept then option_map (entry_with s) o else None) f ≡ onto (if kept then option_map (entry_with s) o else None) g
onto_by true None s f g same = refl
onto_by true (Some k) s f g same = same k
onto_by false o s f g same = refl

seen_same : (keys : List CohortKey) (t : Seat) (c : ℕ) → t.cohort ≡ c → seen keys t ≡ seen_at (slice_get keys c) t
seen_same keys t c e = ap (λ (d : ℕ). seen_at (slice_get keys d) t) e

cohort_by : (b : Bool) (s t : Seat) → t.cohort ≡ s.cohort → (if b then t else s).cohort ≡ s.cohort
cohort_by true s t e = e
cohort_by false s t e = refl

onto_same : (o : Option CohortKey) (s : Seat) (f g : Entry → Option Entry) → ((k : CohortKey) → f (entry_with s k) ≡ g (entry_with s k)) → onto (seen_at o s) f ≡ onto (seen_at o s) g
onto_same o s f g same = onto_by (is_kept s) o s f g same

-- ---- an end

ended_cases : (b : Bool) (o : Option CohortKey) (n c : ℕ) (l d : Bool) (j : Option ℕ) →
    seen_at o (if b && is_kept (a_seat n c l d j) then seat_ended (a_seat n c l d j) else a_seat n c l d j) ≡
    onto (seen_at o (a_seat n c l d j)) (λ e. if b then if_kept (record e { live = false; due = false }) else Some e)
ended_cases false None n c true d j = refl
ended_cases false (Some k) n c true d j = refl
ended_cases false o n c false d None = refl
ended_cases false None n c false d (Some i) = refl
ended_cases false (Some k) n c false d (Some i) = refl
ended_cases true None n c true d None = refl
ended_cases true (Some k) n c true d None = refl
ended_cases true None n c true d (Some i) = refl
ended_cases true (Some k) n c true d (Some i) = refl
ended_cases true o n c false d None = refl
ended_cases true None n c false d (Some i) = refl
ended_cases true (Some k) n c false d (Some i) = refl

pub ended_seen : (keys : List CohortKey) (n : ℕ) (s : Seat) → seen keys (at n seat_ended s) ≡ onto (seen keys s) (ended n)
ended_seen keys n s =
    seen_same keys (at n seat_ended s) s.cohort (cohort_by (is_at n s) s (seat_ended s) refl)
    ∙ ended_cases (s.number == n) (slice_get keys s.cohort) s.number s.cohort s.live s.due s.job
    ∙ onto_same (slice_get keys s.cohort) s (λ e. if s.number == n then if_kept (record e { live = false; due = false }) else Some e) (ended n) (λ k. refl)

pub left_seen : (keys : List CohortKey) (n : ℕ) (seats : List Seat) → entries_of keys (map (at n seat_ended) seats) ≡ left n (entries_of keys seats)
left_seen keys n seats = seen_over (λ s. ⊤) (seen keys) (at n seat_ended) (ended n) (λ s _. ended_seen keys n s) seats (all_true seats)

-- ---- opening and closing a job

opened_cases : (b : Bool) (i : ℕ) (o : Option CohortKey) (n c : ℕ) (l d : Bool) (j : Option ℕ) →
    seen_at o (if b && is_kept (a_seat n c l d j) then seat_marked i (a_seat n c l d j) else a_seat n c l d j) ≡
    onto (seen_at o (a_seat n c l d j)) (λ e. Some (if b then record e { due = false; job = Some i } else e))
opened_cases false i None n c true d j = refl
opened_cases false i (Some k) n c true d j = refl
opened_cases false i o n c false d None = refl
opened_cases false i None n c false d (Some m) = refl
opened_cases false i (Some k) n c false d (Some m) = refl
opened_cases true i None n c true d j = refl
opened_cases true i (Some k) n c true d j = refl
opened_cases true i o n c false d None = refl
opened_cases true i None n c false d (Some m) = refl
opened_cases true i (Some k) n c false d (Some m) = refl

pub opened_seen : (keys : List CohortKey) (job : ℕ) (members : List Member) (seats : List Seat) → entries_of keys (map (seat_opened job members) seats) ≡ opened job members (entries_of keys seats)
opened_seen keys job members seats =
    seen_over (λ s. ⊤) (seen keys) (seat_opened job members) (λ e. Some (marked job members e))
    (λ s _. seen_same keys (seat_opened job members s) s.cohort (cohort_by (is_member members s.number && is_kept s) s (seat_marked job s) refl)
    ∙ opened_cases (is_member members s.number) job (slice_get keys s.cohort) s.number s.cohort s.live s.due s.job
    ∙ onto_same (slice_get keys s.cohort) s (λ e. Some (if is_member members s.number then record e { due = false; job = Some job } else e)) (λ e. Some (marked job members e)) (λ k. refl))
    seats (all_true seats)
    ∙ some_map (marked job members) (entries_of keys seats)

closed_cases : (b due : Bool) (o : Option CohortKey) (n c : ℕ) (l d : Bool) (j : Option ℕ) →
    seen_at o (if b then seat_freed due (a_seat n c l d j) else a_seat n c l d j) ≡
    onto (seen_at o (a_seat n c l d j)) (λ e. if b then unmarked due e else Some e)
closed_cases false due None n c true d j = refl
closed_cases false due (Some k) n c true d j = refl
closed_cases false due o n c false d None = refl
closed_cases false due None n c false d (Some m) = refl
closed_cases false due (Some k) n c false d (Some m) = refl
closed_cases true due None n c true d j = refl
closed_cases true due (Some k) n c true d j = refl
closed_cases true due o n c false d None = refl
closed_cases true due None n c false d (Some m) = refl
closed_cases true due (Some k) n c false d (Some m) = refl

pub closed_seen : (keys : List CohortKey) (job : ℕ) (due : Bool) (seats : List Seat) → entries_of keys (map (seat_closed job due) seats) ≡ closed job due (entries_of keys seats)
closed_seen keys job due seats =
    seen_over (λ s. ⊤) (seen keys) (seat_closed job due) (freed job due)
    (λ s _. seen_same keys (seat_closed job due s) s.cohort (cohort_by (is_job job s.job) s (seat_freed due s) refl)
    ∙ closed_cases (is_job job s.job) due (slice_get keys s.cohort) s.number s.cohort s.live s.due s.job
    ∙ onto_same (slice_get keys s.cohort) s (λ e. if is_job job s.job then unmarked due e else Some e) (freed job due) (λ k. refl))
    seats (all_true seats)

ticked_cases : (b : Bool) (o : Option CohortKey) (n c : ℕ) (l d : Bool) (j : Option ℕ) →
    seen_at o (record (a_seat n c l d j) { due = l && not b }) ≡
    onto (seen_at o (a_seat n c l d j)) (λ e. Some (with_due (e.live && not b) e))
ticked_cases b None n c true d j = refl
ticked_cases b (Some k) n c true d j = refl
ticked_cases b o n c false d None = refl
ticked_cases b None n c false d (Some m) = refl
ticked_cases b (Some k) n c false d (Some m) = refl

-- ---- one cohort

bools : (a b : Bool) → (a ≡ true → b ≡ true) → (b ≡ true → a ≡ true) → a ≡ b
bools true true f g = refl
bools true false f g = sym (f refl)
bools false true f g = g refl
bools false false f g = refl

both_true : (a b : Bool) → a ≡ true → b ≡ true → (a && b) ≡ true
both_true true true g h = refl
both_true true false g h = h
both_true false b g h = g

and_left : (a b : Bool) → (a && b) ≡ true → a ≡ true
and_left true b h = refl
and_left false b h = h

and_right : (a b : Bool) → (a && b) ≡ true → b ≡ true
and_right true b h = h
and_right false b h = absurd (cc)

some_is : {X : Type 0} (x y : X) → Some x ≡ Some y → x ≡ y
some_is x y e = cc

abbrev pub same_key : CohortKey → CohortKey → Bool
same_key k l = same_poller k.poller l.poller && same_binding k.binding l.binding

key_of_parts : (k l : CohortKey) → k.poller ≡ l.poller → k.binding ≡ l.binding → k ≡ l
key_of_parts k l p b = λ i. record { poller = p i; binding = b i }

keys_equal : (k l : CohortKey) → same_key k l ≡ true → k ≡ l
keys_equal k l h =
    key_of_parts k l ((same_poller-is k.poller l.poller).0 (and_left _ (same_binding k.binding l.binding) h))
    ((same_binding-is k.binding l.binding).0 (and_right (same_poller k.poller l.poller) _ h))

same_itself : (k l : CohortKey) → k ≡ l → same_key k l ≡ true
same_itself k l e =
    both_true (same_poller k.poller l.poller) (same_binding k.binding l.binding)
    ((same_poller-is k.poller l.poller).1 (ap (λ (m : CohortKey). m.poller) e))
    ((same_binding-is k.binding l.binding).1 (ap (λ (m : CohortKey). m.binding) e))

-- two places hold one key exactly where they are one place
pub one_place : (keys : List CohortKey) (c d : ℕ) (k l : CohortKey) → AreApart keys → slice_get keys c ≡ Some k → slice_get keys d ≡ Some l → (d == c) ≡ same_key k l
one_place keys c d k l apart atc atd =
    bools (d == c) (same_key k l)
    (λ h. same_itself k l (some_is k l (sym atc ∙ ap (slice_get keys) (sym (eqb-true d c h)) ∙ atd)))
    (λ h. let e : k ≡ l = keys_equal k l h in
    eq-eqb d c (apart d c l atd (atc ∙ ap (λ (m : CohortKey). Some m) e)))

pub has_key : (keys : List CohortKey) (c : ℕ) → c < length keys → (k : CohortKey) × (slice_get keys c ≡ Some k)
has_key [] c within = absurd (omega arith)
has_key (k ∷ keys) zero within = (k, refl)
has_key (k ∷ keys) (suc c) within = has_key keys c (omega arith)

not_true : (u : Bool) → (u ≡ true → false ≡ true) → u ≡ false
not_true true h = sym (h refl)
not_true false h = refl

test_by : (kept : Bool) (o : Option CohortKey) (k : CohortKey) (s : Seat) (u : Bool) (t : Entry → Bool) → o ≡ Some k → (u ≡ true → kept ≡ true) → (kept ≡ true → u ≡ t (entry_with s k)) → u ≡ passes t (if kept then option_map (entry_with s) o else None)
test_by true o k s u t is only same = rw is (same refl)
test_by false o k s u t is only same = not_true u only

-- a test of what is seen of a seat
pub test_seen : (keys : List CohortKey) (s : Seat) (u : Bool) (t : Entry → Bool) → s.cohort < length keys → (u ≡ true → is_kept s ≡ true) → ((k : CohortKey) → slice_get keys s.cohort ≡ Some k → is_kept s ≡ true → u ≡ t (entry_with s k)) → u ≡ passes t (seen keys s)
test_seen keys s u t within only same =
    let key = has_key keys s.cohort within in
    test_by (is_kept s) (slice_get keys s.cohort) key.0 s u t key.1 only (same key.0 key.1)

abbrev pub Within : ℕ → Seat → Type 0
Within count s = s.cohort < count

and_true : (b k : Bool) → k ≡ true → (b && k) ≡ b
and_true true true h = refl
and_true false true h = refl
and_true b false h = absurd (cc)

-- the number of what is seen
at_passes : (keys : List CohortKey) (n : ℕ) (s : Seat) → Within (length keys) s → is_at n s ≡ passes (is_entry n) (seen keys s)
at_passes keys n s within =
    test_seen keys s (is_at n s) (is_entry n) within (and_right (s.number == n) (is_kept s)) (λ k is kept. and_true (s.number == n) (is_kept s) kept)

pub has_seen : (keys : List CohortKey) (n : ℕ) (seats : List Seat) → AllByRecursion (Within (length keys)) seats → list_any (is_at n) seats ≡ has n (entries_of keys seats)
has_seen keys n seats all = any_seen (Within (length keys)) (seen keys) (is_at n) (is_entry n) (at_passes keys n) seats all

pub entry_seen : (keys : List CohortKey) (n : ℕ) (seats : List Seat) → AllByRecursion (Within (length keys)) seats → entry_at n (entries_of keys seats) ≡ onto (find (is_at n) seats) (seen keys)
entry_seen keys n seats all = find_seen (Within (length keys)) (seen keys) (is_at n) (is_entry n) (at_passes keys n) seats all

-- what is seen of a seat that isn't empty
pub seen_kept : (keys : List CohortKey) (s : Seat) (k : CohortKey) → slice_get keys s.cohort ≡ Some k → is_kept s ≡ true → seen keys s ≡ Some (entry_with s k)
seen_kept keys s k is kept = rw (kept, is) refl

job_kept : (l : Bool) (j : Option ℕ) → is_some j ≡ true → (l || is_some j) ≡ true
job_kept true j h = refl
job_kept false j h = h

pub live_kept : (l : Bool) (j : Option ℕ) → l ≡ true → (l || is_some j) ≡ true
live_kept true j h = refl
live_kept false j h = absurd (cc)

-- a cohort is busy among the entries as it is among the seats
pub busy_seen : (keys : List CohortKey) (seats : List Seat) (s : Seat) (k : CohortKey) → AreApart keys → AllByRecursion (Within (length keys)) seats → slice_get keys s.cohort ≡ Some k → is_cohort_busy seats s.cohort ≡ is_busy (entries_of keys seats) (entry_with s k)
busy_seen keys seats s k apart all is =
    any_seen (Within (length keys)) (seen keys) (has_job_in s.cohort) (λ other. are_of_one_cohort (entry_with s k) other && is_marked other)
    (λ t within. test_seen keys t (has_job_in s.cohort t) (λ other. are_of_one_cohort (entry_with s k) other && is_marked other) within
    (λ h. job_kept t.live t.job (and_right (t.cohort == s.cohort) (is_some t.job) h))
    (λ l isl kept. ap (λ (b : Bool). b && is_some t.job) (one_place keys s.cohort t.cohort k l apart is isl)))
    seats all

ticked_on : (kept : Bool) (o : Option CohortKey) (k : CohortKey) (s : Seat) (b : Bool) (busy : Entry → Bool) → o ≡ Some k → b ≡ busy (entry_with s k) →
    onto (if kept then option_map (entry_with s) o else None) (λ e. Some (with_due (e.live && not b) e)) ≡
    onto (if kept then option_map (entry_with s) o else None) (λ e. Some (with_due (e.live && not (busy e)) e))
ticked_on true o k s b busy is same = rw (is, same) refl
ticked_on false o k s b busy is same = refl

ticked_seat : (keys : List CohortKey) (seats : List Seat) (s : Seat) → AreApart keys → AllByRecursion (Within (length keys)) seats → Within (length keys) s → seen keys (seat_ticked seats s) ≡ onto (seen keys s) (λ e. Some (with_due (e.live && not (is_busy (entries_of keys seats) e)) e))
ticked_seat keys seats s apart all within =
    let key = has_key keys s.cohort within in
    let busy = busy_seen keys seats s key.0 apart all key.1 in
    let first = seen_same keys (seat_ticked seats s) s.cohort refl in
    let second = ticked_cases (is_cohort_busy seats s.cohort) (slice_get keys s.cohort) s.number s.cohort s.live s.due s.job in
    first ∙ second ∙ ticked_on (is_kept s) (slice_get keys s.cohort) key.0 s (is_cohort_busy seats s.cohort) (is_busy (entries_of keys seats)) key.1 busy

pub ticked_seen : (keys : List CohortKey) (seats : List Seat) → AreApart keys → AllByRecursion (Within (length keys)) seats → entries_of keys (map (seat_ticked seats) seats) ≡ ticked (entries_of keys seats)
ticked_seen keys seats apart all =
    seen_over (Within (length keys)) (seen keys) (seat_ticked seats) (λ e. Some (with_due (e.live && not (is_busy (entries_of keys seats) e)) e))
    (λ s within. ticked_seat keys seats s apart all within) seats all
    ∙ some_map (λ e. with_due (e.live && not (is_busy (entries_of keys seats) e)) e) (entries_of keys seats)

-- ---- lists of numbers

pub numbers_seen : (keys : List CohortKey) (seats : List Seat) → AllByRecursion (Within (length keys)) seats → AllByRecursion (λ s. is_kept s ≡ true) seats → numbers (entries_of keys seats) ≡ seat_numbers seats
numbers_seen keys [] all kept = refl
numbers_seen keys (s ∷ seats) all kept =
    let key = has_key keys s.cohort all.0 in
    rw (seen_kept keys s key.0 key.1 kept.0) (ap (λ (ns : List ℕ). s.number ∷ ns) (numbers_seen keys seats all.1 kept.1))

filtered : {X : Type 0} (P : X → Type 0) (u : X → Bool) (x : X) (xs : List X) (b : Bool) → P x → AllByRecursion P (filter u xs) → AllByRecursion P (if b then x ∷ filter u xs else filter u xs)
filtered P u x xs true p all = (p, all)
filtered P u x xs false p all = all

kept_cons : (s : Seat) (seats : List Seat) (b : Bool) → (b ≡ true → is_kept s ≡ true) → AllByRecursion (λ t. is_kept t ≡ true) seats → AllByRecursion (λ t. is_kept t ≡ true) (if b then s ∷ seats else seats)
kept_cons s seats true only all = (only refl, all)
kept_cons s seats false only all = all

pub all_filter : {X : Type 0} (P : X → Type 0) (u : X → Bool) (xs : List X) → AllByRecursion P xs → AllByRecursion P (filter u xs)
all_filter P u [] all = tt
all_filter P u (x ∷ xs) all = filtered P u x xs (u x) all.0 (all_filter P u xs all.1)

pub kept_filter : (u : Seat → Bool) → ((s : Seat) → u s ≡ true → is_kept s ≡ true) → (seats : List Seat) → AllByRecursion (λ s. is_kept s ≡ true) (filter u seats)
kept_filter u only [] = tt
kept_filter u only (s ∷ seats) = kept_cons s (filter u seats) (u s) (only s) (kept_filter u only seats)

live_passes : (keys : List CohortKey) (s : Seat) (k : CohortKey) (t : Seat) → AreApart keys → slice_get keys s.cohort ≡ Some k → Within (length keys) t → is_live_in s.cohort t ≡ passes (is_live_in_cohort_of (entry_with s k)) (seen keys t)
live_passes keys s k t apart is within =
    test_seen keys t (is_live_in s.cohort t) (is_live_in_cohort_of (entry_with s k)) within
    (λ h. live_kept t.live t.job (and_left t.live (t.cohort == s.cohort) h))
    (λ l isl kept. ap (λ (b : Bool). t.live && b) (one_place keys s.cohort t.cohort k l apart is isl))

pub members_seen : (keys : List CohortKey) (seats : List Seat) (s : Seat) (k : CohortKey) → AreApart keys → AllByRecursion (Within (length keys)) seats → slice_get keys s.cohort ≡ Some k → seat_numbers (filter (is_live_in s.cohort) seats) ≡ numbers (filter (is_live_in_cohort_of (entry_with s k)) (entries_of keys seats))
members_seen keys seats s k apart all is =
    let u = is_live_in s.cohort in
    let only : (t : Seat) → u t ≡ true → is_kept t ≡ true = λ (t : Seat) h. live_kept t.live t.job (and_left t.live (t.cohort == s.cohort) h) in
    sym (numbers_seen keys (filter u seats) (all_filter (Within (length keys)) u seats all) (kept_filter u only seats))
    ∙ ap numbers (sym (filter_seen (Within (length keys)) (seen keys) u (is_live_in_cohort_of (entry_with s k)) (λ t within. live_passes keys s k t apart is within) seats all))

pub length_seen : (keys : List CohortKey) (seats : List Seat) → AllByRecursion (Within (length keys)) seats → AllByRecursion (λ s. is_kept s ≡ true) seats → length (entries_of keys seats) ≡ length seats
length_seen keys [] all kept = refl
length_seen keys (s ∷ seats) all kept =
    let key = has_key keys s.cohort all.0 in
    rw (seen_kept keys s key.0 key.1 kept.0) (ap (λ (n : ℕ). suc n) (length_seen keys seats all.1 kept.1))

due_filter : (count : ℕ) (seats : List Seat) → AllByRecursion (IsSound count) seats → AllByRecursion (λ s. is_kept s ≡ true) (filter seat_due seats)
due_filter count [] all = tt
due_filter count (s ∷ seats) all =
    kept_cons s (filter seat_due seats) (seat_due s) (λ h. live_kept s.live s.job (all.0.lives h)) (due_filter count seats all.1)

pub within_of : (count : ℕ) (seats : List Seat) → AllByRecursion (IsSound count) seats → AllByRecursion (Within count) seats
within_of count [] all = tt
within_of count (s ∷ seats) all = (all.0.within, within_of count seats all.1)

pub due_passes : (keys : List CohortKey) (s : Seat) → IsSound (length keys) s → seat_due s ≡ passes is_due (seen keys s)
due_passes keys s sound =
    test_seen keys s (seat_due s) is_due sound.within (λ h. live_kept s.live s.job (sound.lives h)) (λ k is kept. refl)

pub due_seen : (keys : List CohortKey) (seats : List Seat) → AllByRecursion (IsSound (length keys)) seats → length (filter seat_due seats) ≡ due_count (entries_of keys seats)
due_seen keys seats all =
    sym (length_seen keys (filter seat_due seats) (all_filter (Within (length keys)) seat_due seats (within_of (length keys) seats all)) (due_filter (length keys) seats all))
    ∙ ap length (sym (filter_seen (IsSound (length keys)) (seen keys) seat_due is_due (due_passes keys) seats all))
