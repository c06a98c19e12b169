-- A batch that is found among seats is the batch of what is seen of them.
use Rattle.std.specs.Prelude.{⊤}
use Rattle.std.proofs.Common.{if◌then◌else◌, ◌≡◌, ◌∙◌, is_some, ℕ, ◌+◌, zero, suc, Bool, true, false, ◌&&◌}
use Rattle.std.proofs.Common.{◌||◌, not, ◌==◌, Option, Some, None, List, [], ◌∷◌, ◌++◌, length, take, refl, sym}
use Rattle.std.proofs.Common.{ap, subst, arith}
use Rattle.std.specs.Prelude.{nat_lt}
use Rattle.std.proofs.lemmas.Bool.{lt-ltb, le-ltb}
use Rattle.std.specs.Option.{option_map}
use Rattle.std.specs.List.{AllByRecursion, filter_map, cons_option, list_any, find, filter, position_from, slice_get}
use Rattle.cohort_map.specs.declared.key.CohortKey.{CohortKey}
use Rattle.cohort_map.specs.declared.key.PollerKey.{PollerKey}
use Rattle.plan_model.specs.declared.filter.Binding.{Binding}
use Rattle.cohort_map.specs.declared.seat.Seat.{Seat}
use Rattle.cohort_map.specs.Keys.{same_poller, same_binding}
use Rattle.cohort_map.specs.Entries.{Entry, is_due, are_of_one_cohort}
use Rattle.cohort_map.specs.Batches.{first_of_each, is_due_with, chosen, member_at, member_of, batch_from}
use Rattle.cohort_map.specs.Batches.{batch_of}
use Rattle.cohort_map.specs.Indexed.{AreApart}
use Rattle.cohort_map.specs.Seats.{is_kept, entry_with, seen, entries_of, IsSound, seat_due, member_seen}
use Rattle.cohort_map.specs.Choice.{polled_with, is_among, chosen_cohorts, batch_by}
use Rattle.cohort_map.proofs.Lists.{onto, over_cons, passes, find_seen, filter_seen}
use Rattle.cohort_map.proofs.Views.{Within, has_key, one_place, seen_kept, test_seen, within_of, due_passes, all_filter}

-- ---- cohorts by their places, and by an entry of each

abbrev pub Agree : List CohortKey → List ℕ → List Entry → Type 0
Agree keys [] [] = ⊤
Agree keys (c ∷ cs) (e ∷ es) =
    ((k : CohortKey) × (slice_get keys c ≡ Some k) × (e.poller ≡ k.poller) × (e.binding ≡ k.binding)) × Agree keys cs es
Agree keys [] (e ∷ es) = ⊥
Agree keys (c ∷ cs) [] = ⊥

cohort_of : (keys : List CohortKey) (s : Seat) (k : CohortKey) (c : ℕ) (l : CohortKey) (e : Entry) → AreApart keys
    → slice_get keys s.cohort ≡ Some k → slice_get keys c ≡ Some l → e.poller ≡ l.poller → e.binding ≡ l.binding
    → are_of_one_cohort (entry_with s k) e ≡ (c == s.cohort)
cohort_of keys s k c l e apart ats atc p b =
    ap (λ (q : PollerKey). same_poller k.poller q && same_binding k.binding e.binding) p
    ∙ ap (λ (q : Binding). same_poller k.poller l.poller && same_binding k.binding q) b
    ∙ sym (one_place keys s.cohort c k l apart ats atc)

place_agrees : (keys : List CohortKey) (s : Seat) (k : CohortKey) (cs : List ℕ) (es : List Entry) (i : ℕ)
    → AreApart keys → slice_get keys s.cohort ≡ Some k → Agree keys cs es
    → position_from (are_of_one_cohort (entry_with s k)) i es ≡ position_from (λ c. c == s.cohort) i cs
place_agrees keys s k [] [] i apart is agree = refl
place_agrees keys s k (c ∷ cs) (e ∷ es) i apart is agree =
    let here = cohort_of keys s k c agree.0.0 e apart is agree.0.1 agree.0.2 agree.0.3 in
    let rest = place_agrees keys s k cs es (i + 1) apart is agree.1 in
    rw (here, rest) refl
place_agrees keys s k [] (e ∷ es) i apart is agree = absurd agree
place_agrees keys s k (c ∷ cs) [] i apart is agree = absurd agree

-- ---- members

onto_all : {X Y Z : Type 0} (see : X → Option Y) (f : Y → Option Z) (xs : List X)
    → filter_map f (filter_map see xs) ≡ filter_map (λ x. onto (see x) f) xs
onto_all see f [] = refl
onto_all see f (x ∷ xs) =
    sym (over_cons (see x) f (filter_map see xs)) ∙ ap (cons_option (onto (see x) f)) (onto_all see f xs)

member_by : (l : Bool) (s : Seat) (e : Entry) (o : Option ℕ) → e.number ≡ s.number
    → (if l then member_at e o else None)
    ≡ (if l then option_map (λ place. record { sub = s.number; id = place + 1 }) o else None)
member_by true s e None same = refl
member_by true s e (Some place) same = rw same refl
member_by false s e o same = refl

or_left : (a b : Bool) → (a || b) ≡ false → a ≡ false
or_left true b h = h
or_left false b h = refl

member_on : (keys : List CohortKey) (cs : List ℕ) (es : List Entry) (s : Seat) (k : CohortKey) (kept : Bool)
    → is_kept s ≡ kept → slice_get keys s.cohort ≡ Some k
    → position_from (are_of_one_cohort (entry_with s k)) 0 es ≡ position_from (λ c. c == s.cohort) 0 cs
    → onto (seen keys s) (member_of es) ≡ member_seen cs s
member_on keys cs es s k true kept is same =
    rw (seen_kept keys s k is kept)
    (member_by s.live s (entry_with s k) (position_from (are_of_one_cohort (entry_with s k)) 0 es) refl
    ∙ ap (λ (o : Option ℕ). if s.live then option_map
    (λ place. record { sub = s.number; id = place + 1 }) o else None) same)
member_on keys cs es s k false kept is same = rw (kept, or_left s.live (is_some s.job) kept) refl

member_agrees : (keys : List CohortKey) (cs : List ℕ) (es : List Entry) (s : Seat) → AreApart keys → Agree keys cs es
    → Within (length keys) s → onto (seen keys s) (member_of es) ≡ member_seen cs s
member_agrees keys cs es s apart agree within =
    let key = has_key keys s.cohort within in
    member_on keys cs es s key.0 (is_kept s) refl key.1 (place_agrees keys s key.0 cs es 0 apart key.1 agree)

members_agree : (keys : List CohortKey) (cs : List ℕ) (es : List Entry) (seats : List Seat) → AreApart keys
    → Agree keys cs es → AllByRecursion (Within (length keys)) seats
    → filter_map (λ s. onto (seen keys s) (member_of es)) seats ≡ filter_map (member_seen cs) seats
members_agree keys cs es [] apart agree all = refl
members_agree keys cs es (s ∷ seats) apart agree all =
    rw (member_agrees keys cs es s apart agree all.0, members_agree keys cs es seats apart agree all.1) refl

-- ---- the choice

abbrev pub pick : ℕ → List ℕ → List Seat → List ℕ
pick limit cs [] = cs
pick limit cs (s ∷ seats) =
    pick limit (if nat_lt (length cs) limit && not (is_among s.cohort cs) then cs ++ s.cohort ∷ [] else cs) seats

abbrev pub is_wanted : List CohortKey → ℕ → Seat → Bool
is_wanted keys first s = s.due && polled_with keys first s.cohort

and_false : (b : Bool) → (b && false) ≡ false
and_false true = refl
and_false false = refl

and_true : (b : Bool) → (b && true) ≡ b
and_true true = refl
and_true false = refl

picked_cons : (d p : Bool) (limit : ℕ) (cs : List ℕ) (s : Seat) (rest : List Seat) (go : List ℕ → List ℕ)
    → ((ds : List ℕ) → go ds ≡ pick limit ds rest) →
    go (if nat_lt (length cs) limit && (d && (not (is_among s.cohort cs) && p)) then cs ++ s.cohort ∷ [] else cs)
    ≡ pick limit cs (if d && p then s ∷ rest else rest)
picked_cons true true limit cs s rest go h = rw (and_true (not (is_among s.cohort cs))) (h _)
picked_cons true false limit cs s rest go h =
    rw (and_false (not (is_among s.cohort cs)), and_false (nat_lt (length cs) limit)) (h cs)
picked_cons false p limit cs s rest go h = rw (and_false (nat_lt (length cs) limit)) (h cs)

pub picked : (keys : List CohortKey) (limit first : ℕ) (cs : List ℕ) (seats : List Seat)
    → chosen_cohorts keys limit first cs seats ≡ pick limit cs (filter (is_wanted keys first) seats)
picked keys limit first cs [] = refl
picked keys limit first cs (s ∷ seats) =
    picked_cons s.due (polled_with keys first s.cohort) limit cs s (filter (is_wanted keys first) seats)
    (λ ds. chosen_cohorts keys limit first ds seats) (λ ds. picked keys limit first ds seats)

full : (limit : ℕ) (cs : List ℕ) (seats : List Seat) → nat_lt (length cs) limit ≡ false → pick limit cs seats ≡ cs
full limit cs [] none = refl
full limit cs (s ∷ seats) none = rw none (full limit cs seats none)

-- what is among the cohorts is of the cohort of one of the entries
abbrev pub Covers : List CohortKey → List ℕ → List Entry → Type 0
Covers keys cs es = (s : Seat) (k : CohortKey) → slice_get keys s.cohort ≡ Some k
    → list_any (are_of_one_cohort (entry_with s k)) es ≡ is_among s.cohort cs

or_comm : (a b : Bool) → (a || b) ≡ (b || a)
or_comm true true = refl
or_comm true false = refl
or_comm false true = refl
or_comm false false = refl

swapped : (a b c : Bool) → (a || (b || c)) ≡ (b || (a || c))
swapped true true c = refl
swapped true false c = refl
swapped false b c = refl

among_more : (c d : ℕ) (cs : List ℕ) → is_among c (cs ++ d ∷ []) ≡ ((d == c) || is_among c cs)
among_more c d [] = refl
among_more c d (b ∷ cs) =
    ap (λ (x : Bool). (b == c) || x) (among_more c d cs) ∙ swapped (b == c) (d == c) (is_among c cs)

covers_more : (keys : List CohortKey) (cs : List ℕ) (earlier : List Entry) (t : Seat) (l : CohortKey) → AreApart keys
    → slice_get keys t.cohort ≡ Some l → Covers keys cs earlier
    → Covers keys (cs ++ t.cohort ∷ []) (entry_with t l ∷ earlier)
covers_more keys cs earlier t l apart att covers s k ats =
    ap (λ (x : Bool). x || list_any (are_of_one_cohort (entry_with s k)) earlier)
    (sym (one_place keys s.cohort t.cohort k l apart ats att))
    ∙ ap (λ (x : Bool). (t.cohort == s.cohort) || x) (covers s k ats)
    ∙ sym (among_more s.cohort t.cohort cs)

record Picked (keys : List CohortKey) (limit : ℕ) (cs : List ℕ) (room : ℕ) (earlier : List Entry)
    (seats : List Seat) : Type 0 where
  more : List ℕ
  is : pick limit cs seats ≡ cs ++ more
  agree : Agree keys more (take room (first_of_each earlier (entries_of keys seats)))

append_nil : {X : Type 0} (xs : List X) → xs ≡ xs ++ []
append_nil [] = refl
append_nil (x ∷ xs) = ap (λ (ys : List _). x ∷ ys) (append_nil xs)

take_nil : {X : Type 0} (n : ℕ) (xs : List X) → xs ≡ [] → take n xs ≡ []
take_nil zero xs none = refl
take_nil (suc n) [] none = refl
take_nil (suc n) (x ∷ xs) none = absurd (cc)

append_one : {X : Type 0} (xs : List X) (y : X) (ys : List X) → (xs ++ y ∷ []) ++ ys ≡ xs ++ y ∷ ys
append_one [] y ys = refl
append_one (x ∷ xs) y ys = ap (λ (zs : List _). x ∷ zs) (append_one xs y ys)

length_one : {X : Type 0} (xs : List X) (y : X) → length (xs ++ y ∷ []) ≡ suc (length xs)
length_one [] y = refl
length_one (x ∷ xs) y = ap suc (length_one xs y)

no_room : (m limit : ℕ) → limit ≡ m + 0 → nat_lt m limit ≡ false
no_room m limit h = le-ltb m limit (omega arith)

room_is : (m limit r : ℕ) → limit ≡ m + suc r → nat_lt m limit ≡ true
room_is m limit r h = lt-ltb m limit (omega arith)

agrees_on : (keys : List CohortKey) (limit room : ℕ) (cs : List ℕ) (earlier : List Entry) (s : Seat) (k : CohortKey)
    (seats : List Seat) (b : Bool) → is_among s.cohort cs ≡ b → AreApart keys → Covers keys cs earlier
    → limit ≡ length cs + suc room → AllByRecursion (Within (length keys)) (s ∷ seats)
    → AllByRecursion (λ s. is_kept s ≡ true) (s ∷ seats) → slice_get keys s.cohort ≡ Some k →
    ((ds : List ℕ) (later : List Entry) → Covers keys ds later → limit ≡ length ds + room
    → Picked keys limit ds room later seats) →
    Picked keys limit cs (suc room) earlier seats → Picked keys limit cs (suc room) earlier (s ∷ seats)
agrees_on keys limit room cs earlier s k seats true among apart covers size all kept is taken passed =
    let shown = seen_kept keys s k is kept.0 in
    let old : list_any (are_of_one_cohort (entry_with s k)) earlier ≡ true = covers s k is ∙ among in
    record {
      more = passed.more;
      is = rw (room_is (length cs) limit room size, among) passed.is;
      agree = rw (shown, old) passed.agree;
    }
agrees_on keys limit room cs earlier s k seats false among apart covers size all kept is taken passed =
    let shown = seen_kept keys s k is kept.0 in
    let new : list_any (are_of_one_cohort (entry_with s k)) earlier ≡ false = covers s k is ∙ among in
    let next = taken (cs ++ s.cohort ∷ []) (entry_with s k ∷ earlier) (covers_more keys cs earlier s k apart is covers)
    (rw (length_one cs s.cohort) (omega (arith, size))) in
    record {
      more = s.cohort ∷ next.more;
      is = rw (room_is (length cs) limit room size, among) (next.is ∙ append_one cs s.cohort next.more);
      agree = rw (shown, new) ((k, is, refl, refl), next.agree);
    }

agrees : (keys : List CohortKey) (limit room : ℕ) (cs : List ℕ) (earlier : List Entry) (seats : List Seat)
    → AreApart keys → Covers keys cs earlier → limit ≡ length cs + room → AllByRecursion (Within (length keys)) seats
    → AllByRecursion (λ s. is_kept s ≡ true) seats → Picked keys limit cs room earlier seats
agrees keys limit room cs earlier [] apart covers size all kept =
    record {
      more = [];
      is = append_nil cs;
      agree = subst (λ (es : List Entry). Agree keys [] es)
          (sym (take_nil room (first_of_each earlier []) refl)) tt;
    }
agrees keys limit zero cs earlier (s ∷ seats) apart covers size all kept =
    record { more = []; is = full limit cs (s ∷ seats) (no_room (length cs) limit size) ∙ append_nil cs; agree = tt }
agrees keys limit (suc room) cs earlier (s ∷ seats) apart covers size all kept =
    let key = has_key keys s.cohort all.0 in
    agrees_on keys limit room cs earlier s key.0 seats (is_among s.cohort cs) refl apart covers size all kept key.1
    (λ ds later more sized. agrees keys limit room ds later seats apart more sized all.1 kept.1)
    (agrees keys limit (suc room) cs earlier seats apart covers size all.1 kept.1)

left_true : (a b : Bool) → (a && b) ≡ true → a ≡ true
left_true true b h = refl
left_true false b h = h

pub kept_live : (l : Bool) (j : Option ℕ) → l ≡ true → (l || is_some j) ≡ true
kept_live true j h = refl
kept_live false j h = absurd (cc)

kept_cons : (s : Seat) (seats : List Seat) (b : Bool) → (b ≡ true → is_kept s ≡ true)
    → AllByRecursion (λ t. is_kept t ≡ true) seats
    → AllByRecursion (λ t. is_kept t ≡ true) (if b then s ∷ seats else seats)
kept_cons s seats true only all = (only refl, all)
kept_cons s seats false only all = all

wanted_passes : (keys : List CohortKey) (f : Seat) (k : CohortKey) (s : Seat) → slice_get keys f.cohort ≡ Some k
    → IsSound (length keys) s → is_wanted keys f.cohort s ≡ passes (is_due_with (entry_with f k)) (seen keys s)
wanted_passes keys f k s is sound =
    test_seen keys s (is_wanted keys f.cohort s) (is_due_with (entry_with f k)) sound.within
    (λ h. kept_live s.live s.job (sound.lives (left_true s.due (polled_with keys f.cohort s.cohort) h)))
    (λ l isl kept. ap (λ (b : Bool). s.due && b) (rw (is, isl) refl))

kept_wanted : (keys : List CohortKey) (first : ℕ) (seats : List Seat) → AllByRecursion (IsSound (length keys)) seats
    → AllByRecursion (λ s. is_kept s ≡ true) (filter (is_wanted keys first) seats)
kept_wanted keys first [] all = tt
kept_wanted keys first (s ∷ seats) all =
    kept_cons s (filter (is_wanted keys first) seats) (is_wanted keys first s)
    (λ h. kept_live s.live s.job (all.0.lives (left_true s.due (polled_with keys first s.cohort) h)))
    (kept_wanted keys first seats all.1)

chosen_agree : (keys : List CohortKey) (limit : ℕ) (f : Seat) (k : CohortKey) (seats : List Seat) → AreApart keys
    → AllByRecursion (IsSound (length keys)) seats → slice_get keys f.cohort ≡ Some k
    → Agree keys (chosen_cohorts keys limit f.cohort [] seats) (chosen limit (entries_of keys seats) (entry_with f k))
chosen_agree keys limit f k seats apart all is =
    let wanted = filter (is_wanted keys f.cohort) seats in
    let shown : filter (is_due_with (entry_with f k)) (entries_of keys seats) ≡ entries_of keys wanted =
    filter_seen (IsSound (length keys)) (seen keys) (is_wanted keys f.cohort) (is_due_with (entry_with f k))
    (λ s sound. wanted_passes keys f k s is sound) seats all in
    let done = agrees keys limit limit [] [] wanted apart (λ s l ats. refl) (omega arith)
    (all_filter (Within (length keys)) (is_wanted keys f.cohort) seats (within_of (length keys) seats all))
    (kept_wanted keys f.cohort seats all) in
    let same : chosen_cohorts keys limit f.cohort [] seats ≡ done.more = picked keys limit f.cohort [] seats
    ∙ done.is in
    subst (λ (cs : List ℕ). Agree keys cs (chosen limit (entries_of keys seats) (entry_with f k))) (sym same)
    (subst (λ (es : List Entry). Agree keys done.more (take limit (first_of_each [] es))) (sym shown) done.agree)

batch_agrees : (keys : List CohortKey) (limit : ℕ) (f : Seat) (k : CohortKey) (seats : List Seat) → AreApart keys
    → AllByRecursion (IsSound (length keys)) seats → slice_get keys f.cohort ≡ Some k
    → filter_map (member_seen (chosen_cohorts keys limit f.cohort [] seats)) seats
    ≡ batch_from limit (entries_of keys seats) (Some (entry_with f k))
batch_agrees keys limit f k seats apart all is =
    let agree = chosen_agree keys limit f k seats apart all is in
    sym (members_agree keys (chosen_cohorts keys limit f.cohort [] seats)
    (chosen limit (entries_of keys seats) (entry_with f k)) seats apart agree (within_of (length keys) seats all))
    ∙ sym (onto_all (seen keys) (member_of (chosen limit (entries_of keys seats) (entry_with f k))) seats)

found_cons : (count : ℕ) (t : Seat) (seats : List Seat) (s : Seat) (b : Bool) → t.due ≡ b
    → AllByRecursion (IsSound count) (t ∷ seats) → find seat_due (t ∷ seats) ≡ Some s
    → (find seat_due seats ≡ Some s → IsSound count s × (s.due ≡ true)) → IsSound count s × (s.due ≡ true)
found_cons count t seats s true due all is more =
    let here : Some t ≡ Some s = subst (λ (b : Bool). (if b then Some t else find seat_due seats) ≡ Some s) due is in
    let same : t ≡ s = cc in
    (subst (IsSound count) same all.0, subst (λ (u : Seat). u.due ≡ true) same due)
found_cons count t seats s false due all is more =
    more (subst (λ (b : Bool). (if b then Some t else find seat_due seats) ≡ Some s) due is)

found_due : (count : ℕ) (seats : List Seat) (s : Seat) → AllByRecursion (IsSound count) seats
    → find seat_due seats ≡ Some s → IsSound count s × (s.due ≡ true)
found_due count [] s all is = absurd (cc)
found_due count (t ∷ seats) s all is =
    found_cons count t seats s t.due refl all is (λ rest. found_due count seats s all.1 rest)

batch_on : (keys : List CohortKey) (limit : ℕ) (seats : List Seat) (o : Option Seat) → find seat_due seats ≡ o
    → AreApart keys → AllByRecursion (IsSound (length keys)) seats
    → find is_due (entries_of keys seats) ≡ onto (find seat_due seats) (seen keys)
    → batch_by keys limit seats o ≡ batch_of limit (entries_of keys seats)
batch_on keys limit seats None is apart all shown =
    ap (batch_from limit (entries_of keys seats)) (sym (shown ∙ ap (λ (o : Option Seat). onto o (seen keys)) is))
batch_on keys limit seats (Some f) is apart all shown =
    let found = found_due (length keys) seats f all is in
    let key = has_key keys f.cohort found.0.within in
    let entry = seen_kept keys f key.0 key.1 (kept_live f.live f.job (found.0.lives found.1)) in
    batch_agrees keys limit f key.0 seats apart all key.1
    ∙ ap (batch_from limit (entries_of keys seats))
    (sym (shown ∙ ap (λ (o : Option Seat). onto o (seen keys)) is ∙ entry))

pub batch_seen : (keys : List CohortKey) (limit : ℕ) (seats : List Seat) → AreApart keys
    → AllByRecursion (IsSound (length keys)) seats
    → batch_by keys limit seats (find seat_due seats) ≡ batch_of limit (entries_of keys seats)
batch_seen keys limit seats apart all =
    batch_on keys limit seats (find seat_due seats) refl apart all
    (find_seen (IsSound (length keys)) (seen keys) seat_due is_due (due_passes keys) seats all)
