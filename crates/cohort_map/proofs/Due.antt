-- The first due seat, and the choice of a batch from it on and by lists of places.
use Rattle.std.specs.Prelude.{nat_lt}
use Rattle.std.proofs.Common.{if◌then◌else◌, ◌≡◌, ◌∙◌, ℕ, ◌<◌, ◌≤◌, ◌+◌, ◌-◌, zero, suc, Bool, true, false, ◌&&◌, ◌||◌}
use Rattle.std.proofs.Common.{◌==◌, Option, Some, None, is_some, List, [], ◌∷◌, ◌++◌, length, map, drop, take, get_or}
use Rattle.std.proofs.Common.{eq-eqb, refl, sym, ap, subst, arith, ◌⊎◌, inl, inr}
use Rattle.std.specs.Option.{option_map, option_to_list}
use Rattle.std.proofs.lemmas.Bool.{cases_eq, eqb-true, le-ltb}
use Rattle.std.specs.List.Sorted.{IsStrictlyIncreasing}
use Rattle.std.proofs.lemmas.List.{take_more, take_rest, drop_more}
use Rattle.std.proofs.lemmas.List.Elements.{recursion_from_All, Contains-append_left, Contains-append_right}
use Rattle.std.proofs.lemmas.List.Kept.{AllPairs-from_increasing}
use Rattle.std.specs.List.{AllByRecursion, AllPairs, Contains, find, filter_map, cons_option, position_from, slice_get}
use Rattle.place_list.specs.Places.{Places, Ascends, Covers, read_at}
use Rattle.place_list.proofs.Reading.{read_map, read_filter}
use Rattle.cohort_map.specs.declared.key.CohortKey.{CohortKey}
use Rattle.cohort_map.specs.declared.member.Member.{Member}
use Rattle.cohort_map.specs.declared.seat.Seat.{Seat}
use Rattle.cohort_map.specs.Batches.{is_member, is_job}
use Rattle.cohort_map.specs.Seats.{IsSound, is_kept, is_at, at, seat_due, seat_ended, seat_marked, seat_opened}
use Rattle.cohort_map.specs.Seats.{seat_moved, seat_freed, seat_closed, member_seen}
use Rattle.cohort_map.specs.Choice.{polled_by, polled_with, is_among, is_next, with_cohort, chosen_cohorts, cohorts_by}
use Rattle.cohort_map.specs.Choice.{batch_by}
use Rattle.cohort_map.specs.Listed.{is_of_job, Lists, AreListed, NoneDue, IsKnown, IsFirstDue, is_in, HasPlaces}
use Rattle.cohort_map.specs.Listed.{Gathers, IsLowered, no_seat, seen_by, seen_at}
use Rattle.place_list.proofs.Ascending.{above_at}
use Rattle.cohort_map.specs.Polled.{is_polled, is_of, HasRest}
use Rattle.cohort_map.proofs.Chosen.{pick, picked, is_wanted, kept_live}
use Rattle.cohort_map.proofs.Listing.{all_got, from_map, from_push, has_item, IsFront}

some_same : {X : Type 0} (x y : X) → Some x ≡ Some y → x ≡ y
some_same x y e = cc

both_true : (a b : Bool) → (a && b) ≡ true → (a ≡ true) × (b ≡ true)
both_true true b h = (refl, h)
both_true false b h = absurd (cc)

both : (a b : Bool) → a ≡ true → b ≡ true → (a && b) ≡ true
both true b h k = k
both false b h k = absurd (cc)

-- ---- the first due seat

rests : (n : ℕ) (s : Seat) (seats : List Seat) → NoneDue (suc n) (s ∷ seats) → s.due ≡ true → ⊥
rests n s seats none due = let least = none 0 s refl due in absurd (omega arith)

not_due_by : (b : Bool) → (b ≡ true → ⊥) → b ≡ false
not_due_by true never = absurd (never refl)
not_due_by false never = refl

pub none_later : (n : ℕ) (s : Seat) (seats : List Seat) → NoneDue (suc n) (s ∷ seats) → NoneDue n seats
none_later n s seats none i t at due = let least = none (suc i) t at due in omega arith

pub find_first : (seats : List Seat) (p : ℕ) (s : Seat) → NoneDue p seats → slice_get seats p ≡ Some s → s.due ≡ true
    → find seat_due seats ≡ Some s
find_first [] p s none at due = absurd (cc)
find_first (t ∷ seats) zero s none at due =
    let same : t ≡ s = some_same t s at in
    let here : t.due ≡ true = ap (λ (u : Seat). u.due) same ∙ due in
    ap (λ (b : Bool). if b then Some t else find seat_due seats) here ∙ at
find_first (t ∷ seats) (suc p) s none at due =
    rw (not_due_by t.due (rests p t seats none)) (find_first seats p s (none_later p t seats none) at due)

pub find_nobody : (seats : List Seat) (p : ℕ) → NoneDue p seats → length seats ≤ p → find seat_due seats ≡ None
find_nobody [] p none past = refl
find_nobody (t ∷ seats) zero none past = absurd (omega arith)
find_nobody (t ∷ seats) (suc p) none past =
    rw (not_due_by t.due (rests p t seats none)) (find_nobody seats p (none_later p t seats none) (omega arith))

at_place : (seats : List Seat) (p : ℕ) (s : Seat) → slice_get seats p ≡ Some s → get_or seats p no_seat ≡ s
at_place [] p s at = absurd (cc)
at_place (t ∷ seats) zero s at = some_same t s at
at_place (t ∷ seats) (suc p) s at = at_place seats p s at

pub none_more : (seats : List Seat) (p : ℕ) → NoneDue p seats → (get_or seats p no_seat).due ≡ false
    → NoneDue (p + 1) seats
none_more seats p none rest i s at due =
    let least = none i s at due in
    elim (cases_eq i p) [
      | inl same ↦ (let here = at_place seats p s (subst (λ (k : ℕ). slice_get seats k ≡ Some s) same at) in
          let wrong : false ≡ true = sym rest ∙ ap (λ (t : Seat). t.due) here ∙ due in
          absurd (cc))
      | inr apart ↦ omega arith
    ]

pub first_at : (seats : List Seat) (p : ℕ) → NoneDue p seats → p < length seats → (get_or seats p no_seat).due ≡ true
    → IsFirstDue seats p
first_at seats p none within due =
    let item = has_item seats p within in
    let same = at_place seats p item.0 item.1 in
    record {
      seat = item.0;
      at = item.1;
      is = find_first seats p item.0 none item.1 (ap (λ (s : Seat). s.due) (sym same) ∙ due);
      before = none;
    }

-- ---- no more seats are due

abbrev pub KeepsDue : (Seat → Seat) → Type 0
KeepsDue g = (s : Seat) → (g s).due ≡ true → s.due ≡ true

pub none_over : (g : Seat → Seat) (p : ℕ) (seats : List Seat) → KeepsDue g → NoneDue p seats → NoneDue p (map g seats)
none_over g p seats keeps none i t at due =
    let from = from_map g seats i t at in
    none i from.0 from.1 (keeps from.0 (ap (λ (s : Seat). s.due) from.2 ∙ due))

ended_due_by : (b : Bool) (s : Seat) → (if b then seat_ended s else s).due ≡ true → s.due ≡ true
ended_due_by true s due = absurd (cc)
ended_due_by false s due = due

pub ended_due : (n : ℕ) → KeepsDue (at n seat_ended)
ended_due n s = ended_due_by (is_at n s) s

opened_due_by : (b : Bool) (job : ℕ) (s : Seat) → (if b then seat_marked job s else s).due ≡ true → s.due ≡ true
opened_due_by true job s due = absurd (cc)
opened_due_by false job s due = due

pub opened_due : (job : ℕ) (members : List Member) → KeepsDue (seat_opened job members)
opened_due job members s = opened_due_by (is_member members s.number && is_kept s) job s

moved_due_by : (b : Bool) (c : ℕ) (s : Seat) → (if b then seat_moved c s else s).due ≡ true → s.due ≡ true
moved_due_by true c s due = due
moved_due_by false c s due = due

pub moved_due : (n c : ℕ) → KeepsDue (at n (seat_moved c))
moved_due n c s = moved_due_by (is_at n s) c s

freed_due : (l d : Bool) → (l && (d || false)) ≡ true → d ≡ true
freed_due true true h = refl
freed_due true false h = h
freed_due false d h = absurd (cc)

closed_due_by : (b due : Bool) (s : Seat) → (if b then seat_freed due s else s).due ≡ true
    → (s.due ≡ true) ⊎ ((b ≡ true) × (due ≡ true))
closed_due_by true true s h = inr (refl, refl)
closed_due_by true false s h = inl (freed_due s.live s.due h)
closed_due_by false due s h = inl h

below_all : (job first lowered i : ℕ) (seats : List Seat) (s : Seat) (l : Places) (due c : Bool) → l.complete ≡ c
    → due ≡ true
    → Lists (is_of_job job) seats l → IsLowered first l due lowered → slice_get seats i ≡ Some s
    → is_of_job job s ≡ true
    → lowered ≤ i
below_all job first lowered i seats s l due true complete is lists low at holds =
    low.places is complete i (lists complete i s at holds)
below_all job first lowered i seats s l due false complete is lists low at holds =
    let none = low.all is complete in
    omega arith

pub closed_first : (seats : List Seat) (job : ℕ) (due : Bool) (first lowered : ℕ) (l : Places) → NoneDue first seats
    → Lists (is_of_job job) seats l → IsLowered first l due lowered → NoneDue lowered (map (seat_closed job due) seats)
closed_first seats job due first lowered l none lists low i t at h =
    let from = from_map (seat_closed job due) seats i t at in
    elim (closed_due_by (is_job job from.0.job) due from.0 (ap (λ (s : Seat). s.due) from.2 ∙ h)) [
      | inl before ↦ (let least = none i from.0 from.1 before in let lower = low.most in omega arith)
      | inr now ↦ below_all job first lowered i seats from.0 l due l.complete refl now.1 lists low from.1 now.0
    ]

pub push_first : (seats : List Seat) (s : Seat) (first : ℕ) → s.due ≡ false → NoneDue first seats
    → NoneDue first (seats ++ s ∷ [])
push_first seats s first idle none i t at due =
    elim (from_push seats s i t at) [
      | inl old ↦ none i t old due
      | inr here ↦ (let wrong : false ≡ true = sym idle ∙ ap (λ (u : Seat). u.due) here.1 ∙ due in absurd (cc))
    ]

pub front_first : (before after : List Seat) (first : ℕ) → IsFront before after → NoneDue first before
    → NoneDue first after
front_first before after first front none i s at due = none i s (front i s at) due

pub none_before_start : (seats : List Seat) → NoneDue 0 seats
none_before_start seats i s at due = omega arith

pub least_of : (ps : List ℕ) (x p : ℕ) → Ascends ps → slice_get ps 0 ≡ Some x → Contains ps p → x ≤ p
least_of [] x p up is has = absurd (cc)
least_of (q ∷ ps) x p up is (zero, within, same) = let first : q ≡ x = some_same q x is in omega arith
least_of (q ∷ ps) x p up is (suc k, within, same) =
    let first : q ≡ x = some_same q x is in
    let less : q < get_or ps k p = above_at q ps k p up.0 (omega arith) in
    omega arith

-- ---- the choice of cohorts

and_none : (a b : Bool) → b ≡ false → (a && b) ≡ false
and_none true b h = h
and_none false b h = refl

no_cohort : (keys : List CohortKey) (limit first : ℕ) (cs : List ℕ) (s : Seat) → s.due ≡ false
    → with_cohort keys limit first cs s ≡ cs
no_cohort keys limit first cs s rest =
    let next : is_next keys limit first cs s ≡ false =
    and_none (nat_lt (length cs) limit) _ (rw rest refl) in
    ap (λ (b : Bool). if b then cs ++ s.cohort ∷ [] else cs) next

pub chosen_drop : (keys : List CohortKey) (limit first : ℕ) (cs : List ℕ) (seats : List Seat) (p : ℕ) → NoneDue p seats
    → chosen_cohorts keys limit first cs (drop p seats) ≡ chosen_cohorts keys limit first cs seats
chosen_drop keys limit first cs seats zero none = refl
chosen_drop keys limit first cs [] (suc p) none = refl
chosen_drop keys limit first cs (s ∷ seats) (suc p) none =
    let same = no_cohort keys limit first cs s (not_due_by s.due (rests p s seats none)) in
    chosen_drop keys limit first cs seats p (none_later p s seats none)
    ∙ ap (λ (ds : List ℕ). chosen_cohorts keys limit first ds seats) (sym same)

pub batch_is : (keys : List CohortKey) (limit : ℕ) (seats : List Seat) (o : Option Seat) (f : Seat) → o ≡ Some f
    → filter_map (member_seen (cohorts_by keys limit seats o)) seats ≡ batch_by keys limit seats o
batch_is keys limit seats (Some g) f is = refl
batch_is keys limit seats None f is = absurd (cc)

pub first_cohort : (P : ℕ → Type 0) (seats : List Seat) (p : ℕ) → IsFirstDue seats p
    → AllByRecursion (λ s. P s.cohort) seats
    → P (get_or seats p no_seat).cohort
first_cohort P seats p first all =
    subst (λ (s : Seat). P s.cohort) (sym (at_place seats p first.seat first.at))
    (all_got (λ s. P s.cohort) seats p first.seat all first.at)

pub chosen_from : (keys : List CohortKey) (limit c : ℕ) (seats : List Seat) (p : ℕ) → IsFirstDue seats p
    → c ≡ (get_or seats p no_seat).cohort
    → chosen_cohorts keys limit c [] (take (length seats - p) (drop p seats)) ≡ cohorts_by keys limit seats
    (find seat_due seats)
chosen_from keys limit c seats p first is =
    let of : c ≡ first.seat.cohort = is ∙ ap (λ (s : Seat). s.cohort) (at_place seats p first.seat first.at) in
    ap (chosen_cohorts keys limit c []) (take_rest seats p)
    ∙ chosen_drop keys limit c [] seats p first.before
    ∙ ap (λ (d : ℕ). chosen_cohorts keys limit d [] seats) of
    ∙ ap (cohorts_by keys limit seats) (sym first.is)

same_polled : (k : CohortKey) (o : Option CohortKey) → polled_by (Some k) o ≡ is_polled k.poller o
same_polled k None = refl
same_polled k (Some l) = refl

wanted_of : (keys : List CohortKey) (c : ℕ) (k : CohortKey) (s : Seat) → slice_get keys c ≡ Some k
    → (s.due ≡ true → s.live ≡ true) → is_wanted keys c s ≡ true → is_of keys k.poller s ≡ true
wanted_of keys c k s at lives wanted =
    let parts = both_true s.due (polled_with keys c s.cohort) wanted in
    let polled : is_polled k.poller (slice_get keys s.cohort) ≡ true =
    sym (same_polled k (slice_get keys s.cohort))
    ∙ ap (λ (o : Option CohortKey). polled_by o (slice_get keys s.cohort)) (sym at) ∙ parts.1 in
    both (is_kept s) (is_polled k.poller (slice_get keys s.cohort)) (kept_live s.live s.job (lives parts.0)) polled

wanted_covers : (keys : List CohortKey) (c : ℕ) (k : CohortKey) (seats : List Seat) (first : ℕ) (places : List ℕ)
    → slice_get keys c ≡ Some k → AllByRecursion (IsSound (length keys)) seats → NoneDue first seats
    → HasRest keys k.poller seats first places → Covers (is_wanted keys c) seats places
wanted_covers keys c k seats first places at sound none rest i s is wanted =
    let lives = (all_got (IsSound (length keys)) seats i s sound is).lives in
    let due = (both_true s.due (polled_with keys c s.cohort) wanted).0 in
    rest.covers i s is (wanted_of keys c k s at lives wanted) (none i s is due)

-- the cohorts that are chosen by a poller's list
pub chosen_listed : (keys : List CohortKey) (limit c : ℕ) (k : CohortKey) (seats : List Seat) (p : ℕ) (places : List ℕ)
    → IsFirstDue seats p → c ≡ (get_or seats p no_seat).cohort → slice_get keys c ≡ Some k
    → AllByRecursion (IsSound (length keys)) seats → HasRest keys k.poller seats p places
    → chosen_cohorts keys limit c [] (read_at seats places) ≡ cohorts_by keys limit seats (find seat_due seats)
chosen_listed keys limit c k seats p places first is at sound rest =
    let of : c ≡ first.seat.cohort = is ∙ ap (λ (s : Seat). s.cohort) (at_place seats p first.seat first.at) in
    let covers = wanted_covers keys c k seats p places at sound first.before rest in
    picked keys limit c [] (read_at seats places)
    ∙ ap (pick limit []) (read_filter (is_wanted keys c) (is_wanted keys c) seats places rest.ascend covers (λ s h. h))
    ∙ sym (picked keys limit c [] seats)
    ∙ ap (λ (d : ℕ). chosen_cohorts keys limit d [] seats) of
    ∙ ap (cohorts_by keys limit seats) (sym first.is)

full_cohort : (keys : List CohortKey) (limit first : ℕ) (cs : List ℕ) (s : Seat) → limit ≤ length cs
    → with_cohort keys limit first cs s ≡ cs
full_cohort keys limit first cs s full =
    let next : is_next keys limit first cs s ≡ false = rw (le-ltb (length cs) limit full) refl in
    ap (λ (b : Bool). if b then cs ++ s.cohort ∷ [] else cs) next

pub chosen_full : (keys : List CohortKey) (limit first : ℕ) (cs : List ℕ) (seats : List Seat) → limit ≤ length cs
    → cs ≡ chosen_cohorts keys limit first cs seats
chosen_full keys limit first cs [] full = refl
chosen_full keys limit first cs (s ∷ seats) full =
    chosen_full keys limit first cs seats full
    ∙ ap (λ (ds : List ℕ). chosen_cohorts keys limit first ds seats) (sym (full_cohort keys limit first cs s full))

-- ---- members by lists

cons_is : {X : Type 0} (ms : List X) (o : Option X) (rest : List X)
    → (ms ++ option_to_list o) ++ rest ≡ ms ++ cons_option o rest
cons_is [] None rest = refl
cons_is [] (Some m) rest = refl
cons_is (n ∷ ms) o rest = ap (λ (ns : List _). n ∷ ns) (cons_is ms o rest)

pub seen_more : {X Y : Type 0} (f : X → Option Y) (ms ns : List Y) (all : List Y) (x : X) (xs : List X)
    → ns ≡ ms ++ option_to_list (f x) → ms ++ filter_map f (x ∷ xs) ≡ all → ns ++ filter_map f xs ≡ all
seen_more f ms ns all x xs is so =
    ap (λ (ks : List _). ks ++ filter_map f xs) is ∙ cons_is ms (f x) (filter_map f xs) ∙ so

among_by : (c i d : ℕ) (cohorts : List ℕ) (b : Bool)
    → is_some (if b then Some i else position_from (λ e. e == c) (i + 1) cohorts) ≡ true
    → (is_some (position_from (λ e. e == c) (i + 1) cohorts) ≡ true → is_among c cohorts ≡ true)
    → (b || is_among c cohorts) ≡ true
among_by c i d cohorts true some rest = refl
among_by c i d cohorts false some rest = rest some

pub seen_step : {X Y : Type 0} (f : X → Option Y) (ms ns : List Y) (all : List Y) (xs : List X) (i : ℕ) (d : X)
    → i < length xs → ns ≡ ms ++ option_to_list (f (get_or xs i d)) → ms ++ filter_map f (drop i xs) ≡ all
    → ns ++ filter_map f (drop (i + 1) xs) ≡ all
seen_step f ms ns all xs i d within is so =
    seen_more f ms ns all (get_or xs i d) (drop (i + 1) xs) is
    (ap (λ (ys : List _). ms ++ filter_map f ys) (sym (drop_more xs i d within)) ∙ so)

placed_among : (c : ℕ) (i : ℕ) (cohorts : List ℕ) → is_some (position_from (λ d. d == c) i cohorts) ≡ true
    → is_among c cohorts ≡ true
placed_among c i [] some = absurd (cc)
placed_among c i (d ∷ cohorts) some = among_by c i d cohorts (d == c) some (placed_among c (i + 1) cohorts)

map_some : {X Y : Type 0} (f : X → Y) (o : Option X) → is_some (option_map f o) ≡ true → is_some o ≡ true
map_some f None some = some
map_some f (Some x) some = refl

seen_in_by : (l : Bool) (j : Option ℕ) (n c : ℕ) (cohorts : List ℕ)
    → is_some {T = Member} (if l then option_map (λ place. record { sub = n; id = place + 1 })
    (position_from (λ d. d == c) 0 cohorts) else None) ≡ true
    → ((l || is_some j) && is_among c cohorts) ≡ true
seen_in_by true j n c cohorts some = placed_among c 0 cohorts (map_some _ (position_from (λ d. d == c) 0 cohorts) some)
seen_in_by false j n c cohorts some = absurd (cc)

pub seen_in : (cohorts : List ℕ) (s : Seat) → is_some (member_seen cohorts s) ≡ true → is_in cohorts s ≡ true
seen_in cohorts s some = seen_in_by s.live s.job s.number s.cohort cohorts some

one_read : (cohorts : List ℕ) (o : Option Seat) (ms : List Member) (xs : List Seat)
    → ms ≡ filter_map (member_seen cohorts) xs
    → cons_option (seen_by cohorts o) ms ≡ filter_map (member_seen cohorts) (cons_option o xs)
one_read cohorts None ms xs same = same
one_read cohorts (Some s) ms xs same = ap (cons_option (member_seen cohorts s)) same

all_read : (cohorts : List ℕ) (seats : List Seat) (ps : List ℕ)
    → filter_map (seen_at cohorts seats) ps ≡ filter_map (member_seen cohorts) (read_at seats ps)
all_read cohorts seats [] = refl
all_read cohorts seats (p ∷ ps) =
    one_read cohorts (slice_get seats p) (filter_map (seen_at cohorts seats) ps) (read_at seats ps)
    (all_read cohorts seats ps)

pub members_read : (seats : List Seat) (cohorts ps : List ℕ) → HasPlaces seats cohorts ps
    → filter_map (seen_at cohorts seats) ps ≡ filter_map (member_seen cohorts) seats
members_read seats cohorts ps has =
    all_read cohorts seats ps
    ∙ read_map (member_seen cohorts) (is_in cohorts) seats ps has.ascend has.covers (seen_in cohorts)

-- ---- lists that are put together

self_equal : (n : ℕ) → (n == n) ≡ true
self_equal n = eq-eqb n n refl

pub gathered_covers : (seats : List Seat) (lists : List Places) (cohorts ps : List ℕ) → AreListed seats lists
    → Gathers lists cohorts ps → Covers (is_in cohorts) seats ps
gathered_covers seats lists cohorts ps listed gathers i s at holds =
    let parts = both_true (is_kept s) (is_among s.cohort cohorts) holds in
    let from = gathers s.cohort parts.1 in
    let here = both (is_kept s) (s.cohort == s.cohort) parts.0 (self_equal s.cohort) in
    from.3 i (listed s.cohort from.0 from.1 from.2 i s at here)

pub gathers_none : (lists : List Places) (all : List ℕ) → Gathers lists [] all
gathers_none lists all c among = absurd (cc)

or_last : (b a : Bool) → (b || (a || false)) ≡ true → (b ≡ true) ⊎ (a ≡ true)
or_last true a h = inl refl
or_last false true h = inr refl
or_last false false h = absurd (cc)

among_later : (d c : ℕ) (b : Bool) (cs : List ℕ) (x : ℕ) → (d == c) ≡ b → (b || is_among c (cs ++ x ∷ [])) ≡ true
    → (is_among c (cs ++ x ∷ []) ≡ true → (is_among c cs ≡ true) ⊎ (x ≡ c))
    → (is_among c (d ∷ cs) ≡ true) ⊎ (x ≡ c)
among_later d c true cs x is h rest = inl (rw is refl)
among_later d c false cs x is h rest =
    elim (rest h) [ inl old ↦ inl (rw is old) | inr last ↦ inr last ]

among_push : (c : ℕ) (cs : List ℕ) (x : ℕ) → is_among c (cs ++ x ∷ []) ≡ true → (is_among c cs ≡ true) ⊎ (x ≡ c)
among_push c [] x h = elim (or_last false (x == c) h) [ inl never ↦ absurd (cc) | inr same ↦ inr (eqb-true x c same) ]
among_push c (d ∷ cs) x h = among_later d c (d == c) cs x refl h (among_push c cs x)

gathers_push : (lists : List Places) (cs : List ℕ) (x : ℕ) (all ps new : List ℕ) → IsKnown lists x ps → new ≡ all ++ ps
    → Gathers lists cs all → Gathers lists (cs ++ x ∷ []) new
gathers_push lists cs x all ps new known is gathers c among =
    elim (among_push c cs x among) [
      | inl old ↦ (let from = gathers c old in (
        from.0,
        from.1,
        from.2,
        (λ p has. subst (λ (qs : List ℕ). Contains qs p) (sym is)
            (Contains-append_left all ps p (from.3 p has))),
      ))
      | inr last ↦ (
        known.list,
        subst (λ (d : ℕ). slice_get lists d ≡ Some known.list) last known.at,
        known.complete.complete,
        (λ p has. subst (λ (qs : List ℕ). Contains qs p) (sym is)
            (Contains-append_right all ps p (subst (λ (qs : List ℕ). Contains qs p) (sym known.complete.is) has))),
      )
    ]

pub gathers_more : (lists : List Places) (cohorts : List ℕ) (i d : ℕ) (all new ps : List ℕ) → i < length cohorts
    → IsKnown lists (get_or cohorts i d) ps → new ≡ all ++ ps → Gathers lists (take i cohorts) all
    → Gathers lists (take (i + 1) cohorts) new
gathers_more lists cohorts i d all new ps within known is gathers =
    subst (λ (cs : List ℕ). Gathers lists cs new) (sym (take_more cohorts i d within))
    (gathers_push lists (take i cohorts) (get_or cohorts i d) all ps new known is gathers)

pairs_ascend : (ps : List ℕ) → AllPairs (λ x y. x < y) ps → Ascends ps
pairs_ascend [] pairs = tt
pairs_ascend (p ∷ ps) pairs = (
  recursion_from_All (λ q. p < q) ps (λ k d within. pairs 0 (suc k) d (omega arith) (omega arith)),
  pairs_ascend ps (λ i j d less within. pairs (suc i) (suc j) d (omega arith) (omega arith)),
)

pub increasing_ascends : (ps : List ℕ) → IsStrictlyIncreasing ps → Ascends ps
increasing_ascends ps rises = pairs_ascend ps (AllPairs-from_increasing ps rises)

pub gathered_places : (seats : List Seat) (lists : List Places) (cohorts ps ordered : List ℕ) → AreListed seats lists
    → Gathers lists cohorts ps → Ascends ordered → ((p : ℕ) → Contains ps p → Contains ordered p)
    → HasPlaces seats cohorts ordered
gathered_places seats lists cohorts ps ordered listed gathers up keeps = record {
  ascend = up;
  covers = λ i s at holds. keeps i (gathered_covers seats lists cohorts ps listed gathers i s at holds);
}

pub past_end : {X : Type 0} (xs : List X) (i : ℕ) → length xs ≤ i → None ≡ slice_get xs i
past_end [] i past = refl
past_end (x ∷ xs) zero past = absurd (omega arith)
past_end (x ∷ xs) (suc i) past = past_end xs i (omega arith)
