-- Lists of places, kept by each change of seats.
use Rattle.std.proofs.Common.{if◌then◌else◌, ◌≡◌, ◌∙◌, ℕ, ◌<◌, ◌≤◌, zero, suc, Bool, true, false, ◌&&◌, ◌||◌, not, ◌==◌}
use Rattle.std.proofs.Common.{Option, Some, None, is_some, List, [], ◌∷◌, ◌++◌, length, map, get_or, refl, sym, ap}
use Rattle.std.proofs.Common.{subst, arith, ◌⊎◌, inl, inr}
use Rattle.std.proofs.Math.ListN.{set}
use Rattle.std.proofs.lemmas.Bool.{cases_eq, eqb-true}
use Rattle.std.specs.BTreeMap.{BTreeMap, get}
use Rattle.std.specs.Ordering.{nat_cmp}
use Rattle.std.specs.List.{AllByRecursion, Contains, list_any, filter, filter_map, cons_option, slice_get}
use Rattle.place_list.specs.Places.{Places, Covers, read_at}
use Rattle.place_list.proofs.Reading.{read_filter, read_any}
use Rattle.cohort_map.specs.declared.seat.Seat.{Seat}
use Rattle.cohort_map.specs.declared.member.Member.{Member}
use Rattle.cohort_map.specs.Batches.{is_member, is_job}
use Rattle.cohort_map.specs.Seats.{is_kept, is_at, at, IsCut, IsWithin, seat_ended, seat_marked, seat_opened}
use Rattle.cohort_map.specs.Seats.{seat_freed, seat_closed, seat_moved, seat_ticked, has_job_in, is_cohort_busy}
use Rattle.cohort_map.specs.Seats.{is_live_in, seat_numbers}
use Rattle.cohort_map.specs.Listed.{belongs, is_of_job, live_by, live_at, busy_by, busy_at, AreHeld, Lists, AreListed}
use Rattle.cohort_map.specs.Listed.{JobsAreListed, JobsAreKnown, IsKnown, IsChanged, IsAdded, IsSettled, IsTaken}

some_same : {X : Type 0} (x y : X) → Some x ≡ Some y → x ≡ y
some_same x y e = cc

both_true : (a b : Bool) → (a && b) ≡ true → (a ≡ true) × (b ≡ true)
both_true true b h = (refl, h)
both_true false b h = absurd (cc)

both : (a b : Bool) → a ≡ true → b ≡ true → (a && b) ≡ true
both true b h k = k
both false b h k = absurd (cc)

or_right : (a b : Bool) → b ≡ true → (a || b) ≡ true
or_right true b h = refl
or_right false b h = h

or_left : (a b : Bool) → a ≡ true → (a || b) ≡ true
or_left true b h = refl
or_left false b h = absurd (cc)

-- ---- items of lists that were changed

abbrev pub Comes : {X : Type 0} (g : X → X) (xs : List X) (i : ℕ) (y : X) → Type 0
Comes {X} g xs i y = (x : X) × (slice_get xs i ≡ Some x) × (g x ≡ y)

pub from_map : {X : Type 0} (g : X → X) (xs : List X) (i : ℕ) (y : X) → slice_get (map g xs) i ≡ Some y → Comes g xs i y
from_map g [] i y is = absurd (cc)
from_map g (x ∷ xs) zero y is = (x, refl, some_same (g x) y is)
from_map g (x ∷ xs) (suc i) y is = from_map g xs i y is

pub from_front : {X : Type 0} (xs ys : List X) (i : ℕ) (x : X) → slice_get xs i ≡ Some x
    → slice_get (xs ++ ys) i ≡ Some x
from_front [] ys i x is = absurd (cc)
from_front (y ∷ xs) ys zero x is = is
from_front (y ∷ xs) ys (suc i) x is = from_front xs ys i x is

next : {X : Type 0} (xs : List X) (y z : X) (i n : ℕ) (x : X) → (slice_get xs i ≡ Some x) ⊎ ((i ≡ n) × (z ≡ x))
    → (slice_get (y ∷ xs) (suc i) ≡ Some x) ⊎ ((suc i ≡ suc n) × (z ≡ x))
next xs y z i n x (inl is) = inl is
next xs y z i n x (inr (at, same)) = inr (ap suc at, same)

pub from_push : {X : Type 0} (xs : List X) (y : X) (i : ℕ) (x : X) → slice_get (xs ++ y ∷ []) i ≡ Some x
    → (slice_get xs i ≡ Some x) ⊎ ((i ≡ length xs) × (y ≡ x))
from_push [] y zero x is = inr (refl, some_same y x is)
from_push [] y (suc i) x is = absurd (cc)
from_push (z ∷ xs) y zero x is = inl is
from_push (z ∷ xs) y (suc i) x is = next xs z y i (length xs) x (from_push xs y i x is)

pub from_set : {X : Type 0} (xs : List X) (p : ℕ) (y : X) (i : ℕ) (x : X) → slice_get (set xs p y) i ≡ Some x
    → (slice_get xs i ≡ Some x) ⊎ ((i ≡ p) × (y ≡ x))
from_set [] p y i x is = absurd (cc)
from_set (z ∷ xs) zero y zero x is = inr (refl, some_same y x is)
from_set (z ∷ xs) zero y (suc i) x is = inl is
from_set (z ∷ xs) (suc p) y zero x is = inl is
from_set (z ∷ xs) (suc p) y (suc i) x is = next xs z y i p x (from_set xs p y i x is)

pub set_other : {X : Type 0} (xs : List X) (p : ℕ) (y : X) (i : ℕ) → (i ≡ p → ⊥)
    → slice_get (set xs p y) i ≡ slice_get xs i
set_other [] p y i apart = refl
set_other (z ∷ xs) zero y zero apart = absurd (apart refl)
set_other (z ∷ xs) zero y (suc i) apart = refl
set_other (z ∷ xs) (suc p) y zero apart = refl
set_other (z ∷ xs) (suc p) y (suc i) apart = set_other xs p y i (λ same. apart (ap suc same))

pub set_here : {X : Type 0} (xs : List X) (p : ℕ) (y x : X) → slice_get (set xs p y) p ≡ Some x → y ≡ x
set_here [] p y x is = absurd (cc)
set_here (z ∷ xs) zero y x is = some_same y x is
set_here (z ∷ xs) (suc p) y x is = set_here xs p y x is

pub has_item : {X : Type 0} (xs : List X) (i : ℕ) → i < length xs → (x : X) × (slice_get xs i ≡ Some x)
has_item [] i within = absurd (omega arith)
has_item (x ∷ xs) zero within = (x, refl)
has_item (x ∷ xs) (suc i) within = has_item xs i (omega arith)

pub item_within : {X : Type 0} (xs : List X) (i : ℕ) (x : X) → slice_get xs i ≡ Some x → i < length xs
item_within [] i x is = absurd (cc)
item_within (y ∷ xs) zero x is = omega arith
item_within (y ∷ xs) (suc i) x is = let rest = item_within xs i x is in omega arith

pub all_got : {X : Type 0} (P : X → Type 0) (xs : List X) (i : ℕ) (x : X) → AllByRecursion P xs
    → slice_get xs i ≡ Some x → P x
all_got P [] i x all is = absurd (cc)
all_got P (y ∷ xs) zero x all is = subst P (some_same y x is) all.0
all_got P (y ∷ xs) (suc i) x all is = all_got P xs i x all.1 is

-- ---- a change of each seat by itself

pub covers_over : (g : Seat → Seat) (u v : Seat → Bool) (seats : List Seat) (ps : List ℕ)
    → ((s : Seat) → v (g s) ≡ true → u s ≡ true) → Covers u seats ps → Covers v (map g seats) ps
covers_over g u v seats ps only covers i t is holds =
    let from = from_map g seats i t is in
    covers i from.0 from.1 (only from.0 (subst (λ (s : Seat). v s ≡ true) (sym from.2) holds))

abbrev pub KeepsKept : (Seat → Seat) → Type 0
KeepsKept g = (s : Seat) → (is_kept (g s) ≡ true → is_kept s ≡ true) × ((g s).cohort ≡ s.cohort)

abbrev pub KeepsJobs : (Seat → Seat) → Type 0
KeepsJobs g = (j : ℕ) (s : Seat) → is_of_job j (g s) ≡ true → is_of_job j s ≡ true

belonged : (g : Seat → Seat) (c : ℕ) (s : Seat) → (is_kept (g s) ≡ true → is_kept s ≡ true) → (g s).cohort ≡ s.cohort
    → belongs c (g s) ≡ true → belongs c s ≡ true
belonged g c s kept cohort holds =
    let parts = both_true (is_kept (g s)) ((g s).cohort == c) holds in
    both (is_kept s) (s.cohort == c) (kept parts.0) (subst (λ (d : ℕ). (d == c) ≡ true) cohort parts.1)

pub listed_over : (g : Seat → Seat) (seats : List Seat) (lists : List Places) → KeepsKept g → AreListed seats lists
    → AreListed (map g seats) lists
listed_over g seats lists keeps listed c l is complete =
    covers_over g (belongs c) (belongs c) seats l.places (λ s. belonged g c s (keeps s).0 (keeps s).1)
    (listed c l is complete)

pub jobs_over : (g : Seat → Seat) (seats : List Seat) (jobs : BTreeMap ℕ Places) → KeepsJobs g
    → JobsAreListed seats jobs → JobsAreListed (map g seats) jobs
jobs_over g seats jobs keeps listed j l is complete =
    covers_over g (is_of_job j) (is_of_job j) seats l.places (keeps j) (listed j l is complete)

pub known_over : (g : Seat → Seat) (seats : List Seat) (jobs : BTreeMap ℕ Places) → KeepsJobs g
    → JobsAreKnown seats jobs → JobsAreKnown (map g seats) jobs
known_over g seats jobs keeps known i j t is holds =
    let from = from_map g seats i t is in
    known i j from.0 from.1 (keeps j from.0 (subst (λ (s : Seat). is_of_job j s ≡ true) (sym from.2) holds))

-- ---- what each call does to a seat

ended_kept_by : (b : Bool) (s : Seat) → is_kept (if b then seat_ended s else s) ≡ true → is_kept s ≡ true
ended_kept_by true s kept = or_right s.live (is_some s.job) kept
ended_kept_by false s kept = kept

ended_cohort_by : (b : Bool) (s : Seat) → (if b then seat_ended s else s).cohort ≡ s.cohort
ended_cohort_by true s = refl
ended_cohort_by false s = refl

pub ended_keeps : (n : ℕ) → KeepsKept (at n seat_ended)
ended_keeps n s = (ended_kept_by (is_at n s) s, ended_cohort_by (is_at n s) s)

ended_job_by : (b : Bool) (j : ℕ) (s : Seat) → is_of_job j (if b then seat_ended s else s) ≡ true → is_of_job j s ≡ true
ended_job_by true j s holds = holds
ended_job_by false j s holds = holds

pub ended_jobs : (n : ℕ) → KeepsJobs (at n seat_ended)
ended_jobs n j s = ended_job_by (is_at n s) j s

opened_kept_by : (m k : Bool) (job : ℕ) (s : Seat) → is_kept s ≡ k
    → is_kept (if m && k then seat_marked job s else s) ≡ true → is_kept s ≡ true
opened_kept_by true true job s is kept = is
opened_kept_by true false job s is kept = kept
opened_kept_by false k job s is kept = kept

opened_cohort_by : (b : Bool) (job : ℕ) (s : Seat) → (if b then seat_marked job s else s).cohort ≡ s.cohort
opened_cohort_by true job s = refl
opened_cohort_by false job s = refl

pub opened_keeps : (job : ℕ) (members : List Member) → KeepsKept (seat_opened job members)
opened_keeps job members s = (
  opened_kept_by (is_member members s.number) (is_kept s) job s refl,
  opened_cohort_by (is_member members s.number && is_kept s) job s,
)

opened_job_by : (b : Bool) (job j : ℕ) (s : Seat) → (j ≡ job → ⊥)
    → is_of_job j (if b then seat_marked job s else s) ≡ true → is_of_job j s ≡ true
opened_job_by true job j s apart holds = absurd (apart (sym (eqb-true job j holds)))
opened_job_by false job j s apart holds = holds

live_of : (l : Bool) → (l || false) ≡ true → l ≡ true
live_of true h = refl
live_of false h = h

closed_kept_by : (b due : Bool) (s : Seat) → is_kept (if b then seat_freed due s else s) ≡ true → is_kept s ≡ true
closed_kept_by true due s kept = or_left s.live (is_some s.job) (live_of s.live kept)
closed_kept_by false due s kept = kept

closed_cohort_by : (b due : Bool) (s : Seat) → (if b then seat_freed due s else s).cohort ≡ s.cohort
closed_cohort_by true due s = refl
closed_cohort_by false due s = refl

pub closed_keeps : (job : ℕ) (due : Bool) → KeepsKept (seat_closed job due)
closed_keeps job due s = (closed_kept_by (is_job job s.job) due s, closed_cohort_by (is_job job s.job) due s)

closed_job_by : (b due : Bool) (j : ℕ) (s : Seat) → is_of_job j (if b then seat_freed due s else s) ≡ true
    → is_of_job j s ≡ true
closed_job_by true due j s holds = absurd (cc)
closed_job_by false due j s holds = holds

pub closed_jobs : (job : ℕ) (due : Bool) → KeepsJobs (seat_closed job due)
closed_jobs job due j s = closed_job_by (is_job job s.job) due j s

free_by : (b due : Bool) (job : ℕ) (s : Seat) → is_job job s.job ≡ b
    → is_of_job job (if b then seat_freed due s else s) ≡ false
free_by true due job s is = refl
free_by false due job s is = is

-- no seat is marked with a job that is closed
pub closed_free : (job : ℕ) (due : Bool) (s : Seat) → is_of_job job (seat_closed job due s) ≡ false
closed_free job due s = free_by (is_job job s.job) due job s refl

pub ticked_keeps : (all : List Seat) → KeepsKept (seat_ticked all)
ticked_keeps all s = ((λ kept. kept), refl)

pub ticked_jobs : (all : List Seat) → KeepsJobs (seat_ticked all)
ticked_jobs all j s holds = holds

moved_job_by : (b : Bool) (c j : ℕ) (s : Seat) → is_of_job j (if b then seat_moved c s else s) ≡ true
    → is_of_job j s ≡ true
moved_job_by true c j s holds = holds
moved_job_by false c j s holds = holds

pub moved_jobs : (n c : ℕ) → KeepsJobs (at n (seat_moved c))
moved_jobs n c j s = moved_job_by (is_at n s) c j s

-- ---- a seat more, or a seat in another cohort

-- seats are as before, but for one place, where the seat is of this cohort
abbrev pub DiffersAt : ℕ → ℕ → List Seat → List Seat → Type 0
DiffersAt place c before after =
    (i : ℕ) (t : Seat) → slice_get after i ≡ Some t → (slice_get before i ≡ Some t) ⊎ ((i ≡ place) × (t.cohort ≡ c))

pub differs_by : (c : ℕ) (s t : Seat) (i place : ℕ) (before : List Seat) → s.cohort ≡ c
    → (slice_get before i ≡ Some t) ⊎ ((i ≡ place) × (s ≡ t))
    → (slice_get before i ≡ Some t) ⊎ ((i ≡ place) × (t.cohort ≡ c))
differs_by c s t i place before of (inl is) = inl is
differs_by c s t i place before of (inr (at, same)) = inr (at, ap (λ (u : Seat). u.cohort) (sym same) ∙ of)

pub pushed_differs : (seats : List Seat) (s : Seat) (place : ℕ) → place ≡ length seats
    → DiffersAt place s.cohort seats (seats ++ s ∷ [])
pushed_differs seats s place end i t is =
    differs_by s.cohort s t i place seats refl
    (subst (λ (n : ℕ). (slice_get seats i ≡ Some t) ⊎ ((i ≡ n) × (s ≡ t))) (sym end) (from_push seats s i t is))

pub set_differs : (seats : List Seat) (s : Seat) (place c : ℕ) → s.cohort ≡ c
    → DiffersAt place c seats (set seats place s)
set_differs seats s place c of i t is = differs_by c s t i place seats of (from_set seats place s i t is)

belongs_cohort : (c : ℕ) (s : Seat) → belongs c s ≡ true → s.cohort ≡ c
belongs_cohort c s holds = eqb-true s.cohort c (both_true (is_kept s) (s.cohort == c) holds).1

placed_here : (before after : List Seat) (lists : List Places) (place c : ℕ) (l m : Places)
    → DiffersAt place c before after
    → AreListed before lists → slice_get lists c ≡ Some l → IsAdded place l m → Lists (belongs c) after m
placed_here before after lists place c l m differs listed is added complete i t at holds =
    elim (differs i t at) [
      | inl old ↦ added.keeps i (listed c l is (added.complete complete) i t old holds)
      | inr here ↦ subst (λ (p : ℕ). Contains m.places p) (sym here.0) (added.added complete)
    ]

placed_there : (before after : List Seat) (lists : List Places) (place c k : ℕ) (l : Places)
    → DiffersAt place c before after
    → AreListed before lists → (k ≡ c → ⊥) → slice_get lists k ≡ Some l → Lists (belongs k) after l
placed_there before after lists place c k l differs listed apart is complete i t at holds =
    elim (differs i t at) [
      | inl old ↦ listed k l is complete i t old holds
      | inr here ↦ absurd (apart (sym (belongs_cohort k t holds) ∙ here.1))
    ]

pub placed_listed : (before after : List Seat) (lists more : List Places) (place c : ℕ) → DiffersAt place c before after
    → AreListed before lists → IsChanged (IsAdded place) c lists more → AreListed after more
placed_listed before after lists more place c differs listed changed k m is =
    elim (cases_eq k c) [
      | inl same ↦ (let here = changed.here m (subst (λ (d : ℕ). slice_get more d ≡ Some m) same is) in
          let holds = placed_here before after lists place c here.0 m differs listed here.1 here.2 in
          subst (λ (d : ℕ). Lists (belongs d) after m) (sym same) holds)
      | inr apart ↦ placed_there before after lists place c k m differs listed apart (sym (changed.others k apart) ∙ is)
    ]

not_marked : (j : ℕ) (s t : Seat) → s.job ≡ None → s ≡ t → is_of_job j t ≡ true → ⊥
not_marked j s t idle same holds =
    let none : is_job j t.job ≡ false = ap (λ (u : Seat). is_job j u.job) (sym same) ∙ ap (is_job j) idle in
    absurd (cc)

pub push_jobs : (seats : List Seat) (s : Seat) (jobs : BTreeMap ℕ Places) → s.job ≡ None → JobsAreListed seats jobs
    → JobsAreListed (seats ++ s ∷ []) jobs
push_jobs seats s jobs idle listed j l is complete i t at holds =
    elim (from_push seats s i t at) [
      | inl old ↦ listed j l is complete i t old holds
      | inr here ↦ absurd (not_marked j s t idle here.1 holds)
    ]

pub push_known : (seats : List Seat) (s : Seat) (jobs : BTreeMap ℕ Places) → s.job ≡ None → JobsAreKnown seats jobs
    → JobsAreKnown (seats ++ s ∷ []) jobs
push_known seats s jobs idle known i j t at holds =
    elim (from_push seats s i t at) [
      | inl old ↦ known i j t old holds
      | inr here ↦ absurd (not_marked j s t idle here.1 holds)
    ]

-- ---- fewer seats, and more lists

abbrev pub IsFront : List Seat → List Seat → Type 0
IsFront before after = (i : ℕ) (s : Seat) → slice_get after i ≡ Some s → slice_get before i ≡ Some s

pub cut_front : (before after : List Seat) → IsCut before after → IsFront before after
cut_front before after cut i s is =
    subst (λ (ss : List Seat). slice_get ss i ≡ Some s) (sym cut.is) (from_front after cut.dropped i s is)

pub front_listed : (before after : List Seat) (lists : List Places) → IsFront before after → AreListed before lists
    → AreListed after lists
front_listed before after lists front listed c l is complete i s at holds = listed c l is complete i s
    (front i s at) holds

pub front_jobs : (before after : List Seat) (jobs : BTreeMap ℕ Places) → IsFront before after
    → JobsAreListed before jobs
    → JobsAreListed after jobs
front_jobs before after jobs front listed j l is complete i s at holds = listed j l is complete i s (front i s at) holds

pub front_known : (before after : List Seat) (jobs : BTreeMap ℕ Places) → IsFront before after
    → JobsAreKnown before jobs
    → JobsAreKnown after jobs
front_known before after jobs front known i j s at holds = known i j s (front i s at) holds

outside : (seats : List Seat) (count c i : ℕ) (s : Seat) → AllByRecursion (IsWithin count) seats → c ≡ count
    → slice_get seats i ≡ Some s → belongs c s ≡ true → ⊥
outside seats count c i s within same at holds =
    let less : s.cohort < count = all_got (IsWithin count) seats i s within at in
    let of = belongs_cohort c s holds in
    absurd (omega arith)

pub more_lists : (seats : List Seat) (lists : List Places) (l : Places) → AllByRecursion (IsWithin (length lists)) seats
    → AreListed seats lists → AreListed seats (lists ++ l ∷ [])
more_lists seats lists l within listed c m is complete i s at holds =
    elim (from_push lists l c m is) [
      | inl old ↦ listed c m old complete i s at holds
      | inr here ↦ absurd (outside seats (length lists) c i s within here.0 at holds)
    ]

-- ---- a sweep

settled_here : (seats : List Seat) (lists : List Places) (c : ℕ) (l m : Places) → AreListed seats lists
    → slice_get lists c ≡ Some l → IsSettled c seats l m → Lists (belongs c) seats m
settled_here seats lists c l m listed is settled complete i s at holds =
    let there = listed c l is (sym settled.complete ∙ complete) i s at holds in
    settled.keeps i there (rw at holds)

pub swept_listed : (seats : List Seat) (lists swept : List Places) (c : ℕ) → IsChanged (IsSettled c seats) c lists swept
    → AreListed seats lists → AreListed seats swept
swept_listed seats lists swept c changed listed k m is =
    elim (cases_eq k c) [
      | inl same ↦ (let here = changed.here m (subst (λ (d : ℕ). slice_get swept d ≡ Some m) same is) in
          let holds = settled_here seats lists c here.0 m listed here.1 here.2 in
          subst (λ (d : ℕ). Lists (belongs d) seats m) (sym same) holds)
      | inr apart ↦ listed k m (sym (changed.others k apart) ∙ is)
    ]

-- one list of many is changed
pub one_changed : (R : Places → Places → Type 0) (c : ℕ) (before after : List Places) (l m : Places)
    → after ≡ set before c m
    → slice_get before c ≡ Some l → R l m → length after ≡ length before → IsChanged R c before after
one_changed R c before after l m is at holds long = record {
  long = long;
  others = λ k apart. ap (λ (ls : List Places). slice_get ls k) is ∙ set_other before c m k apart;
  here = λ n there. let same : m ≡ n = set_here before c m n
      (subst (λ (ls : List Places). slice_get ls c ≡ Some n) is there) in
      (l, at, subst (R l) same holds);
}

-- nothing is changed where there is no such list
pub none_changed : (R : Places → Places → Type 0) (c : ℕ) (lists : List Places) → length lists ≤ c
    → IsChanged R c lists lists
none_changed R c lists past = record {
  long = refl;
  others = λ k apart. refl;
  here = λ n there. let within = item_within lists c n there in absurd (omega arith);
}

-- ---- the lists of jobs

taken_by : (seats : List Seat) (jobs : BTreeMap ℕ Places) (job : ℕ) (unlisted : Bool) (l : Places) (o : Option Places)
    → get nat_cmp jobs job ≡ o → JobsAreListed seats jobs → (unlisted ≡ false → JobsAreKnown seats jobs)
    → IsTaken job unlisted jobs l → Lists (is_of_job job) seats l
taken_by seats jobs job unlisted l None is listed known taken =
    λ complete i s there holds.
    let some = known (taken.absent is complete) i job s there holds in
    let wrong : false ≡ true = sym (ap (λ (o : Option Places). is_some o) is) ∙ some in
    absurd (cc)
taken_by seats jobs job unlisted l (Some m) is listed known taken =
    subst (Lists (is_of_job job) seats) (sym (taken.there m is)) (listed job m is)

pub taken_lists : (seats : List Seat) (jobs : BTreeMap ℕ Places) (job : ℕ) (unlisted : Bool) (l : Places)
    → JobsAreListed seats jobs → (unlisted ≡ false → JobsAreKnown seats jobs) → IsTaken job unlisted jobs l
    → Lists (is_of_job job) seats l
taken_lists seats jobs job unlisted l = taken_by seats jobs job unlisted l (get nat_cmp jobs job) refl

abbrev pub SameOthers : ℕ → BTreeMap ℕ Places → BTreeMap ℕ Places → Type 0
SameOthers job before after = (k : ℕ) → (k ≡ job → ⊥) → get nat_cmp after k ≡ get nat_cmp before k

pub closed_listed : (seats : List Seat) (jobs fewer : BTreeMap ℕ Places) (job : ℕ) (due : Bool)
    → SameOthers job jobs fewer
    → get nat_cmp fewer job ≡ None → JobsAreListed seats jobs → JobsAreListed (map (seat_closed job due) seats) fewer
closed_listed seats jobs fewer job due others gone listed j l is =
    elim (cases_eq j job) [
      | inl same ↦ (let none = ap (get nat_cmp fewer) same ∙ gone in absurd (cc))
      | inr apart ↦ (λ complete. covers_over (seat_closed job due) (is_of_job j) (is_of_job j) seats l.places
          (closed_jobs job due j) (listed j l (sym (others j apart) ∙ is) complete))
    ]

pub closed_known : (seats : List Seat) (jobs fewer : BTreeMap ℕ Places) (job : ℕ) (due : Bool)
    → SameOthers job jobs fewer
    → JobsAreKnown seats jobs → JobsAreKnown (map (seat_closed job due) seats) fewer
closed_known seats jobs fewer job due others known i j t at holds =
    let from = from_map (seat_closed job due) seats i t at in
    elim (cases_eq j job) [
      | inl same ↦ (let free = closed_free job due from.0 in
          let marked : is_of_job job (seat_closed job due from.0) ≡ true =
          subst (λ (k : ℕ). is_of_job k (seat_closed job due from.0) ≡ true) same
          (subst (λ (s : Seat). is_of_job j s ≡ true) (sym from.2) holds) in
          absurd (cc))
      | inr apart ↦ (let there = known i j from.0 from.1
          (closed_jobs job due j from.0 (subst (λ (s : Seat). is_of_job j s ≡ true) (sym from.2) holds)) in
          ap (λ (o : Option Places). is_some o) (others j apart) ∙ there)
    ]

-- what becomes of the lists of jobs where one is taken out, and put back where there is memory
pub record IsPut (job : ℕ) (put : Bool) (list : Places) (before after : BTreeMap ℕ Places) : Type 0 where
  pub others : SameOthers job before after
  pub there : put ≡ true → get nat_cmp after job ≡ Some list
  pub absent : put ≡ false → get nat_cmp after job ≡ None

put_here : (seats : List Seat) (job : ℕ) (put : Bool) (list l : Places) (before after : BTreeMap ℕ Places)
    → IsPut job put list before after → get nat_cmp after job ≡ Some l → Lists (is_of_job job) seats list
    → Lists (is_of_job job) seats l
put_here seats job true list l before after done is holds =
    let same : list ≡ l = some_same list l (sym (done.there refl) ∙ is) in
    subst (Lists (is_of_job job) seats) same holds
put_here seats job false list l before after done is holds =
    let none = done.absent refl in
    absurd (cc)

pub opened_listed : (seats : List Seat) (members : List Member) (job : ℕ) (put : Bool) (list : Places)
    (before after : BTreeMap ℕ Places) → IsPut job put list before after
    → Lists (is_of_job job) (map (seat_opened job members) seats) list → JobsAreListed seats before
    → JobsAreListed (map (seat_opened job members) seats) after
opened_listed seats members job put list before after done holds listed j l is =
    elim (cases_eq j job) [
      | inl same ↦ (let here = put_here (map (seat_opened job members) seats) job put list l before after done
          (subst (λ (k : ℕ). get nat_cmp after k ≡ Some l) same is) holds in
          subst (λ (k : ℕ). Lists (is_of_job k) (map (seat_opened job members) seats) l) (sym same) here)
      | inr apart ↦ (λ complete. covers_over (seat_opened job members) (is_of_job j) (is_of_job j) seats l.places
          (λ s. opened_job_by (is_member members s.number && is_kept s) job j s apart)
          (listed j l (sym (done.others j apart) ∙ is) complete))
    ]

pub opened_known : (seats : List Seat) (members : List Member) (job : ℕ) (put : Bool) (list : Places)
    (before after : BTreeMap ℕ Places) → IsPut job put list before after → put ≡ true → JobsAreKnown seats before
    → JobsAreKnown (map (seat_opened job members) seats) after
opened_known seats members job put list before after done is known i j t at holds =
    let from = from_map (seat_opened job members) seats i t at in
    elim (cases_eq j job) [
      | inl same ↦ ap (λ (k : ℕ). is_some (get nat_cmp after k)) same
          ∙ ap (λ (o : Option Places). is_some o) (done.there is)
      | inr apart ↦ (let there = known i j from.0 from.1
          (opened_job_by (is_member members from.0.number && is_kept from.0) job j from.0 apart
          (subst (λ (s : Seat). is_of_job j s ≡ true) (sym from.2) holds)) in
          ap (λ (o : Option Places). is_some o) (done.others j apart) ∙ there)
    ]

-- the flag that jobs may lack a list
pub both_false : (a b : Bool) → (a || not b) ≡ false → (a ≡ false) × (b ≡ true)
both_false true b h = absurd (cc)
both_false false true h = (refl, refl)
both_false false false h = absurd (cc)

-- ---- what is read by a list

live_belongs : (c : ℕ) (s : Seat) → is_live_in c s ≡ true → belongs c s ≡ true
live_belongs c s holds =
    let parts = both_true s.live (s.cohort == c) holds in
    both (is_kept s) (s.cohort == c) (or_left s.live (is_some s.job) parts.0) parts.1

job_belongs : (c : ℕ) (s : Seat) → has_job_in c s ≡ true → belongs c s ≡ true
job_belongs c s holds =
    let parts = both_true (s.cohort == c) (is_some s.job) holds in
    both (is_kept s) (s.cohort == c) (or_right s.live (is_some s.job) parts.1) parts.0

known_covers : (seats : List Seat) (lists : List Places) (c : ℕ) (ps : List ℕ) → AreListed seats lists
    → IsKnown lists c ps
    → Covers (belongs c) seats ps
known_covers seats lists c ps listed known =
    subst (Covers (belongs c) seats) (sym known.complete.is) (listed c known.list known.at known.complete.complete)

live_if : (b : Bool) (s : Seat) (ns : List ℕ) (xs : List Seat) → ns ≡ seat_numbers xs
    → cons_option (if b then Some s.number else None) ns ≡ seat_numbers (if b then s ∷ xs else xs)
live_if true s ns xs same = ap (λ (ms : List ℕ). s.number ∷ ms) same
live_if false s ns xs same = same

live_one : (c : ℕ) (o : Option Seat) (ns : List ℕ) (xs : List Seat) → ns ≡ seat_numbers (filter (is_live_in c) xs)
    → cons_option (live_by c o) ns ≡ seat_numbers (filter (is_live_in c) (cons_option o xs))
live_one c None ns xs same = same
live_one c (Some s) ns xs same = live_if (is_live_in c s) s ns (filter (is_live_in c) xs) same

live_read : (c : ℕ) (seats : List Seat) (ps : List ℕ)
    → filter_map (live_at c seats) ps ≡ seat_numbers (filter (is_live_in c) (read_at seats ps))
live_read c seats [] = refl
live_read c seats (p ∷ ps) =
    live_one c (slice_get seats p) (filter_map (live_at c seats) ps) (read_at seats ps) (live_read c seats ps)

busy_one : (c : ℕ) (o : Option Seat) (xs : List Seat)
    → (busy_by c o || list_any (has_job_in c) xs) ≡ list_any (has_job_in c) (cons_option o xs)
busy_one c None xs = refl
busy_one c (Some s) xs = refl

busy_read : (c : ℕ) (seats : List Seat) (ps : List ℕ)
    → list_any (busy_at c seats) ps ≡ list_any (has_job_in c) (read_at seats ps)
busy_read c seats [] = refl
busy_read c seats (p ∷ ps) =
    ap (λ (b : Bool). busy_at c seats p || b) (busy_read c seats ps) ∙ busy_one c (slice_get seats p) (read_at seats ps)

pub live_known : (seats : List Seat) (lists : List Places) (c : ℕ) (ps : List ℕ) → AreListed seats lists
    → IsKnown lists c ps
    → filter_map (live_at c seats) ps ≡ seat_numbers (filter (is_live_in c) seats)
live_known seats lists c ps listed known =
    live_read c seats ps
    ∙ ap seat_numbers (read_filter (is_live_in c) (belongs c) seats ps known.complete.ascend
    (known_covers seats lists c ps listed known) (live_belongs c))

pub busy_known : (seats : List Seat) (lists : List Places) (c : ℕ) (ps : List ℕ) → AreListed seats lists
    → IsKnown lists c ps
    → list_any (busy_at c seats) ps ≡ is_cohort_busy seats c
busy_known seats lists c ps listed known =
    busy_read c seats ps
    ∙ read_any (has_job_in c) (belongs c) seats ps known.complete.ascend (known_covers seats lists c ps listed known)
    (job_belongs c)

-- ---- a job's marks are taken away by its list

closed_twice : (job : ℕ) (due : Bool) (s : Seat) → seat_closed job due (seat_closed job due s) ≡ seat_closed job due s
closed_twice job due s =
    ap (λ (b : Bool). if b then seat_freed due (seat_closed job due s) else seat_closed job due s)
    (closed_free job due s)

pub close_same : (job : ℕ) (due : Bool) (seats : List Seat) (p : ℕ) (d : Seat)
    → map (seat_closed job due) (set seats p (seat_closed job due (get_or seats p d))) ≡ map (seat_closed job due) seats
close_same job due [] p d = refl
close_same job due (s ∷ seats) zero d =
    ap (λ (t : Seat). t ∷ map (seat_closed job due) seats) (closed_twice job due s)
close_same job due (s ∷ seats) (suc p) d = ap (λ (ts : List Seat). seat_closed job due s ∷ ts)
    (close_same job due seats p d)

in_rest : (p : ℕ) (ps : List ℕ) (q : ℕ) → (q ≡ p → ⊥) → Contains (p ∷ ps) q → Contains ps q
in_rest p ps q apart (zero, within, is) = absurd (apart (sym is))
in_rest p ps q apart (suc k, within, is) = (k, omega arith, is)

pub close_rest : (job : ℕ) (due : Bool) (seats : List Seat) (p : ℕ) (s : Seat) (ps : List ℕ)
    → Covers (is_of_job job) seats (p ∷ ps) → Covers (is_of_job job) (set seats p (seat_closed job due s)) ps
close_rest job due seats p s ps covers i t at holds =
    elim (cases_eq i p) [
      | inl same ↦ (let here = set_here seats p (seat_closed job due s) t
          (subst (λ (k : ℕ). slice_get (set seats p (seat_closed job due s)) k ≡ Some t) same at) in
          let free : is_of_job job t ≡ false = subst (λ (u : Seat). is_of_job job u ≡ false) here
          (closed_free job due s) in
          absurd (cc))
      | inr apart ↦ in_rest p ps i apart
          (covers i t (sym (set_other seats p (seat_closed job due s) i apart) ∙ at) holds)
    ]

pub past_rest : (job : ℕ) (seats : List Seat) (p : ℕ) (ps : List ℕ) → length seats ≤ p
    → Covers (is_of_job job) seats (p ∷ ps) → Covers (is_of_job job) seats ps
past_rest job seats p ps past covers i t at holds =
    let within = item_within seats i t at in
    in_rest p ps i (λ same. absurd (omega arith)) (covers i t at holds)

free_same : (job : ℕ) (due : Bool) (s : Seat) (b : Bool) → is_of_job job s ≡ b → (b ≡ true → ⊥)
    → seat_closed job due s ≡ s
free_same job due s true is never = absurd (never refl)
free_same job due s false is never = rw is refl

pub all_closed : (job : ℕ) (due : Bool) (seats : List Seat)
    → ((i : ℕ) (s : Seat) → slice_get seats i ≡ Some s → is_of_job job s ≡ true → ⊥)
    → seats ≡ map (seat_closed job due) seats
all_closed job due [] free = refl
all_closed job due (s ∷ seats) free =
    let here = free_same job due s (is_of_job job s) refl (free 0 s refl) in
    let rest = all_closed job due seats (λ i t at. free (suc i) t at) in
    λ i. sym here i ∷ rest i

pub none_covered : (job : ℕ) (seats : List Seat) (ps : List ℕ) → ps ≡ [] → Covers (is_of_job job) seats ps
    → (i : ℕ) (s : Seat) → slice_get seats i ≡ Some s → is_of_job job s ≡ true → ⊥
none_covered job seats ps none covers i s at holds =
    let in_none : Contains {X = ℕ} [] i = subst (λ (qs : List ℕ). Contains qs i) none (covers i s at holds) in
    absurd (omega (arith, in_none.1))

-- ---- an item that was read, and one that passes a filter

pub read_item : {X : Type 0} (xs : List X) (i : ℕ) (d : X) → i < length xs → slice_get xs i ≡ Some (get_or xs i d)
read_item [] i d within = absurd (omega arith)
read_item (x ∷ xs) zero d within = refl
read_item (x ∷ xs) (suc i) d within = read_item xs i d (omega arith)

first_of : (p : ℕ) (ps : List ℕ) → Contains (p ∷ ps) p
first_of p ps = (0, omega arith, λ _. p)

one_later : (q p : ℕ) (ps : List ℕ) → Contains ps p → Contains (q ∷ ps) p
one_later q p ps (k, within, is) = (suc k, omega arith, is)

filtered_here : (b : Bool) (q p : ℕ) (ps : List ℕ) → q ≡ p → b ≡ true → Contains (if b then q ∷ ps else ps) p
filtered_here true q p ps same holds = subst (λ (r : ℕ). Contains (r ∷ ps) p) (sym same) (first_of p ps)
filtered_here false q p ps same holds = absurd (cc)

filtered_later : (b : Bool) (q p : ℕ) (ps : List ℕ) → Contains ps p → Contains (if b then q ∷ ps else ps) p
filtered_later true q p ps has = one_later q p ps has
filtered_later false q p ps has = has

pub in_filter : (t : ℕ → Bool) (ps : List ℕ) (p : ℕ) → Contains ps p → t p ≡ true → Contains (filter t ps) p
in_filter t [] p (k, within, is) holds = absurd (omega arith)
in_filter t (q ∷ ps) p (zero, within, is) holds = filtered_here (t q) q p (filter t ps) is (ap t is ∙ holds)
in_filter t (q ∷ ps) p (suc k, within, is) holds =
    filtered_later (t q) q p (filter t ps) (in_filter t ps p (k, omega arith, is) holds)

-- ---- the whole

pub held_over : (g : Seat → Seat) (seats : List Seat) (lists : List Places) (jobs : BTreeMap ℕ Places) (u : Bool)
    → KeepsKept g → KeepsJobs g → AreHeld seats lists jobs u → AreHeld (map g seats) lists jobs u
held_over g seats lists jobs u keeps same held = record {
  cohorts = listed_over g seats lists keeps held.cohorts;
  jobs_listed = jobs_over g seats jobs same held.jobs_listed;
  known = λ none. known_over g seats jobs same (held.known none);
}

pub held_added : (seats : List Seat) (s : Seat) (place : ℕ) (lists more : List Places) (jobs after : BTreeMap ℕ Places)
    (u v : Bool)
    → place ≡ length seats → IsChanged (IsAdded place) s.cohort lists more → JobsAreListed (seats ++ s ∷ []) after
    → (v ≡ false → JobsAreKnown (seats ++ s ∷ []) after) → AreHeld seats lists jobs u
    → AreHeld (seats ++ s ∷ []) more after v
held_added seats s place lists more jobs after u v end changed listed known held = record {
  cohorts = placed_listed seats (seats ++ s ∷ []) lists more place s.cohort
      (pushed_differs seats s place end) held.cohorts changed;
  jobs_listed = listed;
  known = known;
}

pub held_opened : (seats : List Seat) (members : List Member) (job : ℕ) (put : Bool) (list : Places)
    (lists : List Places)
    (before after : BTreeMap ℕ Places) (u : Bool) → IsPut job put list before after
    → Lists (is_of_job job) (map (seat_opened job members) seats) list → AreHeld seats lists before u
    → AreHeld (map (seat_opened job members) seats) lists after (u || not put)
held_opened seats members job put list lists before after u done holds held = record {
  cohorts = listed_over (seat_opened job members) seats lists (opened_keeps job members) held.cohorts;
  jobs_listed = opened_listed seats members job put list before after done holds held.jobs_listed;
  known = λ none. let parts = both_false u put none in
      opened_known seats members job put list before after done parts.1 (held.known parts.0);
}

pub held_closed : (seats : List Seat) (job : ℕ) (due : Bool) (lists : List Places) (jobs fewer : BTreeMap ℕ Places)
    (u : Bool)
    → SameOthers job jobs fewer → get nat_cmp fewer job ≡ None → AreHeld seats lists jobs u
    → AreHeld (map (seat_closed job due) seats) lists fewer u
held_closed seats job due lists jobs fewer u others gone held = record {
  cohorts = listed_over (seat_closed job due) seats lists (closed_keeps job due) held.cohorts;
  jobs_listed = closed_listed seats jobs fewer job due others gone held.jobs_listed;
  known = λ none. closed_known seats jobs fewer job due others (held.known none);
}

pub held_moved : (seats : List Seat) (n c : ℕ) (lists more : List Places) (jobs : BTreeMap ℕ Places) (u : Bool)
    → (AreListed seats lists → AreListed (map (at n (seat_moved c)) seats) more) → AreHeld seats lists jobs u
    → AreHeld (map (at n (seat_moved c)) seats) more jobs u
held_moved seats n c lists more jobs u listed held = record {
  cohorts = listed held.cohorts;
  jobs_listed = jobs_over (at n (seat_moved c)) seats jobs (moved_jobs n c) held.jobs_listed;
  known = λ none. known_over (at n (seat_moved c)) seats jobs (moved_jobs n c) (held.known none);
}

pub held_swept : (seats : List Seat) (c : ℕ) (lists swept : List Places) (jobs : BTreeMap ℕ Places) (u : Bool)
    → IsChanged (IsSettled c seats) c lists swept → AreHeld seats lists jobs u → AreHeld seats swept jobs u
held_swept seats c lists swept jobs u changed held = record {
  cohorts = swept_listed seats lists swept c changed held.cohorts;
  jobs_listed = held.jobs_listed;
  known = held.known;
}

pub held_front : (before after : List Seat) (lists : List Places) (jobs : BTreeMap ℕ Places) (u : Bool)
    → IsFront before after
    → AreHeld before lists jobs u → AreHeld after lists jobs u
held_front before after lists jobs u front held = record {
  cohorts = front_listed before after lists front held.cohorts;
  jobs_listed = front_jobs before after jobs front held.jobs_listed;
  known = λ none. front_known before after jobs front (held.known none);
}

pub held_more : (seats : List Seat) (lists : List Places) (l : Places) (jobs : BTreeMap ℕ Places) (u : Bool)
    → AllByRecursion (IsWithin (length lists)) seats → AreHeld seats lists jobs u
    → AreHeld seats (lists ++ l ∷ []) jobs u
held_more seats lists l jobs u within held = record {
  cohorts = more_lists seats lists l within held.cohorts;
  jobs_listed = held.jobs_listed;
  known = held.known;
}
