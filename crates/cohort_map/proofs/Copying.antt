-- A copy of seats, a seat at a time; and what a seat at the end does to the lists of jobs.
use Rattle.std.proofs.Common.{◌≡◌, ◌∙◌, ℕ, ◌<◌, ◌≤◌, ◌+◌, zero, suc, Bool, true, false, Option, Some, None, is_some, List, [], ◌∷◌, ◌++◌, length, take, get_or, refl, sym, ap, subst, arith, inl, inr, Result, Ok, Err, OnOk}
use Rattle.std.proofs.lemmas.Bool.{cases_eq, eqb-true}
use Rattle.std.proofs.lemmas.List.{take_more, append-nil}
use Rattle.std.proofs.lemmas.List.Elements.{filter_map-append}
use Rattle.std.specs.BTreeMap.{BTreeMap, get}
use Rattle.std.specs.Ordering.{nat_cmp}
use Rattle.std.specs.List.{AllByRecursion, Contains}
use Rattle.place_list.specs.Places.{Places}
use Rattle.cohort_map.specs.declared.key.CohortKey.{CohortKey}
use Rattle.cohort_map.specs.declared.seat.Seat.{Seat}
use Rattle.cohort_map.specs.declared.seat.ReadySeat.{ReadySeat}
use Rattle.cohort_map.specs.Entries.{Entry}
use Rattle.cohort_map.specs.Batches.{is_job}
use Rattle.cohort_map.specs.Seats.{Rise, IsSound, IsReady, IsSeated, is_kept, seen, entry_with, entries_of, ready_of, held}
use Rattle.cohort_map.specs.Listed.{Seating, is_of_job, Lists, JobsAreListed, JobsAreKnown, NoneDue}
use Rattle.cohort_map.specs.Copies.{IsCopied, Copies, Goes}
use Rattle.cohort_map.proofs.Alls.{all_more, all_weaker}
use Rattle.cohort_map.proofs.Rising.{rise_more}
use Rattle.cohort_map.proofs.Rehoming.{got_within}
use Rattle.cohort_map.proofs.Seated.{more_seen, joined_seen}
use Rattle.cohort_map.proofs.Listing.{from_push, IsPut}
use Rattle.cohort_map.proofs.Due.{push_first, none_before_start}

-- ---- all but the last, and the last

all_but_last : {X : Type 0} (P : X → Type 0) (xs : List X) (x : X) → AllByRecursion P (xs ++ x ∷ []) → AllByRecursion P xs
all_but_last P [] x all = tt
all_but_last P (y ∷ xs) x all = (all.0, all_but_last P xs x all.1)

last_of : {X : Type 0} (P : X → Type 0) (xs : List X) (x : X) → AllByRecursion P (xs ++ x ∷ []) → P x
last_of P [] x all = all.0
last_of P (y ∷ xs) x all = last_of P xs x all.1

pub rise_last : (seats : List Seat) (s : Seat) → Rise (seats ++ s ∷ []) → AllByRecursion (λ t. t.number < s.number) seats
rise_last [] s up = tt
rise_last (t ∷ seats) s up = (last_of (λ u. t.number < u.number) seats s up.0, rise_last seats s up.1)

all_take : (P : Seat → Type 0) (i : ℕ) (seats : List Seat) → AllByRecursion P seats → AllByRecursion P (take i seats)
all_take P zero seats all = tt
all_take P (suc i) [] all = tt
all_take P (suc i) (s ∷ seats) all = (all.0, all_take P i seats all.1)

pub rise_take : (seats : List Seat) (i : ℕ) → Rise seats → Rise (take i seats)
rise_take seats zero up = tt
rise_take [] (suc i) up = tt
rise_take (s ∷ seats) (suc i) up = (all_take (λ t. s.number < t.number) i seats up.0, rise_take seats i up.1)

pub below_at : (seats : List Seat) (i : ℕ) (d : Seat) → i < length seats → Rise seats
    → AllByRecursion (λ t. t.number < (get_or seats i d).number) (take i seats)
below_at seats i d within up =
    rise_last (take i seats) (get_or seats i d) (subst Rise (take_more seats i d within) (rise_take seats (i + 1) up))

-- ---- one seat

unseen : (from : List CohortKey) (all : List Seat) (s : Seat) → is_kept s ≡ false
    → entries_of from all ≡ entries_of from (all ++ s ∷ [])
unseen from all s none =
    let hidden : seen from s ≡ None = rw none refl in
    let rest : entries_of from (s ∷ []) ≡ [] = rw hidden refl in
    sym (append-nil (entries_of from all)) ∙ ap (λ (es : List Entry). entries_of from all ++ es) (sym rest)
    ∙ sym (filter_map-append (seen from) all (s ∷ []))

pub goes_unseen : (from : List CohortKey) (s : Seat) (keys : List CohortKey) (copy : Seating) → is_kept s ≡ false
    → Goes from s keys keys copy copy
goes_unseen from s keys copy none all above copies = record {
  rise = copies.rise;
  sound = copies.sound;
  few = copies.few;
  seen = copies.seen ∙ unseen from all s none;
  below = λ n under. copies.below n (all_but_last (λ t. t.number < n) all s under);
}

pub goes : (from : List CohortKey) (s : Seat) (keys more : List CohortKey) (before after : Seating) → is_kept s ≡ true
    → IsSound (length from) s → IsCopied from s keys more before after → Goes from s keys more before after
goes from s keys more before after kept sound copied all above copies =
    let t : Seat = record s { cohort = copied.cohort } in
    let old : AllByRecursion (IsSound (length more)) before.seats =
    all_weaker (IsSound (length keys)) (IsSound (length more))
    (λ u h. record { within = let w = h.within in let g = copied.grows in omega arith; lives = h.lives }) before.seats copies.sound in
    let rises : Rise (before.seats ++ t ∷ []) = rise_more before.seats t copies.rise (copies.below s.number above) in
    let sounds : AllByRecursion (IsSound (length more)) (before.seats ++ t ∷ []) =
    all_more (IsSound (length more)) before.seats t old
    (record { within = got_within more copied.cohort copied.key copied.to; lives = sound.lives }) in
    let sees : entries_of more (before.seats ++ t ∷ []) ≡ entries_of from (all ++ s ∷ []) =
    joined_seen more before.seats t copied.key copied.to kept
    ∙ ap (λ (es : List Entry). es ++ entry_with s copied.key ∷ []) (more_seen keys more before.seats copied.stay copies.sound ∙ copies.seen)
    ∙ sym (joined_seen from all s copied.key copied.of kept) in
    record {
      rise = subst Rise (sym copied.pushed) rises;
      sound = subst (AllByRecursion (IsSound (length more))) (sym copied.pushed) sounds;
      few = copied.few;
      seen = ap (entries_of more) copied.pushed ∙ sees;
      below = λ n under. subst (AllByRecursion (λ u. u.number < n)) (sym copied.pushed)
          (all_more (λ u. u.number < n) before.seats t (copies.below n (all_but_last (λ u. u.number < n) all s under))
          (last_of (λ u. u.number < n) all s under));
    }

pub copies_none : (from keys : List CohortKey) (copy : Seating) → keys ≡ [] → copy.seats ≡ [] → Copies from [] keys copy
copies_none from keys copy none empty = record {
  rise = subst Rise (sym empty) tt;
  sound = subst (AllByRecursion (IsSound (length keys))) (sym empty) tt;
  few = subst (λ (ks : List CohortKey). length ks ≤ copy.cohorts) (sym none) (omega arith);
  seen = ap (entries_of keys) empty;
  below = λ n under. subst (AllByRecursion (λ s. s.number < n)) (sym empty) tt;
}

-- ---- a seat at the end, and the lists of jobs

is_mine : (job j : ℕ) (s : Seat) → s.job ≡ Some job → is_of_job j s ≡ true → j ≡ job
is_mine job j s of holds =
    let here : is_job j (Some job) ≡ true = ap (is_job j) (sym of) ∙ holds in
    sym (eqb-true job j here)

pub record IsGrown (place : ℕ) (l m : Places) : Type 0 where
  pub keeps : (p : ℕ) → Contains l.places p → Contains m.places p
  pub added : m.complete ≡ true → Contains m.places place
  pub complete : m.complete ≡ true → l.complete ≡ true

grown_lists : (seats : List Seat) (s : Seat) (job place : ℕ) (l m : Places) → place ≡ length seats → IsGrown place l m
    → Lists (is_of_job job) seats l → Lists (is_of_job job) (seats ++ s ∷ []) m
grown_lists seats s job place l m end grown lists complete i t is holds =
    elim (from_push seats s i t is) [
      | inl old ↦ grown.keeps i (lists (grown.complete complete) i t old holds)
      | inr here ↦ subst (λ (p : ℕ). Contains m.places p) (end ∙ sym here.0) (grown.added complete)
    ]

mine_listed : (seats : List Seat) (job : ℕ) (put : Bool) (list l : Places) (before after : BTreeMap ℕ Places)
    → IsPut job put list before after → get nat_cmp after job ≡ Some l → Lists (is_of_job job) seats list
    → Lists (is_of_job job) seats l
mine_listed seats job true list l before after done is holds =
    let same : Some list ≡ Some l = sym (done.there refl) ∙ is in
    let equal : list ≡ l = cc in
    subst (Lists (is_of_job job) seats) equal holds
mine_listed seats job false list l before after done is holds = let none = done.absent refl in absurd (cc)

pub member_listed : (seats : List Seat) (s : Seat) (job place : ℕ) (put : Bool) (l m : Places) (before after : BTreeMap ℕ Places)
    → s.job ≡ Some job → place ≡ length seats → IsPut job put m before after → IsGrown place l m
    → Lists (is_of_job job) seats l → JobsAreListed seats before → JobsAreListed (seats ++ s ∷ []) after
member_listed seats s job place put l m before after of end done grown lists listed j n is =
    elim (cases_eq j job) [
      | inl same ↦ (let mine = mine_listed (seats ++ s ∷ []) job put m n before after done
          (subst (λ (k : ℕ). get nat_cmp after k ≡ Some n) same is) (grown_lists seats s job place l m end grown lists) in
          subst (λ (k : ℕ). Lists (is_of_job k) (seats ++ s ∷ []) n) (sym same) mine)
      | inr apart ↦ (λ complete i t there holds. elim (from_push seats s i t there) [
        | inl old ↦ listed j n (sym (done.others j apart) ∙ is) complete i t old holds
        | inr here ↦ absurd (apart (is_mine job j s of (ap (is_of_job j) here.1 ∙ holds)))
      ])
    ]

pub member_known : (seats : List Seat) (s : Seat) (job : ℕ) (put : Bool) (m : Places) (before after : BTreeMap ℕ Places)
    → s.job ≡ Some job → IsPut job put m before after → put ≡ true → JobsAreKnown seats before
    → JobsAreKnown (seats ++ s ∷ []) after
member_known seats s job put m before after of done is known i j t there holds =
    elim (cases_eq j job) [
      | inl same ↦ ap (λ (k : ℕ). is_some (get nat_cmp after k)) same ∙ ap (λ (o : Option Places). is_some o) (done.there is)
      | inr apart ↦ (elim (from_push seats s i t there) [
        | inl old ↦ ap (λ (o : Option Places). is_some o) (done.others j apart) ∙ known i j t old holds
        | inr here ↦ absurd (apart (is_mine job j s of (ap (is_of_job j) here.1 ∙ holds)))
      ])
    ]

first_by : (b : Bool) (seats : List Seat) (s : Seat) (first now : ℕ) → s.due ≡ b → (b ≡ true → now ≡ 0) → (b ≡ false → now ≡ first)
    → NoneDue first seats → NoneDue now (seats ++ s ∷ [])
first_by true seats s first now is start stays none =
    subst (λ (n : ℕ). NoneDue n (seats ++ s ∷ [])) (sym (start refl)) (none_before_start (seats ++ s ∷ []))
first_by false seats s first now is start stays none =
    subst (λ (n : ℕ). NoneDue n (seats ++ s ∷ [])) (sym (stays refl)) (push_first seats s first is none)

pub added_first : (seats : List Seat) (s : Seat) (first now : ℕ) → (s.due ≡ true → now ≡ 0) → (s.due ≡ false → now ≡ first)
    → NoneDue first seats → NoneDue now (seats ++ s ∷ [])
added_first seats s first now = first_by s.due seats s first now refl

-- what holds where a call succeeds, from what it ensures there
pub ok_then : {T E : Type 0} (r : Result T E) (P Q : Type 0) → (P → Q) → OnOk r P → OnOk r Q
ok_then (Ok x) P Q follows holds = follows holds
ok_then (Err e) P Q follows holds = tt

-- ---- the whole copy

none_movable : (keys : List CohortKey) (seats : List Seat) (ready : List ReadySeat) → ready ≡ [] → AllByRecursion (IsReady keys seats) ready
none_movable keys seats ready none = subst (AllByRecursion (IsReady keys seats)) (sym none) tt

pub compacted : (from keys : List CohortKey) (seats : List Seat) (copy : Seating) (ready : List ReadySeat) → ready ≡ []
    → Copies from seats keys copy → IsSeated keys copy.seats ready
compacted from keys seats copy ready none copies = record {
  rise = copies.rise;
  sound = copies.sound;
  movable = none_movable keys copy.seats ready none;
}

same_ready : (keys more : List CohortKey) (ready : List ReadySeat) → ready ≡ [] → ready_of more ready ≡ ready_of keys ready
same_ready keys more [] none = refl
same_ready keys more (r ∷ ready) none = absurd (cc)

pub same_held : (from keys : List CohortKey) (seats : List Seat) (copy : Seating) (ready : List ReadySeat) → ready ≡ []
    → Copies from seats keys copy → held keys copy.seats ready ≡ held from seats ready
same_held from keys seats copy ready none copies =
    let pairs = same_ready from keys ready none in
    λ i. record { entries = copies.seen i; ready = pairs i }

pub no_items : {X : Type 0} (xs : List X) → length xs ≤ 0 → xs ≡ []
no_items [] none = refl
no_items (x ∷ xs) none = absurd (omega arith)
