-- The invariant of the map, kept by each call.
use Rattle.std.proofs.Common.{if◌then◌else◌, ◌≡◌, ◌∙◌, ℕ, ◌<◌, ◌≤◌, Bool, true, false, ◌&&◌, ◌||◌, not, Option, Some, None, List, [], ◌∷◌, ◌++◌, length, map, refl, sym, ap, subst, arith}
use Rattle.std.specs.List.{All, AllByRecursion, cons_option, slice_get}
use Rattle.std.proofs.lemmas.List.Elements.{filter_map-append}
use Rattle.cohort_map.specs.declared.key.CohortKey.{CohortKey}
use Rattle.cohort_map.specs.declared.seat.Seat.{Seat}
use Rattle.cohort_map.specs.declared.seat.ReadySeat.{ReadySeat}
use Rattle.cohort_map.specs.declared.member.Member.{Member}
use Rattle.cohort_map.specs.Entries.{Entry, Ready}
use Rattle.cohort_map.specs.Batches.{is_member, is_job}
use Rattle.cohort_map.specs.Seats.{Rise, is_kept, seen, entry_with, entries_of, ready_with, ready_seen, ready_of, IsSound, CanMove, IsReady, IsSeated, is_at, at, IsCut, EndsKept, seat_ended, seat_marked, seat_opened, seat_freed, seat_closed, seat_ticked, is_cohort_busy}
use Rattle.cohort_map.proofs.Alls.{all_over, all_weaker, all_more, all_front, all_from}
use Rattle.cohort_map.proofs.Rising.{rise_over, rise_more, rise_front}
use Rattle.cohort_map.proofs.Views.{has_key, seen_kept}

-- ---- a change of each seat by itself

can_move_over : (keys : List CohortKey) (r : ReadySeat) (s t : Seat) → t.number ≡ s.number → t.cohort ≡ s.cohort → CanMove keys r s → CanMove keys r t
can_move_over keys r s t number cohort can named k to at_t at_r = can (named ∙ number) k to (ap (slice_get keys) (sym cohort) ∙ at_t) at_r

abbrev pub KeepsLives : Seat → Seat → Type 0
KeepsLives s t = (s.due ≡ true → s.live ≡ true) → t.due ≡ true → t.live ≡ true

pub seated_over : (keys : List CohortKey) (seats : List Seat) (ready : List ReadySeat) (g : Seat → Seat) → ((s : Seat) → (g s).number ≡ s.number) → ((s : Seat) → (g s).cohort ≡ s.cohort) → ((s : Seat) → KeepsLives s (g s)) → IsSeated keys seats ready → IsSeated keys (map g seats) ready
seated_over keys seats ready g number cohort lives seated = record {
  rise = rise_over g number seats seated.rise;
  sound = all_over (IsSound (length keys)) (IsSound (length keys)) g
      (λ s h. record { within = subst (λ (c : ℕ). c < length keys) (sym (cohort s)) h.within; lives = lives s h.lives }) seats seated.sound;
  movable = all_weaker (IsReady keys seats) (IsReady keys (map g seats))
      (λ r h. record { within = h.within; moves = all_over (CanMove keys r) (CanMove keys r) g (λ s m. can_move_over keys r s (g s) (number s) (cohort s) m) seats h.moves }) ready seated.movable;
}

number_by : (b : Bool) (s t : Seat) → t.number ≡ s.number → (if b then t else s).number ≡ s.number
number_by true s t e = e
number_by false s t e = refl

cohort_by : (b : Bool) (s t : Seat) → t.cohort ≡ s.cohort → (if b then t else s).cohort ≡ s.cohort
cohort_by true s t e = e
cohort_by false s t e = refl

lives_by : (b : Bool) (s t : Seat) → KeepsLives s t → KeepsLives s (if b then t else s)
lives_by true s t keeps = keeps
lives_by false s t keeps = λ lives due. lives due

false_due : (P : Type 0) → false ≡ true → P
false_due P h = absurd (cc)

and_left : (a b : Bool) → (a && b) ≡ true → a ≡ true
and_left true b h = refl
and_left false b h = h

pub ended_seated : (keys : List CohortKey) (seats : List Seat) (ready : List ReadySeat) (n : ℕ) → IsSeated keys seats ready → IsSeated keys (map (at n seat_ended) seats) ready
ended_seated keys seats ready n =
    seated_over keys seats ready (at n seat_ended)
    (λ s. number_by (is_at n s) s (seat_ended s) refl) (λ s. cohort_by (is_at n s) s (seat_ended s) refl)
    (λ s. lives_by (is_at n s) s (seat_ended s) (λ lives due. due))

pub opened_seated : (keys : List CohortKey) (seats : List Seat) (ready : List ReadySeat) (job : ℕ) (members : List Member) → IsSeated keys seats ready → IsSeated keys (map (seat_opened job members) seats) ready
opened_seated keys seats ready job members =
    seated_over keys seats ready (seat_opened job members)
    (λ s. number_by (is_member members s.number && is_kept s) s (seat_marked job s) refl) (λ s. cohort_by (is_member members s.number && is_kept s) s (seat_marked job s) refl)
    (λ s. lives_by (is_member members s.number && is_kept s) s (seat_marked job s) (λ lives due. false_due _ due))

pub closed_seated : (keys : List CohortKey) (seats : List Seat) (ready : List ReadySeat) (job : ℕ) (again : Bool) → IsSeated keys seats ready → IsSeated keys (map (seat_closed job again) seats) ready
closed_seated keys seats ready job again =
    seated_over keys seats ready (seat_closed job again)
    (λ s. number_by (is_job job s.job) s (seat_freed again s) refl) (λ s. cohort_by (is_job job s.job) s (seat_freed again s) refl)
    (λ s. lives_by (is_job job s.job) s (seat_freed again s) (λ lives due. and_left s.live (s.due || again) due))

pub ticked_seated : (keys : List CohortKey) (all seats : List Seat) (ready : List ReadySeat) → IsSeated keys seats ready → IsSeated keys (map (seat_ticked all) seats) ready
ticked_seated keys all seats ready =
    seated_over keys seats ready (seat_ticked all) (λ s. refl) (λ s. refl)
    (λ s. λ lives due. and_left s.live (not (is_cohort_busy all s.cohort)) due)

-- ---- more keys

abbrev pub Stay : List CohortKey → List CohortKey → Type 0
Stay keys more = (i : ℕ) (k : CohortKey) → slice_get keys i ≡ Some k → slice_get more i ≡ Some k

key_same : (keys more : List CohortKey) (c : ℕ) → Stay keys more → c < length keys → slice_get more c ≡ slice_get keys c
key_same keys more c stay within =
    let key = has_key keys c within in
    stay c key.0 key.1 ∙ sym key.1

pub more_seen : (keys more : List CohortKey) (seats : List Seat) → Stay keys more → AllByRecursion (IsSound (length keys)) seats → entries_of more seats ≡ entries_of keys seats
more_seen keys more [] stay all = refl
more_seen keys more (s ∷ seats) stay all =
    let same = key_same keys more s.cohort stay all.0.within in
    let rest = more_seen keys more seats stay all.1 in
    rw (same, rest) refl

pub more_ready_seen : (keys more : List CohortKey) (seats : List Seat) (ready : List ReadySeat) → Stay keys more → AllByRecursion (IsReady keys seats) ready → ready_of more ready ≡ ready_of keys ready
more_ready_seen keys more seats [] stay all = refl
more_ready_seen keys more seats (r ∷ ready) stay all =
    let same = key_same keys more r.cohort stay all.0.within in
    let rest = more_ready_seen keys more seats ready stay all.1 in
    rw (same, rest) refl

can_move_more : (keys more : List CohortKey) (r : ReadySeat) (s : Seat) → Stay keys more → r.cohort < length keys → s.cohort < length keys → CanMove keys r s → CanMove more r s
can_move_more keys more r s stay rin sin can named k to at_s at_r =
    can named k to (sym (key_same keys more s.cohort stay sin) ∙ at_s) (sym (key_same keys more r.cohort stay rin) ∙ at_r)

moves_more : (keys more : List CohortKey) (r : ReadySeat) (seats : List Seat) → Stay keys more → r.cohort < length keys → AllByRecursion (IsSound (length keys)) seats → AllByRecursion (CanMove keys r) seats → AllByRecursion (CanMove more r) seats
moves_more keys more r [] stay rin sound moves = tt
moves_more keys more r (s ∷ seats) stay rin sound moves =
    (can_move_more keys more r s stay rin sound.0.within moves.0, moves_more keys more r seats stay rin sound.1 moves.1)

pub more_seated : (keys more : List CohortKey) (seats : List Seat) (ready : List ReadySeat) → Stay keys more → length keys ≤ length more → IsSeated keys seats ready → IsSeated more seats ready
more_seated keys more seats ready stay grows seated = record {
  rise = seated.rise;
  sound = all_weaker (IsSound (length keys)) (IsSound (length more)) (λ s h. record { within = let w = h.within in omega arith; lives = h.lives }) seats seated.sound;
  movable = all_weaker (IsReady keys seats) (IsReady more seats)
      (λ r h. record { within = let w = h.within in omega arith; moves = moves_more keys more r seats stay h.within seated.sound h.moves }) ready seated.movable;
}

-- ---- empty seats at the end

front_ready : (keys : List CohortKey) (seats others : List Seat) (ready : List ReadySeat) → AllByRecursion (IsReady keys (seats ++ others)) ready → AllByRecursion (IsReady keys seats) ready
front_ready keys seats others ready =
    all_weaker (IsReady keys (seats ++ others)) (IsReady keys seats) (λ r h. record { within = h.within; moves = all_front (CanMove keys r) seats others h.moves }) ready

front_seated : (keys : List CohortKey) (seats others : List Seat) (ready : List ReadySeat) → IsSeated keys (seats ++ others) ready → IsSeated keys seats ready
front_seated keys seats others ready seated = record {
  rise = rise_front seats others seated.rise;
  sound = all_front (IsSound (length keys)) seats others seated.sound;
  movable = front_ready keys seats others ready seated.movable;
}

pub cut_seated : (keys : List CohortKey) (before after : List Seat) (ready : List ReadySeat) → IsCut before after → IsSeated keys before ready → IsSeated keys after ready
cut_seated keys before after ready cut seated = front_seated keys after cut.dropped ready (subst (λ (ss : List Seat). IsSeated keys ss ready) cut.is seated)

unseen : (keys : List CohortKey) (seats : List Seat) → AllByRecursion (λ s. is_kept s ≡ false) seats → entries_of keys seats ≡ []
unseen keys [] all = refl
unseen keys (s ∷ seats) all = rw all.0 (unseen keys seats all.1)

append_none : {X : Type 0} (xs ys : List X) → ys ≡ [] → xs ++ ys ≡ xs
append_none [] ys none = none
append_none (x ∷ xs) ys none = ap (λ (zs : List _). x ∷ zs) (append_none xs ys none)

pub cut_seen : (keys : List CohortKey) (before after : List Seat) → IsCut before after → entries_of keys after ≡ entries_of keys before
cut_seen keys before after cut =
    sym (append_none (entries_of keys after) (entries_of keys cut.dropped) (unseen keys cut.dropped cut.empty))
    ∙ sym (filter_map-append (seen keys) after cut.dropped) ∙ ap (entries_of keys) (sym cut.is)

-- ---- one more seat

kept_step : (keys : List CohortKey) (s : Seat) (k : CohortKey) (seats : List Seat) (n : ℕ) (b : Bool) → is_kept s ≡ b → slice_get keys s.cohort ≡ Some k → AllByRecursion (λ (e : Entry). e.number < n) (cons_option (seen keys s) (entries_of keys seats)) → (AllByRecursion (λ (e : Entry). e.number < n) (entries_of keys seats) → AllByRecursion (λ t. is_kept t ≡ true → t.number < n) seats) → AllByRecursion (λ t. is_kept t ≡ true → t.number < n) (s ∷ seats)
kept_step keys s k seats n true kept is below more =
    let both : AllByRecursion (λ (e : Entry). e.number < n) (entry_with s k ∷ entries_of keys seats) = subst (λ (o : Option Entry). AllByRecursion (λ (e : Entry). e.number < n) (cons_option o (entries_of keys seats))) (seen_kept keys s k is kept) below in
    ((λ _. both.0), more both.1)
kept_step keys s k seats n false kept is below more =
    let hidden : seen keys s ≡ None = rw kept refl in
    let rest : AllByRecursion (λ (e : Entry). e.number < n) (entries_of keys seats) = subst (λ (o : Option Entry). AllByRecursion (λ (e : Entry). e.number < n) (cons_option o (entries_of keys seats))) hidden below in
    ((λ h. absurd (cc)), more rest)

kept_below : (keys : List CohortKey) (seats : List Seat) (n : ℕ) → AllByRecursion (IsSound (length keys)) seats → AllByRecursion (λ e. e.number < n) (entries_of keys seats) → AllByRecursion (λ s. is_kept s ≡ true → s.number < n) seats
kept_below keys [] n sound below = tt
kept_below keys (s ∷ seats) n sound below =
    let key = has_key keys s.cohort sound.0.within in
    kept_step keys s key.0 seats n (is_kept s) refl key.1 below (λ rest. kept_below keys seats n sound.1 rest)

pub ends_below : (seats : List Seat) (n : ℕ) → Rise seats → EndsKept seats → AllByRecursion (λ s. is_kept s ≡ true → s.number < n) seats → AllByRecursion (λ s. s.number < n) seats
ends_below [] n up ends below = tt
ends_below (s ∷ []) n up ends below = (below.0 ends, tt)
ends_below (s ∷ t ∷ seats) n up ends below =
    let rest = ends_below (t ∷ seats) n up.1 ends below.1 in
    let less = up.0.0 in
    let last = rest.0 in
    (omega arith, rest)

pub number_below : (keys : List CohortKey) (seats : List Seat) (n : ℕ) → Rise seats → EndsKept seats → AllByRecursion (IsSound (length keys)) seats → All (λ e. e.number < n) (entries_of keys seats) → AllByRecursion (λ s. s.number < n) seats
number_below keys seats n up ends sound below = ends_below seats n up ends (kept_below keys seats n sound (all_from (λ e. e.number < n) (entries_of keys seats) below))

pub ready_below : (keys : List CohortKey) (seats : List Seat) (ready : List ReadySeat) (n : ℕ) → AllByRecursion (IsReady keys seats) ready → AllByRecursion (λ r. r.number < n) (ready_of keys ready) → AllByRecursion (λ (r : ReadySeat). r.number < n) ready
ready_below keys seats [] n all below = tt
ready_below keys seats (r ∷ ready) n all below =
    let key = has_key keys r.cohort all.0.within in
    let here : ready_seen keys r ≡ Some (ready_with r key.0) = rw key.1 refl in
    let both : AllByRecursion (λ (q : Ready). q.number < n) (ready_with r key.0 ∷ ready_of keys ready) = subst (λ (o : Option Ready). AllByRecursion (λ (q : Ready). q.number < n) (cons_option o (ready_of keys ready))) here below in
    (both.0, ready_below keys seats ready n all.1 both.1)

ready_more : (keys : List CohortKey) (seats : List Seat) (ready : List ReadySeat) (s : Seat) → AllByRecursion (λ (r : ReadySeat). r.number < s.number) ready → AllByRecursion (IsReady keys seats) ready → AllByRecursion (IsReady keys (seats ++ s ∷ [])) ready
ready_more keys seats [] s apart all = tt
ready_more keys seats (r ∷ ready) s apart all =
    let less = apart.0 in
    (record { within = all.0.within; moves = all_more (CanMove keys r) seats s all.0.moves (λ named k to at_s at_r. absurd (omega arith)) }, ready_more keys seats ready s apart.1 all.1)

pub joined_seated : (keys : List CohortKey) (seats : List Seat) (ready : List ReadySeat) (s : Seat) → s.cohort < length keys → s.due ≡ false → AllByRecursion (λ t. t.number < s.number) seats → AllByRecursion (λ (r : ReadySeat). r.number < s.number) ready → IsSeated keys seats ready → IsSeated keys (seats ++ s ∷ []) ready
joined_seated keys seats ready s within idle below apart seated = record {
  rise = rise_more seats s seated.rise below;
  sound = all_more (IsSound (length keys)) seats s seated.sound (record { within = within; lives = λ due. false_due _ (sym idle ∙ due) });
  movable = ready_more keys seats ready s apart seated.movable;
}

pub joined_seen : (keys : List CohortKey) (seats : List Seat) (s : Seat) (k : CohortKey) → slice_get keys s.cohort ≡ Some k → is_kept s ≡ true → entries_of keys (seats ++ s ∷ []) ≡ entries_of keys seats ++ entry_with s k ∷ []
joined_seen keys seats s k is kept =
    filter_map-append (seen keys) seats (s ∷ []) ∙ ap (λ (es : List Entry). entries_of keys seats ++ es) (rw (seen_kept keys s k is kept) refl)
