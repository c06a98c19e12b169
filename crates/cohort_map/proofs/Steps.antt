-- The steps of the loops over seats.
use Rattle.std.proofs.Common.{if◌then◌else◌, ◌≡◌, ◌≢◌, ◌∙◌, ℕ, ◌<◌, ◌≤◌, ◌+◌, ◌-◌, zero, suc, Bool, true, false, ◌&&◌, ◌||◌, not, ◌==◌, List, [], ◌∷◌, ◌++◌, length, map, take, get_or, refl, sym, ap, subst, arith, add-one, eq-eqb}
use Rattle.std.proofs.lemmas.Bool.{eqb-true, ne_eqb}
use Rattle.std.specs.List.{AllByRecursion}
use Rattle.cohort_map.specs.declared.member.Member.{Member}
use Rattle.cohort_map.specs.declared.seat.Seat.{Seat}
use Rattle.cohort_map.specs.Batches.{is_member}
use Rattle.cohort_map.specs.Seats.{Rise, is_kept, is_at, at, IsWithin, EndsKept, seat_marked, seat_opened, is_cohort_busy, seat_due_by, seat_ticked}
use Rattle.cohort_map.proofs.Alls.{read_same}
use Rattle.cohort_map.proofs.Rising.{no_seat, other_number, at_here, at_other, rise_over}

and_false : (b k : Bool) → k ≡ false → (b && k) ≡ false
and_false true k none = none
and_false false k none = refl

pub unkept_at : (n : ℕ) (seats : List Seat) (place : ℕ) (d : Seat) → place < length seats → is_kept (get_or seats place no_seat) ≡ false → is_at n (get_or seats place d) ≡ false
unkept_at n seats place d within none =
    subst (λ (s : Seat). is_at n s ≡ false) (read_same seats place no_seat d within) (and_false ((get_or seats place no_seat).number == n) _ none)

pub other_at : (n : ℕ) (seats : List Seat) (place : ℕ) (d : Seat) → place < length seats → (get_or seats place no_seat).number ≢ n → is_at n (get_or seats place d) ≡ false
other_at n seats place d within apart =
    subst (λ (s : Seat). is_at n s ≡ false) (read_same seats place no_seat d within) (other_number n (get_or seats place no_seat) apart)

-- ---- due

pub due_same : (busy : List Bool) (all seats : List Seat) (count : ℕ) → ((cohort : ℕ) → cohort < count → get_or busy cohort false ≡ is_cohort_busy all cohort) → AllByRecursion (IsWithin count) seats → map (seat_due_by busy) seats ≡ map (seat_ticked all) seats
due_same busy all [] count same within = refl
due_same busy all (s ∷ seats) count same within =
    let here = ap (λ (b : Bool). record s { due = s.live && not b }) (same s.cohort within.0) in
    let rest = due_same busy all seats count same within.1 in
    λ i. here i ∷ rest i

cleared : (flags : List Bool) (k : ℕ) → get_or (map {A = Bool} {B = Bool} (λ _. false) flags) k false ≡ false
cleared [] k = refl
cleared (f ∷ flags) zero = refl
cleared (f ∷ flags) (suc k) = cleared flags k

pub cleared_or : (now before : List Bool) (k : ℕ) (b : Bool) → now ≡ map {A = Bool} {B = Bool} (λ _. false) before → (get_or now k false || b) ≡ b
cleared_or now before k b is = rw (is, cleared before k) refl

-- ---- the end

ends_at : (seats : List Seat) (i : ℕ) → i < length seats → is_kept (get_or seats i no_seat) ≡ true → EndsKept (take (suc i) seats)
ends_at [] i within kept = absurd (omega arith)
ends_at (s ∷ seats) zero within kept = kept
ends_at (s ∷ []) (suc i) within kept = absurd (omega arith)
ends_at (s ∷ t ∷ seats) (suc i) within kept = ends_at (t ∷ seats) i (omega arith) kept

pub ends_kept : (seats : List Seat) (e : ℕ) → 0 < e → e ≤ length seats → is_kept (get_or seats (e - 1) no_seat) ≡ true → EndsKept (take e seats)
ends_kept seats zero some within kept = absurd (omega arith)
ends_kept seats (suc i) some within kept =
    let before : suc i - 1 ≡ i = omega arith in
    ends_at seats i (omega arith) (subst (λ (j : ℕ). is_kept (get_or seats j no_seat) ≡ true) before kept)

-- ---- marks

pub opened_none : (job : ℕ) (seats : List Seat) → seats ≡ map (seat_opened job []) seats
opened_none job [] = refl
opened_none job (s ∷ seats) = ap (λ (ts : List Seat). s ∷ ts) (opened_none job seats)

pub opened_number : (job : ℕ) (s : Seat) (b : Bool) → (if b then seat_marked job s else s).number ≡ s.number
opened_number job s true = refl
opened_number job s false = refl

or_nothing : (b : Bool) → b ≡ (b || false)
or_nothing true = refl
or_nothing false = refl

or_assoc : (a b c : Bool) → (a || (b || c)) ≡ ((a || b) || c)
or_assoc true b c = refl
or_assoc false b c = refl

any_more : (n : ℕ) (members : List Member) (m : Member) → is_member (members ++ m ∷ []) n ≡ (is_member members n || (m.sub == n))
any_more n [] m = sym (or_nothing (m.sub == n))
any_more n (l ∷ members) m = ap (λ (b : Bool). (l.sub == n) || b) (any_more n members m) ∙ or_assoc (l.sub == n) (is_member members n) (m.sub == n)

opened_when : (job : ℕ) (members : List Member) (s : Seat) → is_member members s.number ≡ true → is_kept s ≡ true → seat_opened job members s ≡ seat_marked job s
opened_when job members s member kept = rw (member, kept) refl

opened_else : (job : ℕ) (members : List Member) (s : Seat) → (is_member members s.number && is_kept s) ≡ false → seat_opened job members s ≡ s
opened_else job members s none = rw none refl

twice : (job : ℕ) (s : Seat) (b : Bool) → (if b then seat_marked job (seat_marked job s) else seat_marked job s) ≡ seat_marked job s
twice job s true = refl
twice job s false = refl

true_false : true ≡ false → ⊥
true_false h = cc

turned : (a b : ℕ) (e : Bool) → (a == b) ≡ e → (b == a) ≡ e
turned a b true h = eq-eqb b a (sym (eqb-true a b h))
turned a b false h = ne_eqb b a (λ same. absurd (true_false (sym (eq-eqb a b (sym same)) ∙ h)))

here_at : (n : ℕ) (s : Seat) → (s.number == n) ≡ true → is_kept s ≡ true → is_at n s ≡ true
here_at n s same kept = rw (same, kept) refl

away_at : (n : ℕ) (s : Seat) → (s.number == n) ≡ false → is_at n s ≡ false
away_at n s other = rw other refl

by_parts : (job : ℕ) (members : List Member) (m : Member) (s : Seat) (b k e : Bool) → is_member members s.number ≡ b → is_kept s ≡ k → (m.sub == s.number) ≡ e → at m.sub (seat_marked job) (seat_opened job members s) ≡ seat_opened job (members ++ m ∷ []) s
by_parts job members m s true true e member kept same =
    let more : is_member (members ++ m ∷ []) s.number ≡ true = any_more s.number members m ∙ ap (λ (c : Bool). c || (m.sub == s.number)) member in
    ap (at m.sub (seat_marked job)) (opened_when job members s member kept)
    ∙ twice job s (is_at m.sub (seat_marked job s))
    ∙ sym (opened_when job (members ++ m ∷ []) s more kept)
by_parts job members m s false true true member kept same =
    let more : is_member (members ++ m ∷ []) s.number ≡ true = any_more s.number members m ∙ ap (λ (c : Bool). c || (m.sub == s.number)) member ∙ same in
    ap (at m.sub (seat_marked job)) (opened_else job members s (ap (λ (c : Bool). c && is_kept s) member))
    ∙ at_here m.sub (seat_marked job) s (here_at m.sub s (turned m.sub s.number true same) kept)
    ∙ sym (opened_when job (members ++ m ∷ []) s more kept)
by_parts job members m s false true false member kept same =
    let more : is_member (members ++ m ∷ []) s.number ≡ false = any_more s.number members m ∙ ap (λ (c : Bool). c || (m.sub == s.number)) member ∙ same in
    ap (at m.sub (seat_marked job)) (opened_else job members s (ap (λ (c : Bool). c && is_kept s) member))
    ∙ at_other m.sub (seat_marked job) s (away_at m.sub s (turned m.sub s.number false same))
    ∙ sym (opened_else job (members ++ m ∷ []) s (ap (λ (c : Bool). c && is_kept s) more))
by_parts job members m s b false e member kept same =
    ap (at m.sub (seat_marked job)) (opened_else job members s (and_false (is_member members s.number) (is_kept s) kept))
    ∙ at_other m.sub (seat_marked job) s (and_false (s.number == m.sub) (is_kept s) kept)
    ∙ sym (opened_else job (members ++ m ∷ []) s (and_false (is_member (members ++ m ∷ []) s.number) (is_kept s) kept))

mark_more : (job : ℕ) (members : List Member) (m : Member) (seats : List Seat) → map (at m.sub (seat_marked job)) (map (seat_opened job members) seats) ≡ map (seat_opened job (members ++ m ∷ [])) seats
mark_more job members m [] = refl
mark_more job members m (s ∷ seats) =
    let here = by_parts job members m s (is_member members s.number) (is_kept s) (m.sub == s.number) refl refl refl in
    let rest = mark_more job members m seats in
    λ i. here i ∷ rest i

take_one : {X : Type 0} (xs : List X) (i : ℕ) (d : X) → i < length xs → take (suc i) xs ≡ take i xs ++ get_or xs i d ∷ []
take_one [] i d within = absurd (omega arith)
take_one (x ∷ xs) zero d within = refl
take_one (x ∷ xs) (suc i) d within = ap (λ (ys : List _). x ∷ ys) (take_one xs i d (omega arith))

pub mark_step : (job : ℕ) (members : List Member) (i : ℕ) (d : Member) (seats : List Seat) → i < length members → map (at (get_or members i d).sub (seat_marked job)) (map (seat_opened job (take i members)) seats) ≡ map (seat_opened job (take (i + 1) members)) seats
mark_step job members i d seats within =
    mark_more job (take i members) (get_or members i d) seats
    ∙ ap (λ (ms : List Member). map (seat_opened job ms) seats) (rw add-one (sym (take_one members i d within)))

pub marked_rise : (job n : ℕ) (seats : List Seat) → Rise seats → Rise (map (at n (seat_marked job)) seats)
marked_rise job n = rise_over (at n (seat_marked job)) (λ s. opened_number job s (is_at n s))
