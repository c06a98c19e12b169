-- What a batch is made of: the entries of its members, and of the cohorts that are chosen.
use Rattle.std.proofs.Common.{◌≡◌, ◌∙◌, inl, inr, sym, ap, refl, subst, ℕ, zero, suc, ◌+◌, ◌-◌, ◌<◌, ◌≤◌, ◌==◌, Bool}
use Rattle.std.proofs.Common.{true, false, cond, if◌then◌else◌, Some, None, Option, List, [], ◌∷◌, length, take}
use Rattle.std.proofs.Common.{slice_get, arith}
use Rattle.std.specs.List.{list_any, filter, filter_map, cons_option, find, position_from}
use Rattle.std.proofs.lemmas.Bool.{eq-eqb}
use Rattle.cohort_map.specs.declared.member.Member.{Member}
use Rattle.cohort_map.specs.Entries.{Entry, is_due, due_count, are_polled_together, are_of_one_cohort}
use Rattle.cohort_map.specs.Batches.{first_of_each, is_due_with, chosen, member_at, member_of, members_of, batch_from}
use Rattle.cohort_map.specs.Batches.{batch_of, is_member, opened}
use Rattle.cohort_map.proofs.Exact.{same_poller-is, same_binding-is}
use Rattle.hub_model.proofs.Items.{Among, among_filter, and_true, and_both, among_any, found_among}

-- ---- pollers and cohorts

pub polled_then : (a b : Entry) → are_polled_together a b ≡ true → a.poller ≡ b.poller
polled_then a b h = (same_poller-is a.poller b.poller).0 h

pub cohort_then : (a b : Entry) → are_of_one_cohort a b ≡ true → (a.poller ≡ b.poller) × (a.binding ≡ b.binding)
cohort_then a b h =
    let both = and_true _ _ h in (
      (same_poller-is a.poller b.poller).0 both.0,
      (same_binding-is a.binding b.binding).0 both.1,
    )

pub then_cohort : (a b : Entry) → a.poller ≡ b.poller → a.binding ≡ b.binding → are_of_one_cohort a b ≡ true
then_cohort a b p h = and_both _ _ ((same_poller-is a.poller b.poller).1 p) ((same_binding-is a.binding b.binding).1 h)

-- ---- items

pub among_taken : {X : Type 0} (x : X) (n : ℕ) (xs : List X) → Among x (take n xs) → Among x xs
among_taken x zero [] a = absurd a
among_taken x zero (z ∷ xs) a = absurd a
among_taken x (suc n) [] a = absurd a
among_taken x (suc n) (z ∷ xs) (inl e) = inl e
among_taken x (suc n) (z ∷ xs) (inr a) = inr (among_taken x n xs a)

pub got_among : {X : Type 0} (xs : List X) (i : ℕ) (x : X) → slice_get xs i ≡ Some x → Among x xs
got_among [] i x e = absurd (cc)
got_among (y ∷ xs) zero x e = inl (cc)
got_among (y ∷ xs) (suc i) x e = inr (got_among xs i x e)

made_by : {X Y : Type 0} (f : X → Option Y) (z : X) (xs : List X) (ys : List Y) (y : Y) (o : Option Y) → f z ≡ o →
    (Among y ys → (x : X) × Among x xs × (f x ≡ Some y)) → Among y (cons_option o ys) →
    (x : X) × Among x (z ∷ xs) × (f x ≡ Some y)
made_by f z xs ys y (Some w) e h (inl i) = (z, inl refl, e ∙ ap (λ v. Some v) (sym i))
made_by f z xs ys y (Some w) e h (inr a) = let r = h a in (r.0, inr r.1, r.2)
made_by f z xs ys y None e h a = let r = h a in (r.0, inr r.1, r.2)

pub made_among : {X Y : Type 0} (f : X → Option Y) (xs : List X) (y : Y) → Among y (filter_map f xs) →
    (x : X) × Among x xs × (f x ≡ Some y)
made_among f [] y a = absurd a
made_among f (z ∷ xs) y a = made_by f z xs (filter_map f xs) y (f z) refl (λ b. made_among f xs y b) a

pub among_made : {X Y : Type 0} (f : X → Option Y) (xs : List X) (x : X) (y : Y) → Among x xs → f x ≡ Some y →
    Among y (filter_map f xs)
among_made f [] x y a e = absurd a
among_made {X} {Y} f (z ∷ xs) x y (inl i) e =
    let here : f z ≡ Some y = ap f (sym i) ∙ e in
    subst (λ (o : Option Y). Among y (cons_option o (filter_map f xs))) (sym here) (inl refl)
among_made f (z ∷ xs) x y (inr a) e = among_past (f z) y (filter_map f xs) (among_made f xs x y a e)
  where
    among_past : {Y : Type 0} (o : Option Y) (y : Y) (ys : List Y) → Among y ys → Among y (cons_option o ys)
    among_past (Some w) y ys a = inr a
    among_past None y ys a = a

-- ---- places

pub record Placed {X : Type 0} (t : X → Bool) (from : ℕ) (xs : List X) (place : ℕ) : Type 0 where
  pub item : X
  pub at : ℕ
  pub is : place ≡ from + at
  pub got : slice_get xs at ≡ Some item
  pub passes : t item ≡ true

placed_by : {X : Type 0} (t : X → Bool) (from : ℕ) (x : X) (xs : List X) (place : ℕ) (b : Bool) → t x ≡ b →
    (position_from t (from + 1) xs ≡ Some place → Placed t (from + 1) xs place) →
    cond b (Some from) (position_from t (from + 1) xs) ≡ Some place → Placed t from (x ∷ xs) place
placed_by t from x xs place true e h i =
    let same : from ≡ place = cc in
    record { item = x; at = 0; is = omega (arith, same); got = refl; passes = e }
placed_by t from x xs place false e h i =
    let p = h i in
    let is = p.is in
    record { item = p.item; at = suc p.at; is = omega (arith, is); got = p.got; passes = p.passes }

pub placed : {X : Type 0} (t : X → Bool) (from : ℕ) (xs : List X) (place : ℕ) → position_from t from xs ≡ Some place →
    Placed t from xs place
placed t from [] place e = absurd (cc)
placed t from (x ∷ xs) place e = placed_by t from x xs place (t x) refl (λ h. placed t (from + 1) xs place h) e

-- ---- members

-- a member's entry, and that by which its cohort was chosen
pub record IsMemberIn (cohorts entries : List Entry) (m : Member) : Type 0 where
  pub entry : Entry
  pub among : Among entry entries
  pub number : entry.number ≡ m.sub
  pub live : entry.live ≡ true
  pub cohort : Entry
  pub id : 1 ≤ m.id
  pub at : slice_get cohorts (m.id - 1) ≡ Some cohort
  pub same : are_of_one_cohort entry cohort ≡ true

member_with : (cohorts entries : List Entry) (m : Member) (e : Entry) (o : Option ℕ) → Among e entries → e.live ≡ true →
    position_from (are_of_one_cohort e) 0 cohorts ≡ o → member_at e o ≡ Some m → IsMemberIn cohorts entries m
member_with cohorts entries m e (Some place) a live at is =
    let p = placed (are_of_one_cohort e) 0 cohorts place at in
    let number : e.number ≡ m.sub = cc in
    let id : place + 1 ≡ m.id = cc in
    let where_at = p.is in
    let index : p.at ≡ m.id - 1 = omega (arith, id, where_at) in
    record {
      entry = e;
      among = a;
      number = number;
      live = live;
      cohort = p.item;
      id = omega (arith, id);
      at = ap (λ (i : ℕ). slice_get cohorts i) (sym index) ∙ p.got;
      same = p.passes;
    }
member_with cohorts entries m e None a live at is = absurd (cc)

member_by : (cohorts entries : List Entry) (m : Member) (e : Entry) (live : Bool) → Among e entries → e.live ≡ live →
    (if live then member_at e (position_from (are_of_one_cohort e) 0 cohorts) else None) ≡ Some m →
    IsMemberIn cohorts entries m
member_by cohorts entries m e true a live is = member_with cohorts entries m e _ a live refl is
member_by cohorts entries m e false a live is = absurd (cc)

pub member_in : (cohorts entries : List Entry) (m : Member) → Among m (members_of cohorts entries) →
    IsMemberIn cohorts entries m
member_in cohorts entries m a =
    let r = made_among (member_of cohorts) entries m a in member_by cohorts entries m r.0 r.0.live r.1 refl r.2

-- ---- cohorts

among_first : (x : Entry) (earlier entries : List Entry) → Among x (first_of_each earlier entries) → Among x entries
among_first x earlier [] a = absurd a
among_first x earlier (z ∷ zs) a =
    first_by x z zs earlier (list_any (are_of_one_cohort z) earlier) (λ b. among_first x earlier zs b)
    (λ b. among_first x (z ∷ earlier) zs b) a
  where
    first_by : (x z : Entry) (zs earlier : List Entry) (b : Bool) → (Among x (first_of_each earlier zs) → Among x zs) →
        (Among x (first_of_each (z ∷ earlier) zs) → Among x zs) →
        Among x (if b then first_of_each earlier zs else z ∷ first_of_each (z ∷ earlier) zs) → Among x (z ∷ zs)
    first_by x z zs earlier true h i a = inr (h a)
    first_by x z zs earlier false h i (inl e) = inl e
    first_by x z zs earlier false h i (inr a) = inr (i a)

-- a chosen entry is due, and of the first one's poller
pub chosen_in : (limit : ℕ) (entries : List Entry) (first c : Entry) → Among c (chosen limit entries first) →
    Among c entries × (c.due ≡ true) × (first.poller ≡ c.poller)
chosen_in limit entries first c a =
    let left = among_first c [] (filter (is_due_with first) entries) (among_taken c limit _ a) in
    let kept = among_filter (is_due_with first) c entries left in
    let both = and_true c.due (are_polled_together first c) kept.1 in
    (kept.0, both.0, polled_then first c both.1)

-- the first that passes a weaker test is the first that is left, where it passes
left_by : {X : Type 0} (p q : X → Bool) (z : X) (zs : List X) (x : X) (b c : Bool) → q z ≡ b → p z ≡ c →
    (b ≡ true → c ≡ true) →
    q x ≡ true →
    (find p zs ≡ Some x → (rest : List X) × (filter q zs ≡ x ∷ rest)) → cond c (Some z) (find p zs) ≡ Some x →
    (rest : List X) × (cond b (z ∷ filter q zs) (filter q zs) ≡ x ∷ rest)
left_by p q z zs x true true e f h i rest found =
    (filter q zs, (let same : z ≡ x = cc in ap (λ y. y ∷ filter q zs) same))
left_by p q z zs x true false e f h i rest found = absurd (cc (h refl))
left_by p q z zs x false true e f h i rest found = let same : z ≡ x = cc in absurd (cc (ap q same))
left_by p q z zs x false false e f h i rest found = rest found

pub first_left : {X : Type 0} (p q : X → Bool) (xs : List X) (x : X) → ((y : X) → q y ≡ true → p y ≡ true) →
    q x ≡ true →
    find p xs ≡ Some x → (rest : List X) × (filter q xs ≡ x ∷ rest)
first_left p q [] x h i found = absurd (cc)
first_left p q (z ∷ zs) x h i found =
    left_by p q z zs x (q z) (p z) refl refl (h z) i (λ found. first_left p q zs x h i found) found

-- the first due entry stands for the first cohort
pub first_chosen : (limit : ℕ) (entries : List Entry) (first : Entry) → 1 ≤ limit → find is_due entries ≡ Some first →
    (rest : List Entry) × (chosen limit entries first ≡ first ∷ rest)
first_chosen zero entries first low found = absurd (omega (arith, low))
first_chosen (suc n) entries first low found =
    let due = (found_among is_due entries first found).1 in
    let with_itself = and_both first.due (are_polled_together first first) due
    ((same_poller-is first.poller first.poller).1 refl) in
    let left = first_left is_due (is_due_with first) entries first
    (λ e h. (and_true e.due (are_polled_together first e) h).0) with_itself found in
    (take n (first_of_each (first ∷ []) left.0), ap (λ (es : List Entry). take (suc n) (first_of_each [] es)) left.1)

abbrev pub AreDueLive : List Entry → Type 0
AreDueLive entries = (e : Entry) → Among e entries → e.due ≡ true → e.live ≡ true

-- it is a member, if it is live
pub first_is_member : (limit : ℕ) (entries : List Entry) (first : Entry) → 1 ≤ limit →
    find is_due entries ≡ Some first →
    first.live ≡ true → Among (record { sub = first.number; id = 1 }) (members_of (chosen limit entries first) entries)
first_is_member limit entries first low found live =
    let cs = first_chosen limit entries first low found in
    among_made (member_of (chosen limit entries first)) entries first (record { sub = first.number; id = 1 })
    (found_among is_due entries first found).0
    (rw (live, cs.1, then_cohort first first refl refl) refl)

-- members with one id have one binding
pub one_binding : (cohorts entries : List Entry) (m n : Member) (a : IsMemberIn cohorts entries m)
    (b : IsMemberIn cohorts entries n) → m.id ≡ n.id → a.entry.binding ≡ b.entry.binding
one_binding cohorts entries m n a b e =
    let same : a.cohort ≡ b.cohort = (let is = sym a.at ∙ ap (λ (i : ℕ). slice_get cohorts (i - 1)) e ∙ b.at in cc) in
    (cohort_then a.entry a.cohort a.same).1 ∙ ap (λ (c : Entry). c.binding) same
    ∙ sym (cohort_then b.entry b.cohort b.same).1

-- all are of one poller
pub one_poller : (limit : ℕ) (entries : List Entry) (first : Entry) (m : Member)
    (a : IsMemberIn (chosen limit entries first) entries m) → first.poller ≡ a.entry.poller
one_poller limit entries first m a =
    (chosen_in limit entries first a.cohort (got_among (chosen limit entries first) (m.id - 1) a.cohort a.at)).2
    ∙ sym (cohort_then a.entry a.cohort a.same).0

-- ---- how many are due

not_more : (job : ℕ) (members : List Member) (e : Entry) (es fs : List Entry) (b d : Bool) → e.due ≡ d →
    length fs ≤ length es →
    length (cond (is_due (if b then record e { due = false; job = Some job } else e))
    ((if b then record e { due = false; job = Some job } else e) ∷ fs) fs) ≤ length (cond (is_due e) (e ∷ es) es)
not_more job members e es fs true true h low = rw h (omega (arith, low))
not_more job members e es fs true false h low = rw h low
not_more job members e es fs false true h low = rw h (omega (arith, low))
not_more job members e es fs false false h low = rw h low

opened_at_most : (job : ℕ) (members : List Member) (entries : List Entry) →
    due_count (opened job members entries) ≤ due_count entries
opened_at_most job members [] = omega arith
opened_at_most job members (e ∷ es) =
    not_more job members e (filter is_due es) (filter is_due (opened job members es))
    (is_member members e.number) e.due refl
    (opened_at_most job members es)

fewer_here : (job : ℕ) (members : List Member) (e : Entry) (es fs : List Entry) (b : Bool) → b ≡ true → e.due ≡ true →
    length fs ≤ length es →
    length (cond (is_due (if b then record e { due = false; job = Some job } else e))
    ((if b then record e { due = false; job = Some job } else e) ∷ fs) fs) < length (cond (is_due e) (e ∷ es) es)
fewer_here job members e es fs true h d low = rw d (omega (arith, low))
fewer_here job members e es fs false h d low = absurd (cc)

fewer_there : (job : ℕ) (members : List Member) (e : Entry) (es fs : List Entry) (b d : Bool) → e.due ≡ d →
    length fs < length es →
    length (cond (is_due (if b then record e { due = false; job = Some job } else e))
    ((if b then record e { due = false; job = Some job } else e) ∷ fs) fs) < length (cond (is_due e) (e ∷ es) es)
fewer_there job members e es fs true true h low = rw h (omega (arith, low))
fewer_there job members e es fs true false h low = rw h low
fewer_there job members e es fs false true h low = rw h (omega (arith, low))
fewer_there job members e es fs false false h low = rw h low

opened_fewer : (job : ℕ) (members : List Member) (entries : List Entry) (first : Entry) → Among first entries →
    first.due ≡ true → is_member members first.number ≡ true →
    due_count (opened job members entries) < due_count entries
opened_fewer job members [] first a due member = absurd a
opened_fewer job members (e ∷ es) first (inl same) due member =
    fewer_here job members e (filter is_due es) (filter is_due (opened job members es)) (is_member members e.number)
    (ap (λ (x : Entry). is_member members x.number) (sym same) ∙ member) (ap (λ (x : Entry). x.due) (sym same) ∙ due)
    (opened_at_most job members es)
opened_fewer job members (e ∷ es) first (inr a) due member =
    fewer_there job members e (filter is_due es) (filter is_due (opened job members es))
    (is_member members e.number) e.due refl
    (opened_fewer job members es first a due member)

fewer_by : (limit job : ℕ) (entries : List Entry) (o : Option Entry) (members : List Member) → 1 ≤ limit →
    AreDueLive entries →
    find is_due entries ≡ o → members ≡ batch_from limit entries o → (members ≡ [] → ⊥) →
    due_count (opened job members entries) < due_count entries
fewer_by limit job entries None members low live found is some = absurd (some is)
fewer_by limit job entries (Some first) members low live found is some =
    let due = found_among is_due entries first found in
    let among = first_is_member limit entries first low found (live first due.0 due.1) in
    opened_fewer job members entries first due.0 due.1
    (ap (λ (ms : List Member). is_member ms first.number) is
    ∙ among_any (λ (m : Member). m.sub == first.number) (record { sub = first.number; id = 1 }) _ among
    (eq-eqb first.number first.number refl))

-- a take leaves fewer due
pub fewer_due : (limit job : ℕ) (entries : List Entry) (members : List Member) → 1 ≤ limit → AreDueLive entries →
    members ≡ batch_of limit entries → (members ≡ [] → ⊥) → due_count (opened job members entries) < due_count entries
fewer_due limit job entries members low live is some =
    fewer_by limit job entries (find is_due entries) members low live refl is some
