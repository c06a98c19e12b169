-- The relation of a batch: a row for each of its cohorts, with the binding of one of its members.
use Rattle.std.proofs.Common.{◌≡◌, ◌∙◌, inl, inr, sym, ap, refl, subst, ℕ, zero, suc, ◌+◌, ◌-◌, ◌<◌, ◌≤◌, ◌==◌, Bool}
use Rattle.std.proofs.Common.{true, false, ◌||◌, if◌then◌else◌, Some, None, Option, List, [], ◌∷◌, length, take}
use Rattle.std.proofs.Common.{slice_get, arith}
use Rattle.std.specs.Bool.{⊤}
use Rattle.std.specs.Option.{option_map}
use Rattle.std.specs.List.{AllByRecursion, list_any, filter, find, position_from}
use Rattle.std.specs.Prelude.{nat_lt}
use Rattle.std.proofs.lemmas.Bool.{eqb-true, eq-eqb, ltb-true, ltb-false}
use Rattle.plan_model.specs.declared.filter.Binding.{Binding}
use Rattle.cohort_map.specs.declared.member.Member.{Member}
use Rattle.cohort_map.specs.Entries.{Entry, is_due, is_entry, entry_at, are_of_one_cohort}
use Rattle.cohort_map.specs.Batches.{first_of_each, is_due_with, chosen, member_of, members_of, batch_from, batch_of}
use Rattle.batch_rel.specs.declared.relation.RelRow.{RelRow}
use Rattle.machine.specs.State.{State}
use Rattle.hub_model.specs.Kept.{Kept, is_kept, kept_of, entry_of, Represents}
use Rattle.hub_model.proofs.Items.{Among, among_filter, among_map, among_any, all_from_among, all_among, found_among}
use Rattle.hub_model.proofs.Items.{not_both}
use Rattle.hub_model.proofs.Filtered.{by_test, among_found}
use Rattle.hub_model.proofs.Reached.{IsRun}
use Rattle.hub_model.proofs.JobFacts.{one_of_number}
use Rattle.hub_model.proofs.Chosen.{member_in, chosen_in, got_among, among_made, then_cohort, one_binding, AreDueLive}
use Rattle.hub_model.proofs.TakenJobs.{binding_at, HasRow, IsRowOf}

-- ---- places

got_below : {X : Type 0} (xs : List X) (i j : ℕ) (x : X) → slice_get xs i ≡ Some x → j ≤ i →
    (y : X) × (slice_get xs j ≡ Some y)
got_below [] i j x e low = absurd (cc)
got_below (z ∷ xs) i zero x e low = (z, refl)
got_below (z ∷ xs) zero (suc j) x e low = absurd (omega (arith, low))
got_below (z ∷ xs) (suc i) (suc j) x e low = got_below xs i j x e (omega (arith, low))

got_within : {X : Type 0} (xs : List X) (i : ℕ) → i < length xs → (x : X) × (slice_get xs i ≡ Some x)
got_within [] i low = absurd (omega (arith, low))
got_within (x ∷ xs) zero low = (x, refl)
got_within (x ∷ xs) (suc i) low = got_within xs i (omega (arith, low))

among_got : {X : Type 0} (xs : List X) (x : X) → Among x xs → (i : ℕ) × (slice_get xs i ≡ Some x)
among_got [] x a = absurd a
among_got (y ∷ xs) x (inl e) = (0, ap (λ z. Some z) (sym e))
among_got (y ∷ xs) x (inr a) = let r = among_got xs x a in (suc r.0, r.1)

-- ---- each cohort is chosen once

-- no later entry is of the cohort of an earlier one
abbrev AreOthers : List Entry → Type 0
AreOthers [] = ⊤
AreOthers (c ∷ cs) = AllByRecursion (λ d. are_of_one_cohort d c ≡ false) cs × AreOthers cs

abbrev AreBeside : List Entry → List Entry → Type 0
AreBeside earlier cs = AreOthers cs × AllByRecursion (λ d. list_any (are_of_one_cohort d) earlier ≡ false) cs

neither : (a b : Bool) → (a || b) ≡ false → (a ≡ false) × (b ≡ false)
neither true b h = absurd (cc)
neither false b h = (refl, h)

both_beside : (c : Entry) (earlier cs : List Entry) →
    AllByRecursion (λ d. list_any (are_of_one_cohort d) (c ∷ earlier) ≡ false) cs →
    AllByRecursion (λ d. are_of_one_cohort d c ≡ false) cs × AllByRecursion
    (λ d. list_any (are_of_one_cohort d) earlier ≡ false) cs
both_beside c earlier [] all = (tt, tt)
both_beside c earlier (d ∷ cs) all =
    let here = neither _ _ all.0 in
    let rest = both_beside c earlier cs all.1 in
    ((here.0, rest.0), (here.1, rest.1))

beside_by : (x : Entry) (earlier xs : List Entry) (b : Bool) → list_any (are_of_one_cohort x) earlier ≡ b →
    AreBeside earlier (first_of_each earlier xs) → AreBeside (x ∷ earlier) (first_of_each (x ∷ earlier) xs) →
    AreBeside earlier (if b then first_of_each earlier xs else x ∷ first_of_each (x ∷ earlier) xs)
beside_by x earlier xs true e h i = h
beside_by x earlier xs false e h i = let both = both_beside x earlier _ i.1 in ((both.0, i.0), (e, both.1))

first_beside : (earlier xs : List Entry) → AreBeside earlier (first_of_each earlier xs)
first_beside earlier [] = (tt, tt)
first_beside earlier (x ∷ xs) =
    beside_by x earlier xs (list_any (are_of_one_cohort x) earlier) refl (first_beside earlier xs)
    (first_beside (x ∷ earlier) xs)

all_taken : {X : Type 0} (P : X → Type 0) (n : ℕ) (xs : List X) → AllByRecursion P xs → AllByRecursion P (take n xs)
all_taken P zero [] all = tt
all_taken P zero (x ∷ xs) all = tt
all_taken P (suc n) [] all = tt
all_taken P (suc n) (x ∷ xs) all = (all.0, all_taken P n xs all.1)

others_taken : (n : ℕ) (cs : List Entry) → AreOthers cs → AreOthers (take n cs)
others_taken zero [] h = tt
others_taken zero (c ∷ cs) h = tt
others_taken (suc n) [] h = tt
others_taken (suc n) (c ∷ cs) h = (all_taken _ n cs h.0, others_taken n cs h.1)

chosen_others : (limit : ℕ) (entries : List Entry) (first : Entry) → AreOthers (chosen limit entries first)
chosen_others limit entries first = others_taken limit _ (first_beside [] (filter (is_due_with first) entries)).0

-- a chosen entry stands at the place of its cohort
own_place : (cs : List Entry) → AreOthers cs → (i n : ℕ) (d : Entry) → slice_get cs i ≡ Some d →
    position_from (are_of_one_cohort d) n cs ≡ Some (n + i)
own_place [] h i n d e = absurd (cc)
own_place (c ∷ cs) h zero n d e =
    let same : c ≡ d = cc in
    rw (ap (are_of_one_cohort d) same ∙ then_cohort d d refl refl) (ap (λ (k : ℕ). Some k) (omega arith))
own_place (c ∷ cs) h (suc i) n d e =
    rw (all_among (λ d. are_of_one_cohort d c ≡ false) cs d (got_among cs i d e) h.0)
    (own_place cs h.1 i (n + 1) d e ∙ ap (λ (k : ℕ). Some k) (omega arith))

-- ---- each cohort has a member

pub record HasMember (members : List Member) (id : ℕ) : Type 0 where
  pub member : Member
  pub among : Among member members
  pub id_is : member.id ≡ id

chosen_member : (limit : ℕ) (entries : List Entry) (first d : Entry) (i : ℕ) → AreDueLive entries →
    slice_get (chosen limit entries first) i ≡ Some d →
    HasMember (members_of (chosen limit entries first) entries) (i + 1)
chosen_member limit entries first d i live e =
    let own = chosen_in limit entries first d (got_among _ i d e) in
    let place = own_place (chosen limit entries first) (chosen_others limit entries first) i 0 d e in
    record {
      member = record { sub = d.number; id = 0 + i + 1 };
      among = among_made (member_of (chosen limit entries first)) entries d
          (record { sub = d.number; id = 0 + i + 1 }) own.0
          (rw (live d own.0 own.1, place) refl);
      id_is = omega arith;
    }

below_by : (limit : ℕ) (entries : List Entry) (o : Option Entry) (m : Member) (id : ℕ) → AreDueLive entries →
    Among m (batch_from limit entries o) →
    1 ≤ id → id ≤ m.id → HasMember (batch_from limit entries o) id
below_by limit entries (Some first) m id live a low high =
    let is = member_in (chosen limit entries first) entries m a in
    let d = got_below (chosen limit entries first) (m.id - 1) (id - 1) is.cohort is.at (omega (arith, low, high)) in
    subst (HasMember (members_of (chosen limit entries first) entries)) (omega (arith, low))
    (chosen_member limit entries first d.0 (id - 1) live d.1)
below_by limit entries None m id live a low high = absurd a

-- the ids of members have no gap, from 1 on
pub ids_below : (limit : ℕ) (entries : List Entry) (members : List Member) → members ≡ batch_of limit entries →
    AreDueLive entries →
    (m : Member) → Among m members → (id : ℕ) → 1 ≤ id → id ≤ m.id → HasMember members id
ids_below limit entries members is live m a id low high =
    subst (λ (ms : List Member). HasMember ms id) (sym is)
    (below_by limit entries (find is_due entries) m id live (subst (λ (ms : List Member). Among m ms) is a) low high)

-- ---- members of one id have one binding

abbrev pub HaveOwnNumbers : List Entry → Type 0
HaveOwnNumbers entries = (a b : Entry) → Among a entries → Among b entries → a.number ≡ b.number → a ≡ b

found_entry : (entries : List Entry) → HaveOwnNumbers entries → (n : ℕ) (e : Entry) → Among e entries → e.number ≡ n →
    entry_at n entries ≡ Some e
found_entry entries own n e a number =
    let found = among_found (is_entry n) e entries a (eq-eqb e.number n number) in
    let is = found_among (is_entry n) entries found.0 found.1 in
    found.1 ∙ ap (λ (f : Entry). Some f) (own found.0 e is.0 a (eqb-true found.0.number n is.1 ∙ sym number))

binding_by : (limit : ℕ) (entries : List Entry) (o : Option Entry) (m n : Member) → HaveOwnNumbers entries →
    Among m (batch_from limit entries o) →
    Among n (batch_from limit entries o) → m.id ≡ n.id → binding_at m.sub entries ≡ binding_at n.sub entries
binding_by limit entries (Some first) m n own a b e =
    let cohorts = chosen limit entries first in
    let p = member_in cohorts entries m a in
    let q = member_in cohorts entries n b in
    ap (option_map (λ (e : Entry). e.binding)) (found_entry entries own m.sub p.entry p.among p.number)
    ∙ ap (λ (x : Binding). Some x) (one_binding cohorts entries m n p q e)
    ∙ ap (option_map (λ (e : Entry). e.binding)) (sym (found_entry entries own n.sub q.entry q.among q.number))
binding_by limit entries None m n own a b e = absurd a

pub same_binding : (limit : ℕ) (entries : List Entry) (members : List Member) → members ≡ batch_of limit entries →
    HaveOwnNumbers entries →
    (m n : Member) → Among m members → Among n members → m.id ≡ n.id →
    binding_at m.sub entries ≡ binding_at n.sub entries
same_binding limit entries members is own m n a b e =
    binding_by limit entries (find is_due entries) m n own (subst (λ (ms : List Member). Among m ms) is a)
    (subst (λ (ms : List Member). Among n ms) is b) e

-- ---- the relation

-- a row of an id has the binding of some member with that id
pub record IsRowWith (entries : List Entry) (members : List Member) (id : ℕ) (row : RelRow) : Type 0 where
  pub member : Member
  pub among : Among member members
  pub id_is : member.id ≡ id
  pub binding : binding_at member.sub entries ≡ Some row.binding

-- rows for the ids from 1 on, up to one that no member has
pub record IsRelation (entries : List Entry) (members : List Member) (relation : List RelRow) : Type 0 where
  pub each : (i : ℕ) (row : RelRow) → slice_get relation i ≡ Some row → IsRowWith entries members (i + 1) row
  pub whole : list_any (λ (m : Member). m.id == length relation + 1) members ≡ false

-- no member has an id beyond its rows
id_within : (limit : ℕ) (entries : List Entry) (members : List Member) (relation : List RelRow) →
    members ≡ batch_of limit entries → AreDueLive entries →
    IsRelation entries members relation → (m : Member) → Among m members → m.id ≤ length relation
id_within limit entries members relation is live r m a =
    by_test (m.id ≤ length relation) (nat_lt (length relation) m.id)
    (λ h.
    let more = ltb-true (length relation) m.id h in
    let beyond = ids_below limit entries members is live m a (length relation + 1) (omega arith)
    (omega (arith, more)) in
    absurd (not_both (list_any (λ (m : Member). m.id == length relation + 1) members)
    (among_any (λ (m : Member). m.id == length relation + 1) beyond.member members beyond.among
    (eq-eqb beyond.member.id (length relation + 1) beyond.id_is)) r.whole))
    (λ h. ltb-false (length relation) m.id h)

id_by : (limit : ℕ) (entries : List Entry) (o : Option Entry) (m : Member) → Among m (batch_from limit entries o) →
    1 ≤ m.id
id_by limit entries (Some first) m a = (member_in (chosen limit entries first) entries m a).id
id_by limit entries None m a = absurd a

-- the row of each member's cohort has the member's binding
pub rows_for : (limit : ℕ) (entries : List Entry) (members : List Member) (relation : List RelRow) →
    members ≡ batch_of limit entries → AreDueLive entries →
    HaveOwnNumbers entries → IsRelation entries members relation → AllByRecursion (HasRow entries relation) members
rows_for limit entries members relation is live own r =
    all_from_among (HasRow entries relation) members
    (λ m a.
    let id = id_by limit entries (find is_due entries) m (subst (λ (ms : List Member). Among m ms) is a) in
    let high = id_within limit entries members relation is live r m a in
    let got = got_within relation (m.id - 1) (omega (arith, id, high)) in
    let of = r.each (m.id - 1) got.0 got.1 in
    let id_is = of.id_is in
    record {
      row = got.0;
      at = got.1;
      binding = same_binding limit entries members is own m of.member a of.among (omega (arith, id, id_is))
          ∙ of.binding;
    })

-- each row is that of a member
pub rows_of : (entries : List Entry) (members : List Member) (relation : List RelRow) →
    IsRelation entries members relation →
    AllByRecursion (IsRowOf entries members) relation
rows_of entries members relation r =
    all_from_among (IsRowOf entries members) relation
    (λ row a.
    let got = among_got relation row a in
    let of = r.each got.0 row got.1 in
    record { member = of.member; among = of.among; binding = of.binding })

-- no two entries of what is kept have one number
pub own_numbers : (k : Kept) (s : State) → IsRun s → Represents k s → HaveOwnNumbers k.entries
own_numbers k s w r =
    subst HaveOwnNumbers (sym r.entries)
    (λ a b c d e.
    let x = among_map (entry_of s) (kept_of s) a c in
    let y = among_map (entry_of s) (kept_of s) b d in
    let same : x.0 ≡ y.0 =
    one_of_number s.subscriptions w.numbered x.0 y.0 (among_filter (is_kept s.jobs) x.0 s.subscriptions x.1).0
    (among_filter (is_kept s.jobs) y.0 s.subscriptions y.1).0
    (ap (λ (f : Entry). f.number) (sym x.2) ∙ e ∙ ap (λ (f : Entry). f.number) y.2) in
    x.2 ∙ ap (entry_of s) same ∙ sym y.2)
