-- A slot of session variables is a name of the role's with a kind, and so there are few.
use Rattle.std.proofs.Common.{◌≡◌, ℕ, zero, suc, ◌*◌, ◌≤◌, Bool, true, false, ◌||◌, List, [], ◌∷◌, ◌++◌, length, map, flat_map, slice_get, unwrap_or, Option, Some, None, refl, ap, sym, subst, inl, inr, ◌⊎◌, arith}
use Rattle.std.proofs.lemmas.Cmp.{nat_list_cmp_total, tied_itself}
use Rattle.std.specs.Cmp.{IsTotalOrder, nat_cmp_total, on_total, then_total}
use Rattle.std.specs.List.{AllByRecursion}
use Rattle.std.specs.Ordering.{eq_by_cmp, is_eq}
use Rattle.std.specs.Str.{bytes_eq}
use Rattle.scalar_val.specs.declared.val.Kind.{Kind}
use Rattle.scalar_val.specs.declared.val.Kind.TheVariants as kind
use Rattle.scalar_val.specs.Values.{kind_rank}
use Rattle.plan_model.specs.declared.filter.Filter.{Filter}
use Rattle.plan_model.specs.declared.filter.Filter.TheOpen.{Filter-F}
use Rattle.plan_model.specs.declared.filter.Filter.TheViews.{roll-Filter}
use Rattle.plan_model.specs.declared.filter.Filter.TheFolds.{fold-roll-Filter, map-Filter, ind-Filter}
use Rattle.plan_model.specs.declared.filter.Items.{Items}
use Rattle.plan_model.specs.declared.filter.Items.TheVariants as items
use Rattle.plan_model.specs.declared.filter.Operand.{Operand}
use Rattle.plan_model.specs.declared.filter.Operand.TheVariants.{Const, Var, Sess}
use Rattle.metadata_bounds.specs.Names.{HasFewNames, most_names}
use Rattle.metadata_bounds.proofs.FewNames.{roles_have_few_names}
use Rattle.role_model.specs.declared.metadata.RoleDef.{RoleDef}
use Rattle.role_model.specs.MetadataMeaning.{IsMetadata}
use Rattle.role_model.specs.Roles.{View, role_of, filter_seen, names_by}
use Rattle.request_model.specs.declared.flat.FlatField.TheViews.{out-FlatField}
use Rattle.request_model.specs.Strings.{Text}
use Rattle.request_model.proofs.ReadArguments.{firsts}
use Rattle.query_model.specs.Names.{kind_of}
use Rattle.query_model.specs.declared.session.SessionSlot.{SessionSlot}
use Rattle.query_model.specs.Queries.{slot_cmp, session_name, slots_of, item_slots, filter_slots_step, filter_slots, slots_by, table_slots, root_tables, root_of}
use Rattle.query_model.proofs.Positions.{each_found, each_joined_all}
use Rattle.admission_bounds.specs.Bounds.{SlotsAreFew}
use Rattle.admission_bounds.proofs.DistinctLists.{has_tie, distinct_few}

-- ---- what holds of each slot that a role's filters name

module _ (v : View) (P : SessionSlot → Type 0) (each : (slot table column : ℕ) → P (record { name = session_name v slot; kind = kind_of v table column })) where
  abbrev All : List SessionSlot → Type 0
  All = AllByRecursion P

  operand_slots : (table column : ℕ) (o : Operand) → All (slots_of v table column o)
  operand_slots table column (Sess slot) = (each slot table column, tt)
  operand_slots table column (Const x) = tt
  operand_slots table column (Var slot) = tt

  operands_slots : (table column : ℕ) (os : List Operand) → All (flat_map (slots_of v table column) os)
  operands_slots table column [] = tt
  operands_slots table column (o ∷ os) = each_joined_all P (slots_of v table column o) (flat_map (slots_of v table column) os) (operand_slots table column o) (operands_slots table column os)

  items_hold : (table column : ℕ) (xs : Items) → All (item_slots v table column xs)
  items_hold table column (items.Each os) = operands_slots table column os
  items_hold table column (items.Var slot) = tt

  abbrev Holds : Filter → Type 0
  Holds f = (table : ℕ) → All (filter_slots v f table)

  abbrev EachHolds : Filter-F Filter → Type 0
  EachHolds (Filter-F.And parts) = AllByRecursion Holds parts
  EachHolds (Filter-F.Or parts) = AllByRecursion Holds parts
  EachHolds (Filter-F.Not part) = Holds part
  EachHolds (Filter-F.Cmp column op operand) = Unit {0}
  EachHolds (Filter-F.Among column negated xs) = Unit {0}
  EachHolds (Filter-F.IsNull column want) = Unit {0}

  each_part : (y : Filter-F ((x : Filter) × Holds x)) → EachHolds (map-Filter ((x : Filter) × Holds x) Filter (λ e. e.0) y)
  each_part (Filter-F.And parts) = firsts Holds parts
  each_part (Filter-F.Or parts) = firsts Holds parts
  each_part (Filter-F.Not part) = part.1
  each_part (Filter-F.Cmp column op operand) = tt
  each_part (Filter-F.Among column negated xs) = tt
  each_part (Filter-F.IsNull column want) = tt

  parts_hold : (table : ℕ) (parts : List Filter) → AllByRecursion Holds parts → All (flat_map (λ (part : ℕ → List SessionSlot). part table) (map (filter_slots v) parts))
  parts_hold table [] all = tt
  parts_hold table (f ∷ fs) all = each_joined_all P (filter_slots v f table) (flat_map (λ (part : ℕ → List SessionSlot). part table) (map (filter_slots v) fs)) (all.0 table) (parts_hold table fs all.1)

  by_form : (f : Filter-F Filter) → EachHolds f → (table : ℕ) → All (filter_slots_step v (map-Filter Filter (ℕ → List SessionSlot) (filter_slots v) f) table)
  by_form (Filter-F.And parts) all table = parts_hold table parts all
  by_form (Filter-F.Or parts) all table = parts_hold table parts all
  by_form (Filter-F.Not part) all table = all table
  by_form (Filter-F.Cmp column op operand) all table = operand_slots table column operand
  by_form (Filter-F.Among column negated xs) all table = items_hold table column xs
  by_form (Filter-F.IsNull column want) all table = tt

  rolled_holds : (f : Filter-F Filter) → EachHolds f → Holds (roll-Filter f)
  rolled_holds f all table = subst All (sym (ap (λ (h : ℕ → List SessionSlot). h table) (fold-roll-Filter (ℕ → List SessionSlot) (filter_slots_step v) f))) (by_form f all table)

  filter_holds : (f : Filter) → Holds f
  filter_holds = ind-Filter Holds (λ f y is. rolled_holds f (subst EachHolds is (each_part y)))

  table_holds : (table : ℕ) → All (table_slots v table)
  table_holds table = go (filter_seen v table)
    where
      go : (o : Option Filter) → All (slots_by v table o)
      go None = tt
      go (Some f) = filter_holds f table

  tables_hold : (tables : List ℕ) → All (flat_map (table_slots v) tables)
  tables_hold [] = tt
  tables_hold (t ∷ ts) = each_joined_all P (table_slots v t) (flat_map (table_slots v) ts) (table_holds t) (tables_hold ts)

-- ---- the slots that there can be

slot_cmp_total : IsTotalOrder slot_cmp
slot_cmp_total = then_total (on_total (λ (s : SessionSlot). s.name) nat_list_cmp_total) (on_total (λ (s : SessionSlot). kind_rank s.kind) nat_cmp_total)

abbrev slot_of_kind : Text → Kind → SessionSlot
slot_of_kind name k = record { name = name; kind = k }

abbrev kinds : List Kind
kinds = kind.Bool ∷ kind.Int ∷ kind.Big ∷ kind.Text ∷ kind.Uuid ∷ []

abbrev of_name : Text → List SessionSlot
of_name name = map (slot_of_kind name) kinds

abbrev of_names : List Text → List SessionSlot
of_names names = flat_map of_name names

abbrev Ties : List SessionSlot → SessionSlot → Type 0
Ties xs s = has_tie slot_cmp slot_cmp_total xs s ≡ true

ties_here : (s : SessionSlot) (xs : List SessionSlot) → Ties (s ∷ xs) s
ties_here s xs = ap (λ o. is_eq o || has_tie slot_cmp slot_cmp_total xs s) (tied_itself slot_cmp_total s)

ties_later : (x s : SessionSlot) (xs : List SessionSlot) → Ties xs s → Ties (x ∷ xs) s
ties_later x s xs h = go (eq_by_cmp slot_cmp s x)
  where
    go : (b : Bool) → (b || has_tie slot_cmp slot_cmp_total xs s) ≡ true
    go true = refl
    go false = h

ties_past : (ys s : List SessionSlot) (x : SessionSlot) → Ties s x → Ties (ys ++ s) x
ties_past [] s x h = h
ties_past (y ∷ ys) s x h = ties_later y x (ys ++ s) (ties_past ys s x h)

abbrev Has : Kind → List Kind → Type 0
Has k [] = ⊥
Has k (j ∷ js) = (j ≡ k) ⊎ Has k js

each_kind : (k : Kind) → Has k kinds
each_kind kind.Bool = inl refl
each_kind kind.Int = inr (inl refl)
each_kind kind.Big = inr (inr (inl refl))
each_kind kind.Text = inr (inr (inr (inl refl)))
each_kind kind.Uuid = inr (inr (inr (inr (inl refl))))

ties_of_kind : (name : Text) (k : Kind) (ks : List Kind) (xs : List SessionSlot) → Has k ks → Ties (map (slot_of_kind name) ks ++ xs) (slot_of_kind name k)
ties_of_kind name k [] xs h = absurd h
ties_of_kind name k (j ∷ js) xs (inl e) = subst (λ i. Ties (map (slot_of_kind name) (j ∷ js) ++ xs) (slot_of_kind name i)) e (ties_here (slot_of_kind name j) (map (slot_of_kind name) js ++ xs))
ties_of_kind name k (j ∷ js) xs (inr h) = ties_later (slot_of_kind name j) (slot_of_kind name k) (map (slot_of_kind name) js ++ xs) (ties_of_kind name k js xs h)

ties_of_name : (name : Text) (k : Kind) (xs : List SessionSlot) → Ties (of_name name ++ xs) (slot_of_kind name k)
ties_of_name name k xs = ties_of_kind name k kinds xs (each_kind k)

-- the name of a slot, or the empty one where it is out of range
ties_at : (names : List Text) (slot : ℕ) (k : Kind) → Ties (of_names ([] ∷ names)) (slot_of_kind (unwrap_or (slice_get names slot) []) k)
ties_at names slot k = by (slice_get names slot) (within names slot)
  where
    within : (xs : List Text) (i : ℕ) (name : Text) → slice_get xs i ≡ Some name → Ties (of_names xs) (slot_of_kind name k)
    within [] i name e = absurd (let q : ◌≡◌ {A = Option Text} None (Some name) = e in cc)
    within (x ∷ xs) zero name e = let same : x ≡ name = (let q : ◌≡◌ {A = Option Text} (Some x) (Some name) = e in cc) in subst (λ n. Ties (of_names (x ∷ xs)) (slot_of_kind n k)) same (ties_of_name x k (of_names xs))
    within (x ∷ xs) (suc i) name e = ties_past (of_name x) (of_names xs) (slot_of_kind name k) (within xs i name e)

    by : (o : Option Text) → ((name : Text) → o ≡ Some name → Ties (of_names names) (slot_of_kind name k)) → Ties (of_names ([] ∷ names)) (slot_of_kind (unwrap_or o []) k)
    by None more = ties_of_name [] k (of_names names)
    by (Some name) more = ties_past (of_name []) (of_names names) (slot_of_kind name k) (more name refl)

five_each : (names : List Text) → length (of_names names) ≤ 5 * length names
five_each [] = omega arith
five_each (n ∷ ns) = let more = five_each ns in omega (arith, more)

-- ---- the law

few_names : (v : View) → IsMetadata v.metadata → length (names_by (role_of v)) ≤ most_names
few_names v m = go (role_of v) refl
  where
    go : (o : Option RoleDef) → role_of v ≡ o → length (names_by o) ≤ most_names
    go None e = omega arith
    go (Some r) e = (each_found HasFewNames (λ (x : RoleDef). bytes_eq v.role x.name) v.metadata.roles r (roles_have_few_names v.metadata m) e).0

pub slots_are_few : SlotsAreFew
slots_are_few v s m =
    let names = names_by (role_of v) in
    let tables = flat_map (λ f. root_tables v (root_of v s.kind f) (out-FlatField f).fields) s.fields in
    let all = tables_hold v (Ties (of_names ([] ∷ names))) (λ slot table column. ties_at names slot (kind_of v table column)) tables in
    let distinct = distinct_few slot_cmp slot_cmp_total (flat_map (table_slots v) tables) (of_names ([] ∷ names)) all in
    let five = five_each ([] ∷ names) in
    let few = few_names v m in
    omega (arith, distinct, five, few)
