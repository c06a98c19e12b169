-- The role's filters with slots of a binding are as true as those with the values of the session in their places.
use Rattle.std.proofs.Common.{◌≡◌, ℕ, suc, Bool, true, false, List, [], ◌∷◌, map, flat_map, find, position, slice_get, nat_lt, unwrap_or, cond, Option, Some, None, option_map, refl, ap, ap₂, sym, ◌∙◌, subst, is_eq}
use Rattle.std.proofs.lemmas.Bool.{and_parts}
use Rattle.std.specs.List.{list_all, list_any, AllByRecursion}
use Rattle.scalar_val.specs.declared.val.Val.TheVariants as val
use Rattle.plan_model.specs.declared.filter.Binding.{Binding}
use Rattle.plan_model.specs.declared.filter.Filter.{Filter}
use Rattle.plan_model.specs.declared.filter.Filter.TheOpen.{Filter-F}
use Rattle.plan_model.specs.declared.filter.Filter.TheViews.{roll-Filter}
use Rattle.plan_model.specs.declared.filter.Filter.TheFolds.{fold-Filter, fold-roll-Filter, map-Filter, ind-Filter}
use Rattle.plan_model.specs.declared.filter.Items.{Items}
use Rattle.plan_model.specs.declared.filter.Items.TheVariants as items
use Rattle.plan_model.specs.declared.filter.Operand.{Operand}
use Rattle.plan_model.specs.declared.filter.Operand.TheVariants.{Const, Var, Sess}
use Rattle.role_model.specs.declared.metadata.Metadata.{Metadata}
use Rattle.role_model.specs.Roles.{View}
use Rattle.plan_model.specs.FilterFits.{itself}
use Rattle.scalar_val.specs.Values.{cell}
use Rattle.plan_model.specs.Values.{operand_value, item_values}
use Rattle.request_model.specs.Strings.{Text}
use Rattle.request_model.proofs.ReadArguments.{firsts}
use Rattle.query_model.specs.Names.{kind_of}
use Rattle.query_model.specs.declared.session.SessionSlot.{SessionSlot}
use Rattle.query_model.specs.declared.session.SessionValue.{SessionValue}
use Rattle.query_model.specs.Queries.{Query, slot_cmp, session_name, slots_of, filter_slots_step, filter_slots, view_of}
use Rattle.query_model.specs.Results.{nothing_bound, items_changed, changed_step, session_value, closing}
use Rattle.query_model.specs.Plans.{slotting}
use Rattle.query_model.proofs.Positions.{position_here, position_past, some_is, not_some, has_place}
use Rattle.admission_laws.proofs.AgreedValues.{front_holds, back_holds}
use Rattle.admission_laws.proofs.RoleFilters.{is_constant, is_own, are_constant, is_wanted, good_step, is_good}
use Rattle.result_laws.proofs.SameTruths.{Alike, BothAlike, alike-And, alike-Or, alike-Not, alike-Cmp, alike-Among, alike-IsNull}

at_place : (p : SessionSlot → Bool) (xs : List SessionValue) (i : ℕ) → position p (map (λ (x : SessionValue). x.slot) xs) ≡ Some i →
    cell (map (λ (x : SessionValue). x.value) xs) i ≡ unwrap_or (option_map (λ (x : SessionValue). x.value) (find (λ (x : SessionValue). p x.slot) xs)) val.Null
at_place p [] i h = absurd (not_some i h)
at_place p (x ∷ xs) i h = go (p x.slot) refl (at_place p xs)
  where
    later : (o : Option ℕ) → position p (map (λ (x : SessionValue). x.slot) xs) ≡ o → option_map suc o ≡ Some i →
        ((j : ℕ) → position p (map (λ (x : SessionValue). x.slot) xs) ≡ Some j → cell (map (λ (x : SessionValue). x.value) xs) j ≡ unwrap_or (option_map (λ (x : SessionValue). x.value) (find (λ (x : SessionValue). p x.slot) xs)) val.Null) →
        cell (map (λ (x : SessionValue). x.value) (x ∷ xs)) i ≡ unwrap_or (option_map (λ (x : SessionValue). x.value) (find (λ (x : SessionValue). p x.slot) xs)) val.Null
    later None e k more = absurd (not_some i k)
    later (Some j) e k more = ap (λ n. cell (map (λ (x : SessionValue). x.value) (x ∷ xs)) n) (sym (some_is (suc j) i k)) ∙ more j e

    go : (b : Bool) → p x.slot ≡ b → ((j : ℕ) → position p (map (λ (x : SessionValue). x.slot) xs) ≡ Some j → cell (map (λ (x : SessionValue). x.value) xs) j ≡ unwrap_or (option_map (λ (x : SessionValue). x.value) (find (λ (x : SessionValue). p x.slot) xs)) val.Null) →
        cell (map (λ (x : SessionValue). x.value) (x ∷ xs)) i ≡ unwrap_or (option_map (λ (x : SessionValue). x.value) (find (λ (x : SessionValue). p x.slot) (x ∷ xs))) val.Null
    go true e more =
        ap (λ n. cell (map (λ (x : SessionValue). x.value) (x ∷ xs)) n) (sym (some_is 0 i (sym (position_here p x.slot (map (λ (x : SessionValue). x.slot) xs) e) ∙ h)))
        ∙ sym (ap (λ c. unwrap_or (option_map (λ (x : SessionValue). x.value) (cond c (Some x) (find (λ (x : SessionValue). p x.slot) xs))) val.Null) e)
    go false e more =
        later (position p (map (λ (x : SessionValue). x.slot) xs)) refl (sym (position_past p x.slot (map (λ (x : SessionValue). x.slot) xs) e) ∙ h) more
        ∙ sym (ap (λ c. unwrap_or (option_map (λ (x : SessionValue). x.value) (cond c (Some x) (find (λ (x : SessionValue). p x.slot) xs))) val.Null) e)

module _ (m : Metadata) (q : Query) (names : List Text) (slots : List SessionSlot) (b : Binding) (told : map (λ (x : SessionValue). x.slot) q.session ≡ slots) (bound : b.session ≡ map (λ (x : SessionValue). x.value) q.session) (table n : ℕ) where
  abbrev w : View
  w = view_of m q

  abbrev pub Present : SessionSlot → Type 0
  Present s = list_any (λ z. is_eq (slot_cmp s z)) slots ≡ true

  slot_value_same : (s : SessionSlot) → Present s → cell b.session (unwrap_or (position (λ z. is_eq (slot_cmp s z)) slots) 0) ≡ session_value m q s
  slot_value_same s h =
      let place = has_place (λ z. is_eq (slot_cmp s z)) slots h in
      ap₂ (λ vs o. cell vs (unwrap_or o 0)) bound place.1
      ∙ at_place (λ z. is_eq (slot_cmp s z)) q.session place.0 (ap (position (λ z. is_eq (slot_cmp s z))) told ∙ place.1)

  abbrev slotted : Filter → ℕ → Filter
  slotted = fold-Filter (ℕ → Filter) (changed_step (slotting w names slots))

  abbrev closed : Filter → ℕ → Filter
  closed = fold-Filter (ℕ → Filter) (changed_step (closing m q))

  abbrev Same : Filter → Type 0
  Same f = is_good n f ≡ true → AllByRecursion Present (filter_slots w f table) → Alike b (slotted f table) (closed f table)

  abbrev EachSame : Filter-F Filter → Type 0
  EachSame (Filter-F.And parts) = AllByRecursion Same parts
  EachSame (Filter-F.Or parts) = AllByRecursion Same parts
  EachSame (Filter-F.Not part) = Same part
  EachSame (Filter-F.Cmp column op operand) = Unit {0}
  EachSame (Filter-F.Among column negated xs) = Unit {0}
  EachSame (Filter-F.IsNull column want) = Unit {0}

  each_same : (y : Filter-F ((x : Filter) × Same x)) → EachSame (map-Filter ((x : Filter) × Same x) Filter (λ e. e.0) y)
  each_same (Filter-F.And parts) = firsts Same parts
  each_same (Filter-F.Or parts) = firsts Same parts
  each_same (Filter-F.Not part) = part.1
  each_same (Filter-F.Cmp column op operand) = tt
  each_same (Filter-F.Among column negated xs) = tt
  each_same (Filter-F.IsNull column want) = tt

  parts_same : (parts : List Filter) → AllByRecursion Same parts → list_all itself (map (is_good n) parts) ≡ true → AllByRecursion Present (flat_map (λ (part : ℕ → List SessionSlot). part table) (map (filter_slots w) parts)) →
      BothAlike b (map (λ (part : ℕ → Filter). part table) (map slotted parts)) (map (λ (part : ℕ → Filter). part table) (map closed parts))
  parts_same [] all g s = tt
  parts_same (f ∷ fs) all g s =
      let good = and_parts (is_good n f) (list_all itself (map (is_good n) fs)) g in
      let rest = flat_map (λ (part : ℕ → List SessionSlot). part table) (map (filter_slots w) fs) in
      (all.0 good.0 (front_holds Present (filter_slots w f table) rest s), parts_same fs all.1 good.1 (back_holds Present (filter_slots w f table) rest s))

  operand_same : (column : ℕ) (o : Operand) → is_own o ≡ true → AllByRecursion Present (slots_of w table column o) → operand_value b (slotting w names slots table column o) ≡ operand_value nothing_bound (closing m q table column o)
  operand_same column (Const x) h s = refl
  operand_same column (Var slot) h s = absurd (let e : false ≡ true = h in cc)
  operand_same column (Sess slot) h s = slot_value_same (record { name = session_name w slot; kind = kind_of w table column }) s.0

  constants_same : (column : ℕ) (os : List Operand) → list_all is_constant os ≡ true → map (operand_value b) (map (slotting w names slots table column) os) ≡ map (operand_value nothing_bound) (map (closing m q table column) os)
  constants_same column [] h = refl
  constants_same column (Const x ∷ os) h = ap (λ xs. x ∷ xs) (constants_same column os h)
  constants_same column (Var slot ∷ os) h = absurd (let e : false ≡ true = h in cc)
  constants_same column (Sess slot ∷ os) h = absurd (let e : false ≡ true = h in cc)

  items_same : (column : ℕ) (xs : Items) → are_constant xs ≡ true → item_values b (items_changed (slotting w names slots table column) xs) ≡ item_values nothing_bound (items_changed (closing m q table column) xs)
  items_same column (items.Each os) h = constants_same column os h
  items_same column (items.Var slot) h = absurd (let e : false ≡ true = h in cc)

  wanted_same : (o : Operand) → is_wanted o ≡ true → operand_value b o ≡ operand_value nothing_bound o
  wanted_same (Const x) h = refl
  wanted_same (Var slot) h = absurd (let e : false ≡ true = h in cc)
  wanted_same (Sess slot) h = absurd (let e : false ≡ true = h in cc)

  by_form : (f : Filter-F Filter) → EachSame f → good_step n (map-Filter Filter Bool (is_good n) f) ≡ true → AllByRecursion Present (filter_slots_step w (map-Filter Filter (ℕ → List SessionSlot) (filter_slots w) f) table) →
      Alike b (changed_step (slotting w names slots) (map-Filter Filter (ℕ → Filter) slotted f) table) (changed_step (closing m q) (map-Filter Filter (ℕ → Filter) closed f) table)
  by_form (Filter-F.And parts) each g s = alike-And b _ _ (parts_same parts each g s)
  by_form (Filter-F.Or parts) each g s = alike-Or b _ _ (parts_same parts each g s)
  by_form (Filter-F.Not part) each g s = alike-Not b _ _ (each g s)
  by_form (Filter-F.Cmp column op operand) each g s = alike-Cmp b column op _ _ (operand_same column operand (and_parts (nat_lt column n) (is_own operand) g).1 s)
  by_form (Filter-F.Among column negated xs) each g s = alike-Among b column negated _ _ (items_same column xs (and_parts (nat_lt column n) (are_constant xs) g).1)
  by_form (Filter-F.IsNull column want) each g s = alike-IsNull b column _ _ (wanted_same want (and_parts (nat_lt column n) (is_wanted want) g).1)

  rolled_same : (f : Filter-F Filter) → EachSame f → Same (roll-Filter f)
  rolled_same f each g s =
      subst (λ (h : ℕ → Filter). Alike b (h table) (closed (roll-Filter f) table)) (sym (fold-roll-Filter (ℕ → Filter) (changed_step (slotting w names slots)) f))
      (subst (λ (h : ℕ → Filter). Alike b (changed_step (slotting w names slots) (map-Filter Filter (ℕ → Filter) slotted f) table) (h table)) (sym (fold-roll-Filter (ℕ → Filter) (changed_step (closing m q)) f))
      (by_form f each (sym (fold-roll-Filter Bool (good_step n) f) ∙ g) (subst (AllByRecursion Present) (ap (λ (h : ℕ → List SessionSlot). h table) (fold-roll-Filter (ℕ → List SessionSlot) (filter_slots_step w) f)) s)))

  pub permission_same : (f : Filter) → Same f
  permission_same = ind-Filter Same (λ f y is. rolled_same f (subst EachSame is (each_same y)))
