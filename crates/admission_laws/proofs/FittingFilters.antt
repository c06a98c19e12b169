-- The role's filters fit: their columns are there, and the values of their session variables are bound.
use Rattle.std.proofs.Common.{◌≡◌, ℕ, Bool, true, false, List, [], ◌∷◌, map, flat_map, position, nat_lt, length, unwrap_or, refl, ap, sym, ◌∙◌, subst}
use Rattle.std.proofs.lemmas.Bool.{and_from, and_parts}
use Rattle.std.specs.List.{list_all, AllByRecursion}
use Rattle.std.specs.Ordering.{is_eq}
use Rattle.data_model.specs.declared.catalog.Catalog.{Catalog}
use Rattle.scalar_val.specs.declared.val.Val.TheVariants as val
use Rattle.plan_model.specs.declared.filter.Binding.{Binding}
use Rattle.plan_model.specs.declared.filter.Filter.{Filter}
use Rattle.plan_model.specs.declared.filter.Filter.TheVariants as filter
use Rattle.plan_model.specs.declared.filter.Filter.TheVariants.{rolls-And, rolls-Or, rolls-Not, rolls-Cmp, rolls-Among, rolls-IsNull}
use Rattle.plan_model.specs.declared.filter.Filter.TheOpen.{Filter-F}
use Rattle.plan_model.specs.declared.filter.Filter.TheViews.{roll-Filter}
use Rattle.plan_model.specs.declared.filter.Filter.TheFolds.{fold-Filter, fold-roll-Filter, map-Filter, ind-Filter}
use Rattle.plan_model.specs.declared.filter.Items.{Items}
use Rattle.plan_model.specs.declared.filter.Items.TheVariants as items
use Rattle.plan_model.specs.declared.filter.Op.{Op}
use Rattle.plan_model.specs.declared.filter.Operand.{Operand}
use Rattle.plan_model.specs.declared.filter.Operand.TheVariants.{Const, Var, Sess}
use Rattle.role_model.specs.Roles.{View}
use Rattle.plan_model.specs.FilterFits.{itself, operand_fits, items_fit}
use Rattle.plan_model.specs.Values.{is_bool, operand_value}
use Rattle.request_model.specs.Strings.{Text}
use Rattle.request_model.proofs.ReadArguments.{firsts}
use Rattle.query_model.specs.Names.{kind_of}
use Rattle.query_model.specs.declared.session.SessionSlot.{SessionSlot}
use Rattle.query_model.specs.Queries.{slot_cmp, session_name, slots_of, filter_slots_step, filter_slots}
use Rattle.query_model.specs.Results.{items_changed, changed_step, changed}
use Rattle.plan_model.specs.PlanFits.{width, has_column, columns_fit_step, columns_fit}
use Rattle.plan_model.specs.BindingFits.{values_fit_step, values_fit}
use Rattle.query_model.specs.Plans.{slotting}
use Rattle.query_model.proofs.Positions.{some_place_within}
use Rattle.admission_laws.proofs.AgreedValues.{front_holds, back_holds}
use Rattle.admission_laws.proofs.RoleFilters.{is_constant, is_own, are_constant, is_wanted, good_step, is_good}

module _ (catalog : Catalog) (b : Binding) (table : ℕ) where
  -- its columns are of the table, and its values are bound
  pub record Fit (f : Filter) : Type 0 where
    pub columns : columns_fit catalog table f ≡ true
    pub values : values_fit b f ≡ true

  columns_rolled : (f : Filter-F Filter) (x : Filter) → roll-Filter f ≡ x → columns_fit catalog table x ≡ columns_fit_step catalog (map-Filter Filter (ℕ → Bool) (fold-Filter (ℕ → Bool) (columns_fit_step catalog)) f) table
  columns_rolled f x e = ap (columns_fit catalog table) (sym e) ∙ ap (λ (g : ℕ → Bool). g table) (fold-roll-Filter (ℕ → Bool) (columns_fit_step catalog) f)

  values_rolled : (f : Filter-F Filter) (x : Filter) → roll-Filter f ≡ x → values_fit b x ≡ values_fit_step b (map-Filter Filter Bool (values_fit b) f)
  values_rolled f x e = ap (values_fit b) (sym e) ∙ fold-roll-Filter Bool (values_fit_step b) f

  each_columns : (parts : List Filter) → AllByRecursion Fit parts → list_all (λ (part : ℕ → Bool). part table) (map (fold-Filter (ℕ → Bool) (columns_fit_step catalog)) parts) ≡ true
  each_columns [] all = refl
  each_columns (f ∷ fs) all = and_from (columns_fit catalog table f) _ all.0.columns (each_columns fs all.1)

  each_values : (parts : List Filter) → AllByRecursion Fit parts → list_all itself (map (values_fit b) parts) ≡ true
  each_values [] all = refl
  each_values (f ∷ fs) all = and_from (values_fit b f) _ all.0.values (each_values fs all.1)

  pub fit-And : (parts : List Filter) → AllByRecursion Fit parts → Fit (filter.And parts)
  fit-And parts all = record { columns = columns_rolled _ _ (rolls-And parts) ∙ each_columns parts all; values = values_rolled _ _ (rolls-And parts) ∙ each_values parts all }

  pub fit-Or : (parts : List Filter) → AllByRecursion Fit parts → Fit (filter.Or parts)
  fit-Or parts all = record { columns = columns_rolled _ _ (rolls-Or parts) ∙ each_columns parts all; values = values_rolled _ _ (rolls-Or parts) ∙ each_values parts all }

  pub fit-Not : (part : Filter) → Fit part → Fit (filter.Not part)
  fit-Not part f = record { columns = columns_rolled _ _ (rolls-Not part) ∙ f.columns; values = values_rolled _ _ (rolls-Not part) ∙ f.values }

  pub fit-Cmp : (column : ℕ) (op : Op) (operand : Operand) → has_column catalog table column ≡ true → operand_fits b operand ≡ true → Fit (filter.Cmp column op operand)
  fit-Cmp column op operand h k = record { columns = columns_rolled _ _ (rolls-Cmp column op operand) ∙ h; values = values_rolled _ _ (rolls-Cmp column op operand) ∙ k }

  pub fit-Among : (column : ℕ) (negated : Bool) (xs : Items) → has_column catalog table column ≡ true → items_fit b xs ≡ true → Fit (filter.Among column negated xs)
  fit-Among column negated xs h k = record { columns = columns_rolled _ _ (rolls-Among column negated xs) ∙ h; values = values_rolled _ _ (rolls-Among column negated xs) ∙ k }

  pub fit-IsNull : (column : ℕ) (want : Operand) → has_column catalog table column ≡ true → operand_fits b want ≡ true → is_bool (operand_value b want) ≡ true → Fit (filter.IsNull column want)
  fit-IsNull column want h k l =
      record { columns = columns_rolled _ _ (rolls-IsNull column want) ∙ h; values = values_rolled _ _ (rolls-IsNull column want) ∙ and_from (operand_fits b want) (is_bool (operand_value b want)) k l }

-- ---- the role's filters

module _ (w : View) (names : List Text) (slots : List SessionSlot) (b : Binding) (bound : length b.session ≡ length slots) (table : ℕ) where
  abbrev catalog : Catalog
  catalog = w.metadata.catalog

  abbrev n : ℕ
  n = width catalog table

  abbrev IsSome_slot : SessionSlot → Type 0
  IsSome_slot s = nat_lt 0 (length slots) ≡ true

  abbrev slotted : Filter → Filter
  slotted f = changed (slotting w names slots) table f

  abbrev FitsSlotted : Filter → Type 0
  FitsSlotted f = is_good n f ≡ true → AllByRecursion IsSome_slot (filter_slots w f table) → Fit catalog b table (slotted f)

  abbrev EachSlotted : Filter-F Filter → Type 0
  EachSlotted (Filter-F.And parts) = AllByRecursion FitsSlotted parts
  EachSlotted (Filter-F.Or parts) = AllByRecursion FitsSlotted parts
  EachSlotted (Filter-F.Not part) = FitsSlotted part
  EachSlotted (Filter-F.Cmp column op operand) = Unit {0}
  EachSlotted (Filter-F.Among column negated xs) = Unit {0}
  EachSlotted (Filter-F.IsNull column want) = Unit {0}

  each_slotted : (y : Filter-F ((x : Filter) × FitsSlotted x)) → EachSlotted (map-Filter ((x : Filter) × FitsSlotted x) Filter (λ e. e.0) y)
  each_slotted (Filter-F.And parts) = firsts FitsSlotted parts
  each_slotted (Filter-F.Or parts) = firsts FitsSlotted parts
  each_slotted (Filter-F.Not part) = part.1
  each_slotted (Filter-F.Cmp column op operand) = tt
  each_slotted (Filter-F.Among column negated xs) = tt
  each_slotted (Filter-F.IsNull column want) = tt

  abbrev changing : Filter → ℕ → Filter
  changing = fold-Filter (ℕ → Filter) (changed_step (slotting w names slots))

  parts_slotted : (parts : List Filter) → AllByRecursion FitsSlotted parts → list_all itself (map (is_good n) parts) ≡ true →
      AllByRecursion IsSome_slot (flat_map (λ (part : ℕ → List SessionSlot). part table) (map (filter_slots w) parts)) → AllByRecursion (Fit catalog b table) (map (λ (part : ℕ → Filter). part table) (map changing parts))
  parts_slotted [] all g s = tt
  parts_slotted (f ∷ fs) all g s =
      let good = and_parts (is_good n f) (list_all itself (map (is_good n) fs)) g in
      let rest = flat_map (λ (part : ℕ → List SessionSlot). part table) (map (filter_slots w) fs) in
      (all.0 good.0 (front_holds IsSome_slot (filter_slots w f table) rest s), parts_slotted fs all.1 good.1 (back_holds IsSome_slot (filter_slots w f table) rest s))

  operand_slotted : (column : ℕ) (o : Operand) → is_own o ≡ true → AllByRecursion IsSome_slot (slots_of w table column o) → operand_fits b (slotting w names slots table column o) ≡ true
  operand_slotted column (Const x) h s = refl
  operand_slotted column (Var slot) h s = absurd (let q : false ≡ true = h in cc)
  operand_slotted column (Sess slot) h s =
      ap (nat_lt (unwrap_or (position (λ z. is_eq (slot_cmp (record { name = session_name w slot; kind = kind_of w table column }) z)) slots) 0)) bound
      ∙ some_place_within (λ z. is_eq (slot_cmp (record { name = session_name w slot; kind = kind_of w table column }) z)) slots s.0

  constants_slotted : (column : ℕ) (os : List Operand) → list_all is_constant os ≡ true → list_all (operand_fits b) (map (slotting w names slots table column) os) ≡ true
  constants_slotted column [] h = refl
  constants_slotted column (Const x ∷ os) h = constants_slotted column os h
  constants_slotted column (Var slot ∷ os) h = absurd (let q : false ≡ true = h in cc)
  constants_slotted column (Sess slot ∷ os) h = absurd (let q : false ≡ true = h in cc)

  items_slotted : (column : ℕ) (xs : Items) → are_constant xs ≡ true → items_fit b (items_changed (slotting w names slots table column) xs) ≡ true
  items_slotted column (items.Each os) h = constants_slotted column os h
  items_slotted column (items.Var slot) h = absurd (let q : false ≡ true = h in cc)

  wanted_slotted : (column : ℕ) (o : Operand) → has_column catalog table column ≡ true → is_wanted o ≡ true → Fit catalog b table (filter.IsNull column o)
  wanted_slotted column (Const (val.Bool x)) h k = fit-IsNull catalog b table column (Const (val.Bool x)) h refl refl
  wanted_slotted column (Const val.Null) h k = absurd (let q : false ≡ true = k in cc)
  wanted_slotted column (Const (val.Int z)) h k = absurd (let q : false ≡ true = k in cc)
  wanted_slotted column (Const (val.Big z)) h k = absurd (let q : false ≡ true = k in cc)
  wanted_slotted column (Const (val.Text t)) h k = absurd (let q : false ≡ true = k in cc)
  wanted_slotted column (Const (val.Uuid z)) h k = absurd (let q : false ≡ true = k in cc)
  wanted_slotted column (Var slot) h k = absurd (let q : false ≡ true = k in cc)
  wanted_slotted column (Sess slot) h k = absurd (let q : false ≡ true = k in cc)

  by_form : (f : Filter-F Filter) → EachSlotted f → good_step n (map-Filter Filter Bool (is_good n) f) ≡ true →
      AllByRecursion IsSome_slot (filter_slots_step w (map-Filter Filter (ℕ → List SessionSlot) (filter_slots w) f) table) → Fit catalog b table (changed_step (slotting w names slots) (map-Filter Filter (ℕ → Filter) changing f) table)
  by_form (Filter-F.And parts) each g s = fit-And catalog b table _ (parts_slotted parts each g s)
  by_form (Filter-F.Or parts) each g s = fit-Or catalog b table _ (parts_slotted parts each g s)
  by_form (Filter-F.Not part) each g s = fit-Not catalog b table _ (each g s)
  by_form (Filter-F.Cmp column op operand) each g s =
      let good = and_parts (nat_lt column n) (is_own operand) g in
      fit-Cmp catalog b table column op _ good.0 (operand_slotted column operand good.1 s)
  by_form (Filter-F.Among column negated xs) each g s =
      let good = and_parts (nat_lt column n) (are_constant xs) g in
      fit-Among catalog b table column negated _ good.0 (items_slotted column xs good.1)
  by_form (Filter-F.IsNull column want) each g s =
      let good = and_parts (nat_lt column n) (is_wanted want) g in
      wanted_slotted column want good.0 good.1

  rolled_slotted : (f : Filter-F Filter) → EachSlotted f → FitsSlotted (roll-Filter f)
  rolled_slotted f each g s =
      subst (Fit catalog b table) (sym (ap (λ (h : ℕ → Filter). h table) (fold-roll-Filter (ℕ → Filter) (changed_step (slotting w names slots)) f)))
      (by_form f each (sym (fold-roll-Filter Bool (good_step n) f) ∙ g) (subst (AllByRecursion IsSome_slot) (ap (λ (h : ℕ → List SessionSlot). h table) (fold-roll-Filter (ℕ → List SessionSlot) (filter_slots_step w) f)) s))

  pub fits_slotted : (f : Filter) → FitsSlotted f
  fits_slotted = ind-Filter FitsSlotted (λ f y is. rolled_slotted f (subst EachSlotted is (each_slotted y)))
