-- A selection of a plan that fits, with a binding that fits, is ready.
use Rattle.std.proofs.Common.{◌∙◌, ℕ, Bool, true, false, ◌&&◌, IsTrue, List, [], ◌∷◌, length, map, refl, sym, ap}
use Rattle.std.proofs.Common.{subst, nat_lt}
use Rattle.std.specs.List.{AllByRecursion, list_all}
use Rattle.data_model.specs.declared.catalog.Catalog.{Catalog}
use Rattle.plan_model.specs.declared.filter.Binding.{Binding}
use Rattle.plan_model.specs.declared.filter.Filter.{Filter}
use Rattle.plan_model.specs.declared.filter.Filter.TheOpen.{Filter-F}
use Rattle.plan_model.specs.declared.filter.Filter.TheViews.{roll-Filter}
use Rattle.plan_model.specs.declared.filter.Filter.TheFolds.{fold-Filter, fold-roll-Filter, map-Filter}
use Rattle.plan_model.specs.declared.plan.Field.{Field}
use Rattle.plan_model.specs.declared.plan.Field.TheOpen.{Field-F, Select-F}
use Rattle.plan_model.specs.declared.plan.Field.TheViews.{roll-Field, roll-Select}
use Rattle.plan_model.specs.declared.plan.Field.TheFolds.{fold-Field, fold-roll-Field, fold-roll-Select, map-Field}
use Rattle.plan_model.specs.declared.plan.Field.TheFolds.{map-Select, ind-Select}
use Rattle.plan_model.specs.declared.plan.Order.{Order}
use Rattle.plan_model.specs.declared.plan.Plan.{Plan}
use Rattle.plan_model.specs.declared.plan.Select.{Select}
use Rattle.plan_model.specs.FilterFits.{fits, fits_step, itself, operand_fits, items_fit}
use Rattle.plan_model.specs.Values.{is_bool, operand_value}
use Rattle.plan_model.specs.PlanFits.{width, has_column, columns_fit_step, columns_fit, shape_fits, FitsAt}
use Rattle.plan_model.specs.PlanFits.{fits_field_step, fits_select_step, select_fits, PlanFits}
use Rattle.plan_model.specs.BindingFits.{values_fit_step, values_fit, count_fits, batch_fits, bound_field_step}
use Rattle.plan_model.specs.BindingFits.{bound_select_step, is_bound, BindingFits}
use Rattle.plan_model.specs.Readiness.{ready_field_step, ready_select_step, is_ready, is_ready_field}
use Rattle.plan_model.proofs.Fitting.{both}
use Rattle.plan_model.proofs.FilterRules.{firsts, OfParts, of_all}

pub and_in : (a b : Bool) → IsTrue a → IsTrue b → IsTrue (a && b)
and_in true b h k = k
and_in false b h k = cc

module _ (catalog : Catalog) (b : Binding) where
  -- ---- conditions

  abbrev columns_of : Filter → ℕ → Bool
  columns_of = fold-Filter (ℕ → Bool) (columns_fit_step catalog)

  abbrev IsFit : Filter → Type 0
  IsFit f = (table : ℕ) → IsTrue (columns_of f table) → IsTrue (values_fit b f)
      → IsTrue (fits (width catalog table) b f)

  all_fit : (table : ℕ) (parts : List Filter) → AllByRecursion IsFit parts
      → IsTrue (list_all (λ (part : ℕ → Bool). part table) (map columns_of parts))
      → IsTrue (list_all itself (map (values_fit b) parts))
      → IsTrue (list_all itself (map (fits (width catalog table) b) parts))
  all_fit table [] each h k = refl
  all_fit table (f ∷ fs) each h k =
      let columns = both (columns_of f table) (list_all (λ (part : ℕ → Bool). part table) (map columns_of fs)) h in
      let values = both (values_fit b f) (list_all itself (map (values_fit b) fs)) k in
      and_in (fits (width catalog table) b f) (list_all itself (map (fits (width catalog table) b) fs))
      (each.0 table columns.0 values.0) (all_fit table fs each.1 columns.1 values.1)

  -- what a condition's form asks, from what its parts are asked
  by_form : (f : Filter-F Filter) → OfParts IsFit f → (table : ℕ)
      → IsTrue (columns_fit_step catalog (map-Filter Filter (ℕ → Bool) columns_of f) table)
      → IsTrue (values_fit_step b (map-Filter Filter Bool (values_fit b) f))
      → IsTrue (fits_step (width catalog table) b (map-Filter Filter Bool (fits (width catalog table) b) f))
  by_form (Filter-F.And parts) each table h k = all_fit table parts each h k
  by_form (Filter-F.Or parts) each table h k = all_fit table parts each h k
  by_form (Filter-F.Not part) each table h k = each table h k
  by_form (Filter-F.Cmp column op operand) each table h k =
      and_in (nat_lt column (width catalog table)) (operand_fits b operand) h k
  by_form (Filter-F.Among column negated items) each table h k =
      and_in (nat_lt column (width catalog table)) (items_fit b items) h k
  by_form (Filter-F.IsNull column want) each table h k =
      and_in (nat_lt column (width catalog table)) (operand_fits b want && is_bool (operand_value b want)) h k

  rolled_fit : (f : Filter-F Filter) → OfParts IsFit f → IsFit (roll-Filter f)
  rolled_fit f each table h k =
      fold-roll-Filter Bool (fits_step (width catalog table) b) f
      ∙ by_form f each table
      (sym (ap (λ (m : ℕ → Bool). m table) (fold-roll-Filter (ℕ → Bool) (columns_fit_step catalog) f)) ∙ h)
      (sym (fold-roll-Filter Bool (values_fit_step b) f) ∙ k)

  filter_fit : (f : Filter) → IsFit f
  filter_fit = of_all IsFit rolled_fit

  -- ---- fields and selections

  abbrev field_fits : Field → ℕ → Bool
  field_fits = fold-Field (ℕ → Bool) (FitsAt catalog) (fits_field_step catalog) (fits_select_step catalog)

  abbrev field_bound : Field → Bool
  field_bound = fold-Field Bool Bool (bound_field_step b) (bound_select_step b)

  abbrev FieldReady : Field → Type 0
  FieldReady f = (table : ℕ) → IsTrue (field_fits f table) → IsTrue (field_bound f)
      → IsTrue (is_ready_field catalog b f)

  abbrev SelectReady : Select → Type 0
  SelectReady s = (is_root : Bool) (to : List ℕ) → IsTrue (select_fits catalog s is_root to) → IsTrue (is_bound b s)
      → IsTrue (is_ready catalog b s)

  abbrev EachSelect : Field-F Field Select → Type 0
  EachSelect (Field-F.Column key column) = Unit {0}
  EachSelect (Field-F.Typename key) = Unit {0}
  EachSelect (Field-F.Link key from to select) = SelectReady select

  field_by_form : (f : Field-F Field Select) → EachSelect f → (table : ℕ)
      → IsTrue (fits_field_step catalog
      (map-Field Field Select (ℕ → Bool) (FitsAt catalog) field_fits (select_fits catalog) f) table)
      → IsTrue (bound_field_step b (map-Field Field Select Bool Bool field_bound (is_bound b) f))
      → IsTrue (ready_field_step catalog b
      (map-Field Field Select Bool Bool (is_ready_field catalog b) (is_ready catalog b) f))
  field_by_form (Field-F.Column key column) each table h k = refl
  field_by_form (Field-F.Typename key) each table h k = refl
  field_by_form (Field-F.Link key from to select) each table h k =
      each false to (both _ (select_fits catalog select false to) h).1 k

  rolled_field : (f : Field-F Field Select) → EachSelect f → FieldReady (roll-Field f)
  rolled_field f each table h k =
      fold-roll-Field Bool Bool (ready_field_step catalog b) (ready_select_step catalog b) f
      ∙ field_by_form f each table
      (sym (ap (λ (m : ℕ → Bool). m table)
      (fold-roll-Field (ℕ → Bool) (FitsAt catalog) (fits_field_step catalog) (fits_select_step catalog) f)) ∙ h)
      (sym (fold-roll-Field Bool Bool (bound_field_step b) (bound_select_step b) f) ∙ k)

  each_select : (y : Field-F ((x : Field) × FieldReady x) ((x : Select) × SelectReady x))
      → EachSelect (map-Field ((x : Field) × FieldReady x) ((x : Select) × SelectReady x) Field Select (λ e. e.0)
      (λ e. e.0) y)
  each_select (Field-F.Column key column) = tt
  each_select (Field-F.Typename key) = tt
  each_select (Field-F.Link key from to select) = select.1

  all_ready : (table : ℕ) (fields : List Field) → AllByRecursion FieldReady fields
      → IsTrue (list_all (λ (f : ℕ → Bool). f table) (map field_fits fields))
      → IsTrue (list_all itself (map field_bound fields))
      → IsTrue (list_all itself (map (is_ready_field catalog b) fields))
  all_ready table [] each h k = refl
  all_ready table (f ∷ fs) each h k =
      let fit = both (field_fits f table) (list_all (λ (f : ℕ → Bool). f table) (map field_fits fs)) h in
      let bound = both (field_bound f) (list_all itself (map field_bound fs)) k in
      and_in (is_ready_field catalog b f) (list_all itself (map (is_ready_field catalog b) fs))
      (each.0 table fit.0 bound.0) (all_ready table fs each.1 fit.1 bound.1)

  select_by_form : (s : Select-F Field Select) → AllByRecursion FieldReady s.fields → (is_root : Bool) (to : List ℕ)
      → IsTrue (fits_select_step catalog
      (map-Select Field Select (ℕ → Bool) (FitsAt catalog) field_fits (select_fits catalog) s) is_root to)
      → IsTrue (bound_select_step b (map-Select Field Select Bool Bool field_bound (is_bound b) s))
      → IsTrue (ready_select_step catalog b
      (map-Select Field Select Bool Bool (is_ready_field catalog b) (is_ready catalog b) s))
  select_by_form s each is_root to h k =
      let table : Bool = nat_lt s.table (length catalog.tables) in
      let joined : Bool = list_all (has_column catalog s.table) to in
      let shape : Bool = shape_fits catalog is_root s.table s.shape in
      let columns : Bool = columns_fit catalog s.table s.filter in
      let orders : Bool = list_all (λ (o : Order). has_column catalog s.table o.column) s.order in
      let fields : Bool = list_all (λ (f : ℕ → Bool). f s.table) (map field_fits s.fields) in
      let values : Bool = values_fit b s.filter in
      let limit : Bool = count_fits b s.limit in
      let offset : Bool = count_fits b s.offset in
      let batch : Bool = batch_fits b s.shape in
      let bound : Bool = list_all itself (map field_bound s.fields) in
      let ready : Bool = list_all itself (map (is_ready_field catalog b) s.fields) in
      let filter : Bool = fits (width catalog s.table) b s.filter in
      let h5 = both ((((table && joined) && shape) && columns) && orders) fields h in
      let h4 = both (((table && joined) && shape) && columns) orders h5.0 in
      let h3 = both ((table && joined) && shape) columns h4.0 in
      let h2 = both (table && joined) shape h3.0 in
      let h1 = both table joined h2.0 in
      let k4 = both (((values && limit) && offset) && batch) bound k in
      let k3 = both ((values && limit) && offset) batch k4.0 in
      let k2 = both (values && limit) offset k3.0 in
      let k1 = both values limit k2.0 in
      and_in (table && filter) ready (and_in table filter h1.0 (filter_fit s.filter s.table h3.1 k1.0))
      (all_ready s.table s.fields each h5.1 k4.1)

  rolled_select : (s : Select-F Field Select) → AllByRecursion FieldReady s.fields → SelectReady (roll-Select s)
  rolled_select s each is_root to h k =
      fold-roll-Select Bool Bool (ready_field_step catalog b) (ready_select_step catalog b) s
      ∙ select_by_form s each is_root to
      (sym (ap (λ (m : FitsAt catalog). m is_root to)
      (fold-roll-Select (ℕ → Bool) (FitsAt catalog) (fits_field_step catalog) (fits_select_step catalog) s)) ∙ h)
      (sym (fold-roll-Select Bool Bool (bound_field_step b) (bound_select_step b) s) ∙ k)

  select_ready : (s : Select) → SelectReady s
  select_ready = ind-Select FieldReady SelectReady
      (λ f y is. rolled_field f (subst EachSelect is (each_select y)))
      (λ s y is. rolled_select s (subst (λ z. AllByRecursion FieldReady z.fields) is (firsts FieldReady y.fields)))

pub root_ready : (catalog : Catalog) (b : Binding) (p : Plan) → PlanFits catalog p → BindingFits p b
    → IsTrue (is_ready catalog b p.root)
root_ready catalog b p fit bound = select_ready catalog b p.root true [] fit.root bound
