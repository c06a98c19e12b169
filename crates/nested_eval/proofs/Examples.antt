-- The selections of the tests fit their table.
use Rattle.std.proofs.Common.{◌≡◌, ◌∙◌, ◌<◌, ◌^◌, ℕ, ℤ, Bool, true, false, ◌&&◌, IsTrue, List, [], ◌∷◌, map, length, nat_lt}
use Rattle.std.proofs.Common.{nat_le, Option, Some, None, refl, sym, ap, subst, arith}
use Rattle.std.specs.List.{AllByRecursion, list_all}
use Rattle.std.proofs.lemmas.Bool.Decides.{nat_tests}
use Rattle.scalar_val.specs.declared.val.Val.{Val}
use Rattle.scalar_val.specs.declared.val.Val.TheVariants as val
use Rattle.data_model.specs.declared.catalog.Catalog.{Catalog}
use Rattle.data_model.specs.declared.catalog.TableDef.{TableDef}
use Rattle.data_model.specs.Rows.{Fits, FitAll, row_fits, stands_in}
use Rattle.plan_model.specs.declared.filter.Binding.{Binding}
use Rattle.plan_model.specs.declared.filter.Filter.{Filter}
use Rattle.plan_model.specs.declared.filter.Filter.TheVariants as filter
use Rattle.plan_model.specs.declared.filter.Filter.TheVariants.{rolls-And, rolls-Cmp}
use Rattle.plan_model.specs.declared.filter.Filter.TheFolds.{fold-roll-Filter}
use Rattle.plan_model.specs.declared.filter.Op.{Op}
use Rattle.plan_model.specs.declared.filter.Op.TheVariants as compare
use Rattle.plan_model.specs.declared.filter.Operand.{Operand}
use Rattle.plan_model.specs.declared.filter.Operand.TheVariants.{Const}
use Rattle.plan_model.specs.declared.plan.Field.{Field}
use Rattle.plan_model.specs.declared.plan.Field.TheVariants as field
use Rattle.plan_model.specs.declared.plan.Field.TheVariants.{rolls-Column, rolls-Typename, rolls-Link}
use Rattle.plan_model.specs.declared.plan.Field.TheFolds.{fold-Field, fold-roll-Field, fold_out-Select}
use Rattle.plan_model.specs.declared.plan.Order.{Order}
use Rattle.plan_model.specs.declared.plan.Plan.{Plan}
use Rattle.plan_model.specs.declared.plan.Select.{Select}
use Rattle.plan_model.specs.declared.plan.Shape.TheVariants as shape
use Rattle.scalar_val.specs.Joined.{Text}
use Rattle.row_store.specs.Held.{Held, def_at, table_at, has_numbered_columns, is_numbered}
use Rattle.plan_model.specs.PlanFits.{has_column, columns_fit, columns_fit_step, FitsAt, fits_field_step}
use Rattle.plan_model.specs.PlanFits.{fits_select_step, select_fits, shape_fits, PlanFits}
use Rattle.plan_model.specs.BindingFits.{values_fit, values_fit_step, count_fits, batch_fits, bound_field_step}
use Rattle.plan_model.specs.BindingFits.{bound_select_step, is_bound}
use Rattle.nested_eval.specs.Example.{whole_column, items, catalog, related, number, FieldFits, RootFits}
use Rattle.plan_model.proofs.Fitting.{same_length}
use Rattle.plan_model.proofs.Readiness.{and_in}

-- ---- rows

pub items_numbered : (catalog : Catalog) → catalog.tables ≡ items → IsTrue (is_numbered catalog)
items_numbered catalog same = subst (λ (ts : List TableDef). IsTrue (nat_lt (length ts) (2 ^ 32) && list_all has_numbered_columns ts)) (sym same) refl

pub one_table : (held : Held) → held.catalog.tables ≡ items → Fits held.catalog held.tables → 0 < length held.tables
one_table held same fits =
    let many = same_length items held.tables (subst (λ (ts : List TableDef). FitAll ts held.tables) same fits) in
    omega (arith, many)

pub row_stands : (held : Held) (id : ℤ) (whole : Val) → held.catalog.tables ≡ items
    → IsTrue (stands_in whole_column whole) → IsTrue (row_fits (table_at held 0).columns (val.Int id ∷ whole ∷ []))
row_stands held id whole same stands =
    subst (λ (ts : List TableDef). IsTrue (row_fits (def_at ts 0).columns (val.Int id ∷ whole ∷ []))) (sym same)
    (and_in (stands_in whole_column whole) true stands refl)

-- ---- fields

abbrev field_fits : Field → ℕ → Bool
field_fits = fold-Field (ℕ → Bool) (FitsAt catalog) (fits_field_step catalog) (fits_select_step catalog)

abbrev field_bound : Binding → Field → Bool
field_bound b = fold-Field Bool Bool (bound_field_step b) (bound_select_step b)

pub id_fits : (key : Text) → FieldFits (field.Column key 0)
id_fits key = record {
  columns = ap (λ (f : Field). field_fits f 0) (sym (rolls-Column key 0))
      ∙ ap (λ (m : ℕ → Bool). m 0)
      (fold-roll-Field (ℕ → Bool) (FitsAt catalog) (fits_field_step catalog) (fits_select_step catalog) _);
  values = λ b. ap (field_bound b) (sym (rolls-Column key 0))
      ∙ fold-roll-Field Bool Bool (bound_field_step b) (bound_select_step b) _;
}

pub typename_fits : (key : Text) → FieldFits (field.Typename key)
typename_fits key = record {
  columns = ap (λ (f : Field). field_fits f 0) (sym (rolls-Typename key))
      ∙ ap (λ (m : ℕ → Bool). m 0)
      (fold-roll-Field (ℕ → Bool) (FitsAt catalog) (fits_field_step catalog) (fits_select_step catalog) _);
  values = λ b. ap (field_bound b) (sym (rolls-Typename key))
      ∙ fold-roll-Field Bool Bool (bound_field_step b) (bound_select_step b) _;
}

all_columns : (fields : List Field) → AllByRecursion FieldFits fields
    → IsTrue (list_all (λ (f : ℕ → Bool). f 0) (map field_fits fields))
all_columns [] h = refl
all_columns (f ∷ fs) h =
    and_in (field_fits f 0) (list_all (λ (f : ℕ → Bool). f 0) (map field_fits fs)) h.0.columns (all_columns fs h.1)

all_values : (b : Binding) (fields : List Field) → AllByRecursion FieldFits fields
    → IsTrue (list_all (λ (x : Bool). x) (map (field_bound b) fields))
all_values b [] h = refl
all_values b (f ∷ fs) h =
    and_in (field_bound b f) (list_all (λ (x : Bool). x) (map (field_bound b) fs)) (h.0.values b) (all_values b fs h.1)

-- ---- conditions

empty_columns : IsTrue (columns_fit catalog 0 (filter.And []))
empty_columns = ap (λ (f : Filter). columns_fit catalog 0 f) (sym (rolls-And []))
    ∙ ap (λ (m : ℕ → Bool). m 0) (fold-roll-Filter (ℕ → Bool) (columns_fit_step catalog) _)

empty_values : (b : Binding) → IsTrue (values_fit b (filter.And []))
empty_values b = ap (values_fit b) (sym (rolls-And [])) ∙ fold-roll-Filter Bool (values_fit_step b) _

test_columns : (op : Op) (v : Val) → IsTrue (columns_fit catalog 0 (filter.Cmp 0 op (Const v)))
test_columns op v = ap (λ (f : Filter). columns_fit catalog 0 f) (sym (rolls-Cmp 0 op (Const v)))
    ∙ ap (λ (m : ℕ → Bool). m 0) (fold-roll-Filter (ℕ → Bool) (columns_fit_step catalog) _)

test_values : (b : Binding) (op : Op) (v : Val) → IsTrue (values_fit b (filter.Cmp 0 op (Const v)))
test_values b op v = ap (values_fit b) (sym (rolls-Cmp 0 op (Const v))) ∙ fold-roll-Filter Bool (values_fit_step b) _

-- ---- selections

module _ (s : Select) (fields : AllByRecursion FieldFits s.fields) (first : s.table ≡ 0) where
  select_columns : (is_root : Bool) (to : List ℕ) → IsTrue (list_all (has_column catalog 0) to)
      → IsTrue (shape_fits catalog is_root 0 s.shape) → IsTrue (columns_fit catalog 0 s.filter)
      → IsTrue (list_all (λ (o : Order). has_column catalog 0 o.column) s.order)
      → IsTrue (select_fits catalog s is_root to)
  select_columns is_root to joined shape columns orders =
      let joins : Bool = list_all (has_column catalog 0) to in
      let shapes : Bool = shape_fits catalog is_root 0 s.shape in
      let filters : Bool = columns_fit catalog 0 s.filter in
      let order : Bool = list_all (λ (o : Order). has_column catalog 0 o.column) s.order in
      let each : Bool = list_all (λ (f : ℕ → Bool). f 0) (map field_fits s.fields) in
      let all : IsTrue (((((true && joins) && shapes) && filters) && order) && each) =
      and_in ((((true && joins) && shapes) && filters) && order) each
      (and_in (((true && joins) && shapes) && filters) order
      (and_in ((true && joins) && shapes) filters (and_in (true && joins) shapes joined shape) columns) orders)
      (all_columns s.fields fields) in
      ap (λ (m : FitsAt catalog). m is_root to)
      (fold_out-Select (ℕ → Bool) (FitsAt catalog) (fits_field_step catalog) (fits_select_step catalog) s)
      ∙ subst (λ n. IsTrue (((((nat_lt n 1 && list_all (has_column catalog n) to)
      && shape_fits catalog is_root n s.shape) && columns_fit catalog n s.filter)
      && list_all (λ (o : Order). has_column catalog n o.column) s.order)
      && list_all (λ (f : ℕ → Bool). f n) (map field_fits s.fields))) (sym first) all

  select_values : (b : Binding) → IsTrue (values_fit b s.filter) → IsTrue (count_fits b s.limit)
      → IsTrue (count_fits b s.offset) → IsTrue (batch_fits b s.shape) → IsTrue (is_bound b s)
  select_values b values limit offset batch =
      fold_out-Select Bool Bool (bound_field_step b) (bound_select_step b) s
      ∙ and_in (((values_fit b s.filter && count_fits b s.limit) && count_fits b s.offset) && batch_fits b s.shape)
      (list_all (λ (x : Bool). x) (map (field_bound b) s.fields))
      (and_in ((values_fit b s.filter && count_fits b s.limit) && count_fits b s.offset) (batch_fits b s.shape)
      (and_in (values_fit b s.filter && count_fits b s.limit) (count_fits b s.offset)
      (and_in (values_fit b s.filter) (count_fits b s.limit) values limit) offset) batch)
      (all_values b s.fields fields)

link_fits : (key : Text) (from to : ℕ) (s : Select) → IsTrue (has_column catalog 0 from)
    → IsTrue (select_fits catalog s false (to ∷ [])) → ((b : Binding) → IsTrue (is_bound b s))
    → FieldFits (field.Link key (from ∷ []) (to ∷ []) s)
link_fits key from to s here there bound = record {
  columns = ap (λ (f : Field). field_fits f 0) (sym (rolls-Link key (from ∷ []) (to ∷ []) s))
      ∙ ap (λ (m : ℕ → Bool). m 0)
      (fold-roll-Field (ℕ → Bool) (FitsAt catalog) (fits_field_step catalog) (fits_select_step catalog) _)
      ∙ and_in (has_column catalog 0 from && true) (select_fits catalog s false (to ∷ []))
      (and_in (has_column catalog 0 from) true here refl) there;
  values = λ b. ap (field_bound b) (sym (rolls-Link key (from ∷ []) (to ∷ []) s))
      ∙ fold-roll-Field Bool Bool (bound_field_step b) (bound_select_step b) _ ∙ bound b;
}

pub parts_fit : (key : Text) (from to : List ℕ) (s : Select) (fields : List Field) → from ≡ 0 ∷ [] → to ≡ 1 ∷ []
    → s ≡ related shape.List fields → AllByRecursion FieldFits fields → FieldFits (field.Link key from to s)
parts_fit key from to s fields from_is to_is s_is all =
    rw (from_is, to_is, s_is)
    (link_fits key 0 1 (related shape.List fields) refl
    (select_columns (related shape.List fields) all refl false (1 ∷ []) refl refl empty_columns refl)
    (λ b. select_values (related shape.List fields) all refl b (empty_values b) refl refl refl))

pub whole_fits : (key : Text) (from to : List ℕ) (s : Select) (fields : List Field) → from ≡ 1 ∷ [] → to ≡ 0 ∷ []
    → s ≡ related shape.One fields → AllByRecursion FieldFits fields → FieldFits (field.Link key from to s)
whole_fits key from to s fields from_is to_is s_is all =
    rw (from_is, to_is, s_is)
    (link_fits key 1 0 (related shape.One fields) refl
    (select_columns (related shape.One fields) all refl false (0 ∷ []) refl refl empty_columns refl)
    (λ b. select_values (related shape.One fields) all refl b (empty_values b) refl refl refl))

any_number : (n : ℕ) → IsTrue (nat_le 0 n)
any_number n = grind (arith, nat_tests)

abbrev by_whole : Bool → Bool → List Order
by_whole descending nulls_first = record { column = 1; descending = descending; nulls_first = nulls_first } ∷ []

abbrev listed : Val → List Order → Operand → Operand → Option ℕ → List Field → Select
listed without order limit offset most fields =
    record {
      table = 0;
      shape = shape.List;
      filter = filter.Cmp 0 compare.Neq
          (Const without);
      order = order;
      limit = Some limit;
      offset = Some offset;
      cap = most;
      fields = fields;
    }

pub listed_fits : (descending nulls_first : Bool) (without : Val) (order : List Order) (limit offset : Operand)
    (n m : ℕ) (most : Option ℕ) (fields : List Field) →
    order ≡ by_whole descending nulls_first → limit ≡ number n → offset ≡ number m → AllByRecursion FieldFits fields
    → RootFits (listed without order limit offset most fields)
listed_fits descending nulls_first without order limit offset n m most fields order_is limit_is offset_is all =
    let s = listed without (by_whole descending nulls_first) (number n) (number m) most fields in
    rw (order_is, limit_is, offset_is) (record {
      columns = select_columns s all refl true [] refl refl (test_columns compare.Neq without) refl;
      values = λ b. select_values s all refl b (test_values b compare.Neq without) (any_number n) (any_number m) refl;
    })

abbrev streamed : List Filter → List Order → Bool → Operand → Option ℕ → List Field → Select
streamed parts order descending batch most fields =
    record { table = 0; shape = shape.Stream 0 descending batch; filter = filter.And parts; order = order; limit = None; offset = None; cap = most; fields = fields }

some : (n : ℕ) → 0 < n → IsTrue (nat_le 1 n)
some n h = grind (arith, nat_tests)

pub streamed_fits : (parts : List Filter) (order : List Order) (descending : Bool) (batch : Operand) (n : ℕ)
    (most : Option ℕ) (fields : List Field) →
    parts ≡ [] → order ≡ [] → batch ≡ number n → 0 < n → AllByRecursion FieldFits fields
    → RootFits (streamed parts order descending batch most fields)
streamed_fits parts order descending batch n most fields parts_is order_is batch_is h all =
    let s = streamed [] [] descending (number n) most fields in
    rw (parts_is, order_is, batch_is) (record {
      columns = select_columns s all refl true [] refl refl empty_columns refl;
      values = λ b. select_values s all refl b (empty_values b) refl refl (some n h);
    })

pub plan_fits : (p : Plan) → p.names ≡ map (λ (t : TableDef). t.name) items → RootFits p.root → (c : Catalog)
    → c.tables ≡ items → PlanFits c p
plan_fits p names root c same =
    subst (λ (ts : List TableDef). PlanFits (record { tables = ts }) p) (sym same)
    (record { names = names; root = root.columns })
