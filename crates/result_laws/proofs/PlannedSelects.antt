-- The rows that a plan's lists, single rows and streams want with a binding are those that the query wants.
use Rattle.std.proofs.Common.{◌≡◌, ℕ, Bool, true, false, ◌&&◌, if◌then◌else◌, List, [], ◌∷◌, ◌++◌, map, flat_map, slice_get, unwrap_or, Option, Some, None, refl, ap, ap₂, sym, ◌∙◌}
use Rattle.std.proofs.Math.Bool.{and_assoc, and-true}
use std.Path.{fun_ext}
use Rattle.std.specs.Prelude.{codes}
use Rattle.std.specs.List.{list_all, list_any, AllByRecursion}
use Rattle.scalar_val.specs.declared.val.Kind.TheVariants as kind
use Rattle.scalar_val.specs.declared.val.Val.{Val}
use Rattle.scalar_val.specs.declared.val.Val.TheVariants as val
use Rattle.scalar_val.specs.Values.{cell, value_or_null}
use Rattle.data_model.specs.Rows.{Row}
use Rattle.plan_model.specs.declared.filter.Binding.{Binding}
use Rattle.plan_model.specs.declared.filter.Filter.{Filter}
use Rattle.plan_model.specs.declared.filter.Filter.TheVariants as filter
use Rattle.plan_model.specs.declared.filter.Op.TheVariants.{Eq}
use Rattle.plan_model.specs.declared.filter.TruthValue.{TruthValue}
use Rattle.plan_model.specs.declared.filter.TruthValue.TheVariants.{Yes, No, Unknown}
use Rattle.role_model.specs.declared.metadata.Metadata.{Metadata}
use Rattle.plan_model.specs.declared.plan.Shape.TheVariants as shape
use Rattle.role_model.specs.Roles.{View, cap_seen}
use Rattle.plan_model.specs.Truth.{is_no, all_of, is_yes, compared, truth_of}
use Rattle.plan_model.specs.Values.{operand_value}
use Rattle.plan_model.proofs.Truths.{truth_of-And, truth_of-Or, truth_of-Cmp}
use Rattle.request_model.specs.declared.document.GValue.{GValue}
use Rattle.request_model.specs.declared.document.GPair.{GPair}
use Rattle.request_model.specs.Strings.{Text}
use Rattle.request_model.specs.SelectionLaws.{bare_argument}
use Rattle.query_model.specs.Names.{key_columns, column_name, kind_of, pair_value, argument, initial_column, descends}
use Rattle.plan_model.specs.Values.{number_in}
use Rattle.query_model.specs.Variables.{number_read}
use Rattle.query_model.specs.Conditions.{where_filter, orders_in}
use Rattle.query_model.specs.declared.session.SessionSlot.{SessionSlot}
use Rattle.query_model.specs.declared.session.SessionValue.{SessionValue}
use Rattle.query_model.specs.Queries.{Query, value_names, view_of}
use Rattle.query_model.specs.ArgumentFaults.{Known, arguments_fault}
use Rattle.plan_model.specs.Taken.{Extent, All, First, Next, Wanted, is_beyond}
use Rattle.query_model.specs.Results.{is_permitted, is_asked, column_equals, list_extent, row_wanted, stream_wanted}
use Rattle.plan_model.specs.Planned as plans
use Rattle.query_model.specs.Plans.{operands, operand_of, permission, permission_by, count_operand, batch_operand, column_condition, key_condition}
use Rattle.plan_model.specs.Planned.{number_bound, extent_of, any_row}
use Rattle.admission_laws.proofs.GoodMetadata.{GoodMetadata}
use Rattle.admission_laws.proofs.TypedValues.{Typed}
use Rattle.admission_laws.proofs.PassedValues.{read_bound}
use Rattle.admission_laws.proofs.PassedConditions.{AllListed}
use Rattle.admission_laws.proofs.FittingSelects.{argument_good, whole_listed, any_listed}
use Rattle.result_laws.proofs.PlannedWanted.{KnownAt, HearsIn, ListedAt, guarded, asked_same, number_same}

yes_more : (x : TruthValue) (xs : List TruthValue) → is_yes (all_of (x ∷ xs)) ≡ (is_yes x && is_yes (all_of xs))
yes_more Yes xs = refl
yes_more No xs = refl
yes_more Unknown xs = go (list_any is_no xs)
  where
    go : (c : Bool) → is_yes (if c then No else Unknown) ≡ false
    go true = refl
    go false = refl

cell_is : (o : Option Val) → value_or_null o ≡ unwrap_or o val.Null
cell_is None = refl
cell_is (Some x) = refl

module _ (m : Metadata) (q : Query) (names : List Text) (slots : List SessionSlot) (b : Binding) (all : AllByRecursion Typed q.variables) (told : map (λ (x : SessionValue). x.slot) q.session ≡ slots)
    (bound : b.session ≡ map (λ (x : SessionValue). x.value) q.session) (good : GoodMetadata m) where
  abbrev w : View
  w = view_of m q

  abbrev Hears : List Text → Type 0
  Hears ns = AllListed w names slots b q.variables all ns

  abbrev own_names : List GPair → List Text
  own_names args = flat_map (λ p. value_names (pair_value (bare_argument p))) args

  abbrev Knows : ℕ → Type 0
  Knows table = KnownAt m q names slots b all told bound good table

  -- ---- the arguments of a field that the walk lets pass

  module _ (known : Known) (args : List GPair) (passed : arguments_fault q.variables w known args ≡ None) (heard : Hears (own_names args)) where
    where_heard : HearsIn m q names slots b all told bound good (argument (codes "where") args)
    where_heard = go (argument (codes "where") args) refl
      where
        go : (o : Option GValue) → argument (codes "where") args ≡ o → HearsIn m q names slots b all told bound good o
        go None e = tt
        go (Some x) e = whole_listed w names slots b q.variables all known (codes "where") x refl (argument_good w names slots b q.variables all known (codes "where") args passed heard x e)

    found_listed : (name : Text) → ListedAt m q names slots b all told bound good (argument name args)
    found_listed name = go (argument name args) refl
      where
        go : (o : Option GValue) → argument name args ≡ o → ListedAt m q names slots b all told bound good o
        go None e = tt
        go (Some x) e = any_listed w names slots b q.variables all known name x (argument_good w names slots b q.variables all known name args passed heard x e)

    abbrev given : ℕ → Filter
    given table = filter.And (where_filter w (operands w names slots) table (argument (codes "where") args) ∷ permission w names slots table)

    asked_here : (table : ℕ) → Knows table → (row : Row) → is_yes (truth_of b (given table) row) ≡ (is_asked m q table args row && is_permitted m q table row)
    asked_here table k row = asked_same m q names slots b all told bound good table k (argument (codes "where") args) where_heard row

    -- ---- lists

    abbrev pub list_planned : (Row → Bool) → ℕ → Wanted
    list_planned allowed table = record {
      table = table;
      shown = λ row. allowed row && is_yes (truth_of b (given table) row) && plans.passes b shape.List row;
      extent = extent_of b shape.List (orders_in w table (argument (codes "order_by") args)) (count_operand w names slots (argument (codes "limit") args)) (count_operand w names slots (argument (codes "offset") args));
      cap = cap_seen w table;
    }

    extent_same : (table : ℕ) → (list_planned any_row table).extent ≡ list_extent m q table args
    extent_same table =
        ap₂ (λ o l. All (orders_in w table (argument (codes "order_by") args)) (unwrap_or o 0) l)
        (number_same m q names slots b all told bound good (argument (codes "offset") args) (found_listed (codes "offset")))
        (number_same m q names slots b all told bound good (argument (codes "limit") args) (found_listed (codes "limit")))

    pub list_same : (allowed : Row → Bool) (table : ℕ) → Knows table →
        list_planned allowed table ≡ record { table = table; shown = λ row. allowed row && is_asked m q table args row && is_permitted m q table row; extent = list_extent m q table args; cap = cap_seen w table }
    list_same allowed table k =
        ap₂ (λ (shown : Row → Bool) (extent : Extent). record { table = table; shown = shown; extent = extent; cap = cap_seen w table })
        (fun_ext (λ row. and-true (allowed row && is_yes (truth_of b (given table) row)) ∙ ap (λ c. allowed row && c) (asked_here table k row) ∙ sym (and_assoc (allowed row) (is_asked m q table args row) (is_permitted m q table row))))
        (extent_same table)

    -- ---- streams

    abbrev pub stream_planned : ℕ → Wanted
    stream_planned table =
        let column = initial_column w table args in
        let batch = batch_operand w names slots (argument (codes "batch_size") args) in
        record {
          table = table;
          shown = λ row. any_row row && is_yes (truth_of b (given table) row) && plans.passes b (shape.Stream column (descends args) batch) row;
          extent = extent_of b (shape.Stream column (descends args) batch) [] None None;
          cap = cap_seen w table;
        }

    batch_same : (o : Option GValue) → ListedAt m q names slots b all told bound good o → number_bound b (Some (batch_operand w names slots o)) ≡ number_read q.variables o
    batch_same None h = refl
    batch_same (Some x) h = ap number_in (sym (read_bound w names slots b q.variables all kind.Int x h))

    pub stream_same : (table : ℕ) → Knows table → stream_planned table ≡ stream_wanted m q b.cursor table args
    stream_same table k =
        let column = initial_column w table args in
        ap₂ (λ (shown : Row → Bool) (n : Option ℕ). record { table = table; shown = shown; extent = Next column (descends args) (unwrap_or n 0); cap = cap_seen w table })
        (fun_ext (λ row. ap (λ c. c && is_beyond (descends args) b.cursor (cell row column)) (asked_here table k row)))
        (batch_same (argument (codes "batch_size") args) (found_listed (codes "batch_size")))

    -- ---- the row of a key

    key_here : (table column : ℕ) (row : Row) (o : Option GValue) → ListedAt m q names slots b all told bound good o → is_yes (truth_of b (column_condition w names slots table column o) row) ≡ column_equals m q table row column o
    key_here table column row None h = ap is_yes (truth_of-Or b [] row)
    key_here table column row (Some x) h =
        ap is_yes (truth_of-Cmp b column Eq (operand_of w names slots (kind_of w table column) x) row) ∙ ap (λ y. is_yes (compared Eq y (operand_value b (operand_of w names slots (kind_of w table column) x)))) (cell_is (slice_get row column))
        ∙ ap (λ y. is_yes (compared Eq (cell row column) y)) (sym (read_bound w names slots b q.variables all (kind_of w table column) x h))

    permitted_here : (table : ℕ) → Knows table → (row : Row) → is_yes (all_of (map (λ (part : Row → TruthValue). part row) (map (truth_of b) (permission w names slots table)))) ≡ is_permitted m q table row
    permitted_here table k row = guarded m q names slots b all told bound good table k Yes row

    keys_here : (table : ℕ) → Knows table → (row : Row) (columns : List ℕ) →
        is_yes (all_of (map (λ (part : Row → TruthValue). part row) (map (truth_of b) (map (key_condition w names slots table args) columns ++ permission w names slots table))))
        ≡ (list_all (λ column. column_equals m q table row column (argument (column_name w table column) args)) columns && is_permitted m q table row)
    keys_here table k row [] = permitted_here table k row
    keys_here table k row (c ∷ cs) =
        yes_more (truth_of b (key_condition w names slots table args c) row) (map (λ (part : Row → TruthValue). part row) (map (truth_of b) (map (key_condition w names slots table args) cs ++ permission w names slots table)))
        ∙ ap₂ (λ x y. x && y) (key_here table c row (argument (column_name w table c) args) (found_listed (column_name w table c))) (keys_here table k row cs)
        ∙ sym (and_assoc (column_equals m q table row c (argument (column_name w table c) args)) _ (is_permitted m q table row))

    abbrev pub key_planned : ℕ → Wanted
    key_planned table = record {
      table = table;
      shown = λ row. any_row row && is_yes (truth_of b (filter.And (map (key_condition w names slots table args) (key_columns w table) ++ permission w names slots table)) row) && plans.passes b shape.One row;
      extent = First;
      cap = None;
    }

    pub key_same : (table : ℕ) → Knows table → key_planned table ≡ row_wanted m q table args
    key_same table k =
        ap (λ (shown : Row → Bool). record { table = table; shown = shown; extent = First; cap = None })
        (fun_ext (λ row. and-true _ ∙ ap is_yes (truth_of-And b _ row) ∙ keys_here table k row (key_columns w table)))

  -- ---- the row of a relationship

  abbrev pub one_planned : (Row → Bool) → ℕ → Wanted
  one_planned allowed table = record { table = table; shown = λ row. allowed row && is_yes (truth_of b (filter.And (permission w names slots table)) row) && plans.passes b shape.One row; extent = First; cap = None }

  pub one_same : (allowed : Row → Bool) (table : ℕ) → Knows table → one_planned allowed table ≡ record { table = table; shown = λ row. allowed row && is_permitted m q table row; extent = First; cap = None }
  one_same allowed table k =
      ap (λ (shown : Row → Bool). record { table = table; shown = shown; extent = First; cap = None })
      (fun_ext (λ row. and-true (allowed row && is_yes (truth_of b (filter.And (permission w names slots table)) row)) ∙ ap (λ c. allowed row && c) (ap is_yes (truth_of-And b _ row) ∙ guarded m q names slots b all told bound good table k Yes row)))
