-- The conditions and orders that arguments write: Hasura's boolean expressions and `order_by`. A condition is read with
-- a reader for its values, which may put the values themselves in their places, or slots of a plan.
use Rattle.std.specs.Prelude.{ℕ, Bool, true, false, List, [], ◌∷◌, map, flat_map, if◌then◌else◌, Option, Some, None, option_map, option_and_then, codes}
use Rattle.std.specs.List.{filter_map}
use Rattle.std.specs.Str.{bytes_eq}
use Rattle.scalar_val.specs.declared.val.Kind.{Kind}
use Rattle.scalar_val.specs.declared.val.Kind.TheVariants as kind
use Rattle.plan_model.specs.declared.filter.Filter.{Filter}
use Rattle.plan_model.specs.declared.filter.Filter.TheVariants as filter
use Rattle.plan_model.specs.declared.filter.Items.{Items}
use Rattle.plan_model.specs.declared.filter.Op.{Op}
use Rattle.plan_model.specs.declared.filter.Operand.{Operand}
use Rattle.plan_model.specs.declared.plan.Order.{Order}
use Rattle.role_model.specs.JsonFilters.{op_named}
use Rattle.role_model.specs.Roles.{View, column_seen}
use Rattle.request_model.specs.declared.document.GValue.{GValue}
use Rattle.request_model.specs.declared.document.GValue.TheOpen.{GValue-F, GPair-F}
use Rattle.request_model.specs.declared.document.GValue.TheFolds.{para-GValue, para-GPair}
use Rattle.request_model.specs.declared.document.GPair.{GPair}
use Rattle.request_model.specs.Strings.{Text}
use Rattle.query_model.specs.Names.{kind_of, pair_name, pair_value, pairs_in, items_in, enum_in}

-- how the values of a condition are read, for a column's kind: one value, and those of `_in` and `_nin`
pub record Reader : Type 0 where
  pub one : Kind → GValue → Operand
  pub many : Kind → GValue → Items

-- what is always true
abbrev pub always : Filter
always = filter.And []

abbrev pub compares : ℕ → Operand → Option Op → Filter
compares column operand (Some op) = filter.Cmp column op operand
compares column operand None = always

-- a value as one condition on a table, and as a list of conditions
pub record Conditions : Type 0 where
  pub one : ℕ → Filter
  pub many : ℕ → List Filter

module _ (v : View) (r : Reader) where
  abbrev pub operator_filter : ℕ → Kind → GPair → Filter
  operator_filter column k p =
      if bytes_eq (pair_name p) (codes "_in") then filter.Among column false (r.many k (pair_value p))
      else if bytes_eq (pair_name p) (codes "_nin") then filter.Among column true (r.many k (pair_value p))
      else if bytes_eq (pair_name p) (codes "_is_null") then filter.IsNull column (r.one kind.Bool (pair_value p))
      else compares column (r.one k (pair_value p)) (op_named (pair_name p))

  -- an object of operators, joined by and
  abbrev pub column_filter : ℕ → GValue → Option ℕ → Filter
  column_filter table x (Some column) = filter.And (map (operator_filter column (kind_of v table column)) (pairs_in x))
  column_filter table x None = always

  -- `_and`, `_or`, `_not` or a column
  abbrev pub key_filter : GPair-F (GValue × Conditions) (GPair × (ℕ → Filter)) → ℕ → Filter
  key_filter p table =
      if bytes_eq p.name (codes "_and") then filter.And (p.value.1.many table)
      else if bytes_eq p.name (codes "_or") then filter.Or (p.value.1.many table)
      else if bytes_eq p.name (codes "_not") then filter.Not (p.value.1.one table)
      else column_filter table p.value.0 (column_seen v table p.name)

  abbrev pub alone : (ℕ → Filter) → Conditions
  alone f = record { one = f; many = λ table. f table ∷ [] }

  -- an object is its keys' conditions joined by and
  abbrev pub conditions_step : GValue-F (GValue × Conditions) (GPair × (ℕ → Filter)) → Conditions
  conditions_step (GValue-F.Object pairs) =
      alone (λ table. filter.And (map (λ (p : GPair × (ℕ → Filter)). p.1 table) pairs))
  conditions_step (GValue-F.Many items) = record {
    one = λ table. always;
    many = λ table. map (λ (x : GValue × Conditions). x.1.one table) items;
  }
  conditions_step _ = alone (λ table. always)

  unfoldable pub conditions_in : GValue → Conditions
  conditions_in = para-GValue Conditions (ℕ → Filter) conditions_step key_filter

  -- the condition of one key of an object
  unfoldable pub condition_at : GPair → ℕ → Filter
  condition_at = para-GPair Conditions (ℕ → Filter) conditions_step key_filter

  -- the argument `where`; without one, or with null, every row is meant
  abbrev pub where_filter : ℕ → Option GValue → Filter
  where_filter table (Some x) = (conditions_in x).one table
  where_filter table None = always

-- ---- `order_by`

-- the six orders: whether it descends, and whether nulls come first
abbrev pub order_named : Text → Option (Bool × Bool)
order_named name =
    if bytes_eq name (codes "asc") then Some (false, false)
    else if bytes_eq name (codes "asc_nulls_first") then Some (false, true)
    else if bytes_eq name (codes "asc_nulls_last") then Some (false, false)
    else if bytes_eq name (codes "desc") then Some (true, true)
    else if bytes_eq name (codes "desc_nulls_first") then Some (true, true)
    else if bytes_eq name (codes "desc_nulls_last") then Some (true, false)
    else None

abbrev pub order_entry : ℕ → Bool × Bool → Order
order_entry column o = record { column = column; descending = o.0; nulls_first = o.1 }

module _ (v : View) (table : ℕ) where
  abbrev pub order_in : GPair → Option Order
  order_in p =
      option_and_then
      (λ column. option_map (order_entry column) (option_and_then order_named (enum_in (pair_value p))))
      (column_seen v table (pair_name p))

  -- the entries in written order, of one object or of a list of them
  abbrev pub orders_in : Option GValue → List Order
  orders_in (Some x) = flat_map (λ y. filter_map order_in (pairs_in y)) (items_in x)
  orders_in None = []
