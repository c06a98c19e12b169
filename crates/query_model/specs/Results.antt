-- What one query gives, alone, on one database: GraphQL October 2021, section 6 ("Execution"), with each field that
-- selects rows resolved for each of its parent's rows.
use Rattle.std.specs.Prelude.{ℕ, Bool, true, false, ◌&&◌, if◌then◌else◌, List, [], ◌∷◌, map, find, unwrap_or, Option, Some, None, option_map, codes}
use Rattle.std.specs.List.{list_all}
use Rattle.std.specs.Ordering.{is_eq}
use Rattle.scalar_val.specs.declared.val.Val.{Val}
use Rattle.scalar_val.specs.declared.val.Val.TheVariants as val
use Rattle.scalar_val.specs.ValText.{val_text}
use Rattle.scalar_val.specs.Values.{cell}
use Rattle.data_model.specs.Rows.{Row, Database}
use Rattle.plan_model.specs.declared.filter.Binding.{Binding}
use Rattle.plan_model.specs.declared.filter.Filter.{Filter}
use Rattle.plan_model.specs.declared.filter.Filter.TheVariants as filter
use Rattle.plan_model.specs.declared.filter.Filter.TheOpen.{Filter-F}
use Rattle.plan_model.specs.declared.filter.Filter.TheFolds.{fold-Filter}
use Rattle.plan_model.specs.declared.filter.Items.{Items}
use Rattle.plan_model.specs.declared.filter.Items.TheVariants as items
use Rattle.plan_model.specs.declared.filter.Op.TheVariants.{Eq}
use Rattle.plan_model.specs.declared.filter.Operand.{Operand}
use Rattle.plan_model.specs.declared.filter.Operand.TheVariants.{Const, Var, Sess}
use Rattle.role_model.specs.declared.metadata.LinkDef.{LinkDef}
use Rattle.role_model.specs.declared.metadata.Metadata.{Metadata}
use Rattle.role_model.specs.Roles.{View, filter_seen, cap_seen}
use Rattle.plan_model.specs.Truth.{is_yes, truth_of, compared}
use Rattle.request_model.specs.declared.document.GValue.{GValue}
use Rattle.request_model.specs.declared.document.GPair.{GPair}
use Rattle.request_model.specs.declared.flat.FlatField.{FlatField}
use Rattle.request_model.specs.declared.flat.FlatField.TheOpen.{FlatField-F}
use Rattle.request_model.specs.declared.flat.FlatField.TheViews.{out-FlatField}
use Rattle.request_model.specs.declared.flat.FlatField.TheFolds.{fold-FlatField}
use Rattle.request_model.specs.Strings.{Text}
use Rattle.scalar_val.specs.Joined.{named_text}
use Rattle.query_model.specs.Names.{Root, RowsOf, RowOf, StreamOf, NoRoot, Meant, Typename, AColumn, ALink, Unseen, meant, type_name, key_columns, column_name, kind_of, argument, initial_column, descends}
use Rattle.query_model.specs.Variables.{value_read, values_read, number_read}
use Rattle.query_model.specs.Conditions.{Reader, where_filter, orders_in}
use Rattle.query_model.specs.declared.session.SessionSlot.{SessionSlot}
use Rattle.query_model.specs.declared.session.SessionValue.{SessionValue}
use Rattle.query_model.specs.Queries.{Query, slot_cmp, session_name, root_of, view_of}
use Rattle.plan_model.specs.Taken.{Extent, All, First, Next, Wanted, joins, is_beyond}
use Rattle.plan_model.specs.Outcomes.{Pair, wanted_text, quoted_text, null_text, Outcome, result_of}

-- ---- a role's filter with other values in the places of its own: `change` is told the table and the column beside
-- which a value stands

abbrev pub Change : Type 0
Change = ℕ → ℕ → Operand → Operand

abbrev pub items_changed : (Operand → Operand) → Items → Items
items_changed f (items.Each operands) = items.Each (map f operands)
items_changed f (items.Var slot) = items.Var slot

abbrev pub changed_step : Change → Filter-F (ℕ → Filter) → ℕ → Filter
changed_step change (Filter-F.And parts) table = filter.And (map (λ (part : ℕ → Filter). part table) parts)
changed_step change (Filter-F.Or parts) table = filter.Or (map (λ (part : ℕ → Filter). part table) parts)
changed_step change (Filter-F.Not part) table = filter.Not (part table)
changed_step change (Filter-F.Cmp column op operand) table = filter.Cmp column op (change table column operand)
changed_step change (Filter-F.Among column negated items) table =
    filter.Among column negated (items_changed (change table column) items)
changed_step change (Filter-F.IsNull column want) table = filter.IsNull column want

abbrev pub changed : Change → ℕ → Filter → Filter
changed change table f = fold-Filter (ℕ → Filter) (changed_step change) f table

-- ---- conditions with the values themselves in their places

abbrev pub nothing_bound : Binding
nothing_bound = record { vars = []; session = []; cursor = val.Null }

-- the truth of such a condition is yes
abbrev pub passes : Filter → Row → Bool
passes f row = is_yes (truth_of nothing_bound f row)

module _ (m : Metadata) (q : Query) where
  abbrev pub view : View
  view = view_of m q

  -- the values of variables and literals
  abbrev pub values : Reader
  values = record {
    one = λ k x. Const (value_read q.variables k x);
    many = λ k x. items.Each (map Const (values_read q.variables k x));
  }

  abbrev pub session_value : SessionSlot → Val
  session_value s =
      unwrap_or (option_map (λ (x : SessionValue). x.value)
      (find (λ (x : SessionValue). is_eq (slot_cmp s x.slot)) q.session)) val.Null

  -- the values of session variables
  abbrev pub closing : Change
  closing table column (Sess slot) =
      Const (session_value (record { name = session_name view slot; kind = kind_of view table column }))
  closing table column (Const x) = Const x
  closing table column (Var slot) = Var slot

  abbrev pub permitted_by : ℕ → Row → Option Filter → Bool
  permitted_by table row (Some f) = passes (changed closing table f) row
  permitted_by table row None = true

  -- the role's filter of a table is yes, or there is none
  abbrev pub is_permitted : ℕ → Row → Bool
  is_permitted table row = permitted_by table row (filter_seen view table)

  -- `where` is yes
  abbrev pub is_asked : ℕ → List GPair → Row → Bool
  is_asked table args row = passes (where_filter view values table (argument (codes "where") args)) row

  abbrev pub column_equals : ℕ → Row → ℕ → Option GValue → Bool
  column_equals table row column (Some x) =
      is_yes (compared Eq (cell row column) (value_read q.variables (kind_of view table column) x))
  column_equals table row column None = false

  -- the key columns equal the arguments of their names
  abbrev pub has_key_given : ℕ → List GPair → Row → Bool
  has_key_given table args row =
      list_all (λ column. column_equals table row column (argument (column_name view table column) args))
      (key_columns view table)

  -- the argument of this name as a number, if one is given
  abbrev pub number_given : Text → List GPair → Option ℕ
  number_given name args = number_read q.variables (argument name args)

  abbrev pub list_extent : ℕ → List GPair → Extent
  list_extent table args =
      All (orders_in view table (argument (codes "order_by") args))
      (unwrap_or (number_given (codes "offset") args) 0) (number_given (codes "limit") args)

  -- the rows that a list, a row of a key and a stream want
  abbrev pub rows_wanted : ℕ → List GPair → Wanted
  rows_wanted table args = record {
    table = table;
    shown = λ row. is_asked table args row && is_permitted table row;
    extent = list_extent table args;
    cap = cap_seen view table;
  }

  abbrev pub row_wanted : ℕ → List GPair → Wanted
  row_wanted table args = record {
    table = table;
    shown = λ row. has_key_given table args row && is_permitted table row;
    extent = First;
    cap = None;
  }

  abbrev pub stream_wanted : Val → ℕ → List GPair → Wanted
  stream_wanted cursor table args =
      let column = initial_column view table args in
      record {
        table = table;
        shown = λ row.
            is_asked table args row && is_permitted table row && is_beyond (descends args) cursor (cell row column);
        extent = Next column (descends args) (unwrap_or (number_given (codes "batch_size") args) 0);
        cap = cap_seen view table;
      }

  -- those that a relationship wants, for a parent row
  abbrev pub link_wanted : LinkDef → List GPair → Row → Wanted
  link_wanted l args parent =
      if l.many then
      record {
        table = l.table;
        shown = λ row. joins l.from l.to parent row && is_asked l.table args row && is_permitted l.table row;
        extent = list_extent l.table args;
        cap = cap_seen view l.table;
      }
      else record {
        table = l.table;
        shown = λ row. joins l.from l.to parent row && is_permitted l.table row;
        extent = First;
        cap = None;
      }

  module _ (db : Database) where
    -- a column's value, the table's name, or what a relationship gives with this row as parent
    abbrev pub member_text : FlatField-F Pair → ℕ → Row → Meant → Text
    member_text f table row Typename = quoted_text (type_name view table)
    member_text f table row (AColumn column) = val_text (cell row column)
    member_text f table row (ALink l) = wanted_text db (link_wanted l f.args row) f.fields
    member_text f table row Unseen = null_text

    -- a field's key and value in the object of a row
    abbrev pub pair_step : FlatField-F Pair → Pair
    pair_step f table row = named_text (quoted_text f.key) (member_text f table row (meant view table f.name))

    abbrev pub pair_of : FlatField → Pair
    pair_of = fold-FlatField Pair pair_step

  -- the rows that the root field wants; none where there is no such field
  abbrev pub root_wanted : Val → Root → List GPair → Option Wanted
  root_wanted cursor (RowsOf table) args = Some (rows_wanted table args)
  root_wanted cursor (RowOf table) args = Some (row_wanted table args)
  root_wanted cursor (StreamOf table) args = Some (stream_wanted cursor table args)
  root_wanted cursor NoRoot args = None

  abbrev pub no_result : Outcome
  no_result = record { text = []; rows = 0; last = val.Null }

  abbrev pub result_by : Database → FlatField-F FlatField → Option Wanted → Outcome
  result_by db f (Some w) = result_of db f.key w (map (pair_of db) f.fields)
  result_by db f None = no_result

  abbrev pub field_result : Val → Database → FlatField → Outcome
  field_result cursor db f =
      let field = out-FlatField f in
      result_by db field (root_wanted cursor (root_of view q.selection.kind f) field.args)

  -- a query has one root field
  abbrev pub root_result : Val → Database → List FlatField → Outcome
  root_result cursor db (f ∷ []) = field_result cursor db f
  root_result cursor db [] = no_result
  root_result cursor db (f ∷ g ∷ fs) = no_result

  abbrev pub result : Val → Database → Outcome
  result cursor db = root_result cursor db q.selection.fields
