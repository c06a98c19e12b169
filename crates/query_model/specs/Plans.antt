-- The plan of a selection for a role: conditions, relationships and counts with slots for the values of variables and
-- session variables. This project's own.
use Rattle.std.specs.Prelude.{ℕ, if◌then◌else◌, List, [], ◌∷◌, ◌++◌, map, unwrap_or, option_map, Option, Some, None, codes, position}
use Rattle.std.specs.Ordering.{is_eq}
use Rattle.scalar_val.specs.declared.val.Kind.{Kind}
use Rattle.scalar_val.specs.declared.val.Kind.TheVariants as kind
use Rattle.scalar_val.specs.declared.val.Val.TheVariants as val
use Rattle.data_model.specs.declared.catalog.TableDef.{TableDef}
use Rattle.plan_model.specs.declared.filter.Filter.{Filter}
use Rattle.plan_model.specs.declared.filter.Filter.TheVariants as filter
use Rattle.plan_model.specs.declared.filter.Items.{Items}
use Rattle.plan_model.specs.declared.filter.Items.TheVariants as items
use Rattle.plan_model.specs.declared.filter.Op.TheVariants.{Eq}
use Rattle.plan_model.specs.declared.filter.Operand.{Operand}
use Rattle.plan_model.specs.declared.filter.Operand.TheVariants.{Const, Var, Sess}
use Rattle.plan_model.specs.declared.plan.Shape.TheVariants as shape
use Rattle.plan_model.specs.declared.plan.Field.{Field}
use Rattle.plan_model.specs.declared.plan.Field.TheVariants as field
use Rattle.plan_model.specs.declared.plan.Field.TheViews.{roll-Select}
use Rattle.plan_model.specs.declared.plan.Select.{Select}
use Rattle.plan_model.specs.declared.plan.Plan.{Plan}
use Rattle.role_model.specs.declared.metadata.LinkDef.{LinkDef}
use Rattle.role_model.specs.JsonFilters.{slot_of}
use Rattle.role_model.specs.Roles.{View, filter_seen, cap_seen}
use Rattle.request_model.specs.declared.document.GValue.{GValue}
use Rattle.request_model.specs.declared.document.GPair.{GPair}
use Rattle.request_model.specs.declared.flat.FlatField.{FlatField}
use Rattle.request_model.specs.declared.flat.FlatField.TheOpen.{FlatField-F}
use Rattle.request_model.specs.declared.flat.FlatField.TheViews.{out-FlatField}
use Rattle.request_model.specs.declared.flat.FlatField.TheFolds.{fold-FlatField}
use Rattle.request_model.specs.declared.flat.Flat.{Flat}
use Rattle.request_model.specs.Strings.{Text}
use Rattle.query_model.specs.Names.{Root, RowsOf, RowOf, StreamOf, NoRoot, Meant, Typename, AColumn, ALink, Unseen, meant, key_columns, column_name, kind_of, argument, literal_value, variable_in, items_in, initial_column, descends}
use Rattle.query_model.specs.Conditions.{Reader, where_filter, orders_in}
use Rattle.query_model.specs.ValueFaults.{is_null_literal}
use Rattle.query_model.specs.declared.session.SessionSlot.{SessionSlot}
use Rattle.query_model.specs.Queries.{slot_cmp, session_name, root_of, selection_slots, text_variables}
use Rattle.query_model.specs.Results.{Change, changed}

-- A selection that isn't admitted may lack an argument, or have a field that the role doesn't see. These stand in the
-- places of such; an admitted selection has no place for them.
abbrev pub unadmitted_field : Text → Field
unadmitted_field key = field.Typename key

abbrev pub unadmitted_condition : Filter
unadmitted_condition = filter.Or []

abbrev pub unadmitted_operand : Operand
unadmitted_operand = Const val.Null

module _ (v : View) (names : List Text) (slots : List SessionSlot) where
  abbrev pub operand_by : Operand → Option Text → Operand
  operand_by other (Some name) = Var (slot_of names name)
  operand_by other None = other

  -- the slot of a variable is its place among those of the canonical text
  abbrev pub operand_of : Kind → GValue → Operand
  operand_of k x = operand_by (Const (literal_value k x)) (variable_in x)

  abbrev pub items_or : Items → Option Text → Items
  items_or others (Some name) = items.Var (slot_of names name)
  items_or others None = others

  abbrev pub items_of : Kind → GValue → Items
  items_of k x = items_or (items.Each (map (operand_of k) (items_in x))) (variable_in x)

  abbrev pub operands : Reader
  operands = record { one = operand_of; many = items_of }

  -- the slot of a session variable is its place among those of the selection, which has each that a filter names
  abbrev pub place_of : SessionSlot → ℕ
  place_of slot = unwrap_or (position (λ s. is_eq (slot_cmp slot s)) slots) 0

  abbrev pub slotting : Change
  slotting table column (Sess slot) =
      Sess (place_of (record { name = session_name v slot; kind = kind_of v table column }))
  slotting table column (Const x) = Const x
  slotting table column (Var slot) = Var slot

  abbrev pub permission_by : ℕ → Option Filter → List Filter
  permission_by table (Some f) = changed slotting table f ∷ []
  permission_by table None = []

  -- the role's filter of a table, if there is one
  abbrev pub permission : ℕ → List Filter
  permission table = permission_by table (filter_seen v table)

  -- null is as if the argument weren't there
  abbrev pub count_operand : Option GValue → Option Operand
  count_operand (Some x) = if is_null_literal x then None else Some (operand_of kind.Int x)
  count_operand None = None

  abbrev pub list_select : ℕ → List GPair → List Field → Select
  list_select table args fields = roll-Select (record {
    table = table;
    shape = shape.List;
    filter = filter.And (where_filter v operands table (argument (codes "where") args) ∷ permission table);
    order = orders_in v table (argument (codes "order_by") args);
    limit = count_operand (argument (codes "limit") args);
    offset = count_operand (argument (codes "offset") args);
    cap = cap_seen v table;
    fields = fields;
  })

  abbrev pub one_select : ℕ → List Filter → List Field → Select
  one_select table conditions fields = roll-Select (record {
    table = table;
    shape = shape.One;
    filter = filter.And (conditions ++ permission table);
    order = [];
    limit = None;
    offset = None;
    cap = None;
    fields = fields;
  })

  abbrev pub column_condition : ℕ → ℕ → Option GValue → Filter
  column_condition table column (Some x) = filter.Cmp column Eq (operand_of (kind_of v table column) x)
  column_condition table column None = unadmitted_condition

  -- a key column equals the argument of its name
  abbrev pub key_condition : ℕ → List GPair → ℕ → Filter
  key_condition table args column = column_condition table column (argument (column_name v table column) args)

  abbrev pub batch_operand : Option GValue → Operand
  batch_operand (Some x) = operand_of kind.Int x
  batch_operand None = unadmitted_operand

  abbrev pub stream_select : ℕ → List GPair → List Field → Select
  stream_select table args fields = roll-Select (record {
    table = table;
    shape =
        shape.Stream (initial_column v table args) (descends args) (batch_operand (argument (codes "batch_size") args));
    filter = filter.And (where_filter v operands table (argument (codes "where") args) ∷ permission table);
    order = [];
    limit = None;
    offset = None;
    cap = cap_seen v table;
    fields = fields;
  })

  abbrev pub link_select : LinkDef → List GPair → List Field → Select
  link_select l args fields = if l.many then list_select l.table args fields else one_select l.table [] fields

  abbrev pub link_field : Text → LinkDef → List GPair → List (ℕ → Field) → Field
  link_field key l args fields =
      field.Link key l.from l.to (link_select l args (map (λ (g : ℕ → Field). g l.table) fields))

  abbrev pub meant_field : FlatField-F (ℕ → Field) → Meant → Field
  meant_field f Typename = field.Typename f.key
  meant_field f (AColumn column) = field.Column f.key column
  meant_field f (ALink l) = link_field f.key l f.args f.fields
  meant_field f Unseen = unadmitted_field f.key

  -- a field in an object of a table
  abbrev pub plan_step : FlatField-F (ℕ → Field) → ℕ → Field
  plan_step f table = meant_field f (meant v table f.name)

  abbrev pub plan_field : ℕ → FlatField → Field
  plan_field table f = fold-FlatField (ℕ → Field) plan_step f table

  abbrev pub root_select : Root → FlatField-F FlatField → Option Select
  root_select (RowsOf table) f = Some (list_select table f.args (map (plan_field table) f.fields))
  root_select (RowOf table) f =
      Some (one_select table (map (key_condition table f.args) (key_columns v table)) (map (plan_field table) f.fields))
  root_select (StreamOf table) f = Some (stream_select table f.args (map (plan_field table) f.fields))
  root_select NoRoot f = None

abbrev pub table_names : View → List Text
table_names v = map (λ (t : TableDef). t.name) v.metadata.catalog.tables

abbrev pub plan_with : View → Text → Select → Plan
plan_with v key root = record { key = key; names = table_names v; root = root }

abbrev pub field_plan : View → Flat → FlatField → Option Plan
field_plan v s f =
    option_map (plan_with v (out-FlatField f).key)
    (root_select v (text_variables s) (selection_slots v s) (root_of v s.kind f) (out-FlatField f))

abbrev pub root_plan : View → Flat → List FlatField → Option Plan
root_plan v s (f ∷ []) = field_plan v s f
root_plan v s [] = None
root_plan v s (f ∷ g ∷ fs) = None

-- The plan is made of the metadata, the role and the selection alone. There is one where the root has one field, which
-- the role sees.
abbrev pub plan_of : View → Flat → Option Plan
plan_of v s = root_plan v s s.fields
