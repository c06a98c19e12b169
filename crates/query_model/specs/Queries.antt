-- Queries, the slots of their session variables, their bindings, pollers and cohorts. Cohorts are Hasura's ("Live
-- queries"); what makes two queries of one poller or cohort is this project's own.
use Rattle.std.specs.Prelude.{◌≡◌, ℕ, List, [], ◌∷◌, ◌++◌, map, flat_map, unwrap_or, Option, Some, None}
use Rattle.std.specs.Ordering.{nat_cmp, on, then_cmp}
use Rattle.std.specs.Cmp.Lexicographic.{slice_cmp}
use Rattle.std.specs.declared.cmp.Ordering.{Ordering}
use Rattle.scalar_val.specs.declared.val.Kind.{Kind}
use Rattle.scalar_val.specs.Values.{kind_rank}
use Rattle.scalar_val.specs.declared.val.Val.{Val}
use Rattle.plan_model.specs.declared.filter.Binding.{Binding}
use Rattle.plan_model.specs.declared.filter.Filter.{Filter}
use Rattle.plan_model.specs.declared.filter.Filter.TheOpen.{Filter-F}
use Rattle.plan_model.specs.declared.filter.Filter.TheFolds.{fold-Filter}
use Rattle.plan_model.specs.declared.filter.Items.{Items}
use Rattle.plan_model.specs.declared.filter.Items.TheVariants as items
use Rattle.plan_model.specs.declared.filter.Operand.{Operand}
use Rattle.plan_model.specs.declared.filter.Operand.TheVariants.{Const, Var, Sess}
use Rattle.role_model.specs.declared.metadata.Metadata.{Metadata}
use Rattle.role_model.specs.Roles.{View, filter_seen, session_name_seen}
use Rattle.request_model.specs.declared.document.GValue.{GValue}
use Rattle.request_model.specs.declared.document.GValue.TheOpen.{GValue-F, GPair-F}
use Rattle.request_model.specs.declared.document.GValue.TheFolds.{fold-GValue}
use Rattle.scalar_val.specs.declared.word.Word.{Word}
use Rattle.scalar_val.specs.declared.word.Word.TheVariants as word
use Rattle.request_model.specs.declared.flat.FlatField.{FlatField}
use Rattle.request_model.specs.declared.flat.FlatField.TheOpen.{FlatField-F}
use Rattle.request_model.specs.declared.flat.FlatField.TheViews.{out-FlatField}
use Rattle.request_model.specs.declared.flat.FlatField.TheFolds.{fold-FlatField}
use Rattle.request_model.specs.declared.flat.Flat.{Flat}
use Rattle.request_model.specs.Strings.{Text}
use Rattle.scalar_val.specs.Ordered.{distinct_in_order}
use Rattle.request_model.specs.Selection.{concatenated}
use Rattle.request_model.specs.Canonical.{canonical}
use Rattle.request_model.specs.SelectionLaws.{bare_argument}
use Rattle.query_model.specs.declared.session.SessionSlot.{SessionSlot}
use Rattle.query_model.specs.declared.session.SessionValue.{SessionValue}
use Rattle.query_model.specs.declared.variable.Variable.{Variable}
use Rattle.query_model.specs.declared.kind.SubKind.{SubKind}
use Rattle.query_model.specs.declared.kind.SubKind.TheVariants as sub
use Rattle.query_model.specs.Names.{Root, RowsOf, RowOf, StreamOf, NoRoot, Meant, Typename, AColumn, ALink, Unseen, meant, root_meant, kind_of, pair_value}
use Rattle.query_model.specs.declared.variable.Variable.{Variable}
use Rattle.query_model.specs.Variables.{variable_slot}

-- ---- slots of session variables

-- by name in bytes, and then by kind
abbrev pub slot_cmp : SessionSlot → SessionSlot → Ordering
slot_cmp =
    then_cmp (on (λ (s : SessionSlot). s.name) (slice_cmp nat_cmp))
    (on (λ (s : SessionSlot). kind_rank s.kind) nat_cmp)

abbrev pub session_name : View → ℕ → Text
session_name v slot = unwrap_or (session_name_seen v slot) []

module _ (v : View) where
  -- the slot that a value beside a column of a table names, if it names one
  abbrev pub slots_of : ℕ → ℕ → Operand → List SessionSlot
  slots_of table column (Sess slot) = record { name = session_name v slot; kind = kind_of v table column } ∷ []
  slots_of table column (Const x) = []
  slots_of table column (Var slot) = []

  abbrev pub item_slots : ℕ → ℕ → Items → List SessionSlot
  item_slots table column (items.Each operands) = flat_map (slots_of table column) operands
  item_slots table column (items.Var slot) = []

  -- the slots that a filter names on a table, at every occurrence
  abbrev pub filter_slots_step : Filter-F (ℕ → List SessionSlot) → ℕ → List SessionSlot
  filter_slots_step (Filter-F.And parts) table = flat_map (λ (part : ℕ → List SessionSlot). part table) parts
  filter_slots_step (Filter-F.Or parts) table = flat_map (λ (part : ℕ → List SessionSlot). part table) parts
  filter_slots_step (Filter-F.Not part) table = part table
  filter_slots_step (Filter-F.Cmp column op operand) table = slots_of table column operand
  filter_slots_step (Filter-F.Among column negated items) table = item_slots table column items
  filter_slots_step (Filter-F.IsNull column want) table = []

  abbrev pub filter_slots : Filter → ℕ → List SessionSlot
  filter_slots = fold-Filter (ℕ → List SessionSlot) filter_slots_step

  abbrev pub slots_by : ℕ → Option Filter → List SessionSlot
  slots_by table (Some f) = filter_slots f table
  slots_by table None = []

  -- those that the role's filter of a table names
  abbrev pub table_slots : ℕ → List SessionSlot
  table_slots table = slots_by table (filter_seen v table)

  abbrev pub tables_by : List (ℕ → List ℕ) → Meant → List ℕ
  tables_by inner (ALink l) = l.table ∷ flat_map (λ (g : ℕ → List ℕ). g l.table) inner
  tables_by inner Typename = []
  tables_by inner (AColumn column) = []
  tables_by inner Unseen = []

  -- the tables of the fields in an object of a table
  abbrev pub tables_step : FlatField-F (ℕ → List ℕ) → ℕ → List ℕ
  tables_step f table = tables_by f.fields (meant v table f.name)

  abbrev pub tables_below : ℕ → FlatField → List ℕ
  tables_below table f = fold-FlatField (ℕ → List ℕ) tables_step f table

  abbrev pub root_tables : Root → List FlatField → List ℕ
  root_tables (RowsOf table) fields = table ∷ flat_map (tables_below table) fields
  root_tables (RowOf table) fields = table ∷ flat_map (tables_below table) fields
  root_tables (StreamOf table) fields = table ∷ flat_map (tables_below table) fields
  root_tables NoRoot fields = []

  abbrev pub root_of : Word → FlatField → Root
  root_of w f = root_meant v w (out-FlatField f).name

  -- the distinct slots that the role's filters name on the tables of a selection, in order
  abbrev pub selection_slots : Flat → List SessionSlot
  selection_slots s =
      let tables = flat_map (λ f. root_tables (root_of s.kind f) (out-FlatField f).fields) s.fields in
      distinct_in_order slot_cmp (flat_map table_slots tables)

-- ---- queries

pub record Query : Type 0 where
  pub kind : SubKind
  pub role : Text
  pub selection : Flat
  pub variables : List Variable
  pub session : List SessionValue

abbrev pub view_of : Metadata → Query → View
view_of m q = record { metadata = m; role = q.role }

-- a stream is asked for at the root, and a query operation is answered once
abbrev pub kind_by : Word → Root → SubKind
kind_by word.Query root = sub.Once
kind_by word.Subscription (StreamOf table) = sub.Stream
kind_by word.Subscription (RowsOf table) = sub.Live
kind_by word.Subscription (RowOf table) = sub.Live
kind_by word.Subscription NoRoot = sub.Live

-- ---- bindings

abbrev pub value_names_step : GValue-F (List Text) (List Text) → List Text
value_names_step (GValue-F.Var name) = name ∷ []
value_names_step (GValue-F.Many items) = concatenated items
value_names_step (GValue-F.Object pairs) = concatenated pairs
value_names_step _ = []

abbrev pub pair_names_step : GPair-F (List Text) (List Text) → List Text
pair_names_step p = p.value

abbrev pub value_names : GValue → List Text
value_names = fold-GValue (List Text) (List Text) value_names_step pair_names_step

abbrev pub field_names_step : FlatField-F (List Text) → List Text
field_names_step f = flat_map (λ p. value_names (pair_value (bare_argument p))) f.args ++ concatenated f.fields

-- the variables that stand in the canonical text, in order of name; a cursor's initial value doesn't stand there
abbrev pub text_variables : Flat → List Text
text_variables s =
    distinct_in_order (slice_cmp nat_cmp) (flat_map (fold-FlatField (List Text) field_names_step) s.fields)

-- the values of those variables, then those of the session slots, and for a stream the cursor, which else is null
abbrev pub binding_of : Query → Val → Binding
binding_of q cursor = record {
  vars = map (variable_slot q.variables) (text_variables q.selection);
  session = map (λ (s : SessionValue). s.value) q.session;
  cursor = cursor;
}

-- ---- pollers and cohorts

pub record SamePoller (p q : Query) : Type 0 where
  pub word : p.selection.kind ≡ q.selection.kind
  pub role : p.role ≡ q.role
  pub text : canonical p.selection ≡ canonical q.selection

-- with their cursors
pub record SameCohort (p : Query) (a : Val) (q : Query) (b : Val) : Type 0 where
  pub poller : SamePoller p q
  pub binding : binding_of p a ≡ binding_of q b
