-- What names mean to a role: the fields of the root and of a table's objects, as Hasura's schemas have them, and the
-- arguments and literals of a field.
use Rattle.std.specs.Prelude.{ℕ, Bool, false, ◌++◌, List, [], ◌∷◌, if◌then◌else◌, unwrap_or, Option, Some, None, option_map, option_and_then, codes, slice_get, position, find}
use Rattle.std.specs.Str.{bytes_eq}
use Rattle.scalar_val.specs.declared.val.Kind.{Kind}
use Rattle.scalar_val.specs.declared.val.Kind.TheVariants as kind
use Rattle.scalar_val.specs.declared.val.Val.{Val}
use Rattle.scalar_val.specs.declared.val.Val.TheVariants as val
use Rattle.scalar_val.specs.Spellings.{spelled, fitted}
use Rattle.data_model.specs.declared.catalog.Column.{Column}
use Rattle.data_model.specs.declared.catalog.TableDef.{TableDef}
use Rattle.role_model.specs.declared.metadata.LinkDef.{LinkDef}
use Rattle.role_model.specs.Roles.{View, only_if, table_at, sees_table, table_seen, column_seen, link_seen, key_seen}
use Rattle.scalar_val.specs.Values.{is_null}
use Rattle.request_model.specs.declared.document.GValue.{GValue}
use Rattle.request_model.specs.declared.document.GValue.TheOpen.{GValue-F}
use Rattle.request_model.specs.declared.document.GValue.TheViews.{out-GValue, out-GPair}
use Rattle.request_model.specs.declared.document.GPair.{GPair}
use Rattle.scalar_val.specs.declared.word.Word.{Word}
use Rattle.scalar_val.specs.declared.word.Word.TheVariants as word
use Rattle.request_model.specs.Strings.{Text}

-- ---- tables

abbrev pub name_in : Option TableDef → Text
name_in (Some t) = t.name
name_in None = []

-- an object's type name is its table's name
abbrev pub type_name : View → ℕ → Text
type_name v table = name_in (table_at v table)

abbrev pub columns_in : Option TableDef → List Column
columns_in (Some t) = t.columns
columns_in None = []

abbrev pub columns_of : View → ℕ → List Column
columns_of v table = columns_in (table_at v table)

abbrev pub key_in : Option TableDef → List ℕ
key_in (Some t) = t.key
key_in None = []

abbrev pub key_columns : View → ℕ → List ℕ
key_columns v table = key_in (table_at v table)

abbrev pub column_at : View → ℕ → ℕ → Option Column
column_at v table column = slice_get (columns_of v table) column

abbrev pub kind_in : Option Column → Kind
kind_in (Some c) = c.kind
kind_in None = kind.Text

abbrev pub kind_of : View → ℕ → ℕ → Kind
kind_of v table column = kind_in (column_at v table column)

abbrev pub column_name_in : Option Column → Text
column_name_in (Some c) = c.name
column_name_in None = []

abbrev pub column_name : View → ℕ → ℕ → Text
column_name v table column = column_name_in (column_at v table column)

-- ---- the fields of an object

pub data Meant : Type 0 where
  Typename : Meant
  AColumn : (column : ℕ) → Meant
  ALink : (link : LinkDef) → Meant
  Unseen : Meant

abbrev pub link_or_none : Option LinkDef → Meant
link_or_none (Some l) = ALink l
link_or_none None = Unseen

abbrev pub column_or : Option ℕ → Meant → Meant
column_or (Some column) other = AColumn column
column_or None other = other

abbrev pub meant : View → ℕ → Text → Meant
meant v table name =
    if bytes_eq name (codes "__typename") then Typename
    else column_or (column_seen v table name) (link_or_none (link_seen v table name))

-- ---- the fields of the root

-- the rows of a table, the row of a key, and the next rows along a cursor
pub data Root : Type 0 where
  RowsOf : (table : ℕ) → Root
  RowOf : (table : ℕ) → Root
  StreamOf : (table : ℕ) → Root
  NoRoot : Root

abbrev pub table_called : View → Text → Text → Option ℕ
table_called v suffix name =
    option_and_then (λ table. only_if (sees_table v table) (Some table))
    (position (λ (t : TableDef). bytes_eq name (t.name ++ suffix)) v.metadata.catalog.tables)

abbrev pub table_by_key : View → Text → Option ℕ
table_by_key v name =
    option_and_then (λ table. only_if (key_seen v table) (Some table)) (table_called v (codes "_by_pk") name)

abbrev pub table_streamed : View → Word → Text → Option ℕ
table_streamed v word.Subscription name = table_called v (codes "_stream") name
table_streamed v word.Query name = None

abbrev pub root_or : (ℕ → Root) → Option ℕ → Root → Root
root_or made (Some table) other = made table
root_or made None other = other

-- `T`, `T_by_pk` where the role sees the whole key, and for subscriptions `T_stream`, for each table T that it sees
abbrev pub root_meant : View → Word → Text → Root
root_meant v w name =
    root_or RowsOf (table_seen v name)
    (root_or RowOf (table_by_key v name) (root_or StreamOf (table_streamed v w name) NoRoot))

abbrev pub root_type : Word → Text
root_type word.Query = codes "query_root"
root_type word.Subscription = codes "subscription_root"

-- ---- arguments and literals

abbrev pub pair_name : GPair → Text
pair_name p = (out-GPair p).name

abbrev pub pair_value : GPair → GValue
pair_value p = (out-GPair p).value

-- the value of the argument, or of the key of an object, of this name
abbrev pub argument : Text → List GPair → Option GValue
argument name args = option_map pair_value (find (λ p. bytes_eq name (pair_name p)) args)

-- null, or what a literal gives before it is fitted to a kind: a boolean, an integer of 64 bits or a string
abbrev pub literal_by : GValue-F GValue GPair → Option Val
literal_by GValue-F.Null = Some val.Null
literal_by (GValue-F.Bool b) = Some (val.Bool b)
literal_by (GValue-F.Int digits) = spelled kind.Big digits
literal_by (GValue-F.Text s) = Some (val.Text s)
literal_by _ = None

abbrev pub literal : GValue → Option Val
literal x = literal_by (out-GValue x)

-- null, or the value of this kind
abbrev pub null_or_fitted : Kind → Val → Option Val
null_or_fitted k x = if is_null x then Some val.Null else fitted k x

-- the value of this kind that a literal is; null where it is none
abbrev pub literal_value : Kind → GValue → Val
literal_value k x = unwrap_or (option_and_then (null_or_fitted k) (literal x)) val.Null

abbrev pub variable_by : GValue-F GValue GPair → Option Text
variable_by (GValue-F.Var name) = Some name
variable_by _ = None

-- the name of the variable that a value is
abbrev pub variable_in : GValue → Option Text
variable_in x = variable_by (out-GValue x)

abbrev pub pairs_by : GValue-F GValue GPair → List GPair
pairs_by (GValue-F.Object pairs) = pairs
pairs_by _ = []

-- the pairs of an object
abbrev pub pairs_in : GValue → List GPair
pairs_in x = pairs_by (out-GValue x)

abbrev pub items_by : GValue → GValue-F GValue GPair → List GValue
items_by x (GValue-F.Many items) = items
items_by x _ = x ∷ []

-- the items of a list, or else the value alone
abbrev pub items_in : GValue → List GValue
items_in x = items_by x (out-GValue x)

abbrev pub enum_by : GValue-F GValue GPair → Option Text
enum_by (GValue-F.Enum name) = Some name
enum_by _ = None

-- the name of the enum that a value is
abbrev pub enum_in : GValue → Option Text
enum_in x = enum_by (out-GValue x)

-- ---- a stream's cursor: an object, or a list of one

abbrev pub pairs_of_first : Option (List GValue) → List GPair
pairs_of_first (Some (x ∷ xs)) = pairs_in x
pairs_of_first (Some []) = []
pairs_of_first None = []

abbrev pub cursor_pairs : List GPair → List GPair
cursor_pairs args = pairs_of_first (option_map items_in (argument (codes "cursor") args))

abbrev pub pairs_or_none : Option GValue → List GPair
pairs_or_none (Some x) = pairs_in x
pairs_or_none None = []

abbrev pub first_pair : List GPair → Option GPair
first_pair (p ∷ ps) = Some p
first_pair [] = None

-- the pair of a column and the initial value
abbrev pub initial_pair : List GPair → Option GPair
initial_pair args = first_pair (pairs_or_none (argument (codes "initial_value") (cursor_pairs args)))

-- the column of the stream
abbrev pub initial_column : View → ℕ → List GPair → ℕ
initial_column v table args = unwrap_or (option_and_then (λ p. column_seen v table (pair_name p)) (initial_pair args)) 0

abbrev pub is_desc : Option Text → Bool
is_desc (Some name) = bytes_eq name (codes "DESC")
is_desc None = false

-- the stream goes down where the ordering is `DESC`, and else up
abbrev pub descends : List GPair → Bool
descends args = is_desc (option_and_then enum_in (argument (codes "ordering") (cursor_pairs args)))
