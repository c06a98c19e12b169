-- The filters that metadata writes in JSON, with the operators of Hasura's boolean expressions. Which forms are
-- allowed is this project's own.
use Rattle.std.specs.Prelude.{ℕ, Bool, true, false, ◌∷◌, [], ◌++◌, List, if◌then◌else◌, nat_eq, is_some, unwrap_or}
use Rattle.std.specs.Prelude.{Option, Some, None, option_map, option_and_then, slice_get, codes, position}
use Rattle.std.specs.List.{fold, list_any, starts_with}
use Rattle.std.specs.Str.{bytes_eq, str_to_ascii_lowercase}
use Rattle.serde_json.specs.Data as json
use Rattle.serde_json.specs.Find.{as_i64, as_bool}
use Rattle.scalar_val.specs.declared.val.Kind.{Kind}
use Rattle.scalar_val.specs.declared.val.Val.{Val}
use Rattle.scalar_val.specs.declared.val.Val.TheVariants as val
use Rattle.scalar_val.specs.Spellings.{fitted}
use Rattle.data_model.specs.JsonParts.{scalar_of}
use Rattle.data_model.specs.declared.catalog.Column.{Column}
use Rattle.plan_model.specs.declared.filter.Filter.{Filter}
use Rattle.plan_model.specs.declared.filter.Filter.TheVariants.{And, Or, Not, Cmp, Among, IsNull}
use Rattle.plan_model.specs.declared.filter.Items.TheVariants.{Each}
use Rattle.plan_model.specs.declared.filter.Op.{Op}
use Rattle.plan_model.specs.declared.filter.Op.TheVariants.{Eq, Neq, Gt, Gte, Lt, Lte}
use Rattle.plan_model.specs.declared.filter.Operand.{Operand}
use Rattle.plan_model.specs.declared.filter.Operand.TheVariants.{Const, Sess}
use Rattle.role_model.specs.Texts.{Text}

-- the first item and the others, where both are there
abbrev pub with_first : {A : Type 0} → Option A → Option (List A) → Option (List A)
with_first first others = option_and_then (λ x. option_map (λ xs. x ∷ xs) others) first

-- what f makes of each, where it makes something of all
abbrev pub of_each : {A : Type 0} → (json.Data → Option A) → json.Items → Option (List A)
of_each f json.no_items = Some []
of_each f (json.item d ds) = with_first (f d) (of_each f ds)

abbrev pub of_each_member : {A : Type 0} → (Text → json.Data → Option A) → json.Members → Option (List A)
of_each_member f json.no_members = Some []
of_each_member f (json.member k d ms) = with_first (f k d) (of_each_member f ms)

-- A string that begins with `x-hasura-`, in any case of letters, names a session variable. The name is in lower case.

abbrev pub names_session : Text → Bool
names_session text = starts_with nat_eq (str_to_ascii_lowercase text) (codes "x-hasura-")

abbrev pub session_variable : json.Data → Option Text
session_variable (json.string s) = if names_session s then Some (str_to_ascii_lowercase s) else None
session_variable _ = None

-- the session variables that a filter names: all of its strings that do so
abbrev mutual
  pub mentions : json.Data → List Text
  mentions (json.string s) = if names_session s then str_to_ascii_lowercase s ∷ [] else []
  mentions (json.array ds) = mentions_of_items ds
  mentions (json.object ms) = mentions_of_members ms
  mentions _ = []

  pub mentions_of_items : json.Items → List Text
  mentions_of_items json.no_items = []
  mentions_of_items (json.item d ds) = mentions d ++ mentions_of_items ds

  pub mentions_of_members : json.Members → List Text
  mentions_of_members json.no_members = []
  mentions_of_members (json.member k d ms) = mentions d ++ mentions_of_members ms

-- a list without the texts that stood there before
abbrev pub with_text : List Text → Text → List Text
with_text found text = if list_any (bytes_eq text) found then found else found ++ text ∷ []

abbrev pub distinct : List Text → List Text
distinct = fold with_text []

-- the slot of a session variable is its place among these names
abbrev pub slot_of : List Text → Text → ℕ
slot_of names name = unwrap_or (position (bytes_eq name) names) 0

-- a value of the column's kind, written there
abbrev pub constant : Kind → json.Data → Option Operand
constant kind d = option_map Const (option_and_then (fitted kind) (scalar_of d))

-- one value: a session variable, or a value of the column's kind
abbrev pub operand_by : List Text → Kind → json.Data → Option Text → Option Operand
operand_by names kind d (Some name) = Some (Sess (slot_of names name))
operand_by names kind d None = constant kind d

abbrev pub operand_of : List Text → Kind → json.Data → Option Operand
operand_of names kind d = operand_by names kind d (session_variable d)

-- in a list of values there is no session variable
unfoldable pub item_of : Kind → json.Data → Option Operand
item_of kind d = if is_some (session_variable d) then None else constant kind d

abbrev pub items_of : Kind → json.Data → Option (List Operand)
items_of kind (json.array ds) = of_each (item_of kind) ds
items_of kind _ = None

abbrev pub op_named : Text → Option Op
op_named name =
    if bytes_eq name (codes "_eq") then Some Eq
    else if bytes_eq name (codes "_neq") then Some Neq
    else if bytes_eq name (codes "_gt") then Some Gt
    else if bytes_eq name (codes "_gte") then Some Gte
    else if bytes_eq name (codes "_lt") then Some Lt
    else if bytes_eq name (codes "_lte") then Some Lte
    else None

-- one operator of a column, with its value
unfoldable pub operator_of : List Text → ℕ → Kind → Text → json.Data → Option Filter
operator_of names column kind name d =
    if bytes_eq name (codes "_in") then option_map (λ xs. Among column false (Each xs)) (items_of kind d)
    else if bytes_eq name (codes "_nin") then option_map (λ xs. Among column true (Each xs)) (items_of kind d)
    else if bytes_eq name (codes "_is_null") then option_map (λ b. IsNull column (Const (val.Bool b))) (as_bool d)
    else option_and_then (λ op. option_map (Cmp column op) (operand_of names kind d)) (op_named name)

-- an object of operators, joined by and
abbrev pub operators_of : List Text → ℕ → Kind → json.Data → Option Filter
operators_of names column kind (json.object ms) = option_map And (of_each_member (operator_of names column kind) ms)
operators_of names column kind _ = None

abbrev pub column_number : List Column → Text → Option ℕ
column_number columns name = position (λ c. bytes_eq name c.name) columns

-- a column of the table by its name, with an object of operators
abbrev pub condition_on : List Text → json.Data → ℕ → Option Column → Option Filter
condition_on names d number (Some column) = operators_of names number column.kind d
condition_on names d number None = None

unfoldable pub column_condition : List Column → List Text → Text → json.Data → Option Filter
column_condition columns names name d =
    option_and_then (λ number. condition_on names d number (slice_get columns number)) (column_number columns name)

-- A pair of a filter: `_and` and `_or` have a list of filters, `_not` has one, and any other key is a column.
-- `one` and `many` are the value as a filter and as a list of filters, `other` is what it says of the column.
unfoldable pub pair_of : Text → Option Filter → Option (List Filter) → Option Filter → Option Filter
pair_of name one many other =
    if bytes_eq name (codes "_and") then option_map And many
    else if bytes_eq name (codes "_or") then option_map Or many
    else if bytes_eq name (codes "_not") then option_map Not one
    else other

-- the filter that a JSON value is, over these columns and with the slots of these session variables
module _ (columns : List Column) (names : List Text) where
  abbrev mutual
    pub filter_of : json.Data → Option Filter
    filter_of (json.object ms) = option_map And (pairs_of ms)
    filter_of _ = None

    pub filters_of : json.Data → Option (List Filter)
    filters_of (json.array ds) = filters_of_items ds
    filters_of _ = None

    pub filters_of_items : json.Items → Option (List Filter)
    filters_of_items json.no_items = Some []
    filters_of_items (json.item d ds) = with_first (filter_of d) (filters_of_items ds)

    pub pairs_of : json.Members → Option (List Filter)
    pairs_of json.no_members = Some []
    pairs_of (json.member k d ms) =
        with_first (pair_of k (filter_of d) (filters_of d) (column_condition columns names k d)) (pairs_of ms)
