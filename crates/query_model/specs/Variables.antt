-- The variables of an operation and their values: GraphQL October 2021, sections 2.10 and 6.1.2. The types that are
-- served, and the codes of refusals, are this project's own.
use Rattle.std.specs.Prelude.{ℕ, pos, find, Bool, true, false, ◌&&◌, List, [], ◌∷◌, map, if◌then◌else◌, Option, Some, None, option_map, option_and_then, Result, Ok, Err, codes}
use Rattle.std.specs.Str.{bytes_eq}
use Rattle.serde_json.specs.Data.{Data, array, Items, no_items, item, Members}
use Rattle.serde_json.specs.Find.{get_member}
use Rattle.scalar_val.specs.declared.val.Kind.{Kind}
use Rattle.scalar_val.specs.declared.val.Kind.TheVariants as kind
use Rattle.scalar_val.specs.declared.val.Val.{Val}
use Rattle.scalar_val.specs.declared.val.Val.TheVariants as val
use Rattle.scalar_val.specs.Spellings.{fitted}
use Rattle.data_model.specs.JsonParts.{scalar_or_null}
use Rattle.plan_model.specs.declared.filter.Slot.{Slot}
use Rattle.plan_model.specs.declared.filter.Slot.TheVariants.{One, Many}
use Rattle.scalar_val.specs.Values.{is_null}
use Rattle.plan_model.specs.Values.{one_value, many_values}
use Rattle.plan_model.specs.Values.{number_in}
use Rattle.request_model.specs.declared.document.GValue.{GValue}
use Rattle.request_model.specs.declared.document.GValue.TheOpen.{GValue-F}
use Rattle.request_model.specs.declared.document.GValue.TheViews.{out-GValue}
use Rattle.request_model.specs.declared.document.GPair.{GPair}
use Rattle.request_model.specs.declared.document.TypeRef.{TypeRef}
use Rattle.request_model.specs.declared.document.TypeRef.TheOpen.{TypeRef-F}
use Rattle.request_model.specs.declared.document.TypeRef.TheViews.{out-TypeRef}
use Rattle.request_model.specs.declared.document.VarDef.{VarDef}
use Rattle.request_model.specs.Strings.{Text}
use Rattle.query_model.specs.declared.variable.VarType.{VarType}
use Rattle.query_model.specs.declared.variable.Variable.{Variable}
use Rattle.query_model.specs.declared.fault.FaultKind.{FaultKind}
use Rattle.query_model.specs.declared.fault.FaultKind.TheVariants as fault
use Rattle.query_model.specs.Names.{literal, literal_value, null_or_fitted, variable_in, items_in}

-- ---- types: a kind, or a list of a kind, each with or without `!`

abbrev pub kind_named : Text → Option Kind
kind_named name =
    if bytes_eq name (codes "Boolean") then Some kind.Bool
    else if bytes_eq name (codes "Int") then Some kind.Int
    else if bytes_eq name (codes "bigint") then Some kind.Big
    else if bytes_eq name (codes "String") then Some kind.Text
    else if bytes_eq name (codes "uuid") then Some kind.Uuid
    else None

abbrev pub single_type : Text → Bool → Option VarType
single_type name strict =
    option_map (λ k. record { kind = k; listed = false; strict = strict; strict_item = false }) (kind_named name)

-- the list of a kind's type
abbrev pub list_type : Bool → VarType → VarType
list_type strict t = record { kind = t.kind; listed = true; strict = strict; strict_item = t.strict }

-- a list of lists isn't served
abbrev pub item_type_by : TypeRef-F TypeRef → Option VarType
item_type_by (TypeRef-F.Named name strict) = single_type name strict
item_type_by (TypeRef-F.Listed inner strict) = None

abbrev pub type_by : TypeRef-F TypeRef → Option VarType
type_by (TypeRef-F.Named name strict) = single_type name strict
type_by (TypeRef-F.Listed inner strict) = option_map (list_type strict) (item_type_by (out-TypeRef inner))

abbrev pub type_of : TypeRef → Option VarType
type_of x = type_by (out-TypeRef x)

-- ---- what is given: one value or a list of values, each null, a scalar, or nothing that may stand here

pub data Input : Type 0 where
  Single : Option Val → Input
  Several : List (Option Val) → Input

abbrev pub json_items : Items → List (Option Val)
json_items no_items = []
json_items (item d ds) = scalar_or_null d ∷ json_items ds

abbrev pub json_input : Data → Input
json_input (array ds) = Several (json_items ds)
json_input d = Single (scalar_or_null d)

abbrev pub literal_input_by : Input → GValue-F GValue GPair → Input
literal_input_by other (GValue-F.Many items) = Several (map literal items)
literal_input_by other _ = other

abbrev pub literal_input : GValue → Input
literal_input x = literal_input_by (Single (literal x)) (out-GValue x)

-- ---- values: of a list type a list, and null where the list is null

abbrev pub null_unless : Bool → Result Slot FaultKind
null_unless true = Err fault.MissingVariable
null_unless false = Ok (One val.Null)

abbrev pub or_wrong : Option Slot → Result Slot FaultKind
or_wrong (Some s) = Ok s
or_wrong None = Err fault.WrongType

abbrev pub as_list : Bool → Val → Slot
as_list true x = Many (x ∷ [])
as_list false x = One x

-- one value stands for a list of one, but null for a null list
abbrev pub single_value : VarType → Option Val → Result Slot FaultKind
single_value t None = Err fault.WrongType
single_value t (Some x) =
    if is_null x then null_unless t.strict else or_wrong (option_map (as_list t.listed) (fitted t.kind x))

abbrev pub item_value : VarType → Val → Option Val
item_value t x = if is_null x && t.strict_item then None else null_or_fitted t.kind x

abbrev pub item_values : VarType → List (Option Val) → Option (List Val)
item_values t [] = Some []
item_values t (x ∷ xs) =
    option_and_then (λ y. option_map (λ ys. y ∷ ys) (item_values t xs)) (option_and_then (item_value t) x)

abbrev pub input_value : VarType → Input → Result Slot FaultKind
input_value t (Single x) = single_value t x
input_value t (Several xs) = if t.listed then or_wrong (option_map Many (item_values t xs)) else Err fault.WrongType

-- the value that is given counts, else the default, else null
abbrev pub default_input : Option GValue → Input
default_input (Some x) = literal_input x
default_input None = Single (Some val.Null)

abbrev pub counted : Option Data → Option GValue → Input
counted (Some d) default = json_input d
counted None default = default_input default

abbrev pub with_value : Text → VarType → Result Slot FaultKind → Result Variable FaultKind
with_value name t (Ok s) = Ok (record { name = name; type_ = t; value = s })
with_value name t (Err e) = Err e

abbrev pub typed_variable : Text → Input → Option VarType → Result Variable FaultKind
typed_variable name given (Some t) = with_value name t (input_value t given)
typed_variable name given None = Err fault.WrongType

abbrev pub variable_of : Members → VarDef → Result Variable FaultKind
variable_of values x = typed_variable x.name (counted (get_member x.name values) x.default) (type_of x.kind)

-- ---- the values that a literal or a variable stands for, where it may stand; else null

abbrev pub variable_named : List Variable → Text → Option Variable
variable_named vs name = find (λ (x : Variable). bytes_eq name x.name) vs

abbrev pub slot_in : Option Variable → Slot
slot_in (Some x) = x.value
slot_in None = One val.Null

abbrev pub variable_slot : List Variable → Text → Slot
variable_slot vs name = slot_in (variable_named vs name)

module _ (vs : List Variable) where
  abbrev pub value_by : Val → Option Text → Val
  value_by other (Some name) = one_value (Some (variable_slot vs name))
  value_by other None = other

  -- one value of a kind
  abbrev pub value_read : Kind → GValue → Val
  value_read k x = value_by (literal_value k x) (variable_in x)

  abbrev pub values_by : List Val → Option Text → List Val
  values_by others (Some name) = many_values (Some (variable_slot vs name))
  values_by others None = others

  -- those of a variable of a list type, of a written list, or one alone
  abbrev pub values_read : Kind → GValue → List Val
  values_read k x = values_by (map (value_read k) (items_in x)) (variable_in x)

  -- a number that isn't negative, or none where null or nothing is given
  abbrev pub number_read : Option GValue → Option ℕ
  number_read (Some x) = number_in (value_read kind.Int x)
  number_read None = None
