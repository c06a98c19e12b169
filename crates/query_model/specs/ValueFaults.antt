-- What is wrong with a value in its place: GraphQL October 2021, section 5.6 ("Values"). The codes and the names that
-- they give are this project's own.
use Rattle.std.specs.Prelude.{Bool, true, false, not, ◌&&◌, if◌then◌else◌, List, map, is_none, Option, Some, None}
use Rattle.std.specs.List.{list_any}
use Rattle.scalar_val.specs.declared.val.Kind.{Kind}
use Rattle.scalar_val.specs.declared.val.Kind.TheVariants as kind
use Rattle.scalar_val.specs.declared.val.Val.{Val}
use Rattle.scalar_val.specs.Spellings.{fitted}
use Rattle.plan_model.specs.declared.filter.Slot.{Slot}
use Rattle.plan_model.specs.declared.filter.Slot.TheVariants.{One, Many}
use Rattle.scalar_val.specs.Values.{is_null, same_kind}
use Rattle.plan_model.specs.Values.{one_value}
use Rattle.request_model.specs.declared.document.GValue.{GValue}
use Rattle.request_model.specs.declared.document.GValue.TheOpen.{GValue-F}
use Rattle.request_model.specs.declared.document.GValue.TheViews.{out-GValue}
use Rattle.request_model.specs.declared.document.GPair.{GPair}
use Rattle.request_model.specs.Strings.{Text}
use Rattle.query_model.specs.declared.fault.FaultKind.TheVariants as fault
use Rattle.query_model.specs.declared.fault.QueryFault.{QueryFault}
use Rattle.query_model.specs.Names.{literal, variable_in, items_in}
use Rattle.query_model.specs.declared.variable.Variable.{Variable}
use Rattle.query_model.specs.Variables.{variable_named}
use Rattle.query_model.specs.Refusals.{refused, refused_if, or_then, first_of}

abbrev pub object_by : GValue-F GValue GPair → Bool
object_by (GValue-F.Object pairs) = true
object_by _ = false

abbrev pub is_object : GValue → Bool
is_object x = object_by (out-GValue x)

abbrev pub null_by : GValue-F GValue GPair → Bool
null_by GValue-F.Null = true
null_by _ = false

abbrev pub is_null_literal : GValue → Bool
is_null_literal x = null_by (out-GValue x)

module _ (vars : List Variable) where
  -- ---- variables: each is declared, of the type that its place wants, and then its value is judged

  -- the declared type is the kind's, or that of a list of the kind
  abbrev pub has_type : Bool → Kind → Variable → Bool
  has_type listed k x = same_kind k x.type_.kind && (if listed then x.type_.listed else not x.type_.listed)

  abbrev pub declared_fault : Bool → Kind → (Slot → Option QueryFault) → Text → Option Variable → Option QueryFault
  declared_fault listed k judge name None = refused fault.MissingVariable name
  declared_fault listed k judge name (Some x) =
      if has_type listed k x then judge x.value else refused fault.WrongType name

  -- the variable of a name, in a place that wants one value of a kind or a list of them
  abbrev pub variable_fault : Bool → Kind → (Slot → Option QueryFault) → Text → Option QueryFault
  variable_fault listed k judge name = declared_fault listed k judge name (variable_named vars name)

  -- the variable that a value is, or else the value as it is written
  abbrev pub by_variable : Bool → Kind → (Slot → Option QueryFault) → Option QueryFault → Option Text →
      Option QueryFault
  by_variable listed k judge other (Some name) = variable_fault listed k judge name
  by_variable listed k judge other None = other

  -- ---- one value: null is no operand, and any other literal has to fit

  abbrev pub null_fault : Text → Val → Option QueryFault
  null_fault place x = refused_if (is_null x) fault.NullOperand place

  abbrev pub literal_fault : Text → Kind → Option Val → Option QueryFault
  literal_fault place k None = refused fault.WrongType place
  literal_fault place k (Some x) =
      or_then (null_fault place x)
      (refused_if (is_none (fitted k x)) fault.WrongType place)

  abbrev pub null_slot_fault : Text → Slot → Option QueryFault
  null_slot_fault place s = null_fault place (one_value (Some s))

  abbrev pub single_fault : Text → Kind → GValue → Option QueryFault
  single_fault place k x =
      by_variable false k (null_slot_fault place) (literal_fault place k (literal x)) (variable_in x)

  -- ---- the values of `_in` and `_nin`: a variable of a list type, a list of single values, or one for a list of one

  abbrev pub is_null_slot : Slot → Bool
  is_null_slot (One x) = is_null x
  is_null_slot (Many xs) = list_any is_null xs

  abbrev pub null_list_fault : Text → Slot → Option QueryFault
  null_list_fault place s = refused_if (is_null_slot s) fault.NullOperand place

  abbrev pub list_fault : Text → Kind → GValue → Option QueryFault
  list_fault place k x =
      by_variable true k (null_list_fault place) (first_of (map (single_fault place k) (items_in x))) (variable_in x)
