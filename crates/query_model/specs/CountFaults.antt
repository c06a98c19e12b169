-- What is wrong with a count: the arguments `limit`, `offset` and `batch_size`. The codes and the names that they give
-- are this project's own.
use Rattle.std.specs.Prelude.{ℤ, pos, Bool, false, if◌then◌else◌, int_lt, List, Option, Some, None}
use Rattle.scalar_val.specs.declared.val.Kind.TheVariants as kind
use Rattle.scalar_val.specs.declared.val.Val.{Val}
use Rattle.scalar_val.specs.declared.val.Val.TheVariants as val
use Rattle.plan_model.specs.declared.filter.Slot.{Slot}
use Rattle.plan_model.specs.Values.{one_value}
use Rattle.request_model.specs.declared.document.GValue.{GValue}
use Rattle.request_model.specs.Strings.{Text}
use Rattle.query_model.specs.declared.fault.FaultKind.TheVariants as fault
use Rattle.query_model.specs.declared.fault.QueryFault.{QueryFault}
use Rattle.query_model.specs.Names.{literal, literal_value, variable_in}
use Rattle.query_model.specs.declared.variable.Variable.{Variable}
use Rattle.query_model.specs.Variables.{value_read}
use Rattle.query_model.specs.Refusals.{refused_if, or_then}
use Rattle.query_model.specs.ValueFaults.{is_null_literal, by_variable, literal_fault, single_fault}

module _ (vars : List Variable) where
  abbrev pub is_below : ℤ → Val → Bool
  is_below least (val.Int z) = int_lt z least
  is_below least _ = false

  abbrev pub negative_fault : Text → Val → Option QueryFault
  negative_fault place x = refused_if (is_below (pos 0) x) fault.WrongType place

  abbrev pub negative_slot_fault : Text → Slot → Option QueryFault
  negative_slot_fault place s = negative_fault place (one_value (Some s))

  abbrev pub count_literal_fault : Text → GValue → Option QueryFault
  count_literal_fault place x =
      if is_null_literal x then None
      else or_then (literal_fault vars place kind.Int (literal x))
      (negative_fault place (literal_value kind.Int x))

  -- `limit` and `offset`: an integer of 0 or more; null is as if the argument weren't there
  abbrev pub count_fault : Text → GValue → Option QueryFault
  count_fault place x =
      by_variable vars false kind.Int (negative_slot_fault place) (count_literal_fault place x) (variable_in x)

  -- `batch_size`: an integer of 1 or more
  abbrev pub batch_fault : Text → GValue → Option QueryFault
  batch_fault place x =
      or_then (single_fault vars place kind.Int x)
      (refused_if (is_below (pos 1) (value_read vars kind.Int x)) fault.WrongType place)
