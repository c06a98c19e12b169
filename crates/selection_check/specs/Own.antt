-- What is wrong with a field that gives objects of a table, but for the fields of these objects. This project's own.
use Rattle.std.specs.Prelude.{ℕ, not, List, [], ◌∷◌, Option}
use Rattle.role_model.specs.Roles.{View}
use Rattle.request_model.specs.declared.flat.FlatField.{FlatField}
use Rattle.request_model.specs.declared.flat.FlatField.TheOpen.{FlatField-F}
use Rattle.query_model.specs.declared.fault.FaultKind.TheVariants as fault
use Rattle.query_model.specs.declared.fault.QueryFault.{QueryFault}
use Rattle.query_model.specs.declared.variable.Variable.{Variable}
use Rattle.query_model.specs.Names.{type_name}
use Rattle.query_model.specs.Refusals.{refused_if, first_of}
use Rattle.query_model.specs.ArgumentFaults.{arguments_fault, missing_fault}
use Rattle.query_model.specs.Walk.{conditions_fault}
use Rattle.selection_check.specs.declared.arguments.Arguments.{Arguments}
use Rattle.selection_check.specs.Known.{known_by, required_by}

module _ (vars : List Variable) (v : View) (table : ℕ) where
  abbrev pub own_fault : Arguments → FlatField-F FlatField → Option QueryFault
  own_fault known f =
      first_of (
      refused_if (not f.nested) fault.WrongType f.name
      ∷ arguments_fault vars v (known_by vars v table known) f.args
      ∷ missing_fault vars v (required_by vars v table known) f.args
      ∷ conditions_fault vars v (type_name v table) f.conditions
      ∷ [])
