-- The arguments that a field knows, and those that it requires, by what the field gives. This project's own.
use Rattle.std.specs.Prelude.{ℕ, List, []}
use Rattle.role_model.specs.Roles.{View}
use Rattle.request_model.specs.Strings.{Text}
use Rattle.query_model.specs.declared.variable.Variable.{Variable}
use Rattle.query_model.specs.ArgumentFaults.{Known, no_arguments, list_arguments, stream_arguments, key_names, key_arguments}
use Rattle.query_model.specs.Walk.{stream_needs}
use Rattle.selection_check.specs.declared.arguments.Arguments.{Arguments}
use Rattle.selection_check.specs.declared.arguments.Arguments.TheVariants.{Nothing, OfList, OfStream, OfKey}

module _ (vars : List Variable) (v : View) (table : ℕ) where
  abbrev pub known_by : Arguments → Known
  known_by Nothing = no_arguments vars v
  known_by OfList = list_arguments vars v table
  known_by OfStream = stream_arguments vars v table
  known_by OfKey = key_arguments vars v table

  abbrev pub required_by : Arguments → List Text
  required_by Nothing = []
  required_by OfList = []
  required_by OfStream = stream_needs vars v
  required_by OfKey = key_names vars v table
