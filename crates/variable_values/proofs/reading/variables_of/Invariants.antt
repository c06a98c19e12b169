use Rattle.std.proofs.Common.{◌≡◌, drop}
use Rattle.serde_json.specs.View.{view}
use Rattle.request_model.specs.Selection.{given_values}
use Rattle.query_model.specs.Admission.{variables_of}
use Rattle.variable_values.proofs.ListRules.{after_variables}
use Rattle.variable_values.proofs.reading.variables_of.Given as goal

abbrev pub invariant-loop-def : goal.invariant-loop-def
invariant-loop-def l =
    variables_of (given_values (view l.values)) l.defs
    ≡ after_variables l.found (variables_of (given_values (view l.values)) (drop l.def-index l.defs))
