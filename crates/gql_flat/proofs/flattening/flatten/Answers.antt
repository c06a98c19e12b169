use Rattle.std.proofs.Common.{◌∙◌}
use Rattle.serde_json.specs.View.{view}
use Rattle.request_model.specs.Selection.{operations, not_chosen}
use Rattle.request_model.specs.Selection.{given_values}
use Rattle.gql_flat.proofs.WholeRules.{chosen_is, flattens}
use Rattle.gql_flat.proofs.flattening.flatten.Goals as goal

pub returns-in-Err : goal.returns-in-Err
returns-in-Err c =
    λ _. not_chosen (chosen_is c.args.request.now.operation _ (operations c.args.document.now) c.as_slice.result.now _
    c.as_ref.ensures.value (c.as_slice.ensures.value ∙ c.in-Ok.ensures) c.in-Err.ensures)

pub returns : goal.returns
returns c =
    λ memory. flattens c.args.document.now c.args.request.now.operation
    (given_values (view c.args.request.now.variables)) c.in-Ok-chosen.operation.now c.flatten_operation.result
    (chosen_is c.args.request.now.operation _ (operations c.args.document.now) c.as_slice.result.now _
    c.as_ref.ensures.value (c.as_slice.ensures.value ∙ c.in-Ok.ensures) c.in-Ok-chosen.ensures)
    c.flatten_operation.ensures memory
