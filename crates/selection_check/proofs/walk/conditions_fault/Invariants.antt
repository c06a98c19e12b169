use Rattle.std.proofs.Common.{◌≡◌, [], drop}
use Rattle.role_model.specs.Roles.{View}
use Rattle.query_model.specs.Walk.{conditions_fault}
use Rattle.selection_check.proofs.walk.conditions_fault.Given as goal

abbrev pub invariant-loop-condition : goal.invariant-loop-condition
invariant-loop-condition l =
    (view : View) →
    conditions_fault [] view l.type_name (drop l.condition-index l.conditions) ≡ conditions_fault [] view l.type_name l.conditions
