use Rattle.std.proofs.Common.{◌≡◌, [], drop}
use Rattle.role_model.specs.Roles.{View}
use Rattle.query_model.specs.declared.fault.FaultKind.TheVariants as fault
use Rattle.query_model.specs.Refusals.{refusal, pairs_fault}
use Rattle.query_model.specs.ConditionFaults.{operator_fault}
use Rattle.selection_check.proofs.Lists.{names_to}
use Rattle.selection_check.proofs.conditions.operators_fault.Given as goal

abbrev pub invariant-loop-index : goal.invariant-loop-index
invariant-loop-index l =
    (view : View) →
    let fault_of = pairs_fault (λ other. refusal fault.WrongType l.column) (operator_fault l.vars view l.column l.kind) in
    fault_of (names_to l.index l.pairs) (drop l.index l.pairs) ≡ fault_of [] l.pairs
