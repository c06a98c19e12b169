use Rattle.std.proofs.Common.{◌≡◌, [], drop}
use Rattle.query_model.specs.declared.fault.FaultKind.TheVariants as fault
use Rattle.query_model.specs.Refusals.{refusal, pairs_fault}
use Rattle.query_model.specs.ArgumentFaults.{judged_by}
use Rattle.selection_check.specs.Known.{known_by}
use Rattle.selection_check.proofs.Lists.{names_to}
use Rattle.selection_check.proofs.arguments.arguments_fault.Given as goal

abbrev pub invariant-loop-index : goal.invariant-loop-index
invariant-loop-index l =
    let fault_of = pairs_fault (refusal fault.NoArgument) (judged_by l.vars l.view (known_by l.vars l.view l.table l.known)) in
    fault_of (names_to l.index l.args) (drop l.index l.args) ≡ fault_of [] l.args
