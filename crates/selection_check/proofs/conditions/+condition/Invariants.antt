use Rattle.std.proofs.Common.{◌≡◌, [], map, drop}
use Rattle.query_model.specs.declared.fault.FaultKind.TheVariants as fault
use Rattle.query_model.specs.Refusals.{refusal, first_of, pairs_fault}
use Rattle.query_model.specs.ConditionFaults.{judged, judged_at}
use Rattle.selection_check.proofs.Lists.{names_to}
use Rattle.selection_check.proofs.conditions.+condition.Given as goal

abbrev pub invariant-items_fault-loop-item : goal.invariant-items_fault-loop-item
invariant-items_fault-loop-item l =
    first_of (map (λ x. (judged l.vars l.view x).one l.blamed l.table) (drop l.item-index l.items))
    ≡ first_of (map (λ x. (judged l.vars l.view x).one l.blamed l.table) l.items)

abbrev pub invariant-keys_fault-loop-index : goal.invariant-keys_fault-loop-index
invariant-keys_fault-loop-index l =
    let fault_of = pairs_fault (refusal fault.NoArgument) (λ p. judged_at l.vars l.view p l.table) in
    fault_of (names_to l.index l.pairs) (drop l.index l.pairs) ≡ fault_of [] l.pairs
