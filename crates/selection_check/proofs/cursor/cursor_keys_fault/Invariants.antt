use Rattle.std.proofs.Common.{◌≡◌, [], drop}
use Rattle.std.specs.Prelude.{codes}
use Rattle.query_model.specs.declared.fault.FaultKind.TheVariants as fault
use Rattle.query_model.specs.Refusals.{refusal, pairs_fault}
use Rattle.query_model.specs.CursorFaults.{cursor_key_fault}
use Rattle.selection_check.proofs.Lists.{names_to}
use Rattle.selection_check.proofs.cursor.cursor_keys_fault.Given as goal

abbrev pub invariant-loop-index : goal.invariant-loop-index
invariant-loop-index l =
    let fault_of = pairs_fault (λ other. refusal fault.BadCursor (codes "cursor")) (cursor_key_fault l.vars l.view l.table) in
    fault_of (names_to l.index l.pairs) (drop l.index l.pairs) ≡ fault_of [] l.pairs
