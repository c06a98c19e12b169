use Rattle.std.proofs.Common.{◌≡◌, false, None, arith}
use Rattle.std.specs.Prelude.{codes}
use Rattle.std.specs.List.{list_any}
use Rattle.std.specs.Str.{bytes_eq}
use Rattle.std.proofs.lemmas.Grind.{common_steps}
use Rattle.query_model.specs.declared.fault.FaultKind.TheVariants as fault
use Rattle.query_model.specs.Names.{pair_name}
use Rattle.query_model.specs.Refusals.{refusal}
use Rattle.query_model.specs.CursorFaults.{cursor_key_fault}
use Rattle.selection_check.proofs.Lists.{names_to, pair_passes}
use Rattle.selection_check.proofs.cursor.cursor_keys_fault.Goals as goal

pub loop-index-preserved : goal.loop-index-preserved
loop-index-preserved c =
    let p = c.index-pairs-index.result in
    let once : false ≡ list_any (bytes_eq (pair_name p)) (names_to c.loop-index.index c.args.pairs.now) =
    grind (arith, common_steps) in
    let passes : None ≡ cursor_key_fault c.args.vars.now c.args.view.now c.args.table p =
    grind (arith, common_steps) in
    pair_passes (λ other. refusal fault.BadCursor (codes "cursor"))
    (cursor_key_fault c.args.vars.now c.args.view.now c.args.table)
    c.args.pairs.now c.loop-index.index p _ c.loop-index-test.true c.index-pairs-index.is once passes
    c.loop-index.invariant
