use Rattle.std.proofs.Common.{◌≡◌, false, None, arith}
use Rattle.std.specs.List.{list_any}
use Rattle.std.specs.Str.{bytes_eq}
use Rattle.std.proofs.lemmas.Grind.{common_steps}
use Rattle.query_model.specs.declared.fault.FaultKind.TheVariants as fault
use Rattle.query_model.specs.Names.{pair_name}
use Rattle.query_model.specs.Refusals.{refusal}
use Rattle.query_model.specs.ArgumentFaults.{judged_by}
use Rattle.selection_check.specs.Known.{known_by}
use Rattle.selection_check.proofs.Lists.{names_to, pair_passes}
use Rattle.selection_check.proofs.arguments.arguments_fault.Goals as goal

pub loop-index-preserved : goal.loop-index-preserved
loop-index-preserved c =
    let p = c.index-args-index.result in
    let judge = judged_by c.args.vars.now c.args.view.now (known_by c.args.vars.now c.args.view.now c.args.table c.args.known) in
    let once : false ≡ list_any (bytes_eq (pair_name p)) (names_to c.loop-index.index c.args.args.now) =
    grind (arith, common_steps) in
    let passes : None ≡ judge p = grind (arith, common_steps) in
    pair_passes (refusal fault.NoArgument) judge
    c.args.args.now c.loop-index.index p _ c.loop-index-test.true c.index-args-index.is once passes
    c.loop-index.invariant
