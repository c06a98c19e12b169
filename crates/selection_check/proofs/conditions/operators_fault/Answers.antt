use Rattle.std.proofs.Common.{◌≡◌, false, None, arith}
use Rattle.std.specs.List.{list_any}
use Rattle.std.specs.Str.{bytes_eq}
use Rattle.std.proofs.lemmas.Grind.{common_steps}
use Rattle.query_model.specs.declared.fault.FaultKind.TheVariants as fault
use Rattle.query_model.specs.Names.{pair_name}
use Rattle.query_model.specs.Refusals.{refusal}
use Rattle.query_model.specs.ConditionFaults.{operator_fault}
use Rattle.selection_check.proofs.Lists.{names_to, pair_passes}
use Rattle.selection_check.proofs.conditions.operators_fault.Goals as goal

pub returns-then-has_name : goal.returns-then-has_name
returns-then-has_name c = λ view. let inv = c.loop-index.invariant view in grind (arith, common_steps, inv)

pub returns-in-Some : goal.returns-in-Some
returns-in-Some c = λ view.
    let inv = c.loop-index.invariant view in
    let told = c.operator_fault.ensures view in
    grind (arith, common_steps, inv, told)

pub loop-index-preserved : goal.loop-index-preserved
loop-index-preserved c = λ view.
    let p = c.index-pairs-index.result in
    let told = c.operator_fault.ensures view in
    let once : false ≡ list_any (bytes_eq (pair_name p)) (names_to c.loop-index.index c.args.pairs.now) =
    grind (arith, common_steps) in
    let passes : None ≡ operator_fault c.args.vars.now view c.args.column.now c.args.kind p =
    grind (arith, common_steps, told) in
    pair_passes (λ other. refusal fault.WrongType c.args.column.now)
    (operator_fault c.args.vars.now view c.args.column.now c.args.kind)
    c.args.pairs.now c.loop-index.index p _ c.loop-index-test.true c.index-pairs-index.is once passes
    (c.loop-index.invariant view)

pub returns : goal.returns
returns c = λ view. let inv = c.loop-index.invariant view in grind (arith, common_steps, inv)
