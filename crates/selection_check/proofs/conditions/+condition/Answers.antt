use Rattle.std.proofs.Common.{◌≡◌, false, None, ◌∙◌, sym, arith}
use Rattle.std.specs.List.{list_any}
use Rattle.std.specs.Str.{bytes_eq}
use Rattle.std.proofs.lemmas.Grind.{common_steps}
use Rattle.query_model.specs.declared.fault.FaultKind.TheVariants as fault
use Rattle.query_model.specs.Names.{pair_name}
use Rattle.query_model.specs.Refusals.{refusal}
use Rattle.query_model.specs.ConditionFaults.{judged_at}
use Rattle.selection_check.proofs.Lists.{names_to, pair_passes}
use Rattle.selection_check.proofs.Judged.{one-Object, many-Object, many-Many, one-other, many-other, key_of_column}
use Rattle.selection_check.proofs.conditions.+condition.Goals as goal

pub keys_fault-loop-index-preserved : goal.keys_fault-loop-index-preserved
keys_fault-loop-index-preserved t c =
    let p = c.index-pairs-index.result in
    let once : false ≡ list_any (bytes_eq (pair_name p)) (names_to c.loop-index.index c.args.pairs.now) =
    grind (arith, common_steps) in
    let passes : None ≡ judged_at c.args.vars.now c.args.view.now p c.args.table = grind (arith, common_steps) in
    pair_passes (refusal fault.NoArgument) (λ q. judged_at c.args.vars.now c.args.view.now q c.args.table)
    c.args.pairs.now c.loop-index.index p _ c.loop-index-test.true c.index-pairs-index.is once passes
    c.loop-index.invariant

pub condition_fault-returns-in-Object : goal.condition_fault-returns-in-Object
condition_fault-returns-in-Object t c = rw (c.in-Object.is, one-Object) (cc)

pub condition_fault-returns-in_default : goal.condition_fault-returns-in_default
condition_fault-returns-in_default t c =
    c.refused.ensures
    ∙ sym (one-other c.args.vars.now c.args.view.now c.args.table c.args.value.now c.args.blamed.now c.in_default.not-Object)

pub conditions_fault-returns-in-Object : goal.conditions_fault-returns-in-Object
conditions_fault-returns-in-Object t c = rw (c.in-Object.is, many-Object) (cc)

pub conditions_fault-returns-in-Many : goal.conditions_fault-returns-in-Many
conditions_fault-returns-in-Many t c = rw (c.in-Many.is, many-Many) (cc)

pub conditions_fault-returns-in_default : goal.conditions_fault-returns-in_default
conditions_fault-returns-in_default t c =
    c.refused.ensures
    ∙ sym (many-other c.args.vars.now c.args.view.now c.args.table c.args.value.now c.args.blamed.now c.in_default.not-Object c.in_default.not-Many)

pub key_fault-returns-in_default : goal.key_fault-returns-in_default
key_fault-returns-in_default t c =
    let is = c.as_str-name.ensures in
    (rw is at c.column_fault.ensures)
    ∙ sym (key_of_column c.args.vars.now c.args.view.now c.args.table c.args.pair.now
    (λ e. c.in_default.not-text (is ∙ e)) (λ e. c.in_default.not-text-2 (is ∙ e)) (λ e. c.in_default.not-text-3 (is ∙ e)))
