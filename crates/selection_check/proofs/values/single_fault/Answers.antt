use Rattle.std.proofs.Common.{◌∙◌, sym, ap, not}
use Rattle.query_model.specs.declared.fault.FaultKind.TheVariants as fault
use Rattle.query_model.specs.Refusals.{refused_if}
use Rattle.selection_check.proofs.Forms.{single-literal}
use Rattle.selection_check.proofs.values.single_fault.Goals as goal

pub returns-in_default : goal.returns-in_default
returns-in_default c =
    c.refused_if.ensures
    ∙ ap (λ b. refused_if (not b) fault.WrongType c.args.place.now) c.fits.ensures
    ∙ sym (single-literal c.args.vars.now c.args.place.now c.args.kind c.args.value.now c.in_default.not-Var c.in_default.not-Null)
