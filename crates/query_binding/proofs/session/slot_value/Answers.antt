use Rattle.std.proofs.Common.{◌≡◌, ◌∙◌, ap, sym, Some}
use Rattle.role_model.specs.Texts.{value_of}
use Rattle.query_binding.proofs.session.slot_value.Goals as goal

pub returns-in-Some-clause-ok : goal.returns-in-Some-clause-ok
returns-in-Some-clause-ok c =
    let e : value_of c.args.slot.name c.args.session.now.vars ≡ Some c.in-Some.text.now =
    ap (λ n. value_of n c.args.session.now.vars) (sym c.as_str.ensures) ∙ sym c.in-Some.ensures in
    rw e (rw c.as_str-in-Some.ensures at c.spelled_value.ensures.ok)

pub returns-in-Some-clause-refused : goal.returns-in-Some-clause-refused
returns-in-Some-clause-refused c =
    let e : value_of c.args.slot.name c.args.session.now.vars ≡ Some c.in-Some.text.now =
    ap (λ n. value_of n c.args.session.now.vars) (sym c.as_str.ensures) ∙ sym c.in-Some.ensures in
    rw e (rw c.as_str-in-Some.ensures at c.spelled_value.ensures.refused)
