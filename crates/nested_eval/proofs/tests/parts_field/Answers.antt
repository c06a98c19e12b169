use Rattle.std.proofs.Common.{◌∙◌}
use Rattle.nested_eval.proofs.Examples.{parts_fit}
use Rattle.nested_eval.proofs.tests.parts_field.Goals as goal

pub returns : goal.returns
returns c =
    parts_fit c.in_ok-of.field-0 c.in_ok-one.field-0 c.in_ok-one-2.field-0 c.in_ok-new.field-0 c.in_ok-id_fields.field-0
    c.in_ok-one.ensures c.in_ok-one-2.ensures (c.in_ok-new.ensures ∙ c.related-select.ensures) c.in_ok-id_fields.ensures
