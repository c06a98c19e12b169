use Rattle.std.proofs.Common.{◌∙◌}
use Rattle.nested_eval.proofs.Examples.{whole_fits}
use Rattle.nested_eval.proofs.tests.whole_field.Goals as goal

pub returns : goal.returns
returns c =
    whole_fits c.in_ok-of.field-0 c.in_ok-one.field-0 c.in_ok-one-2.field-0 c.in_ok-new.field-0 c.in_ok-id_fields.field-0
    c.in_ok-one.ensures c.in_ok-one-2.ensures (c.in_ok-new.ensures ∙ c.related-select.ensures) c.in_ok-id_fields.ensures
