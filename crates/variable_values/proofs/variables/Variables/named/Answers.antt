use Rattle.std.proofs.Common.{◌∙◌, ap}
use Rattle.std.specs.Prelude.{option_and_then}
use Rattle.std.specs.List.{slice_get}
use Rattle.variable_values.proofs.PlaceRules.{found_at}
use Rattle.variable_values.proofs.variables.Variables.named.Goals as goal

pub returns-in-Some : goal.returns-in-Some
returns-in-Some c =
    c.get.ensures.value ∙ ap (λ xs. slice_get xs c.in-Some.place) c.self.view_is
    ∙ ap (option_and_then (slice_get c.args.self.now)) c.in-Some.ensures ∙ found_at c.args.self.now c.args.name.now

pub returns-in-None : goal.returns-in-None
returns-in-None c =
    ap (option_and_then (slice_get c.args.self.now)) c.in-None.ensures ∙ found_at c.args.self.now c.args.name.now
