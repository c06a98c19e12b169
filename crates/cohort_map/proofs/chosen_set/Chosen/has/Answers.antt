use Rattle.std.proofs.Common.{◌∙◌, ℕ, Option, is_some, ap}
use Rattle.cohort_map.proofs.Placing.{placed_among}
use Rattle.cohort_map.proofs.chosen_set.Chosen.has.Goals as goal

pub returns : goal.returns
returns c =
    rw (← c.self.view_is) (c.contains_key.ensures ∙ ap (λ (o : Option ℕ). is_some o) (c.self.invariant c.args.cohort)
    ∙ placed_among c.args.cohort 0 c.self.inside.cohorts.items)
