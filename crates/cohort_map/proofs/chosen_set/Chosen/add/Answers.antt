use Rattle.std.proofs.Common.{◌∙◌, ◌++◌, ◌∷◌, [], ℕ, List, Some, ap, sym, subst}
use Rattle.cohort_map.specs.Choice.{ArePlaced}
use Rattle.cohort_map.proofs.Placing.{placed_more, not_tied}
use Rattle.cohort_map.proofs.chosen_set.Chosen.add.Goals as goal

pub invariant_of-self-in-Ok : goal.invariant_of-self-in-Ok
invariant_of-self-in-Ok c =
    let items = c.push_reserved.ensures.items ∙ ap (λ (cs : List ℕ). cs ++ c.args.cohort ∷ []) c.in_ok-reserve.ensures.items in
    subst (λ (cs : List ℕ). ArePlaced cs c.insert.new.self) (sym items)
    (placed_more c.self.inside.cohorts.items c.args.cohort c.self.inside.places c.insert.new.self
    (rw c.self.view_is c.requires) (λ k apart. c.in-Ok.ensures.updates.2 k (not_tied c.args.cohort k apart))
    (c.in-Ok.ensures.updates.1 ∙ ap (λ (n : ℕ). Some n) (c.len-place.ensures ∙ c.self.inside.cohorts.ok.0)) c.self.invariant)
