use Rattle.std.proofs.Common.{◌≡◌, ◌∷◌, map, drop}
use Rattle.plan_model.specs.Truth.{any_of, among, compared}
use Rattle.plan_model.specs.declared.filter.Op.TheVariants.{Eq}
use Rattle.plan_core.proofs.condition.equals_one.Given as goal

abbrev pub invariant-loop-value : goal.invariant-loop-value
invariant-loop-value l =
    any_of (l.found ∷ map (compared Eq l.cell) (drop l.value-index l.values)) ≡ among l.cell l.values
