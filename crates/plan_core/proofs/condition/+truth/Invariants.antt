use Rattle.std.proofs.Common.{◌≡◌, ◌∷◌, map, drop, length, IsTrue}
use Rattle.std.specs.List.{list_all}
use Rattle.plan_model.specs.Truth.{truth_of, all_of, any_of}
use Rattle.plan_model.specs.FilterFits.{fits, itself}
use Rattle.plan_core.proofs.condition.+truth.Given as goal

-- what was found so far and what is left say what all say; what is left fits
abbrev pub invariant-all_hold-loop-part : goal.invariant-all_hold-loop-part
invariant-all_hold-loop-part l =
    let rest = drop l.part-index l.parts in
    record {
      told : all_of (l.found ∷ map (λ part. part l.cells) (map (truth_of l.binding) rest))
          ≡ all_of (map (λ part. part l.cells) (map (truth_of l.binding) l.parts));
      fitting : IsTrue (list_all itself (map (fits (length l.cells) l.binding) rest));
    }

abbrev pub invariant-one_holds-loop-part : goal.invariant-one_holds-loop-part
invariant-one_holds-loop-part l =
    let rest = drop l.part-index l.parts in
    record {
      told : any_of (l.found ∷ map (λ part. part l.cells) (map (truth_of l.binding) rest))
          ≡ any_of (map (λ part. part l.cells) (map (truth_of l.binding) l.parts));
      fitting : IsTrue (list_all itself (map (fits (length l.cells) l.binding) rest));
    }
