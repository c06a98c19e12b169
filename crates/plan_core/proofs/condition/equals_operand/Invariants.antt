use Rattle.std.proofs.Common.{◌≡◌, ◌∷◌, map, drop, IsTrue}
use Rattle.std.specs.List.{list_all}
use Rattle.plan_model.specs.Truth.{any_of, among, compared}
use Rattle.plan_model.specs.Values.{operand_value}
use Rattle.plan_model.specs.FilterFits.{operand_fits}
use Rattle.plan_model.specs.declared.filter.Op.TheVariants.{Eq}
use Rattle.plan_core.proofs.condition.equals_operand.Given as goal

abbrev pub invariant-loop-operand : goal.invariant-loop-operand
invariant-loop-operand l =
    let rest = drop l.operand-index l.operands in
    record {
      told : any_of (l.found ∷ map (compared Eq l.cell) (map (operand_value l.binding) rest))
          ≡ among l.cell (map (operand_value l.binding) l.operands);
      fitting : IsTrue (list_all (operand_fits l.binding) rest);
    }
