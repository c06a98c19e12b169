use Rattle.std.proofs.Common.{◌≡◌, ◌++◌, map, drop}
use Rattle.query_model.specs.Variables.{variable_slot}
use Rattle.query_binding.proofs.binding.variable_slots.Given as goal

abbrev pub invariant-loop-name : goal.invariant-loop-name
invariant-loop-name l =
    l.slots ++ map (variable_slot l.vars) (drop l.name-index l.names) ≡ map (variable_slot l.vars) l.names
