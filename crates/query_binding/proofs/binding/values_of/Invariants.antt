use Rattle.std.proofs.Common.{◌≡◌, ◌++◌, map, drop}
use Rattle.query_model.specs.declared.session.SessionValue.{SessionValue}
use Rattle.query_binding.proofs.binding.values_of.Given as goal

abbrev pub invariant-loop-slot : goal.invariant-loop-slot
invariant-loop-slot l =
    l.values ++ map (λ (s : SessionValue). s.value) (drop l.slot-index l.session)
    ≡ map (λ (s : SessionValue). s.value) l.session
