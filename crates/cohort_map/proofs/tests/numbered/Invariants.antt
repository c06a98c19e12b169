use Rattle.std.proofs.Common.{◌≡◌, ◌<◌, ◌+◌, []}
use Rattle.std.specs.List.{AllByRecursion}
use Rattle.cohort_map.proofs.tests.numbered.Given as goal

abbrev pub invariant-loop-variable : goal.invariant-loop-variable
invariant-loop-variable l = record {
  below : AllByRecursion (λ e. e.number < l.variable + 1) l.map.entries;
  ready : l.map.ready ≡ [];
}
