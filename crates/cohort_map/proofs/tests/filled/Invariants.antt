use Rattle.std.proofs.Common.{◌≡◌, ◌<◌, ◌≤◌, ◌+◌, []}
use Rattle.std.specs.List.{AllByRecursion}
use Rattle.cohort_map.proofs.tests.filled.Given as goal

abbrev pub invariant-loop-value : goal.invariant-loop-value
invariant-loop-value l = record {
  below : AllByRecursion (λ e. e.number < l.next) l.map.entries;
  ready : l.map.ready ≡ [];
  bound : l.next ≤ l.value-index + 1;
}
