use Rattle.std.proofs.Common.{◌≡◌, drop}
use Rattle.hub_model.specs.Kept.{Kept}
use Rattle.hub_model.specs.Steps.{ends_all}
use Rattle.hub.specs.Parts.{with_entries}
use Rattle.hub.proofs.ends.end_all.Given as goal

abbrev pub invariant-loop-number : goal.invariant-loop-number
invariant-loop-number l =
    record {
      ends : (k : Kept) →
          ends_all (drop l.number-index l.numbers) (with_entries l.cohorts.entries l.held k)
          ≡ ends_all l.numbers (with_entries l.initial.cohorts.entries l.initial.held k);
      ready : l.cohorts.ready ≡ l.initial.cohorts.ready;
    }
