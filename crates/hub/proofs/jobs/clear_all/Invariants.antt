use Rattle.std.proofs.Common.{◌≡◌, drop}
use Rattle.hub_model.specs.Kept.{Kept}
use Rattle.hub_model.specs.Steps.{clears}
use Rattle.hub.specs.Parts.{with_entries}
use Rattle.hub.proofs.jobs.clear_all.Given as goal

abbrev pub invariant-loop-member : goal.invariant-loop-member
invariant-loop-member l = (k : Kept) →
    clears (drop l.member-index l.members) (with_entries l.cohorts.entries l.held k)
    ≡ clears l.members (with_entries l.cohorts.entries l.initial.held k)
