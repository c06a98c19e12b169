use Rattle.std.proofs.Common.{◌≡◌, max, map, take}
use Rattle.std.specs.List.{fold}
use Rattle.machine.specs.State as machine
use Rattle.hub_model.specs.Kept.{member_of}
use Rattle.subs_run.proofs.poll.cohorts.Given as goal

abbrev pub invariant-loop-member : goal.invariant-loop-member
invariant-loop-member l =
    l.most ≡ fold (λ n (m : machine.Member). max n m.cohort) 0 (map member_of (take l.member-index l.members))
