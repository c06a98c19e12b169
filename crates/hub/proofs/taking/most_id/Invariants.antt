use Rattle.std.proofs.Common.{◌≡◌, take}
use Rattle.hub.specs.Taking.{most}
use Rattle.hub.proofs.taking.most_id.Given as goal

abbrev pub invariant-loop-member : goal.invariant-loop-member
invariant-loop-member l = l.most ≡ most (take l.member-index l.members)
