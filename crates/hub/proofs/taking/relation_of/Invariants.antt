use Rattle.std.proofs.Common.{take}
use Rattle.std.specs.List.{AllZip}
use Rattle.hub.specs.Taking.{HasBinding}
use Rattle.hub.proofs.taking.relation_of.Given as goal

abbrev pub invariant-loop-sub : goal.invariant-loop-sub
invariant-loop-sub l = AllZip (HasBinding l.cohorts.entries) (take l.sub-index l.sub-items) l.relation
