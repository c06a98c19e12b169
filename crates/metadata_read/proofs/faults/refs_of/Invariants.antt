use Rattle.std.proofs.Common.{◌≡◌, map, take}
use Rattle.metadata_read.proofs.faults.refs_of.Given as goal

abbrev pub invariant-loop-name : goal.invariant-loop-name
invariant-loop-name l = map (λ n. n.now) l.refs.items ≡ take l.name-index l.names
