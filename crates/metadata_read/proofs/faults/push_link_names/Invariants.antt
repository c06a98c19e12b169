use Rattle.std.proofs.Common.{◌≡◌, ◌++◌, map, take}
use Rattle.metadata_read.proofs.faults.push_link_names.Given as goal

abbrev pub invariant-loop-link : goal.invariant-loop-link
invariant-loop-link l = l.names ≡ l.fn.names ++ map (λ k. k.name) (take l.link-index l.links)
