use Rattle.std.proofs.Common.{◌≡◌, ◌++◌, drop}
use Rattle.std.specs.List.{filter_map}
use Rattle.metadata_read.specs.Held.{grant_held}
use Rattle.metadata_read.proofs.meaning.grants_of.Given as goal

abbrev pub invariant-loop-held : goal.invariant-loop-held
invariant-loop-held l = l.grants ++ filter_map (grant_held l.names) (drop l.held-index l.own) ≡ filter_map (grant_held l.names) l.own
