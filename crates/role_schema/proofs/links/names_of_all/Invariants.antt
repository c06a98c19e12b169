use Rattle.std.proofs.Common.{◌≡◌, map, take}
use Rattle.role_schema.specs.LinkNames.{names_of_links}
use Rattle.role_schema.proofs.links.names_of_all.Given as goal

abbrev pub invariant-loop-links : goal.invariant-loop-links
invariant-loop-links l = l.names ≡ map names_of_links (take l.links-index l.tables)
