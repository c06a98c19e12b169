use Rattle.std.proofs.Common.{◌≡◌, drop, map}
use Rattle.std.specs.List.{fold}
use Rattle.role_model.specs.JsonFilters.{with_text}
use Rattle.role_schema.specs.LinkNames.{names_of_links}
use Rattle.role_schema.proofs.links.names_of.Given as goal

abbrev pub invariant-loop-link : goal.invariant-loop-link
invariant-loop-link l = fold with_text l.names (map (λ k. k.name) (drop l.link-index l.links)) ≡ names_of_links l.links
