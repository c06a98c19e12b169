use Rattle.std.proofs.Common.{◌∙◌, arith}
use Rattle.gql_scope.proofs.PlaceRules.{place_or_count}
use Rattle.gql_scope.proofs.fragments.Fragments.place_or_count.Goals as goal

pub returns : goal.returns
returns c =
    c.unwrap_or.ensures ∙ place_or_count c.args.self.now c.self.inside.items.items c.self.inside.names c.args.name.now
    c.place.result c.len.result
    c.self.view_is c.self.invariant c.place.ensures.first (omega (arith, c.len.ensures, c.self.inside.items.ok.0))
