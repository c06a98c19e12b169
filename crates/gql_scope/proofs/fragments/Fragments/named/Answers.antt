use Rattle.gql_scope.proofs.PlaceRules.{found_in, not_in}
use Rattle.gql_scope.proofs.fragments.Fragments.named.Goals as goal

pub returns-in-Some : goal.returns-in-Some
returns-in-Some c =
    found_in c.args.self.now c.self.inside.items.items c.as_slice.result.now c.self.inside.names c.args.name.now
    c.in-Some.place _
    c.self.view_is c.self.invariant c.in-Some.ensures.first c.as_slice.ensures.value c.at.ensures

pub returns-in-None : goal.returns-in-None
returns-in-None c = not_in c.args.self.now c.self.inside.items.items c.self.inside.names c.args.name.now c.self.view_is
    c.self.invariant c.in-None.ensures.first
