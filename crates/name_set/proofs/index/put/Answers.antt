use Rattle.std.proofs.Common.{arith}
use Rattle.name_set.proofs.NameRules.{places_put}
use Rattle.name_set.proofs.index.put.Goals as goal

pub returns-in-Ok-clause-places : goal.returns-in-Ok-clause-places
returns-in-Ok-clause-places c =
    places_put c.args.names.now.items c.args.name c.as_str.result.now c.args.places.now c.place_or.new.places
    c.in-Ok.field-0 c.len-place.result
    c.requires c.as_str.ensures (omega (arith, c.len-place.ensures, c.args.names.now.ok.0)) c.in-Ok.ensures.found
    c.in-Ok.ensures.learns c.push.new.self.items c.in_ok-push.ensures.items
