use Rattle.std.proofs.Common.{sym, subst}
use Rattle.place_list.specs.Places.{Ascends}
use Rattle.place_list.proofs.Ascending.{swept}
use Rattle.place_list.proofs.list.PlaceList.retain.Goals as goal

pub invariant_of-self : goal.invariant_of-self
invariant_of-self g c =
    let kept = c.retain.ensures.filtered in
    subst Ascends (sym kept.4) (swept kept.0 c.self.inside.places.items c.self.invariant)
