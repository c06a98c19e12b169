use Rattle.std.proofs.Common.{◌∙◌, length}
use Rattle.cohort_map.proofs.Views.{has_seen, within_of}
use Rattle.cohort_map.proofs.map.CohortMap.has.Goals as goal

pub returns : goal.returns
returns c =
    rw (← c.self.view_is) (c.has_seat.ensures
    ∙ rw c.as_slice.ensures (has_seen c.self.inside.keys c.args.sub c.self.inside.seats.seats (within_of (length c.self.inside.keys) c.self.inside.seats.seats c.self.invariant.0.sound)))
