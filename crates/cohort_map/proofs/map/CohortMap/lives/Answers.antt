use Rattle.std.proofs.Common.{◌∙◌, length}
use Rattle.cohort_map.proofs.Living.{live_seen}
use Rattle.cohort_map.proofs.Views.{within_of}
use Rattle.cohort_map.proofs.map.CohortMap.lives.Goals as goal

pub returns : goal.returns
returns c =
    rw (← c.self.view_is) (c.is_live.ensures
    ∙ rw c.as_slice.ensures (live_seen c.self.inside.keys c.args.sub c.self.inside.seats.seats (within_of (length c.self.inside.keys) c.self.inside.seats.seats c.self.invariant.0.sound)))
