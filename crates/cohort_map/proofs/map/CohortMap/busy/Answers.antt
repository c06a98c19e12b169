use Rattle.std.proofs.Common.{◌∙◌, ap, sym, length}
use Rattle.cohort_map.specs.Entries.{is_busy_by}
use Rattle.cohort_map.specs.Seats.{IsCohortOf, entries_of}
use Rattle.cohort_map.proofs.Views.{within_of}
use Rattle.cohort_map.proofs.Finding.{busy_is, entry_none}
use Rattle.cohort_map.proofs.map.CohortMap.busy.Goals as goal

pub returns-in-Some : goal.returns-in-Some
returns-in-Some c =
    let of : IsCohortOf c.args.sub c.self.inside.seats.seats c.in-Some.cohort = rw (← c.as_slice.ensures) c.in-Some.ensures.some in
    rw (← c.self.view_is) (c.is_busy.ensures ∙ (busy_is c.self.inside.keys c.args.sub c.self.inside.seats.seats c.in-Some.cohort c.apart.ensures (within_of (length c.self.inside.keys) c.self.inside.seats.seats c.self.invariant.0.sound) of))

pub returns-in-None : goal.returns-in-None
returns-in-None c =
    rw (← c.self.view_is) (ap (is_busy_by (entries_of c.self.inside.keys c.self.inside.seats.seats)) (sym (entry_none c.self.inside.keys c.args.sub c.self.inside.seats.seats (within_of (length c.self.inside.keys) c.self.inside.seats.seats c.self.invariant.0.sound) (rw (← c.as_slice.ensures) c.in-None.ensures.none))))
