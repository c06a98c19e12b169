use Rattle.std.proofs.Common.{ap, sym, length, option_map}
use Rattle.cohort_map.specs.Entries.{Entry}
use Rattle.cohort_map.proofs.Views.{within_of}
use Rattle.cohort_map.proofs.Finding.{binding_is, cohort_within, entry_none}
use Rattle.cohort_map.proofs.map.CohortMap.binding_of.Goals as goal

pub get-requires : goal.get-requires
get-requires c = cohort_within c.self.inside.keys c.args.sub c.self.inside.seats.seats c.in-Some.cohort (within_of (length c.self.inside.keys) c.self.inside.seats.seats c.self.invariant.0.sound) (rw (← c.as_slice.ensures) c.in-Some.ensures.some)

pub returns-in-Some : goal.returns-in-Some
returns-in-Some c =
    rw (← c.self.view_is) (binding_is c.self.inside.keys c.args.sub c.self.inside.seats.seats c.in-Some.cohort c.get.result.now (within_of (length c.self.inside.keys) c.self.inside.seats.seats c.self.invariant.0.sound) (rw (← c.as_slice.ensures) c.in-Some.ensures.some) c.get.ensures)

pub returns-in-None : goal.returns-in-None
returns-in-None c =
    rw (← c.self.view_is) (ap (option_map (λ (e : Entry). e.binding)) (sym (entry_none c.self.inside.keys c.args.sub c.self.inside.seats.seats (within_of (length c.self.inside.keys) c.self.inside.seats.seats c.self.invariant.0.sound) (rw (← c.as_slice.ensures) c.in-None.ensures.none))))
