use Rattle.std.proofs.Common.{◌<◌, length, arith}
use Rattle.cohort_map.specs.Seats.{IsReadyTo}
use Rattle.cohort_map.proofs.Polling.{polled_moved}
use Rattle.cohort_map.proofs.Rehoming.{got_within, moved_seated, moved_seen}
use Rattle.cohort_map.proofs.map.CohortMap.rehome.Goals as goal

pub move_to-requires-clause-rise : goal.move_to-requires-clause-rise
move_to-requires-clause-rise c = c.self.invariant.0.rise

pub move_to-requires-clause-within : goal.move_to-requires-clause-within
move_to-requires-clause-within c =
    let keys = c.self.inside.keys in
    let cohort = c.ready_cohort_at-cohort.result in
    let few = c.self.invariant.1 in
    let to : IsReadyTo keys c.self.inside.ready.items c.args.sub c.args.cursor.now cohort = rw (← c.deref.ensures.value) c.ready_cohort_at-cohort.ensures in
    let within : cohort < length keys = got_within keys cohort to.key to.is in
    omega arith

pub invariant_of-self : goal.invariant_of-self
invariant_of-self c =
    let keys = c.self.inside.keys in
    let seats = c.self.inside.seats.seats in
    let ready = c.self.inside.ready.items in
    let cohort = c.ready_cohort_at-cohort.result in
    let to : IsReadyTo keys ready c.args.sub c.args.cursor.now cohort = rw (← c.deref.ensures.value) c.ready_cohort_at-cohort.ensures in
    rw (c.move_to.ensures.seats, c.move_to.ensures.cohorts) (
      moved_seated keys seats ready c.args.sub cohort c.args.cursor.now (got_within keys cohort to.key to.is)
          c.self.invariant.0 to,
      c.self.invariant.1,
      polled_moved keys seats ready c.args.sub cohort c.args.cursor.now c.self.inside.pollers c.self.invariant.0 to
          c.self.invariant.2,
    )

pub returns-clause-entries : goal.returns-clause-entries
returns-clause-entries c =
    let keys = c.self.inside.keys in
    let seats = c.self.inside.seats.seats in
    let ready = c.self.inside.ready.items in
    let cohort = c.ready_cohort_at-cohort.result in
    let to : IsReadyTo keys ready c.args.sub c.args.cursor.now cohort = rw (← c.deref.ensures.value) c.ready_cohort_at-cohort.ensures in
    rw (← c.self.view_is, c.move_to.ensures.seats)
    (moved_seen keys seats ready c.args.sub cohort c.args.cursor.now c.self.invariant.0 to)
