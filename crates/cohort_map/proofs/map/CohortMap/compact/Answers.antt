use Rattle.std.proofs.Common.{◌∙◌, arith}
use Rattle.cohort_map.specs.Copies.{Copies}
use Rattle.cohort_map.proofs.Copying.{compacted, same_held, no_items}
use Rattle.cohort_map.proofs.map.CohortMap.compact.Goals as goal

pub copy_polled-requires-clause-rise : goal.copy_polled-requires-clause-rise
copy_polled-requires-clause-rise c = rw c.as_slice-2.ensures c.self.invariant.0.rise

pub copy_polled-requires-clause-sound : goal.copy_polled-requires-clause-sound
copy_polled-requires-clause-sound c = rw c.as_slice-2.ensures c.self.invariant.0.sound

pub invariant_of-self : goal.invariant_of-self
invariant_of-self c =
    let from = c.self.inside.keys in
    let seats = c.self.inside.seats.seats in
    let none = no_items c.self.inside.ready.items (omega (arith, c.self.inside.ready.ok.0)) in
    let copies : Copies from seats c.copy_polled.new.keys c.copy_polled.new.seats = rw (← c.as_slice-2.ensures) c.in-Ok.ensures.copies in
    (compacted from c.copy_polled.new.keys seats c.copy_polled.new.seats c.self.inside.ready.items none copies, copies.few, c.in-Ok.ensures.polled)

pub returns-in-Ok : goal.returns-in-Ok
returns-in-Ok c =
    let from = c.self.inside.keys in
    let seats = c.self.inside.seats.seats in
    let none = no_items c.self.inside.ready.items (omega (arith, c.self.inside.ready.ok.0)) in
    let copies : Copies from seats c.copy_polled.new.keys c.copy_polled.new.seats = rw (← c.as_slice-2.ensures) c.in-Ok.ensures.copies in
    same_held from c.copy_polled.new.keys seats c.copy_polled.new.seats c.self.inside.ready.items none copies ∙ c.self.view_is
