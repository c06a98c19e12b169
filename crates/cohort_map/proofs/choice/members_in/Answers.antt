use Rattle.std.proofs.Common.{◌≡◌, ℕ, List, subst, IfOk}
use Rattle.cohort_map.specs.declared.member.Member.{Member}
use Rattle.cohort_map.specs.Listed.{HasPlaces}
use Rattle.cohort_map.proofs.Due.{members_read}
use Rattle.cohort_map.proofs.choice.members_in.Goals as goal

pub returns-in-Some : goal.returns-in-Some
returns-in-Some c =
    let seats = c.args.seats.now.seats in
    let has = rw c.in-Some.is at c.in_ok-found.ensures in
    let all = subst (λ (cs : List ℕ). HasPlaces seats cs c.in-Some.places.items) c.as_slice.ensures has in
    subst (λ (ms : List Member). IfOk c.members_at.result (λ members. members ≡ ms))
    (members_read seats c.args.cohorts.now c.in-Some.places.items all)
    (rw (← c.as_slice-in-Some.ensures, ← c.deref.ensures.value) c.members_at.ensures)
