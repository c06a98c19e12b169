use Rattle.std.proofs.Common.{◌≡◌, ◌∙◌, ℕ, List, ap, subst, IfOk}
use Rattle.std.specs.List.{find, filter_map}
use Rattle.cohort_map.specs.declared.member.Member.{Member}
use Rattle.cohort_map.specs.Seats.{seat_due, member_seen}
use Rattle.cohort_map.proofs.Due.{batch_is}
use Rattle.cohort_map.proofs.choice.batch_of.Goals as goal

pub returns-in_ok-cohorts-in-Some : goal.returns-in_ok-cohorts-in-Some
returns-in_ok-cohorts-in-Some c =
    let seats = c.args.seats.now.seats in
    let chosen = rw c.as_slice-all.ensures at c.in_ok-cohorts-in-Some.ensures.chosen in
    subst (λ (ms : List Member). IfOk c.members_in.result (λ members. members ≡ ms))
    (ap (λ (cs : List ℕ). filter_map (member_seen cs) seats) chosen
    ∙ batch_is c.args.keys.now c.args.limit seats (find seat_due seats) c.in-Some.ensures.some.seat c.in-Some.ensures.some.is)
    c.members_in.ensures
