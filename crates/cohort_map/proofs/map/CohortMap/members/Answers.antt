use Rattle.std.proofs.Common.{◌≡◌, ◌∙◌, ℕ, List, ap, sym, subst, length, IfOk}
use Rattle.std.specs.List.{filter}
use Rattle.cohort_map.specs.Entries.{members_by}
use Rattle.cohort_map.specs.Seats.{IsCohortOf, entries_of, seat_numbers, is_live_in}
use Rattle.cohort_map.proofs.Views.{within_of}
use Rattle.cohort_map.proofs.Finding.{members_is, entry_none}
use Rattle.cohort_map.proofs.map.CohortMap.members.Goals as goal

pub returns-in-Some : goal.returns-in-Some
returns-in-Some c =
    let keys = c.self.inside.keys in
    let seats = c.self.inside.seats.seats in
    let cohort = c.in-Some.cohort in
    let of : IsCohortOf c.args.sub seats cohort = rw (← c.as_slice.ensures) c.in-Some.ensures.some in
    let is = members_is keys c.args.sub seats cohort c.apart.ensures (within_of (length keys) seats c.self.invariant.0.sound) of in
    let listed : IfOk c.live_in.result (λ subs. subs ≡ seat_numbers (filter (is_live_in cohort) seats)) = c.live_in.ensures in
    rw (← c.self.view_is) (subst (λ (ns : List ℕ). IfOk c.live_in.result (λ subs. subs ≡ ns)) is listed)

pub returns-in-None : goal.returns-in-None
returns-in-None c =
    rw (← c.self.view_is) (c.new.ensures ∙ ap (members_by (entries_of c.self.inside.keys c.self.inside.seats.seats)) (sym (entry_none c.self.inside.keys c.args.sub c.self.inside.seats.seats (within_of (length c.self.inside.keys) c.self.inside.seats.seats c.self.invariant.0.sound) (rw (← c.as_slice.ensures) c.in-None.ensures.none))))
