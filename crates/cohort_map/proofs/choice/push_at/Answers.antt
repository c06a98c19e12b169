use Rattle.std.proofs.Common.{◌∙◌, ◌++◌, Option, ap, sym}
use Rattle.std.specs.Option.{option_to_list}
use Rattle.std.proofs.lemmas.List.{append-nil}
use Rattle.cohort_map.specs.declared.seat.Seat.{Seat}
use Rattle.cohort_map.specs.Listed.{seen_by}
use Rattle.cohort_map.proofs.Due.{past_end}
use Rattle.cohort_map.proofs.choice.push_at.Goals as goal

pub returns-in-None : goal.returns-in-None
returns-in-None c =
    sym (append-nil c.args.members.now)
    ∙ ap (λ (o : Option Seat). c.args.members.now ++ option_to_list (seen_by c.args.cohorts.now o)) (past_end c.args.seats.now c.args.place c.in-None.ensures.lookup.3)
