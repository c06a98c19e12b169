use Rattle.std.proofs.Common.{◌≡◌, List, subst, IfOk}
use Rattle.cohort_map.specs.declared.member.Member.{Member}
use Rattle.cohort_map.proofs.Chosen.{batch_seen}
use Rattle.cohort_map.proofs.map.CohortMap.batch.Goals as goal

pub returns : goal.returns
returns c =
    let map = c.self.inside in
    let same = batch_seen map.keys c.args.limit map.seats.seats c.apart.ensures c.self.invariant.0.sound in
    rw (← c.self.view_is) (subst (λ (b : List Member). IfOk c.batch_of.result (λ members. members ≡ b)) same c.batch_of.ensures)
