use Rattle.std.proofs.Common.{length}
use Rattle.cohort_map.specs.Seats.{IsReadyWithin}
use Rattle.cohort_map.proofs.Alls.{all_at}
use Rattle.cohort_map.proofs.Rehoming.{no_ready, reached_by}
use Rattle.cohort_map.proofs.map.ready_cohort_at.Goals as goal

pub returns-then-is_ready_to : goal.returns-then-is_ready_to
returns-then-is_ready_to c =
    let within = all_at (IsReadyWithin (length c.args.keys.now)) c.args.ready.now c.args.place no_ready c.requires.within c.if-place-ready.true in
    reached_by c.args.keys.now c.args.ready.now c.args.sub c.args.cursor.now c.args.place c.is_ready_to.result
    c.if-place-ready.true within c.if-is_ready_to.true c.is_ready_to.ensures
