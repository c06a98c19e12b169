use Rattle.std.proofs.Common.{◌≡◌, ◌<◌, ◌||◌, ℕ, false, length, take, get_or}
use Rattle.cohort_map.specs.Seats.{is_cohort_busy}
use Rattle.cohort_map.proofs.seat.note_busy.Given as goal

abbrev pub invariant-loop-seat : goal.invariant-loop-seat
invariant-loop-seat l = record {
  len : length l.busy ≡ length l.fn.busy;
  noted : (cohort : ℕ) → cohort < length l.fn.busy → get_or l.busy cohort false ≡ (get_or l.fn.busy cohort false || is_cohort_busy (take l.seat-index l.seats) cohort);
}
