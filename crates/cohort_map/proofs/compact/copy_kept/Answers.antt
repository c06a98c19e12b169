use Rattle.std.proofs.Common.{◌∙◌, sym}
use Rattle.cohort_map.proofs.Copying.{goes, goes_unseen, ok_then}
use Rattle.cohort_map.proofs.compact.copy_kept.Goals as goal

pub copy_seat-requires-clause-within : goal.copy_seat-requires-clause-within
copy_seat-requires-clause-within c = c.requires.sound_seat.within

pub returns-then-is_kept : goal.returns-then-is_kept
returns-then-is_kept c =
    ok_then c.copy_seat.result _ _
    (goes c.args.from.now c.args.seat.now c.args.keys.now c.copy_seat.new.keys c.args.seats.now c.copy_seat.new.seats
    (sym c.is_kept.ensures ∙ c.if-is_kept.true) c.requires.sound_seat)
    c.copy_seat.ensures

pub returns-else-is_kept : goal.returns-else-is_kept
returns-else-is_kept c =
    goes_unseen c.args.from.now c.args.seat.now c.args.keys.now c.args.seats.now (sym c.is_kept.ensures ∙ c.if-is_kept.false)
