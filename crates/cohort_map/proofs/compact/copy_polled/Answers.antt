use Rattle.std.proofs.Common.{length}
use Rattle.cohort_map.proofs.Views.{within_of}
use Rattle.cohort_map.proofs.compact.copy_polled.Goals as goal

pub list_all-requires : goal.list_all-requires
list_all-requires c =
    rw c.as_slice.ensures
    (within_of (length c.copy_all.new.keys) c.copy_all.new.seats.seats c.in_ok-copy_all.ensures.sound)
