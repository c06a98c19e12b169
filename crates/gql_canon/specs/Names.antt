-- The order of arguments by name.
use Rattle.std.specs.Ordering.{nat_cmp, on}
use Rattle.std.specs.Cmp.Lexicographic.{slice_cmp}
use Rattle.std.specs.declared.cmp.Ordering.{Ordering}
use Rattle.request_model.specs.declared.document.GPair.{GPair}
use Rattle.request_model.specs.declared.document.GValue.TheViews.{out-GPair}

abbrev pub compare_names : GPair → GPair → Ordering
compare_names = on (λ (p : GPair). (out-GPair p).name) (slice_cmp nat_cmp)
