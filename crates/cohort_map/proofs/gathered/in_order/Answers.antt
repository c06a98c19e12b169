use Rattle.std.proofs.lemmas.List.Filters.{dedup_is}
use Rattle.std.proofs.lemmas.List.Kept.{Contains-dedup_nat}
use Rattle.std.proofs.lemmas.List.Sorted.{Contains-permutation}
use Rattle.std.proofs.lemmas.Map.Keys.{IsStrictlyIncreasing-dedup}
use Rattle.cohort_map.proofs.Due.{increasing_ascends}
use Rattle.cohort_map.proofs.gathered.in_order.Goals as goal

pub returns-clause-ascend : goal.returns-clause-ascend
returns-clause-ascend c =
    let is = dedup_is _ _ _ c.dedup.ensures.filtered in
    rw is (increasing_ascends _ (IsStrictlyIncreasing-dedup _ c.sort_unstable.ensures.sorted))

pub returns-clause-keeps : goal.returns-clause-keeps
returns-clause-keeps c p has =
    let is = dedup_is _ _ _ c.dedup.ensures.filtered in
    rw is (Contains-dedup_nat _ p (Contains-permutation _ _ p c.sort_unstable.ensures.permutation has))
