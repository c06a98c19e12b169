-- Keys, each at one place, and the index by which a key's place is found.
use Rattle.std.specs.Prelude.{◌≡◌, ℕ, Some, List, slice_get}
use Rattle.std.specs.BTreeMap.{BTreeMap, get}
use Rattle.cohort_map.specs.declared.key.CohortKey.{CohortKey}
use Rattle.cohort_map.specs.Keys.{key_cmp}

pub record IsIndexed (keys : List CohortKey) (places : BTreeMap CohortKey ℕ) : Type 0 where
  pub placed : (i : ℕ) (k : CohortKey) → slice_get keys i ≡ Some k → get key_cmp places k ≡ Some i
  pub found : (i : ℕ) (k : CohortKey) → get key_cmp places k ≡ Some i → slice_get keys i ≡ Some k

-- no key stands at two places
abbrev pub AreApart : List CohortKey → Type 0
AreApart keys = (i j : ℕ) (k : CohortKey) → slice_get keys i ≡ Some k → slice_get keys j ≡ Some k → i ≡ j
