-- Numbers that are reached along edges.
use Rattle.std.specs.Prelude.{ℕ, ◌+◌, List, [], ◌∷◌, Bool, true, false, nat_eq, nat_lt, slice_index_or, IsTrue}
use Rattle.std.specs.List.{list_any, list_all}

abbrev pub is_in : ℕ → List ℕ → Bool
is_in k xs = list_any (nat_eq k) xs

abbrev pub is_marked : List Bool → ℕ → Bool
is_marked marks k = slice_index_or marks k false

abbrev pub targets_at : List (List ℕ) → ℕ → List ℕ
targets_at edges k = slice_index_or edges k []

-- each number is below n
abbrev pub AreBelow : ℕ → List ℕ → Type 0
AreBelow n xs = IsTrue (list_all (λ k. nat_lt k n) xs)

abbrev pub AllBelow : ℕ → List (List ℕ) → Type 0
AllBelow n edges = IsTrue (list_all (list_all (λ k. nat_lt k n)) edges)

-- how many aren't marked
abbrev pub unmarked : List Bool → ℕ
unmarked [] = 0
unmarked (true ∷ ms) = unmarked ms
unmarked (false ∷ ms) = unmarked ms + 1

-- the start, and what an edge from something reached leads to
pub data Reaches (edges : List (List ℕ)) (start : List ℕ) : ℕ → Type 0 where
  starts : (k : ℕ) → IsTrue (is_in k start) → Reaches edges start k
  goes : (j k : ℕ) → Reaches edges start j → IsTrue (is_in k (targets_at edges j)) → Reaches edges start k

-- some marked one reaches itself
pub record HasCycle (edges : List (List ℕ)) (marks : List Bool) : Type 0 where
  pub at : ℕ
  pub marked : IsTrue (is_marked marks at)
  pub cycle : Reaches edges (targets_at edges at) at
