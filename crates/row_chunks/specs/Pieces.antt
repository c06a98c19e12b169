-- A list in pieces, each with its count. This project's own.
use Rattle.std.specs.Prelude.{◌≡◌, ℕ, ◌+◌, ◌<◌, ◌≤◌, List, length, take, slice_index_or}
use Rattle.std.specs.List.{All, flat_map, sum_by}

-- a piece: how many rows it is said to have, and what it holds
pub record Held (N : Type 0) : Type 0 where
  pub count : ℕ
  pub node : N

-- the count is that of the rows, of which there is one at least
pub record IsCounted {T : Type 0} (p : Held (List T)) : Type 0 where
  pub same : p.count ≡ length p.node
  pub some : 0 < p.count

abbrev pub AllCounted : {T : Type 0} → List (Held (List T)) → Type 0
AllCounted pieces = All IsCounted pieces

-- the rows of all pieces, one after the other
abbrev pub rows_in : {T : Type 0} → List (Held (List T)) → List T
rows_in pieces = flat_map (λ p. p.node) pieces

abbrev pub count_in : {N : Type 0} → List (Held N) → ℕ
count_in pieces = sum_by (λ p. p.count) pieces

-- a place by the piece that it is in; the end is in the last piece
pub record IsSpot {N : Type 0} (pieces : List (Held N)) (at index offset : ℕ) : Type 0 where
  pub within : index < length pieces
  pub place : count_in (take index pieces) + offset ≡ at
  pub upto : (d : Held N) → offset ≤ (slice_index_or pieces index d).count
  pub inside : (d : Held N) → at < count_in pieces → offset < (slice_index_or pieces index d).count
