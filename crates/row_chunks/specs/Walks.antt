-- The rows that are left of a walk. This project's own.
use Rattle.std.specs.Prelude.{◌≤◌, List, ◌++◌, length}
use Rattle.row_chunks.specs.Pieces.{AllCounted, rows_in}
use Rattle.row_chunks.specs.declared.walk.Walk.TheInside.{Inside}

abbrev pub rows_left : {A : Type 0} → Inside A → List A
rows_left w = w.front.now ++ (rows_in w.chunks.now ++ rows_in w.branches.now)

-- a part of a chunk, and pieces that have a row each
pub record IsWalk {A : Type 0} (w : Inside A) : Type 0 where
  pub most : length w.front.now ≤ 64
  pub chunks : AllCounted w.chunks.now
  pub branches : AllCounted w.branches.now
