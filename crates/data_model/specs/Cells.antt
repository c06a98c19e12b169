-- The cells of a transaction: their names ascend, and their values are JSON scalars. This project's own.
use Rattle.std.specs.Prelude.{ℕ, Bool, true, false, ◌&&◌, List, [], ◌∷◌, map}
use Rattle.std.specs.Ordering.{nat_cmp, is_lt}
use Rattle.std.specs.Cmp.Lexicographic.{slice_cmp}
use Rattle.std.specs.List.{list_all}
use Rattle.scalar_val.specs.declared.val.Val.{Val}
use Rattle.scalar_val.specs.declared.val.Val.TheVariants as val
use Rattle.data_model.specs.declared.transaction.TxCell.{TxCell}

-- each text is below every later one, by bytes
abbrev pub ascend : List (List ℕ) → Bool
ascend [] = true
ascend (t ∷ ts) = list_all (λ u. is_lt (slice_cmp nat_cmp t u)) ts && ascend ts

-- null, a boolean, an integer or a string, as JSON has them
abbrev pub is_scalar : Val → Bool
is_scalar val.Null = true
is_scalar (val.Bool b) = true
is_scalar (val.Big z) = true
is_scalar (val.Text t) = true
is_scalar _ = false

abbrev pub are_cells : List TxCell → Bool
are_cells cells = ascend (map (λ c. c.column) cells) && list_all (λ c. is_scalar c.value) cells
