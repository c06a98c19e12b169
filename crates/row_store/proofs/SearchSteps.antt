-- The steps of a search among rows that ascend.
use Rattle.std.proofs.Common.{◌≡◌, ℕ, ◌+◌, ◌<◌, ◌≤◌, true, false, zero, suc, List, [], ◌∷◌, length, map, take, drop, get_or, refl, sym, subst, arith}
use Rattle.std.specs.Ordering.{is_lt, is_eq, is_gt}
use Rattle.std.specs.declared.cmp.Ordering.{Ordering}
use Rattle.std.specs.declared.cmp.Ordering.TheVariants.{Less, Equal, Greater}
use Rattle.std.specs.List.{All, list_any}
use Rattle.std.proofs.lemmas.List.{get_or_read}
use Rattle.scalar_val.specs.declared.val.Val.{Val}
use Rattle.data_model.specs.declared.catalog.TableDef.{TableDef}
use Rattle.scalar_val.specs.Values.{cell}
use Rattle.data_model.specs.Rows.{Row, Rows, Ascends, key_cmp, is_below, is_above, has_key, clash}
use Rattle.data_model.specs.Places.{IsFree, IsHeld}
use Rattle.data_model.proofs.Lists.{any_none}
use Rattle.data_model.proofs.Places.{lt_is, below_upto, not_below_from, free_at, held_at}

pub low_step : (t : TableDef) (key : List Val) (rows : Rows) (middle : ℕ) (row : Row) → Ascends t rows → middle < length rows → row ≡ get_or rows middle row → is_below t key row ≡ true → All (λ row. is_below t key row ≡ true) (take (middle + 1) rows)
low_step t key rows middle row up within is below =
    below_upto t key rows middle up within (λ d. lt_is _ (subst (λ r. is_below t key r ≡ true) (get_or_read rows middle row within is d) below))

pub high_step : (t : TableDef) (key : List Val) (rows : Rows) (middle : ℕ) (row : Row) → Ascends t rows → middle < length rows → row ≡ get_or rows middle row → is_below t key row ≡ false → (k : ℕ) (d : Row) → middle ≤ k → k < length rows → is_below t key (get_or rows k d) ≡ false
high_step t key rows middle row up within is below =
    not_below_from t key rows middle up (λ d. subst (λ r. is_below t key r ≡ false) (get_or_read rows middle row within is d) below)

above_else : (o : Ordering) → is_lt o ≡ false → is_eq o ≡ false → is_gt o ≡ true
above_else Less h k = cc
above_else Equal h k = cc
above_else Greater h k = refl

pub held_here : (t : TableDef) (key : List Val) (rows : Rows) (at : ℕ) (row : Row) → Ascends t rows → at < length rows → All (λ row. is_below t key row ≡ true) (take at rows) → row ≡ get_or rows at row → has_key t key row ≡ true → IsHeld t key rows at
held_here t key rows at row up within below is held =
    held_at t key rows at up within below (λ d. subst (λ r. has_key t key r ≡ true) (get_or_read rows at row within is d) held)

pub free_here : (t : TableDef) (key : List Val) (rows : Rows) (at : ℕ) (row : Row) → Ascends t rows → at < length rows → All (λ row. is_below t key row ≡ true) (take at rows) → is_below t key (get_or rows at row) ≡ false → row ≡ get_or rows at row → has_key t key row ≡ false → IsFree t key rows at
free_here t key rows at row up within below not_below is free =
    let above : is_above t key row ≡ true = above_else _ (subst (λ r. is_below t key r ≡ false) (sym is) not_below) free in
    free_at t key rows at up within below (λ d. subst (λ r. is_above t key r ≡ true) (get_or_read rows at row within is d) above)

pub no_unique : (t : TableDef) (cells : Row) (rows : Rows) → t.unique ≡ [] → list_any (clash t cells) rows ≡ false
no_unique t cells rows e = any_none (clash t cells) rows (λ k d within. rw e refl)

-- a key that is longer than another, as far as the other goes
pub longer_key : (row : Row) (columns : List ℕ) (i : ℕ) (rest : List Val) → i < length columns → length rest < 1 → key_cmp (map (cell row) (drop i columns)) rest ≡ Greater
longer_key row [] i rest within short = absurd (omega arith)
longer_key row (c ∷ columns) zero [] within short = refl
longer_key row (c ∷ columns) zero (v ∷ rest) within short = absurd (omega arith)
longer_key row (c ∷ columns) (suc i) rest within short = longer_key row columns i rest (omega arith) short
