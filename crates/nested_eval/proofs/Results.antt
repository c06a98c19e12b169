-- The last of the rows that are seen.
use Rattle.std.proofs.Common.{◌≡◌, ◌∙◌, ◌-◌, suc, List, [], ◌∷◌, length, Option, Some, slice_get, unwrap_or, sym, ap}
use Rattle.std.proofs.Common.{arith}
use Rattle.std.specs.Borrow.{Bor}
use Rattle.data_model.specs.Rows.{Row}
use Rattle.plan_model.specs.Outcomes.{last_row}
use Rattle.nested_eval.specs.Seen.{seen}

pub last_seen : (rows : List (Bor Row)) (row : Bor Row) → Some row ≡ slice_get rows (length rows - 1)
    → last_row (seen rows) ≡ row.now
last_seen [] row e = cc
last_seen (r ∷ []) row e = ap (λ (o : Option (Bor Row)). (unwrap_or o r).now) (sym e)
last_seen (r ∷ s ∷ rows) row e =
    let before : length (r ∷ s ∷ rows) - 1 ≡ suc (length (s ∷ rows) - 1) = omega arith in
    last_seen (s ∷ rows) row (e ∙ ap (slice_get (r ∷ s ∷ rows)) before)
