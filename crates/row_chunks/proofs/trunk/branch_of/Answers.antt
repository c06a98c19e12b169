use Rattle.std.proofs.Common.{◌≡◌, ◌∙◌, ◌<◌, ℕ, List, Result, Ok, Err, length, sym, ap, arith}
use Rattle.std.specs.Prelude.{IfOk}
use Rattle.row_chunks.specs.Pieces.{Held, IsCounted, rows_in}
use Rattle.row_chunks.proofs.Pieces.{counted_rows, some_rows}
use Rattle.row_chunks.proofs.trunk.branch_of.Goals as goal

module _ {T E : Type 0} where
  counted_ok : (r : Result (Held (List T)) E) (n : ℕ) (rows : List T) → n ≡ length rows → 0 < length rows → IfOk r (λ p. p.count ≡ n) → IfOk r (λ p. p.node ≡ rows) → IfOk r (λ p. IsCounted p)
  counted_ok (Ok p) n rows is some count node =
      let same : p.count ≡ length p.node = count ∙ is ∙ sym (ap length node) in
      let m : length p.node ≡ length rows = ap length node in
      record { same = same; some = omega arith }
  counted_ok (Err e) n rows is some count node = tt

pub count_in-count-requires : goal.count_in-count-requires
count_in-count-requires g c = omega (arith, counted_rows c.args.chunks.now c.requires.counted, c.requires.room)

pub returns-clause-counted : goal.returns-clause-counted
returns-clause-counted g c =
    let chunks = c.in_ok-chunks.chunks.items in
    let same : length (rows_in c.args.chunks.now) ≡ length (rows_in chunks) = ap (λ (ps : List (Held (List g.row.T.Denot))). length (rows_in ps)) (sym c.in_ok-chunks.ensures) in
    let some = some_rows c.args.chunks.now c.requires.counted c.requires.some in
    counted_ok c.of.result c.count_in-count.result (rows_in chunks) (c.count_in-count.ensures ∙ counted_rows c.args.chunks.now c.requires.counted ∙ same) (omega (arith, same, some)) c.of.ensures.count c.of.ensures.node
