use Rattle.std.proofs.Common.{◌≡◌, ◌∙◌, ◌++◌, ◌-◌, List, length, take, drop, sym, ap, subst, arith}
use Rattle.std.specs.Prelude.{IfOk}
use Rattle.std.specs.List.{insert}
use Rattle.std.proofs.lemmas.List.{length-take, length-take-le, length-drop, take_rest, take-append-drop}
use Rattle.row_chunks.proofs.chunk.divided.Goals as goal

pub slice_bounds-copy_rows-end : goal.slice_bounds-copy_rows-end
slice_bounds-copy_rows-end g c =
    let n : length c.as_slice-rows.result.now ≡ length c.args.chunk.now = ap length c.as_slice-rows.ensures.rows in
    sym (length-take-le 32 c.as_slice-rows.result.now (omega arith))

pub copy_rows-requires : goal.copy_rows-requires
copy_rows-requires g c = omega (arith, length-take 32 c.as_slice-rows.result.now)

pub returns-in_err-left-clause-steps : goal.returns-in_err-left-clause-steps
returns-in_err-left-clause-steps g c = omega (arith, length-take 32 c.as_slice-rows.result.now, c.copy_rows.ensures.steps)

pub returns-in_err-right-clause-steps : goal.returns-in_err-right-clause-steps
returns-in_err-right-clause-steps g c =
    let rows = c.as_slice-rows.result.now in
    let n : length rows ≡ length c.args.chunk.now = ap length c.as_slice-rows.ensures.rows in
    omega (arith, length-take 32 rows, length-take (length rows - 32) (drop 32 rows), length-drop 32 rows, c.copy_rows.ensures.steps, c.copy_rows-2.ensures.steps, c.as_slice-rows.ensures.most)

pub put_in-requires-clause-left : goal.put_in-requires-clause-left
put_in-requires-clause-left g c =
    let n : length c.as_slice-rows.result.now ≡ length c.args.chunk.now = ap length c.as_slice-rows.ensures.rows in
    ap length c.in_ok-left.ensures.equal ∙ length-take-le 32 c.as_slice-rows.result.now (omega arith)

pub returns-clause-rows : goal.returns-clause-rows
returns-clause-rows g c =
    let rows = c.as_slice-rows.result.now in
    let right = c.in_ok-right.ensures.equal ∙ take_rest rows 32 in
    let whole : c.in_ok-left.left.items ++ c.in_ok-right.right.items ≡ c.args.chunk.now =
    ap (λ (xs : List g.row.T.Denot). xs ++ c.in_ok-right.right.items) c.in_ok-left.ensures.equal ∙ ap (λ (xs : List g.row.T.Denot). take 32 rows ++ xs) right ∙ take-append-drop 32 rows ∙ c.as_slice-rows.ensures.rows in
    subst (λ (xs : List g.row.T.Denot). IfOk c.put_in.result (λ halves. halves.left ++ halves.right ≡ insert xs c.args.at c.args.row)) whole c.put_in.ensures.rows

pub returns-clause-steps : goal.returns-clause-steps
returns-clause-steps g c =
    let rows = c.as_slice-rows.result.now in
    let n : length rows ≡ length c.args.chunk.now = ap length c.as_slice-rows.ensures.rows in
    omega (arith, length-take 32 rows, length-take (length rows - 32) (drop 32 rows), length-drop 32 rows, c.copy_rows.ensures.steps, c.copy_rows-2.ensures.steps, c.as_slice-rows.ensures.most)
