use Rattle.std.proofs.Common.{◌∙◌, ◌++◌, List, sym, ap, arith}
use Rattle.std.proofs.lemmas.List.Edits.{insert-append_right}
use Rattle.row_chunks.proofs.chunk.put_in.Goals as goal

pub returns-clause-rows : goal.returns-clause-rows
returns-clause-rows g c =
    ap (λ (xs : List g.row.T.Denot). c.args.left.items ++ xs) c.in_ok-change_rows-2.ensures.ok ∙ sym (insert-append_right c.args.left.items c.args.right.items 32 c.args.at c.args.row c.requires.left (omega arith))
