use Rattle.std.proofs.Common.{◌≡◌, false, sym, subst}
use Rattle.std.proofs.lemmas.List.{take_rest}
use Rattle.row_lookup.specs.Ascending.{row_before}
use Rattle.row_lookup.specs.Narrowing.{Narrowed}
use Rattle.row_lookup.proofs.Ascents.{narrowed_from}
use Rattle.row_lookup.proofs.key.from_bound.Goals as goal

pub returns-clause-rows : goal.returns-clause-rows
returns-clause-rows c =
    let rows = c.args.rows.now in
    subst (λ some. Narrowed (λ row. row_before c.args.bound.now row ≡ false) rows some) (sym (take_rest rows c.count_before.result))
    (narrowed_from c.args.bound.now rows c.count_before.result c.count_before.ensures)
