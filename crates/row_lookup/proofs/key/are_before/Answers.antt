use Rattle.std.proofs.Common.{◌∙◌, ◌-◌, ap, sym, arith}
use Rattle.row_lookup.specs.Ascending.{row_before}
use Rattle.row_lookup.proofs.Ascents.{parted_here, below_here}
use Rattle.row_lookup.proofs.Links.{read_row}
use Rattle.row_lookup.proofs.key.are_before.Goals as goal

pub returns-then-count-eq0 : goal.returns-then-count-eq0
returns-then-count-eq0 c = λ h.
    let b = c.args.bound.now in
    let rows = c.args.rows.now in
    let same = read_row rows c.args.count c.index-rows-count.result (omega arith) c.index-rows-count.is in
    parted_here b rows c.args.count c.requires (omega arith)
    (ap (row_before b) same ∙ sym c.stands_before.ensures ∙ c.if-stands_before.false)
    (λ j jc. absurd (omega (arith, c.if-count-eq0.true)))

pub returns : goal.returns
returns c = λ h.
    let b = c.args.bound.now in
    let rows = c.args.rows.now in
    let same = read_row rows c.args.count c.index-rows-count.result (omega arith) c.index-rows-count.is in
    let before = read_row rows (c.args.count - 1) c.index-rows-count-2.result (omega arith) c.index-rows-count-2.is in
    parted_here b rows c.args.count c.requires (omega arith)
    (ap (row_before b) same ∙ sym c.stands_before.ensures ∙ c.if-stands_before.false)
    (below_here b rows c.args.count c.requires (omega arith) (omega arith)
    (ap (row_before b) before ∙ sym c.stands_before-2.ensures ∙ h))
