use Rattle.std.proofs.Common.{◌≡◌, ◌∷◌, sym, ◌∙◌, arith}
use Rattle.std.proofs.lemmas.Grind.{common_steps}
use Rattle.serde_json.proofs.Views.{Entry}
use Rattle.tx_apply.proofs.InOrder.{before_first, first_ascends, name_ascends, read_more, more_ascends}
use Rattle.tx_apply.proofs.members.read_members.Goals as goal

pub members-init : goal.members-init
members-init c =
    let all = c.into_iter-name-iterator.ensures.into_iter_gives ∙ c.iter-name-items.ensures.rest in
    (tt, tt, before_first c.new-cells.result c.into_iter-name-iterator.result c.args.map.now.entries c.new-cells.ensures all, first_ascends c.new-cells.result c.into_iter-name-iterator.result c.args.map.now.entries c.new-cells.ensures all c.iter-name-items.ensures.ordered)

pub add_cell-requires-clause-names : goal.add_cell-requires-clause-names
add_cell-requires-clause-names c =
    let (can, finite, told, rises) = c.members.invariant in
    let e : Entry = (c.in-Some.name.now, c.in-Some.value.now) in
    let iter : c.members.name-iterator ≡ e ∷ c.next.new.self = grind (arith, common_steps) in
    name_ascends c.members.cells c.as_str.result.now c.members.name-iterator c.next.new.self e iter c.as_str.ensures.value rises

pub members-preserved : goal.members-preserved
members-preserved c =
    let (can, finite, told, rises) = c.members.invariant in
    let e : Entry = (c.in-Some.name.now, c.in-Some.value.now) in
    let iter : c.members.name-iterator ≡ e ∷ c.next.new.self = grind (arith, common_steps) in (
      tt,
      tt,
      read_more c.members.cells c.add_cell.new.cells c.members.name-iterator c.next.new.self e c.as_str.result.now c.in-Some-2.value _ iter c.as_str.ensures.value (sym c.in-Some-2.is ∙ c.in_ok-value.ensures) c.in_ok-add_cell.ensures told,
      more_ascends c.members.cells c.add_cell.new.cells c.members.name-iterator c.next.new.self e c.as_str.result.now c.in-Some-2.value iter c.as_str.ensures.value c.in_ok-add_cell.ensures rises,
    )
