use Rattle.std.proofs.Common.{◌∙◌, ap}
use Rattle.std.specs.List.{list_any}
use Rattle.std.specs.BTreeSet.{contains}
use Rattle.row_store.specs.UniqueKeys.{key_order, keys_at}
use Rattle.row_store.proofs.TakenLaws.{looked_up}
use Rattle.row_store.proofs.taken.look_up.Goals as goal

pub returns : goal.returns
returns c =
    c.any_taken.ensures
    ∙ ap (list_any (contains key_order c.args.taken.now.keys)) (c.as_slice-2.ensures.value ∙ c.in_ok-keys.ensures ∙ ap (λ cs. keys_at cs c.args.cells.now) c.as_slice.ensures)
    ∙ looked_up c.args.table.now c.args.rows.now c.args.cells.now c.args.taken.now c.requires.columns c.requires.stands
