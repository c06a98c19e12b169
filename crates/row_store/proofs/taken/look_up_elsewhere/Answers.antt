use Rattle.std.proofs.Common.{◌&&◌, not, ◌∙◌, ap}
use Rattle.std.specs.List.{list_any}
use Rattle.std.specs.BTreeSet.{contains}
use Rattle.data_model.specs.Rows.{Row}
use Rattle.row_store.specs.UniqueKeys.{key_order, has_value, keys_at}
use Rattle.row_store.proofs.TakenLaws.{looked_up_elsewhere}
use Rattle.row_store.proofs.taken.look_up_elsewhere.Goals as goal

pub returns : goal.returns
returns c =
    c.any_taken_by_another.ensures
    ∙ ap (λ (row : Row). list_any (λ key. contains key_order c.args.taken.now.keys key && not (has_value key row)) c.as_slice-2.result.now) (c.cells.ensures ∙ c.index-rows-at.is)
    ∙ ap (list_any (λ key. contains key_order c.args.taken.now.keys key && not (has_value key _))) (c.as_slice-2.ensures.value ∙ c.in_ok-keys.ensures ∙ ap (λ cs. keys_at cs c.args.cells.now) c.as_slice.ensures)
    ∙ looked_up_elsewhere c.args.table.now c.args.rows.now c.args.at c.index-rows-at.result c.args.cells.now c.args.taken.now c.requires.fits c.requires.range c.requires.columns c.requires.stands
