use Rattle.std.proofs.Common.{◌∙◌, ap}
use Rattle.std.specs.BTreeSet.{contains}
use Rattle.row_store.specs.UniqueKeys.{key_order, keys_at}
use Rattle.row_store.proofs.TakenLaws.{grow}
use Rattle.row_store.proofs.taken.grown.Goals as goal

pub returns : goal.returns
returns c = λ rows at held key.
    grow c.args.taken.columns rows at c.args.cells.now key c.in_ok-own.own.items _ (contains key_order c.args.taken.keys key)
    (held key) (c.in_ok-own.ensures ∙ ap (λ cs. keys_at cs c.args.cells.now) c.as_slice.ensures) (c.in_ok-put_keys.ensures key)
