use Rattle.std.proofs.Common.{◌∙◌, sym}
use Rattle.scalar_val.proofs.OrderLaws.{val_cmp-exact}
use Rattle.row_store.proofs.key_set.is_same.Goals as goal

pub returns-in-Equal : goal.returns-in-Equal
returns-in-Equal c = λ e. val_cmp-exact c.args.a.now c.args.b.now (sym c.cmp.ensures ∙ c.in-Equal.is)
