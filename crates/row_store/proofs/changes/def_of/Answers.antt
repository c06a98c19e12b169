use Rattle.std.proofs.Common.{◌∙◌, sym}
use Rattle.std.proofs.lemmas.List.{get_or_read}
use Rattle.std.proofs.lemmas.Option.{unwrap_or-slice_get}
use Rattle.row_store.specs.Held.{no_table}
use Rattle.row_store.proofs.changes.def_of.Goals as goal

pub returns : goal.returns
returns c = get_or_read c.args.defs.now c.args.at c.index-defs-at.result c.requires c.index-defs-at.is no_table ∙ sym (unwrap_or-slice_get c.args.defs.now c.args.at no_table)
