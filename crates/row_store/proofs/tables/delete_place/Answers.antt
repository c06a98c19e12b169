use Rattle.std.proofs.Common.{[], sym}
use Rattle.data_model.proofs.Places.{deleted_at}
use Rattle.data_model.proofs.Fitting.{fits_remove}
use Rattle.data_model.proofs.Reasons.{nothing_to_delete, may_delete}
use Rattle.row_store.proofs.tables.delete_place.Goals as goal

pub returns-in-Ok-clause-within : goal.returns-in-Ok-clause-within
returns-in-Ok-clause-within c = c.in-Ok.ensures.ok.within

pub returns-in-Ok-clause-made : goal.returns-in-Ok-clause-made
returns-in-Ok-clause-made c = sym (deleted_at c.args.table.now c.args.key.now c.args.rows.now c.in-Ok.at [] c.in-Ok.ensures.ok)

pub returns-in-Ok-clause-fits : goal.returns-in-Ok-clause-fits
returns-in-Ok-clause-fits c = fits_remove c.args.table.now c.args.rows.now c.in-Ok.at [] c.in-Ok.ensures.ok.within c.requires.fits

pub returns-in-Ok-clause-none : goal.returns-in-Ok-clause-none
returns-in-Ok-clause-none c = sym (may_delete c.args.table.now c.args.key.now c.args.rows.now c.in-Ok.at [] c.in-Ok.ensures.ok)

pub returns-in-Err-clause-refused : goal.returns-in-Err-clause-refused
returns-in-Err-clause-refused c = sym (nothing_to_delete c.args.table.now c.args.key.now c.args.rows.now c.in-Err.field-0 c.in-Err.ensures.err)
