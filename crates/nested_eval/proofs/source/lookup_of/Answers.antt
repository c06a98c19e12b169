use Rattle.std.proofs.Common.{◌∙◌, sym, subst}
use Rattle.std.specs.Option.{IfSome}
use Rattle.row_lookup.specs.Ascending.{AscendsIn}
use Rattle.nested_eval.proofs.Shown.{ascends_by}
use Rattle.nested_eval.proofs.source.lookup_of.Goals as goal

pub of-requires : goal.of-requires
of-requires g c =
    let held = c.args.snapshot.now in
    subst (λ rows. IfSome c.args.key (λ column. AscendsIn column rows)) (sym (c.rest-rows.ensures.rows ∙ c.scan.ensures))
    (ascends_by held.catalog.tables held.tables c.args.table c.args.key c.fits.ensures c.requires.key)
