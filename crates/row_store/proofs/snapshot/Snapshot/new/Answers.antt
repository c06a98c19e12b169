use Rattle.std.proofs.Common.{◌∙◌, map, IsTrue, sym, subst}
use Rattle.std.specs.Arc.{arc_value}
use Rattle.data_model.specs.declared.catalog.Catalog.{Catalog}
use Rattle.row_store.specs.Held.{is_numbered}
use Rattle.row_store.proofs.TableSteps.{empty_fits}
use Rattle.row_store.proofs.snapshot.Snapshot.new.Goals as goal

pub invariant_of-result : goal.invariant_of-result
invariant_of-result c =
    let same = c.in_ok-catalog.ensures.ok ∙ c.in_ok-copy_catalog.ensures in (
      empty_fits c.args.catalog.now (arc_value c.in_ok-catalog.catalog) c.as_slice.result.now (map (λ rows. arc_value rows) c.in_ok-tables.tables.items)
          same c.as_slice.ensures c.in_ok-tables.ensures,
      subst (λ (k : Catalog). IsTrue (is_numbered k)) (sym same) c.requires,
    )
