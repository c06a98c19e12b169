use Rattle.std.proofs.lemmas.Result.{on_ok_weaker}
use Rattle.query_model.specs.Queries.{filter_slots}
use Rattle.selection_plan.specs.SlotRefs.{slots_in}
use Rattle.selection_plan.proofs.FilterForms.{parts_gathered}
use Rattle.selection_plan.proofs.Gathering.{gathered_more}
use Rattle.selection_plan.proofs.filter_slots.+parts.Goals as goal

pub add_filter-returns-in-And : goal.add_filter-returns-in-And
add_filter-returns-in-And t c =
    on_ok_weaker c.add_filters.result
    (λ e. parts_gathered c.args.view.now c.args.table c.args.filter.now _ c.as_slice.result.now (slots_in c.args.slots.now) (slots_in c.add_filters.new.slots) c.in-And.is c.as_slice.ensures e)
    c.add_filters.ensures

pub add_filters-loop-filter-preserved : goal.add_filters-loop-filter-preserved
add_filters-loop-filter-preserved t c =
    gathered_more (λ filter. filter_slots c.args.view.now filter c.args.table) c.args.filters.now c.loop-filter.filter-index c.filter-item.result
    (slots_in c.loop-filter.slots) (slots_in c.add_filter.new.slots) _ c.loop-filter-test.true c.filter-item.is c.in_ok-add_filter.ensures c.loop-filter.invariant
