use Rattle.std.proofs.Common.{◌≡◌, ◌∙◌, ap, map, flat_map}
use Rattle.std.proofs.lemmas.Result.{IfOk-weaker}
use Rattle.request_model.specs.declared.flat.FlatField.TheViews.{out-FlatField}
use Rattle.query_model.specs.Queries.{root_tables, root_of, table_slots, selection_slots}
use Rattle.selection_plan.specs.SlotRefs.{slot_said}
use Rattle.selection_plan.specs.Gathered.{gathered_on}
use Rattle.selection_plan.proofs.Gathering.{distinct_now}
use Rattle.selection_plan.proofs.visits.selection_slots.Goals as goal

pub returns : goal.returns
returns c =
    let tables = flat_map (λ f. root_tables c.args.view.now (root_of c.args.view.now c.args.flat.now.kind f) (out-FlatField f).fields) c.args.flat.now.fields in
    IfOk-weaker c.owned_slots.result (λ list. list ≡ map slot_said c.visit_roots.new.visited.slots.keys) (λ slots. slots ≡ selection_slots c.args.view.now c.args.flat.now)
    (λ list e. distinct_now (flat_map (table_slots c.args.view.now) tables) list
    (e ∙ c.in_ok-visit_roots.ensures ∙ ap (λ ks. gathered_on c.args.view.now tables (map slot_said ks)) c.new-2.ensures.empty))
    c.owned_slots.ensures
