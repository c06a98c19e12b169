use Rattle.std.proofs.Common.{◌∙◌, ap}
use Rattle.std.proofs.lemmas.Result.{on_ok_weaker}
use Rattle.query_model.specs.Queries.{slots_by}
use Rattle.selection_plan.specs.SlotRefs.{slots_in}
use Rattle.selection_plan.specs.Gathered.{gathered}
use Rattle.selection_plan.proofs.Tables.{visited_more}
use Rattle.selection_plan.proofs.visits.visit_table.Goals as goal

pub returns-in-Some-clause-visited : goal.returns-in-Some-clause-visited
returns-in-Some-clause-visited c =
    on_ok_weaker c.add_filter.result
    (λ e. visited_more c.args.view.now c.args.visited.now.tables c.insert.new.self c.args.table (slots_in c.args.visited.now.slots) (slots_in c.add_filter.new.slots)
    c.requires c.in_ok-insert.ensures.updates.2
    (e ∙ ap (λ o. gathered (slots_by c.args.view.now c.args.table o) (slots_in c.args.visited.now.slots)) c.in-Some.ensures.value))
    c.add_filter.ensures
