use Rattle.std.proofs.Common.{rules, ◌≡◌, unwrap_or, Some, drop, take}
use Rattle.plan_model.specs.Taken.{at_most}
use Rattle.plan_model.specs.Planned.{number_bound}
use Rattle.nested_eval.proofs.Cuts.{seen-listed, seen-next}
use Rattle.nested_eval.proofs.cut.trimmed.Goals as goal

pub returns-in-List : goal.returns-in-List
returns-in-List c =
    let s = c.args.select.now in
    let b = c.args.binding.now in
    let rows = c.args.rows.now in
    let is : c.at_most.result.now
    ≡ at_most s.cap (at_most (number_bound b s.limit) (drop (unwrap_or (number_bound b s.offset) 0) rows)) =
    search rules in
    rw (is, c.in-List.is) (seen-listed s.cap (number_bound b s.limit) (unwrap_or (number_bound b s.offset) 0) rows)

pub returns-in-Stream : goal.returns-in-Stream
returns-in-Stream c =
    let s = c.args.select.now in
    let b = c.args.binding.now in
    let rows = c.args.rows.now in
    let is : c.at_most-in-Stream-2.result.now
    ≡ at_most s.cap (take (unwrap_or (number_bound b (Some c.in-Stream.batch)) 0) rows) = search rules in
    rw (is, c.in-Stream.is) (seen-next s.cap (unwrap_or (number_bound b (Some c.in-Stream.batch)) 0) rows)
