use Rattle.std.proofs.Common.{◌≡◌, ◌∷◌, sym, ◌∙◌, ap, arith}
use Rattle.std.proofs.lemmas.Grind.{common_steps}
use Rattle.serde_json.specs.View.{view, members_view}
use Rattle.serde_json.proofs.Views.{Entry}
use Rattle.role_model.specs.JsonFilters.{of_each_member, operator_of}
use Rattle.role_model.specs.Texts.{Text}
use Rattle.filter_read.proofs.Steps.{one_more}
use Rattle.filter_read.proofs.json_filter.read_each_operator.Goals as goal

pub members-preserved : goal.members-preserved
members-preserved c =
    let (can, finite, told) = c.members.invariant in
    let e : Entry = (c.in-Some.name.now, c.in-Some.value.now) in
    let iter : c.members.name-iterator ≡ e ∷ c.next.new.self = grind (arith, common_steps) in
    let read = sym c.in-Some-2.is ∙ c.in_ok-part.ensures ∙ ap (λ (n : Text). operator_of c.args.names.now c.args.column c.args.kind n (view e.1)) c.as_str.ensures.value in
    (tt, tt, one_more c.members.parts _ _ _ (of_each_member (operator_of c.args.names.now c.args.column c.args.kind) (members_view c.next.new.self)) _ (rw iter at told) read c.in_ok-push_filter.ensures)
