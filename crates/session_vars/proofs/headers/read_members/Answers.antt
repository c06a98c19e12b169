use Rattle.std.proofs.Common.{◌≡◌, ◌∷◌, ◌∙◌, ap, arith}
use Rattle.std.proofs.lemmas.Grind.{common_steps}
use Rattle.serde_json.specs.View.{view, members_view}
use Rattle.serde_json.proofs.Views.{Entry}
use Rattle.role_model.specs.Texts.{Text}
use Rattle.session_vars.specs.Kept.{with_header}
use Rattle.session_vars.proofs.Reading.{reads_on}
use Rattle.session_vars.proofs.headers.read_members.Goals as goal

pub members-preserved : goal.members-preserved
members-preserved c =
    let (can, finite, reading) = c.members.invariant in
    let e : Entry = (c.in-Some.name.now, c.in-Some.value.now) in
    let iter : c.members.name-iterator ≡ e ∷ c.next.new.self = grind (arith, common_steps) in
    let step = c.in_ok-add.ensures ∙ ap (λ (n : Text). with_header n (view e.1) c.members.headers) c.as_str.ensures.value in
    (tt, tt, reads_on c.members.headers _ _ (view e.1) (members_view c.next.new.self) (members_view c.args.members.now.entries) step (rw iter at reading))
