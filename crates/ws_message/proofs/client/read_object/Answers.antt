use Rattle.std.proofs.Common.{option_and_then, sym, ap, ◌∙◌}
use Rattle.serde_json.specs.View.{members_view}
use Rattle.ws_message.specs.Forms.{form_of_kind}
use Rattle.ws_message.proofs.ByType.{form_by_kind}
use Rattle.ws_message.proofs.client.read_object.Goals as goal

pub returns-in-Some : goal.returns-in-Some
returns-in-Some c =
    let ms = members_view c.args.map.entries in
    c.read_form.ensures ∙ ap (option_and_then (λ k. form_of_kind k ms)) (sym c.in-Some.is ∙ c.kind_of.ensures) ∙ form_by_kind ms
