use Rattle.std.proofs.Common.{◌≡◌, ◌∙◌}
use Rattle.hub.proofs.Tellings.{kept_set}
use Rattle.hub.proofs.telling.kept_text.Goals as goal

pub returns-clause-kept : goal.returns-clause-kept
returns-clause-kept c =
    let same : c.in_ok-shared.shared ≡ c.args.text.now =
    c.in_ok-shared.ensures ∙ c.new.ensures ∙ c.of-copy.ensures ∙ c.in_ok-from_slice.ensures.items
    ∙ c.as_slice.ensures in
    λ texts at all.
    kept_set texts c.args.kept.now.items c.args.place c.args.text.now c.in_ok-shared.shared same at all
