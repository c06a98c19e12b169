use Rattle.std.proofs.Common.{option_map, ap, ◌∙◌, List}
use Rattle.serde_json.specs.Find.{get_member}
use Rattle.serde_json.specs.View.{view, members_view}
use Rattle.serde_json.proofs.Views.{Entry, view-lookup}
use Rattle.ws_message.proofs.Others.{others_kept}
use Rattle.ws_message.proofs.members.take.Goals as goal

pub returns-clause-value : goal.returns-clause-value
returns-clause-value c = ap (option_map view) c.remove.ensures.value ∙ view-lookup c.args.name.now c.args.map.now.entries

pub returns-clause-others : goal.returns-clause-others
returns-clause-others c = λ key apart. ap (λ (es : List Entry). get_member key (members_view es)) c.remove.ensures.entries ∙ others_kept key c.args.name.now c.args.map.now.entries apart
