use Rattle.std.proofs.Common.{sym, ◌∙◌, ap}
use Rattle.role_model.specs.Texts.{value_of}
use Rattle.role_model.proofs.StrMaps.{value_of-shown}
use Rattle.role_model.proofs.str_map.StrMap.get.Goals as goal

pub returns : goal.returns
returns c = c.get.ensures.value ∙ sym (value_of-shown c.args.name.now c.self.inside.entries.entries) ∙ ap (value_of c.args.name.now) c.self.view_is
