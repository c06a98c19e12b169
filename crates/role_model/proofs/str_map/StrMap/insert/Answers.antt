use Rattle.std.proofs.Common.{sym, ◌∙◌, ap, string_bytes}
use Rattle.role_model.specs.Texts.{with_value}
use Rattle.role_model.proofs.StrMaps.{shown, with_value-shown}
use Rattle.role_model.proofs.str_map.StrMap.insert.Goals as goal

pub returns-in-Ok-clause-ok : goal.returns-in-Ok-clause-ok
returns-in-Ok-clause-ok c =
    ap shown c.in-Ok.ensures.entries ∙ sym (with_value-shown c.in_ok-key.key c.args.value c.self.inside.entries.entries)
    ∙ ap (λ m. with_value (string_bytes c.in_ok-key.key) c.args.value m) c.self.view_is ∙ ap (λ n. with_value n c.args.value c.args.self.now) (c.in_ok-key.ensures.ok ∙ c.as_str.ensures)
