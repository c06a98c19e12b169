-- A list of texts to which others are only added. This project's own.
use Rattle.std.specs.Prelude.{◌≡◌, List, ◌++◌}
use Rattle.role_model.specs.Texts.{Text}

-- the texts that were there are the beginning of those that are there now
abbrev pub StillBegins : List Text → List Text → Type 0
StillBegins before now = (added : List Text) × (now ≡ before ++ added)
