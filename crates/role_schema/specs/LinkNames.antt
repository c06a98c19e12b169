-- The names of relationships. This project's own.
use Rattle.std.specs.Prelude.{List, map}
use Rattle.role_model.specs.declared.metadata.LinkDef.{LinkDef}
use Rattle.role_model.specs.JsonFilters.{distinct}
use Rattle.role_model.specs.Texts.{Text}

-- the names of a table's relationships, each once
abbrev pub names_of_links : List LinkDef → List Text
names_of_links links = distinct (map (λ (l : LinkDef). l.name) links)
