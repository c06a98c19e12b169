-- A table of users for tests: the id is the key, the name is unique or null, and there may be two. This project's own.
use Rattle.std.specs.Prelude.{true, false, List, [], ◌∷◌, codes}
use Rattle.scalar_val.specs.declared.val.Kind.TheVariants as kind
use Rattle.data_model.specs.declared.catalog.Column.{Column}
use Rattle.data_model.specs.declared.catalog.TableDef.{TableDef}

abbrev pub id_column : Column
id_column = record { name = codes "id"; kind = kind.Int; nullable = false }

abbrev pub name_column : Column
name_column = record { name = codes "name"; kind = kind.Text; nullable = true }

abbrev pub users : List TableDef
users = record { name = codes "user"; columns = id_column ∷ name_column ∷ []; key = 0 ∷ []; unique = 1 ∷ []; max_rows = 2 } ∷ []

-- members have a name and a badge, each unique or null, and there may be three
abbrev pub badge_column : Column
badge_column = record { name = codes "badge"; kind = kind.Int; nullable = true }

abbrev pub members : List TableDef
members = record { name = codes "member"; columns = id_column ∷ name_column ∷ badge_column ∷ []; key = 0 ∷ []; unique = 1 ∷ 2 ∷ []; max_rows = 3 } ∷ []
