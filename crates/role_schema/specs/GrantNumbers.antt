-- The tables and the columns of permissions. This project's own.
use Rattle.std.specs.Prelude.{ℕ, Bool, List, map, is_some, option_and_then, slice_get}
use Rattle.role_model.specs.declared.metadata.Grant.{Grant}
use Rattle.role_model.specs.declared.metadata.RoleDef.{RoleDef}
use Rattle.role_schema.specs.declared.grants.GrantIndex.{GrantIndex}
use Rattle.role_schema.specs.Numbers.{first_number}

abbrev pub tables_of : List Grant → List ℕ
tables_of grants = map (λ (g : Grant). g.table) grants

abbrev pub columns_of : List Grant → List (List ℕ)
columns_of grants = map (λ (g : Grant). g.columns) grants

abbrev pub index_of : RoleDef → GrantIndex
index_of r = record { tables = tables_of r.grants; columns = columns_of r.grants }

-- the first permission for this table has this column
abbrev pub index_has : GrantIndex → ℕ → ℕ → Bool
index_has i table column =
    is_some
    (option_and_then (λ (ns : List ℕ). first_number ns column)
    (option_and_then (slice_get i.columns) (first_number i.tables table)))
