-- What a snapshot holds: a catalog, and a database that fits it. This project's own.
use Rattle.std.specs.Prelude.{ℕ, ◌^◌, Bool, ◌&&◌, nat_lt, List, [], length, slice_get, slice_set, unwrap_or}
use Rattle.std.specs.List.{list_all}
use Rattle.data_model.specs.declared.catalog.TableDef.{TableDef}
use Rattle.data_model.specs.declared.catalog.Catalog.{Catalog}
use Rattle.data_model.specs.Rows.{Rows, Database}

pub record Held : Type 0 where
  pub catalog : Catalog
  pub tables : Database

-- the place of each column is a number of 32 bits
abbrev pub has_numbered_columns : TableDef → Bool
has_numbered_columns table = nat_lt (length table.columns) (2 ^ 32)

-- the places of the tables and of their columns are numbers of 32 bits
abbrev pub is_numbered : Catalog → Bool
is_numbered catalog = nat_lt (length catalog.tables) (2 ^ 32) && list_all has_numbered_columns catalog.tables

abbrev pub no_table : TableDef
no_table = record { name = []; columns = []; key = []; unique = []; max_rows = 0 }

abbrev pub def_at : List TableDef → ℕ → TableDef
def_at tables place = unwrap_or (slice_get tables place) no_table

abbrev pub rows_in : Database → ℕ → Rows
rows_in db place = unwrap_or (slice_get db place) []

-- a table's definition and its rows, by its place
abbrev pub table_at : Held → ℕ → TableDef
table_at held place = def_at held.catalog.tables place

abbrev pub rows_at : Held → ℕ → Rows
rows_at held place = rows_in held.tables place

abbrev pub with_rows : Held → ℕ → Rows → Held
with_rows held place rows = record held { tables = slice_set held.tables place rows }
