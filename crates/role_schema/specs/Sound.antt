-- What holds of all metadata that is read: numbers are those of tables and columns, settings are in their ranges, roles
-- name few session variables, and filters fit the rows of their tables. This project's own.
use Rattle.std.specs.Prelude.{ℕ, ◌≤◌, ◌<◌, Bool, false, not, List, [], ◌∷◌, length, map, nat_lt, Option, Some, None, option_map, slice_get, IsTrue, ⊤}
use Rattle.std.specs.List.{list_all, AllByRecursion}
use Rattle.std.specs.Cmp.Lexicographic.{pointwise}
use Rattle.scalar_val.specs.declared.val.Kind.{Kind}
use Rattle.data_model.specs.declared.catalog.Column.{Column}
use Rattle.data_model.specs.declared.catalog.TableDef.{TableDef}
use Rattle.plan_model.specs.declared.filter.Binding.{Binding}
use Rattle.plan_model.specs.declared.filter.Filter.{Filter}
use Rattle.role_model.specs.declared.metadata.Grant.{Grant}
use Rattle.role_model.specs.declared.metadata.LinkDef.{LinkDef}
use Rattle.role_model.specs.declared.metadata.Metadata.{Metadata}
use Rattle.role_model.specs.declared.metadata.RoleDef.{RoleDef}
use Rattle.role_model.specs.MetadataNames.{are_one_kind}
use Rattle.metadata_bounds.specs.Names.{HasFewNames}
use Rattle.role_model.specs.Texts.{Text}
use Rattle.plan_model.specs.FilterFits.{fits}

-- the columns of the table of this number; none where there is no such table
abbrev pub columns_in : Option TableDef → List Column
columns_in (Some t) = t.columns
columns_in None = []

abbrev pub columns_at : List TableDef → ℕ → List Column
columns_at tables number = columns_in (slice_get tables number)

abbrev pub is_column : List Column → ℕ → Bool
is_column columns number = nat_lt number (length columns)

-- a column in which null never stands
abbrev pub is_never_null : Option Column → Bool
is_never_null (Some c) = not c.nullable
is_never_null None = false

abbrev pub kind_at : List Column → ℕ → Option Kind
kind_at columns number = option_map (λ c. c.kind) (slice_get columns number)

-- A table has at most 64 columns, and a key of some of those that are never null.
pub record SoundTable (t : TableDef) : Type 0 where
  pub few_columns : length t.columns ≤ 64
  pub keyed : 0 < length t.key
  pub key : IsTrue (list_all (λ c. is_never_null (slice_get t.columns c)) t.key)
  pub unique : IsTrue (list_all (is_column t.columns) t.unique)
  pub room : (1 ≤ t.max_rows) × (t.max_rows ≤ 1048576)

-- A relationship leads from these columns to equally many of another table, of the same kinds.
pub record SoundLink (tables : List TableDef) (columns : List Column) (l : LinkDef) : Type 0 where
  pub table : l.table < length tables
  pub filled : 0 < length l.from
  pub from : IsTrue (list_all (is_column columns) l.from)
  pub to : IsTrue (list_all (is_column (columns_at tables l.table)) l.to)
  pub kinds : IsTrue (pointwise are_one_kind (map (kind_at columns) l.from) (map (kind_at (columns_at tables l.table)) l.to))

-- the relationships of each table
abbrev pub SoundLinks : List TableDef → List TableDef → List (List LinkDef) → Type 0
SoundLinks tables [] [] = ⊤
SoundLinks tables (t ∷ ts) (ls ∷ rest) = AllByRecursion (SoundLink tables t.columns) ls × SoundLinks tables ts rest
SoundLinks tables [] (ls ∷ rest) = ⊥
SoundLinks tables (t ∷ ts) [] = ⊥

-- A filter fits rows of so many columns, with a value for each of these session variables.
abbrev pub FitsRows : ℕ → List Text → Filter → Type 0
FitsRows columns names filter = (b : Binding) → length names ≤ length b.session → IsTrue (fits columns b filter)

-- A permission is for a table, and its filter fits the rows of it.
pub record SoundGrant (tables : List TableDef) (names : List Text) (g : Grant) : Type 0 where
  pub table : g.table < length tables
  pub columns : IsTrue (list_all (is_column (columns_at tables g.table)) g.columns)
  pub filter : FitsRows (length (columns_at tables g.table)) names g.filter

abbrev pub SoundRole : List TableDef → RoleDef → Type 0
SoundRole tables r = AllByRecursion (SoundGrant tables r.session_names) r.grants

pub record Sound (m : Metadata) : Type 0 where
  pub few_tables : length m.catalog.tables ≤ 256
  pub tables : AllByRecursion SoundTable m.catalog.tables
  pub links : SoundLinks m.catalog.tables m.catalog.tables m.links
  pub roles : AllByRecursion (SoundRole m.catalog.tables) m.roles
  pub few_names : AllByRecursion HasFewNames m.roles
  pub batch_size : (1 ≤ m.batch_size) × (m.batch_size ≤ 1000)
  pub refetch_ms : (1 ≤ m.refetch_ms) × (m.refetch_ms ≤ 3600000)
