-- What a role sees of the tables, by its permissions. The role `admin` sees all. The rules are Hasura's; that a
-- relationship is seen where its table is, is this project's own.
use Rattle.std.specs.Prelude.{ℕ, Bool, false, ◌&&◌, ◌||◌, ◌==◌, List, [], if◌then◌else◌, is_some, nat_lt, length}
use Rattle.std.specs.Prelude.{Option, Some, None, option_map, option_and_then, codes, slice_get, position, find}
use Rattle.std.specs.List.{list_any, list_all}
use Rattle.std.specs.Str.{bytes_eq}
use Rattle.data_model.specs.declared.catalog.TableDef.{TableDef}
use Rattle.plan_model.specs.declared.filter.Filter.{Filter}
use Rattle.role_model.specs.declared.metadata.Grant.{Grant}
use Rattle.role_model.specs.declared.metadata.LinkDef.{LinkDef}
use Rattle.role_model.specs.declared.metadata.Metadata.{Metadata}
use Rattle.role_model.specs.declared.metadata.RoleDef.{RoleDef}
use Rattle.role_model.specs.JsonFilters.{column_number}
use Rattle.role_model.specs.Texts.{Text}

-- metadata as one role sees it
pub record View : Type 0 where
  pub metadata : Metadata
  pub role : Text

abbrev pub is_admin : View → Bool
is_admin v = bytes_eq v.role (codes "admin")

-- what the metadata says of the role; nothing where no permission names it
abbrev pub role_of : View → Option RoleDef
role_of v = find (λ r. bytes_eq v.role r.name) v.metadata.roles

abbrev pub grants_by : Option RoleDef → List Grant
grants_by (Some r) = r.grants
grants_by None = []

-- the role's permission for the table of this number
abbrev pub grant_on : View → ℕ → Option Grant
grant_on v table = find (λ g. g.table == table) (grants_by (role_of v))

abbrev pub table_at : View → ℕ → Option TableDef
table_at v table = slice_get v.metadata.catalog.tables table

abbrev pub sees_table : View → ℕ → Bool
sees_table v table = if is_admin v then nat_lt table (length v.metadata.catalog.tables) else is_some (grant_on v table)

-- `o` where `b` holds
abbrev pub only_if : {A : Type 0} → Bool → Option A → Option A
only_if b o = if b then o else None

-- the number of the table of this name
abbrev pub table_seen : View → Text → Option ℕ
table_seen v name =
    option_and_then (λ table. only_if (sees_table v table) (Some table))
    (position (λ (t : TableDef). bytes_eq name t.name) v.metadata.catalog.tables)

abbrev pub grants_column : ℕ → Option Grant → Bool
grants_column column (Some g) = list_any (λ c. c == column) g.columns
grants_column column None = false

abbrev pub sees_column : View → ℕ → ℕ → Bool
sees_column v table column = is_admin v || grants_column column (grant_on v table)

-- the number of the column of this name
abbrev pub column_seen : View → ℕ → Text → Option ℕ
column_seen v table name =
    option_and_then
    (λ (t : TableDef).
    option_and_then (λ column. only_if (sees_column v table column) (Some column)) (column_number t.columns name))
    (table_at v table)

abbrev pub links_at : Option (List LinkDef) → List LinkDef
links_at (Some ls) = ls
links_at None = []

-- the relationship of this name, where the role sees both tables
abbrev pub link_seen : View → ℕ → Text → Option LinkDef
link_seen v table name =
    only_if (sees_table v table)
    (option_and_then (λ (l : LinkDef). only_if (sees_table v l.table) (Some l))
    (find (λ l. bytes_eq name l.name) (links_at (slice_get v.metadata.links table))))

-- the role sees the table and all of its key columns
abbrev pub key_seen : View → ℕ → Bool
key_seen v table = seen_at (table_at v table)
  where
    seen_at : Option TableDef → Bool
    seen_at (Some t) = sees_table v table && list_all (sees_column v table) t.key
    seen_at None = false

-- the filter and the limit of the role's permission
abbrev pub filter_seen : View → ℕ → Option Filter
filter_seen v table = if is_admin v then None else option_map (λ g. g.filter) (grant_on v table)

abbrev pub cap_seen : View → ℕ → Option ℕ
cap_seen v table = if is_admin v then None else option_and_then (λ g. g.limit) (grant_on v table)

-- the session variable of a slot of the role's filters
abbrev pub names_by : Option RoleDef → List Text
names_by (Some r) = r.session_names
names_by None = []

abbrev pub session_name_seen : View → ℕ → Option Text
session_name_seen v slot = slice_get (names_by (role_of v)) slot
