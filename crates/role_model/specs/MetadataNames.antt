-- Names in a metadata document, and what they name there. What a name is, and that those which begin with `__` are
-- reserved, comes from GraphQL October 2021 (2.1.9 Names). The names of root fields are Hasura's; the rest is this
-- project's own.
use Rattle.std.specs.Prelude.{ℕ, Bool, true, false, not, ◌&&◌, ◌||◌, ◌==◌, List, [], ◌∷◌, ◌++◌, nat_eq, unwrap_or}
use Rattle.std.specs.Prelude.{Option, Some, None, option_map, codes, map, position, find}
use Rattle.std.specs.List.{list_any, list_all, starts_with}
use Rattle.std.specs.Str.{bytes_eq}
use Rattle.std.specs.Char.{is_ascii_alphabetic, is_ascii_digit}
use Rattle.serde_json.specs.Data as json
use Rattle.serde_json.specs.Read.{read}
use Rattle.scalar_val.specs.declared.val.Kind.{Kind}
use Rattle.scalar_val.specs.Values.{same_kind}
use Rattle.data_model.specs.declared.catalog.Column.{Column}
use Rattle.role_model.specs.declared.metadata.TableEntry.{TableEntry}
use Rattle.role_model.specs.declared.metadata.LinkEntry.{LinkEntry}
use Rattle.role_model.specs.Texts.{Text}

abbrev pub begins_name : ℕ → Bool
begins_name c = is_ascii_alphabetic c || c == 95

abbrev pub goes_on_name : ℕ → Bool
goes_on_name c = begins_name c || is_ascii_digit c

abbrev pub is_graphql_name : Text → Bool
is_graphql_name [] = false
is_graphql_name (c ∷ cs) = begins_name c && list_all goes_on_name cs

abbrev pub is_own_name : Text → Bool
is_own_name name = is_graphql_name name && not (starts_with nat_eq name (codes "__"))

abbrev pub has_twice : List Text → Bool
has_twice [] = false
has_twice (x ∷ xs) = list_any (bytes_eq x) xs || has_twice xs

abbrev pub links_of : TableEntry → List LinkEntry
links_of t = t.object ++ t.array

-- the names of a table's columns and relationships
abbrev pub field_names : TableEntry → List Text
field_names t = map (λ c. c.name) t.columns ++ map (λ l. l.name) (links_of t)

-- the names of the root fields of a table
abbrev pub root_names : TableEntry → List Text
root_names t = t.name ∷ (t.name ++ codes "_by_pk") ∷ (t.name ++ codes "_stream") ∷ []

abbrev pub table_number : List TableEntry → Text → Option ℕ
table_number tables name = position (λ t. bytes_eq name t.name) tables

-- the columns of the table of this name
abbrev pub columns_by : Option TableEntry → List Column
columns_by (Some t) = t.columns
columns_by None = []

abbrev pub columns_of : List TableEntry → Text → List Column
columns_of tables name = columns_by (find (λ t. bytes_eq name t.name) tables)

abbrev pub has_column : List Column → Text → Bool
has_column columns name = list_any (λ c. bytes_eq name c.name) columns

abbrev pub kind_in : List Column → Text → Option Kind
kind_in columns name = option_map (λ c. c.kind) (find (λ c. bytes_eq name c.name) columns)

abbrev pub are_one_kind : Option Kind → Option Kind → Bool
are_one_kind (Some a) (Some b) = same_kind a b
are_one_kind _ _ = false

-- the value of the JSON text
abbrev pub json_of : Text → json.Data
json_of text = unwrap_or (read text) json.null
