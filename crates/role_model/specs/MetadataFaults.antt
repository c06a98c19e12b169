-- What is wrong with a metadata document that has the right keys: each fault by itself, and the first that holds.
-- This project's own.
use Rattle.std.specs.Prelude.{pos, Bool, true, false, not, ◌&&◌, ◌||◌, List, [], ◌∷◌, length, if◌then◌else◌, nat_lt}
use Rattle.std.specs.Prelude.{is_none, Option, Some, None, codes, map}
use Rattle.std.specs.List.{list_any, flat_map}
use Rattle.std.specs.Str.{bytes_eq}
use Rattle.std.specs.Ordering.{int_eq}
use Rattle.std.specs.Cmp.Lexicographic.{pointwise}
use Rattle.data_model.specs.declared.catalog.Column.{Column}
use Rattle.role_model.specs.declared.metadata.Document.{Document}
use Rattle.role_model.specs.declared.metadata.TableEntry.{TableEntry}
use Rattle.role_model.specs.declared.metadata.LinkEntry.{LinkEntry}
use Rattle.role_model.specs.declared.metadata.MetaFault.{MetaFault}
use Rattle.role_model.specs.declared.metadata.MetaFault.TheVariants.{BadVersion, TooMany, BadName, Duplicate, NoTable}
use Rattle.role_model.specs.declared.metadata.MetaFault.TheVariants.{NoColumn, BadKind, BadRole, BadFilter}
use Rattle.role_model.specs.JsonFilters.{filter_of}
use Rattle.role_model.specs.MetadataNames.{is_own_name, has_twice, links_of, field_names, root_names, table_number, are_one_kind, columns_of, has_column, kind_in, json_of}
use Rattle.role_model.specs.Texts.{Text}

abbrev pub wrong_version : Document → Bool
wrong_version d = not (int_eq d.version (pos 1))

abbrev pub too_many : Document → Bool
too_many d = nat_lt 256 (length d.tables) || list_any (λ t. nat_lt 64 (length t.columns)) d.tables

abbrev pub names_badly : TableEntry → Bool
names_badly t = not (is_own_name t.name) || list_any (λ name. not (is_own_name name)) (field_names t)

abbrev pub bad_name : Document → Bool
bad_name d = list_any names_badly d.tables

abbrev pub repeats_a_name : TableEntry → Bool
repeats_a_name t =
    has_twice (field_names t) || has_twice t.key || has_twice t.unique
    || list_any (λ p. has_twice p.columns) t.select || has_twice (map (λ p. p.role) t.select)

abbrev pub duplicate : Document → Bool
duplicate d = has_twice (flat_map root_names d.tables) || list_any repeats_a_name d.tables

abbrev pub no_table : Document → Bool
no_table d = list_any (λ t. list_any (λ l. is_none (table_number d.tables l.table)) (links_of t)) d.tables

abbrev pub lacks_a_column : List Column → List Text → Bool
lacks_a_column columns names = list_any (λ name. not (has_column columns name)) names

abbrev pub link_lacks_a_column : List TableEntry → TableEntry → LinkEntry → Bool
link_lacks_a_column tables t l = lacks_a_column t.columns l.from || lacks_a_column (columns_of tables l.table) l.to

abbrev pub table_lacks_a_column : List TableEntry → TableEntry → Bool
table_lacks_a_column tables t =
    lacks_a_column t.columns t.key || lacks_a_column t.columns t.unique
    || list_any (link_lacks_a_column tables t) (links_of t)
    || list_any (λ p. lacks_a_column t.columns p.columns) t.select

abbrev pub no_column : Document → Bool
no_column d = list_any (table_lacks_a_column d.tables) d.tables

unfoldable pub links_other_kinds : List TableEntry → TableEntry → LinkEntry → Bool
links_other_kinds tables t l =
    not (pointwise are_one_kind (map (kind_in t.columns) l.from) (map (kind_in (columns_of tables l.table)) l.to))

abbrev pub has_a_bad_kind : List TableEntry → TableEntry → Bool
has_a_bad_kind tables t =
    list_any (λ c. c.nullable && list_any (bytes_eq c.name) t.key) t.columns
    || list_any (links_other_kinds tables t) (links_of t)

abbrev pub bad_kind : Document → Bool
bad_kind d = list_any (has_a_bad_kind d.tables) d.tables

abbrev pub bad_role : Document → Bool
bad_role d = list_any (λ t. list_any (λ p. bytes_eq p.role (codes "admin")) t.select) d.tables

-- whether a value is a filter doesn't depend on the slots
unfoldable pub lacks_a_filter : TableEntry → Bool
lacks_a_filter t = list_any (λ p. is_none (filter_of t.columns [] (json_of p.filter))) t.select

abbrev pub bad_filter : Document → Bool
bad_filter d = list_any lacks_a_filter d.tables

-- the first fault of the list that holds
abbrev pub first_of : List (Bool × MetaFault) → Option MetaFault
first_of [] = None
first_of (f ∷ fs) = if f.0 then Some f.1 else first_of fs

abbrev pub fault_of : Document → Option MetaFault
fault_of d = first_of
    ((wrong_version d, BadVersion) ∷ (too_many d, TooMany) ∷ (bad_name d, BadName) ∷ (duplicate d, Duplicate)
    ∷ (no_table d, NoTable) ∷ (no_column d, NoColumn) ∷ (bad_kind d, BadKind) ∷ (bad_role d, BadRole)
    ∷ (bad_filter d, BadFilter) ∷ [])
