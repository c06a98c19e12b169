-- What metadata says, of which a text of at most 1,048,576 bytes is read as one TOML document: tables, relationships,
-- roles and settings, or else the first fault. That a role has at most one permission for a table is Hasura's; the rest
-- is this project's own.
use Rattle.std.specs.Prelude.{◌≡◌, ℕ, Bool, true, false, List, [], ◌∷◌, ◌++◌, length, if◌then◌else◌, nat_lt, unwrap_or}
use Rattle.std.specs.Prelude.{Option, Some, None, option_map, option_and_then, Result, Ok, Err, map, find}
use Rattle.std.specs.List.{flat_map, filter_map, enumerate_from}
use Rattle.std.specs.Str.{bytes_eq, is_utf8}
use Rattle.toml.specs.Data.{Members}
use Rattle.toml.specs.Parse.{parse_document}
use Rattle.data_model.specs.declared.catalog.Column.{Column}
use Rattle.data_model.specs.declared.catalog.TableDef.{TableDef}
use Rattle.role_model.specs.declared.metadata.Document.{Document}
use Rattle.role_model.specs.declared.metadata.TableEntry.{TableEntry}
use Rattle.role_model.specs.declared.metadata.LinkEntry.{LinkEntry}
use Rattle.role_model.specs.declared.metadata.PermissionEntry.{PermissionEntry}
use Rattle.role_model.specs.declared.metadata.LinkDef.{LinkDef}
use Rattle.role_model.specs.declared.metadata.Grant.{Grant}
use Rattle.role_model.specs.declared.metadata.RoleDef.{RoleDef}
use Rattle.role_model.specs.declared.metadata.Metadata.{Metadata}
use Rattle.role_model.specs.declared.metadata.MetaFault.{MetaFault}
use Rattle.role_model.specs.declared.metadata.MetaFault.TheVariants.{TooLong, Toml, BadForm}
use Rattle.role_model.specs.JsonFilters.{filter_of, mentions, distinct, column_number}
use Rattle.role_model.specs.MetadataFaults.{fault_of}
use Rattle.role_model.specs.MetadataForm.{document_of}
use Rattle.role_model.specs.MetadataNames.{table_number, columns_of, json_of}
use Rattle.role_model.specs.Texts.{Text}

-- what a document says where nothing is wrong with it

abbrev pub numbers_of : List Column → List Text → List ℕ
numbers_of columns names = map (λ name. unwrap_or (column_number columns name) 0) names

abbrev pub table_def : TableEntry → TableDef
table_def t = record {
  name = t.name;
  columns = t.columns;
  key = numbers_of t.columns t.key;
  unique = numbers_of t.columns t.unique;
  max_rows = t.max_rows;
}

abbrev pub link_def : List TableEntry → TableEntry → Bool → LinkEntry → LinkDef
link_def tables t many l = record {
  name = l.name;
  many = many;
  table = unwrap_or (table_number tables l.table) 0;
  from = numbers_of t.columns l.from;
  to = numbers_of (columns_of tables l.table) l.to;
}

abbrev pub link_defs : List TableEntry → TableEntry → List LinkDef
link_defs tables t = map (link_def tables t false) t.object ++ map (link_def tables t true) t.array

-- the permission of a table for a role
abbrev pub permission_for : Text → TableEntry → Option PermissionEntry
permission_for role t = find (λ p. bytes_eq role p.role) t.select

abbrev pub mentions_by : Option PermissionEntry → List Text
mentions_by (Some p) = mentions (json_of p.filter)
mentions_by None = []

-- the session variables that a role's filters name, each once
abbrev pub session_names : List TableEntry → Text → List Text
session_names tables role = distinct (flat_map (λ t. mentions_by (permission_for role t)) tables)

abbrev pub grant_of : List Text → ℕ → TableEntry → PermissionEntry → Option Grant
grant_of names number t p = option_map
    (λ filter. record { table = number; columns = numbers_of t.columns p.columns; filter = filter; limit = p.limit })
    (filter_of t.columns names (json_of p.filter))

abbrev pub grant_for : Text → List Text → ℕ × TableEntry → Option Grant
grant_for role names e = option_and_then (grant_of names e.0 e.1) (permission_for role e.1)

abbrev pub role_def : List TableEntry → Text → RoleDef
role_def tables role = record {
  name = role;
  session_names = session_names tables role;
  grants = filter_map (grant_for role (session_names tables role)) (enumerate_from 0 tables);
}

abbrev pub role_names : List TableEntry → List Text
role_names tables = distinct (flat_map (λ t. map (λ p. p.role) t.select) tables)

abbrev pub meaning_of : Document → Metadata
meaning_of d = record {
  catalog = record { tables = map table_def d.tables };
  links = map (link_defs d.tables) d.tables;
  roles = map (role_def d.tables) (role_names d.tables);
  batch_size = d.batch_size;
  refetch_ms = d.refetch_ms;
  secret = d.admin_secret;
  unauthorized_role = d.unauthorized_role;
}

-- what a text says as metadata, or the first fault that holds of it

abbrev pub judged_by : Document → Option MetaFault → Result Metadata MetaFault
judged_by d (Some fault) = Err fault
judged_by d None = Ok (meaning_of d)

abbrev pub formed_by : Option Document → Result Metadata MetaFault
formed_by (Some d) = judged_by d (fault_of d)
formed_by None = Err BadForm

abbrev pub parsed_by : Option Members → Result Metadata MetaFault
parsed_by (Some ms) = formed_by (document_of ms)
parsed_by None = Err Toml

abbrev pub toml_of : List ℕ → Option Members
toml_of text = if is_utf8 text then parse_document text else None

abbrev pub metadata_of : List ℕ → Result Metadata MetaFault
metadata_of text = if nat_lt 1048576 (length text) then Err TooLong else parsed_by (toml_of text)

-- metadata that some text says
abbrev pub IsMetadata : Metadata → Type 0
IsMetadata m = (text : Text) × (metadata_of text ≡ Ok m)
