-- How long the filters of metadata are, and how many session variables a role names. This project's own.
use Rattle.std.specs.Prelude.{◌≡◌, ℕ, ◌≤◌, List, length, Some}
use Rattle.std.specs.List.{AllByRecursion}
use Rattle.toml.specs.Data.{Members}
use Rattle.role_model.specs.declared.metadata.Document.{Document}
use Rattle.role_model.specs.declared.metadata.Metadata.{Metadata}
use Rattle.role_model.specs.declared.metadata.PermissionEntry.{PermissionEntry}
use Rattle.role_model.specs.declared.metadata.RoleDef.{RoleDef}
use Rattle.role_model.specs.declared.metadata.TableEntry.{TableEntry}
use Rattle.role_model.specs.JsonFilters.{mentions}
use Rattle.role_model.specs.MetadataForm.{document_of}
use Rattle.role_model.specs.MetadataMeaning.{session_names, toml_of, IsMetadata}
use Rattle.role_model.specs.MetadataNames.{json_of}
use Rattle.role_model.specs.Texts.{Text}

-- a filter has at most as many bytes as metadata may have
abbrev pub HasShortFilter : PermissionEntry → Type 0
HasShortFilter p = length p.filter ≤ 1048576

abbrev pub ShortFilters : List TableEntry → Type 0
ShortFilters tables = AllByRecursion (λ t. AllByRecursion HasShortFilter t.select) tables

-- so it is in a document that a text says
abbrev pub FiltersAreShort : Type 0
FiltersAreShort = (text : List ℕ) (ms : Members) (d : Document) → length text ≤ 1048576 → toml_of text ≡ Some ms →
    document_of ms ≡ Some d → ShortFilters d.tables

-- a filter names no more session variables than its text has bytes
abbrev pub MentionsAreFew : Type 0
MentionsAreFew = (text : Text) → length (mentions (json_of text)) ≤ length text

-- 256 tables by 1,048,576 bytes
abbrev pub most_names : ℕ
most_names = 268435456

abbrev pub NamesAreFew : Type 0
NamesAreFew = (tables : List TableEntry) (role : Text) → length tables ≤ 256 → ShortFilters tables →
    length (session_names tables role) ≤ most_names

abbrev pub HasFewNames : RoleDef → Type 0
HasFewNames r = length r.session_names ≤ most_names

abbrev pub RolesHaveFewNames : Type 0
RolesHaveFewNames = (m : Metadata) → IsMetadata m → AllByRecursion HasFewNames m.roles
