-- The permissions of a role, each with its table.
use denote.Ref.{Bor}
use Rattle.std.specs.Prelude.{ℕ, ◌+◌, ◌-◌, Bool, false, ◌==◌, List, [], ◌∷◌, ◌++◌, length, if◌then◌else◌, Option, Some, None, option_map, unwrap_or}
use Rattle.std.specs.List.{filter_map, flat_map, enumerate_from, slice_get}
use Rattle.std.specs.Str.{bytes_eq}
use Rattle.std.specs.Ordering.{nat_cmp}
use Rattle.std.specs.Cmp.Lexicographic.{slice_cmp}
use Rattle.std.specs.BTreeMap.{BTreeMap, get_by}
use Rattle.role_model.specs.Texts.{Text}
use Rattle.role_model.specs.JsonFilters.{distinct, mentions}
use Rattle.role_model.specs.MetadataNames.{json_of}
use Rattle.role_model.specs.MetadataMeaning.{permission_for, grant_of}
use Rattle.role_model.specs.declared.metadata.Grant.{Grant}
use Rattle.role_model.specs.declared.metadata.PermissionEntry.{PermissionEntry}
use Rattle.role_model.specs.declared.metadata.RoleDef.{RoleDef}
use Rattle.role_model.specs.declared.metadata.TableEntry.{TableEntry}

-- a permission, with its table and the table's place
pub record HeldPermission : Type 0 where
  pub at : ℕ
  pub table : TableEntry
  pub permission : PermissionEntry

abbrev pub held_at : ℕ → TableEntry → PermissionEntry → HeldPermission
held_at at t p = record { at = at; table = t; permission = p }

abbrev pub held_for : Text → ℕ × TableEntry → Option HeldPermission
held_for role e = option_map (held_at e.0 e.1) (permission_for role e.1)

-- a role's permissions, at most one of each table
abbrev pub held_of : List TableEntry → Text → List HeldPermission
held_of tables role = filter_map (held_for role) (enumerate_from 0 tables)

-- what these permissions give a role

abbrev pub names_held : List HeldPermission → List Text
names_held held = distinct (flat_map (λ h. mentions (json_of h.permission.filter)) held)

abbrev pub grant_held : List Text → HeldPermission → Option Grant
grant_held names h = grant_of names h.at h.table h.permission

abbrev pub role_held : Text → List HeldPermission → RoleDef
role_held role held = record {
  name = role;
  session_names = names_held held;
  grants = filter_map (grant_held (names_held held)) held;
}

-- permissions that are kept one by one, of which the first of a table counts

abbrev pub is_at : ℕ → Option HeldPermission → Bool
is_at at (Some h) = h.at == at
is_at at None = false

abbrev pub ends_at : List HeldPermission → ℕ → Bool
ends_at held at = is_at at (slice_get held (length held - 1))

abbrev pub with_held : List HeldPermission → HeldPermission → List HeldPermission
with_held held h = if ends_at held h.at then held else held ++ h ∷ []

abbrev pub is_of : Text → HeldPermission → Bool
is_of role h = bytes_eq role h.permission.role

abbrev pub with_one : Text → List HeldPermission → HeldPermission → List HeldPermission
with_one role held h = if is_of role h then with_held held h else held

abbrev pub with_each : Text → ℕ → TableEntry → List HeldPermission → List PermissionEntry → List HeldPermission
with_each role at t held [] = held
with_each role at t held (p ∷ ps) = with_each role at t (with_one role held (held_at at t p)) ps

abbrev pub with_tables : Text → ℕ → List HeldPermission → List TableEntry → List HeldPermission
with_tables role at held [] = held
with_tables role at held (t ∷ ts) = with_tables role (at + 1) (with_each role at t held t.select) ts

-- what a map keeps of a role
abbrev pub kept_by : BTreeMap (Bor Text) (List HeldPermission) → Text → List HeldPermission
kept_by kept role = unwrap_or (get_by (λ k. slice_cmp nat_cmp role k.now) kept) []
