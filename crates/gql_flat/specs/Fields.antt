-- The fields of groups, which are those of an object, and their conflicts.
use Rattle.std.specs.Prelude.{◌≡◌, ◌⊎◌, ◌↔◌, ℕ, zero, suc, ◌+◌, ◌≤◌, ◌<◌, List, map, IsTrue}
use Rattle.std.specs.List.{list_any}
use Rattle.request_model.specs.declared.flat.FlatFault.{FlatFault}
use Rattle.request_model.specs.declared.flat.FlatFault.TheVariants as fault
use Rattle.request_model.specs.declared.flat.FlatField.{FlatField}
use Rattle.request_model.specs.declared.flat.FlatField.TheViews.{roll-FlatField}
use Rattle.request_model.specs.Selection.{
  Scope,
  Group,
  collected,
  inner_set,
  fields_of,
  has_inner,
  fields_down,
  size,
  levels,
  most_fields,
  Some_of,
  Differ,
  FieldsConflict,
}
use Rattle.gql_flat.specs.declared.fields.Tally.{Tally}

-- the field of a group, with the fields in it down to so many levels
abbrev pub field_down : Scope → ℕ → Group → FlatField
field_down s down g = roll-FlatField (record {
  key = g.first.key;
  name = g.first.name;
  args = g.first.args;
  nested = list_any has_inner (fields_of g);
  conditions = (collected s (inner_set g)).conditions;
  fields = fields_down s down (inner_set g);
})

abbrev pub GroupConflicts : Scope → ℕ → Group → Type 0
GroupConflicts s down g = Some_of (Differ g.first) g.others ⊎ FieldsConflict s down (inner_set g)

-- a field of a group differs from the group's first, or of a group in it, down to so many levels
abbrev pub Conflicts : Scope → ℕ → List Group → Type 0
Conflicts s zero gs = ⊥
Conflicts s (suc down) gs = Some_of (GroupConflicts s down) gs

-- these are the fields of the groups; no level is too low, and they are counted
pub record AreFields (s : Scope) (down : ℕ) (gs : List Group) (before after : Tally) (fields : List FlatField) : Type
    0 where
  pub are : fields ≡ map (field_down s down) gs
  pub counted : after.fields ≡ before.fields + size fields
  pub few : after.fields ≤ most_fields
  pub high : levels fields ≤ down
  pub conflict : IsTrue after.conflict ↔ (IsTrue before.conflict ⊎ Conflicts s down gs)

-- the groups have too many fields or levels
abbrev pub AreTooLarge : Scope → ℕ → List Group → ℕ → Type 0
AreTooLarge s down gs before = (down < levels (map (field_down s down) gs))
    ⊎ (most_fields < before + size (map (field_down s down) gs))

-- the field of a group is counted, and whether one of its fields differs from the first
pub record IsCounted (g : Group) (before after : Tally) : Type 0 where
  pub counted : after.fields ≡ before.fields + 1
  pub few : after.fields ≤ most_fields
  pub conflict : IsTrue after.conflict ↔ (IsTrue before.conflict ⊎ Some_of (Differ g.first) g.others)

-- a fault comes when out of memory, or since the selection is too large
abbrev pub FailsSo : FlatFault → Type 0 → Type 0
FailsSo e P = (e ≡ fault.NoMemory) ⊎ ((e ≡ fault.TooLarge) × P)
