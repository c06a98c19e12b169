-- Roles by the places of their names.
use Rattle.std.proofs.Common.{◌≡◌, ℕ, Option, Some, None, List, map, find, option_and_then, option_map, refl, ap, ◌∙◌}
use Rattle.std.specs.List.{slice_get}
use Rattle.std.specs.Str.{bytes_eq}
use Rattle.name_set.specs.Names.{first_at}
use Rattle.role_model.specs.declared.metadata.RoleDef.{RoleDef}
use Rattle.role_model.specs.Texts.{Text}
use Rattle.role_schema.specs.declared.grants.GrantIndex.{GrantIndex}
use Rattle.role_schema.specs.GrantNumbers.{index_of}
use Rattle.std.proofs.lemmas.Option.{slice_get-map}
use Rattle.role_schema.proofs.FirstPlaces.{first_found}

-- the role of a name stands at the first place of the name
pub found_in : (name : Text) (roles : List RoleDef) (names : List Text) (at : Option ℕ) (r : Option RoleDef) →
    names ≡ map (λ (r : RoleDef). r.name) roles → at ≡ first_at names name → r ≡ option_and_then (slice_get roles) at →
    r ≡ find (λ (r : RoleDef). bytes_eq name r.name) roles
found_in name roles names at r told place got =
    got ∙ ap (option_and_then (slice_get roles)) (place ∙ ap (λ ns. first_at ns name) told)
    ∙ first_found (λ (r : RoleDef). r.name) name roles

mapped_at : (roles : List RoleDef) (o : Option ℕ) →
    option_and_then (slice_get (map index_of roles)) o ≡ option_map index_of (option_and_then (slice_get roles) o)
mapped_at roles (Some at) = slice_get-map index_of roles at
mapped_at roles None = refl

-- the index of its permissions stands at the same place
pub index_in : (roles : List RoleDef) (indexes : List GrantIndex) (at : Option ℕ) (i : Option GrantIndex) →
    indexes ≡ map index_of roles → i ≡ option_and_then (slice_get indexes) at →
    i ≡ option_map index_of (option_and_then (slice_get roles) at)
index_in roles indexes at i indexed got =
    got ∙ ap (λ is. option_and_then (slice_get is) at) indexed ∙ mapped_at roles at
