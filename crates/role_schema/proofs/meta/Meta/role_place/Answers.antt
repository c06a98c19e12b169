use Rattle.std.proofs.Common.{◌≡◌, refl, subst, find, option_and_then}
use Rattle.std.specs.List.{slice_get}
use Rattle.std.specs.Str.{bytes_eq}
use Rattle.role_model.specs.declared.metadata.Metadata.{Metadata}
use Rattle.role_model.specs.declared.metadata.RoleDef.{RoleDef}
use Rattle.role_schema.proofs.RoleNames.{found_in}
use Rattle.role_schema.proofs.meta.Meta.role_place.Goals as goal

pub returns : goal.returns
returns c =
    let name = c.args.name.now in
    let at = c.place.result in
    let roles = c.self.inside.said.roles in
    subst
    (λ (m : Metadata). option_and_then (slice_get m.roles) at ≡ find (λ (r : RoleDef). bytes_eq name r.name) m.roles)
    c.self.view_is
    (found_in name roles c.self.inside.role_names at (option_and_then (slice_get roles) at) c.self.invariant.1
    c.place.ensures.first refl)
