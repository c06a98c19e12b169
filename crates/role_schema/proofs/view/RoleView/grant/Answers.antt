use Rattle.std.proofs.Common.{◌∙◌, ap, sym, option_and_then, List}
use Rattle.std.specs.List.{slice_get}
use Rattle.std.specs.Option.{option_copied}
use Rattle.role_model.specs.declared.metadata.Grant.{Grant}
use Rattle.role_model.specs.Roles.{role_of}
use Rattle.role_schema.proofs.NumberPlaces.{grant_of_role}
use Rattle.role_schema.proofs.view.RoleView.grant.Goals as goal

pub returns-in-Some : goal.returns-in-Some
returns-in-Some c =
    let got = c.grant_at.ensures
    ∙ ap (λ (gs : List Grant). option_and_then (slice_get gs) c.grant_place.result) c.as_slice.ensures in
    grant_of_role c.args.table (role_of c.args.self.now) c.in-Some.role.now c.grant_place.result
    (option_copied c.grant_at.result) (sym c.in-Some.ensures) c.grant_place.ensures got
