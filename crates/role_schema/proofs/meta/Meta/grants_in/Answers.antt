use Rattle.std.proofs.Common.{◌∙◌, ap, option_and_then, option_map, List}
use Rattle.std.specs.List.{slice_get}
use Rattle.std.specs.Option.{option_copied}
use Rattle.role_model.specs.declared.metadata.Metadata.{Metadata}
use Rattle.role_schema.specs.declared.grants.GrantIndex.{GrantIndex}
use Rattle.role_schema.specs.GrantNumbers.{index_of}
use Rattle.role_schema.proofs.RoleNames.{index_in}
use Rattle.role_schema.proofs.meta.Meta.grants_in.Goals as goal

pub returns : goal.returns
returns c =
    let at = c.args.place in
    let got = c.index_at.ensures
    ∙ ap (λ (is : List GrantIndex). option_and_then (slice_get is) at) c.as_slice.ensures in
    index_in c.self.inside.said.roles c.self.inside.grants at (option_copied c.index_at.result) c.self.invariant.5 got
    ∙ ap (λ (m : Metadata). option_map index_of (option_and_then (slice_get m.roles) at)) c.self.view_is
