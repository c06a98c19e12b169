use Rattle.std.proofs.Common.{◌∙◌, ap, find, option_and_then, List, Option}
use Rattle.std.specs.List.{slice_get}
use Rattle.std.specs.Option.{option_copied}
use Rattle.std.specs.Str.{bytes_eq}
use Rattle.name_set.specs.Names.{Text, first_at}
use Rattle.role_model.specs.declared.metadata.LinkDef.{LinkDef}
use Rattle.role_model.specs.declared.metadata.Metadata.{Metadata}
use Rattle.role_model.specs.Roles.{links_at}
use Rattle.role_schema.proofs.LinkNames.{link_found}
use Rattle.role_schema.proofs.Soundness.{names_are_own}
use Rattle.role_schema.proofs.meta.Meta.link_named.Goals as goal

pub returns : goal.returns
returns c =
    let name = c.args.name.now in
    let table = c.args.table in
    let said = c.self.inside.said in
    let at = c.place_at-place.result in
    let place = c.place_at-place.ensures ∙ ap (option_and_then (λ (ns : List Text). first_at ns name)) c.get.ensures.value in
    let got = c.link_at.ensures
    ∙ ap (λ (ls : Option (List LinkDef)). option_and_then (slice_get (links_at ls)) at) c.get-2.ensures.value in
    link_found name said.links c.self.inside.link_names table at (option_copied c.link_at.result)
    (names_are_own said c.self.invariant.0).links c.self.invariant.4 place got
    ∙ ap (λ (m : Metadata). find (λ (l : LinkDef). bytes_eq name l.name) (links_at (slice_get m.links table)))
    c.self.view_is
