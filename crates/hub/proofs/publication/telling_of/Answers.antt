use Rattle.std.proofs.Common.{◌≡◌, ◌∙◌, sym, ap, subst, Option, length, map, slice_get, IfOk, refl, arith}
use Rattle.std.proofs.lemmas.List.{length-map}
use Rattle.std.proofs.lemmas.Option.{slice_get_read}
use Rattle.std.proofs.lemmas.Slice.Zip.{AllZip-long}
use Rattle.hub_model.specs.declared.telling.Telling.{Telling}
use Rattle.hub.specs.Telling.{IsText, text_of}
use Rattle.hub.proofs.Tellings.{kept_at, text_at, told_is}
use Rattle.hub.proofs.publication.telling_of.Goals as goal

pub telling_by-requires-clause-place : goal.telling_by-requires-clause-place
telling_by-requires-clause-place c =
    omega (
      arith,
      c.if-place-outcomes.false,
      AllZip-long IsText (map text_of c.args.outcomes.now) c.args.kept.now.items c.requires,
      length-map c.args.outcomes.now text_of,
    )

pub telling_by-requires-clause-text : goal.telling_by-requires-clause-text
telling_by-requires-clause-text c =
    let at = slice_get_read c.args.outcomes.now (length c.args.outcomes.now) c.place_of-place.result
    c.index-outcomes-place.result refl c.if-place-outcomes.false c.index-outcomes-place.is in
    kept_at (map text_of c.args.outcomes.now) c.args.kept.now.items c.place_of-place.result
    c.index-outcomes-place.result.text
    (text_at c.args.outcomes.now c.place_of-place.result c.index-outcomes-place.result at)
    c.requires

pub returns-clause-ok : goal.returns-clause-ok
returns-clause-ok c =
    let at = slice_get_read c.args.outcomes.now (length c.args.outcomes.now) c.place_of-place.result
    c.index-outcomes-place.result refl c.if-place-outcomes.false c.index-outcomes-place.is in
    let is = told_is c.args.cohorts.now.entries c.args.held.now c.args.outcomes.now c.args.member.now c.in-Some.held.now
    c.index-outcomes-place.result (sym c.lives.ensures ∙ c.if-not-lives.false) (sym c.in-Some.ensures)
    (ap (slice_get c.args.outcomes.now) (sym c.place_of-place.ensures) ∙ at) in
    subst (λ (t : Option Telling). IfOk c.telling_by.result (λ telling. telling ≡ t)) (sym is) c.telling_by.ensures.ok

pub returns-clause-kept : goal.returns-clause-kept
returns-clause-kept c =
    let at = slice_get_read c.args.outcomes.now (length c.args.outcomes.now) c.place_of-place.result
    c.index-outcomes-place.result refl c.if-place-outcomes.false c.index-outcomes-place.is in
    c.telling_by.ensures.kept (map text_of c.args.outcomes.now)
    (text_at c.args.outcomes.now c.place_of-place.result c.index-outcomes-place.result at) c.requires
