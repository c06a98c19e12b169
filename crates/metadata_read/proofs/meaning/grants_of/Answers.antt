use Rattle.std.proofs.Common.{◌≡◌, ◌∷◌, ◌++◌, ◌+◌, drop, ap, sym, ◌∙◌}
use Rattle.std.specs.Option.{option_to_list}
use Rattle.std.proofs.lemmas.List.{drop_more}
use Rattle.metadata_read.specs.Held.{grant_held}
use Rattle.metadata_read.proofs.Steps.{one_more_if_made}
use Rattle.metadata_read.proofs.meaning.grants_of.Goals as goal

pub loop-held-preserved : goal.loop-held-preserved
loop-held-preserved c =
    let f = grant_held c.args.names.now in
    let xs = c.args.own.now in
    let i = c.loop-held.held-index in
    let x = c.held-item.result in
    let at : drop i xs ≡ x ∷ drop (i + 1) xs = drop_more xs i x c.loop-held-test.true ∙ ap (λ y. y ∷ drop (i + 1) xs) (sym c.held-item.is) in
    one_more_if_made f c.loop-held.grants c.push_grant.new.grants _ (drop i xs) (drop (i + 1) xs) x c.loop-held.invariant at (c.in_ok-push_grant.ensures ∙ ap (λ o. c.loop-held.grants ++ option_to_list o) c.in_ok-grant.ensures)
