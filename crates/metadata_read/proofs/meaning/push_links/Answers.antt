use Rattle.std.proofs.Common.{◌≡◌, ◌∷◌, ◌+◌, drop, ap, sym, ◌∙◌}
use Rattle.std.proofs.lemmas.List.{drop_more}
use Rattle.role_model.specs.MetadataMeaning.{link_def}
use Rattle.metadata_read.proofs.Steps.{one_more_made}
use Rattle.metadata_read.proofs.meaning.push_links.Goals as goal

pub loop-link-preserved : goal.loop-link-preserved
loop-link-preserved c =
    let f = link_def c.args.tables.now c.args.table.now c.args.many in
    let xs = c.args.links.now in
    let i = c.loop-link.link-index in
    let x = c.link-item.result in
    let at : drop i xs ≡ x ∷ drop (i + 1) xs = drop_more xs i x c.loop-link-test.true ∙ ap (λ y. y ∷ drop (i + 1) xs) (sym c.link-item.is) in
    one_more_made f c.loop-link.found c.push_link.new.found _ (drop i xs) (drop (i + 1) xs) x c.loop-link.invariant at c.in_ok-push_link.ensures
