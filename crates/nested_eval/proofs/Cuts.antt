-- What is seen of the rows that are cut.
use Rattle.std.proofs.Common.{◌≡◌, ◌∙◌, ℕ, List, Option, Some, None, refl, sym, ap, take, drop}
use Rattle.std.specs.Borrow.{Bor}
use Rattle.std.proofs.lemmas.List.{take-map, drop-map}
use Rattle.data_model.specs.Rows.{Row}
use Rattle.plan_model.specs.Taken.{at_most}
use Rattle.nested_eval.specs.Seen.{seen}

pub seen-at_most : (n : Option ℕ) (rows : List (Bor Row)) → seen (at_most n rows) ≡ at_most n (seen rows)
seen-at_most (Some n) rows = sym (take-map (λ row. row.now) n rows)
seen-at_most None rows = refl

pub seen-listed : (cap limit : Option ℕ) (n : ℕ) (rows : List (Bor Row))
    → seen (at_most cap (at_most limit (drop n rows))) ≡ at_most cap (at_most limit (drop n (seen rows)))
seen-listed cap limit n rows =
    seen-at_most cap (at_most limit (drop n rows))
    ∙ ap (at_most cap) (seen-at_most limit (drop n rows) ∙ ap (at_most limit) (sym (drop-map (λ row. row.now) n rows)))

pub seen-next : (cap : Option ℕ) (n : ℕ) (rows : List (Bor Row))
    → seen (at_most cap (take n rows)) ≡ at_most cap (take n (seen rows))
seen-next cap n rows = seen-at_most cap (take n rows) ∙ ap (at_most cap) (sym (take-map (λ row. row.now) n rows))
