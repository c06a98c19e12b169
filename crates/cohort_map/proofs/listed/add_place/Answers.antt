use Rattle.std.proofs.Common.{get_or, refl}
use Rattle.std.proofs.lemmas.List.{length-set}
use Rattle.cohort_map.specs.Listed.{IsAdded}
use Rattle.cohort_map.proofs.Listing.{read_item, one_changed}
use Rattle.cohort_map.proofs.listed.add_place.Goals as goal

pub returns : goal.returns
returns c =
    let lists = c.args.lists.now in
    let l = c.index-lists-cohort.result in
    one_changed (IsAdded c.args.place) c.args.cohort lists _ (get_or lists c.args.cohort l) c.add.new.self refl
    (read_item lists c.args.cohort l c.requires)
    (record { keeps = c.add.ensures.keeps; added = c.add.ensures.added; complete = c.add.ensures.complete })
    (length-set lists c.args.cohort c.add.new.self)
