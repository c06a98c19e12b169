use Rattle.std.proofs.Common.{ℕ, List, sym, subst, drop}
use Rattle.std.specs.List.{Contains}
use Rattle.std.proofs.lemmas.List.{take_rest}
use Rattle.place_list.specs.Places.{Places, Ascends}
use Rattle.place_list.proofs.Ascending.{KeepsFrom, ascends_drop, since_found, since_none}
use Rattle.place_list.proofs.list.PlaceList.since.Goals as goal
use Rattle.place_list.proofs.list.PlaceList.since.Goals.{in-Ok, in-Err}

pub returns-clause-ascend : goal.returns-clause-ascend
returns-clause-ascend c =
    subst Ascends (sym (take_rest c.deref-2.result.now c.match-binary_search.at))
    (ascends_drop c.deref-2.result.now c.match-binary_search.at (subst Ascends (sym c.deref-2.ensures.value) c.self.invariant))

pub returns-clause-keeps : goal.returns-clause-keeps
returns-clause-keeps c p has past =
    let items = c.self.inside.places.items in
    let at = c.match-binary_search.at in
    let before = subst (λ (l : Places). Contains l.places p) (sym c.self.view_is) has in
    let keeps : KeepsFrom items c.args.place (drop at items) =
    elim c.match-binary_search.branch [
      | in-Ok w ↦ rw w.at-is (since_found items c.deref.result.now c.args.place w.in-Ok.at c.deref.ensures.value
          c.self.invariant w.in-Ok.ensures.position)
      | in-Err w ↦ rw w.at-is (since_none items c.deref.result.now c.args.place w.in-Err.at c.deref.ensures.value
          c.self.invariant w.in-Err.ensures.position)
    ] in
    subst (λ (qs : List ℕ). Contains qs p) (sym (take_rest c.deref-2.result.now at))
    (subst (λ (qs : List ℕ). Contains (drop at qs) p) (sym c.deref-2.ensures.value) (keeps p before past))
