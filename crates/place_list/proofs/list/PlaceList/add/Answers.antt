use Rattle.std.proofs.Common.{◌≡◌, ◌∙◌, ◌⊎◌, inl, ℕ, List, ap, sym, subst}
use Rattle.std.specs.List.{Contains}
use Rattle.place_list.specs.Places.{Places, Ascends}
use Rattle.place_list.proofs.Ascending.{found_place, keeps_all, only_new}
use Rattle.place_list.proofs.list.PlaceList.add.Goals as goal

pub invariant_of-self : goal.invariant_of-self
invariant_of-self c =
    subst Ascends (sym c.in-Ok-insert.ensures.items)
    (found_place c.self.inside.places.items c.deref.result.now c.args.place c.in-Err.at c.deref.ensures.value
    c.self.invariant c.in-Err.ensures.position)

pub returns-in-Ok-insert-clause-keeps : goal.returns-in-Ok-insert-clause-keeps
returns-in-Ok-insert-clause-keeps c p has =
    let before : c.args.self.now.places ≡ c.self.inside.places.items = sym (ap (λ (l : Places). l.places) c.self.view_is) in
    subst (λ (qs : List ℕ). Contains qs p) (sym c.in-Ok-insert.ensures.items)
    (keeps_all c.self.inside.places.items c.in-Err.at c.args.place p (subst (λ (qs : List ℕ). Contains qs p) before has))

pub returns-in-Ok-insert-clause-only : goal.returns-in-Ok-insert-clause-only
returns-in-Ok-insert-clause-only c p has =
    let before : c.self.inside.places.items ≡ c.args.self.now.places = ap (λ (l : Places). l.places) c.self.view_is in
    subst (λ (qs : List ℕ). Contains qs p ⊎ (c.args.place ≡ p)) before
    (only_new c.self.inside.places.items c.in-Err.at c.args.place p
    (subst (λ (qs : List ℕ). Contains qs p) c.in-Ok-insert.ensures.items has))

pub returns-in-Err-insert-clause-only : goal.returns-in-Err-insert-clause-only
returns-in-Err-insert-clause-only c p has =
    let before : c.insert.new.self.items ≡ c.args.self.now.places =
    c.in-Err-insert.ensures.items ∙ ap (λ (l : Places). l.places) c.self.view_is in
    inl (subst (λ (qs : List ℕ). Contains qs p) before has)
