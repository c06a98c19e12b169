use Rattle.std.proofs.Common.{if◌then◌else◌, ◌∙◌, ◌++◌, ◌∷◌, [], ℕ, List, Some, ap, sym, subst}
use Rattle.std.specs.BTreeMap.{get}
use Rattle.cohort_map.specs.declared.key.CohortKey.{CohortKey}
use Rattle.cohort_map.specs.Keys.{key_cmp}
use Rattle.cohort_map.specs.Indexed.{IsIndexed}
use Rattle.cohort_map.proofs.Keyed.{is_key, indexed_more}
use Rattle.cohort_map.proofs.keys.Keys.add.Goals as goal

pub invariant_of-self-in-Ok : goal.invariant_of-self-in-Ok
invariant_of-self-in-Ok c =
    let items = c.push_reserved.ensures.items ∙ ap (λ (ks : List CohortKey). ks ++ c.args.key ∷ []) c.in_ok-reserve.ensures.items in
    subst (λ (ks : List CohortKey). IsIndexed ks c.insert.new.self) (sym items)
    (indexed_more c.self.inside.keys.items c.self.inside.places c.insert.new.self c.args.key c.self.invariant
    (λ j is. c.requires j (rw (← c.self.view_is) is))
    (λ k. c.in-Ok.ensures.updates.0 k
    ∙ ap (λ (l : CohortKey). if is_key l k then Some c.len-place.result else get key_cmp c.self.inside.places k)
    c.in_ok-copy.ensures
    ∙ ap (λ (n : ℕ). if is_key c.args.key k then Some n else get key_cmp c.self.inside.places k)
    (c.len-place.ensures ∙ c.self.inside.keys.ok.0)))
