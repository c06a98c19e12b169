use Rattle.std.proofs.Common.{◌≡◌, ◌∷◌, ◌+◌, sym, ◌∙◌, ap, drop, arith}
use Rattle.std.proofs.lemmas.Grind.{common_steps}
use Rattle.std.proofs.lemmas.List.{drop_more}
use Rattle.serde_json.specs.View.{view, items_view, members_view}
use Rattle.serde_json.proofs.Views.{Entry}
use Rattle.role_model.specs.JsonFilters.{filter_of, filters_of, filters_of_items, pair_of, pairs_of, column_condition}
use Rattle.role_model.specs.Texts.{Text}
use Rattle.filter_read.proofs.Steps.{one_more}
use Rattle.filter_read.proofs.json_filter.+filters.Goals as goal

pub read_pairs-members-preserved : goal.read_pairs-members-preserved
read_pairs-members-preserved t c =
    let (can, finite, told) = c.members.invariant in
    let columns = c.args.columns.now in
    let names = c.args.names.now in
    let e : Entry = (c.in-Some.name.now, c.in-Some.value.now) in
    let iter : c.members.name-iterator ≡ e ∷ c.next.new.self = grind (arith, common_steps) in
    let read = sym c.in-Some-2.is ∙ c.in_ok-part.ensures
    ∙ ap (λ (n : Text). pair_of n (filter_of columns names (view e.1)) (filters_of columns names (view e.1)) (column_condition columns names n (view e.1))) c.as_str.ensures.value in
    (tt, tt, one_more c.members.parts _ _ _ (pairs_of columns names (members_view c.next.new.self)) _ (rw iter at told) read c.in_ok-push_filter.ensures)

pub read_each_filter-items-preserved : goal.read_each_filter-items-preserved
read_each_filter-items-preserved t c =
    let columns = c.args.columns.now in
    let names = c.args.names.now in
    let xs = c.deref-value-items.result.now in
    let i = c.items.value-index in
    let v = c.value-item.result in
    let at : drop i xs ≡ v ∷ drop (i + 1) xs = drop_more xs i v c.items-test.true ∙ ap (λ x. x ∷ drop (i + 1) xs) (sym c.value-item.is) in
    one_more c.items.parts _ _ _ (filters_of_items columns names (items_view (drop (i + 1) xs))) _ (rw at at c.items.invariant) (sym c.in-Some.is ∙ c.in_ok-part.ensures) c.in_ok-push_filter.ensures
