use Rattle.std.proofs.Common.{◌∙◌, ap, is_lt}
use Rattle.std.proofs.lemmas.Cmp.{on_total, nat_list_cmp_total}
use Rattle.std.proofs.lemmas.List.Sorted.{ranks_by, answers_always}
use Rattle.request_model.specs.Selection.{by_name}
use Rattle.request_model.specs.declared.document.GValue.TheViews.{out-GPair}
use Rattle.gql_canon.specs.Names.{compare_names}
use Rattle.scalar_val.proofs.StableRules.{sorted_by_placing}
use Rattle.gql_canon.proofs.ordered.ordered_by_name.Goals as goal

pub returns : goal.returns
returns c =
    let total = on_total (λ p. (out-GPair p).name) nat_list_cmp_total in
    let ranks = ranks_by total (λ p. p.now) in
    let sorted = c.in_ok-sort_by.ensures in
    sorted_by_placing (λ p. p.now) compare_names total c.in_ok-ordered.ordered.items c.sort_by.new.self.items
    (sorted.sorted _ ranks (answers_always _ _ _ (λ f a r f' k. ap is_lt k.met)))
    (sorted.stable _ ranks (answers_always _ _ _ (λ f a r f' k. ap is_lt k.met)))
    ∙ ap by_name c.in_ok-ordered.ensures
