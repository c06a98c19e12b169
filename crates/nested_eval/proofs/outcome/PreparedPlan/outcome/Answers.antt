use Rattle.std.proofs.Common.{◌≡◌, ◌∙◌, ◌++◌, ◌∷◌, [], ap, sym, subst}
use Rattle.plan_model.specs.BindingFits.{BindingFits}
use Rattle.plan_model.specs.Outcomes.{Outcome}
use Rattle.plan_model.specs.Planned.{planned}
use Rattle.plan_model.proofs.Readiness.{root_ready}
use Rattle.nested_eval.specs.Nodes.{node_text}
use Rattle.nested_eval.specs.Plans.{Prepared, head_text}
use Rattle.nested_eval.proofs.Means.{node_is_ready, outcome_told}
use Rattle.nested_eval.proofs.outcome.PreparedPlan.outcome.Goals as goal

pub put_root-requires : goal.put_root-requires
put_root-requires c =
    let i = c.self.inside in
    let p = i.plan.now in
    let b = c.args.binding.now in
    let bound : BindingFits p b = subst (λ (s : Prepared). BindingFits s.plan b) (sym c.self.view_is) c.requires in
    node_is_ready p.names i.snapshot.now.catalog i.snapshot.now.tables p.root [] [] i.root c.fits.ensures c.self.invariant.root b
    (root_ready i.snapshot.now.catalog b p c.self.invariant.fits bound)

pub returns : goal.returns
returns c =
    let i = c.self.inside in
    let p = i.plan.now in
    let b = c.args.binding.now in
    let told : c.in_ok-text.text ≡ (head_text p.key ++ node_text b i.root []) ++ 125 ∷ 125 ∷ [] =
    c.in_ok-text.ensures ∙ ap (λ x. x ++ 125 ∷ 125 ∷ []) (c.in_ok-answer.ensures.text
    ∙ ap (λ x. x ++ node_text b i.root []) (c.in_ok-append.ensures ∙ ap (λ x. x ++ c.as_slice.result.now) c.clear.ensures.items
    ∙ c.as_slice.ensures ∙ c.self.invariant.head)) in
    let outcome : Outcome = record { text = c.in_ok-text.text; rows = c.in_ok-answer.answer.rows; last = c.in_ok-answer.answer.last } in
    subst (λ (s : Prepared). outcome ≡ planned s.plan b s.snapshot.tables) c.self.view_is
    (outcome_told p i.snapshot.now.catalog i.snapshot.now.tables b i.root c.in_ok-text.text c.in_ok-answer.answer.rows c.in_ok-answer.answer.last
    c.self.invariant.root told c.in_ok-answer.ensures.rows c.in_ok-answer.ensures.last)
