use Rattle.std.proofs.Common.{◌≡◌, ◌++◌, ◌∷◌, [], List, ℕ, Bool, arith, map, sym, ap, subst, ◌∙◌}
use Rattle.plan_model.specs.declared.plan.Field.{Field}
use Rattle.plan_model.specs.declared.plan.Field.TheVariants as field
use Rattle.plan_model.specs.declared.plan.Select.{Select}
use Rattle.plan_model.specs.Outcomes.{quoted_text}
use Rattle.nested_eval.specs.declared.node.Node.{Node}
use Rattle.nested_eval.specs.declared.node.Part.TheVariants as part
use Rattle.nested_eval.specs.Nodes.{PartMeans, NodeMeans}
use Rattle.nested_eval.specs.Plans.{field_fits, field_reads}
use Rattle.nested_eval.proofs.Means.{all_after, sum_more, next_part, select_parts, link_means}
use Rattle.nested_eval.proofs.prepare.+node.Goals as goal

pub node_of-of-requires : goal.node_of-of-requires
node_of-of-requires g t c =
    let held = c.args.snapshot.now in
    (select_parts held.catalog held.tables c.args.select.now c.args.is_root c.args.to.now c.fits.ensures c.requires).table

pub part_of-returns-in_ok-node-in-Link-clause-part : goal.part_of-returns-in_ok-node-in-Link-clause-part
part_of-returns-in_ok-node-in-Link-clause-part g t c =
    let l = c.in-Link in
    let names = c.args.names.now in
    let held = c.args.snapshot.now in
    let written = c.in_ok-written-in-Link.written in
    let below = c.in_ok-below-in-Link.below in
    let key_is : written ≡ quoted_text l.key ++ 58 ∷ [] =
    c.in_ok-written-in-Link.ensures ∙ ap (λ k. quoted_text k ++ 58 ∷ []) c.as_str-in-Link.ensures in
    let means : NodeMeans names held.catalog held.tables l.select l.from l.to below =
    subst (λ (s : Select). NodeMeans names held.catalog held.tables s l.from l.to below) c.get.ensures
    (subst (λ (from : List ℕ). NodeMeans names held.catalog held.tables c.get.result.now from l.to below) c.as_slice.ensures
    (subst (λ (to : List ℕ). NodeMeans names held.catalog held.tables c.get.result.now c.as_slice.result.now to below) c.as_slice-in-Link.ensures
    c.in_ok-below-in-Link.ensures.node)) in
    subst (λ (f : Field). PartMeans names held.catalog held.tables f c.args.table (part.Link written c.in_ok-node-in-Link.node)) (sym l.is)
    (subst (λ (n : Node). PartMeans names held.catalog held.tables (field.Link l.key l.from l.to l.select) c.args.table (part.Link written n))
    (sym c.in_ok-node-in-Link.ensures)
    (link_means names held.catalog held.tables l.key l.from l.to l.select c.args.table written below c.fits.ensures key_is means))

pub parts_of-loop-field-preserved : goal.parts_of-loop-field-preserved
parts_of-loop-field-preserved g t c =
    let fields = c.args.fields.now in
    let i = c.loop-field.field-index in
    let field = c.field-item.result in
    let held = c.args.snapshot.now in
    record {
      steps = omega (arith, c.loop-field.invariant.steps, c.part_of.ensures.steps, sum_more (field_reads held.tables) fields i field (omega arith) c.field-item.is);
      fits = all_after (λ (f : ℕ → Bool). f c.args.table) (field_fits held.catalog) fields i field (omega arith) c.loop-field.invariant.fits;
      means = next_part c.args.names.now held.catalog held.tables fields i field c.args.table c.loop-field.parts c.add.new.self c.in_ok-part_of.field-0
          (omega arith) c.field-item.is c.in_ok-add.ensures.ok c.loop-field.invariant.means c.in_ok-part_of.ensures.part;
    }
