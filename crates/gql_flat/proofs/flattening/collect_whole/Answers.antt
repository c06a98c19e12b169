use Rattle.std.proofs.Common.{◌∙◌, ap, refl}
use Rattle.request_model.specs.Selection.{Collected, Operation, collected}
use Rattle.gql_flat.proofs.FieldRules.{fails_weaker}
use Rattle.gql_flat.proofs.WholeRules.{large_whole, whole_fields, whole_small, whole_conflict}
use Rattle.gql_flat.proofs.flattening.collect_whole.Goals as goal

pub returns-in-Err : goal.returns-in-Err
returns-in-Err c =
    let s = c.args.scope.now in
    let set = c.args.operation.now.select in
    let root = c.in-Ok.ensures ∙ ap (λ (o : Operation). collected s o.select) c.operation.view_is in
    let groups = c.groups_of.ensures ∙ ap (λ (o : Collected). o.groups) root in
    fails_weaker c.in-Err.fault _ _ (λ h. large_whole s set c.groups_of.result.now groups h) c.in-Err.ensures

pub returns-in-Ok-copy_texts : goal.returns-in-Ok-copy_texts
returns-in-Ok-copy_texts c =
    let s = c.args.scope.now in
    let set = c.args.operation.now.select in
    let root = c.in-Ok.ensures ∙ ap (λ (o : Operation). collected s o.select) c.operation.view_is in
    let groups = c.groups_of.ensures ∙ ap (λ (o : Collected). o.groups) root in
    let fields = c.in-Ok-fields.fields in
    let are = c.in-Ok-fields.ensures in
    record {
      conditions = c.in-Ok-copy_texts.ensures ∙ c.conditions_of.ensures ∙ ap (λ (o : Collected). o.conditions) root;
      fields = whole_fields s set c.groups_of.result.now fields _ c.fields.new.tally groups refl are;
      small = whole_small s set c.groups_of.result.now fields _ c.fields.new.tally groups refl are;
      conflict = whole_conflict s set c.groups_of.result.now fields _ c.fields.new.tally groups refl are refl;
    }
