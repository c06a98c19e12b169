use Rattle.std.proofs.Common.{◌≡◌, ◌∙◌, ◌+◌, ◌-◌, [], ◌∷◌, inr, refl, sym, ap, subst, arith}
use Rattle.request_model.specs.Selection.{Collected}
use Rattle.gql_flat.specs.Fields.{AreFields, AreTooLarge}
use Rattle.gql_flat.proofs.FieldRules.{one, large_inside, no_level, large, more, fails_weaker, not_nil}
use Rattle.gql_flat.proofs.fields.+field.Goals as goal

pub field-returns-in-Err-fields : goal.field-returns-in-Err-fields
field-returns-in-Err-fields t c =
    let s = c.args.scope.now in
    let inside = c.groups_of.ensures ∙ ap (λ (o : Collected). o.groups) c.in-Ok-collected_inside.ensures in
    fails_weaker c.in-Err-fields.fault _ _
    (λ h. large_inside s c.args.levels (c.args.levels + 1) c.args.group.now c.args.tally.now c.count.new.tally
    (omega arith) c.in-Ok.ensures
    (subst (λ gs. AreTooLarge s c.args.levels gs c.count.new.tally.fields) inside h))
    c.in-Err-fields.ensures

pub field-returns-in-Ok-field_of : goal.field-returns-in-Ok-field_of
field-returns-in-Ok-field_of t c =
    let s = c.args.scope.now in
    let inside = c.groups_of.ensures ∙ ap (λ (o : Collected). o.groups) c.in-Ok-collected_inside.ensures in
    one s c.args.levels (c.args.levels + 1) c.args.group.now c.args.tally.now c.count.new.tally c.fields.new.tally
    c.in-Ok-fields.fields c.in-Ok-field_of.field _ (omega arith) c.in-Ok.ensures
    (subst (λ gs. AreFields s c.args.levels gs c.count.new.tally c.fields.new.tally c.in-Ok-fields.fields) inside
    c.in-Ok-fields.ensures)
    c.in-Ok-field_of.ensures (c.conditions_of.ensures
    ∙ ap (λ (o : Collected). o.conditions) c.in-Ok-collected_inside.ensures)

pub fields-returns-then-levels-eq0 : goal.fields-returns-then-levels-eq0
fields-returns-then-levels-eq0 t c =
    let s = c.args.scope.now in
    inr (
      refl,
      subst (λ n. AreTooLarge s n c.args.groups.now c.args.tally.now.fields) (sym c.if-levels-eq0.true)
          (no_level s c.args.groups.now c.args.tally.now.fields
          (not_nil c.args.groups.now c.is_empty.result c.is_empty.ensures c.if-is_empty.false)),
    )

pub fields-returns-in-Err : goal.fields-returns-in-Err
fields-returns-in-Err t c =
    let s = c.args.scope.now in
    let up : c.args.levels - 1 + 1 ≡ c.args.levels = omega (arith, c.if-levels-eq0.false) in
    fails_weaker c.in-Err.fault _ _
    (λ h. large s c.args.levels c.args.groups.now c.loop-group.group-index c.group-item.result c.args.tally.now
    c.loop-group.tally c.loop-group.found c.loop-group-test.true c.group-item.is c.loop-group.invariant
    (subst (λ n. AreTooLarge s n (c.group-item.result ∷ []) c.loop-group.tally.fields) up h))
    c.in-Err.ensures

pub fields-loop-group-preserved : goal.fields-loop-group-preserved
fields-loop-group-preserved t c =
    let s = c.args.scope.now in
    let up : c.args.levels - 1 + 1 ≡ c.args.levels = omega (arith, c.if-levels-eq0.false) in
    more s c.args.levels c.args.groups.now c.loop-group.group-index c.group-item.result c.args.tally.now
    c.loop-group.tally c.field.new.tally c.loop-group.found c.add.new.self c.in-Ok.field c.loop-group-test.true
    c.group-item.is
    c.in-Ok-add.ensures.ok c.loop-group.invariant
    (subst (λ n. AreFields s n (c.group-item.result ∷ []) c.loop-group.tally c.field.new.tally (c.in-Ok.field ∷ []))
    up c.in-Ok.ensures)
