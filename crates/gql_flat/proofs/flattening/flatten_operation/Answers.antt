use Rattle.std.proofs.Common.{◌∙◌, inl, inr, sym}
use Rattle.serde_json.specs.View.{view}
use Rattle.request_model.specs.Selection.{given_values}
use Rattle.gql_scope.proofs.ReachRules.{not_so}
use Rattle.gql_scope.proofs.TruthRules.{at_some, at_none}
use Rattle.gql_flat.proofs.WholeRules.{
  refused_first,
  fails_whole,
  conflict_first,
  field_conflict,
  no_fault,
  shares_is,
  flat_is,
}
use Rattle.gql_flat.proofs.flattening.flatten_operation.Goals as goal

pub returns-in-Some-refusal : goal.returns-in-Some-refusal
returns-in-Some-refusal c =
    inr (refused_first c.args.document.now (given_values (view c.args.variables.now)) c.args.operation.now c.in-Ok.scope
    c.in-Ok.ensures c.in-Some.kind (sym c.in-Some.ensures) c.in-Some-refusal.fault
    (at_some _ _ _ c.in-Some-refusal.fault c.in-Some-refusal.is c.in-Ok-first_refusal.ensures))

pub returns-in-Err-collect_whole : goal.returns-in-Err-collect_whole
returns-in-Err-collect_whole c =
    let out = at_none _ _ _ c.in_default-refusal.is c.in-Ok-first_refusal.ensures in
    fails_whole c.args.document.now (given_values (view c.args.variables.now)) c.args.operation.now c.in-Ok.scope
    c.in-Ok.ensures c.in-Some.kind (sym c.in-Some.ensures) out
    c.in-Err-collect_whole.fault c.in-Err-collect_whole.ensures

pub returns-then-whole : goal.returns-then-whole
returns-then-whole c =
    let out = at_none _ _ _ c.in_default-refusal.is c.in-Ok-first_refusal.ensures in
    let d = c.args.document.now in
    let values = given_values (view c.args.variables.now) in
    let o = c.args.operation.now in
    let s = c.in-Ok.scope in
    inr (conflict_first d values o s c.in-Ok.ensures c.in-Some.kind (sym c.in-Some.ensures) out
    c.in-Ok-collect_whole.ensures.small
    (field_conflict d values o s c.in-Ok.ensures c.in-Some.kind (sym c.in-Some.ensures) out
    c.in-Ok-collect_whole.ensures.small (c.in-Ok-collect_whole.ensures.conflict.0 c.if-whole.true)))

pub returns-then-shared : goal.returns-then-shared
returns-then-shared c =
    let out = at_none _ _ _ c.in_default-refusal.is c.in-Ok-first_refusal.ensures in
    let d = c.args.document.now in
    let values = given_values (view c.args.variables.now) in
    let o = c.args.operation.now in
    let s = c.in-Ok.scope in
    inr (conflict_first d values o s c.in-Ok.ensures c.in-Some.kind (sym c.in-Some.ensures) out
    c.in-Ok-collect_whole.ensures.small
    (inl (shares_is d values o s c.args.operations.now c.in-Ok-shares_name.shared c.in-Ok.ensures c.requires
    c.in-Ok-shares_name.ensures ∙ c.if-shared.true)))

pub returns-in-Ok-flat_of : goal.returns-in-Ok-flat_of
returns-in-Ok-flat_of c =
    let out = at_none _ _ _ c.in_default-refusal.is c.in-Ok-first_refusal.ensures in
    let d = c.args.document.now in
    let values = given_values (view c.args.variables.now) in
    let o = c.args.operation.now in
    let s = c.in-Ok.scope in
    record {
      word = c.in-Some.kind;
      no_fault = no_fault d values o s c.in-Ok.ensures c.in-Some.kind (sym c.in-Some.ensures) out
          c.in-Ok-collect_whole.ensures.small
          (not_so _ _ c.in-Ok-collect_whole.ensures.conflict c.if-whole.false)
          (shares_is d values o s c.args.operations.now c.in-Ok-shares_name.shared c.in-Ok.ensures c.requires
          c.in-Ok-shares_name.ensures ∙ c.if-shared.false);
      served_as = sym c.in-Some.ensures;
      is = flat_is d values o s c.in-Some.kind c.in-Ok-collect_whole.whole c.in-Ok-flat_of.flat c.in-Ok.ensures
          c.in-Ok-collect_whole.ensures c.in-Ok-flat_of.ensures;
    }
