-- What is made of an admitted selection stands for its query.
use Rattle.std.proofs.Common.{◌≡◌, ◌∙◌, Some, Result, Ok, Err, IfOk, List, ap, sym, map}
use Rattle.serde_json.specs.Data.{Members}
use Rattle.plan_model.specs.declared.filter.Binding.{Binding}
use Rattle.plan_model.specs.declared.plan.Plan.{Plan}
use Rattle.role_model.specs.declared.metadata.Metadata.{Metadata}
use Rattle.role_model.specs.declared.session.Session.{Session}
use Rattle.role_model.specs.Roles.{View}
use Rattle.request_model.specs.declared.flat.FlatField.{FlatField}
use Rattle.request_model.specs.declared.flat.FlatField.TheViews.{out-FlatField}
use Rattle.request_model.specs.declared.flat.Flat.{Flat}
use Rattle.request_model.specs.Canonical.{canonical}
use Rattle.query_model.specs.declared.session.SessionValue.{SessionValue}
use Rattle.query_model.specs.declared.variable.Variable.{Variable}
use Rattle.query_model.specs.Variables.{variable_slot}
use Rattle.query_model.specs.Queries.{kind_by, root_of, text_variables}
use Rattle.query_model.specs.Plans.{plan_of}
use Rattle.query_model.specs.Admission as query
use Rattle.query_model.specs.Admission.{admitted, role_view, query_with, initial_cursor}
use Rattle.plan_build.specs.declared.admission.Admitted.{Admitted}
use Rattle.plan_build.specs.Made.{IsMade}

module _ (m : Metadata) (session : Session) (values : Members) (s : Flat) (f : FlatField) (vars : List Variable) (given : List SessionValue) where
  abbrev bound : View → Binding
  bound v = record {
    vars = map (variable_slot vars) (text_variables s);
    session = map (λ (x : SessionValue). x.value) given;
    cursor = initial_cursor vars v (root_of v s.kind f) (out-FlatField f).args;
  }

  is_made : (v : View) (plan : Plan) (made : Admitted) → v ≡ role_view m session values s →
      plan_of (role_view m session values s) s ≡ Some plan → made.kind ≡ kind_by s.kind (root_of v s.kind f) →
      made.plan ≡ plan → made.canon ≡ canonical s → made.binding ≡ bound v →
      IsMade m (query_with m session values s f vars given) made
  is_made v plan made seen there k p t b = record {
    kind = k ∙ ap (λ w. kind_by s.kind (root_of w s.kind f)) seen;
    plan = there ∙ ap Some (sym p);
    canon = t;
    binding = b ∙ ap bound seen;
  }

  -- what is made of the selection stands for its query
  pub made_so : {E : Type 0} (v : View) (plan : Plan) (r : Result Admitted E) → v ≡ role_view m session values s →
      admitted m session values s ≡ Ok (query_with m session values s f vars given) →
      plan_of (role_view m session values s) s ≡ Some plan →
      IfOk r (λ made. made.kind ≡ kind_by s.kind (root_of v s.kind f)) → IfOk r (λ made. made.plan ≡ plan) →
      IfOk r (λ made. made.canon ≡ canonical s) → IfOk r (λ made. made.binding ≡ bound v) →
      IfOk r (λ made. (x : query.Admitted) × (admitted m session values s ≡ Ok x) × IsMade m x made)
  made_so v plan (Err e) seen is there k p t b = tt
  made_so v plan (Ok made) seen is there k p t b =
      (query_with m session values s f vars given, is, is_made v plan made seen there k p t b)
