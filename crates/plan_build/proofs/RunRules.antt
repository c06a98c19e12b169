-- What is made of an admitted request can be run, and gives its query's result.
use Rattle.std.proofs.Common.{◌≡◌, Option, None, Result, Ok, Err, IfOk, List, refl, sym, subst}
use Rattle.serde_json.specs.Data.{Members}
use Rattle.plan_model.specs.PlanFits.{PlanFits}
use Rattle.plan_model.specs.BindingFits.{BindingFits}
use Rattle.role_model.specs.declared.metadata.Metadata.{Metadata}
use Rattle.role_model.specs.declared.session.Session.{Session}
use Rattle.role_model.specs.MetadataMeaning.{IsMetadata}
use Rattle.request_model.specs.declared.flat.FlatField.{FlatField}
use Rattle.request_model.specs.declared.flat.Flat.{Flat}
use Rattle.request_model.specs.Strings.{Text}
use Rattle.request_model.specs.SelectionLaws.{FlatsAreWritten}
use Rattle.query_model.specs.declared.fault.AdmitFault.{AdmitFault}
use Rattle.query_model.specs.declared.fault.QueryFault.{QueryFault}
use Rattle.query_model.specs.declared.session.SessionValue.{SessionValue}
use Rattle.query_model.specs.declared.variable.Variable.{Variable}
use Rattle.query_model.specs.Queries.{selection_slots}
use Rattle.query_model.specs.Walk.{walk_fault}
use Rattle.query_model.specs.Plans.{plan_of}
use Rattle.query_model.specs.Admission as query
use Rattle.query_model.specs.Admission.{Admits, admitted, one_root, variables_of, slots_given, role_view, query_with}
use Rattle.query_model.specs.AdmissionLaws.{AdmitsOnce, AnsweredBySelection, PlansFit, PlansAreThere}
use Rattle.query_model.specs.ResultLaws.{PlannedIsResult}
use Rattle.query_model.specs.Selecting.{Selects}
use Rattle.plan_build.specs.declared.admission.Admitted.{Admitted}
use Rattle.plan_build.specs.Made.{IsSelected, IsMade, IsRun}
use Rattle.plan_build.proofs.AdmitRules.{admitted_with}
use Rattle.plan_build.proofs.BoundRules.{is_admitted}

-- ---- a plan is there

module _ (m : Metadata) (session : Session) (values : Members) (s : Flat) where
  pub plan_there : FlatsAreWritten → PlansAreThere → IsMetadata m → IsSelected s →
      (f : FlatField) (vars : List Variable) (given : List SessionValue) → one_root s.fields ≡ Ok f →
      variables_of values s.vars ≡ Ok vars → walk_fault vars (role_view m session values s) s f ≡ None →
      slots_given session (selection_slots (role_view m session values s) s) ≡ Ok given →
      plan_of (role_view m session values s) s ≡ None → ⊥
  plan_there written there metadata selected f vars given root named walked values_given none =
      there m (query_with m session values s f vars given)
      (is_admitted written m session values s (query_with m session values s f vars given) metadata selected
      (admitted_with m session values s f vars given root named walked values_given))
      none

-- ---- the whole

module _ (m : Metadata) (session : Session) (text : Text) (operation : Option Text) (values : Members) where
  pub refused_so : AnsweredBySelection → (e : QueryFault) → Selects text operation values (Err e) →
      Admits m session text operation values (Err e)
  refused_so law e p = (law m session text operation values (Err e)).1 (Err e, p, refl)

  same_query : (a b : query.Admitted) → ◌≡◌ {A = Result query.Admitted QueryFault} (Ok a) (Ok b) → a ≡ b
  same_query a b e = cc

  Made : Admitted → Flat → Type 0
  Made made s = (x : query.Admitted) × (admitted m session values s ≡ Ok x) × IsMade m x made

  run_of : FlatsAreWritten → PlansFit → PlannedIsResult → IsMetadata m → (s : Flat) →
      Selects text operation values (Ok s) → (a : query.Admitted) → admitted m session values s ≡ Ok a →
      (made : Admitted) → IsMade m a made → IsRun m a made.plan
  run_of written fit planned metadata s p a e made is =
      let admission = is_admitted written m session values s a metadata (text, operation, values, p) e in
      let fits = fit m a admission made.plan is.plan in
      record {
        fits = fits.0;
        binds = fits.1;
        gives = planned m a admission made.plan is.plan;
      }

  pub runs : AdmitsOnce → AnsweredBySelection → FlatsAreWritten → PlansFit → PlannedIsResult → IsMetadata m →
      (s : Flat) → Selects text operation values (Ok s) → (r : Result Admitted AdmitFault) →
      IfOk r (λ made. (x : query.Admitted) × (admitted m session values s ≡ Ok x) × IsMade m x made) →
      (a : query.Admitted) → Admits m session text operation values (Ok a) → IfOk r (λ made. IsRun m a made.plan)
  runs once by written fit planned metadata s p (Err e) is a h = tt
  runs once by written fit planned metadata s p (Ok made) (x, e, is) a h =
      let admits : Admits m session text operation values (Ok x) = (by m session text operation values (Ok x)).1 (Ok s, p, sym e) in
      let same : x ≡ a = same_query x a (once m session text operation values (Ok x) (Ok a) admits h) in
      subst (λ y. IsRun m y made.plan) same (run_of written fit planned metadata s p x e made is)

  pub fits : FlatsAreWritten → PlansFit → PlannedIsResult → IsMetadata m →
      (s : Flat) → Selects text operation values (Ok s) → (r : Result Admitted AdmitFault) →
      IfOk r (λ made. (x : query.Admitted) × (admitted m session values s ≡ Ok x) × IsMade m x made) →
      IfOk r (λ made. PlanFits m.catalog made.plan × BindingFits made.plan made.binding)
  fits written fit planned metadata s p (Err e) is = tt
  fits written fit planned metadata s p (Ok made) (x, e, is) =
      let run = run_of written fit planned metadata s p x e made is in
      (run.fits, subst (BindingFits made.plan) (sym is.binding) (run.binds x.cursor))
