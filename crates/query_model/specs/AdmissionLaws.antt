-- What holds of admission and of plans. This project's own.
use Rattle.std.specs.Prelude.{◌≡◌, ◌⊎◌, ◌↔◌, Option, Some, None, Result, Ok, Err, IsTrue}
use Rattle.serde_json.specs.Data.{Members}
use Rattle.scalar_val.specs.declared.val.Val.{Val}
use Rattle.role_model.specs.declared.metadata.Metadata.{Metadata}
use Rattle.plan_model.specs.declared.plan.Plan.{Plan}
use Rattle.role_model.specs.declared.session.Session.{Session}
use Rattle.role_model.specs.MetadataMeaning.{IsMetadata}
use Rattle.request_model.specs.declared.flat.Flat.{Flat}
use Rattle.request_model.specs.Strings.{Text}
use Rattle.request_model.specs.SelectionLaws.{is_written}
use Rattle.query_model.specs.declared.fault.QueryFault.{QueryFault}
use Rattle.query_model.specs.Queries.{SamePoller, binding_of, view_of}
use Rattle.query_model.specs.Selecting.{Selects, answered}
use Rattle.query_model.specs.Admission.{Admitted, admitted, Admits}
use Rattle.query_model.specs.Plans.{plan_of}
use Rattle.plan_model.specs.PlanFits.{PlanFits}
use Rattle.plan_model.specs.BindingFits.{BindingFits}

-- a request is admitted or refused in one way
abbrev pub AdmitsOnce : Type 0
AdmitsOnce = (m : Metadata) (session : Session) (text : Text) (operation : Option Text) (values : Members)
    (a b : Result Admitted QueryFault) →
    Admits m session text operation values a → Admits m session text operation values b → a ≡ b

-- each flat selection is admitted with a query, or has a first refusal
abbrev pub IsAdmittedOrRefused : Type 0
IsAdmittedOrRefused = (m : Metadata) (session : Session) (values : Members) (s : Flat) →
    ((a : Admitted) × (admitted m session values s ≡ Ok a)) ⊎ ((e : QueryFault) × (admitted m session values s ≡ Err e))

-- no request is without an answer
abbrev pub IsAnswered : Type 0
IsAnswered = (m : Metadata) (session : Session) (text : Text) (operation : Option Text) (values : Members) →
    ((a : Result Admitted QueryFault) → Admits m session text operation values a → ⊥) → ⊥

-- a request comes to what its selection is answered with
abbrev pub AnsweredBySelection : Type 0
AnsweredBySelection = (m : Metadata) (session : Session) (text : Text) (operation : Option Text) (values : Members)
    (r : Result Admitted QueryFault) →
    Admits m session text operation values r
    ↔ ((x : Result Flat QueryFault) × Selects text operation values x
    × (r ≡ answered m session (record { selection = x; values = values })))

-- a query with which some request is admitted
pub record IsAdmitted (m : Metadata) (a : Admitted) : Type 0 where
  pub metadata : IsMetadata m
  pub session : Session
  pub values : Members
  pub selection : Flat
  pub written : IsTrue (is_written selection)
  pub gives : admitted m session values selection ≡ Ok a

-- ---- plans

-- an admitted query has a plan, which fits, and which its binding fits, with its own cursor and with any other value in
-- the place of a stream's
abbrev pub PlansFit : Type 0
PlansFit = (m : Metadata) (a : Admitted) → IsAdmitted m a →
    (p : Plan) → plan_of (view_of m a.query) a.query.selection ≡ Some p →
    PlanFits m.catalog p × ((cursor : Val) → BindingFits p (binding_of a.query cursor))

abbrev pub PlansAreThere : Type 0
PlansAreThere = (m : Metadata) (a : Admitted) → IsAdmitted m a →
    plan_of (view_of m a.query) a.query.selection ≡ None → ⊥

-- queries of one poller have one plan, whatever their bindings
abbrev pub PollersHaveOnePlan : Type 0
PollersHaveOnePlan = (m : Metadata) (a b : Admitted) → IsAdmitted m a → IsAdmitted m b → SamePoller a.query b.query →
    plan_of (view_of m a.query) a.query.selection ≡ plan_of (view_of m b.query) b.query.selection
