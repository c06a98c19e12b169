-- What admission makes of a request: what stands for its query from then on.
use Rattle.std.specs.Prelude.{◌≡◌, Option, Some, Ok}
use Rattle.serde_json.specs.Data.{Members}
use Rattle.scalar_val.specs.declared.val.Val.{Val}
use Rattle.data_model.specs.Rows.{Database, Fits}
use Rattle.plan_model.specs.declared.plan.Plan.{Plan}
use Rattle.plan_model.specs.Planned.{planned}
use Rattle.plan_model.specs.PlanFits.{PlanFits}
use Rattle.plan_model.specs.BindingFits.{BindingFits}
use Rattle.role_model.specs.declared.metadata.Metadata.{Metadata}
use Rattle.request_model.specs.declared.flat.Flat.{Flat}
use Rattle.request_model.specs.Strings.{Text}
use Rattle.request_model.specs.Canonical.{canonical}
use Rattle.query_model.specs.Queries.{binding_of, view_of}
use Rattle.query_model.specs.Plans.{plan_of}
use Rattle.query_model.specs.Results.{result}
use Rattle.query_model.specs.ResultLaws.{MayBeCursor}
use Rattle.query_model.specs.Selecting.{Selects}
use Rattle.query_model.specs.Admission as query
use Rattle.plan_build.specs.declared.admission.Admitted.{Admitted}

-- some request's text gives the selection
abbrev pub IsSelected : Flat → Type 0
IsSelected s = (text : Text) × (operation : Option Text) × (values : Members) × Selects text operation values (Ok s)

-- the kind, the plan, the canonical text and the binding of an admitted query
pub record IsMade (m : Metadata) (a : query.Admitted) (made : Admitted) : Type 0 where
  pub kind : made.kind ≡ a.query.kind
  pub plan : plan_of (view_of m a.query) a.query.selection ≡ Some made.plan
  pub canon : made.canon ≡ canonical a.query.selection
  pub binding : made.binding ≡ binding_of a.query a.cursor

-- the plan can be run with the binding, and then gives the query's result; so it is with any other cursor of a stream
pub record IsRun (m : Metadata) (a : query.Admitted) (plan : Plan) : Type 0 where
  pub fits : PlanFits m.catalog plan
  pub binds : (cursor : Val) → BindingFits plan (binding_of a.query cursor)
  pub gives : (db : Database) → Fits m.catalog db → (cursor : Val) → MayBeCursor a.query cursor →
      planned plan (binding_of a.query cursor) db ≡ result m a.query cursor db
