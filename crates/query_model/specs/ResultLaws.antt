-- What holds of results. This project's own.
use Rattle.std.specs.Prelude.{◌≡◌, Some}
use Rattle.scalar_val.specs.declared.val.Val.{Val}
use Rattle.scalar_val.specs.declared.val.Val.TheVariants as val
use Rattle.data_model.specs.Rows.{Database, Fits}
use Rattle.role_model.specs.declared.metadata.Metadata.{Metadata}
use Rattle.plan_model.specs.declared.plan.Plan.{Plan}
use Rattle.query_model.specs.declared.kind.SubKind.TheVariants as sub
use Rattle.query_model.specs.Queries.{Query, SameCohort, binding_of, view_of}
use Rattle.query_model.specs.Admission.{Admitted}
use Rattle.query_model.specs.Results.{result}
use Rattle.plan_model.specs.Planned.{planned}
use Rattle.query_model.specs.Plans.{plan_of}
use Rattle.query_model.specs.AdmissionLaws.{IsAdmitted}

-- the cursors with which a query may be run: any for a stream, and else null
abbrev pub MayBeCursor : Query → Val → Type 0
MayBeCursor q cursor = (q.kind ≡ sub.Stream → ⊥) → cursor ≡ val.Null

-- what the plan gives with the query's binding is the query's result
abbrev pub PlannedIsResult : Type 0
PlannedIsResult = (m : Metadata) (a : Admitted) → IsAdmitted m a →
    (p : Plan) → plan_of (view_of m a.query) a.query.selection ≡ Some p →
    (db : Database) → Fits m.catalog db → (cursor : Val) → MayBeCursor a.query cursor →
    planned p (binding_of a.query cursor) db ≡ result m a.query cursor db

-- queries of one cohort have one result
abbrev pub CohortsHaveOneResult : Type 0
CohortsHaveOneResult = (m : Metadata) (a b : Admitted) → IsAdmitted m a → IsAdmitted m b →
    (c d : Val) → MayBeCursor a.query c → MayBeCursor b.query d → SameCohort a.query c b.query d →
    (db : Database) → Fits m.catalog db → result m a.query c db ≡ result m b.query d db
