-- What reading a request's text gives, with no metadata and no session in it: the flat selection that its operation
-- names, or the first refusal. Admission goes on from there. This project's own.
use Rattle.std.specs.Prelude.{◌≡◌, ℕ, List, [], Option, Some, Result, Ok, Err}
use Rattle.serde_json.specs.Data.{Members}
use Rattle.role_model.specs.declared.metadata.Metadata.{Metadata}
use Rattle.role_model.specs.declared.session.Session.{Session}
use Rattle.request_model.specs.declared.document.Document.{Document}
use Rattle.request_model.specs.declared.flat.Flat.{Flat}
use Rattle.request_model.specs.declared.flat.FlatFault.{FlatFault}
use Rattle.request_model.specs.Strings.{Text}
use Rattle.request_model.specs.Place.{Reads, FaultAt}
use Rattle.request_model.specs.Selection.{Flattens}
use Rattle.query_model.specs.declared.fault.FaultKind.{FaultKind}
use Rattle.query_model.specs.declared.fault.QueryFault.{QueryFault}
use Rattle.query_model.specs.Refusals.{refusal}
use Rattle.query_model.specs.Admission.{Admitted, admitted, and_next, kind_of_fault, syntax_at}

-- the text, the name of its operation or none, and the values of its variables, some of which decide what is skipped
pub data Selects (text : Text) (operation : Option Text) (values : Members) : Result Flat QueryFault → Type 0 where
  unread : {at : ℕ} → FaultAt text at → Selects text operation values (Err (syntax_at at))
  unselected : {d : Document} {x : FlatFault} {k : FaultKind} →
      Reads text d → Flattens d operation values (Err x) → kind_of_fault x ≡ Some k →
      Selects text operation values (Err (refusal k []))
  selected : {d : Document} {s : Flat} →
      Reads text d → Flattens d operation values (Ok s) → Selects text operation values (Ok s)

-- what a client asks for: what reading gave, and the values of the variables
pub record Asked : Type 0 where
  pub selection : Result Flat QueryFault
  pub values : Members

-- what it comes to
abbrev pub answered : Metadata → Session → Asked → Result Admitted QueryFault
answered m session asked = and_next asked.selection (admitted m session asked.values)
