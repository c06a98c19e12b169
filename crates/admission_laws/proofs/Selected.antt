-- A request comes to what its selection is answered with.
use Rattle.std.proofs.Common.{◌≡◌, ◌↔◌, Option, Result, Ok, Err, refl, sym, subst}
use Rattle.serde_json.specs.Data.{Members}
use Rattle.role_model.specs.declared.metadata.Metadata.{Metadata}
use Rattle.role_model.specs.declared.session.Session.{Session}
use Rattle.request_model.specs.declared.flat.Flat.{Flat}
use Rattle.request_model.specs.Strings.{Text}
use Rattle.query_model.specs.declared.fault.QueryFault.{QueryFault}
use Rattle.query_model.specs.Admission.{Admitted, Admits, unread, unselected, selected}
use Rattle.query_model.specs.Selecting.{Selects, answered}
use Rattle.query_model.specs.Selecting as reading
use Rattle.query_model.specs.AdmissionLaws.{AnsweredBySelection}

module _ (m : Metadata) (session : Session) (text : Text) (operation : Option Text) (values : Members) where
  abbrev asked : Result Flat QueryFault → Result Admitted QueryFault
  asked x = answered m session (record { selection = x; values = values })

  abbrev Selected : Result Admitted QueryFault → Type 0
  Selected r = (x : Result Flat QueryFault) × Selects text operation values x × (r ≡ asked x)

  selected_of : (r : Result Admitted QueryFault) → Admits m session text operation values r → Selected r
  selected_of r (unread p) = (Err _, reading.unread p, refl)
  selected_of r (unselected p f k) = (Err _, reading.unselected p f k, refl)
  selected_of r (selected p f) = (Ok _, reading.selected p f, refl)

  admitted_by : (x : Result Flat QueryFault) → Selects text operation values x →
      Admits m session text operation values (asked x)
  admitted_by x (reading.unread p) = unread p
  admitted_by x (reading.unselected p f k) = unselected p f k
  admitted_by x (reading.selected p f) = selected p f

  admits_of : (r : Result Admitted QueryFault) → Selected r → Admits m session text operation values r
  admits_of r (x, s, e) = subst (Admits m session text operation values) (sym e) (admitted_by x s)

pub answered_by_selection : AnsweredBySelection
answered_by_selection m session text operation values r =
    (selected_of m session text operation values r, admits_of m session text operation values r)
