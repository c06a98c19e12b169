-- What the subscriptions of a run ask for was admitted. This project's own.
use Rattle.std.specs.Prelude.{◌≡◌, ⊤, Result, Ok, Err, List, IsTrue}
use Rattle.std.specs.List.{AllByRecursion}
use Rattle.role_model.specs.declared.metadata.Metadata.{Metadata}
use Rattle.role_model.specs.MetadataMeaning.{IsMetadata}
use Rattle.request_model.specs.declared.flat.Flat.{Flat}
use Rattle.request_model.specs.SelectionLaws.{is_written}
use Rattle.query_model.specs.declared.fault.QueryFault.{QueryFault}
use Rattle.query_model.specs.Admission.{Admitted}
use Rattle.query_model.specs.AdmissionLaws.{IsAdmitted}
use Rattle.query_model.specs.ResultLaws.{MayBeCursor}
use Rattle.machine.specs.Messages.{Subscribe}
use Rattle.machine.specs.State.{Subscription, Event, Receive}
use Rattle.machine.specs.Run.{run}

-- the selection is of names and literals, as all that is read is
abbrev pub IsWritten : Result Flat QueryFault → Type 0
IsWritten (Ok s) = IsTrue (is_written s)
IsWritten (Err e) = ⊤

-- so is what a subscribe asks for
abbrev pub AsksWritten : Event → Type 0
AsksWritten (Receive c (Subscribe id asked)) = IsWritten asked.selection
AsksWritten _ = ⊤

-- the subscription's query was admitted, and its cursor is one with which the query may be run
pub record WasAdmitted (meta : Metadata) (sub : Subscription) : Type 0 where
  pub admitted : Admitted
  pub is_admitted : IsAdmitted meta admitted
  pub query : admitted.query ≡ sub.query
  pub cursor : MayBeCursor sub.query sub.cursor

abbrev pub SubscriptionsAreAdmitted : Metadata → Type 0
SubscriptionsAreAdmitted meta =
    IsMetadata meta → (h : List Event) → AllByRecursion AsksWritten h →
    AllByRecursion (WasAdmitted meta) (run meta h).subscriptions
