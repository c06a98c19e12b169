-- Which subscribes become subscriptions.
use Rattle.std.proofs.Common.{◌≡◌, ◌∙◌, ap, ℕ, Bool, false, if◌then◌else◌, Some, List, Result, Ok, Err}
use Rattle.std.specs.List.{list_any}
use Rattle.role_model.specs.declared.metadata.Metadata.{Metadata}
use Rattle.role_model.specs.declared.session.Session.{Session}
use Rattle.query_model.specs.declared.fault.QueryFault.{QueryFault}
use Rattle.query_model.specs.Admission.{Admitted}
use Rattle.query_model.specs.Selecting.{Asked, answered}
use Rattle.wire_model.specs.declared.step.Action.TheVariants as act
use Rattle.machine.specs.Messages.{Message, Subscribe}
use Rattle.machine.specs.declared.phase.Phase.{Phase}
use Rattle.machine.specs.declared.phase.Phase.TheVariants.{Acknowledged}
use Rattle.machine.specs.State.{State, Connection, Did, Step, Receive, with_reply}
use Rattle.machine.specs.Connections.{connection_at, is_live_id, receive, acts, subscribed}
use Rattle.machine.specs.Run.{happens, run}
use Rattle.run_laws.specs.Laws.{AdmitsSubscribes, subscribes}
use Rattle.run_laws.proofs.Runs.{at_known}

received : (meta : Metadata) (s : State) (c : Connection) (session : Session) (m : Message) → connection_at c.number s ≡ Some c → c.phase ≡ Acknowledged session →
    happens meta s (Receive c.number m) ≡ with_reply Did (receive meta c.number m s (Acknowledged session))
received meta s c session m known phase =
    at_known (λ known. with_reply Did (receive meta c.number m s known.phase)) s (connection_at c.number s) c known ∙ ap (λ (p : Phase). with_reply Did (receive meta c.number m s p)) phase

pub subscribed_to : (meta : Metadata) (s : State) (c : Connection) (session : Session) (id : List ℕ) (asked : Asked) → connection_at c.number s ≡ Some c → c.phase ≡ Acknowledged session →
    list_any (is_live_id c.number id) s.subscriptions ≡ false → subscribes meta s c.number id asked ≡ with_reply Did (subscribed c.number id s (answered meta session asked))
subscribed_to meta s c session id asked known phase free =
    received meta s c session (Subscribe id asked) known phase
    ∙ ap (λ (b : Bool). with_reply Did (acts meta c.number (Subscribe id asked) s (Acknowledged session) (if b then act.Exists else act.Admit))) free

pub admits_subscribes : (meta : Metadata) → AdmitsSubscribes meta
admits_subscribes meta h c session id asked known phase free =
    let reached = subscribed_to meta (run meta h) c session id asked known phase free in
    let by : (r : Result Admitted QueryFault) → answered meta session asked ≡ r → subscribes meta (run meta h) c.number id asked ≡ with_reply Did (subscribed c.number id (run meta h) r)
    = λ r e. reached ∙ ap (λ (a : Result Admitted QueryFault). with_reply Did (subscribed c.number id (run meta h) a)) e in (
      (λ a admitted. ap (λ (t : Step). t.state) (by (Ok a) admitted)),
      (λ fault refused. (ap (λ (t : Step). t.state.subscriptions) (by (Err fault) refused), ap (λ (t : Step). t.queued) (by (Err fault) refused))),
    )
