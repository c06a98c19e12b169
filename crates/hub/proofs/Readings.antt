-- What is read of clients' texts, and admitted.
use Rattle.std.proofs.Common.{◌≡◌, sym, refl, subst, ℕ, Option, Some, None, Result, Ok, Err, IfOk, List}
use Rattle.serde_json.specs.Data.{Members}
use Rattle.role_model.specs.declared.metadata.Metadata.{Metadata}
use Rattle.role_model.specs.declared.session.Session.{Session}
use Rattle.request_model.specs.declared.flat.Flat.{Flat}
use Rattle.query_model.specs.declared.fault.AdmitFault.{AdmitFault}
use Rattle.query_model.specs.declared.fault.AdmitFault.TheVariants as admit
use Rattle.query_model.specs.declared.fault.QueryFault.{QueryFault}
use Rattle.query_model.specs.Admission as query
use Rattle.query_model.specs.Admission.{Admits, admitted}
use Rattle.query_model.specs.AdmissionLaws.{AnsweredBySelection}
use Rattle.query_model.specs.Selecting.{Selects}
use Rattle.plan_build.specs.declared.admission.Admitted.{Admitted}
use Rattle.plan_build.specs.Made.{IsMade}
use Rattle.wire_model.specs.ClientMessages.{ClientMessage, message}
use Rattle.ws_message.specs.declared.client.ClientMsg.{ClientMsg}
use Rattle.ws_message.specs.declared.client.ClientMsg.TheVariants as told
use Rattle.ws_message.specs.Meant.{meant}
use Rattle.machine.specs.Messages.{Message, Means, Says, init, subscribe, complete, ping, pong, bad}
use Rattle.hub.specs.declared.reading.Selection.{Selection}
use Rattle.hub.specs.Readings.{IsReadAs, said_of}

pub means_said : (msg : ClientMsg) (s : Option Selection) → IsReadAs msg s → Means (meant msg) (said_of msg s)
means_said (told.Init payload) s h = init
means_said (told.Subscribe id request) (Some s) h = subscribe (record { values = refl; selection = h })
means_said (told.Subscribe id request) None h = absurd h
means_said (told.Complete id) s h = complete
means_said told.Ping s h = ping
means_said told.Pong s h = pong
means_said told.Bad s h = bad

pub says_said : (text : List ℕ) (msg : ClientMsg) (s : Option Selection) → meant msg ≡ message text → IsReadAs msg s →
    Says text (said_of msg s)
says_said text msg s is h = subst (λ (m : ClientMessage). Means m (said_of msg s)) is (means_said msg s h)

module _ (by : AnsweredBySelection) (m : Metadata) (session : Session) (text : List ℕ) (operation : Option (List ℕ))
    (values : Members) where
  pub admitted_as : (flat : Flat) → Selects text operation values (Ok flat) → (r : Result Admitted AdmitFault) →
      IfOk r (λ made. (a : query.Admitted) × (admitted m session values flat ≡ Ok a) × IsMade m a made) →
      IfOk r (λ made. (a : query.Admitted) × Admits m session text operation values (Ok a) × IsMade m a made)
  admitted_as flat s (Ok made) h = (h.0, (by m session text operation values (Ok h.0)).1 (Ok flat, s, sym h.1), h.2)
  admitted_as flat s (Err e) h = tt

  pub refused_as : (flat : Flat) (fault : QueryFault) → Selects text operation values (Ok flat) →
      admitted m session values flat ≡ Err fault → Admits m session text operation values (Err fault)
  refused_as flat fault s e = (by m session text operation values (Err fault)).1 (Ok flat, s, sym e)

  pub unread_as : (fault other : QueryFault) → other ≡ fault → Selects text operation values (Err fault) →
      Admits m session text operation values (Err other)
  unread_as fault other is s =
      subst (λ (f : QueryFault). Admits m session text operation values (Err f)) (sym is)
      ((by m session text operation values (Err fault)).1 (Err fault, s, refl))
