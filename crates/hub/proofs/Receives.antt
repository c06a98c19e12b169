-- What each message of a client does, by what it asks for.
use Rattle.std.proofs.Common.{◌≡◌, ◌∙◌, sym, ap, refl, subst, ℕ, ◌||◌, cond, Bool, true, false, Some, None, Ok, Err}
use Rattle.std.proofs.Common.{Option, Result, IfOk, List, [], ◌∷◌}
use Rattle.std.specs.Option.{is_some, option_map}
use Rattle.std.specs.Prelude.{unwrap_or}
use Rattle.std.specs.List.{find, list_any}
use Rattle.std.specs.Str.{bytes_eq}
use Rattle.scalar_val.specs.declared.text.NoMemory.{NoMemory}
use Rattle.serde_json.specs.Data.{Data, null, Members}
use Rattle.serde_json.specs.View.{view}
use Rattle.json_out.specs.declared.data.Request.{Request}
use Rattle.role_model.specs.declared.metadata.Metadata.{Metadata}
use Rattle.role_model.specs.declared.session.Session.{Session}
use Rattle.role_model.specs.declared.session.Identity.{Identity}
use Rattle.role_model.specs.declared.session.Identity.TheVariants.{Allowed, Forbidden}
use Rattle.role_model.specs.Sessions.{identity_of}
use Rattle.request_model.specs.Selection.{given_values}
use Rattle.query_model.specs.declared.fault.FaultKind.TheVariants as fault
use Rattle.query_model.specs.declared.fault.AdmitFault.{AdmitFault}
use Rattle.query_model.specs.declared.fault.AdmitFault.TheVariants as admit
use Rattle.query_model.specs.declared.fault.QueryFault.{QueryFault}
use Rattle.query_model.specs.Refusals.{refusal, code_of, message_of}
use Rattle.query_model.specs.Admission.{Admitted, Admits, admitted, and_next}
use Rattle.query_model.specs.AdmissionLaws.{AdmitsOnce, AnsweredBySelection}
use Rattle.query_model.specs.Selecting.{Asked, Selects, answered}
use Rattle.wire_model.specs.declared.close.CloseReason.{CloseReason}
use Rattle.wire_model.specs.declared.close.CloseReason.TheVariants as close
use Rattle.wire_model.specs.declared.step.Phase as wire
use Rattle.wire_model.specs.declared.step.Phase.TheVariants as stage
use Rattle.wire_model.specs.declared.step.Action.{Action}
use Rattle.wire_model.specs.declared.step.Action.TheVariants as act
use Rattle.wire_model.specs.ClientMessages as client
use Rattle.wire_model.specs.ClientMessages.{ClientMessage}
use Rattle.wire_model.specs.ServerMessages.{pong_text, error_text}
use Rattle.wire_model.specs.Steps.{action, on_fresh, on_acked, closes_with}
use Rattle.ws_message.specs.declared.client.ClientMsg.{ClientMsg}
use Rattle.ws_message.specs.declared.client.ClientMsg.TheVariants as told
use Rattle.ws_message.specs.Meant.{meant, request_meant}
use Rattle.machine.specs.Messages.{Message, Init, Subscribe, Complete, Ping, Pong, Bad, IsRead, Means, Says, init}
use Rattle.machine.specs.Messages.{subscribe, complete, ping, pong, bad, id_of, plain}
use Rattle.machine.specs.declared.phase.Phase.{Phase}
use Rattle.machine.specs.declared.phase.Phase.TheVariants.{Fresh, Acknowledged, Closed}
use Rattle.machine.specs.State.{Event, Receive, Binary, ConnectionUnknown, Did}
use Rattle.machine.specs.Connections.{stage_of}
use Rattle.connection_table.specs.Connected.{Connected, phase_of}
use Rattle.hub_model.specs.declared.reply.ConnReply.{ConnReply}
use Rattle.hub_model.specs.declared.reply.ConnReply.TheVariants as replies
use Rattle.hub_model.specs.Kept.{Kept}
use Rattle.hub_model.specs.Stands.{Does}
use Rattle.hub_model.specs.Steps.{Joining, counted, known, knows, live_on}
use Rattle.hub_model.specs.Replies.{ConnAnswers}
use Rattle.hub_model.proofs.Items.{Among, found_among}
use Rattle.hub_model.proofs.Found.{has_live_id, asked_as}
use Rattle.hub_model.proofs.Joins.{Asks}
use Rattle.hub_model.proofs.Conversations.{receive_unknown, binary_unknown, binary_by, receive_pong, receive_ignored}
use Rattle.hub_model.proofs.Conversations.{receive_closing, receive_allowed, receive_forbidden, receive_admitted}
use Rattle.hub_model.proofs.Conversations.{receive_refused, receive_ended}
use Rattle.hub.specs.Parts.{ClosesBy, did_nothing}
use Rattle.hub.specs.Messages.{phase_in, stage_in, has_id, live_as, id_in, AsksFor, Received, SaysBy, AcknowledgesBy}
use Rattle.hub.specs.Messages.{EndsBy, JoinsBy, refusal_text, joining, IsReady}
use Rattle.hub.specs.declared.conversation.Ready.{Ready}
use Rattle.hub.proofs.Runs.{is_run}

-- ---- messages that are alike to the table of the protocol

pub record IsLike (msg : ClientMessage) (m : Message) : Type 0 where
  pub id : id_of m ≡ id_in msg
  pub asks : (s : wire.Phase) (live : Bool) → action s (plain m) live ≡ action s msg live

any_request : (id : List ℕ) (r q : client.Request) (s : wire.Phase) (live : Bool) →
    action s (client.Subscribe id r) live ≡ action s (client.Subscribe id q) live
any_request id r q stage.Fresh live = refl
any_request id r q stage.Acked live = refl
any_request id r q stage.Closed live = refl

pub like_subscribe : (id : List ℕ) (request : client.Request) (asked : Asked) →
    IsLike (client.Subscribe id request) (Subscribe id asked)
like_subscribe id request asked = record { id = refl; asks = any_request id _ request }

pub like_means : (msg : ClientMessage) (m : Message) → Means msg m → IsLike msg m
like_means msg m init = record { id = refl; asks = λ s live. refl }
like_means msg m (subscribe read) = like_subscribe _ _ _
like_means msg m complete = record { id = refl; asks = λ s live. refl }
like_means msg m ping = record { id = refl; asks = λ s live. refl }
like_means msg m pong = record { id = refl; asks = λ s live. refl }
like_means msg m bad = record { id = refl; asks = λ s live. refl }

-- a message, whatever reading its request gives
abbrev some_message : ClientMessage → Message
some_message (client.Init payload) = Init payload
some_message (client.Subscribe id request) =
    Subscribe id (record { selection = Err (refusal fault.Syntax []); values = given_values null })
some_message (client.Complete id) = Complete id
some_message client.Ping = Ping
some_message client.Pong = Pong
some_message client.Bad = Bad

like_some : (msg : ClientMessage) → IsLike msg (some_message msg)
like_some (client.Init payload) = record { id = refl; asks = λ s live. refl }
like_some (client.Subscribe id request) = like_subscribe id request _
like_some (client.Complete id) = record { id = refl; asks = λ s live. refl }
like_some client.Ping = record { id = refl; asks = λ s live. refl }
like_some client.Pong = record { id = refl; asks = λ s live. refl }
like_some client.Bad = record { id = refl; asks = λ s live. refl }

pub means_init : (payload : Option Data) (m : Message) → Means (client.Init payload) m → m ≡ Init payload
means_init payload m init = refl

pub record IsSubscribe (id : List ℕ) (request : client.Request) (m : Message) : Type 0 where
  pub asked : Asked
  pub read : IsRead request asked
  pub is : m ≡ Subscribe id asked

pub means_subscribe : (id : List ℕ) (request : client.Request) (m : Message) → Means (client.Subscribe id request) m →
    IsSubscribe id request m
means_subscribe id request m (subscribe {asked = asked} read) = record { asked = asked; read = read; is = refl }

-- ---- what a message asks for

first_or_more : {X : Type 0} (x : X) (b c : Bool) (o : Option X) → is_some o ≡ c →
    is_some (cond b (Some x) o) ≡ (b || c)
first_or_more x true c o e = refl
first_or_more x false c o e = e

some_found : {X : Type 0} (p : X → Bool) (xs : List X) → is_some (find p xs) ≡ list_any p xs
some_found p [] = refl
some_found p (x ∷ xs) = first_or_more x (p x) (list_any p xs) (find p xs) (some_found p xs)

pub asks_at : (conn : ℕ) (k : Kept) (msg : ClientMessage) (a : Action) (s : wire.Phase) → stage_in conn k ≡ Some s →
    action s msg (is_some (live_as conn (id_in msg) k)) ≡ a → AsksFor conn msg a k
asks_at conn k msg a s at is = go (known conn k) refl at
  where
    go : (o : Option Connected) → known conn k ≡ o → option_map stage_of (option_map phase_of o) ≡ Some s →
        AsksFor conn msg a k
    go (Some x) e f = record {
      connected = x;
      at = e;
      is =
          let same : stage_of x.phase ≡ s = cc in
          ap (λ (t : wire.Phase). action t msg (is_some (live_as conn (id_in msg) k))) same ∙ is;
    }
    go None e f = absurd (cc)

-- the same, step by step
pub step_asks : (conn : ℕ) (k : Kept) (msg : ClientMessage) (s : wire.Phase) (id : List ℕ) (o : Option ℕ) (live : Bool)
    (a : Action) → stage_in conn k ≡ Some s → id ≡ id_in msg → o ≡ live_as conn id k → live ≡ is_some o →
    a ≡ action s msg live → AsksFor conn msg a k
step_asks conn k msg s id o live a at own found some is =
    asks_at conn k msg a s at
    (sym (is ∙ ap (action s msg) (some ∙ ap is_some (found ∙ ap (λ (i : List ℕ). live_as conn i k) own))))

-- only a subscription that is live ends
not_ended : (s : wire.Phase) (msg : ClientMessage) → action s msg false ≡ act.End → ⊥
not_ended stage.Fresh (client.Init payload) e = cc
not_ended stage.Fresh (client.Subscribe id request) e = cc
not_ended stage.Fresh (client.Complete id) e = cc
not_ended stage.Fresh client.Ping e = cc
not_ended stage.Fresh client.Pong e = cc
not_ended stage.Fresh client.Bad e = cc
not_ended stage.Acked (client.Init payload) e = cc
not_ended stage.Acked (client.Subscribe id request) e = cc
not_ended stage.Acked (client.Complete id) e = cc
not_ended stage.Acked client.Ping e = cc
not_ended stage.Acked client.Pong e = cc
not_ended stage.Acked client.Bad e = cc
not_ended stage.Closed msg e = cc

pub ended_is_live : (conn : ℕ) (k : Kept) (msg : ClientMessage) → AsksFor conn msg act.End k →
    live_as conn (id_in msg) k ≡ None → ⊥
ended_is_live conn k msg i none =
    not_ended (stage_of i.connected.phase) msg
    (ap (λ (o : Option ℕ). action (stage_of i.connected.phase) msg (is_some o)) (sym none) ∙ i.is)

module _ (conn : ℕ) (k : Kept) (msg : ClientMessage) where
  live_at : (x : Connected) → known conn k ≡ Some x → live_on conn k ≡ x.live
  live_at x e = ap (λ (o : Option Connected). unwrap_or (option_map (λ (c : Connected). c.live) o) []) e

  module _ (a : Action) (i : AsksFor conn msg a k) (m : Message) (l : IsLike msg m) where
    same_live : has_live_id k (id_of m) i.connected ≡ is_some (live_as conn (id_in msg) k)
    same_live =
        ap (λ (id : List ℕ). has_live_id k id i.connected) l.id
        ∙ sym (some_found (has_id k.held (id_in msg)) i.connected.live)
        ∙ ap (λ (ns : List ℕ). is_some (find (has_id k.held (id_in msg)) ns)) (sym (live_at i.connected i.at))

    pub asks_so : action (stage_of i.connected.phase) (plain m) (has_live_id k (id_of m) i.connected) ≡ a
    asks_so =
        ap (action (stage_of i.connected.phase) (plain m)) same_live
        ∙ l.asks (stage_of i.connected.phase) (is_some (live_as conn (id_in msg) k))
        ∙ i.is

  pub pongs : AsksFor conn msg act.Pong k → (m : Message) → IsLike msg m → SaysBy k conn pong_text (Receive conn m)
  pongs i m l = receive_pong conn k i.connected i.at (is_run k.meta) m (asks_so act.Pong i m l)

  pub ignores : AsksFor conn msg act.Ignore k → (m : Message) → IsLike msg m →
      Does k (counted k) (Receive conn m) Did [] []
  ignores i m l = receive_ignored conn k i.connected i.at (is_run k.meta) m (asks_so act.Ignore i m l)

  pub closes : (a : Action) (reason : CloseReason) → AsksFor conn msg a k → closes_with (id_in msg) a ≡ Some reason →
      (m : Message) → IsLike msg m → ClosesBy k conn reason (Receive conn m)
  closes a reason i with_reason m l =
      receive_closing conn k i.connected i.at (is_run k.meta) m reason
      (ap (closes_with (id_of m)) (asks_so a i m l)
      ∙ ap (λ (id : List ℕ). closes_with id a) l.id ∙ with_reason)

  pub ends : (n : ℕ) → AsksFor conn msg act.End k → live_as conn (id_in msg) k ≡ Some n → (m : Message) → IsLike msg m →
      EndsBy k conn n (Receive conn m)
  ends n i found m l =
      let at = found_among (has_id k.held (id_in msg)) (live_on conn k) n found in
      let held = asked_as k (id_in msg) n at.1 in
      receive_ended conn k i.connected i.at (is_run k.meta) m n held.held (asks_so act.End i m l)
      (subst (λ (ns : List ℕ). Among n ns) (live_at i.connected i.at) at.0)
      held.at
      (ap (bytes_eq held.held.id) l.id ∙ held.is)

-- ---- some event

pub some_event : (conn : ℕ) (msg : ClientMessage) (P : Event → Type 0) →
    ((m : Message) → IsLike msg m → P (Receive conn m)) → (e : Event) × P e
some_event conn msg P f = (Receive conn (some_message msg), f (some_message msg) (like_some msg))

-- ---- whatever reading gives

pub received : (k k' : Kept) (conn : ℕ) (msg : ClientMessage) (reply : ConnReply) →
    ((m : Message) → IsLike msg m → ConnAnswers k k' conn (Receive conn m) reply) → Received k k' conn msg reply
received k k' conn msg reply f = λ m w. f m (like_means msg m w)

-- the reply of a call that some event allows
pub each_received : (k k' : Kept) (conn : ℕ) (msg : ClientMessage) (P : Event → Type 0)
    (r : Result ConnReply NoMemory) →
    IfOk r (λ reply. (e : Event) → P e → ConnAnswers k k' conn e reply) →
    ((m : Message) → IsLike msg m → P (Receive conn m)) → IfOk r (Received k k' conn msg)
each_received k k' conn msg P (Ok reply) f g = received k k' conn msg reply (λ m l. f (Receive conn m) (g m l))
each_received k k' conn msg P (Err e) f g = tt

-- the event did this and nothing else
pub did_so : (k j k' : Kept) (conn : ℕ) (e : Event) (reply : ConnReply) → k' ≡ j → reply ≡ did_nothing →
    Does k j e Did [] [] → ConnAnswers k k' conn e reply
did_so k j k' conn e reply new is does =
    subst (λ (r : ConnReply). ConnAnswers k k' conn e r) (sym is)
    (subst (λ (x : Kept). Does k x e Did [] []) (sym new) does)

-- ---- connections that aren't known

pub unknown_in : (conn : ℕ) (k : Kept) → stage_in conn k ≡ None → knows conn k ≡ false
unknown_in conn k e = go (known conn k) e
  where
    go : (o : Option Connected) → option_map stage_of (option_map phase_of o) ≡ None → is_some o ≡ false
    go (Some x) f = absurd (cc)
    go None f = refl

pub receives_unknown : (conn : ℕ) (k k' : Kept) → stage_in conn k ≡ None → k' ≡ counted k → (m : Message) →
    ConnAnswers k k' conn (Receive conn m) replies.ConnUnknown
receives_unknown conn k k' at new m =
    subst (λ (x : Kept). Does k x (Receive conn m) ConnectionUnknown [] []) (sym new)
    (receive_unknown conn k (unknown_in conn k at) m)

-- a text, of which this was read
pub each_said : (k k' : Kept) (conn : ℕ) (text : List ℕ) (msg : ClientMessage) (r : Result ConnReply NoMemory) →
    msg ≡ client.message text → IfOk r (Received k k' conn msg) → (m : Message) → Says text m →
    IfOk r (λ reply. ConnAnswers k k' conn (Receive conn m) reply)
each_said k k' conn text msg (Ok reply) is h m says = h m (subst (λ (c : ClientMessage). Means c m) (sym is) says)
each_said k k' conn text msg (Err e) is h m says = tt

pub some_said : (k k' : Kept) (conn : ℕ) (msg : ClientMessage) (r : Result ConnReply NoMemory) (m : Message) →
    Means msg m → IfOk r (Received k k' conn msg) →
    IfOk r (λ reply. (said : Message) × ConnAnswers k k' conn (Receive conn said) reply)
some_said k k' conn msg (Ok reply) m means h = (m, h m means)
some_said k k' conn msg (Err e) m means h = tt

pub is_heard : (k k' : Kept) (conn : ℕ) (msg : ClientMessage) (m : Message) (r : Result ConnReply NoMemory) →
    Means msg m → IfOk r (Received k k' conn msg) → IfOk r (λ reply. ConnAnswers k k' conn (Receive conn m) reply)
is_heard k k' conn msg m (Ok reply) means h = h m means
is_heard k k' conn msg m (Err e) means h = tt

-- ---- binary messages

pub binaries_unknown : (conn : ℕ) (k k' : Kept) → stage_in conn k ≡ None → k' ≡ counted k →
    ConnAnswers k k' conn (Binary conn) replies.ConnUnknown
binaries_unknown conn k k' at new =
    subst (λ (x : Kept). Does k x (Binary conn) ConnectionUnknown [] []) (sym new)
    (binary_unknown conn k (unknown_in conn k at))

pub bad_is_like : IsLike client.Bad Bad
bad_is_like = record { id = refl; asks = λ s live. refl }

pub binaries_ignored : (conn : ℕ) (k k' : Kept) (reply : ConnReply) → stage_in conn k ≡ Some stage.Closed →
    k' ≡ counted k → reply ≡ did_nothing → ConnAnswers k k' conn (Binary conn) reply
binaries_ignored conn k k' reply at new is =
    did_so k (counted k) k' conn (Binary conn) reply new is
    (binary_by conn k (counted k) Did [] []
    (ignores conn k client.Bad (asks_at conn k client.Bad act.Ignore stage.Closed at refl) Bad bad_is_like))

pub binaries_closing : (conn : ℕ) (k : Kept) (s : wire.Phase) → stage_in conn k ≡ Some s → (s ≡ stage.Closed → ⊥) →
    ClosesBy k conn close.Invalid (Binary conn)
binaries_closing conn k s at not_closed =
    binary_by conn k _ Did [] _
    (closes conn k client.Bad act.Invalid close.Invalid
    (asks_at conn k client.Bad act.Invalid s at (invalid s not_closed)) refl Bad bad_is_like)
  where
    invalid : (s : wire.Phase) → (s ≡ stage.Closed → ⊥) →
        action s client.Bad (is_some (live_as conn [] k)) ≡ act.Invalid
    invalid stage.Fresh h = refl
    invalid stage.Acked h = refl
    invalid stage.Closed h = absurd (h refl)

-- ---- identities

fresh_init : (msg : ClientMessage) → on_fresh msg ≡ act.Identify → (payload : Option Data) × (msg ≡ client.Init payload)
fresh_init (client.Init payload) e = (payload, refl)
fresh_init (client.Subscribe id request) e = absurd (cc)
fresh_init (client.Complete id) e = absurd (cc)
fresh_init client.Ping e = absurd (cc)
fresh_init client.Pong e = absurd (cc)
fresh_init client.Bad e = absurd (cc)

acked_no_init : (msg : ClientMessage) (live : Bool) → on_acked msg live ≡ act.Identify → ⊥
acked_no_init (client.Init payload) live e = cc
acked_no_init (client.Subscribe id request) true e = cc
acked_no_init (client.Subscribe id request) false e = cc
acked_no_init (client.Complete id) true e = cc
acked_no_init (client.Complete id) false e = cc
acked_no_init client.Ping live e = cc
acked_no_init client.Pong live e = cc
acked_no_init client.Bad live e = cc

pub identifies : (s : wire.Phase) (msg : ClientMessage) (live : Bool) → action s msg live ≡ act.Identify →
    (payload : Option Data) × (msg ≡ client.Init payload)
identifies stage.Fresh msg live e = fresh_init msg e
identifies stage.Acked msg live e = absurd (acked_no_init msg live e)
identifies stage.Closed msg live e = absurd (cc)

module _ (conn : ℕ) (k : Kept) (payload : Option Data) (i : AsksFor conn (client.Init payload) act.Identify k) where
  like_init : IsLike (client.Init payload) (Init payload)
  like_init = record { id = refl; asks = λ s live. refl }

  pub allows : (session : Session) → identity_of k.meta payload ≡ Allowed session →
      AcknowledgesBy k conn session (Receive conn (Init payload))
  allows session is =
      receive_allowed conn k i.connected i.at (is_run k.meta) payload session
      (asks_so conn k (client.Init payload) act.Identify i (Init payload) like_init) is

  pub forbids : identity_of k.meta payload ≡ Forbidden → ClosesBy k conn close.Forbidden (Receive conn (Init payload))
  forbids is =
      receive_forbidden conn k i.connected i.at (is_run k.meta) payload
      (asks_so conn k (client.Init payload) act.Identify i (Init payload) like_init) is

-- whom a message identifies
pub record Identifies (k : Kept) (msg : ClientMessage) (identity : Identity) : Type 0 where
  pub payload : Option Data
  pub is : msg ≡ client.Init payload
  pub whom : identity_of k.meta payload ≡ identity

pub identifies_so : (conn : ℕ) (k : Kept) (msg : ClientMessage) (i : AsksFor conn msg act.Identify k) (meta : Metadata)
    (given : Option Data) (identity : Identity) → meta ≡ k.meta →
    ((payload : Option Data) → msg ≡ client.Init payload → given ≡ payload) → identity ≡ identity_of meta given →
    Identifies k msg identity
identifies_so conn k msg i meta given identity same own is =
    let its = identifies (stage_of i.connected.phase) msg _ i.is in
    record {
      payload = its.0;
      is = its.1;
      whom = sym (is ∙ ap (λ (m : Metadata). identity_of m given) same ∙ ap (identity_of k.meta) (own its.0 its.1));
    }

module _ (conn : ℕ) (k : Kept) (msg : ClientMessage) (i : AsksFor conn msg act.Identify k) (identity : Identity)
    (w : Identifies k msg identity) where
  abbrev asks_init : AsksFor conn (client.Init w.payload) act.Identify k
  asks_init = subst (λ (m : ClientMessage). AsksFor conn m act.Identify k) w.is i

  pub acknowledges : (session : Session) → identity ≡ Allowed session →
      AcknowledgesBy k conn session (Receive conn (Init w.payload))
  acknowledges session is = allows conn k w.payload asks_init session (w.whom ∙ is)

  pub turns_away : identity ≡ Forbidden → ClosesBy k conn close.Forbidden (Receive conn (Init w.payload))
  turns_away is = forbids conn k w.payload asks_init (w.whom ∙ is)

-- one message alone is meant
pub init_received : (k k' : Kept) (conn : ℕ) (payload : Option Data) (reply : ConnReply) →
    ConnAnswers k k' conn (Receive conn (Init payload)) reply → Received k k' conn (client.Init payload) reply
init_received k k' conn payload reply does =
    λ m w. subst (λ (n : Message). ConnAnswers k k' conn (Receive conn n) reply) (sym (means_init payload m w)) does

pub each_init_received : (k k' : Kept) (conn : ℕ) (payload : Option Data) (P : Event → Type 0)
    (r : Result ConnReply NoMemory) →
    IfOk r (λ reply. (e : Event) → P e → ConnAnswers k k' conn e reply) → P (Receive conn (Init payload)) →
    IfOk r (Received k k' conn (client.Init payload))
each_init_received k k' conn payload P (Ok reply) f p =
    init_received k k' conn payload reply (f (Receive conn (Init payload)) p)
each_init_received k k' conn payload P (Err e) f p = tt

pub whom_received : (k k' : Kept) (conn : ℕ) (msg : ClientMessage) (identity : Identity) (w : Identifies k msg identity)
    (P : Event → Type 0) (r : Result ConnReply NoMemory) →
    IfOk r (λ reply. (e : Event) → P e → ConnAnswers k k' conn e reply) → P (Receive conn (Init w.payload)) →
    IfOk r (Received k k' conn msg)
whom_received k k' conn msg identity w P r f p =
    subst (λ (m : ClientMessage). IfOk r (Received k k' conn m)) (sym w.is)
    (each_init_received k k' conn w.payload P r f p)

pub away_received : (k k' : Kept) (conn : ℕ) (msg : ClientMessage) (identity : Identity) (w : Identifies k msg identity)
    (reply : ConnReply) → ConnAnswers k k' conn (Receive conn (Init w.payload)) reply → Received k k' conn msg reply
away_received k k' conn msg identity w reply does =
    subst (λ (m : ClientMessage). Received k k' conn m reply) (sym w.is)
    (init_received k k' conn w.payload reply does)

-- ---- subscribes

fresh_not_admit : (msg : ClientMessage) → on_fresh msg ≡ act.Admit → ⊥
fresh_not_admit (client.Init payload) e = cc
fresh_not_admit (client.Subscribe id request) e = cc
fresh_not_admit (client.Complete id) e = cc
fresh_not_admit client.Ping e = cc
fresh_not_admit client.Pong e = cc
fresh_not_admit client.Bad e = cc

acked_subscribe : (msg : ClientMessage) (live : Bool) → on_acked msg live ≡ act.Admit →
    (id : List ℕ) × (request : client.Request) × (msg ≡ client.Subscribe id request)
acked_subscribe (client.Init payload) live e = absurd (cc)
acked_subscribe (client.Subscribe id request) live e = (id, request, refl)
acked_subscribe (client.Complete id) true e = absurd (cc)
acked_subscribe (client.Complete id) false e = absurd (cc)
acked_subscribe client.Ping live e = absurd (cc)
acked_subscribe client.Pong live e = absurd (cc)
acked_subscribe client.Bad live e = absurd (cc)

pub admits_subscribe : (s : wire.Phase) (msg : ClientMessage) (live : Bool) → action s msg live ≡ act.Admit →
    (id : List ℕ) × (request : client.Request) × (msg ≡ client.Subscribe id request)
admits_subscribe stage.Fresh msg live e = absurd (fresh_not_admit msg e)
admits_subscribe stage.Acked msg live e = acked_subscribe msg live e
admits_subscribe stage.Closed msg live e = absurd (cc)

pub admits_acknowledged : (p : Phase) (msg : ClientMessage) (live : Bool) → action (stage_of p) msg live ≡ act.Admit →
    (session : Session) × (p ≡ Acknowledged session)
admits_acknowledged Fresh msg live e = absurd (fresh_not_admit msg e)
admits_acknowledged (Acknowledged session) msg live e = (session, refl)
admits_acknowledged (Closed reason) msg live e = absurd (cc)

-- the session of a connection on which a message asks for admission
pub record HasSession (conn : ℕ) (k : Kept) (x : Connected) : Type 0 where
  pub session : Session
  pub phase : x.phase ≡ Acknowledged session
  pub at : phase_in conn k ≡ Some (Acknowledged session)

pub session_for : (conn : ℕ) (k : Kept) (msg : ClientMessage) (i : AsksFor conn msg act.Admit k) →
    HasSession conn k i.connected
session_for conn k msg i =
    let its = admits_acknowledged i.connected.phase msg _ i.is in
    record {
      session = its.0;
      phase = its.1;
      at = ap (option_map phase_of) i.at ∙ ap (λ (p : Phase). Some p) its.1;
    }

-- what reading a request gives is answered so, and it gives something
pub record AnsweredAs (meta : Metadata) (session : Session) (request : client.Request)
    (r : Result Admitted QueryFault) : Type 0 where
  pub each : (asked : Asked) → IsRead request asked → answered meta session asked ≡ r
  pub some : (asked : Asked) × (answered meta session asked ≡ r)

pub answered_as : AdmitsOnce → AnsweredBySelection → (meta : Metadata) (session : Session) (request : client.Request)
    (r : Result Admitted QueryFault) →
    Admits meta session request.query request.operation (given_values request.variables) r →
    AnsweredAs meta session request r
answered_as once by meta session request r admits = record {
  each = λ asked read.
      let values : Members = given_values request.variables in
      let whole : Asked = record { selection = asked.selection; values = values } in
      let selects =
      subst (λ (vs : Members). Selects request.query request.operation vs asked.selection) read.values
      read.selection in
      ap (λ (vs : Members). and_next asked.selection (admitted meta session vs)) read.values
      ∙ once meta session request.query request.operation values (answered meta session whole) r
      ((by meta session request.query request.operation values (answered meta session whole)).1
      (asked.selection, selects, refl))
      admits;
  some =
      let found = (by meta session request.query request.operation (given_values request.variables) r).0 admits in
      (record { selection = found.0; values = given_values request.variables }, sym found.2);
}

-- the reply to a subscribe, by what its request comes to
pub subscribe_received : (k k' : Kept) (conn : ℕ) (id : List ℕ) (request : client.Request) (session : Session)
    (a : Result Admitted QueryFault) (P : Event → Type 0) (r : Result ConnReply NoMemory) →
    IfOk r (λ reply. (e : Event) → P e → ConnAnswers k k' conn e reply) → AnsweredAs k.meta session request a →
    ((asked : Asked) → answered k.meta session asked ≡ a → P (Receive conn (Subscribe id asked))) →
    IfOk r (Received k k' conn (client.Subscribe id request))
subscribe_received k k' conn id request session a P (Ok reply) f is g =
    λ m w.
    let s = means_subscribe id request m w in
    subst (λ (n : Message). ConnAnswers k k' conn (Receive conn n) reply) (sym s.is)
    (f (Receive conn (Subscribe id s.asked)) (g s.asked (is.each s.asked s.read)))
subscribe_received k k' conn id request session a P (Err e) f is g = tt

module _ (conn : ℕ) (k : Kept) (id : List ℕ) (request : client.Request)
    (i : AsksFor conn (client.Subscribe id request) act.Admit k) (session : Session)
    (phase : i.connected.phase ≡ Acknowledged session) (asked : Asked) where
  pub joins : (a : Admitted) (j : Joining) → answered k.meta session asked ≡ Ok a → Asks k.meta id a j →
      JoinsBy k conn j (Receive conn (Subscribe id asked))
  joins a j is asks =
      receive_admitted conn k i.connected i.at (is_run k.meta) id asked session a j
      (asks_so conn k (client.Subscribe id request) act.Admit i (Subscribe id asked) (like_subscribe id request asked))
      phase is asks

  pub refuses : (f : QueryFault) → answered k.meta session asked ≡ Err f →
      SaysBy k conn (refusal_text id f) (Receive conn (Subscribe id asked))
  refuses f is =
      receive_refused conn k i.connected i.at (is_run k.meta) id asked session f
      (asks_so conn k (client.Subscribe id request) act.Admit i (Subscribe id asked) (like_subscribe id request asked))
      phase is

-- ---- refusals

pub refusal_as : (k : Kept) (conn : ℕ) (id : List ℕ) (f : QueryFault) (message code : List ℕ) → message ≡ message_of f →
    code ≡ code_of f.kind → (e : Event) → SaysBy k conn (refusal_text id f) e →
    SaysBy k conn (error_text id message code) e
refusal_as k conn id f message code m n e says =
    subst (λ (c : List ℕ). SaysBy k conn (error_text id message c) e) (sym n)
    (subst (λ (t : List ℕ). SaysBy k conn (error_text id t (code_of f.kind)) e) (sym m) says)

pub refusal_replied : (k k' : Kept) (conn : ℕ) (id : List ℕ) (f : QueryFault) (message code : List ℕ) →
    message ≡ message_of f → code ≡ code_of f.kind → (r : Result ConnReply NoMemory) →
    IfOk r (λ reply. (e : Event) → SaysBy k conn (error_text id message code) e → ConnAnswers k k' conn e reply) →
    IfOk r (λ reply. (e : Event) → SaysBy k conn (refusal_text id f) e → ConnAnswers k k' conn e reply)
refusal_replied k k' conn id f message code m n (Ok reply) h =
    λ e says. h e (refusal_as k conn id f message code m n e says)
refusal_replied k k' conn id f message code m n (Err e) h = tt

pub refused_with : (r : Result Ready AdmitFault) (g : AdmitFault) (f : QueryFault) → r ≡ Err g → g ≡ admit.Refused f →
    r ≡ Err (admit.Refused f)
refused_with r g f e h = cc

-- ---- subscribes, by what the code has

module _ (conn : ℕ) (k : Kept) (msg : ClientMsg) (asks : AsksFor conn (meant msg) act.Admit k) (id : List ℕ)
    (request : Request) (is : msg ≡ told.Subscribe id request) where
  abbrev its : AsksFor conn (client.Subscribe id (request_meant request)) act.Admit k
  its = subst (λ (m : ClientMessage). AsksFor conn m act.Admit k) (ap meant is) asks

  abbrev pub its_session : HasSession conn k its.connected
  its_session = session_for conn k (client.Subscribe id (request_meant request)) its

  pub session_there : (session : Session) × (phase_in conn k ≡ Some (Acknowledged session))
  session_there = (its_session.session, its_session.at)

  module _ (once : AdmitsOnce) (by : AnsweredBySelection) where
    module _ (ready : Ready) (r : IsReady k.meta its_session.session request ready) (own : List ℕ)
        (same : own ≡ id) where
      abbrev ready_answers : AnsweredAs k.meta its_session.session (request_meant request) (Ok r.admitted)
      ready_answers =
          answered_as once by k.meta its_session.session (request_meant request) (Ok r.admitted) r.answers

      joins_with : (asked : Asked) → answered k.meta its_session.session asked ≡ Ok r.admitted →
          JoinsBy k conn (joining own ready) (Receive conn (Subscribe id asked))
      joins_with asked e =
          joins conn k id (request_meant request) its its_session.session its_session.phase asked r.admitted
          (joining own ready) e
          (record {
            id = same;
            kind = r.kind;
            poller = r.poller;
            binding = r.binding;
            plan = r.plan;
            admitted = r.is_admitted;
            cursor = r.cursor;
          })

      pub join_event : (e : Event) × JoinsBy k conn (joining own ready) e
      join_event =
          (Receive conn (Subscribe id ready_answers.some.0), joins_with ready_answers.some.0 ready_answers.some.1)

      pub join_received : (k' : Kept) (reply : Result ConnReply NoMemory) →
          IfOk reply (λ reply. (e : Event) → JoinsBy k conn (joining own ready) e → ConnAnswers k k' conn e reply) →
          IfOk reply (Received k k' conn (meant msg))
      join_received k' reply f =
          subst (λ (m : ClientMessage). IfOk reply (Received k k' conn m)) (sym (ap meant is))
          (subscribe_received k k' conn id (request_meant request) its_session.session (Ok r.admitted)
          (JoinsBy k conn (joining own ready)) reply f ready_answers joins_with)

    module _ (f : QueryFault)
        (admits : Admits k.meta its_session.session request.query request.operation
        (given_values (view request.variables)) (Err f))
        (own : List ℕ) (same : own ≡ id) where
      abbrev fault_answers : AnsweredAs k.meta its_session.session (request_meant request) (Err f)
      fault_answers = answered_as once by k.meta its_session.session (request_meant request) (Err f) admits

      refuses_with : (asked : Asked) → answered k.meta its_session.session asked ≡ Err f →
          SaysBy k conn (refusal_text own f) (Receive conn (Subscribe id asked))
      refuses_with asked e =
          subst (λ (i : List ℕ). SaysBy k conn (refusal_text i f) (Receive conn (Subscribe id asked))) (sym same)
          (refuses conn k id (request_meant request) its its_session.session its_session.phase asked f e)

      pub refuse_event : (e : Event) × SaysBy k conn (refusal_text own f) e
      refuse_event =
          (Receive conn (Subscribe id fault_answers.some.0), refuses_with fault_answers.some.0 fault_answers.some.1)

      pub refuse_received : (k' : Kept) (reply : Result ConnReply NoMemory) →
          IfOk reply (λ reply. (e : Event) → SaysBy k conn (refusal_text own f) e → ConnAnswers k k' conn e reply) →
          IfOk reply (Received k k' conn (meant msg))
      refuse_received k' reply g =
          subst (λ (m : ClientMessage). IfOk reply (Received k k' conn m)) (sym (ap meant is))
          (subscribe_received k k' conn id (request_meant request) its_session.session (Err f)
          (SaysBy k conn (refusal_text own f)) reply g fault_answers refuses_with)
