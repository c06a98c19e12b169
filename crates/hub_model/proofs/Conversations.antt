-- The events of connections and of transactions, and reports: what each does to what is kept.
use Rattle.std.proofs.Common.{◌≡◌, ◌∙◌, sym, ap, refl, subst, ℕ, ◌+◌, Bool, true, false, Some, None, Ok, Err, Option, List, [], ◌∷◌, ◌++◌}
use Rattle.std.specs.Str.{bytes_eq}
use Rattle.serde_json.specs.Data.{Data}
use Rattle.data_model.specs.Rows.{Database}
use Rattle.data_model.specs.Transactions.{apply}
use Rattle.data_model.specs.declared.transaction.TxChange.{TxChange}
use Rattle.data_model.specs.declared.transaction.TxFault.{TxFault}
use Rattle.role_model.specs.declared.metadata.Metadata.{Metadata}
use Rattle.role_model.specs.declared.session.Session.{Session}
use Rattle.role_model.specs.declared.session.Identity.TheVariants.{Allowed, Forbidden}
use Rattle.role_model.specs.Sessions.{identity_of}
use Rattle.query_model.specs.declared.fault.QueryFault.{QueryFault}
use Rattle.query_model.specs.Refusals.{code_of, message_of}
use Rattle.query_model.specs.Admission.{Admitted}
use Rattle.query_model.specs.Selecting.{Asked, answered}
use Rattle.wire_model.specs.declared.close.CloseReason.{CloseReason}
use Rattle.wire_model.specs.declared.close.CloseReason.TheVariants as close
use Rattle.wire_model.specs.declared.step.Action.{Action}
use Rattle.wire_model.specs.declared.step.Action.TheVariants as act
use Rattle.wire_model.specs.ServerMessages.{ack_text, pong_text, error_text}
use Rattle.wire_model.specs.Steps.{action, closes_with, on_timeout}
use Rattle.machine.specs.Messages.{Message, Init, Subscribe, Bad, id_of, plain}
use Rattle.machine.specs.declared.phase.Phase.{Phase}
use Rattle.machine.specs.declared.phase.Phase.TheVariants.{Fresh, Acknowledged, Closed}
use Rattle.machine.specs.declared.counts.Counts.{Counts}
use Rattle.machine.specs.declared.queued.Queued.{Queued}
use Rattle.machine.specs.State.{State, Connection, Event, Connect, Receive, Binary, Timeout, Gone, Commit, Drain, Report, Skip, Reply, ConnectionUnknown, ConnectionKnown, Did, Committed, Declined, Sent, Empty, Done, Reported, Skipped, Close, Step, silent, with_reply}
use Rattle.machine.specs.Connections as machine
use Rattle.machine.specs.Connections.{connection_at, on_known, connect, receive, acts, closes_or_does, admit, initialised, subscribed, timed_out, close_if, is_live, stage_of}
use Rattle.machine.specs.Run.{happens, run, commit}
use Rattle.connection_table.specs.Connected.{Connected}
use Rattle.subscription_table.specs.declared.held.Held.{Held}
use Rattle.subscription_table.specs.Kept.{held_at}
use Rattle.hub_model.specs.Kept.{Kept, Represents}
use Rattle.hub_model.specs.Stands.{StandsFor, Does}
use Rattle.hub_model.specs.Steps.{Joining, counted, known, knows, opens, queued, drained, acknowledged, ended, live_on, closed, gone, joined, committed}
use Rattle.hub_model.proofs.Items.{Among}
use Rattle.hub_model.proofs.Reached.{EachIsRun}
use Rattle.hub_model.proofs.Standing.{Steps, does, counts}
use Rattle.hub_model.proofs.Connections.{IsConnection, known_some, known_none, text_queued, text_left, session_given, opened}
use Rattle.hub_model.proofs.Closing.{all_meta, all_events}
use Rattle.hub_model.proofs.Closed.{id_ended, connection_closed, connection_gone}
use Rattle.hub_model.proofs.Joins.{Asks, one_joined}
use Rattle.hub_model.proofs.Found.{has_live_id, live_found, live_is}
use Rattle.hub_model.proofs.Counting.{counts_of, same_counts, one_committed}

-- ---- from steps

-- an event that changes nothing
still : (k : Kept) (e : Event) (reply : Reply) →
    ((h : List Event) → StandsFor k h → happens k.meta (run k.meta h) e ≡ silent (run k.meta h) reply) →
    Does k (counted k) e reply [] []
still k e reply f = does k (counted k) e reply [] [] refl refl (λ h st. record {
  after = run k.meta h;
  step = f h st;
  represents = counts k (run k.meta h) st.represents;
})

-- an event that leaves this
changes : (k after : Kept) (e : Event) (reply : Reply) (queued : List Queued) (closed : List Close) →
    after.meta ≡ k.meta → after.events ≡ k.events →
    ((h : List Event) → StandsFor k h → Steps k after (run k.meta h) e reply queued closed) →
    Does k (counted after) e reply queued closed
changes k after e reply queued closed m n f =
    does k (counted after) e reply queued closed m (ap (λ (i : ℕ). i + 1) n) (λ h st.
    let p = f h st in
    record { after = p.after; step = p.step; represents = counts after p.after p.represents })

-- an event that is another to the machine
pub as_event : (k after : Kept) (d e : Event) (reply : Reply) (queued : List Queued) (closed : List Close) →
    ((s : State) → happens k.meta s e ≡ happens k.meta s d) → Does k after d reply queued closed →
    Does k after e reply queued closed
as_event k after d e reply queued closed same p =
    does k after e reply queued closed p.meta p.events (λ h st.
    let q = p.happened h st in
    record {
      after = _;
      step = same (run k.meta h) ∙ q.step;
      represents = subst (λ (m : Metadata). Represents after (run m (h ++ d ∷ []))) p.meta q.stands.represents;
    })

-- ---- connections that aren't known

module _ (c : ℕ) (k : Kept) (unknown : knows c k ≡ false) where
  none_known : (e : Event) → (f : (s : State) → Connection → Step) →
      ((s : State) → happens k.meta s e ≡ on_known (f s) s (connection_at c s)) →
      Does k (counted k) e ConnectionUnknown [] []
  none_known e f is = still k e ConnectionUnknown (λ h st.
      is (run k.meta h) ∙ ap (on_known (f (run k.meta h)) (run k.meta h)) (known_none c k (run k.meta h) st.represents unknown))

  pub receive_unknown : (m : Message) → Does k (counted k) (Receive c m) ConnectionUnknown [] []
  receive_unknown m = none_known (Receive c m) _ (λ s. refl)

  pub binary_unknown : Does k (counted k) (Binary c) ConnectionUnknown [] []
  binary_unknown = none_known (Binary c) _ (λ s. refl)

  pub timeout_unknown : Does k (counted k) (Timeout c) ConnectionUnknown [] []
  timeout_unknown = none_known (Timeout c) _ (λ s. refl)

  pub gone_unknown : Does k (counted k) (Gone c) ConnectionUnknown [] []
  gone_unknown = none_known (Gone c) _ (λ s. refl)

  pub drain_unknown : Does k (counted k) (Drain c) ConnectionUnknown [] []
  drain_unknown = none_known (Drain c) _ (λ s. refl)

  -- it opens
  pub connects : EachIsRun k.meta → Does k (counted (opens c k)) (Connect c) Did [] []
  connects runs = changes k (opens c k) (Connect c) Did [] [] refl refl (λ h st.
      let s = run k.meta h in
      let at = known_none c k s st.represents unknown in
      record {
        after = _;
        step = ap (connect c s) at;
        represents = opened c k s st.represents (runs h) at;
      })

-- ---- connections that are known

module _ (c : ℕ) (k : Kept) (x : Connected) (e : known c k ≡ Some x) where
  its : (h : List Event) → StandsFor k h → IsConnection c (run k.meta h) x
  its h st = known_some c k (run k.meta h) x st.represents e

  -- it is open already
  pub connects_not : Does k (counted k) (Connect c) ConnectionKnown [] []
  connects_not = still k (Connect c) ConnectionKnown (λ h st. ap (connect c (run k.meta h)) (its h st).at)

  its_phase : (h : List Event) (st : StandsFor k h) → (its h st).its.phase ≡ x.phase
  its_phase h st = sym (ap (λ (d : Connected). d.phase) (its h st).is)

  its_queue : (h : List Event) (st : StandsFor k h) → (its h st).its.queue ≡ x.queue
  its_queue h st = sym (ap (λ (d : Connected). d.queue) (its h st).is)

  module _ (runs : EachIsRun k.meta) where
    closing : (h : List Event) → StandsFor k h → (reason : CloseReason) →
        Represents (closed c reason k) (machine.close_connection c reason (run k.meta h)).state
    closing h st reason = connection_closed c reason k (run k.meta h) st.represents (runs h) x e

    -- an event that closes it
    closes_by : (ev : Event) (reason : CloseReason) →
        ((h : List Event) → StandsFor k h → happens k.meta (run k.meta h) ev
        ≡ with_reply Did (machine.close_connection c reason (run k.meta h))) →
        Does k (counted (closed c reason k)) ev Did [] (record { connection = c; reason = reason } ∷ [])
    closes_by ev reason f =
        changes k (closed c reason k) ev Did [] (record { connection = c; reason = reason } ∷ [])
        (all_meta (live_on c k) k) (all_events (live_on c k) k) (λ h st. record {
          after = _;
          step = f h st;
          represents = closing h st reason;
        })

    -- ---- messages

    -- what a message asks for
    abbrev pub asks_for : Message → Action
    asks_for m = action (stage_of x.phase) (plain m) (has_live_id k (id_of m) x)

    received : (m : Message) (a : Action) → asks_for m ≡ a → (h : List Event) → StandsFor k h →
        happens k.meta (run k.meta h) (Receive c m) ≡ with_reply Did (acts k.meta c m (run k.meta h) x.phase a)
    received m a is h st =
        let s = run k.meta h in
        ap (on_known (λ (d : Connection). with_reply Did (receive k.meta c m s d.phase)) s) (its h st).at
        ∙ ap (λ (p : Phase). with_reply Did (receive k.meta c m s p)) (its_phase h st)
        ∙ ap (λ (b : Bool). with_reply Did (acts k.meta c m s x.phase (action (stage_of x.phase) (plain m) b)))
        (sym (live_is c (id_of m) k s st.represents (runs h) x e))
        ∙ ap (λ (b : Action). with_reply Did (acts k.meta c m s x.phase b)) is

    -- a text is queued
    queues_by : (ev : Event) (text : List ℕ) →
        ((h : List Event) → StandsFor k h → happens k.meta (run k.meta h) ev
        ≡ with_reply Did (machine.queue_text c text (run k.meta h))) →
        Does k (counted (queued c text k)) ev Did (record { conn = c; text = text } ∷ []) []
    queues_by ev text f =
        changes k (queued c text k) ev Did (record { conn = c; text = text } ∷ []) [] refl refl (λ h st. record {
          after = _;
          step = f h st;
          represents = text_queued c text k (run k.meta h) st.represents;
        })

    pub receive_pong : (m : Message) → asks_for m ≡ act.Pong →
        Does k (counted (queued c pong_text k)) (Receive c m) Did (record { conn = c; text = pong_text } ∷ []) []
    receive_pong m is = queues_by (Receive c m) pong_text (received m act.Pong is)

    pub receive_ignored : (m : Message) → asks_for m ≡ act.Ignore → Does k (counted k) (Receive c m) Did [] []
    receive_ignored m is = still k (Receive c m) Did (received m act.Ignore is)

    pub receive_closing : (m : Message) (reason : CloseReason) → closes_with (id_of m) (asks_for m) ≡ Some reason →
        Does k (counted (closed c reason k)) (Receive c m) Did [] (record { connection = c; reason = reason } ∷ [])
    receive_closing m reason is = closes_by (Receive c m) reason (λ h st.
        received m (asks_for m) refl h st
        ∙ ap (λ (o : Option CloseReason).
        with_reply Did (closes_or_does k.meta c m (run k.meta h) x.phase (asks_for m) o)) is)

    pub receive_allowed : (payload : Option Data) (session : Session) → asks_for (Init payload) ≡ act.Identify →
        identity_of k.meta payload ≡ Allowed session →
        Does k (counted (acknowledged c session (queued c ack_text k))) (Receive c (Init payload)) Did
        (record { conn = c; text = ack_text } ∷ []) []
    receive_allowed payload session is allowed =
        changes k (acknowledged c session (queued c ack_text k)) (Receive c (Init payload)) Did
        (record { conn = c; text = ack_text } ∷ []) [] refl refl (λ h st.
        let s = run k.meta h in
        record {
          after = _;
          step = received (Init payload) act.Identify is h st
              ∙ ap (λ i. with_reply Did (initialised c s i)) allowed;
          represents = session_given c session (queued c ack_text k) _ (text_queued c ack_text k s st.represents);
        })

    pub receive_forbidden : (payload : Option Data) → asks_for (Init payload) ≡ act.Identify →
        identity_of k.meta payload ≡ Forbidden →
        Does k (counted (closed c close.Forbidden k)) (Receive c (Init payload)) Did []
        (record { connection = c; reason = close.Forbidden } ∷ [])
    receive_forbidden payload is forbidden = closes_by (Receive c (Init payload)) close.Forbidden (λ h st.
        received (Init payload) act.Identify is h st
        ∙ ap (λ i. with_reply Did (initialised c (run k.meta h) i)) forbidden)

    admits : (id : List ℕ) (asked : Asked) (session : Session) → asks_for (Subscribe id asked) ≡ act.Admit →
        x.phase ≡ Acknowledged session → (h : List Event) → StandsFor k h →
        happens k.meta (run k.meta h) (Receive c (Subscribe id asked))
        ≡ with_reply Did (subscribed c id (run k.meta h) (answered k.meta session asked))
    admits id asked session is phase h st =
        received (Subscribe id asked) act.Admit is h st
        ∙ ap (λ (p : Phase). with_reply Did (admit k.meta c (Subscribe id asked) (run k.meta h) p)) phase

    pub receive_admitted : (id : List ℕ) (asked : Asked) (session : Session) (a : Admitted) (j : Joining) →
        asks_for (Subscribe id asked) ≡ act.Admit → x.phase ≡ Acknowledged session →
        answered k.meta session asked ≡ Ok a → Asks k.meta id a j →
        Does k (counted (joined c j k)) (Receive c (Subscribe id asked)) Did [] []
    receive_admitted id asked session a j is phase ok i =
        changes k (joined c j k) (Receive c (Subscribe id asked)) Did [] [] refl refl (λ h st.
        let s = run k.meta h in
        record {
          after = _;
          step = admits id asked session is phase h st ∙ ap (λ r. with_reply Did (subscribed c id s r)) ok;
          represents = one_joined c id a k s st.represents (runs h) j i;
        })

    pub receive_refused : (id : List ℕ) (asked : Asked) (session : Session) (fault : QueryFault) →
        asks_for (Subscribe id asked) ≡ act.Admit → x.phase ≡ Acknowledged session →
        answered k.meta session asked ≡ Err fault →
        Does k (counted (queued c (error_text id (message_of fault) (code_of fault.kind)) k))
        (Receive c (Subscribe id asked)) Did
        (record { conn = c; text = error_text id (message_of fault) (code_of fault.kind) } ∷ []) []
    receive_refused id asked session fault is phase err =
        queues_by (Receive c (Subscribe id asked)) (error_text id (message_of fault) (code_of fault.kind)) (λ h st.
        admits id asked session is phase h st ∙ ap (λ r. with_reply Did (subscribed c id (run k.meta h) r)) err)

    -- the number is that of a live subscription of this connection, with the message's id
    pub receive_ended : (m : Message) (n : ℕ) (held : Held) → asks_for m ≡ act.End → Among n x.live →
        held_at n k.held ≡ Some held → bytes_eq held.id (id_of m) ≡ true →
        Does k (counted (ended c n k)) (Receive c m) Did [] []
    receive_ended m n held is a at same =
        changes k (ended c n k) (Receive c m) Did [] [] refl refl (λ h st.
        let s = run k.meta h in
        record {
          after = _;
          step = received m act.End is h st;
          represents = id_ended c (id_of m) n k s st.represents (runs h)
              (live_found c (id_of m) k s st.represents (runs h) x e n a held at same);
        })

    -- ---- timeouts, and the end of the connection

    timing : (o : Option CloseReason) → on_timeout (stage_of x.phase) ≡ o → (h : List Event) → StandsFor k h →
        happens k.meta (run k.meta h) (Timeout c) ≡ with_reply Did (close_if c (run k.meta h) o)
    timing o is h st =
        let s = run k.meta h in
        ap (on_known (λ (d : Connection). with_reply Did (timed_out c s d.phase)) s) (its h st).at
        ∙ ap (λ (p : Phase). with_reply Did (timed_out c s p)) (its_phase h st)
        ∙ ap (λ (p : Option CloseReason). with_reply Did (close_if c s p)) is

    pub timeout_closing : (reason : CloseReason) → on_timeout (stage_of x.phase) ≡ Some reason →
        Does k (counted (closed c reason k)) (Timeout c) Did [] (record { connection = c; reason = reason } ∷ [])
    timeout_closing reason is = closes_by (Timeout c) reason (timing (Some reason) is)

    pub timeout_ignored : on_timeout (stage_of x.phase) ≡ None → Does k (counted k) (Timeout c) Did [] []
    timeout_ignored is = still k (Timeout c) Did (timing None is)

    pub goes : Does k (counted (gone c k)) (Gone c) Did [] []
    goes = changes k (gone c k) (Gone c) Did [] [] (all_meta (live_on c k) k) (all_events (live_on c k) k) (λ h st.
        let s = run k.meta h in
        record {
          after = _;
          step = ap (on_known (λ (d : Connection). with_reply Did (machine.gone c s)) s) (its h st).at;
          represents = connection_gone c k s st.represents (runs h) x e;
        })

    -- ---- queues

    draining : (p : Phase) (queue : List (List ℕ)) → x.phase ≡ p → x.queue ≡ queue → (h : List Event) → StandsFor k h →
        happens k.meta (run k.meta h) (Drain c) ≡ machine.drained c (run k.meta h) p queue
    draining p queue f g h st =
        let s = run k.meta h in
        ap (on_known (λ (d : Connection). machine.drained c s d.phase d.queue) s) (its h st).at
        ∙ ap (λ (q : Phase). machine.drained c s q (its h st).its.queue) (its_phase h st ∙ f)
        ∙ ap (λ (q : List (List ℕ)). machine.drained c s p q) (its_queue h st ∙ g)

    pub drain_sent : (text : List ℕ) (rest : List (List ℕ)) → x.queue ≡ text ∷ rest →
        Does k (counted (drained c k)) (Drain c) (Sent text) [] []
    drain_sent text rest q =
        changes k (drained c k) (Drain c) (Sent text) [] [] refl refl (λ h st.
        let s = run k.meta h in
        record {
          after = _;
          step = draining x.phase (text ∷ rest) refl q h st;
          represents =
              text_left c text rest k s st.represents (runs h) (its h st).its (its h st).at (its_queue h st ∙ q);
        })

    pub drain_done : (reason : CloseReason) → x.phase ≡ Closed reason → x.queue ≡ [] →
        Does k (counted k) (Drain c) (Done reason) [] []
    drain_done reason p q = still k (Drain c) (Done reason) (draining (Closed reason) [] p q)

    pub drain_fresh : x.phase ≡ Fresh → x.queue ≡ [] → Does k (counted k) (Drain c) Empty [] []
    drain_fresh p q = still k (Drain c) Empty (draining Fresh [] p q)

    pub drain_acknowledged : (session : Session) → x.phase ≡ Acknowledged session → x.queue ≡ [] →
        Does k (counted k) (Drain c) Empty [] []
    drain_acknowledged session p q = still k (Drain c) Empty (draining (Acknowledged session) [] p q)

-- a binary message is a bad one
pub binary_by : (c : ℕ) (k after : Kept) (reply : Reply) (queued : List Queued) (closed : List Close) →
    Does k after (Receive c Bad) reply queued closed → Does k after (Binary c) reply queued closed
binary_by c k after reply queued closed p =
    as_event k after (Receive c Bad) (Binary c) reply queued closed (λ s. refl) p

-- ---- transactions and reports

pub commit_accepted : (tx : List TxChange) (after : Database) (k : Kept) →
    apply k.meta.catalog k.tables tx ≡ Ok after →
    Does k (counted (committed after k)) (Commit tx) (Committed (k.version + 1)) [] []
commit_accepted tx after k is =
    changes k (committed after k) (Commit tx) (Committed (k.version + 1)) [] [] refl refl (λ h st.
    let s = run k.meta h in
    record {
      after = _;
      step =
          ap (λ (db : Database). commit tx s (apply k.meta.catalog db tx)) (sym st.represents.tables)
          ∙ ap (commit tx s) is
          ∙ ap (λ (n : ℕ). silent (record s { transactions = s.transactions ++ tx ∷ [] }) (Committed (n + 1)))
          (sym st.represents.version);
      represents = one_committed tx after k s st.represents is;
    })

pub commit_refused : (tx : List TxChange) (fault : TxFault) (k : Kept) →
    apply k.meta.catalog k.tables tx ≡ Err fault → Does k (counted k) (Commit tx) (Declined fault) [] []
commit_refused tx fault k is = still k (Commit tx) (Declined fault) (λ h st.
    let s = run k.meta h in
    ap (λ (db : Database). commit tx s (apply k.meta.catalog db tx)) (sym st.represents.tables) ∙ ap (commit tx s) is)

pub reports : (k : Kept) → EachIsRun k.meta → Does k (counted k) Report (Reported (counts_of k)) [] []
reports k runs = still k Report (Reported (counts_of k)) (λ h st.
    ap (λ (c : Counts). silent (run k.meta h) (Reported c)) (same_counts k (run k.meta h) st.represents (runs h)))

pub skips : (k : Kept) → Does k (counted k) Skip Skipped [] []
skips k = still k Skip Skipped (λ h st. refl)
