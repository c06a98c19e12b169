-- The connections of a run stand in the order of their numbers.
use Rattle.std.proofs.Common.{◌≡◌, inl, inr, ◌∙◌, sym, refl, subst, ℕ, ◌<◌, ◌==◌, nat_lt, if◌then◌else◌, Bool, true, false, not, Some, None, Ok, Err, Option, Result, List, [], ◌∷◌, map, arith}
use Rattle.std.specs.List.{AllByRecursion}
use Rattle.std.proofs.lemmas.Bool.{ltb-true}
use Rattle.std.proofs.lemmas.Bool.Decides.{nat_tests}
use Rattle.data_model.specs.Rows.{Database}
use Rattle.data_model.specs.Transactions.{apply}
use Rattle.data_model.specs.declared.transaction.TxChange.{TxChange}
use Rattle.data_model.specs.declared.transaction.TxFault.{TxFault}
use Rattle.role_model.specs.declared.metadata.Metadata.{Metadata}
use Rattle.role_model.specs.declared.session.Identity.{Identity}
use Rattle.role_model.specs.declared.session.Identity.TheVariants as identity
use Rattle.role_model.specs.Sessions.{identity_of}
use Rattle.query_model.specs.declared.fault.QueryFault.{QueryFault}
use Rattle.query_model.specs.declared.kind.SubKind.{SubKind}
use Rattle.query_model.specs.declared.kind.SubKind.TheVariants.{Live, Once, Stream}
use Rattle.query_model.specs.Refusals.{code_of, message_of}
use Rattle.query_model.specs.Admission.{Admitted}
use Rattle.query_model.specs.Selecting.{answered}
use Rattle.query_model.specs.Results.{result}
use Rattle.plan_model.specs.Outcomes.{Outcome}
use Rattle.wire_model.specs.declared.close.CloseReason.{CloseReason}
use Rattle.wire_model.specs.declared.close.CloseReason.TheVariants as close
use Rattle.wire_model.specs.declared.step.Action.{Action}
use Rattle.wire_model.specs.declared.step.Action.TheVariants as act
use Rattle.wire_model.specs.ServerMessages.{ack_text, pong_text, error_text, next_text, complete_text}
use Rattle.wire_model.specs.Steps.{action, closes_with, on_timeout}
use Rattle.machine.specs.Messages.{Message, Init, Subscribe, Complete, Ping, Pong, Bad, id_of, plain}
use Rattle.machine.specs.declared.phase.Phase.{Phase}
use Rattle.machine.specs.declared.phase.Phase.TheVariants.{Fresh, Acknowledged, Closed}
use Rattle.machine.specs.State.{State, Connection, Subscription, Member, Job, Event, Connect, Receive, Binary, Timeout, Gone, Commit, Tick, Take, Publish, Abandon, Drain, Report, Skip, Effect, Step, opening, nothing}
use Rattle.machine.specs.Connections as machine
use Rattle.machine.specs.Connections.{connection_at, is_connection, at_connection, with_new, on_known, connect, receive, acts, closes_or_does, and_then, queue_text, queue_then, acknowledges, initialised, identify, subscribed, admit, close_connection, closes, close_if, timed_out, gone, leaves, drained, end_where, is_live, stage_of}
use Rattle.machine.specs.Batches.{is_due, is_subscription, take_from, abandon, job_at, subscription_at}
use Rattle.machine.specs.Publication.{is_new, publish_kind, publish_member, publish_members, publish, database_of, with_subscription, remembers, moves_to}
use Rattle.machine.specs.Run.{happens, after_all, run, commit, database_now}
use Rattle.std.specs.Prelude.{find}
use Rattle.hub_model.proofs.Items.{Among, Ascend, found_none}
use Rattle.hub_model.proofs.Counting.{ascend_filter}

abbrev numbers : List Connection → List ℕ
numbers cs = map (λ (c : Connection). c.number) cs

-- ---- effects that leave the same connections

abbrev Leaves : State → State → Type 0
Leaves s t = numbers t.connections ≡ numbers s.connections

one_number : (n : ℕ) (f : Connection → Connection) → ((c : Connection) → (f c).number ≡ c.number) → (c : Connection)
    (b : Bool) → (if b then f c else c).number ≡ c.number
one_number n f h c true = h c
one_number n f h c false = refl

same_numbers : (n : ℕ) (f : Connection → Connection) → ((c : Connection) → (f c).number ≡ c.number) →
    (cs : List Connection) → numbers (map (at_connection n f) cs) ≡ numbers cs
same_numbers n f h [] = refl
same_numbers n f h (c ∷ cs) =
    let one = one_number n f h c (c.number == n) in
    let more = same_numbers n f h cs in cc

queued_leaves : (n : ℕ) (text : List ℕ) (s : State) → Leaves s (queue_text n text s).state
queued_leaves n text s = same_numbers n (machine.queues text) (λ c. refl) s.connections

then_leaves : (n : ℕ) (text : List ℕ) (more : State → Effect) (s : State) →
    ((t : State) → Leaves t (more t).state) → Leaves s (queue_then n text more s).state
then_leaves n text more s h = h (queue_text n text s).state ∙ queued_leaves n text s

closed_leaves : (n : ℕ) (reason : CloseReason) (s : State) → Leaves s (close_connection n reason s).state
closed_leaves n reason s = same_numbers n (closes reason) (λ c. refl) s.connections

initialised_leaves : (n : ℕ) (s : State) (i : Identity) → Leaves s (initialised n s i).state
initialised_leaves n s (identity.Allowed session) =
    then_leaves n ack_text (λ t. nothing (machine.with_connection n (acknowledges session) t)) s
    (λ t. same_numbers n (acknowledges session) (λ c. refl) t.connections)
initialised_leaves n s identity.Forbidden = closed_leaves n close.Forbidden s

identify_leaves : (meta : Metadata) (n : ℕ) (m : Message) (s : State) → Leaves s (identify meta n m s).state
identify_leaves meta n (Init payload) s = initialised_leaves n s (identity_of meta payload)
identify_leaves meta n (Subscribe id asked) s = refl
identify_leaves meta n (Complete id) s = refl
identify_leaves meta n Ping s = refl
identify_leaves meta n Pong s = refl
identify_leaves meta n Bad s = refl

subscribed_leaves : (n : ℕ) (id : List ℕ) (s : State) (r : Result Admitted QueryFault) →
    Leaves s (subscribed n id s r).state
subscribed_leaves n id s (Ok a) = refl
subscribed_leaves n id s (Err fault) =
    then_leaves n (error_text id (message_of fault) (code_of fault.kind)) nothing s (λ t. refl)

admit_leaves : (meta : Metadata) (n : ℕ) (m : Message) (s : State) (p : Phase) → Leaves s (admit meta n m s p).state
admit_leaves meta n (Subscribe id asked) s (Acknowledged session) =
    subscribed_leaves n id s (answered meta session asked)
admit_leaves meta n (Subscribe id asked) s Fresh = refl
admit_leaves meta n (Subscribe id asked) s (Closed reason) = refl
admit_leaves meta n (Init payload) s p = refl
admit_leaves meta n (Complete id) s p = refl
admit_leaves meta n Ping s p = refl
admit_leaves meta n Pong s p = refl
admit_leaves meta n Bad s p = refl

does_leaves : (meta : Metadata) (n : ℕ) (m : Message) (s : State) (p : Phase) (a : Action) →
    Leaves s (machine.does meta n m s p a).state
does_leaves meta n m s p act.Identify = identify_leaves meta n m s
does_leaves meta n m s p act.Admit = admit_leaves meta n m s p
does_leaves meta n m s p act.End = refl
does_leaves meta n m s p act.Pong = then_leaves n pong_text nothing s (λ t. refl)
does_leaves meta n m s p act.Ignore = refl
does_leaves meta n m s p act.Invalid = refl
does_leaves meta n m s p act.Unauthorized = refl
does_leaves meta n m s p act.Exists = refl
does_leaves meta n m s p act.TooManyInits = refl

acts_leaves : (meta : Metadata) (n : ℕ) (m : Message) (s : State) (p : Phase) (a : Action) (o : Option CloseReason) →
    Leaves s (closes_or_does meta n m s p a o).state
acts_leaves meta n m s p a (Some reason) = closed_leaves n reason s
acts_leaves meta n m s p a None = does_leaves meta n m s p a

receive_leaves : (meta : Metadata) (n : ℕ) (m : Message) (s : State) (p : Phase) → Leaves s (receive meta n m s p).state
receive_leaves meta n m s p =
    let a = action (stage_of p) (plain m) (is_live n m s) in acts_leaves meta n m s p a (closes_with (id_of m) a)

timed_leaves : (n : ℕ) (s : State) (o : Option CloseReason) → Leaves s (close_if n s o).state
timed_leaves n s (Some reason) = closed_leaves n reason s
timed_leaves n s None = refl

drained_leaves : (n : ℕ) (s : State) (p : Phase) (queue : List (List ℕ)) → Leaves s (drained n s p queue).state
drained_leaves n s p (text ∷ rest) = same_numbers n (leaves rest) (λ c. refl) s.connections
drained_leaves n s (Closed reason) [] = refl
drained_leaves n s Fresh [] = refl
drained_leaves n s (Acknowledged session) [] = refl

-- ---- publications

either_leaves : (s : State) (b : Bool) (e f : Effect) → Leaves s e.state → Leaves s f.state →
    Leaves s (if b then e else f).state
either_leaves s true e f h i = h
either_leaves s false e f h i = i

kind_leaves : (kind : SubKind) (sub : Subscription) (r : Outcome) (s : State) → Leaves s (publish_kind kind sub r s).state
kind_leaves Live sub r s =
    either_leaves s (is_new sub.last r.text) _ (nothing s)
    (then_leaves sub.connection (next_text sub.id r.text) (λ t. nothing (with_subscription sub.number (remembers r.text) t)) s
    (λ t. refl)) refl
kind_leaves Once sub r s =
    let ends : State → Effect = (λ u. nothing (end_where (is_subscription sub.number) u)) in
    then_leaves sub.connection (next_text sub.id r.text) (queue_then sub.connection (complete_text sub.id) ends) s
    (λ t. then_leaves sub.connection (complete_text sub.id) ends t (λ u. refl))
kind_leaves Stream sub r s =
    either_leaves s (nat_lt 0 r.rows) _ (nothing s)
    (then_leaves sub.connection (next_text sub.id r.text) (λ t. nothing (with_subscription sub.number (moves_to r.last) t)) s
    (λ t. refl)) refl

member_leaves : (meta : Metadata) (db : Database) (s : State) (o : Option Subscription) →
    Leaves s (publish_member meta db s o).state
member_leaves meta db s (Some sub) =
    either_leaves s sub.live _ (nothing s) (kind_leaves sub.query.kind sub (result meta sub.query sub.cursor db) s) refl
member_leaves meta db s None = refl

members_leave : (meta : Metadata) (db : Database) (ms : List Member) (s : State) →
    Leaves s (publish_members meta db ms s).state
members_leave meta db [] s = refl
members_leave meta db (m ∷ ms) s =
    let o = subscription_at m.subscription s.subscriptions in
    members_leave meta db ms (publish_member meta db s o).state ∙ member_leaves meta db s o

publish_leaves : (meta : Metadata) (n : ℕ) (s : State) (o : Option Job) → Leaves s (publish meta n s o).state
publish_leaves meta n s (Some job) = members_leave meta (database_of meta s job) job.members s
publish_leaves meta n s None = refl

-- ---- connections that come and go

low_in : (n : ℕ) (c : Connection) (cs : List Connection) → n < c.number → AllByRecursion (λ m. n < m) (numbers cs) →
    AllByRecursion (λ m. n < m) (numbers (with_new c cs))
low_in n c [] h w = (h, tt)
low_in n c (d ∷ ds) h w = by_test (nat_lt c.number d.number) (low_in n c ds h w.1)
  where
    by_test : (b : Bool) → AllByRecursion (λ m. n < m) (numbers (with_new c ds)) →
        AllByRecursion (λ m. n < m) (numbers (if b then c ∷ d ∷ ds else d ∷ with_new c ds))
    by_test true i = (h, w)
    by_test false i = (w.0, i)

lower : (m n : ℕ) (ns : List ℕ) → m < n → AllByRecursion (λ i. n < i) ns → AllByRecursion (λ i. m < i) ns
lower m n [] h w = tt
lower m n (i ∷ ns) h w = let low = w.0 in (omega (arith, h, low), lower m n ns h w.1)

-- a new connection stands at its place
pub new_ascends : (c : Connection) (cs : List Connection) → Ascend (numbers cs) →
    ((d : Connection) → Among d cs → d.number == c.number ≡ false) → Ascend (numbers (with_new c cs))
new_ascends c [] w h = (tt, tt)
new_ascends c (d ∷ ds) w h =
    by_test (nat_lt c.number d.number) refl (new_ascends c ds w.1 (λ e a. h e (inr a)))
  where
    by_test : (b : Bool) → nat_lt c.number d.number ≡ b → Ascend (numbers (with_new c ds)) →
        Ascend (numbers (if b then c ∷ d ∷ ds else d ∷ with_new c ds))
    by_test true e i = let low = ltb-true c.number d.number e in ((low, lower c.number d.number (numbers ds) low w.0), w)
    by_test false e i = (low_in d.number c ds (above e) w.0, i)
      where
        above : nat_lt c.number d.number ≡ false → d.number < c.number
        above e = grind (arith, nat_tests, h d (inl refl))

-- ---- runs

abbrev InOrder : State → Type 0
InOrder s = Ascend (numbers s.connections)

connect_in_order : (n : ℕ) (s : State) (o : Option Connection) → connection_at n s ≡ o → InOrder s →
    InOrder (connect n s o).state
connect_in_order n s (Some known) e w = w
connect_in_order n s None e w =
    new_ascends (record { number = n; phase = Fresh; queue = [] }) s.connections w
    (λ d a. found_none (is_connection n) s.connections e d a)

known_in_order : (s : State) (f : Connection → Step) (o : Option Connection) → InOrder s →
    ((c : Connection) → InOrder (f c).state) → InOrder (on_known f s o).state
known_in_order s f (Some c) w h = h c
known_in_order s f None w h = w

commit_in_order : (tx : List TxChange) (s : State) (r : Result Database TxFault) → InOrder s → InOrder (commit tx s r).state
commit_in_order tx s (Ok after) w = w
commit_in_order tx s (Err fault) w = w

take_in_order : (meta : Metadata) (s : State) (o : Option Subscription) → InOrder s → InOrder (take_from meta s o).state
take_in_order meta s (Some first) w = w
take_in_order meta s None w = w

abandon_in_order : (n : ℕ) (s : State) (o : Option Job) → InOrder s → InOrder (abandon n s o).state
abandon_in_order n s (Some job) w = w
abandon_in_order n s None w = w

event_in_order : (meta : Metadata) (s : State) (e : Event) → InOrder s → InOrder (happens meta s e).state
event_in_order meta s (Connect c) w = connect_in_order c s (connection_at c s) refl w
event_in_order meta s (Receive c m) w =
    known_in_order s _ (connection_at c s) w (λ d. subst Ascend (sym (receive_leaves meta c m s d.phase)) w)
event_in_order meta s (Binary c) w =
    known_in_order s _ (connection_at c s) w (λ d. subst Ascend (sym (receive_leaves meta c Bad s d.phase)) w)
event_in_order meta s (Timeout c) w =
    known_in_order s _ (connection_at c s) w
    (λ d. subst Ascend (sym (timed_leaves c s (on_timeout (stage_of d.phase)))) w)
event_in_order meta s (Gone c) w =
    known_in_order s _ (connection_at c s) w
    (λ d. ascend_filter (λ (f : Connection). f.number) (λ f. not (is_connection c f)) s.connections w)
event_in_order meta s (Commit tx) w = commit_in_order tx s (apply meta.catalog (database_now meta s) tx) w
event_in_order meta s Tick w = w
event_in_order meta s Take w = take_in_order meta s (find (is_due s.due) s.subscriptions) w
event_in_order meta s (Publish job) w = subst Ascend (sym (publish_leaves meta job s (job_at job s.jobs))) w
event_in_order meta s (Abandon job) w = abandon_in_order job s (job_at job s.jobs) w
event_in_order meta s (Drain c) w =
    known_in_order s _ (connection_at c s) w (λ d. subst Ascend (sym (drained_leaves c s d.phase d.queue)) w)
event_in_order meta s Report w = w
event_in_order meta s Skip w = w

in_order_from : (meta : Metadata) (h : List Event) (s : State) → InOrder s → InOrder (after_all meta s h)
in_order_from meta [] s w = w
in_order_from meta (e ∷ h) s w = in_order_from meta h (happens meta s e).state (event_in_order meta s e w)

-- after every run
pub connections_ascend : (meta : Metadata) (h : List Event) →
    Ascend (map (λ (c : Connection). c.number) (run meta h).connections)
connections_ascend meta h = in_order_from meta h opening tt
