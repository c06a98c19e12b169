-- What the reply of an event says of whether its connection is known.
use Rattle.std.proofs.Common.{◌≡◌, ◌≢◌, ◌∙◌, ap, refl, ℕ, Bool, true, false, Option, Some, None, List, [], ◌∷◌}
use Rattle.std.specs.Prelude.{is_some}
use Rattle.role_model.specs.declared.metadata.Metadata.{Metadata}
use Rattle.machine.specs.Messages.{Message, Bad}
use Rattle.machine.specs.State.{State, Event, Connect, Receive, Binary, Timeout, Gone, Drain, Connection, Step, Reply, ConnectionKnown, ConnectionUnknown, Did, with_reply}
use Rattle.machine.specs.declared.phase.Phase.{Phase}
use Rattle.machine.specs.declared.phase.Phase.TheVariants.{Fresh, Acknowledged, Closed}
use Rattle.machine.specs.Connections.{connection_at, connect, on_known, receive, timed_out, gone, drained}
use Rattle.machine.specs.Run.{happens}
use Rattle.machine.specs.Script.{knows}

-- ---- a connection that opens

did_open : (c : ℕ) (s : State) (o : Option Connection) → (connect c s o).reply ≡ Did → is_some o ≡ false
did_open c s (Some known) e = absurd (cc)
did_open c s None e = refl

pub opened_new : (meta : Metadata) (s : State) (c : ℕ) → (happens meta s (Connect c)).reply ≡ Did → knows s c ≡ false
opened_new meta s c e = did_open c s (connection_at c s) e

was_open : (c : ℕ) (s : State) (o : Option Connection) → (connect c s o).reply ≡ ConnectionKnown → is_some o ≡ true
was_open c s (Some known) e = refl
was_open c s None e = absurd (cc)

pub opened_known : (meta : Metadata) (s : State) (c : ℕ) → (happens meta s (Connect c)).reply ≡ ConnectionKnown →
    knows s c ≡ true
opened_known meta s c e = was_open c s (connection_at c s) e

never_unknown : (c : ℕ) (s : State) (o : Option Connection) → (connect c s o).reply ≡ ConnectionUnknown → ⊥
never_unknown c s (Some known) e = cc
never_unknown c s None e = cc

pub opened_never : (meta : Metadata) (s : State) (c : ℕ) → (happens meta s (Connect c)).reply ≡ ConnectionUnknown → ⊥
opened_never meta s c e = never_unknown c s (connection_at c s) e

-- ---- an event on a connection that must be known

-- where it is known, the reply is another than that it isn't, or that it is open already
pub record IsOn (meta : Metadata) (s : State) (c : ℕ) (e : Event) : Type 0 where
  pub step : Connection → Step
  pub is : happens meta s e ≡ on_known step s (connection_at c s)
  pub known : (x : Connection) → (step x).reply ≢ ConnectionUnknown
  pub other : (x : Connection) → (step x).reply ≢ ConnectionKnown

did_other : (r : Reply) → r ≡ Did → r ≢ ConnectionUnknown
did_other r e f = cc

did_new : (r : Reply) → r ≡ Did → r ≢ ConnectionKnown
did_new r e f = cc

did_on : (meta : Metadata) (s : State) (c : ℕ) (e : Event) (step : Connection → Step) →
    happens meta s e ≡ on_known step s (connection_at c s) → ((x : Connection) → (step x).reply ≡ Did) → IsOn meta s c e
did_on meta s c e step is did = record {
  step = step;
  is = is;
  known = λ x. did_other (step x).reply (did x);
  other = λ x. did_new (step x).reply (did x);
}

pub receive_on : (meta : Metadata) (s : State) (c : ℕ) (m : Message) → IsOn meta s c (Receive c m)
receive_on meta s c m =
    did_on meta s c (Receive c m) (λ known. with_reply Did (receive meta c m s known.phase)) refl (λ x. refl)

pub binary_on : (meta : Metadata) (s : State) (c : ℕ) → IsOn meta s c (Binary c)
binary_on meta s c =
    did_on meta s c (Binary c) (λ known. with_reply Did (receive meta c Bad s known.phase)) refl (λ x. refl)

pub timeout_on : (meta : Metadata) (s : State) (c : ℕ) → IsOn meta s c (Timeout c)
timeout_on meta s c =
    did_on meta s c (Timeout c) (λ known. with_reply Did (timed_out c s known.phase)) refl (λ x. refl)

pub gone_on : (meta : Metadata) (s : State) (c : ℕ) → IsOn meta s c (Gone c)
gone_on meta s c = did_on meta s c (Gone c) (λ known. with_reply Did (gone c s)) refl (λ x. refl)

drained_known : (c : ℕ) (s : State) (p : Phase) (queue : List (List ℕ)) →
    (drained c s p queue).reply ≢ ConnectionUnknown
drained_known c s p (text ∷ rest) e = cc
drained_known c s Fresh [] e = cc
drained_known c s (Acknowledged session) [] e = cc
drained_known c s (Closed reason) [] e = cc

drained_other : (c : ℕ) (s : State) (p : Phase) (queue : List (List ℕ)) → (drained c s p queue).reply ≢ ConnectionKnown
drained_other c s p (text ∷ rest) e = cc
drained_other c s Fresh [] e = cc
drained_other c s (Acknowledged session) [] e = cc
drained_other c s (Closed reason) [] e = cc

pub drain_on : (meta : Metadata) (s : State) (c : ℕ) → IsOn meta s c (Drain c)
drain_on meta s c = record {
  step = λ known. drained c s known.phase known.queue;
  is = refl;
  known = λ x. drained_known c s x.phase x.queue;
  other = λ x. drained_other c s x.phase x.queue;
}

known_by : (s : State) (f : Connection → Step) (o : Option Connection) → (on_known f s o).reply ≢ ConnectionUnknown →
    is_some o ≡ true
known_by s f (Some x) ne = refl
known_by s f None ne = absurd (ne refl)

unknown_by : (s : State) (f : Connection → Step) (o : Option Connection) →
    ((x : Connection) → (f x).reply ≢ ConnectionUnknown) → (on_known f s o).reply ≡ ConnectionUnknown →
    is_some o ≡ false
unknown_by s f (Some x) ne e = absurd (ne x e)
unknown_by s f None ne e = refl

never_by : (s : State) (f : Connection → Step) (o : Option Connection) →
    ((x : Connection) → (f x).reply ≢ ConnectionKnown) → (on_known f s o).reply ≡ ConnectionKnown → ⊥
never_by s f (Some x) ne e = ne x e
never_by s f None ne e = cc

reply_by : (meta : Metadata) (s : State) (c : ℕ) (e : Event) (on : IsOn meta s c e) (r : Reply) →
    (happens meta s e).reply ≡ r → (on_known on.step s (connection_at c s)).reply ≡ r
reply_by meta s c e on r is = let same = ap (λ (t : Step). t.reply) on.is in cc

pub known_where : (meta : Metadata) (s : State) (c : ℕ) (e : Event) (on : IsOn meta s c e) (r : Reply) →
    r ≢ ConnectionUnknown → (happens meta s e).reply ≡ r → knows s c ≡ true
known_where meta s c e on r ne is =
    known_by s on.step (connection_at c s) (λ u. ne (let own = reply_by meta s c e on r is in cc))

pub unknown_where : (meta : Metadata) (s : State) (c : ℕ) (e : Event) → IsOn meta s c e →
    (happens meta s e).reply ≡ ConnectionUnknown → knows s c ≡ false
unknown_where meta s c e on is =
    unknown_by s on.step (connection_at c s) on.known (reply_by meta s c e on ConnectionUnknown is)

pub never_where : (meta : Metadata) (s : State) (c : ℕ) (e : Event) → IsOn meta s c e →
    (happens meta s e).reply ≡ ConnectionKnown → ⊥
never_where meta s c e on is =
    never_by s on.step (connection_at c s) on.other (reply_by meta s c e on ConnectionKnown is)
