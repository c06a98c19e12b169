-- Of which kind the reply to an event is.
use Rattle.std.proofs.Common.{◌≡◌, ◌≢◌, ℕ, Option, Some, None, List, refl}
use Rattle.machine.specs.State as machine
use Rattle.hub.specs.declared.event.Event.{Event}
use Rattle.hub.specs.declared.event.Event.TheVariants as event
use Rattle.hub.specs.declared.event.Reply.{Reply}
use Rattle.hub.specs.declared.event.Reply.TheVariants as reply
use Rattle.hub_model.specs.declared.reply.ConnReply.{ConnReply}
use Rattle.hub_model.specs.declared.reply.DrainReply.{DrainReply}
use Rattle.subs_engine.specs.Calls.{Answer}
use Rattle.subs_engine.specs.Events.{Answers, Holds, conn_reply, drain_reply}
use Rattle.connection_server.specs.Parts.{IsOfConnection}

holds_conn : (c : ℕ) (r : Reply) (K : Answer → Type 0) → Holds (conn_reply c r) K → (x : ConnReply) × (r ≡ reply.Conn x)
holds_conn c (reply.Conn x) K h = (x, refl)
holds_conn c (reply.Commit x) K h = absurd h
holds_conn c (reply.Tick n) K h = absurd h
holds_conn c (reply.Abandon b) K h = absurd h
holds_conn c (reply.Drain x) K h = absurd h
holds_conn c (reply.Report n) K h = absurd h

holds_drain : (r : Reply) (K : Answer → Type 0) → Holds (drain_reply r) K → (x : DrainReply) × (r ≡ reply.Drain x)
holds_drain (reply.Conn x) K h = absurd h
holds_drain (reply.Commit x) K h = absurd h
holds_drain (reply.Tick n) K h = absurd h
holds_drain (reply.Abandon b) K h = absurd h
holds_drain (reply.Drain x) K h = (x, refl)
holds_drain (reply.Report n) K h = absurd h

pub conn_replied : (e : Event) (r : Reply) (K : machine.Event → Answer → Type 0) → IsOfConnection e → Answers e r K → (x : ConnReply) × (r ≡ reply.Conn x)
conn_replied (event.Commit tx) r K k a = absurd k
conn_replied (event.Connect c) r K k a = holds_conn c r (K (machine.Connect c)) a
conn_replied (event.Text c text) r K k a = holds_conn c r (K (machine.Receive c a.0)) a.2
conn_replied (event.Binary c) r K k a = holds_conn c r (K (machine.Binary c)) a
conn_replied (event.Timeout c) r K k a = holds_conn c r (K (machine.Timeout c)) a
conn_replied (event.Gone c) r K k a = holds_conn c r (K (machine.Gone c)) a
conn_replied event.Tick r K k a = absurd k
conn_replied (event.Abandon j) r K k a = absurd k
conn_replied (event.Drain c) r K k a = absurd k
conn_replied event.Report r K k a = absurd k

pub drain_replied : (c : ℕ) (r : Reply) (K : machine.Event → Answer → Type 0) → Answers (event.Drain c) r K → (x : DrainReply) × (r ≡ reply.Drain x)
drain_replied c r K a = holds_drain r (K (machine.Drain c)) a
