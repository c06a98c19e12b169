-- What a publication queues (Hasura's live query and streaming subscription documentation). That a query operation is
-- answered by its first publication, and that a stream without a row is told nothing, is this project's own.
use Rattle.std.specs.Prelude.{ℕ, Bool, true, not, nat_lt, ◌==◌, if◌then◌else◌, Option, Some, None, List, [], ◌∷◌, map}
use Rattle.std.specs.Str.{bytes_eq}
use Rattle.scalar_val.specs.declared.val.Val.{Val}
use Rattle.data_model.specs.Rows.{Database}
use Rattle.data_model.specs.Transactions.{snapshot}
use Rattle.role_model.specs.declared.metadata.Metadata.{Metadata}
use Rattle.plan_model.specs.Outcomes.{Outcome}
use Rattle.query_model.specs.declared.kind.SubKind.{SubKind}
use Rattle.query_model.specs.declared.kind.SubKind.TheVariants.{Live, Once, Stream}
use Rattle.query_model.specs.Results.{result}
use Rattle.wire_model.specs.ServerMessages.{next_text, complete_text}
use Rattle.machine.specs.State.{
  State,
  Subscription,
  Member,
  Job,
  Step,
  Effect,
  NotOpen,
  Published,
  silent,
  with_reply,
  nothing,
}
use Rattle.machine.specs.Connections.{and_then, queue_then, end_where}
use Rattle.machine.specs.Batches.{is_subscription, subscription_at, without_job}

abbrev pub at_subscription : ℕ → (Subscription → Subscription) → Subscription → Subscription
at_subscription number f sub = if sub.number == number then f sub else sub

abbrev pub with_subscription : ℕ → (Subscription → Subscription) → State → State
with_subscription number f s = record s { subscriptions = map (at_subscription number f) s.subscriptions }

-- there is no last text, or it differs
abbrev pub is_new : Option (List ℕ) → List ℕ → Bool
is_new None text = true
is_new (Some last) text = not (bytes_eq last text)

abbrev pub remembers : List ℕ → Subscription → Subscription
remembers text sub = record sub { last = Some text }

abbrev pub moves_to : Val → Subscription → Subscription
moves_to cursor sub = record sub { cursor = cursor }

abbrev pub queue_next : Subscription → List ℕ → (State → Effect) → State → Effect
queue_next sub payload more s = queue_then sub.connection (next_text sub.id payload) more s

-- A live query's result is queued first and then only on change.
abbrev pub publish_live : Subscription → Outcome → State → Effect
publish_live sub r s =
    if is_new sub.last r.text
    then queue_next sub r.text (λ t. nothing (with_subscription sub.number (remembers r.text) t)) s
    else nothing s

-- A query that is answered once is answered, completed and ended.
abbrev pub publish_once : Subscription → Outcome → State → Effect
publish_once sub r s =
    queue_next sub r.text
    (λ t. queue_then sub.connection (complete_text sub.id) (λ u. nothing (end_where (is_subscription sub.number) u)) t) s

-- A stream's next rows are queued where there are any, and its cursor moves to the last of them.
abbrev pub publish_stream : Subscription → Outcome → State → Effect
publish_stream sub r s =
    if nat_lt 0 r.rows
    then queue_next sub r.text (λ t. nothing (with_subscription sub.number (moves_to r.last) t)) s
    else nothing s

abbrev pub publish_kind : SubKind → Subscription → Outcome → State → Effect
publish_kind Live sub r s = publish_live sub r s
publish_kind Once sub r s = publish_once sub r s
publish_kind Stream sub r s = publish_stream sub r s

-- what one member is told: the result of its own query and cursor on the job's database
abbrev pub publish_member : Metadata → Database → State → Option Subscription → Effect
publish_member meta db s (Some sub) =
    if sub.live then publish_kind sub.query.kind sub (result meta sub.query sub.cursor db) s else nothing s
publish_member meta db s None = nothing s

-- the members in order; one that is no longer live at its turn is passed over
abbrev pub publish_members : Metadata → Database → List Member → State → Effect
publish_members meta db [] s = nothing s
publish_members meta db (m ∷ ms) s =
    and_then (publish_member meta db s (subscription_at m.subscription s.subscriptions))
    (λ t. publish_members meta db ms t)

abbrev pub close_job : ℕ → Effect → Effect
close_job number e = record e { state = record e.state { jobs = without_job number e.state.jobs } }

-- the database of a job: that after as many transactions as its version says
abbrev pub database_of : Metadata → State → Job → Database
database_of meta s job = snapshot meta.catalog s.transactions job.version

abbrev pub publish : Metadata → ℕ → State → Option Job → Step
publish meta number s (Some job) =
    with_reply (Published job.version)
    (close_job number (publish_members meta (database_of meta s job) job.members s))
publish meta number s None = silent s NotOpen
