-- One event, and whole runs. This project's own.
use Rattle.std.specs.Prelude.{◌+◌, List, [], ◌∷◌, ◌++◌, length, filter, Result, Ok, Err}
use Rattle.data_model.specs.declared.transaction.TxChange.{TxChange}
use Rattle.data_model.specs.declared.transaction.TxFault.{TxFault}
use Rattle.data_model.specs.Rows.{Database}
use Rattle.data_model.specs.Transactions.{apply, snapshot}
use Rattle.machine.specs.Messages.{Bad}
use Rattle.role_model.specs.declared.metadata.Metadata.{Metadata}
use Rattle.machine.specs.State.{
  State,
  Event,
  Connect,
  Receive,
  Binary,
  Timeout,
  Gone,
  Commit,
  Tick,
  Take,
  Publish,
  Abandon,
  Drain,
  Report,
  Skip,
  Did,
  Committed,
  Declined,
  Reported,
  Skipped,
  Counts,
  Step,
  opening,
  silent,
  with_reply,
}
use Rattle.machine.specs.Connections.{connection_at, connect, on_known, receive, timed_out, gone, drained}
use Rattle.machine.specs.Batches.{tick, take_job, abandon, job_at}
use Rattle.machine.specs.Publication.{publish}

-- the database now
abbrev pub database_now : Metadata → State → Database
database_now meta s = snapshot meta.catalog s.transactions (length s.transactions)

-- an accepted transaction is the next one; a refused one changes nothing
abbrev pub commit : List TxChange → State → Result Database TxFault → Step
commit tx s (Ok after) = silent (record s { transactions = s.transactions ++ tx ∷ [] })
    (Committed (length s.transactions + 1))
commit tx s (Err fault) = silent s (Declined fault)

abbrev pub counts : State → Counts
counts s = record {
  connections = length s.connections;
  live = length
      (filter (λ sub. sub.live) s.subscriptions);
  due = length s.due;
  jobs = length s.jobs;
  version = length
      s.transactions;
}

abbrev pub happens : Metadata → State → Event → Step
happens meta s (Connect c) = connect c s (connection_at c s)
happens meta s (Receive c message) = on_known (λ known. with_reply Did (receive meta c message s known.phase)) s
    (connection_at c s)
happens meta s (Binary c) = on_known (λ known. with_reply Did (receive meta c Bad s known.phase)) s (connection_at c s)
happens meta s (Timeout c) = on_known (λ known. with_reply Did (timed_out c s known.phase)) s (connection_at c s)
happens meta s (Gone c) = on_known (λ known. with_reply Did (gone c s)) s (connection_at c s)
happens meta s (Commit tx) = commit tx s (apply meta.catalog (database_now meta s) tx)
happens meta s Tick = tick s
happens meta s Take = take_job meta s
happens meta s (Publish job) = publish meta job s (job_at job s.jobs)
happens meta s (Abandon job) = abandon job s (job_at job s.jobs)
happens meta s (Drain c) = on_known (λ known. drained c s known.phase known.queue) s (connection_at c s)
happens meta s Report = silent s (Reported (counts s))
happens meta s Skip = silent s Skipped

abbrev pub after_all : Metadata → State → List Event → State
after_all meta s [] = s
after_all meta s (e ∷ es) = after_all meta (happens meta s e).state es

-- the state after a list of events
abbrev pub run : Metadata → List Event → State
run meta es = after_all meta opening es

-- what each event of a list did, from a state on
abbrev pub steps_from : Metadata → State → List Event → List Step
steps_from meta s [] = []
steps_from meta s (e ∷ es) = happens meta s e ∷ steps_from meta (happens meta s e).state es

abbrev pub steps : Metadata → List Event → List Step
steps meta es = steps_from meta opening es
