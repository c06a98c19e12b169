-- What a poll of a job adds.
use Rattle.std.proofs.Common.{◌≡◌, refl, subst, inr, ℕ, ◌+◌, ◌≤◌, Option, Some, Result, List, [], ◌∷◌, length}
use Rattle.history_lock.specs.PassViews.{PassView}
use Rattle.history_lock.specs.History.{events}
use Rattle.role_model.specs.declared.metadata.Metadata.{Metadata}
use Rattle.plan_model.specs.Reads.{reads}
use Rattle.machine.specs.State.{Event, Take, Taken}
use Rattle.hub_model.specs.declared.job.Job.{Job}
use Rattle.hub_model.specs.Jobs.{job_of}
use Rattle.subs_engine.specs.declared.engine.TakeFault.{TakeFault}
use Rattle.subs_engine.specs.declared.poll.Polled.{Polled}
use Rattle.subs_engine.specs.Calls.{Call, Did, MakesOne, call, plain}
use Rattle.subs_engine.specs.Jobs.{IfJob, take_answer}
use Rattle.subs_engine.specs.Polls.{Finishes, PollsOnce}
use Rattle.subs_engine.proofs.Owns.{did_then}
use Rattle.subs_engine.proofs.Jobs.{job_later}

pub polls_job : (p t q : PassView Event Metadata) (o : Option Job) (job : Job) (r : Result Polled TakeFault)
    (steps steps' : ℕ) → o ≡ Some job → MakesOne p t Take (take_answer o) → IfJob p.basis o (events t.seen) →
    (made : List Call) × Did t q made × Finishes (length q.seen) job.number r made →
    steps' ≤ steps + reads job.plan job.snapshot.tables → PollsOnce p q r steps steps'
polls_job p t q o job r steps steps' is took its more few =
    let taken = subst (λ (x : Option Job). MakesOne p t Take (take_answer x)) is took in
    let its_job = subst (λ (x : Option Job). IfJob p.basis x (events t.seen)) is its in
    let first = call taken.0 Take (plain (Taken (job_of job))) in
    record {
      made = first ∷ more.0;
      did = did_then p t q (first ∷ []) more.0 taken.1.did more.1;
      polls = inr record {
        job = job;
        is_job = job_later p.basis job t.seen q.seen more.1.rest more.1.whole its_job;
        state = taken.0;
        more = more.0;
        whole = refl;
        finishes = more.2;
        reads = few;
      };
    }
