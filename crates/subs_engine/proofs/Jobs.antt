-- Jobs and answers stay those of their takes, as the history goes on.
use Rattle.std.proofs.Common.{◌≡◌, ◌∙◌, sym, ap, subst, ℕ, Option, Some, None, List, [], ◌∷◌, ◌++◌}
use Rattle.std.proofs.Common.{append_assoc}
use Rattle.std.proofs.lemmas.List.{map-append}
use Rattle.history_lock.specs.declared.known.Entry.{Entry}
use Rattle.history_lock.specs.History.{entry, event_of, events, Extends}
use Rattle.role_model.specs.declared.metadata.Metadata.{Metadata}
use Rattle.machine.specs.State as machine
use Rattle.machine.specs.State.{Event, Reply, Take, Publish, Nobody}
use Rattle.machine.specs.Run.{happens, run}
use Rattle.hub_model.specs.declared.job.Job.{Job}
use Rattle.hub_model.specs.declared.job.Answers.{Answers}
use Rattle.hub_model.specs.declared.reply.PublishReply.{PublishReply}
use Rattle.hub_model.specs.declared.reply.PublishReply.TheVariants as publish
use Rattle.hub_model.specs.Kept.{Kept}
use Rattle.hub_model.specs.Jobs.{JobOf, AnswersOf}
use Rattle.hub_model.proofs.JobLaws.{jobs_stay, answers_stay}
use Rattle.hub_model.specs.Stands.{StandsFor, Happened, Does}
use Rattle.hub_model.specs.Replies.{TakeAnswers, TookJob, PublishAnswers}
use Rattle.subs_engine.specs.Calls.{Answer, answer, plain, answer_of}
use Rattle.subs_engine.specs.Jobs.{IsJob, IfJob, Publishes, take_answer}

pub events-append : (xs ys : List (Entry Event)) → events (xs ++ ys) ≡ events xs ++ events ys
events-append xs ys = map-append event_of xs ys

pub job_later : (meta : Metadata) (job : Job) (xs ys rest : List (Entry Event)) → ys ≡ xs ++ rest →
    IsJob meta job (events xs) → IsJob meta job (events ys)
job_later meta job xs ys rest whole j = record {
  is = subst (λ (l : List Event). JobOf meta job l) (sym (ap events whole ∙ events-append xs rest))
      (jobs_stay meta job (events xs) (events rest) j.is);
  fits = j.fits;
}

pub answers_later : (meta : Metadata) (n : ℕ) (answers : Answers) (xs ys : List (Entry Event)) →
    AnswersOf meta answers (events xs) → Extends n xs ys → AnswersOf meta answers (events ys)
answers_later meta n answers xs ys a g =
    subst (λ (l : List Event). AnswersOf meta answers l) (sym (ap events g.whole ∙ events-append xs g.rest))
    (answers_stay meta answers (events xs) (events g.rest) a)

-- ---- takes

pub take_stands : (k k' : Kept) (job : Option Job) (h : List Event) → TakeAnswers k k' job → StandsFor k h →
    StandsFor k' (h ++ Take ∷ [])
take_stands k k' None h d st = (d.happened h st).stands
take_stands k k' (Some job) h d st = (d.does.happened h st).stands

pub take_meta : (k k' : Kept) (job : Option Job) → TakeAnswers k k' job → k'.meta ≡ k.meta
take_meta k k' None d = d.meta
take_meta k k' (Some job) d = d.does.meta

pub take_answered : (k k' : Kept) (job : Option Job) (h : List Event) → TakeAnswers k k' job → StandsFor k h →
    answer_of (happens k.meta (run k.meta h) Take) ≡ take_answer job
take_answered k k' None h d st = ap answer_of (d.happened h st).step
take_answered k k' (Some job) h d st = ap answer_of (d.does.happened h st).step

pub take_job : (k k' : Kept) (job : Option Job) (h : List Event) → TakeAnswers k k' job → StandsFor k h →
    IfJob k.meta job (h ++ Take ∷ [])
take_job k k' None h d st = tt
take_job k k' (Some job) h d st = record { is = d.is_job h st; fits = d.fits }

-- ---- publications

module _ (k k' : Kept) (answers : Answers) (h : List Event) (st : StandsFor k h) (a : AnswersOf k.meta answers h) where
  pub publish_stands : (r : PublishReply) → PublishAnswers k k' answers r →
      StandsFor k' (h ++ Publish answers.number ∷ [])
  publish_stands publish.NotOpen d = (d.happened h st).stands
  publish_stands (publish.Published queued) d = (d.2 h st a).stands

  pub publish_answered : (K : Answer → Type 0) (r : PublishReply) → PublishAnswers k k' answers r →
      ((x : Answer) → answer_of (happens k.meta (run k.meta h) (Publish answers.number)) ≡ x → K x) → Publishes r K
  publish_answered K publish.NotOpen d f = f (plain machine.NotOpen) (ap answer_of (d.happened h st).step)
  publish_answered K (publish.Published queued) d f = (
    a.taking.job.version,
    f (answer (machine.Published a.taking.job.version) queued []) (ap answer_of (d.2 h st a).step),
  )

pub publish_meta : (k k' : Kept) (answers : Answers) (r : PublishReply) → PublishAnswers k k' answers r →
    k'.meta ≡ k.meta
publish_meta k k' answers publish.NotOpen d = d.meta
publish_meta k k' answers (publish.Published queued) d = d.0
