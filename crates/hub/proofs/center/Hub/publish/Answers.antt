use Rattle.std.proofs.Common.{◌≡◌, ◌∙◌, sym, ap, subst, ℕ, ◌+◌, Bool, true, false, Some, List, [], arith}
use Rattle.std.specs.Option.{is_some}
use Rattle.std.specs.List.{filter_map}
use Rattle.plan_model.specs.Outcomes.{Outcome}
use Rattle.cohort_map.specs.declared.member.Member.{Member}
use Rattle.stream_cursor.specs.Moves.{rekeyed}
use Rattle.machine.specs.State.{Event, Publish, NotOpen}
use Rattle.hub_model.specs.declared.job.Answers.{Answers}
use Rattle.hub_model.specs.declared.job.OpenJob.{OpenJob}
use Rattle.hub_model.specs.declared.telling.Telling.{Telling}
use Rattle.hub_model.specs.declared.reply.PublishReply.TheVariants as publish
use Rattle.hub_model.specs.Kept.{Kept}
use Rattle.hub_model.specs.Jobs.{AnswersOf}
use Rattle.hub_model.specs.Stands.{StandsFor, Does}
use Rattle.hub_model.specs.Steps.{counted, closes_job}
use Rattle.hub_model.specs.Tellings.{move_of, queued_all}
use Rattle.hub_model.specs.Replies.{PublishAnswers}
use Rattle.hub_model.proofs.Items.{none_of}
use Rattle.hub_model.proofs.Publishes.{unopened}
use Rattle.hub.specs.declared.center.Hub.TheInside.{Inside}
use Rattle.hub.specs.Seen.{seen}
use Rattle.hub.specs.Parts.{job_in, members_in, with_jobs}
use Rattle.hub.specs.Telling.{all_told}
use Rattle.hub.proofs.Sound.{sound_after}
use Rattle.hub.proofs.Publishing.{MayBeTold, told_in, may_tell, AreParts, after, Publishes, publishes_as}
use Rattle.hub.proofs.center.Hub.publish.Goals as goal
use Rattle.hub.proofs.center.Hub.publish.Goals.{After-as_slice, After-close_job}

is_opened : (number m : ℕ) (jobs js : List OpenJob) (b v : Bool) → b ≡ is_some (job_in m js) → m ≡ number → js ≡ jobs →
    b ≡ v → is_some (job_in number jobs) ≡ v
is_opened number m jobs js b v e n j h = (λ i. is_some (job_in (sym n i) (sym j i))) ∙ sym e ∙ h

told_is : (x : Inside) (answers : Answers) (number : ℕ) (jobs : List OpenJob) (outcomes : List Outcome)
    (members : List Member) (ts : List Telling) → number ≡ answers.number → jobs ≡ x.jobs.items →
    outcomes ≡ answers.outcomes → members ≡ members_in number jobs →
    ts ≡ all_told x.cohorts.entries x.held outcomes members → ts ≡ told_in (seen x) answers
told_is x answers number jobs outcomes members ts n j o m is =
    is
    ∙ (λ i. all_told x.cohorts.entries x.held (o i) (m i))
    ∙ (λ i. all_told x.cohorts.entries x.held answers.outcomes (members_in (n i) (j i)))

abbrev HasAnswers : Answers → Kept → Type 0
HasAnswers answers k = (h : List Event) × StandsFor k h × AnswersOf k.meta answers h

pub invariant_of-self : goal.invariant_of-self
invariant_of-self c =
    let x = c.self.inside in
    let s = c.self.invariant in
    let closed = is_opened c.args.answers.number c.number-number.result x.jobs.items c.deref.result.now c.is_open.result
    _ c.is_open.ensures c.number-number.ensures c.deref.ensures.value c.if-not-is_open.true in
    sound_after x (record x { events = x.events + 1 }) (Publish c.args.answers.number) NotOpen [] [] s
    (unopened (seen x) c.args.answers (none_of (job_in c.args.answers.number x.jobs.items) closed))
    (record {
      catalog = s.catalog;
      promised = s.promised;
      ready = s.ready;
      version = omega (arith, s.version);
      subscribed = omega (arith, s.subscribed);
      jobs_made = omega (arith, s.jobs_made);
    })

pub returns-then-not-is_open-clause-reply : goal.returns-then-not-is_open-clause-reply
returns-then-not-is_open-clause-reply c =
    let x = c.self.inside in
    let closed = is_opened c.args.answers.number c.number-number.result x.jobs.items c.deref.result.now c.is_open.result
    _ c.is_open.ensures c.number-number.ensures c.deref.ensures.value c.if-not-is_open.true in
    subst (λ (k : Kept). Does k (counted (seen x)) (Publish c.args.answers.number) NotOpen [] []) c.self.view_is
    (unopened (seen x) c.args.answers (none_of (job_in c.args.answers.number x.jobs.items) closed))

-- ---- an open job

opened : (c : After-as_slice) → is_some (job_in c.args.answers.number c.self.inside.jobs.items) ≡ true
opened c =
    is_opened c.args.answers.number c.number-number.result c.self.inside.jobs.items c.deref.result.now c.is_open.result
    _ c.is_open.ensures c.number-number.ensures c.deref.ensures.value c.if-not-is_open.false

told : (c : After-as_slice) → c.in-Ok.tellings ≡ told_in (seen c.self.inside) c.args.answers
told c =
    told_is c.self.inside c.args.answers c.number-number.result c.deref-2.result.now c.outcomes.result.now
    c.members_of.result.now c.in-Ok.tellings c.number-number.ensures c.deref-2.ensures.value c.outcomes.ensures
    c.members_of.ensures c.in-Ok.ensures

has_answers : (c : After-as_slice) → HasAnswers c.args.answers (seen c.self.inside)
has_answers c = subst (HasAnswers c.args.answers) (sym c.self.view_is) c.requires.answers

may : (c : After-as_slice) → MayBeTold (seen c.self.inside) c.as_slice.result.now
may c =
    subst (MayBeTold (seen c.self.inside)) (sym c.as_slice.ensures)
    (may_tell (seen c.self.inside) c.args.answers c.in-Ok.tellings (told c) (opened c) (has_answers c))

pub prepare-requires-clause-known : goal.prepare-requires-clause-known
prepare-requires-clause-known c = (may (goal.at.prepare-requires-clause-known c).After-as_slice).known

pub prepare-requires-clause-streams : goal.prepare-requires-clause-streams
prepare-requires-clause-streams c = (may (goal.at.prepare-requires-clause-streams c).After-as_slice).streams

pub prepare-requires-clause-apart : goal.prepare-requires-clause-apart
prepare-requires-clause-apart c = (may (goal.at.prepare-requires-clause-apart c).After-as_slice).apart

parts : (c : After-close_job) →
    AreParts (seen c.self.inside) c.args.answers.number c.in-Ok.tellings c.tell_all.new.connections.connections
    c.close_job.new.cohorts.entries c.close_job.new.held c.close_job.new.jobs.items
parts c =
    let x = c.self.inside in
    let entries = c.tell_all.new.cohorts.entries in
    let held = c.tell_all.new.held in
    record {
      roomy = c.prepare.new.connections.connections;
      same = c.in-Ok-prepare.ensures.connections;
      moved = c.prepare.new.cohorts.entries;
      moves = c.in-Ok-prepare.ensures.moved
          ∙ ap (λ (us : List Telling). rekeyed (filter_map move_of us) x.cohorts.entries) c.as_slice.ensures;
      told_entries = entries;
      told_held = held;
      tells = c.tell_all.ensures.tells;
      closes = subst (λ (n : ℕ). (j : Kept) (job : OpenJob) → job_in n x.jobs.items ≡ Some job →
          closes_job n false job.members (with_jobs entries held x.jobs.items j)
          ≡ with_jobs c.close_job.new.cohorts.entries c.close_job.new.held c.close_job.new.jobs.items j)
          c.number-number.ensures c.close_job.ensures.closes;
    }

published : (c : After-close_job) → c.in-Ok.tellings ≡ told_in (seen c.self.inside) c.args.answers →
    is_some (job_in c.args.answers.number c.self.inside.jobs.items) ≡ true →
    HasAnswers c.args.answers (seen c.self.inside) →
    Publishes (seen c.self.inside) (after (seen c.self.inside) c.tell_all.new.connections.connections
    c.close_job.new.cohorts.entries c.close_job.new.held c.close_job.new.jobs.items) c.args.answers
    c.in-Ok-prepare.queued
published c is job a =
    publishes_as (seen c.self.inside) c.args.answers c.in-Ok.tellings c.in-Ok-prepare.queued
    c.tell_all.new.connections.connections c.close_job.new.cohorts.entries c.close_job.new.held
    c.close_job.new.jobs.items is (c.in-Ok-prepare.ensures.queued ∙ ap queued_all c.as_slice.ensures) job a (parts c)

pub invariant_of-self-2 : goal.invariant_of-self-2
invariant_of-self-2 c =
    let s = c.self.invariant in
    let b = (goal.at.invariant_of-self-2 c).After-as_slice in
    let p = published (goal.at.invariant_of-self-2 c).After-close_job (told b) (opened b) (has_answers b) in
    record {
      catalog = s.catalog;
      promised = c.tell_all.ensures.promised;
      ready = c.close_job.ensures.ready ∙ c.tell_all.ensures.ready ∙ c.in-Ok-prepare.ensures.ready;
      version = omega (arith, s.version);
      subscribed = omega (arith, s.subscribed);
      jobs_made = omega (arith, s.jobs_made);
      history = p.history;
      stands = p.stands;
    }

pub returns-clause-reply : goal.returns-clause-reply
returns-clause-reply c =
    let b = (goal.at.returns-clause-reply c).After-as_slice in
    subst (λ (k : Kept). PublishAnswers k (after (seen c.self.inside) c.tell_all.new.connections.connections
    c.close_job.new.cohorts.entries c.close_job.new.held c.close_job.new.jobs.items) c.args.answers
    (publish.Published c.in-Ok-prepare.queued)) c.self.view_is
    (published (goal.at.returns-clause-reply c).After-close_job (told b) (opened b) (has_answers b)).reply
