-- Every run keeps its open jobs apart, and counts its takes.
use Rattle.std.proofs.Common.{◌≡◌, ◌∙◌, inl, inr, sym, ap, ℕ, true, List, [], ◌∷◌, length}
use Rattle.role_model.specs.declared.metadata.Metadata.{Metadata}
use Rattle.machine.specs.State.{State, Subscription, Job, Event}
use Rattle.machine.specs.Batches.{is_member, is_due, is_busy}
use Rattle.machine.specs.Run.{run}
use Rattle.run_laws.specs.Takings.{takings}
use Rattle.run_laws.proofs.Among as runs
use Rattle.run_laws.proofs.Apart.{Sound, cohort_own}
use Rattle.run_laws.proofs.SoundRuns.{run_sound}
use Rattle.run_laws.proofs.OpenJobs.{jobs_are_counted}
use Rattle.hub_model.proofs.Items.{Among}
use Rattle.hub_model.proofs.JobFacts.{JobsApart}

among_there : {X : Type 0} (x : X) (xs : List X) → Among x xs → runs.Among x xs
among_there x [] a = absurd a
among_there x (y ∷ ys) (inl e) = inl e
among_there x (y ∷ ys) (inr a) = inr (among_there x ys a)

sound_apart : (s : State) → Sound s → JobsApart s
sound_apart s w = record {
  members = λ i j a b number m n.
      let known = w.members_known i (among_there i s.jobs a) number m in
      let own : (job : Job) → is_member number job ≡ true → is_member known.0.number job ≡ true =
      (λ job h. ap (λ (k : ℕ). is_member k job) known.2 ∙ h) in
      w.apart i j (among_there i s.jobs a) (among_there j s.jobs b) known.0 known.0 known.1 known.1
      (cohort_own known.0) (own i m) (own j n);
  idle = λ x a due. (w.idle x (among_there x s.subscriptions a) due).1;
}

pub jobs_apart : (meta : Metadata) (h : List Event) → JobsApart (run meta h)
jobs_apart meta h = sound_apart (run meta h) (run_sound meta h)

pub takes_counted : (meta : Metadata) (h : List Event) → (run meta h).jobs_made ≡ length (takings meta h)
takes_counted = jobs_are_counted
