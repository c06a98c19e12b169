-- What is so of each state that a run comes to.
use Rattle.std.proofs.Common.{◌≡◌, ℕ, ◌≤◌, true, List, length, map}
use Rattle.std.specs.List.{range_with_len}
use Rattle.std.specs.Option.{is_some}
use Rattle.role_model.specs.declared.metadata.Metadata.{Metadata}
use Rattle.machine.specs.State.{State, Subscription, Job, Event}
use Rattle.machine.specs.Connections.{connection_at}
use Rattle.machine.specs.Batches.{is_member}
use Rattle.machine.specs.Run.{run}
use Rattle.hub_model.proofs.Items.{Among, Ascend}

-- there is a live subscription of this number
pub record IsLiveIn (s : State) (n : ℕ) : Type 0 where
  pub sub : Subscription
  pub among : Among sub s.subscriptions
  pub number : sub.number ≡ n
  pub live : sub.live ≡ true

pub record IsRun (s : State) : Type 0 where
  -- subscriptions have the numbers from 1 on, in order
  pub numbered : map (λ sub. sub.number) s.subscriptions ≡ range_with_len 1 (length s.subscriptions)
  -- live subscriptions of one connection have ids of their own
  pub ids : (x y : Subscription) → Among x s.subscriptions → Among y s.subscriptions → x.live ≡ true → y.live ≡ true →
      x.connection ≡ y.connection → x.id ≡ y.id → x ≡ y
  -- the connection of a live subscription is known
  pub known : (x : Subscription) → Among x s.subscriptions → x.live ≡ true →
      is_some (connection_at x.connection s) ≡ true
  -- who is due is live
  pub due : (number : ℕ) → Among number s.due → IsLiveIn s number
  pub due_ascend : Ascend s.due
  -- members of open jobs are subscriptions
  pub members : (job : Job) → Among job s.jobs → (number : ℕ) → is_member number job ≡ true →
      (sub : Subscription) × Among sub s.subscriptions × (sub.number ≡ number)
  pub members_ascend : (job : Job) → Among job s.jobs → Ascend (map (λ m. m.subscription) job.members)
  -- open jobs stand in the order of their numbers, which are up to the count of jobs
  pub jobs_ascend : Ascend (map (λ job. job.number) s.jobs)
  pub jobs_made : (job : Job) → Among job s.jobs → job.number ≤ s.jobs_made
  pub connections_ascend : Ascend (map (λ c. c.number) s.connections)

-- each state that a run comes to is so
abbrev pub EachIsRun : Metadata → Type 0
EachIsRun meta = (h : List Event) → IsRun (run meta h)
