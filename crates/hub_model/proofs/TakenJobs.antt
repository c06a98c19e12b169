-- The job of a take asks for what its members ask for.
use Rattle.std.proofs.Common.{◌≡◌, ◌∙◌, sym, ap, refl, subst, ℕ, ◌+◌, ◌-◌, Some, None, Option, List, [], ◌∷◌, ◌++◌}
use Rattle.std.proofs.Common.{length, map, slice_get, append-nil, append_assoc, arith}
use Rattle.std.specs.Option.{option_map}
use Rattle.std.specs.List.{AllByRecursion, find}
use Rattle.std.proofs.lemmas.Bool.{eqb-true}
use Rattle.std.proofs.lemmas.Option.{slice_get-map}
use Rattle.scalar_val.specs.declared.val.Val.{Val}
use Rattle.data_model.specs.Rows as rows
use Rattle.data_model.specs.Rows.{Database}
use Rattle.role_model.specs.declared.metadata.Metadata.{Metadata}
use Rattle.plan_model.specs.Outcomes.{Outcome}
use Rattle.plan_model.specs.declared.plan.Plan.{Plan}
use Rattle.plan_model.specs.declared.filter.Binding.{Binding}
use Rattle.plan_model.specs.Planned.{planned}
use Rattle.plan_model.specs.PlanFits.{PlanFits}
use Rattle.plan_model.specs.BindingFits.{BindingFits}
use Rattle.query_model.specs.Queries.{SamePoller, binding_of, view_of}
use Rattle.query_model.specs.Results.{result}
use Rattle.query_model.specs.Plans.{plan_of}
use Rattle.query_model.specs.AdmissionLaws.{PlansFit, PollersHaveOnePlan}
use Rattle.query_model.specs.ResultLaws.{PlannedIsResult}
use Rattle.cohort_map.specs.declared.key.PollerKey.{PollerKey}
use Rattle.cohort_map.specs.declared.member.Member.{Member}
use Rattle.cohort_map.specs.Entries as entries
use Rattle.cohort_map.specs.Entries.{Entry, is_entry, entry_at}
use Rattle.cohort_map.specs.Batches.{chosen, batch_from, batch_of}
use Rattle.batch_rel.specs.declared.relation.RelRow.{RelRow}
use Rattle.subscription_table.specs.declared.held.Held.{Held}
use Rattle.subscription_table.specs.Kept.{held_at}
use Rattle.machine.specs.State as machine
use Rattle.machine.specs.State.{State, Subscription, Event, Take, Taken, Step, opening}
use Rattle.machine.specs.Batches.{is_subscription, subscription_at, next_job}
use Rattle.machine.specs.Run.{happens, after_all, run, database_now}
use Rattle.run_laws.specs.Takings.{Taking, taking_of, takings_from, takings}
use Rattle.hub_model.specs.declared.job.Job.{Job}
use Rattle.hub_model.specs.Kept.{Kept, is_kept, kept_of, member_of, poller_of, entry_of, Holds, Represents}
use Rattle.hub_model.specs.Stands.{StandsFor, Does}
use Rattle.hub_model.specs.Steps.{counted, takes}
use Rattle.hub_model.specs.Replies.{TookJob}
use Rattle.hub_model.specs.Jobs.{job_of, result_for, AreResults, evaluated, Fits, JobOf}
use Rattle.hub_model.proofs.Items.{Among, among_filter, among_map, all_from_among, all_among, find_mapped}
use Rattle.hub_model.proofs.Filtered.{find_kept}
use Rattle.hub_model.proofs.Reached.{IsRun}
use Rattle.hub_model.proofs.JobFacts.{JobsApart, one_of_number, at_own_number}
use Rattle.hub_model.proofs.Chosen.{IsMemberIn, member_in, one_poller}
use Rattle.hub_model.proofs.Takes.{take_step, does_take}
use Rattle.hub_model.proofs.Found.{held_for, held_of}

-- ---- what a job has

-- the binding of a number's entry
abbrev pub binding_at : ℕ → List Entry → Option Binding
binding_at number entries = option_map (λ (e : Entry). e.binding) (entry_at number entries)

-- the row of a member's cohort has the member's binding
pub record HasRow (entries : List Entry) (relation : List RelRow) (m : Member) : Type 0 where
  pub row : RelRow
  pub at : slice_get relation (m.id - 1) ≡ Some row
  pub binding : binding_at m.sub entries ≡ Some row.binding

-- a row has the binding of some member
pub record IsRowOf (entries : List Entry) (members : List Member) (row : RelRow) : Type 0 where
  pub member : Member
  pub among : Among member members
  pub binding : binding_at member.sub entries ≡ Some row.binding

-- A job has the bindings of its members, the plan of one of them, and what is kept otherwise.
pub record AsksFor (k : Kept) (members : List Member) (job : Job) : Type 0 where
  pub number : job.number ≡ k.jobs_made + 1
  pub version : job.version ≡ k.version
  pub members_are : job.members ≡ members
  pub tables : job.snapshot.tables ≡ k.tables
  pub catalog : job.snapshot.catalog ≡ k.meta.catalog
  pub member : Member
  pub among : Among member members
  pub held : Held
  pub at : held_at member.sub k.held ≡ Some held
  pub plan : job.plan ≡ held.plan
  pub rows : AllByRecursion (HasRow k.entries job.relation) members
  pub own : AllByRecursion (IsRowOf k.entries members) job.relation

-- ---- what a member asks for

-- a member's subscription, and what is held of it
pub record Asked (k : Kept) (s : State) (poller : PollerKey) (m : Member) : Type 0 where
  pub sub : Subscription
  pub among : Among sub s.subscriptions
  pub number : sub.number ≡ m.sub
  pub found : subscription_at m.sub s.subscriptions ≡ Some sub
  pub entry : entry_at m.sub k.entries ≡ Some (entry_of s sub)
  pub held : Held
  pub holds : Holds k.meta sub held
  pub polled : poller ≡ poller_of sub.query

entry_found : (k : Kept) (s : State) (n : ℕ) (x : Subscription) → IsRun s → Represents k s → Among x (kept_of s) →
    x.number ≡ n →
    subscription_at n s.subscriptions ≡ Some x → entry_at n k.entries ≡ Some (entry_of s x)
entry_found k s n x w r a number found =
    ap (entry_at n) r.entries
    ∙ find_mapped (is_entry n) (entry_of s) (kept_of s)
    ∙ ap (option_map (entry_of s))
    (find_kept (is_subscription n) (is_kept s.jobs) s.subscriptions
    (λ y b h.
    let kept = among_filter (is_kept s.jobs) x s.subscriptions a in
    ap (is_kept s.jobs) (one_of_number s.subscriptions w.numbered y x b kept.0 (eqb-true y.number n h ∙ sym number))
    ∙ kept.1)
    ∙ found)

asked_with : (k : Kept) (s : State) (first : Entry) (m : Member) → IsRun s → Represents k s →
    IsMemberIn (chosen k.meta.batch_size k.entries first) k.entries m → Asked k s first.poller m
asked_with k s first m w r is =
    let x = among_map (entry_of s) (kept_of s) is.entry
    (subst (λ (es : List Entry). Among is.entry es) r.entries is.among) in
    let kept = among_filter (is_kept s.jobs) x.0 s.subscriptions x.1 in
    let number : x.0.number ≡ m.sub = ap (λ (e : Entry). e.number) (sym x.2) ∙ is.number in
    let found : subscription_at m.sub s.subscriptions ≡ Some x.0 =
    ap (λ (n : ℕ). subscription_at n s.subscriptions) (sym number)
    ∙ at_own_number s.subscriptions w.numbered x.0 kept.0 in
    let held = held_of m.sub k s r w x.0 kept.0 kept.1 number in
    record {
      sub = x.0;
      among = kept.0;
      number = number;
      found = found;
      entry = entry_found k s m.sub x.0 w r x.1 number found;
      held = held.held;
      holds = held.holds;
      polled = one_poller k.meta.batch_size k.entries first m is ∙ ap (λ (e : Entry). e.poller) x.2;
    }

-- the members of a batch are of one poller
pub record AreAsked (k : Kept) (s : State) (members : List Member) : Type 0 where
  pub poller : PollerKey
  pub asked : (m : Member) → Among m members → Asked k s poller m

asked_by : (k : Kept) (s : State) (members : List Member) (o : Option Entry) → IsRun s → Represents k s →
    members ≡ batch_from k.meta.batch_size k.entries o → (members ≡ [] → ⊥) → AreAsked k s members
asked_by k s members (Some first) w r is some = record {
  poller = first.poller;
  asked = λ m a. asked_with k s first m w r (member_in _ k.entries m (subst (λ (ms : List Member). Among m ms) is a));
}
asked_by k s members None w r is some = absurd (some is)

pub are_asked : (k : Kept) (s : State) (members : List Member) → IsRun s → Represents k s →
    members ≡ batch_of k.meta.batch_size k.entries →
    (members ≡ [] → ⊥) → AreAsked k s members
are_asked k s members w r is some = asked_by k s members (find entries.is_due k.entries) w r is some

same_poller : (a b : Subscription) → poller_of a.query ≡ poller_of b.query → SamePoller a.query b.query
same_poller a b e = record {
  word = ap (λ (p : PollerKey). p.word) e;
  role = ap (λ (p : PollerKey). p.role) e;
  text = ap (λ (p : PollerKey). p.canon) e;
}

-- the plan of one member is that of each
one_plan : PollersHaveOnePlan → (meta : Metadata) (x y : Subscription) (g h : Held) → Holds meta x g → Holds meta y h →
    poller_of x.query ≡ poller_of y.query → plan_of (view_of meta x.query) x.query.selection ≡ Some h.plan
one_plan law meta x y g h p q same =
    law meta (record { query = x.query; cursor = p.initial })
    (record { query = y.query; cursor = q.initial }) p.admitted q.admitted
    (same_poller x y same) ∙ q.plan

-- the plan of a job is that of each member
plan_is : PollersHaveOnePlan → (k : Kept) (s : State) (members : List Member) (job : Job) → IsRun s → Represents k s →
    AsksFor k members job →
    (a : AreAsked k s members) → (m : Member) (b : Among m members) →
    plan_of (view_of k.meta (a.asked m b).sub.query) (a.asked m b).sub.query.selection ≡ Some job.plan
plan_is law k s members job w r asks a m b =
    let one = a.asked asks.member asks.among in
    let own = a.asked m b in
    let f = held_for asks.member.sub k s asks.held r asks.at in
    let same : f.0.sub ≡ one.sub =
    one_of_number s.subscriptions w.numbered f.0.sub one.sub f.0.among one.among
    (sym f.0.holds.number ∙ f.1 ∙ sym one.number) in
    one_plan law k.meta own.sub f.0.sub own.held asks.held own.holds f.0.holds
    (sym own.polled ∙ one.polled ∙ ap (λ (x : Subscription). poller_of x.query) (sym same))
    ∙ ap (λ (p : Plan). Some p) (sym asks.plan)

binding_is : (k : Kept) (s : State) (poller : PollerKey) (m : Member) (row : RelRow) (a : Asked k s poller m) →
    binding_at m.sub k.entries ≡ Some row.binding →
    row.binding ≡ binding_of a.sub.query a.sub.cursor
binding_is k s poller m row a e = let both = sym e ∙ ap (option_map (λ (e : Entry). e.binding)) a.entry in cc

-- ---- it can be evaluated

pub job_fits : PlansFit → PollersHaveOnePlan → (k : Kept) (s : State) (members : List Member) (job : Job) → IsRun s →
    Represents k s →
    members ≡ batch_of k.meta.batch_size k.entries → (members ≡ [] → ⊥) → AsksFor k members job → Fits job
job_fits fit law k s members job w r is some asks =
    let a = are_asked k s members w r is some in
    let own : (m : Member) (b : Among m members) →
    PlanFits k.meta.catalog job.plan ×
    ((cursor : Val) → BindingFits job.plan (binding_of (a.asked m b).sub.query cursor)) =
    (λ m b. fit k.meta (record { query = (a.asked m b).sub.query; cursor = (a.asked m b).holds.initial })
    (a.asked m b).holds.admitted job.plan
    (plan_is law k s members job w r asks a m b)) in
    record {
      plan = subst (λ c. PlanFits c job.plan) (sym asks.catalog) (own asks.member asks.among).0;
      bindings = all_from_among (λ (row : RelRow). BindingFits job.plan row.binding) job.relation
          (λ row b.
          let is_of = all_among (IsRowOf k.entries members) job.relation row b asks.own in
          let asked = a.asked is_of.member is_of.among in
          subst (BindingFits job.plan) (sym (binding_is k s a.poller is_of.member row asked is_of.binding))
          ((own is_of.member is_of.among).1 asked.sub.cursor));
    }

-- ---- its results

member_result : PlannedIsResult → PollersHaveOnePlan → (k : Kept) (s : State) (members : List Member) (job : Job) →
    IsRun s → Represents k s →
    rows.Fits k.meta.catalog k.tables → (asks : AsksFor k members job) → (a : AreAsked k s members) → (m : Member) →
    Among m members →
    slice_get (evaluated job) (m.id - 1) ≡ result_for k.meta (database_now k.meta s) s.subscriptions (member_of m)
member_result result_law law k s members job w r fits asks a m b =
    let asked = a.asked m b in
    let row = all_among (HasRow k.entries job.relation) members m b asks.rows in
    let of_row : RelRow → Outcome = λ row. planned job.plan row.binding job.snapshot.tables in
    slice_get-map of_row job.relation (m.id - 1)
    ∙ ap (option_map of_row) row.at
    ∙ ap (λ (binding : Binding). Some (planned job.plan binding job.snapshot.tables))
    (binding_is k s a.poller m row.row asked row.binding)
    ∙ ap (λ (db : Database). Some (planned job.plan (binding_of asked.sub.query asked.sub.cursor) db))
    (asks.tables ∙ r.tables)
    ∙ ap (λ (o : Outcome). Some o)
    (result_law k.meta (record { query = asked.sub.query; cursor = asked.holds.initial }) asked.holds.admitted job.plan
    (plan_is law k s members job w r asks a m b) (database_now k.meta s)
    (subst (rows.Fits k.meta.catalog) r.tables fits) asked.sub.cursor asked.holds.cursor)
    ∙ ap (option_map (λ (sub : Subscription). result k.meta sub.query sub.cursor (database_now k.meta s)))
    (sym asked.found)

members_result : PlannedIsResult → PollersHaveOnePlan → (k : Kept) (s : State) (members : List Member) (job : Job) →
    IsRun s → Represents k s →
    rows.Fits k.meta.catalog k.tables → AsksFor k members job → members ≡ batch_of k.meta.batch_size k.entries →
    (members ≡ [] → ⊥) →
    AreResults k.meta (database_now k.meta s) s.subscriptions (evaluated job) (map member_of members)
members_result result_law law k s members job w r fits asks is some =
    let a = are_asked k s members w r is some in
    all_from_among _ (map member_of members)
    (λ m b.
    let own = among_map member_of members m b in
    subst (λ (n : machine.Member). slice_get (evaluated job) (n.cohort - 1)
    ≡ result_for k.meta (database_now k.meta s) s.subscriptions n) (sym own.2)
    (member_result result_law law k s members job w r fits asks a own.0 own.1))

-- ---- its taking

takings_from-push : (meta : Metadata) (s : State) (h : List Event) (e : Event) →
    takings_from meta s (h ++ e ∷ [])
    ≡ takings_from meta s h ++ taking_of (after_all meta s h) (happens meta (after_all meta s h) e).reply
takings_from-push meta s [] e = append-nil _
takings_from-push meta s (d ∷ h) e =
    ap (λ (ts : List Taking). taking_of s (happens meta s d).reply ++ ts)
    (takings_from-push meta (happens meta s d).state h e)
    ∙ sym (append_assoc (taking_of s (happens meta s d).reply) (takings_from meta (happens meta s d).state h) _)

last_got : {X : Type 0} (xs : List X) (x : X) → slice_get (xs ++ x ∷ []) (length xs) ≡ Some x
last_got [] x = refl
last_got (y ∷ xs) x = last_got xs x

taken_as : (k : Kept) (s : State) (members : List Member) (job : Job) → Represents k s → AsksFor k members job →
    job_of job ≡ next_job s (map member_of members)
taken_as k s members job r asks =
    let number : job.number ≡ s.jobs_made + 1 = asks.number ∙ ap (λ (n : ℕ). n + 1) r.jobs_made in
    let version : job.version ≡ length s.transactions = asks.version ∙ r.version in
    λ i. record { number = number i; version = version i; members = map member_of (asks.members_are i) }

-- the job of a take after a history that the hub stood for
pub is_job : PlannedIsResult → PollersHaveOnePlan → (k : Kept) (members : List Member) (job : Job) →
    ((h : List Event) → IsRun (run k.meta h)) →
    ((h : List Event) → (run k.meta h).jobs_made ≡ length (takings k.meta h)) →
    rows.Fits k.meta.catalog k.tables → AsksFor k members job → members ≡ batch_of k.meta.batch_size k.entries →
    (members ≡ [] → ⊥) →
    (h : List Event) → StandsFor k h → JobOf k.meta job (h ++ Take ∷ [])
is_job result_law law k members job runs counted fits asks is some h st =
    let s = run k.meta h in
    let taking : Taking = record { state = s; job = next_job s (map member_of members) } in
    let reply = ap (λ (step : Step). step.reply) (take_step k s members (runs h) st.represents is some) in
    let made = counted h in
    let number = asks.number in
    let kept_made = st.represents.jobs_made in
    let place : job.number - 1 ≡ length (takings k.meta h) = omega (arith, number, kept_made, made) in
    record {
      taking = taking;
      taken =
          ap (λ (i : ℕ). slice_get (takings k.meta (h ++ Take ∷ [])) i) place
          ∙ ap (λ (ts : List Taking). slice_get ts (length (takings k.meta h)))
          (takings_from-push k.meta opening h Take ∙ ap (λ reply. takings k.meta h ++ taking_of s reply) reply)
          ∙ last_got (takings k.meta h) taking;
      job_is = taken_as k s members job st.represents asks;
      catalog = asks.catalog;
      snapshot = asks.tables ∙ st.represents.tables;
      results = members_result result_law law k s members job (runs h) st.represents fits asks is some;
    }

-- the job that was taken, by a hub that stands for some history
pub took_job : PlannedIsResult → PlansFit → PollersHaveOnePlan → (k : Kept) (members : List Member) (job : Job) →
    ((h : List Event) → IsRun (run k.meta h)) → ((h : List Event) → JobsApart (run k.meta h)) →
    ((h : List Event) → (run k.meta h).jobs_made ≡ length (takings k.meta h)) → rows.Fits k.meta.catalog k.tables →
    AsksFor k members job → members ≡ batch_of k.meta.batch_size k.entries → (members ≡ [] → ⊥) → (h : List Event) →
    StandsFor k h →
    TookJob k (counted (takes members k)) job
took_job result_law fit law k members job runs apart made fits asks is some h st = record {
  does = subst (λ (j : machine.Job). Does k (counted (takes members k)) Take (Taken j) [] [])
      (λ i. record {
        number = sym asks.number i;
        version = sym asks.version i;
        members =
            map member_of (sym asks.members_are i);
      })
      (does_take k members runs apart is some);
  is_job = is_job result_law law k members job runs made fits asks is some;
  fits = job_fits fit law k (run k.meta h) members job (runs h) st.represents is some asks;
}
