-- Each `next` text of a run is queued at a turn.
use Rattle.std.proofs.Common.{◌≡◌, ◌∙◌, sym, ap, refl, ℕ, Bool, true, false, if◌then◌else◌, Some, None, Option, List, [], ◌∷◌, ◌++◌, append-nil}
use Rattle.std.specs.List.{flat_map}
use Rattle.std.proofs.lemmas.List.Elements.{filter-append}
use Rattle.std.proofs.lemmas.Grind.{flat_map-append}
use Rattle.data_model.specs.Rows.{Database}
use Rattle.role_model.specs.declared.metadata.Metadata.{Metadata}
use Rattle.query_model.specs.Results.{result}
use Rattle.machine.specs.State.{State, Subscription, Member, Job, Event, Publish, Effect, Step, nothing, opening}
use Rattle.machine.specs.Batches.{subscription_at, job_at}
use Rattle.machine.specs.Publication.{publish_kind, publish_member, publish_members, publish, database_of}
use Rattle.machine.specs.Run.{happens, steps_from}
use Rattle.machine.specs.declared.queued.Queued.{Queued}
use Rattle.run_laws.proofs.Cases.{IsOther, by_cases}
use Rattle.run_laws.specs.Laws.{Turn, turn_of, turns_in, turns_of_job, turns_at, turns_from, nexts, is_next, ResultsAreOfTurns}

-- what turns queue
abbrev pub queued_at : List Turn → List Queued
queued_at ts = flat_map (λ t. t.queued) ts

-- A publication

one_turn : (version : ℕ) (sub : Subscription) (s : State) (e : Effect) (live : Bool) →
    (if live then e else nothing s).queued ≡ queued_at (if live then record { version = version; subscription = sub; queued = (if live then e else nothing s).queued } ∷ [] else [])
one_turn version sub s e true = sym (append-nil e.queued)
one_turn version sub s e false = refl

member_turn : (meta : Metadata) (db : Database) (version : ℕ) (s : State) (o : Option Subscription) → (publish_member meta db s o).queued ≡ queued_at (turn_of meta db version s o)
member_turn meta db version s (Some sub) = one_turn version sub s (publish_kind sub.query.kind sub (result meta sub.query sub.cursor db) s) sub.live
member_turn meta db version s None = refl

members_turns : (meta : Metadata) (db : Database) (version : ℕ) (ms : List Member) (s : State) → (publish_members meta db ms s).queued ≡ queued_at (turns_in meta db version ms s)
members_turns meta db version [] s = refl
members_turns meta db version (m ∷ ms) s =
    let sub = subscription_at m.subscription s.subscriptions in
    let after = (publish_member meta db s sub).state in
    ap (λ (qs : List Queued). qs ++ (publish_members meta db ms after).queued) (member_turn meta db version s sub)
    ∙ ap (λ (qs : List Queued). queued_at (turn_of meta db version s sub) ++ qs) (members_turns meta db version ms after)
    ∙ sym (flat_map-append (λ (t : Turn). t.queued) (turn_of meta db version s sub) (turns_in meta db version ms after))

job_turns : (meta : Metadata) (number : ℕ) (s : State) (o : Option Job) → (publish meta number s o).queued ≡ queued_at (turns_of_job meta s o)
job_turns meta number s (Some job) = members_turns meta (database_of meta s job) job.version job.members s
job_turns meta number s None = refl

-- The other events

other_silent : (meta : Metadata) (s : State) (e : Event) → IsOther e → nexts (happens meta s e).queued ≡ []
other_silent meta s e other =
    by_cases meta s e (λ t. nexts t.queued ≡ [])
    (record {
      still = λ reply none. refl;
      opens = λ number new. refl;
      closes = λ number reason. refl;
      acknowledges = λ number session. refl;
      pongs = λ number. refl;
      refuses = λ number id fault. refl;
      joins = λ number id a j. refl;
      completes = λ number id. refl;
      goes = λ number. refl;
      commits = λ tx db e. refl;
      ticks = refl;
      takes = λ first e. refl;
      abandons = λ number job at. refl;
      drains = λ number rest text. refl;
    }) other

event_turns : (meta : Metadata) (s : State) (e : Event) → nexts (happens meta s e).queued ≡ nexts (queued_at (turns_at meta s e))
event_turns meta s (Publish job) = ap (λ (qs : List Queued). nexts qs) (job_turns meta job s (job_at job s.jobs))
event_turns meta s e = other_silent meta s e tt

-- Whole runs

abbrev queued_by : List Step → List Queued
queued_by ss = flat_map (λ t. t.queued) ss

run_turns : (meta : Metadata) (s : State) (h : List Event) → nexts (queued_by (steps_from meta s h)) ≡ nexts (queued_at (turns_from meta s h))
run_turns meta s [] = refl
run_turns meta s (e ∷ h) =
    let after = (happens meta s e).state in
    filter-append (λ (q : Queued). is_next q.text) (happens meta s e).queued (queued_by (steps_from meta after h))
    ∙ ap (λ (qs : List Queued). qs ++ nexts (queued_by (steps_from meta after h))) (event_turns meta s e)
    ∙ ap (λ (qs : List Queued). nexts (queued_at (turns_at meta s e)) ++ qs) (run_turns meta after h)
    ∙ sym (filter-append (λ (q : Queued). is_next q.text) (queued_at (turns_at meta s e)) (queued_at (turns_from meta after h)))
    ∙ ap (λ (qs : List Queued). nexts qs) (sym (flat_map-append (λ (t : Turn). t.queued) (turns_at meta s e) (turns_from meta after h)))

pub results_are_of_turns : (meta : Metadata) → ResultsAreOfTurns meta
results_are_of_turns meta h = run_turns meta opening h
