-- Worked rows of turns: which versions a subscription is told of, and what.
use Rattle.std.proofs.Common.{◌≡◌, ◌∙◌, ap, append-nil, ℕ, ◌+◌, pos, refl, true, false, Bool, Some, None, Ok, List, [], ◌∷◌, ◌++◌, map, filter, Option, length}
use Rattle.std.specs.Prelude.{codes}
use Rattle.std.specs.Fmt.{digits}
use Rattle.std.specs.List.{flat_map}
use Rattle.json.specs.Print.{escape_byte}
use Rattle.serde_json.specs.Data.{no_members}
use Rattle.scalar_val.specs.declared.val.Kind.{Kind}
use Rattle.scalar_val.specs.declared.val.Kind.TheVariants as kind
use Rattle.scalar_val.specs.declared.val.Val.TheVariants as val
use Rattle.scalar_val.specs.declared.word.Word.TheVariants as word
use Rattle.data_model.specs.declared.catalog.Column.{Column}
use Rattle.data_model.specs.declared.catalog.TableDef.{TableDef}
use Rattle.data_model.specs.declared.transaction.TxChange.{TxChange}
use Rattle.data_model.specs.declared.transaction.TxChange.TheVariants.{Insert, Update}
use Rattle.role_model.specs.declared.metadata.Metadata.{Metadata}
use Rattle.role_model.specs.declared.session.Session.{Session}
use Rattle.request_model.specs.declared.flat.FlatField.{FlatField}
use Rattle.request_model.specs.declared.flat.FlatField.TheViews.{roll-FlatField}
use Rattle.request_model.specs.declared.flat.Flat.{Flat}
use Rattle.request_model.specs.Canonical.{field_text}
use Rattle.request_model.proofs.SelectionRules.{canonical_texts}
use Rattle.plan_model.proofs.Truths.{truths}
use Rattle.query_model.specs.declared.kind.SubKind.TheVariants as sub
use Rattle.query_model.specs.Queries.{Query, text_variables}
use Rattle.query_model.specs.Admission.{admitted}
use Rattle.query_model.proofs.QueryRules.{queries}
use Rattle.machine.specs.Messages.{Init, Subscribe, Complete}
use Rattle.machine.specs.declared.phase.Phase.TheVariants.{Acknowledged}
use Rattle.machine.specs.State.{State, Subscription, Job, Event, Connect, Receive, Gone, Commit, Tick, Take, Publish, Abandon, opening}
use Rattle.machine.specs.Run.{after_all}
use Rattle.machine.specs.Run.{happens}
use Rattle.run_laws.specs.Laws.{Turn, turns_at, turns_from, is_turn_of, texts, versions, told}
use Rattle.run_laws.proofs.Runs.{after_all-append, turns_from-append}

abbrev column : List ℕ → Kind → Bool → Column
column name k nullable = record { name = name; kind = k; nullable = nullable }

abbrev user_table : TableDef
user_table = record {
  name = codes "user";
  columns = column (codes "id") kind.Int false ∷ column (codes "name") kind.Text true ∷ [];
  key = 0 ∷ [];
  unique = [];
  max_rows = 1048576;
}

abbrev users : Metadata
users = record {
  catalog = record { tables = user_table ∷ [] };
  links = [] ∷ [];
  roles = [];
  batch_size = 100;
  refetch_ms = 1000;
  secret = None;
  unauthorized_role = None;
}

abbrev admin : Session
admin = record { role = codes "admin"; vars = [] }

abbrev leaf : List ℕ → FlatField
leaf name = roll-FlatField (record { key = name; name = name; args = []; nested = false; conditions = []; fields = [] })

-- user { id name }
abbrev user_field : FlatField
user_field =
    roll-FlatField (record {
      key = codes "user";
      name = codes "user";
      args = [];
      nested = true;
      conditions = [];
      fields = leaf (codes "id") ∷ leaf (codes "name") ∷ [];
    })

abbrev all_users : Flat
all_users = record { kind = word.Subscription; vars = []; conditions = []; fields = user_field ∷ [] }

abbrev live_users : Query
live_users = record { kind = sub.Live; role = codes "admin"; selection = all_users; variables = []; session = [] }

users_admitted : admitted users admin no_members all_users ≡ Ok (record { query = live_users; cursor = val.Null })
users_admitted = simp queries

users_text : field_text user_field ≡ codes "user:user{id:id name:name}"
users_text = simp canonical_texts

users_variables : text_variables all_users ≡ []
users_variables = simp canonical_texts

abbrev subscribes : List ℕ → Event
subscribes id = Receive 1 (Subscribe id (record { selection = Ok all_users; values = no_members }))

abbrev ann : List TxChange
ann = Insert (codes "user") (record { column = codes "id"; value = val.Big (pos 1) } ∷ record { column = codes "name"; value = val.Text (codes "Ann") } ∷ []) ∷ []

abbrev renames : List ℕ → List TxChange
renames name = Update (codes "user") (record { column = codes "id"; value = val.Big (pos 1) } ∷ []) (record { column = codes "name"; value = val.Text name } ∷ []) ∷ []

abbrev start : List Event
start = Connect 1 ∷ Receive 1 (Init None) ∷ subscribes (codes "a") ∷ []

abbrev polls : ℕ → List Event
polls n = Tick ∷ Take ∷ Publish n ∷ []

-- Runs, one part after another

-- events lead from a state to a state, by these turns
record Turning (from : State) (es : List Event) (to : State) (ts : List Turn) : Type 0 where
  state : after_all users from es ≡ to
  turns : turns_from users from es ≡ ts

infixl 20 ◌then◌
◌then◌ : {from on to : State} {es fs : List Event} {ts us : List Turn} → Turning from es on ts → Turning on fs to us → Turning from (es ++ fs) to (ts ++ us)
◌then◌ {from} {on} {to} {es} {fs} {ts} {us} a b = record {
  state = after_all-append users from es fs ∙ ap (λ (s : State). after_all users s fs) a.state ∙ b.state;
  turns = turns_from-append users from es fs ∙ ap (λ (s : State). turns_from users from es ++ turns_from users s fs) a.state
      ∙ ap (λ (l : List Turn). l ++ turns_from users on fs) a.turns ∙ ap (λ (l : List Turn). ts ++ l) b.turns;
}

-- one event
at_once : {from to : State} {e : Event} {ts : List Turn} → (happens users from e).state ≡ to → turns_at users from e ≡ ts → Turning from (e ∷ []) to ts
at_once {from} {to} {e} {ts} state turns = record { state = state; turns = append-nil (turns_at users from e) ∙ turns }

-- States

abbrev last_of : List ℕ → List ℕ
last_of value = codes "{\"data\":{\"user\":[" ++ value ++ codes "]}}"

-- the first subscription, with its last text
abbrev first : Option (List ℕ) → Subscription
first last = record { number = 1; connection = 1; id = codes "a"; query = live_users; cursor = val.Null; live = true; last = last }

abbrev next : List ℕ → List ℕ
next value = codes "{\"type\":\"next\",\"id\":\"a\",\"payload\":{\"data\":{\"user\":[" ++ value ++ codes "]}}}"

abbrev ann_object : List ℕ
ann_object = codes "{\"id\":1,\"name\":\"Ann\"}"

-- one connection, some subscriptions, and no job
abbrev going : List (List TxChange) → List (List ℕ) → List Subscription → ℕ → State
going transactions queue subscriptions jobs_made =
    record {
      transactions = transactions;
      connections = record { number = 1; phase = Acknowledged admin; queue = codes "{\"type\":\"connection_ack\"}" ∷ queue } ∷ [];
      subscriptions = subscriptions;
      due = [];
      jobs = [];
      jobs_made = jobs_made;
    }

abbrev due : List ℕ → State → State
due numbers s = record s { due = numbers }

abbrev job : ℕ → ℕ → ℕ → Job
job number version member = record { number = number; version = version; members = record { subscription = member; cohort = 1 } ∷ [] }

abbrev with_job : Job → State → State
with_job j s = record s { jobs = j ∷ []; jobs_made = j.number }

abbrev turn : ℕ → Subscription → List (List ℕ) → Turn
turn version sub values = record { version = version; subscription = sub; queued = map (λ value. record { conn = 1; text = next value }) values }

-- Events

ruleset polled = (users_text, users_variables)

started : Turning opening start (going [] [] (first None ∷ []) 0) []
started = opened then asked
  where
    opened : Turning opening (Connect 1 ∷ Receive 1 (Init None) ∷ []) (going [] [] [] 0) []
    opened = record { state = refl; turns = refl }

    asked : Turning (going [] [] [] 0) (subscribes (codes "a") ∷ []) (going [] [] (first None ∷ []) 0) []
    asked = at_once (simp users_admitted) refl

-- a tick and a take of the one live subscription
taken : (transactions : List (List TxChange)) (queue : List (List ℕ)) (last : Option (List ℕ)) (n : ℕ) →
    Turning (going transactions queue (first last ∷ []) n) (Tick ∷ Take ∷ []) (with_job (job (n + 1) (length transactions) 1) (going transactions queue (first last ∷ []) n)) []
taken transactions queue last n = ticks then takes
  where
    ticks : Turning (going transactions queue (first last ∷ []) n) (Tick ∷ []) (due (1 ∷ []) (going transactions queue (first last ∷ []) n)) []
    ticks = at_once (simp polled) refl

    takes : Turning (due (1 ∷ []) (going transactions queue (first last ∷ []) n)) (Take ∷ []) (with_job (job (n + 1) (length transactions) 1) (going transactions queue (first last ∷ []) n)) []
    takes = at_once (simp polled) refl

-- its first result, of no users
told_none : (transactions : List (List TxChange)) → Turning (with_job (job 1 0 1) (going transactions [] (first None ∷ []) 0)) (Publish 1 ∷ []) (going transactions (next [] ∷ []) (first (Some (last_of [])) ∷ []) 1) (turn 0 (first None) ([] ∷ []) ∷ [])
unfolding escape_byte digits
told_none transactions = at_once (simp queries) (simp queries)

-- and then of one
told_ann : Turning (with_job (job 2 1 1) (going (ann ∷ []) (next [] ∷ []) (first (Some (last_of [])) ∷ []) 1)) (Publish 2 ∷ []) (going (ann ∷ []) (next [] ∷ next ann_object ∷ []) (first (Some (last_of ann_object)) ∷ []) 2) (turn 1 (first (Some (last_of []))) (ann_object ∷ []) ∷ [])
unfolding escape_byte digits
told_ann = at_once (simp (queries, truths)) (simp (queries, truths))

abbrev told_by : List Turn → List (List ℕ)
told_by ts = flat_map (λ t. texts t.queued) (filter (is_turn_of 1) ts)

abbrev versions_by : ℕ → List Turn → List ℕ
versions_by number ts = map (λ t. t.version) (filter (is_turn_of number) ts)

-- A change, and a change that is taken back between two polls

abbrev changes : List Event
changes = start ++ polls 1 ++ Commit ann ∷ polls 2 ++ Commit (renames (codes "Bo")) ∷ Commit (renames (codes "Ann")) ∷ polls 3

abbrev three : List (List TxChange)
three = ann ∷ renames (codes "Bo") ∷ renames (codes "Ann") ∷ []

abbrev change_turns : List Turn
change_turns = turn 0 (first None) ([] ∷ []) ∷ turn 1 (first (Some (last_of []))) (ann_object ∷ []) ∷ turn 3 (first (Some (last_of ann_object))) [] ∷ []

changed : Turning opening changes (going three (next [] ∷ next ann_object ∷ []) (first (Some (last_of ann_object)) ∷ []) 3) change_turns
unfolding escape_byte digits
changed =
    started then taken [] [] None 0 then told_none [] then commits
    then taken (ann ∷ []) (next [] ∷ []) (Some (last_of [])) 1 then told_ann then commits_back
    then taken three (next [] ∷ next ann_object ∷ []) (Some (last_of ann_object)) 2 then told_nothing
  where
    commits : Turning (going [] (next [] ∷ []) (first (Some (last_of [])) ∷ []) 1) (Commit ann ∷ []) (going (ann ∷ []) (next [] ∷ []) (first (Some (last_of [])) ∷ []) 1) []
    commits = record { state = refl; turns = refl }

    commits_back : Turning (going (ann ∷ []) (next [] ∷ next ann_object ∷ []) (first (Some (last_of ann_object)) ∷ []) 2) (Commit (renames (codes "Bo")) ∷ Commit (renames (codes "Ann")) ∷ [])
        (going three (next [] ∷ next ann_object ∷ []) (first (Some (last_of ann_object)) ∷ []) 2) []
    commits_back = record { state = refl; turns = refl }

    told_nothing : Turning (with_job (job 3 3 1) (going three (next [] ∷ next ann_object ∷ []) (first (Some (last_of ann_object)) ∷ []) 2)) (Publish 3 ∷ [])
        (going three (next [] ∷ next ann_object ∷ []) (first (Some (last_of ann_object)) ∷ []) 3) (turn 3 (first (Some (last_of ann_object))) [] ∷ [])
    told_nothing = at_once (simp (queries, truths)) (simp (queries, truths))

pub three_versions : versions users changes 1 ≡ 0 ∷ 1 ∷ 3 ∷ []
three_versions = ap (versions_by 1) changed.turns

pub two_texts : told users changes 1 ≡ next [] ∷ next ann_object ∷ []
two_texts = ap told_by changed.turns

-- What is committed after the take is no part of the job's snapshot.

abbrev flight : List Event
flight = start ++ Tick ∷ Take ∷ Commit ann ∷ Publish 1 ∷ polls 2

flown : Turning opening flight (going (ann ∷ []) (next [] ∷ next ann_object ∷ []) (first (Some (last_of ann_object)) ∷ []) 2)
    (turn 0 (first None) ([] ∷ []) ∷ turn 1 (first (Some (last_of []))) (ann_object ∷ []) ∷ [])
flown = started then taken [] [] None 0 then commits then told_none (ann ∷ []) then taken (ann ∷ []) (next [] ∷ []) (Some (last_of [])) 1 then told_ann
  where
    commits : Turning (with_job (job 1 0 1) (going [] [] (first None ∷ []) 0)) (Commit ann ∷ []) (with_job (job 1 0 1) (going (ann ∷ []) [] (first None ∷ []) 0)) []
    commits = record { state = refl; turns = refl }

pub in_flight : versions users flight 1 ≡ 0 ∷ 1 ∷ []
in_flight = ap (versions_by 1) flown.turns

-- Completed and subscribed again in flight: the first subscription has no turn, and the second one of its own.

abbrev again : List Event
again = start ++ Tick ∷ Take ∷ Receive 1 (Complete (codes "a")) ∷ subscribes (codes "a") ∷ Commit ann ∷ Publish 1 ∷ polls 2

abbrev ended : Subscription
ended = record (first None) { live = false }

abbrev second : Option (List ℕ) → Subscription
second last = record (first last) { number = 2 }

subscribed_again : Turning opening again (going (ann ∷ []) (next ann_object ∷ []) (ended ∷ second (Some (last_of ann_object)) ∷ []) 2) (turn 1 (second None) (ann_object ∷ []) ∷ [])
unfolding escape_byte digits
subscribed_again = started then taken [] [] None 0 then completes then subscribes_again then passes then ticks then takes then tells
  where
    completes : Turning (with_job (job 1 0 1) (going [] [] (first None ∷ []) 0)) (Receive 1 (Complete (codes "a")) ∷ []) (with_job (job 1 0 1) (going [] [] (ended ∷ []) 0)) []
    completes = record { state = refl; turns = refl }

    subscribes_again : Turning (with_job (job 1 0 1) (going [] [] (ended ∷ []) 0)) (subscribes (codes "a") ∷ []) (with_job (job 1 0 1) (going [] [] (ended ∷ second None ∷ []) 0)) []
    subscribes_again = at_once (simp users_admitted) refl

    passes : Turning (with_job (job 1 0 1) (going [] [] (ended ∷ second None ∷ []) 0)) (Commit ann ∷ Publish 1 ∷ []) (going (ann ∷ []) [] (ended ∷ second None ∷ []) 1) []
    passes = record { state = refl; turns = refl }

    ticks : Turning (going (ann ∷ []) [] (ended ∷ second None ∷ []) 1) (Tick ∷ []) (due (2 ∷ []) (going (ann ∷ []) [] (ended ∷ second None ∷ []) 1)) []
    ticks = at_once (simp polled) refl

    takes : Turning (due (2 ∷ []) (going (ann ∷ []) [] (ended ∷ second None ∷ []) 1)) (Take ∷ []) (with_job (job 2 1 2) (going (ann ∷ []) [] (ended ∷ second None ∷ []) 1)) []
    takes = at_once (simp polled) refl

    tells : Turning (with_job (job 2 1 2) (going (ann ∷ []) [] (ended ∷ second None ∷ []) 1)) (Publish 2 ∷ []) (going (ann ∷ []) (next ann_object ∷ []) (ended ∷ second (Some (last_of ann_object)) ∷ []) 2) (turn 1 (second None) (ann_object ∷ []) ∷ [])
    tells = at_once (simp (queries, truths)) (simp (queries, truths))

pub first_has_no_turn : versions users again 1 ≡ []
first_has_no_turn = ap (versions_by 1) subscribed_again.turns

pub second_has_its_own : versions users again 2 ≡ 1 ∷ []
second_has_its_own = ap (versions_by 2) subscribed_again.turns

pub second_is_told : told users again 2 ≡ next ann_object ∷ []
second_is_told = ap (λ (ts : List Turn). flat_map (λ t. texts t.queued) (filter (is_turn_of 2) ts)) subscribed_again.turns

-- No turn in an abandoned job, nor after the end of the connection.

abbrev leaving : List Event
leaving = start ++ Tick ∷ Take ∷ Abandon 1 ∷ Publish 1 ∷ Take ∷ Gone 1 ∷ Publish 2 ∷ []

left : Turning opening leaving (record (going [] [] (ended ∷ []) 2) { connections = [] }) []
left = started then taken [] [] None 0 then abandons then takes then goes
  where
    abandons : Turning (with_job (job 1 0 1) (going [] [] (first None ∷ []) 0)) (Abandon 1 ∷ Publish 1 ∷ []) (due (1 ∷ []) (going [] [] (first None ∷ []) 1)) []
    abandons = record { state = refl; turns = refl }

    takes : Turning (due (1 ∷ []) (going [] [] (first None ∷ []) 1)) (Take ∷ []) (with_job (job 2 0 1) (going [] [] (first None ∷ []) 1)) []
    takes = at_once (simp polled) refl

    goes : Turning (with_job (job 2 0 1) (going [] [] (first None ∷ []) 1)) (Gone 1 ∷ Publish 2 ∷ []) (record (going [] [] (ended ∷ []) 2) { connections = [] }) []
    goes = record { state = refl; turns = refl }

pub abandoned : versions users leaving 1 ≡ []
abandoned = ap (versions_by 1) left.turns
