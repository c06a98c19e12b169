-- Metadata, selections and events of the worked runs.
use Rattle.std.proofs.Common.{
  ◌≡◌,
  ◌∙◌,
  ap,
  sym,
  append_assoc,
  ℕ,
  suc,
  Bool,
  List,
  [],
  ◌∷◌,
  ◌++◌,
  Option,
  Some,
  None,
  Ok,
  true,
  false,
  map,
  refl,
}
use Rattle.std.specs.Prelude.{codes, decimal, length, find, filter, take, ◌&&◌}
use Rattle.serde_json.specs.Data.{no_members}
use Rattle.scalar_val.specs.declared.val.Kind.{Kind}
use Rattle.scalar_val.specs.declared.val.Kind.TheVariants as kind
use Rattle.scalar_val.specs.declared.val.Val.{Val}
use Rattle.scalar_val.specs.declared.word.Word.TheVariants as word
use Rattle.data_model.specs.declared.catalog.Column.{Column}
use Rattle.data_model.specs.declared.catalog.TableDef.{TableDef}
use Rattle.data_model.specs.declared.transaction.TxCell.{TxCell}
use Rattle.data_model.specs.declared.transaction.TxChange.{TxChange}
use Rattle.data_model.specs.Rows.{Database}
use Rattle.role_model.specs.declared.metadata.LinkDef.{LinkDef}
use Rattle.role_model.specs.declared.metadata.Metadata.{Metadata}
use Rattle.role_model.specs.declared.metadata.RoleDef.{RoleDef}
use Rattle.role_model.specs.declared.session.Session.{Session}
use Rattle.request_model.specs.declared.document.GValue.{GValue}
use Rattle.request_model.specs.declared.document.GPair.{GPair, roll-GPair}
use Rattle.request_model.specs.declared.document.VarDef.{VarDef}
use Rattle.request_model.specs.declared.flat.FlatField.{FlatField}
use Rattle.request_model.specs.declared.flat.FlatField.TheViews.{roll-FlatField}
use Rattle.request_model.specs.declared.flat.Flat.{Flat}
use Rattle.request_model.specs.Strings.{Text}
use Rattle.query_model.specs.declared.kind.SubKind.TheVariants as sub
use Rattle.query_model.specs.Queries.{Query}
use Rattle.query_model.specs.Selecting.{Asked}
use Rattle.machine.specs.Messages.{Init, Subscribe}
use Rattle.machine.specs.State.{
  State,
  Connection,
  Acknowledged,
  Subscription,
  Member,
  Job,
  Step,
  Effect,
  Published,
  with_reply,
  Event,
  Receive,
  Tick,
  Take,
  Publish,
}
use Rattle.machine.specs.Run.{happens}
use Rattle.machine.specs.declared.queued.Queued.{Queued}
use Rattle.machine.specs.Batches.{
  job_at,
  is_due,
  are_polled_together,
  first_of_each,
  members_of,
  taken_with,
  take_from,
  next_job,
}
use Rattle.machine.specs.Publication.{database_of, publish_members, close_job, publish}
use Rattle.machine.specs.Transcript.{transcript, poll, publish_due, Reached, goes, goes_on}

-- ---- metadata

abbrev pub column : Text → Kind → Bool → Column
column name k nullable = record { name = name; kind = k; nullable = nullable }

abbrev pub table : Text → List Column → TableDef
table name columns = record { name = name; columns = columns; key = 0 ∷ []; unique = []; max_rows = 1048576 }

abbrev pub metadata : List TableDef → List (List LinkDef) → List RoleDef → Metadata
metadata tables links roles =
    record {
      catalog = record { tables = tables };
      links = links;
      roles = roles;
      batch_size = 100;
      refetch_ms = 1000;
      secret = None;
      unauthorized_role = None;
    }

abbrev pub user_table : TableDef
user_table = table (codes "user") (column (codes "id") kind.Int false ∷ column (codes "name") kind.Text true ∷ [])

-- users alone
abbrev pub users : Metadata
users = metadata (user_table ∷ []) ([] ∷ []) []

abbrev pub admin : Session
admin = record { role = codes "admin"; vars = [] }

-- ---- selections

abbrev pub pair : Text → GValue → GPair
pair name x = roll-GPair (record { name = name; value = x })

abbrev pub leaf : Text → FlatField
leaf name = roll-FlatField (record { key = name; name = name; args = []; nested = false; conditions = []; fields = [] })

abbrev pub node : Text → List GPair → List FlatField → FlatField
node name args fields =
    roll-FlatField (record { key = name; name = name; args = args; nested = true; conditions = []; fields = fields })

abbrev pub subscription : List VarDef → FlatField → Flat
subscription vars f = record { kind = word.Subscription; vars = vars; conditions = []; fields = f ∷ [] }

-- user { id name }
abbrev pub user_field : FlatField
user_field = node (codes "user") [] (leaf (codes "id") ∷ leaf (codes "name") ∷ [])

-- subscription { user { id name } }
abbrev pub all_users : Flat
all_users = subscription [] user_field

abbrev pub live : Flat → Query
live s = record { kind = sub.Live; role = codes "admin"; selection = s; variables = []; session = [] }

-- ---- events

abbrev pub asks : Flat → Asked
asks s = record { selection = Ok s; values = no_members }

abbrev pub init : ℕ → Event
init c = Receive c (Init None)

abbrev pub subscribes : ℕ → Text → Flat → Event
subscribes c id s = Receive c (Subscribe id (asks s))

abbrev pub polls : ℕ → List Event
polls n = Tick ∷ Take ∷ Publish n ∷ []

abbrev pub cell : Text → Val → TxCell
cell column value = record { column = column; value = value }

-- ---- runs

-- where events lead from a state, and their transcripts, one after another
abbrev pub led : Metadata → State → List Event → Reached
led meta s [] = record { state = s; text = [] }
led meta s (e ∷ es) = goes_on (goes e (happens meta s e)) (λ t. led meta t es)

-- events lead from a state to a state, and this is their transcript
pub record Leads (meta : Metadata) (from : State) (es : List Event) (to : State) (text : Text) : Type 0 where
  pub is : led meta from es ≡ record { state = to; text = text }

in_turn : (a : Reached) (f g h : State → Reached) → h a.state ≡ goes_on (f a.state) g →
    goes_on a h ≡ goes_on (goes_on a f) g
in_turn a f g h is =
    ap (λ (r : Reached). record { state = r.state; text = a.text ++ r.text }) is
    ∙ ap (λ (t : Text). record { state = (g (f a.state).state).state; text = t })
    (sym (append_assoc a.text (f a.state).text (g (f a.state).state).text))

led_on : (meta : Metadata) (s : State) (es fs : List Event) →
    led meta s (es ++ fs) ≡ goes_on (led meta s es) (λ t. led meta t fs)
led_on meta s [] fs = refl
led_on meta s (e ∷ es) fs =
    in_turn (goes e (happens meta s e)) (λ t. led meta t es) (λ t. led meta t fs) (λ t. led meta t (es ++ fs))
    (led_on meta (happens meta s e).state es fs)

infixl 20 ◌then◌
-- one after another
pub ◌then◌ : {meta : Metadata} {from on to : State} {es fs : List Event} {text more : Text} →
    Leads meta from es on text → Leads meta on fs to more → Leads meta from (es ++ fs) to (text ++ more)
◌then◌ {meta} {from} {on} {to} {es} {fs} {text} {more} first second = record {
  is = led_on meta from es fs ∙ ap (λ (r : Reached). goes_on r (λ t. led meta t fs)) first.is
      ∙ ap (λ (r : Reached). record { state = r.state; text = text ++ r.text }) second.is;
}

-- one event
pub leads : {meta : Metadata} {from : State} {e : Event} {step : Step} → happens meta from e ≡ step →
    Leads meta from (e ∷ []) step.state (transcript e step ++ [])
leads {meta} {from} {e} {step} is = record { is = ap (λ (x : Step). goes_on (goes e x) (λ t. led meta t [])) is }

-- a publication, by what is told on the job's database
pub publishes : (meta : Metadata) (s : State) (n : ℕ) (j : Job) (db : Database) (e : Effect) →
    job_at n s.jobs ≡ Some j → database_of meta s j ≡ db → publish_members meta db j.members s ≡ e →
    happens meta s (Publish n) ≡ with_reply (Published j.version) (close_job n e)
publishes meta s n j db e there same told =
    ap (λ (x : Option Job). publish meta n s x) there
    ∙ ap (λ (d : Database). with_reply (Published j.version) (close_job n (publish_members meta d j.members s))) same
    ∙ ap (λ (x : Effect). with_reply (Published j.version) (close_job n x)) told

-- a take, by the first subscription that is due, those of its poller that are, the first ones of their cohorts, and the
-- members of as many of these as the batch has room for
pub takes : (meta : Metadata) (s : State) (first : Subscription) (due cohorts : List Subscription)
    (members : List Member) →
    find (is_due s.due) s.subscriptions ≡ Some first →
    filter (λ sub. is_due s.due sub && are_polled_together first sub) s.subscriptions ≡ due →
    first_of_each [] due ≡ cohorts → members_of (take meta.batch_size cohorts) s.subscriptions ≡ members →
    happens meta s Take ≡ taken_with s (next_job s members)
takes meta s first due cohorts members least polled each joined =
    ap (λ (x : Option Subscription). take_from meta s x) least
    ∙ ap (λ (x : List Subscription). cut_to (first_of_each [] x)) polled
    ∙ ap (λ (x : List Subscription). cut_to x) each
    ∙ ap (λ (x : List Member). taken_with s (next_job s x)) joined
  where
    cut_to : List Subscription → Step
    cut_to x = taken_with s (next_job s (members_of (take meta.batch_size x) s.subscriptions))

-- ---- polls, by their events

pub poll_by : (meta : Metadata) (s : State) (tick : Step) (more : Reached) → happens meta s Tick ≡ tick →
    publish_due meta (length tick.state.due) tick.state tick.state.due ≡ more →
    poll meta s ≡ goes_on (goes Tick tick) (λ t. more)
poll_by meta s tick more ticks goes_so =
    ap (λ (x : Step). goes_on (goes Tick x) (λ t. publish_due meta (length t.due) t t.due)) ticks
    ∙ ap (λ (r : Reached). goes_on (goes Tick tick) (λ t. r)) goes_so

pub due_by : (meta : Metadata) (n d : ℕ) (ds : List ℕ) (s : State) (taken told : Step) (more : Reached) →
    happens meta s Take ≡ taken → happens meta taken.state (Publish taken.state.jobs_made) ≡ told →
    publish_due meta n told.state told.state.due ≡ more →
    publish_due meta (suc n) s (d ∷ ds)
    ≡ goes_on (goes_on (goes Take taken) (λ t. goes (Publish taken.state.jobs_made) told)) (λ t. more)
due_by meta n d ds s taken told more is_taken is_told goes_so =
    ap (λ (x : Step). goes_on (published x) (λ t. publish_due meta n t t.due)) is_taken
    ∙ ap (λ (x : Step). goes_on (goes_on (goes Take taken) (λ t. goes (Publish taken.state.jobs_made) x))
    (λ t. publish_due meta n t t.due)) is_told
    ∙ ap (λ (r : Reached). goes_on (goes_on (goes Take taken) (λ t. goes (Publish taken.state.jobs_made) told))
    (λ t. r)) goes_so
  where
    published : Step → Reached
    published x = goes_on (goes Take x) (λ t. goes (Publish t.jobs_made) (happens meta t (Publish t.jobs_made)))

-- ---- states

-- a connection that is acknowledged for the administrator
abbrev pub connection : ℕ → List Text → Connection
connection c queue = record { number = c; phase = Acknowledged admin; queue = queue }

-- a live subscription that was told nothing
abbrev pub subscribed : ℕ → ℕ → Text → Query → Val → Subscription
subscribed number c id query cursor =
    record { number = number; connection = c; id = id; query = query; cursor = cursor; live = true; last = None }

abbrev pub ended : Subscription → Subscription
ended sub = record sub { live = false }

-- its last result had this text
abbrev pub last_told : Text → Subscription → Subscription
last_told text sub = record sub { last = Some text }

-- nobody is due and no job is open
abbrev pub at_rest : List (List TxChange) → List Connection → List Subscription → ℕ → State
at_rest transactions connections subscriptions jobs_made =
    record {
      transactions = transactions;
      connections = connections;
      subscriptions = subscriptions;
      due = [];
      jobs = [];
      jobs_made = jobs_made;
    }

-- members of one cohort
abbrev pub job : ℕ → ℕ → List ℕ → Job
job number version members = record {
  number = number;
  version = version;
  members = map (λ n. record { subscription = n; cohort = 1 }) members;
}

-- ---- texts

abbrev pub to : ℕ → Text → Queued
to c text = record { conn = c; text = text }

abbrev pub ack : Text
ack = codes "{\"type\":\"connection_ack\"}"

abbrev pub next : Text → Text → Text
next id value = codes "{\"type\":\"next\",\"id\":\"" ++ id ++ codes "\",\"payload\":{\"data\":" ++ value ++ codes "}}"

-- the line that tells of a queued text
abbrev pub says : ℕ → Text → Text
says c text = codes "> " ++ decimal c ++ codes " " ++ text ++ codes "\n"
