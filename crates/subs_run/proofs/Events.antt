-- What a call of the hub says of a line.
use Rattle.std.proofs.Common.{◌≡◌, ◌≢◌, ◌∙◌, ◌≤◌, ◌+◌, ◌*◌, arith, sym, ap, subst, refl, ℕ, Bool, true, false, if◌then◌else◌, Option, Some, None, Ok, Err, List, [], ◌∷◌, ◌++◌, append-nil, length, map}
use Rattle.std.specs.declared.result.Result.{Result}
use Rattle.std.specs.Prelude.{OnOk}
use Rattle.std.specs.List.{AllByRecursion}
use Rattle.scalar_val.specs.declared.text.NoMemory.{NoMemory}
use Rattle.wire_model.specs.declared.close.CloseReason.{CloseReason}
use Rattle.role_model.specs.declared.metadata.Metadata.{Metadata}
use Rattle.machine.specs.Messages.{Message, Says}
use Rattle.machine.specs.State as machine
use Rattle.machine.specs.State.{State, Event, Connect, Receive, Report, Reply, ConnectionKnown, ConnectionUnknown, Did, Reported, Close, Step, silent}
use Rattle.machine.specs.Run.{happens, run}
use Rattle.machine.specs.Transcript.{Reached, transcript, goes}
use Rattle.machine.specs.Lines as lines
use Rattle.machine.specs.Script.{Reading, Running, LineOutcome, Went, Faulty, AllSay, knows, went, serves, serves_known, opens, said_on}
use Rattle.machine.specs.declared.script.ScriptReason.{ScriptReason}
use Rattle.machine.specs.declared.script.ScriptReason.TheVariants as reason
use Rattle.machine.specs.declared.script.ScriptReason.TheVariants.{Known, Unknown}
use Rattle.machine.specs.declared.counts.Counts.{Counts}
use Rattle.machine.specs.declared.queued.Queued.{Queued}
use Rattle.hub_model.specs.declared.job.Job.{Job}
use Rattle.hub_model.specs.declared.job.OpenJob.{OpenJob}
use Rattle.hub_model.specs.declared.reply.ConnReply.TheVariants as conn
use Rattle.hub_model.specs.declared.reply.Effect.{Effect}
use Rattle.hub_model.specs.Kept.{Kept, Represents, open_job}
use Rattle.hub_model.specs.Jobs.{JobOf}
use Rattle.hub_model.specs.Stands.{StandsFor, Happened, Does}
use Rattle.hub_model.specs.Replies.{ConnAnswers}
use Rattle.hub_model.specs.Replies as replies
use Rattle.hub_model.proofs.Items.{map_mapped}
use Rattle.run_laws.proofs.Histories.{takings_stay}
use Rattle.script_text.specs.Told.{Tells}
use Rattle.script_text.specs.Told as told
use Rattle.subs_run.specs.declared.line_result.LineResult.{LineResult}
use Rattle.subs_run.specs.declared.line_result.LineResult.TheVariants as line_result
use Rattle.subs_run.specs.Events.{IsTaken, has_job, open_numbers, HaveOpen, RunsOn, IsLater, IsBounded, GoesOn, WentOn, HubRan, HubGoesOn, LineRan, Steady, IsWent}
use Rattle.subs_run.proofs.Known.{IsOn, opened_new, opened_known, opened_never, receive_on, known_where, unknown_where, never_where}
use Rattle.subs_run.proofs.Machine.{subs, subs-more, IsQuiet, jobs-same}

-- ---- what could be appended

pub hub_written : (t : LineResult) (written : Result (Unit {0}) NoMemory) (took : LineOutcome) (k k' : Kept)
    (h : List Event) (before after : List ℕ) → IsWent t written →
    (written ≡ Ok tt → HubRan line_result.Went took k k' h before after) → HubRan t took k k' h before after
hub_written line_result.Went written took k k' h before after w f = f w
hub_written (line_result.Faulty r) written took k k' h before after w f = absurd w
hub_written line_result.NoMemory written took k k' h before after w f = tt

pub hub_kept : (t : LineResult) (written : Result (Unit {0}) NoMemory) (k k' : Kept) (h : List Event) →
    IsWent t written → (written ≡ Ok tt → GoesOn k k' h) → HubGoesOn t k k' h
hub_kept line_result.Went written k k' h w f = f w
hub_kept (line_result.Faulty r) written k k' h w f = tt
hub_kept line_result.NoMemory written k k' h w f = tt

pub line_written : (t : LineResult) (written : Result (Unit {0}) NoMemory) (took : LineOutcome) (k k' : Kept)
    (others : List Job) (before after : List ℕ) → IsWent t written →
    (written ≡ Ok tt → LineRan line_result.Went took k k' others before after) →
    LineRan t took k k' others before after
line_written line_result.Went written took k k' others before after w f = f w
line_written (line_result.Faulty r) written took k k' others before after w f = absurd w
line_written line_result.NoMemory written took k k' others before after w f = tt

pub when_ok : (written : Result (Unit {0}) NoMemory) (P : Type 0) → OnOk written P → written ≡ Ok tt → P
when_ok (Ok x) P p e = p
when_ok (Err x) P p e = absurd (cc)

-- ---- what a hub keeps of the machine's state

abbrev pub numbers : List machine.Job → List ℕ
numbers jobs = map (λ (job : machine.Job). job.number) jobs

pub open_are : (k : Kept) (s : State) → Represents k s → open_numbers k ≡ numbers s.jobs
open_are k s r =
    sym (map_mapped (λ (job : machine.Job). job.number) open_job k.jobs)
    ∙ ap (λ (jobs : List machine.Job). numbers jobs) r.jobs

pub state_after : (k k' : Kept) (h : List Event) (e : Event) (reply : Reply) (queued : List Queued)
    (closed : List Close) → k'.meta ≡ k.meta → Happened k k' h e reply queued closed →
    (happens k.meta (run k.meta h) e).state ≡ run k'.meta (h ++ e ∷ [])
state_after k k' h e reply queued closed m hp =
    ap (λ (s : Step). s.state) hp.step ∙ ap (λ (x : Metadata). run x (h ++ e ∷ [])) (sym m)

pub reply_after : (k k' : Kept) (h : List Event) (e : Event) (reply : Reply) (queued : List Queued)
    (closed : List Close) → Happened k k' h e reply queued closed → (happens k.meta (run k.meta h) e).reply ≡ reply
reply_after k k' h e reply queued closed hp = ap (λ (s : Step). s.reply) hp.step

pub told_by : (k k' : Kept) (h : List Event) (e : Event) (reply : Reply) (queued : List Queued) (closed : List Close)
    (before after : List ℕ) → Happened k k' h e reply queued closed → Tells e reply queued closed before after →
    after ≡ before ++ transcript e (happens k.meta (run k.meta h) e)
told_by k k' h e reply queued closed before after hp tells =
    tells (happens k.meta (run k.meta h) e) (ap (λ (s : Step). s.reply) hp.step)
    (ap (λ (s : Step). s.queued) hp.step) (ap (λ (s : Step). s.closed) hp.step)

-- the numbers of open jobs after an event
pub open_after : (k k' : Kept) (h : List Event) (e : Event) (reply : Reply) (queued : List Queued)
    (closed : List Close) → k'.meta ≡ k.meta → Happened k k' h e reply queued closed →
    open_numbers k' ≡ numbers (happens k.meta (run k.meta h) e).state.jobs
open_after k k' h e reply queued closed m hp =
    open_are k' (run k'.meta (h ++ e ∷ [])) hp.stands.represents
    ∙ ap (λ (s : State). numbers s.jobs) (sym (state_after k k' h e reply queued closed m hp))

pub few_after : (k k' : Kept) (h : List Event) (e : Event) (reply : Reply) (queued : List Queued)
    (closed : List Close) → k'.meta ≡ k.meta → StandsFor k h → Happened k k' h e reply queued closed →
    k'.subscribed ≤ k.subscribed + 1
few_after k k' h e reply queued closed m st hp =
    omega (
      arith,
      st.represents.subscribed,
      hp.stands.represents.subscribed,
      ap subs (state_after k k' h e reply queued closed m hp),
      subs-more k.meta (run k.meta h) e,
    )

pub quiet_open : (k k' : Kept) (h : List Event) (e : Event) (reply : Reply) (queued : List Queued)
    (closed : List Close) → k'.meta ≡ k.meta → StandsFor k h → Happened k k' h e reply queued closed → IsQuiet reply →
    open_numbers k' ≡ open_numbers k
quiet_open k k' h e reply queued closed m st hp quiet =
    let same = jobs-same k.meta (run k.meta h) e
    (subst IsQuiet (sym (reply_after k k' h e reply queued closed hp)) quiet) in
    open_after k k' h e reply queued closed m hp
    ∙ (ap (λ (jobs : List machine.Job). numbers jobs) same ∙ sym (open_are k (run k.meta h) st.represents))

pub open_same : (k k' : Kept) (jobs : List Job) → open_numbers k' ≡ open_numbers k → HaveOpen jobs k → HaveOpen jobs k'
open_same k k' jobs e have = subst (λ (ns : List ℕ). AllByRecursion (λ n. has_job jobs n ≡ true) ns) (sym e) have

-- ---- an event that neither opens nor closes a job

pub later_by : (k k' : Kept) (h : List Event) (e : Event) (reply : Reply) (queued : List Queued) (closed : List Close) →
    Does k k' e reply queued closed → StandsFor k h → IsQuiet reply → IsLater k k' h (h ++ e ∷ [])
later_by k k' h e reply queued closed does st quiet =
    let hp : Happened k k' h e reply queued closed = does.happened h st in
    record {
      meta = does.meta;
      stands = hp.stands;
      more = e ∷ [];
      longer = refl;
      was_open = λ jobs have. open_same k k' jobs (quiet_open k k' h e reply queued closed does.meta st hp quiet) have;
    }

bounds_by : (k k' : Kept) (h : List Event) (e : Event) (reply : Reply) (queued : List Queued) (closed : List Close) →
    Does k k' e reply queued closed → StandsFor k h → IsBounded k k'
bounds_by k k' h e reply queued closed does st = record {
  few = few_after k k' h e reply queued closed does.meta st (does.happened h st);
  bounded = omega (arith, does.events);
}

pub served : (k k' : Kept) (h : List Event) (e : Event) (reply : Reply) (queued : List Queued) (closed : List Close)
    (before after : List ℕ) → Does k k' e reply queued closed → StandsFor k h → IsQuiet reply →
    Tells e reply queued closed before after →
    HubRan line_result.Went (serves k.meta (run k.meta h) e) k k' h before after
served k k' h e reply queued closed before after does st quiet tells =
    let hp : Happened k k' h e reply queued closed = does.happened h st in
    record {
      on = record {
        history = h ++ e ∷ [];
        later = later_by k k' h e reply queued closed does st quiet;
        bounds = bounds_by k k' h e reply queued closed does st;
      };
      is = ap (λ (m : Metadata). Running m (happens k.meta (run k.meta h) e).state) (sym does.meta)
          ∙ ap (λ (s : State). Running k'.meta s) (state_after k k' h e reply queued closed does.meta hp);
      appended = told_by k k' h e reply queued closed before after hp tells;
    }

-- a report is no event of the hub's
pub reported : (k : Kept) (h : List Event) (counts : Counts) (before after : List ℕ) →
    happens k.meta (run k.meta h) Report ≡ silent (run k.meta h) (Reported counts) → StandsFor k h →
    Tells Report (Reported counts) [] [] before after →
    HubRan line_result.Went (serves k.meta (run k.meta h) Report) k k h before after
reported k h counts before after is st tells =
    record {
      on = record {
        history = h;
        later = record {
          meta = refl;
          stands = st;
          more = [];
          longer = sym (append-nil h);
          was_open = λ jobs have. have;
        };
        bounds = record { few = omega arith; bounded = omega arith };
      };
      is = ap (λ (t : Step). Running k.meta t.state) is;
      appended = tells (happens k.meta (run k.meta h) Report) (ap (λ (t : Step). t.reply) is)
          (ap (λ (t : Step). t.queued) is) (ap (λ (t : Step). t.closed) is);
    }

-- ---- a connection that opens

pub same_closes : (c : ℕ) (o : Option CloseReason) → told.closes_of c o ≡ replies.closes_of c o
same_closes c (Some r) = refl
same_closes c None = refl

tells_closes : (e : Event) (reply : Reply) (queued : List Queued) (c : ℕ) (o : Option CloseReason)
    (before after : List ℕ) → Tells e reply queued (told.closes_of c o) before after →
    Tells e reply queued (replies.closes_of c o) before after
tells_closes e reply queued c o before after tells =
    subst (λ (cs : List Close). Tells e reply queued cs before after) (same_closes c o) tells

opens_as : (t : LineResult) (k k' : Kept) (h : List Event) (c : ℕ) (before after : List ℕ) (b : Bool) →
    knows (run k.meta h) c ≡ b →
    HubRan t (if b then Faulty Known else serves k.meta (run k.meta h) (Connect c)) k k' h before after →
    HubRan t (opens k.meta (run k.meta h) c) k k' h before after
opens_as t k k' h c before after b e ran =
    subst
    (λ (x : Bool). HubRan t (if x then Faulty Known else serves k.meta (run k.meta h) (Connect c)) k k' h before after)
    (sym e) ran

pub opened : (k k' : Kept) (h : List Event) (c : ℕ) (effect : Effect) (before after : List ℕ) →
    ConnAnswers k k' c (Connect c) (conn.Did effect) → StandsFor k h →
    Tells (Connect c) Did effect.queued (told.closes_of c effect.closed) before after →
    HubRan line_result.Went (opens k.meta (run k.meta h) c) k k' h before after
opened k k' h c effect before after does st tells =
    let closed = replies.closes_of c effect.closed in
    opens_as line_result.Went k k' h c before after false
    (opened_new k.meta (run k.meta h) c
    (reply_after k k' h (Connect c) Did effect.queued closed (does.happened h st)))
    (served k k' h (Connect c) Did effect.queued closed before after does st tt
    (tells_closes (Connect c) Did effect.queued c effect.closed before after tells))

pub open_known : (k k' : Kept) (h : List Event) (c : ℕ) (before after : List ℕ) →
    ConnAnswers k k' c (Connect c) conn.ConnKnown → StandsFor k h →
    HubRan (line_result.Faulty reason.Known) (opens k.meta (run k.meta h) c) k k' h before after
open_known k k' h c before after does st =
    opens_as (line_result.Faulty reason.Known) k k' h c before after true
    (opened_known k.meta (run k.meta h) c
    (reply_after k k' h (Connect c) ConnectionKnown [] [] (does.happened h st)))
    refl

pub open_never : (k k' : Kept) (h : List Event) (c : ℕ) → ConnAnswers k k' c (Connect c) conn.ConnUnknown →
    StandsFor k h → ⊥
open_never k k' h c does st =
    opened_never k.meta (run k.meta h) c
    (reply_after k k' h (Connect c) ConnectionUnknown [] [] (does.happened h st))

-- ---- an event on a connection that must be known

serves_as : (t : LineResult) (k k' : Kept) (h : List Event) (c : ℕ) (e : Event) (before after : List ℕ) (b : Bool) →
    knows (run k.meta h) c ≡ b →
    HubRan t (if b then serves k.meta (run k.meta h) e else Faulty Unknown) k k' h before after →
    HubRan t (serves_known k.meta (run k.meta h) c e) k k' h before after
serves_as t k k' h c e before after b is ran =
    subst
    (λ (x : Bool). HubRan t (if x then serves k.meta (run k.meta h) e else Faulty Unknown) k k' h before after)
    (sym is) ran

pub served_known : (k k' : Kept) (h : List Event) (c : ℕ) (e : Event) (reply : Reply) (queued : List Queued)
    (closed : List Close) (before after : List ℕ) → IsOn k.meta (run k.meta h) c e → reply ≢ ConnectionUnknown →
    IsQuiet reply → Does k k' e reply queued closed → StandsFor k h → Tells e reply queued closed before after →
    HubRan line_result.Went (serves_known k.meta (run k.meta h) c e) k k' h before after
served_known k k' h c e reply queued closed before after on ne quiet does st tells =
    serves_as line_result.Went k k' h c e before after true
    (known_where k.meta (run k.meta h) c e on reply ne
    (reply_after k k' h e reply queued closed (does.happened h st)))
    (served k k' h e reply queued closed before after does st quiet tells)

did_known : Did ≢ ConnectionUnknown
did_known e = cc

pub conn_did : (k k' : Kept) (h : List Event) (c : ℕ) (e : Event) (effect : Effect) (before after : List ℕ) →
    IsOn k.meta (run k.meta h) c e → ConnAnswers k k' c e (conn.Did effect) → StandsFor k h →
    Tells e Did effect.queued (told.closes_of c effect.closed) before after →
    HubRan line_result.Went (serves_known k.meta (run k.meta h) c e) k k' h before after
conn_did k k' h c e effect before after on does st tells =
    served_known k k' h c e Did effect.queued (replies.closes_of c effect.closed) before after on did_known tt does st
    (tells_closes e Did effect.queued c effect.closed before after tells)

pub not_known : (k k' : Kept) (h : List Event) (c : ℕ) (e : Event) (before after : List ℕ) →
    IsOn k.meta (run k.meta h) c e → Does k k' e ConnectionUnknown [] [] → StandsFor k h →
    HubRan (line_result.Faulty reason.Unknown) (serves_known k.meta (run k.meta h) c e) k k' h before after
not_known k k' h c e before after on does st =
    serves_as (line_result.Faulty reason.Unknown) k k' h c e before after false
    (unknown_where k.meta (run k.meta h) c e on
    (reply_after k k' h e ConnectionUnknown [] [] (does.happened h st)))
    refl

pub conn_never : (k k' : Kept) (h : List Event) (c : ℕ) (e : Event) → IsOn k.meta (run k.meta h) c e →
    ConnAnswers k k' c e conn.ConnKnown → StandsFor k h → ⊥
conn_never k k' h c e on does st =
    never_where k.meta (run k.meta h) c e on
    (reply_after k k' h e ConnectionKnown [] [] (does.happened h st))

-- ---- a text on a connection

-- what the hub answers to a text, whatever it says
pub record Answered (k k' : Kept) (c : ℕ) (text : List ℕ) (effect : Effect) : Type 0 where
  pub each : (message : Message) → Says text message → ConnAnswers k k' c (Receive c message) (conn.Did effect)
  pub message : Message
  pub some : ConnAnswers k k' c (Receive c message) (conn.Did effect)

own_says : (meant : List ℕ → Message) (s : State) (c : ℕ) (text : List ℕ) → knows s c ≡ true →
    AllSay meant (said_on s (Some (lines.Receive c text))) → Says text (meant text)
own_says meant s c text e says =
    let one : AllSay meant (text ∷ []) =
    subst (λ (b : Bool). AllSay meant (if b then text ∷ [] else [])) e says in
    one.0

pub received : (meant : List ℕ → Message) (k k' : Kept) (h : List Event) (c : ℕ) (text : List ℕ) (effect : Effect)
    (before after : List ℕ) → Answered k k' c text effect → StandsFor k h →
    AllSay meant (said_on (run k.meta h) (Some (lines.Receive c text))) →
    ((message : Message) → Tells (Receive c message) Did effect.queued (told.closes_of c effect.closed) before after) →
    HubRan line_result.Went (serves_known k.meta (run k.meta h) c (Receive c (meant text))) k k' h before after
received meant k k' h c text effect before after a st says tells =
    let s : State = run k.meta h in
    let closed = replies.closes_of c effect.closed in
    let known : knows s c ≡ true =
    known_where k.meta s c (Receive c a.message) (receive_on k.meta s c a.message) Did did_known
    (reply_after k k' h (Receive c a.message) Did effect.queued closed (a.some.happened h st)) in
    let m : Message = meant text in
    conn_did k k' h c (Receive c m) effect before after (receive_on k.meta s c m)
    (a.each m (own_says meant s c text known says)) st (tells m)

pub received_on : (k k' : Kept) (h : List Event) (c : ℕ) (text : List ℕ) (effect : Effect) →
    Answered k k' c text effect → StandsFor k h → GoesOn k k' h
received_on k k' h c text effect a st =
    let e : Event = Receive c a.message in
    let closed = replies.closes_of c effect.closed in
    record {
      history = h ++ e ∷ [];
      later = later_by k k' h e Did effect.queued closed a.some st tt;
      bounds = bounds_by k k' h e Did effect.queued closed a.some st;
    }

pub recv_never : (k k' : Kept) (h : List Event) (c : ℕ) (message : Message) →
    ConnAnswers k k' c (Receive c message) conn.ConnKnown → StandsFor k h → ⊥
recv_never k k' h c message does st =
    conn_never k k' h c (Receive c message) (receive_on k.meta (run k.meta h) c message) does st

-- whether the connection is known doesn't rest on the message
pub not_received : (k k' : Kept) (h : List Event) (c : ℕ) (message other : Message) (before after : List ℕ) →
    ConnAnswers k k' c (Receive c message) conn.ConnUnknown → StandsFor k h →
    HubRan (line_result.Faulty reason.Unknown)
    (serves_known k.meta (run k.meta h) c (Receive c other)) k k' h before after
not_received k k' h c message other before after does st =
    serves_as (line_result.Faulty reason.Unknown) k k' h c (Receive c other) before after false
    (unknown_where k.meta (run k.meta h) c (Receive c message) (receive_on k.meta (run k.meta h) c message)
    (reply_after k k' h (Receive c message) ConnectionUnknown [] [] (does.happened h st)))
    refl

-- ---- what a script took stays taken

pub job_longer : (meta : Metadata) (job : Job) (h more : List Event) → JobOf meta job h → JobOf meta job (h ++ more)
job_longer meta job h more j = record {
  taking = j.taking;
  taken = takings_stay meta h more _ j.taking j.taken;
  job_is = j.job_is;
  catalog = j.catalog;
  snapshot = j.snapshot;
  results = j.results;
}

taken_longer : (meta : Metadata) (h more : List Event) (jobs : List Job) → AllByRecursion (IsTaken meta h) jobs →
    AllByRecursion (IsTaken meta (h ++ more)) jobs
taken_longer meta h more [] all = tt
taken_longer meta h more (job ∷ jobs) all = (
  record { is_job = job_longer meta job h more all.0.is_job; fits = all.0.fits },
  taken_longer meta h more jobs all.1,
)

pub taken_later : (k k' : Kept) (h h' : List Event) (jobs : List Job) → k'.meta ≡ k.meta →
    (more : List Event) → h' ≡ h ++ more → AllByRecursion (IsTaken k.meta h) jobs →
    AllByRecursion (IsTaken k'.meta h') jobs
taken_later k k' h h' jobs m more longer all =
    subst (λ (x : Metadata). AllByRecursion (IsTaken x h') jobs) (sym m)
    (subst (λ (g : List Event). AllByRecursion (IsTaken k.meta g) jobs) (sym longer)
    (taken_longer k.meta h more jobs all))

pub runs_later : (k k' : Kept) (jobs : List Job) (h : List Event) → RunsOn k jobs h → (g : GoesOn k k' h) →
    RunsOn k' jobs g.history
runs_later k k' jobs h r g = record {
  stands = g.later.stands;
  taken = taken_later k k' h g.history jobs g.later.meta g.later.more g.later.longer r.taken;
  has_open = g.later.was_open jobs r.has_open;
}

-- ---- lines

pub line_ran : (t : LineResult) (took : LineOutcome) (k k' : Kept) (jobs : List Job) (h : List Event)
    (before after : List ℕ) → RunsOn k jobs h → HubRan t took k k' h before after →
    LineRan t took k k' jobs before after
line_ran line_result.Went (Went reading text) k k' jobs h before after r ran = record {
  history = ran.on.history;
  runs = runs_later k k' jobs h r ran.on;
  is = ran.is;
  appended = ran.appended;
  bounds = ran.on.bounds;
}
line_ran line_result.Went (Faulty other) k k' jobs h before after r ran = ran
line_ran (line_result.Faulty reason) (Went reading text) k k' jobs h before after r ran = ran
line_ran (line_result.Faulty reason) (Faulty other) k k' jobs h before after r ran = ran
line_ran line_result.NoMemory took k k' jobs h before after r ran = tt

pub line_steady : (t : LineResult) (took : LineOutcome) (k k' : Kept) (jobs : List Job) (before after : List ℕ) →
    LineRan t took k k' jobs before after → Steady t k k' jobs
line_steady line_result.Went (Went reading text) k k' jobs before after ran = (ran.bounds, (ran.history, ran.runs))
line_steady line_result.Went (Faulty other) k k' jobs before after ran = absurd ran
line_steady (line_result.Faulty reason) took k k' jobs before after ran = tt
line_steady line_result.NoMemory took k k' jobs before after ran = tt

pub hub_steady : (t : LineResult) (k k' : Kept) (jobs : List Job) (h : List Event) → RunsOn k jobs h →
    HubGoesOn t k k' h → Steady t k k' jobs
hub_steady line_result.Went k k' jobs h r g = (g.bounds, (g.history, runs_later k k' jobs h r g))
hub_steady (line_result.Faulty reason) k k' jobs h r g = tt
hub_steady line_result.NoMemory k k' jobs h r g = tt

-- a line that is passed over
pub passed : (k : Kept) (jobs : List Job) (h : List Event) (before : List ℕ) → RunsOn k jobs h →
    LineRan line_result.Went (Went (Running k.meta (run k.meta h)) []) k k jobs before before
passed k jobs h before r = record {
  history = h;
  runs = r;
  is = refl;
  appended = sym (append-nil before);
  bounds = record { few = omega arith; bounded = omega arith };
}

-- where a line went as the rules say after each history, it leaves such a hub
pub steady_by : (t : LineResult) (took : State → LineOutcome) (k k' : Kept) (jobs : List Job) (before after : List ℕ) →
    (h : List Event) → RunsOn k jobs h → HubRan t (took (run k.meta h)) k k' h before after → Steady t k k' jobs
steady_by t took k k' jobs before after h r ran =
    line_steady t (took (run k.meta h)) k k' jobs before after
    (line_ran t (took (run k.meta h)) k k' jobs h before after r ran)
