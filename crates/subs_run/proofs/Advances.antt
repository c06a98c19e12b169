-- What a line does to the progress of a script.
use Rattle.std.proofs.Common.{◌≡◌, ◌∙◌, ◌≤◌, ◌<◌, ◌+◌, ◌*◌, ◌^◌, arith, sym, ap, subst, refl, ℕ, Bool, true, if◌then◌else◌, Result, Ok, Err, List, [], ◌∷◌, ◌++◌, length, append-nil}
use Rattle.std.specs.Prelude.{codes}
use Rattle.std.specs.Str.{bytes_eq}
use Rattle.std.specs.List.{AllByRecursion}
use Rattle.role_model.specs.declared.metadata.Metadata.{Metadata}
use Rattle.role_model.specs.declared.metadata.MetaFault.{MetaFault}
use Rattle.role_model.specs.MetadataMeaning.{metadata_of}
use Rattle.machine.specs.Messages.{Message}
use Rattle.machine.specs.State.{Event, opening}
use Rattle.machine.specs.Run.{run}
use Rattle.machine.specs.Lines.{read_line}
use Rattle.machine.specs.Script.{Reading, Heading, Running, LineOutcome, Went, Faulty, AllSay, begin, act, said_on, said_by, take_line, limit}
use Rattle.machine.specs.declared.script.ScriptReason.TheVariants as reason
use Rattle.hub_model.specs.declared.job.Job.{Job}
use Rattle.hub_model.specs.Kept.{Kept}
use Rattle.subs_run.specs.declared.line_result.LineResult.{LineResult}
use Rattle.subs_run.specs.declared.line_result.LineResult.TheVariants as line_result
use Rattle.subs_run.specs.declared.progress.Progress.{Progress}
use Rattle.subs_run.specs.declared.progress.Progress.TheVariants as progress
use Rattle.subs_run.specs.declared.runner.Runner.{Runner}
use Rattle.subs_run.specs.Events.{has_job, RunsOn, LineRan, Steady}
use Rattle.subs_run.specs.Progress.{IsFew, IsRunning, StandsAt, HasStand, Advances, IsNew, Begins, OnWent}
use Rattle.subs_run.proofs.Events.{open_are}

advances_by : (t : LineResult) (took : LineOutcome) (runner after : Runner) (before now : List ℕ) →
    LineRan t took runner.hub after.hub after.jobs.items before now → Advances t took
    (progress.Running after) before now
advances_by line_result.Went (Went reading text) runner after before now ran =
    (record { history = ran.history; runs = ran.runs; is = ran.is }, ran.appended)
advances_by line_result.Went (Faulty other) runner after before now ran = ran
advances_by (line_result.Faulty r) (Went reading text) runner after before now ran = ran
advances_by (line_result.Faulty r) (Faulty other) runner after before now ran = ran
advances_by line_result.NoMemory took runner after before now ran = tt

pub running_advances : (meant : List ℕ → Message) (t : LineResult) (p : Progress) (runner after : Runner)
    (line : List ℕ) (reading : Reading) (before now : List ℕ) → p ≡ progress.Running runner → StandsAt p reading →
    AllSay meant (said_by reading line) →
    ((h : List Event) → RunsOn runner.hub runner.jobs.items h →
    AllSay meant (said_on (run runner.hub.meta h) (read_line line)) →
    LineRan t (act meant runner.hub.meta (run runner.hub.meta h) (read_line line)) runner.hub after.hub after.jobs.items
    before now) →
    Advances t (take_line meant reading line) (progress.Running after) before now
running_advances meant t p runner after line reading before now is st says ran =
    let r : IsRunning runner.hub runner.jobs.items reading = subst (λ (q : Progress). StandsAt q reading) is st in
    let own : AllSay meant (said_on (run runner.hub.meta r.history) (read_line line)) =
    subst (λ (x : Reading). AllSay meant (said_by x line)) r.is says in
    subst (λ (x : Reading). Advances t (take_line meant x line) (progress.Running after) before now) (sym r.is)
    (advances_by t (act meant runner.hub.meta (run runner.hub.meta r.history) (read_line line)) runner after before now
    (ran r.history r.runs own))

stays_by : (t : LineResult) (runner after : Runner) (n : ℕ) → n < limit → IsFew runner.hub n →
    Steady t runner.hub after.hub after.jobs.items → OnWent t (HasStand (progress.Running after) (n + 1))
stays_by line_result.Went runner after n h few steady = (
  record {
    few = omega (arith, few.few, steady.0.few);
    bounded = omega (arith, few.few, few.bounded, steady.0.bounded);
  },
  steady.1,
)
stays_by (line_result.Faulty r) runner after n h few steady = tt
stays_by line_result.NoMemory runner after n h few steady = tt

pub running_stays : (t : LineResult) (p : Progress) (runner after : Runner) (n : ℕ) → p ≡ progress.Running runner →
    n < limit → HasStand p n → Steady t runner.hub after.hub after.jobs.items →
    OnWent t (HasStand (progress.Running after) (n + 1))
running_stays t p runner after n is h stand steady =
    let own : HasStand (progress.Running runner) n = subst (λ (q : Progress). HasStand q n) is stand in
    stays_by t runner after n h own.0 steady

-- what a line behind the metadata needs
pub running_room : (p : Progress) (runner : Runner) (n : ℕ) → p ≡ progress.Running runner → n < limit → HasStand p n →
    runner.hub.events + 1 + 2 * runner.hub.subscribed < 2 ^ 62
running_room p runner n is h stand =
    let own : HasStand (progress.Running runner) n = subst (λ (q : Progress). HasStand q n) is stand in
    omega (arith, own.0.few, own.0.bounded)

pub running_stands : (p : Progress) (runner : Runner) (n : ℕ) → p ≡ progress.Running runner → HasStand p n →
    (h : List Event) × RunsOn runner.hub runner.jobs.items h
running_stands p runner n is stand =
    let own : HasStand (progress.Running runner) n = subst (λ (q : Progress). HasStand q n) is stand in own.1

-- ---- the metadata's end

new_runs : (meta : Metadata) (k : Kept) (jobs : List Job) → IsNew meta k → jobs ≡ [] → RunsOn k jobs []
new_runs meta k jobs new none =
    let first : RunsOn k [] [] = record {
      stands = new.stands;
      taken = tt;
      has_open = subst (AllByRecursion (λ n. has_job [] n ≡ true)) (sym (open_are k opening new.stands.represents)) tt;
    } in
    subst (λ (js : List Job). RunsOn k js []) (sym none) first

begun_at : (m : Result Metadata MetaFault) (runner : Runner) (before : List ℕ) → Begins m runner.hub →
    runner.jobs.items ≡ [] → Advances line_result.Went (begin m) (progress.Running runner) before before
begun_at (Ok meta) runner before b none = (
  record {
    history = [];
    runs = new_runs meta runner.hub runner.jobs.items b none;
    is = ap (λ (x : Metadata). Running x opening) (sym b.meta_is);
  },
  sym (append-nil before),
)
begun_at (Err fault) runner before b none = absurd b

ends_heading : (meant : List ℕ → Message) (reading : Reading) (metadata line : List ℕ) → reading ≡ Heading metadata →
    bytes_eq line (codes "---") ≡ true → take_line meant reading line ≡ begin (metadata_of metadata)
ends_heading meant reading metadata line e same =
    ap (λ (x : Reading). take_line meant x line) e
    ∙ ap
    (λ (b : Bool). if b then begin (metadata_of metadata) else Went (Heading (metadata ++ line ++ 10 ∷ [])) []) same

pub begins : (meant : List ℕ → Message) (reading : Reading) (metadata line : List ℕ) (runner : Runner)
    (before : List ℕ) → reading ≡ Heading metadata → bytes_eq line (codes "---") ≡ true →
    Begins (metadata_of metadata) runner.hub → runner.jobs.items ≡ [] →
    Advances line_result.Went (take_line meant reading line) (progress.Running runner) before before
begins meant reading metadata line runner before e same b none =
    subst (λ (t : LineOutcome). Advances line_result.Went t (progress.Running runner) before before)
    (sym (ends_heading meant reading metadata line e same)) (begun_at (metadata_of metadata) runner before b none)

begun_stands : (m : Result Metadata MetaFault) (runner : Runner) (n : ℕ) → Begins m runner.hub →
    runner.jobs.items ≡ [] → HasStand (progress.Running runner) (n + 1)
begun_stands (Ok meta) runner n b none = (
  record {
    few = omega (arith, b.stands.represents.subscribed);
    bounded = omega (arith, b.events);
  },
  ([], new_runs meta runner.hub runner.jobs.items b none),
)
begun_stands (Err fault) runner n b none = absurd b

pub begins_stands : (metadata : List ℕ) (runner : Runner) (n : ℕ) → Begins (metadata_of metadata) runner.hub →
    runner.jobs.items ≡ [] → HasStand (progress.Running runner) (n + 1)
begins_stands metadata runner n b none = begun_stands (metadata_of metadata) runner n b none

pub begins_not : (meant : List ℕ → Message) (reading : Reading) (metadata line : List ℕ) (fault : MetaFault)
    (p : Progress) (before : List ℕ) → reading ≡ Heading metadata → bytes_eq line (codes "---") ≡ true →
    metadata_of metadata ≡ Err fault →
    Advances (line_result.Faulty (reason.Metadata fault)) (take_line meant reading line) p before before
begins_not meant reading metadata line fault p before e same b =
    subst (λ (t : LineOutcome). Advances (line_result.Faulty (reason.Metadata fault)) t p before before)
    (sym (ends_heading meant reading metadata line e same ∙ ap begin b)) refl
