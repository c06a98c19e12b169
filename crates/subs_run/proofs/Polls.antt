-- What the calls of the hub say of a poll.
use Rattle.std.proofs.Common.{◌≡◌, ◌∙◌, ◌≤◌, ◌<◌, ◌+◌, ◌*◌, arith, sym, ap, subst, refl, ℕ, zero, suc, Bool, true, false, List, [], ◌∷◌, ◌++◌, length, append_assoc, append-nil}
use Rattle.role_model.specs.declared.metadata.Metadata.{Metadata}
use Rattle.machine.specs.State.{State, Event, Tick, Take, Publish, Ticked, Taken, Nobody, Step}
use Rattle.machine.specs.Run.{happens, run}
use Rattle.machine.specs.Transcript.{transcript, goes, goes_on, Reached, take_and_publish, publish_due, poll}
use Rattle.machine.specs.Script.{Running, went}
use Rattle.hub_model.specs.declared.job.Job.{Job}
use Rattle.hub_model.specs.Kept.{Kept}
use Rattle.hub_model.specs.Jobs.{job_of}
use Rattle.hub_model.specs.Stands.{StandsFor, Happened, Does}
use Rattle.hub_model.specs.Replies.{TookJob}
use Rattle.script_text.specs.Told.{Tells}
use Rattle.subs_run.specs.declared.line_result.LineResult.TheVariants as line_result
use Rattle.subs_run.specs.Events.{IsLater, Reaches, HasClosed, TookOne, HubRan}
use Rattle.subs_run.proofs.Machine.{IsIdle, IsTicked, nobody, taken, ticked, subs, AddsNone, subs-same, Opens}
use Rattle.subs_run.proofs.Events.{later_by, state_after, reply_after, told_by}
use Rattle.subs_run.proofs.TakenJobs.{take_others}

-- ---- histories that follow one another

pub later_then : (k k1 k2 : Kept) (h h1 h2 : List Event) → IsLater k k1 h h1 → IsLater k1 k2 h1 h2 → IsLater k k2 h h2
later_then k k1 k2 h h1 h2 a b = record {
  meta = b.meta ∙ a.meta;
  stands = b.stands;
  more = a.more ++ b.more;
  longer = b.longer ∙ (ap (λ (g : List Event). g ++ b.more) a.longer ∙ append_assoc h a.more b.more);
  was_open = λ jobs have. b.was_open jobs (a.was_open jobs have);
}

-- ---- one take, and the publication of what it took

-- nobody was due, and so nothing changed
pub took_none : (k k' : Kept) (h : List Event) (before : List ℕ) → Does k k' Take Nobody [] [] → StandsFor k h →
    TookOne false k k' h before before
took_none k k' h before does st =
    let hp : Happened k k' h Take Nobody [] [] = does.happened h st in
    let idle = nobody k.meta h (reply_after k k' h Take Nobody [] [] hp) in (
      idle.due,
      record {
        history = h ++ Take ∷ [];
        later = later_by k k' h Take Nobody [] [] does st tt;
        subscribed = hp.stands.represents.subscribed
            ∙ (ap subs (sym (state_after k k' h Take Nobody [] [] does.meta hp) ∙ idle.same)
            ∙ sym st.represents.subscribed);
        state = ap (λ (s : Step). s.state) (sym hp.step) ∙ idle.same;
        text = sym (append-nil before);
      },
    )

abbrev publishing : Metadata → State → ℕ → Reached
publishing meta s n = goes (Publish n) (happens meta s (Publish n))

pub took_some : (k k1 k2 : Kept) (h : List Event) (job : Job) (before mid after : List ℕ) → TookJob k k1 job →
    StandsFor k h → Tells Take (Taken (job_of job)) [] [] before mid →
    HasClosed k1 k2 (h ++ Take ∷ []) (Publish job.number) job.number mid after → TookOne true k k2 h before after
took_some k k1 k2 h job before mid after t st tells c =
    let s : State = run k.meta h in
    let h1 : List Event = h ++ Take ∷ [] in
    let hp : Happened k k1 h Take (Taken (job_of job)) [] [] = t.does.happened h st in
    let reply = reply_after k k1 h Take (Taken (job_of job)) [] [] hp in
    let opens : Opens s (happens k.meta s Take).state (job_of job) = taken k.meta s (job_of job) reply in
    let q = c.reaches in
    let u : State = (happens k.meta s Take).state in
    let came : u ≡ run k1.meta h1 = state_after k k1 h Take (Taken (job_of job)) [] [] t.does.meta hp in
    let second : publishing k.meta u u.jobs_made ≡ publishing k1.meta (run k1.meta h1) job.number =
    ap (publishing k.meta u) opens.made
    ∙ (ap (λ (x : State). publishing k.meta x job.number) came
    ∙ ap (λ (m : Metadata). publishing m (run k1.meta h1) job.number) (sym t.does.meta)) in
    let text1 : mid ≡ before ++ transcript Take (happens k.meta s Take) =
    told_by k k1 h Take (Taken (job_of job)) [] [] before mid hp tells in
    let more : IsLater k1 k2 h1 q.history = q.later in (
      opens.some,
      record {
        history = q.history;
        later = record {
          meta = more.meta ∙ t.does.meta;
          stands = more.stands;
          more = Take ∷ [] ++ more.more;
          longer = more.longer ∙ append_assoc h (Take ∷ []) more.more;
          was_open = λ jobs have. c.closes jobs (take_others k k1 h job jobs t st have);
        };
        subscribed = q.subscribed
            ∙ (hp.stands.represents.subscribed
            ∙ (ap subs (sym came)
            ∙ (subs-same k.meta s Take (subst AddsNone (sym reply) tt) ∙ sym st.represents.subscribed)));
        state = ap (λ (m : Metadata). run m q.history) (sym t.does.meta)
            ∙ (q.state ∙ ap (λ (r : Reached). r.state) (sym second));
        text = q.text
            ∙ (ap (λ (r : Reached). mid ++ r.text) (sym second)
            ∙ (ap (λ (xs : List ℕ). xs ++ (publishing k.meta u u.jobs_made).text) text1
            ∙ append_assoc before (transcript Take (happens k.meta s Take)) (publishing k.meta u u.jobs_made).text));
      },
    )

-- ---- round by round

pub record Remains (k k' : Kept) (h : List Event) (goal : Reached) (n : ℕ) (before after : List ℕ) : Type 0 where
  pub history : List Event
  pub later : IsLater k k' h history
  pub subscribed : k'.subscribed ≡ k.subscribed
  pub state : (publish_due k.meta n (run k.meta history) (run k.meta history).due).state ≡ goal.state
  pub text : before ++ goal.text ≡ after ++ (publish_due k.meta n (run k.meta history) (run k.meta history).due).text

pub all_remains : (k : Kept) (h : List Event) (n : ℕ) (before : List ℕ) → StandsFor k h →
    Remains k k h (publish_due k.meta n (run k.meta h) (run k.meta h).due) n before before
all_remains k h n before st = record {
  history = h;
  later = record { meta = refl; stands = st; more = []; longer = sym (append-nil h); was_open = λ jobs have. have };
  subscribed = refl;
  state = refl;
  text = refl;
}

due_more : (meta : Metadata) (n : ℕ) (s : State) (due : List ℕ) → 0 < length due →
    publish_due meta (suc n) s due ≡ goes_on (take_and_publish meta s) (λ t. publish_due meta n t t.due)
due_more meta n s [] h = absurd (omega arith)
due_more meta n s (d ∷ due) h = refl

due_none : (meta : Metadata) (n : ℕ) (s : State) (due : List ℕ) → due ≡ [] →
    publish_due meta n s due ≡ record { state = s; text = [] }
due_none meta zero s due e = refl
due_none meta (suc n) s due e = ap (λ (xs : List ℕ). publish_due meta (suc n) s xs) e

pub remains_less : (k k' k'' : Kept) (h : List Event) (goal : Reached) (m n : ℕ) (before mid after : List ℕ) →
    m ≡ suc n → (r : Remains k k' h goal m before mid) → TookOne true k' k'' r.history mid after →
    Remains k k'' h goal n before after
remains_less k k' k'' h goal m n before mid after e r took =
    let s : State = run k.meta r.history in
    let due : 0 < length s.due = subst (λ (x : Metadata). 0 < length (run x r.history).due) r.later.meta took.0 in
    let q : Reaches k' k'' r.history (take_and_publish k.meta s) mid after =
    subst (λ (x : Metadata). Reaches k' k'' r.history (take_and_publish x (run x r.history)) mid after)
    r.later.meta took.1 in
    let first : Reached = take_and_publish k.meta s in
    let came : run k.meta q.history ≡ first.state =
    ap (λ (x : Metadata). run x q.history) (sym r.later.meta) ∙ q.state in
    let split : publish_due k.meta m s s.due ≡ goes_on first (λ t. publish_due k.meta n t t.due) =
    ap (λ (x : ℕ). publish_due k.meta x s s.due) e ∙ due_more k.meta n s s.due due in
    record {
      history = q.history;
      later = later_then k k' k'' h r.history q.history r.later q.later;
      subscribed = q.subscribed ∙ r.subscribed;
      state = ap (λ (t : State). (publish_due k.meta n t t.due).state) came
          ∙ (ap (λ (x : Reached). x.state) (sym split) ∙ r.state);
      text = r.text
          ∙ (ap (λ (x : Reached). mid ++ x.text) split
          ∙ (sym (append_assoc mid first.text (publish_due k.meta n first.state first.state.due).text)
          ∙ (ap (λ (xs : List ℕ). xs ++ (publish_due k.meta n first.state first.state.due).text) (sym q.text)
          ∙ ap (λ (t : State). after ++ (publish_due k.meta n t t.due).text) (sym came))));
    }

pub nothing_remains : (k k' : Kept) (h : List Event) (goal : Reached) (before after : List ℕ) →
    Remains k k' h goal 0 before after → Reaches k k' h goal before after
nothing_remains k k' h goal before after r = record {
  history = r.history;
  later = r.later;
  subscribed = r.subscribed;
  state = r.state;
  text = sym (r.text ∙ append-nil after);
}

pub nobody_remains : (k k' k'' : Kept) (h : List Event) (goal : Reached) (m : ℕ) (before mid after : List ℕ) →
    (r : Remains k k' h goal m before mid) → TookOne false k' k'' r.history mid after →
    Reaches k k'' h goal before after
nobody_remains k k' k'' h goal m before mid after r took =
    let s : State = run k.meta r.history in
    let none : s.due ≡ [] = subst (λ (x : Metadata). (run x r.history).due ≡ []) r.later.meta took.0 in
    let q : Reaches k' k'' r.history (record { state = s; text = [] }) mid after =
    subst (λ (x : Metadata). Reaches k' k'' r.history (record { state = run x r.history; text = [] }) mid after)
    r.later.meta took.1 in
    let ended : publish_due k.meta m s s.due ≡ record { state = s; text = [] } = due_none k.meta m s s.due none in
    record {
      history = q.history;
      later = later_then k k' k'' h r.history q.history r.later q.later;
      subscribed = q.subscribed ∙ r.subscribed;
      state = ap (λ (x : Metadata). run x q.history) (sym r.later.meta)
          ∙ (q.state ∙ (ap (λ (x : Reached). x.state) (sym ended) ∙ r.state));
      text = q.text ∙ (ap (λ (x : Reached). mid ++ x.text) (sym ended) ∙ sym r.text);
    }

-- ---- the tick before

is_ticked : (k k1 : Kept) (h : List Event) (n : ℕ) → Does k k1 Tick (Ticked n) [] [] → StandsFor k h →
    IsTicked (run k.meta h) (happens k.meta (run k.meta h) Tick).state n
is_ticked k k1 h n does st =
    ticked k.meta (run k.meta h) n (reply_after k k1 h Tick (Ticked n) [] [] (does.happened h st))

pub due_few : (k k1 : Kept) (h : List Event) (n : ℕ) → Does k k1 Tick (Ticked n) [] [] → StandsFor k h →
    n ≤ k.subscribed
due_few k k1 h n does st = omega (arith, (is_ticked k k1 h n does st).few, st.represents.subscribed)

pub polled : (k k1 k2 : Kept) (h : List Event) (n : ℕ) (before mid after : List ℕ) →
    Does k k1 Tick (Ticked n) [] [] → StandsFor k h → Tells Tick (Ticked n) [] [] before mid →
    ((h1 : List Event) → StandsFor k1 h1 →
    Reaches k1 k2 h1 (publish_due k1.meta n (run k1.meta h1) (run k1.meta h1).due) mid after) →
    Reaches k k2 h (poll k.meta (run k.meta h)) before after
polled k k1 k2 h n before mid after does st tells more =
    let hp : Happened k k1 h Tick (Ticked n) [] [] = does.happened h st in
    let h1 : List Event = h ++ Tick ∷ [] in
    let s : State = run k.meta h in
    let t : State = (happens k.meta s Tick).state in
    let q = more h1 hp.stands in
    let came : run k1.meta h1 ≡ t = sym (state_after k k1 h Tick (Ticked n) [] [] does.meta hp) in
    let many : n ≡ length t.due = sym (is_ticked k k1 h n does st).due in
    let same : publish_due k1.meta n (run k1.meta h1) (run k1.meta h1).due ≡ publish_due k.meta (length t.due) t t.due =
    ap (λ (x : State). publish_due k1.meta n x x.due) came
    ∙ (ap (λ (m : Metadata). publish_due m n t t.due) does.meta
    ∙ ap (λ (m : ℕ). publish_due k.meta m t t.due) many) in
    record {
      history = q.history;
      later = later_then k k1 k2 h h1 q.history (later_by k k1 h Tick (Ticked n) [] [] does st tt) q.later;
      subscribed = q.subscribed
          ∙ (hp.stands.represents.subscribed ∙ (ap subs came ∙ sym st.represents.subscribed));
      state = ap (λ (m : Metadata). run m q.history) (sym does.meta)
          ∙ (q.state ∙ ap (λ (x : Reached). x.state) same);
      text = q.text
          ∙ (ap (λ (x : Reached). mid ++ x.text) same
          ∙ (ap (λ (xs : List ℕ). xs ++ (publish_due k.meta (length t.due) t t.due).text)
          (told_by k k1 h Tick (Ticked n) [] [] before mid hp tells)
          ∙ append_assoc before (transcript Tick (happens k.meta s Tick))
          (publish_due k.meta (length t.due) t t.due).text));
    }

pub poll_ran : (k k' : Kept) (h : List Event) (before after : List ℕ) →
    Reaches k k' h (poll k.meta (run k.meta h)) before after → k'.events ≤ k.events + 1 + 2 * k.subscribed →
    HubRan line_result.Went (went k.meta (poll k.meta (run k.meta h))) k k' h before after
poll_ran k k' h before after q bounded =
    let goal : Reached = poll k.meta (run k.meta h) in
    record {
      on = record {
        history = q.history;
        later = q.later;
        bounds = record { few = omega (arith, q.subscribed); bounded = bounded };
      };
      is = ap (λ (m : Metadata). Running m goal.state) (sym q.later.meta)
          ∙ ap (λ (s : State). Running k'.meta s)
          (sym q.state ∙ ap (λ (m : Metadata). run m q.history) (sym q.later.meta));
      appended = q.text;
    }
