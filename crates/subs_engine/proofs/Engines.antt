-- What the engine's calls give, from what the lock and the hub say.
use Rattle.std.proofs.Common.{◌≡◌, ◌∙◌, sym, ap, refl, subst, inl, true, true≢false, ℕ, suc, ◌+◌, ◌^◌, ◌<◌, ◌≤◌, Bool}
use Rattle.std.proofs.Common.{false, Option, Some, None, List, [], ◌∷◌, ◌++◌, length, arith}
use Rattle.std.proofs.lemmas.List.{length-append}
use Rattle.history_lock.specs.declared.known.Entry.{Entry}
use Rattle.history_lock.specs.PassViews.{PassView}
use Rattle.history_lock.specs.History.{entry, events, Extends}
use Rattle.role_model.specs.declared.metadata.Metadata.{Metadata}
use Rattle.machine.specs.State.{Event, Skip, Skipped, Take, Publish}
use Rattle.machine.specs.Run.{happens, run}
use Rattle.hub_model.specs.Kept.{Kept}
use Rattle.hub_model.specs.Stands.{StandsFor, Does}
use Rattle.hub_model.specs.Jobs.{AnswersOf}
use Rattle.hub_model.specs.Replies.{TakeAnswers, PublishAnswers}
use Rattle.hub_model.specs.declared.job.Job.{Job}
use Rattle.hub_model.specs.declared.job.Answers.{Answers}
use Rattle.hub_model.specs.declared.reply.PublishReply.{PublishReply}
use Rattle.hub.specs.declared.event.Event.{Event as EngineEvent}
use Rattle.hub.specs.declared.event.Event.TheVariants as event
use Rattle.hub.specs.declared.event.Reply.{Reply}
use Rattle.subs_engine.specs.Calls.{Answer, MakesOne, Skips, IsSpent, answer_of}
use Rattle.subs_engine.specs.Events.{Answers as Answered, Holds, IsText, answer_to, event_of, may_lack}
use Rattle.subs_engine.specs.Faults.{Lacks}
use Rattle.subs_engine.specs.Jobs.{IfJob, Publishes, take_answer}
use Rattle.subs_engine.proofs.Jobs.{answers_later, events-append, publish_answered, take_answered, take_job}
use Rattle.subs_engine.proofs.Made.{DoesSo}
use Rattle.subs_engine.proofs.Owns.{made_one, spent}

pub events-length : (xs : List (Entry Event)) → length (events xs) ≡ length xs
events-length [] = refl
events-length (x ∷ xs) = ap suc (events-length xs)

-- a hub that stands for what was seen has room for one more event
pub has_room : (k : Kept) (seen : List (Entry Event)) → StandsFor k (events seen) → length seen < 2 ^ 62 →
    k.events < 2 ^ 62
has_room k seen st few = subst (λ (n : ℕ). n < 2 ^ 62) (sym (st.events ∙ events-length seen)) few

-- of `p` before the turn, `t` with the turn and `q` after it
pub record Gives (p t q : PassView Event Metadata) (e : Event) : Type 0 where
  pub same : q ≡ record p { seen = q.seen }
  pub extends : Extends p.number p.seen t.seen
  pub whole : q.seen ≡ t.seen ++ entry p.number e ∷ []
  pub few : length q.seen ≤ 2 ^ 62

pub gives : (p t q : PassView Event Metadata) (e : Event) → p.has_turn ≡ false → t.lock ≡ p.lock →
    t.number ≡ p.number → t.basis ≡ p.basis → Extends p.number p.seen t.seen → length t.seen < 2 ^ 62 →
    q ≡ record t { seen = t.seen ++ entry t.number e ∷ []; has_turn = false } → Gives p t q e
gives p t q e idle lock number basis g few is =
    let seen : q.seen ≡ t.seen ++ entry t.number e ∷ [] = ap (λ (z : PassView Event Metadata). z.seen) is in
    record {
      same = is ∙ (λ i. record {
        lock = lock i;
        number = number i;
        basis = basis i;
        seen = sym seen i;
        has_turn = sym idle i;
      });
      extends = g;
      whole = seen ∙ ap (λ (n : ℕ). t.seen ++ entry n e ∷ []) number;
      few = let l = ap length seen ∙ length-append t.seen (entry t.number e ∷ []) in omega (arith, few, l);
    }

pub makes_one : (p t q : PassView Event Metadata) (e : Event) (a : Answer) → Gives p t q e →
    answer_of (happens p.basis (run p.basis (events t.seen)) e) ≡ a → MakesOne p q e a
makes_one p t q e a g is = made_one p t q e a g.same g.extends g.whole g.few is

-- the hub did the event after all that was seen
pub does_one : (p t q : PassView Event Metadata) (k k' : Kept) (e : Event) (a : Answer) → Gives p t q e →
    StandsFor k (events t.seen) → k.meta ≡ p.basis → DoesSo k k' e a → MakesOne p q e a
does_one p t q k k' e a g st meta d =
    makes_one p t q e a g
    (ap (λ (m : Metadata). answer_of (happens m (run m (events t.seen)) e)) (sym meta)
    ∙ ap answer_of (d.happened (events t.seen) st).step)

pub holds_one : (p t q : PassView Event Metadata) (k k' : Kept) (e : Event) (o : Option Answer) → Gives p t q e →
    StandsFor k (events t.seen) → k.meta ≡ p.basis → Holds o (DoesSo k k' e) → Holds o (MakesOne p q e)
holds_one p t q k k' e (Some a) g st meta d = does_one p t q k k' e a g st meta d
holds_one p t q k k' e None g st meta d = d

pub holds_stands : (k k' : Kept) (h : List Event) (e : Event) (o : Option Answer) → StandsFor k h →
    Holds o (DoesSo k k' e) → StandsFor k' (h ++ e ∷ [])
holds_stands k k' h e (Some a) st d = (d.happened h st).stands
holds_stands k k' h e None st d = absurd d

pub holds_meta : (k k' : Kept) (e : Event) (o : Option Answer) → Holds o (DoesSo k k' e) → k'.meta ≡ k.meta
holds_meta k k' e (Some a) d = d.meta
holds_meta k k' e None d = absurd d

-- all turns were taken
pub spent_at : (p t : PassView Event Metadata) → p.has_turn ≡ false →
    (t.lock ≡ p.lock) × (t.number ≡ p.number) × (t.basis ≡ p.basis) → Extends p.number p.seen t.seen →
    (t.has_turn ≡ false) × (length t.seen ≡ 2 ^ 62) → IsSpent p t
spent_at p t idle same g s =
    spent p t (λ i. record {
      lock = same.0 i;
      number = same.1 i;
      basis = same.2 i;
      seen = t.seen;
      has_turn = (s.0 ∙ sym idle) i;
    }) g s.1

-- ---- under a turn

-- the hub that the pass took stands for all that it has seen
pub record HasTurn (p t : PassView Event Metadata) (k : Kept) : Type 0 where
  pub stands : StandsFor k (events t.seen)
  pub meta : k.meta ≡ p.basis

pub at_turn : (p t : PassView Event Metadata) (k turn : Kept) → k ≡ turn →
    (t.lock ≡ p.lock) × (t.number ≡ p.number) × (t.basis ≡ p.basis) →
    StandsFor turn (events t.seen) × (turn.meta ≡ t.basis) → HasTurn p t k
at_turn p t k turn is same state = record {
  stands = subst (λ (z : Kept). StandsFor z (events t.seen)) (sym is) state.0;
  meta = ap (λ (z : Kept). z.meta) is ∙ state.1 ∙ same.2;
}

pub gave : (p t q : PassView Event Metadata) (e : Event) → p.has_turn ≡ false →
    (t.lock ≡ p.lock) × (t.number ≡ p.number) × (t.basis ≡ p.basis) → Extends p.number p.seen t.seen →
    (t.has_turn ≡ true) × (length t.seen < 2 ^ 62) →
    q ≡ record t { seen = t.seen ++ entry t.number e ∷ []; has_turn = false } → Gives p t q e
gave p t q e idle same g turn is = gives p t q e idle same.0 same.1 same.2 g turn.1 is

pub did_one : (p t q : PassView Event Metadata) (k k' : Kept) (e : Event) (a : Answer) → Gives p t q e →
    HasTurn p t k → DoesSo k k' e a → MakesOne p q e a
did_one p t q k k' e a g h d = does_one p t q k k' e a g h.stands h.meta d

pub took_one : (p t q : PassView Event Metadata) (k k' : Kept) (job : Option Job) → Gives p t q Take →
    HasTurn p t k → TakeAnswers k k' job → MakesOne p q Take (take_answer job)
took_one p t q k k' job g h d =
    makes_one p t q Take (take_answer job) g
    (ap (λ (m : Metadata). answer_of (happens m (run m (events t.seen)) Take)) (sym h.meta)
    ∙ take_answered k k' job (events t.seen) d h.stands)

given_events : (p t q : PassView Event Metadata) (e : Event) → Gives p t q e → events q.seen ≡ events t.seen ++ e ∷ []
given_events p t q e g = ap events g.whole ∙ events-append t.seen (entry p.number e ∷ [])

pub took_job : (p t q : PassView Event Metadata) (k k' : Kept) (job : Option Job) → Gives p t q Take →
    HasTurn p t k → TakeAnswers k k' job → IfJob p.basis job (events q.seen)
took_job p t q k k' job g h d =
    subst (λ (m : Metadata). IfJob m job (events q.seen)) h.meta
    (subst (λ (l : List Event). IfJob k.meta job l) (sym (given_events p t q Take g))
    (take_job k k' job (events t.seen) d h.stands))

-- ---- publications

pub its_answers : (p t : PassView Event Metadata) (k : Kept) (answers : Answers) → HasTurn p t k →
    AnswersOf p.basis answers (events p.seen) → Extends p.number p.seen t.seen →
    AnswersOf k.meta answers (events t.seen)
its_answers p t k answers h a g =
    subst (λ (m : Metadata). AnswersOf m answers (events t.seen)) (sym h.meta)
    (answers_later p.basis p.number answers p.seen t.seen a g)

pub published_one : (p t q : PassView Event Metadata) (k k' : Kept) (answers : Answers) (r : PublishReply) →
    Gives p t q (Publish answers.number) → HasTurn p t k → AnswersOf k.meta answers (events t.seen) →
    PublishAnswers k k' answers r → Publishes r (MakesOne p q (Publish answers.number))
published_one p t q k k' answers r g h a d =
    publish_answered k k' answers (events t.seen) h.stands a (MakesOne p q (Publish answers.number)) r d (λ x is.
    makes_one p t q (Publish answers.number) x g
    (ap (λ (m : Metadata). answer_of (happens m (run m (events t.seen)) (Publish answers.number))) (sym h.meta) ∙ is))

-- ---- calls

pub as_answered : (e : EngineEvent) (r : Reply) (K : Event → Answer → Type 0) → (IsText e → ⊥) →
    Holds (answer_to e r) (K (event_of e)) → Answered e r K
as_answered (event.Commit tx) r K other h = h
as_answered (event.Connect c) r K other h = h
as_answered (event.Text c text) r K other h = absurd (other tt)
as_answered (event.Binary c) r K other h = h
as_answered (event.Timeout c) r K other h = h
as_answered (event.Gone c) r K other h = h
as_answered event.Tick r K other h = h
as_answered (event.Abandon j) r K other h = h
as_answered (event.Drain c) r K other h = h
as_answered event.Report r K other h = h

pub called_one : (p t q : PassView Event Metadata) (k k' : Kept) (e : EngineEvent) (r : Reply) → (IsText e → ⊥) →
    Gives p t q (event_of e) → HasTurn p t k → Holds (answer_to e r) (DoesSo k k' (event_of e)) →
    Answered e r (MakesOne p q)
called_one p t q k k' e r other g h d =
    as_answered e r (MakesOne p q) other (holds_one p t q k k' (event_of e) (answer_to e r) g h.stands h.meta d)

pub lacks_so : (p q : PassView Event Metadata) (e : EngineEvent) → may_lack e ≡ true → Skips p q → Lacks e p q
lacks_so p q (event.Commit tx) may s = s
lacks_so p q (event.Connect c) may s = s
lacks_so p q (event.Text c text) may s = inl s
lacks_so p q (event.Binary c) may s = absurd (true≢false (sym may))
lacks_so p q (event.Timeout c) may s = absurd (true≢false (sym may))
lacks_so p q (event.Gone c) may s = absurd (true≢false (sym may))
lacks_so p q event.Tick may s = absurd (true≢false (sym may))
lacks_so p q (event.Abandon j) may s = absurd (true≢false (sym may))
lacks_so p q (event.Drain c) may s = absurd (true≢false (sym may))
lacks_so p q event.Report may s = absurd (true≢false (sym may))
