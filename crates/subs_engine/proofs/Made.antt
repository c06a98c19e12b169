-- What the hub's replies say of the machine's events.
use Rattle.std.proofs.Common.{◌≡◌, ◌∙◌, sym, ap, refl, subst, ℕ, suc, Bool, true, false, List, [], ◌∷◌, ◌++◌, length}
use Rattle.role_model.specs.declared.metadata.Metadata.{Metadata}
use Rattle.data_model.specs.declared.transaction.TxChange.{TxChange}
use Rattle.machine.specs.State as machine
use Rattle.machine.specs.State.{State, Event, Step, Reply, Report, Reported, Skip, Skipped, silent, opening}
use Rattle.machine.specs.declared.counts.Counts.{Counts}
use Rattle.machine.specs.Run.{happens, run}
use Rattle.run_laws.proofs.Histories.{after_all-push}
use Rattle.hub_model.specs.Kept.{Kept, Represents}
use Rattle.hub_model.specs.Stands.{StandsFor, Happened, Does}
use Rattle.hub_model.specs.Replies.{ConnAnswers, CommitAnswers, AbandonAnswers, DrainAnswers}
use Rattle.hub_model.specs.declared.reply.ConnReply.{ConnReply}
use Rattle.hub_model.specs.declared.reply.ConnReply.TheVariants as conn
use Rattle.hub_model.specs.declared.reply.CommitReply.{CommitReply}
use Rattle.hub_model.specs.declared.reply.CommitReply.TheVariants as commit
use Rattle.hub_model.specs.declared.reply.DrainReply.{DrainReply}
use Rattle.hub_model.specs.declared.reply.DrainReply.TheVariants as drain
use Rattle.subs_engine.specs.Calls.{Answer}
use Rattle.subs_engine.specs.Events.{conn_answer, commit_answer, abandon_answer, drain_answer}

-- the event happened with this answer
abbrev pub DoesSo : Kept → Kept → Event → Answer → Type 0
DoesSo k k' e a = Does k k' e a.reply a.queued a.closed

pub conn_does : (k k' : Kept) (c : ℕ) (e : Event) (r : ConnReply) → ConnAnswers k k' c e r →
    DoesSo k k' e (conn_answer c r)
conn_does k k' c e (conn.Did effect) d = d
conn_does k k' c e conn.ConnKnown d = d
conn_does k k' c e conn.ConnUnknown d = d

pub commit_does : (k k' : Kept) (tx : List TxChange) (r : CommitReply) → CommitAnswers k k' tx r →
    DoesSo k k' (machine.Commit tx) (commit_answer r)
commit_does k k' tx (commit.Committed version) d = d
commit_does k k' tx (commit.Refused fault) d = d

pub abandon_does : (k k' : Kept) (number : ℕ) (b : Bool) → AbandonAnswers k k' number b →
    DoesSo k k' (machine.Abandon number) (abandon_answer b)
abandon_does k k' number true d = d
abandon_does k k' number false d = d

pub drain_does : (k k' : Kept) (c : ℕ) (r : DrainReply) → DrainAnswers k k' c r →
    DoesSo k k' (machine.Drain c) (drain_answer r)
drain_does k k' c drain.ConnUnknown d = d
drain_does k k' c (drain.Sent text) d = d
drain_does k k' c drain.Empty d = d
drain_does k k' c (drain.Done reason) d = d

-- a report leads where a `skip` leads
pub reports : (k k' : Kept) (counts : Counts) → Does k k' Skip Skipped [] [] →
    ((h : List Event) → StandsFor k h →
    happens k.meta (run k.meta h) Report ≡ silent (run k.meta h) (Reported counts)) →
    Does k k' Report (Reported counts) [] []
reports k k' counts d told = record {
  meta = d.meta;
  events = d.events;
  happened = λ h st.
      let skipped = d.happened h st in
      let reported : run k.meta (h ++ Report ∷ []) ≡ run k.meta h =
      after_all-push k.meta opening h Report ∙ ap (λ (x : Step). x.state) (told h st) in
      let stayed : run k.meta (h ++ Skip ∷ []) ≡ run k.meta h = after_all-push k.meta opening h Skip in
      record {
        stands = record {
          represents = subst (λ (m : Metadata). Represents k' (run m (h ++ Report ∷ []))) (sym d.meta)
              (subst (λ (s : State). Represents k' s) (stayed ∙ sym reported)
              (subst (λ (m : Metadata). Represents k' (run m (h ++ Skip ∷ []))) d.meta skipped.stands.represents));
          events = skipped.stands.events ∙ same_length h;
        };
        step = told h st ∙ ap (λ (s : State). silent s (Reported counts)) (sym reported);
      };
}
  where
    same_length : (h : List Event) → length (h ++ Skip ∷ []) ≡ length (h ++ Report ∷ [])
    same_length [] = refl
    same_length (e ∷ h) = ap suc (same_length h)
