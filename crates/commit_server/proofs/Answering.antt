-- One line, and its answer.
use Rattle.std.proofs.Common.{◌≡◌, ◌∙◌, sym, ap, subst, refl, ℕ, ◌⊎◌, inl, inr, Bool, true}
use Rattle.std.proofs.Common.{false, if◌then◌else◌, is_some, Option, Some, None, Result, Ok, Err, List, [], ◌∷◌, ◌++◌}
use Rattle.std.proofs.Common.{length, codes, arith, append-nil}
use Rattle.std.specs.Str.{is_utf8, IsUtf8}
use Rattle.std.proofs.lemmas.Str.{IsUtf8-from_is_utf8, is_utf8-from_IsUtf8}
use Rattle.outside.specs.Ends.{Rose}
use Rattle.data_model.specs.declared.transaction.TxChange.{TxChange}
use Rattle.data_model.specs.declared.transaction.TxFault.{TxFault}
use Rattle.data_model.specs.Form.{transaction}
use Rattle.role_model.specs.declared.metadata.Metadata.{Metadata}
use Rattle.machine.specs.State as state
use Rattle.machine.specs.State.{State, Event, Commit, Skip, Skipped, Committed, Declined, Reply, Step}
use Rattle.machine.specs.Transcript.{commit_line, transcript}
use Rattle.history_lock.specs.PassViews.{PassView}
use Rattle.script_text.specs.Told.{Tells}
use Rattle.subs_engine.specs.Calls.{Answer, plain, Call, call, Did, MakesOne, Skips}
use Rattle.subs_engine.proofs.Owns.{did_nothing}
use Rattle.commit_server.specs.declared.end.CommitEnd.{CommitEnd}
use Rattle.commit_server.specs.declared.end.CommitEnd.TheVariants as end
use Rattle.commit_server.specs.Answers.{transaction_in, Answered, IsAnswered, IsAnsweredBy}
use Rattle.commit_server.specs.Commits.{SinkView, Writes, Over}
use Rattle.commit_server.specs.Parts.{CommitFails, CommitsTx, StopsBy, Replies, LineStops}
use Rattle.commit_server.specs.Parts.{LineAnswered, WritesFront}
use Rattle.commit_server.proofs.Writing.{writes_nothing}

-- ---- one transaction

-- the text of a reply
told_text : (tx : List TxChange) (r : Reply) (text before : List ℕ) → before ≡ [] →
    ((t : List TxChange) → Tells (Commit t) r [] [] before text) → text ≡ commit_line r ++ 10 ∷ []
told_text tx r text before none tells =
    tells tx (state.silent state.opening r) refl refl refl
    ∙ ap (λ (l : List ℕ). l ++ transcript (Commit tx) (state.silent state.opening r)) none
    ∙ append-nil (commit_line r ++ 10 ∷ [])

module _ (p q : PassView Event Metadata) (tx : List TxChange) where
  pub commits_accepted : (version : ℕ) (before text : List ℕ) → before ≡ [] →
      MakesOne p q (Commit tx) (plain (Committed version)) →
      ((t : List TxChange) → Tells (Commit t) (Committed version) [] [] before text) → CommitsTx p q tx text (Ok tt)
  commits_accepted version before text none made tells = record {
    answer = plain (Committed version);
    made = made;
    text_is = told_text tx (Committed version) text before none tells;
  }

  pub commits_refused : (f : TxFault) (before text : List ℕ) → before ≡ [] →
      MakesOne p q (Commit tx) (plain (Declined f)) →
      ((t : List TxChange) → Tells (Commit t) (Declined f) [] [] before text) → CommitsTx p q tx text (Ok tt)
  commits_refused f before text none made tells = record {
    answer = plain (Declined f);
    made = made;
    text_is =
        told_text tx (Declined f) text before none tells;
  }

  pub fails_made : (a : Answer) → MakesOne p q (Commit tx) a → CommitFails p q tx end.NoMemory
  fails_made a made = inr (a, made)

  pub fails_skip : Skips p q → CommitFails p q tx end.NoMemory
  fails_skip skips = inl skips

-- ---- what a line is

pub not_text : (line : List ℕ) → is_utf8 line ≡ false → transaction_in line ≡ None
not_text line e = ap (λ (b : Bool). if b then transaction line else None) e

pub is_text : (line text : List ℕ) → text ≡ line → is_utf8 line ≡ true → transaction_in line ≡ transaction text
is_text line text same e = ap (λ (b : Bool). if b then transaction line else None) e ∙ ap transaction (sym same)

utf8_by : (line : List ℕ) (b : Bool) → is_utf8 line ≡ b → (IsUtf8 line → ⊥) → is_utf8 line ≡ false
utf8_by line true e fails = absurd (fails (IsUtf8-from_is_utf8 line e))
utf8_by line false e fails = e

abbrev read_as : {E : Type 0} → Option (List TxChange) → Result (Option (List TxChange)) E
read_as o = Ok o

pub reads_none : {E : Type 0} (line : List ℕ) → (IsUtf8 line → ⊥) →
    read_as {E = E} None ≡ read_as {E = E} (transaction_in line)
reads_none {E} line fails = ap (λ (o : Option (List TxChange)). read_as {E = E} o)
    (sym (not_text line (utf8_by line (is_utf8 line) refl fails)))

pub reads_some : {E : Type 0} (line text : List ℕ) (tx : List TxChange) → text ≡ line → IsUtf8 line →
    transaction text ≡ Some tx → read_as {E = E} (Some tx) ≡ read_as {E = E} (transaction_in line)
reads_some {E} line text tx same is e = ap (λ (o : Option (List TxChange)). read_as {E = E} o)
    (sym (is_text line text same (is_utf8-from_IsUtf8 line is) ∙ e))

-- ---- a reply

answered_by : (line : List ℕ) (o : Option (List TxChange)) (a : Answered) → a.line ≡ line → transaction_in line ≡ o →
    IsAnsweredBy o a → IsAnswered a
answered_by line o a is e h = subst (λ (x : Option (List TxChange)). IsAnsweredBy x a) (sym (ap transaction_in is ∙ e))
    h

committed : (line text : List ℕ) (tx : List TxChange) (s : State) (answer : Answer) → transaction_in line ≡ Some tx →
    text ≡ commit_line answer.reply ++ 10 ∷ [] → IsAnswered
    (record { line = line; calls = call s (Commit tx) answer ∷ []; text = text })
committed line text tx s answer e is = answered_by line (Some tx)
    (record { line = line; calls = call s (Commit tx) answer ∷ []; text = text }) refl e
    (record { answer = answer; one = (s, refl); text = is })

-- a transaction was committed
pub replies_commit : (p q : PassView Event Metadata) (line text : List ℕ) (tx : List TxChange) →
    transaction_in line ≡ Some tx → CommitsTx p q tx text (Ok tt) → Replies p q line text
replies_commit p q line text tx e one = record {
  answered = record { line = line; calls = call one.made.0 (Commit tx) one.answer ∷ []; text = text };
  line_is = refl;
  text_is = refl;
  is = committed line text tx one.made.0 one.answer e one.text_is;
  did = one.made.1.did;
}

-- a line is none
pub replies_bad : (p : PassView Event Metadata) (line before text : List ℕ) → transaction_in line ≡ None → before ≡ [] →
    text ≡ before ++ (codes "bad" ++ 10 ∷ []) → Replies p p line text
replies_bad p line before text e none is = record {
  answered = record { line = line; calls = []; text = text };
  line_is = refl;
  text_is = refl;
  is = answered_by line None (record { line = line; calls = []; text = text }) refl e (
    refl,
    is
        ∙ ap (λ (l : List ℕ). l ++ (codes "bad" ++ 10 ∷ [])) none,
  );
  did = did_nothing p;
}

-- ---- an end

-- a line is over that wasn't answered, with the calls that were made
abbrev not_answered : List ℕ → List Call → Over
not_answered line calls = record { pending = line ∷ []; calls = calls; unsent = []; line = []; ahead = [] }

-- a part of an answer is over
abbrev not_sent : List ℕ → Over
not_sent unsent = record { pending = []; calls = []; unsent = unsent; line = []; ahead = [] }

is_tx : (line : List ℕ) (tx : List TxChange) → transaction_in line ≡ Some tx → is_some (transaction_in line) ≡ true
is_tx line tx e = ap (λ (o : Option (List TxChange)). is_some o) e

-- memory was wanting before anything was done
pub stops_early : (p : PassView Event Metadata) (k : SinkView) (line : List ℕ) → LineStops p p k k line end.NoMemory
stops_early p k line = record {
  answered = [];
  over = not_answered line [];
  line_is = refl;
  no_line = refl;
  no_ahead = refl;
  each = tt;
  did = did_nothing p;
  sent = [];
  texts = refl;
  writes = writes_nothing k;
  stops = record { few = omega arith; calls = inl refl };
}

-- at a commit
pub stops_commit : (p q : PassView Event Metadata) (k : SinkView) (line : List ℕ) (tx : List TxChange) (e : CommitEnd) →
    transaction_in line ≡ Some tx → CommitFails p q tx e → LineStops p q k k line e
stops_commit p q k line tx end.Ended is s = absurd s
stops_commit p q k line tx end.SourceFault is s = absurd s
stops_commit p q k line tx end.SinkFault is s = absurd s
stops_commit p q k line tx end.TooLong is s = absurd s
stops_commit p q k line tx end.Spent is s = record {
  answered = [];
  over = not_answered line [];
  line_is = refl;
  no_line = refl;
  no_ahead = refl;
  each = tt;
  did = s.did;
  sent = [];
  texts = refl;
  writes = writes_nothing k;
  stops = (s.whole, refl, record { line = line; pending = refl; is = is_tx line tx is; unsent = refl });
}
stops_commit p q k line tx end.NoMemory is (inl s) = record {
  answered = [];
  over = not_answered line (call s.0 Skip (plain Skipped) ∷ []);
  line_is = refl;
  no_line = refl;
  no_ahead = refl;
  each = tt;
  did = s.1.did;
  sent = [];
  texts = refl;
  writes = writes_nothing k;
  stops = record {
    few = omega arith;
    calls = inr (
      (s.0, refl),
      record {
        line = line;
        pending = refl;
        is =
            is_tx line tx is;
        unsent = refl;
      },
    );
  };
}
stops_commit p q k line tx end.NoMemory is (inr s) =
    let text : List ℕ = commit_line s.0.reply ++ 10 ∷ [] in
    record {
      answered = record { line = line; calls = call s.1.0 (Commit tx) s.0 ∷ []; text = text } ∷ [];
      over = not_sent text;
      line_is = refl;
      no_line = refl;
      no_ahead = refl;
      each = (committed line text tx s.1.0 s.0 is refl, tt);
      did = s.1.1.did;
      sent = [];
      texts = append-nil text;
      writes = writes_nothing k;
      stops = record { few = omega arith; calls = inl refl };
    }

-- nothing was written, so the sink didn't fail
no_fault : (p q : PassView Event Metadata) (line : List ℕ) (e : CommitEnd) →
    ((k : SinkView) → LineStops p q k k line e) → e ≡ end.SinkFault → ⊥
no_fault p q line e stops is = absurd (omega (
  arith,
  at_start
      (subst (λ (x : CommitEnd). (k : SinkView) → LineStops p q k k line x) is stops),
))
  where
    at_start : ((k : SinkView) → LineStops p q k k line end.SinkFault) → Rose 0 0
    at_start stops = (stops (record { written = None; faults = 0 })).stops.0

same_end : (e f : CommitEnd) → ◌≡◌ {A = Result (Unit {0}) CommitEnd} (Err e) (Err f) → e ≡ f
same_end e f is = cc

pub replies_no_fault : (p q : PassView Event Metadata) (line : List ℕ) (e : CommitEnd) →
    ((k : SinkView) → LineStops p q k k line e) → ◌≡◌ {A = Result (Unit {0}) CommitEnd} (Err e) (Err end.SinkFault) → ⊥
replies_no_fault p q line e stops is = no_fault p q line e stops (same_end e end.SinkFault is)

-- ---- writing

-- the answer was written
pub answers_written : (p q : PassView Event Metadata) (k k' : SinkView) (line text : List ℕ) → Replies p q line text →
    Writes k k' text → LineAnswered p q k k' line
answers_written p q k k' line text r w = record {
  answered = r.answered;
  line_is = r.line_is;
  is = r.is;
  did = r.did;
  writes = subst (Writes k k') (sym r.text_is) w;
}

-- or a front of it
pub stops_writing : (p q : PassView Event Metadata) (k k' : SinkView) (line text : List ℕ) (e : CommitEnd) →
    Replies p q line text → WritesFront k k' text e → LineStops p q k k' line e
stops_writing p q k k' line text e r w = record {
  answered = r.answered ∷ [];
  over = not_sent w.unsent;
  line_is = ap (λ (l : List ℕ). l ∷ []) r.line_is;
  no_line = refl;
  no_ahead = refl;
  each = (r.is, tt);
  did = subst (Did p q) (sym (append-nil (r.answered.calls ++ []) ∙ append-nil r.answered.calls)) r.did;
  sent = w.sent;
  texts = append-nil r.answered.text ∙ r.text_is ∙ w.whole;
  writes = w.writes;
  stops = cases e w.sink w.fault;
}
  where
    cases : (e : CommitEnd) → (e ≡ end.SinkFault) ⊎ (e ≡ end.NoMemory) → (e ≡ end.SinkFault → Rose k.faults k'.faults) →
        StopsBy (length q.seen) k k' e (not_sent w.unsent)
    cases e (inl is) fault = subst (λ (x : CommitEnd). StopsBy (length q.seen) k k' x (not_sent w.unsent)) (sym is)
        (fault is, refl, refl)
    cases e (inr is) fault = subst (λ (x : CommitEnd). StopsBy (length q.seen) k k' x (not_sent w.unsent)) (sym is)
        (record { few = omega arith; calls = inl refl })
