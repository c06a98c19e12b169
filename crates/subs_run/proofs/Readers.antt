-- What a byte does to a reader.
use Rattle.std.proofs.Common.{◌≡◌, ◌≢◌, ◌∙◌, ◌≤◌, ◌+◌, arith, sym, ap, subst, refl, ℕ, Option, List, [], ◌∷◌, ◌++◌, length, length-append, append-nil}
use Rattle.machine.specs.Messages.{Message}
use Rattle.machine.specs.Lines.{Lines, lines}
use Rattle.machine.specs.Script.{Reading, LineOutcome, Went, Faulty, take_line, said_by, At, Fault, Ran, AllSay}
use Rattle.machine.specs.declared.script.ScriptReason.{ScriptReason}
use Rattle.subs_run.specs.declared.reader.Reader.{Reader}
use Rattle.subs_run.specs.declared.progress.Progress.{Progress}
use Rattle.subs_run.specs.declared.line_result.LineResult.{LineResult}
use Rattle.subs_run.specs.declared.line_result.LineResult.TheVariants as line_result
use Rattle.subs_run.specs.Runs.{ran}
use Rattle.subs_run.specs.Progress.{StandsAt, HasStand, Advances}
use Rattle.subs_run.specs.Standing.{Matches, Counts, Keeps, IsAfter, AreRead, HasRun}
use Rattle.subs_run.specs.Written.{WritesFrontOn}
use Rattle.subs_run.proofs.Lines.{push_byte, push_end, lines-count}
use Rattle.subs_run.proofs.Rans.{over, ran-byte, ran-end, ran-longer, read-front, line-says}
use Rattle.subs_run.proofs.Written.{on_same, front_all, front_longer}

-- ---- a byte that is no line end

pub byte_after : (reader after : Reader) (seen : List ℕ) (b : ℕ) → b ≢ 10 → HasRun reader seen →
    after.progress ≡ reader.progress → after.lines_read ≡ reader.lines_read →
    after.line.items ≡ reader.line.items ++ b ∷ [] → HasRun after (seen ++ b ∷ [])
byte_after reader after seen b ne r same_progress same_taken pushed =
    record {
      keeps = record {
        stands = subst (λ (n : ℕ). HasStand after.progress n) (sym same_taken)
            (subst (λ (p : Progress). HasStand p reader.lines_read) (sym same_progress) r.keeps.stands);
        line = pushed
            ∙ (ap (λ (xs : List ℕ). xs ++ b ∷ []) r.keeps.line
            ∙ sym (ap (λ (s : Lines). s.1) (push_byte seen b ne)));
        lines_read = same_taken
            ∙ (r.keeps.lines_read ∙ sym (ap (λ (s : Lines). length s.0) (push_byte seen b ne)));
      };
      after = λ meant says. let a = r.after meant (read-front meant seen (b ∷ []) says) in
          record {
            reading = a.reading;
            faultless = ap (λ (q : Ran). q.standing) (ran-byte meant seen b ne) ∙ a.faultless;
            stands = subst (λ (p : Progress). StandsAt p a.reading) (sym same_progress) a.stands;
          };
    }

pub byte_text : (meant : List ℕ → Message) (seen : List ℕ) (b : ℕ) → b ≢ 10 →
    (ran meant (seen ++ b ∷ [])).text ≡ (ran meant seen).text
byte_text meant seen b ne = ap (λ (r : Ran). r.text) (ran-byte meant seen b ne)

-- ---- a line end, by what the line brings

-- whatever the texts of clients mean, the line was taken with this result
abbrev pub TakesLine : LineResult → Reader → Reader → Type 0
TakesLine t reader after = (meant : List ℕ → Message) (reading : Reading) → StandsAt reader.progress reading →
    AllSay meant (said_by reading reader.line.items) → Matches t (take_line meant reading reader.line.items) after

pub record HasGone (t : LineOutcome) (after : Reader) : Type 0 where
  pub next : Reading
  pub text : List ℕ
  pub is : t ≡ Went next text
  pub stands : StandsAt after.progress next
  pub out : after.out.items ≡ text

pub went_is : (t : LineOutcome) (after : Reader) → Matches line_result.Went t after → HasGone t after
went_is (Went next text) after m = record { next = next; text = text; is = refl; stands = m.0; out = m.1 }
went_is (Faulty reason) after m = absurd m

pub faulty_is : (t : LineOutcome) (reason : ScriptReason) (after : Reader) →
    Matches (line_result.Faulty reason) t after → t ≡ Faulty reason
faulty_is (Went next text) reason after m = absurd m
faulty_is (Faulty other) reason after m = ap (λ (r : ScriptReason). Faulty r) m

-- what a line brings where the reader stands
pub record Brings (meant : List ℕ → Message) (t : LineResult) (after : Reader) (seen : List ℕ) : Type 0 where
  pub reading : Reading
  pub faultless : (ran meant seen).standing ≡ At reading
  pub matches : Matches t (take_line meant reading (lines seen).1) after

pub brings : (meant : List ℕ → Message) (t : LineResult) (reader after : Reader) (seen : List ℕ) → HasRun reader seen →
    TakesLine t reader after → AreRead meant (seen ++ 10 ∷ []) → Brings meant t after seen
brings meant t reader after seen r took says =
    let a = r.after meant (read-front meant seen (10 ∷ []) says) in
    let own : AllSay meant (said_by a.reading reader.line.items) =
    subst (λ (l : List ℕ). AllSay meant (said_by a.reading l)) (sym r.keeps.line)
    (line-says meant seen a.reading a.faultless says) in
    record {
      reading = a.reading;
      faultless = a.faultless;
      matches = subst (λ (l : List ℕ). Matches t (take_line meant a.reading l) after) r.keeps.line
          (took meant a.reading a.stands own);
    }

-- the run goes on by what the line brings
ran-over : (meant : List ℕ → Message) (seen : List ℕ) (reading : Reading) (t : LineOutcome) →
    (ran meant seen).standing ≡ At reading → take_line meant reading (lines seen).1 ≡ t →
    ran meant (seen ++ 10 ∷ [])
    ≡ over meant (ran meant seen) (lines seen).1 reading (1 + length (lines seen).0) t
ran-over meant seen reading t e is =
    ran-end meant seen reading e
    ∙ ap (over meant (ran meant seen) (lines seen).1 reading (1 + length (lines seen).0)) is

pub end_text : (meant : List ℕ → Message) (reader after : Reader) (seen : List ℕ) → HasRun reader seen →
    TakesLine line_result.Went reader after → AreRead meant (seen ++ 10 ∷ []) →
    (ran meant (seen ++ 10 ∷ [])).text ≡ (ran meant seen).text ++ after.out.items
end_text meant reader after seen r took says =
    let b = brings meant line_result.Went reader after seen r took says in
    let gone = went_is (take_line meant b.reading (lines seen).1) after b.matches in
    ap (λ (q : Ran). q.text) (ran-over meant seen b.reading (Went gone.next gone.text) b.faultless gone.is)
    ∙ ap (λ (xs : List ℕ). (ran meant seen).text ++ xs) (append-nil gone.text ∙ sym gone.out)

pub end_after : (reader after : Reader) (seen : List ℕ) → HasRun reader seen → TakesLine line_result.Went reader after →
    Counts line_result.Went reader.lines_read after → HasRun after (seen ++ 10 ∷ [])
end_after reader after seen r took counts =
    record {
      keeps = record {
        stands = counts.2;
        line = counts.0 ∙ sym (ap (λ (s : Lines). s.1) (push_end seen));
        lines_read = omega (
          arith,
          counts.1,
          r.keeps.lines_read,
          ap (λ (s : Lines). length s.0) (push_end seen),
          length-append (lines seen).0 ((lines seen).1 ∷ []),
        );
      };
      after = λ meant says. let b = brings meant line_result.Went reader after seen r took says in
          let gone = went_is (take_line meant b.reading (lines seen).1) after b.matches in
          record {
            reading = gone.next;
            faultless = ap (λ (q : Ran). q.standing)
                (ran-over meant seen b.reading (Went gone.next gone.text) b.faultless gone.is);
            stands = gone.stands;
          };
    }

-- the line is at fault, and nothing is written of it
pub record IsAtFault (meant : List ℕ → Message) (seen : List ℕ) (number : ℕ) (reason : ScriptReason) : Type 0 where
  pub standing : (ran meant (seen ++ 10 ∷ [])).standing ≡ Fault number reason
  pub text : (ran meant (seen ++ 10 ∷ [])).text ≡ (ran meant seen).text

pub end_fault : (meant : List ℕ → Message) (reader after : Reader) (seen : List ℕ) (reason : ScriptReason) →
    HasRun reader seen → TakesLine (line_result.Faulty reason) reader after → after.lines_read ≡ reader.lines_read →
    AreRead meant (seen ++ 10 ∷ []) → IsAtFault meant seen (after.lines_read + 1) reason
end_fault meant reader after seen reason r took same says =
    let b = brings meant (line_result.Faulty reason) reader after seen r took says in
    let is = faulty_is (take_line meant b.reading (lines seen).1) reason after b.matches in
    let whole = ran-over meant seen b.reading (Faulty reason) b.faultless is in
    let number : 1 + length (lines seen).0 ≡ after.lines_read + 1 = omega (arith, same, r.keeps.lines_read) in
    record {
      standing = ap (λ (q : Ran). q.standing) whole ∙ ap (λ (n : ℕ). Fault n reason) number;
      text = ap (λ (q : Ran). q.text) whole ∙ append-nil (ran meant seen).text;
    }

-- fewer lines than bytes
pub taken_within : (reader : Reader) (seen : List ℕ) → HasRun reader seen → reader.lines_read ≤ length seen
taken_within reader seen r = omega (arith, r.keeps.lines_read, lines-count seen)

pub fault_within : (reader after : Reader) (seen : List ℕ) → HasRun reader seen →
    after.lines_read ≡ reader.lines_read → after.lines_read ≤ length (seen ++ 10 ∷ [])
fault_within reader after seen r same =
    omega (arith, same, taken_within reader seen r, length-append seen (10 ∷ []))

-- what stands there is a front of each longer transcript
pub front_so_far : (meant : List ℕ → Message) (old : Option (List ℕ)) (seen more : List ℕ) →
    WritesFrontOn old old (ran meant seen).text (ran meant (seen ++ more)).text
front_so_far meant old seen more =
    let longer = ran-longer meant seen more in
    front_longer old old (ran meant seen).text (ran meant seen).text longer.text (ran meant (seen ++ more)).text
    longer.text_is
    (front_all old old (ran meant seen).text (ran meant seen).text
    (on_same old (ran meant seen).text (ran meant seen).text refl))

-- ---- a line that didn't go

pub not_counted : (t : LineResult) (before : ℕ) (after : Reader) → t ≢ line_result.Went → after.lines_read ≡ before →
    Counts t before after
not_counted line_result.Went before after ne same = absurd (ne refl)
not_counted (line_result.Faulty reason) before after ne same = same
not_counted line_result.NoMemory before after ne same = tt

pub not_gone : (t : LineResult) (took : LineOutcome) (p : Progress) (out out' : List ℕ) (after : Reader) →
    t ≢ line_result.Went → Advances t took p out out' → Matches t took after
not_gone line_result.Went took p out out' after ne a = absurd (ne refl)
not_gone (line_result.Faulty reason) (Went reading text) p out out' after ne a = a
not_gone (line_result.Faulty reason) (Faulty other) p out out' after ne a = a
not_gone line_result.NoMemory took p out out' after ne a = tt
