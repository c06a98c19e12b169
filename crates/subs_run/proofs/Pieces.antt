-- A run, piece by piece.
use Rattle.std.proofs.Common.{◌≡◌, ◌≢◌, ◌∙◌, ◌≤◌, ◌<◌, ◌+◌, arith, sym, ap, subst, refl, ℕ, Option, Some, List, [], ◌++◌, length, length-append, append_assoc, append-nil, take, drop}
use Rattle.std.proofs.lemmas.List.{take-append-drop, length-take-le}
use Rattle.outside.specs.Ends.{Takes}
use Rattle.outside.specs.declared.source.Got.TheVariants as got
use Rattle.machine.specs.Messages.{Message}
use Rattle.machine.specs.Lines.{lines}
use Rattle.machine.specs.Run.{run}
use Rattle.machine.specs.Script.{Reading, Heading, Running, limit, ended, outcome, output}
use Rattle.machine.specs.declared.script.ScriptReason.{ScriptReason}
use Rattle.machine.specs.declared.script.ScriptReason.TheVariants.{Size}
use Rattle.subs_run.specs.declared.answer.RunEnd.{RunEnd}
use Rattle.subs_run.specs.declared.answer.RunEnd.TheVariants as run_end
use Rattle.subs_run.specs.declared.reader.Reader.{Reader}
use Rattle.subs_run.specs.declared.reader.PieceOutcome.{PieceOutcome}
use Rattle.subs_run.specs.declared.reader.PieceOutcome.TheVariants as piece_outcome
use Rattle.subs_run.specs.Runs.{ran, Reads, EndsAs, HasRead}
use Rattle.subs_run.specs.Written.{WritesOn}
use Rattle.subs_run.specs.declared.progress.Progress.{Progress}
use Rattle.subs_run.specs.declared.progress.Progress.TheVariants as progress
use Rattle.subs_run.specs.Progress.{StandsAt, HasStand}
use Rattle.subs_run.specs.Standing.{Keeps, IsAfter, AreRead, HasRun}
use Rattle.subs_run.specs.Pieces.{ClosesAs, EndsOn, IsNeither, TakesTo, WasRead, ends, IsAt, ClosedAs, LeadsTo}
use Rattle.subs_run.proofs.Rans.{read-front}
use Rattle.subs_run.proofs.Outcomes.{HasOutcome, reads-front, outcome-end, outcome-size, ends_on, ends_as, ends_whole, ends_front}

-- Reading

abbrev GivesOf : Option (List ℕ) → List ℕ → List ℕ → ℕ → Type 0
GivesOf left' rest buf n = (take n buf ≡ take n rest) × (n ≤ length rest) × (left' ≡ Some (drop n rest))

regroup : (read piece rest more : List ℕ) → rest ≡ piece ++ more → read ++ rest ≡ (read ++ piece) ++ more
regroup read piece rest more e = ap (λ xs. read ++ xs) e ∙ sym (append_assoc read piece more)

rest_is : (rest buf : List ℕ) (n : ℕ) → take n buf ≡ take n rest → rest ≡ take n buf ++ drop n rest
rest_is rest buf n e = sym (take-append-drop n rest) ∙ ap (λ xs. xs ++ drop n rest) (sym e)

pub read_more : (left mid left' : Option (List ℕ)) (seen buf : List ℕ) (n : ℕ) → WasRead left mid seen →
    Takes mid left' (got.Bytes n) buf → WasRead left left' (seen ++ take n buf)
read_more left mid left' seen buf n read takes all told =
    let r = read all told in
    let t : GivesOf left' r.0 buf n = subst (λ l. Takes l left' (got.Bytes n) buf) r.2 takes in
    (drop n r.0, r.1 ∙ regroup seen (take n buf) r.0 (drop n r.0) (rest_is r.0 buf n t.0), t.2)

-- how long what came is
pub came : (left mid left' : Option (List ℕ)) (seen buf : List ℕ) (n : ℕ) (all : List ℕ) → WasRead left mid seen →
    Takes mid left' (got.Bytes n) buf → left ≡ Some all → (rest : List ℕ) × (all ≡ seen ++ rest) × (n ≤ length rest)
came left mid left' seen buf n all read takes told =
    let r = read all told in
    let t : GivesOf left' r.0 buf n = subst (λ l. Takes l left' (got.Bytes n) buf) r.2 takes in
    (r.0, r.1, t.1)

pub read_end : (left mid left' : Option (List ℕ)) (seen buf : List ℕ) → WasRead left mid seen →
    Takes mid left' got.End buf → (all : List ℕ) → left ≡ Some all → (all ≡ seen) × (left' ≡ Some [])
read_end left mid left' seen buf read takes all told =
    let r = read all told in
    let t : (r.0 ≡ []) × (left' ≡ Some r.0) = subst (λ l. Takes l left' got.End buf) r.2 takes in
    (r.1 ∙ (ap (λ xs. seen ++ xs) t.0 ∙ append-nil seen), t.1 ∙ ap (λ xs. Some xs) t.0)

-- The end

behind : (written : Option (List ℕ)) (w : List ℕ) → written ≡ Some w → written ≡ Some (w ++ [])
behind written w told = told ∙ ap (λ (xs : List ℕ). Some xs) (sym (append-nil w))

-- the whole script is known at the end, and its end
pub record Knows (end : RunEnd) (left left' mid new : Option (List ℕ)) (seen : List ℕ) : Type 0 where
  pub front : (all : List ℕ) → left ≡ Some all → (rest : List ℕ) × (all ≡ seen ++ rest)
  pub within : length seen ≤ limit
  pub ends : (all : List ℕ) → left ≡ Some all → (meant : List ℕ → Message) → Reads meant all →
      EndsOn meant end mid new (ran meant seen).text all
  pub read : (all : List ℕ) → left ≡ Some all → HasRead all left'
  pub done : end ≡ run_end.Done → (all : List ℕ) → left ≡ Some all → left' ≡ Some []
  pub other : end ≢ run_end.SourceFault

front_says : (meant : List ℕ → Message) (all seen rest : List ℕ) → all ≡ seen ++ rest → length seen ≤ limit →
    Reads meant all → AreRead meant seen
front_says meant all seen rest e h reads = reads-front meant seen rest h (subst (Reads meant) e reads)

pub closed_as : (end : RunEnd) (left left' written mid new : Option (List ℕ)) (seen : List ℕ) →
    ((meant : List ℕ → Message) → AreRead meant seen → WritesOn written mid [] (ran meant seen).text) →
    Knows end left left' mid new seen → ClosedAs end (ends left written) (ends left' new)
closed_as end left left' written mid new seen lines k =
    record {
      done = λ e all told. record {
        read = k.done e all told;
        faultless = λ meant reads. let as_end : EndsAs end (outcome meant all).fault =
            ends_as meant end mid new (ran meant seen).text all (k.ends all told meant reads) in
            subst (λ (x : RunEnd). EndsAs x (outcome meant all).fault) e as_end;
      };
      fault = λ all told meant reads.
          ends_as meant end mid new (ran meant seen).text all (k.ends all told meant reads);
      whole = λ h all w told told_w meant reads.
          ends_whole meant end mid new (ran meant seen).text all h (k.ends all told meant reads) w
          (wrote all told meant reads w told_w);
      lines = λ e all w told told_w. absurd (k.other e);
      front = λ h all w told told_w meant reads.
          let p = ends_front meant end mid new (ran meant seen).text all h (k.ends all told meant reads) w
          (wrote all told meant reads w told_w) in
          record { count = p.0; front = p.1 };
      reads = k.read;
    }
  where
    wrote : (all : List ℕ) → left ≡ Some all → (meant : List ℕ → Message) → Reads meant all → (w : List ℕ) →
        written ≡ Some w → mid ≡ Some (w ++ (ran meant seen).text)
    wrote all told meant reads w told_w =
        let f = k.front all told in
        lines meant (front_says meant all seen f.0 f.1 k.within reads) w (behind written w told_w)

not_source : (end : RunEnd) → IsNeither end → (end ≢ run_end.SourceFault) × (end ≢ run_end.Done)
not_source run_end.Done n = absurd n
not_source (run_end.ScriptFault line reason) n = (λ e. cc, λ e. cc)
not_source run_end.SourceFault n = absurd n
not_source run_end.SinkFault n = (λ e. cc, λ e. cc)
not_source run_end.NoMemory n = (λ e. cc, λ e. cc)

-- a piece came, and was run or not
pub piece_came : (t : PieceOutcome) (left mid left' written old new : Option (List ℕ)) (reader after : Reader)
    (buf : List ℕ) (count n : ℕ) (a : IsAt (ends left written) (ends mid old) reader count) →
    Takes mid left' (got.Bytes n) buf → 0 < n → n ≤ length buf → count + n ≤ limit →
    TakesTo t after old new a.seen (take n buf) → LeadsTo t (ends left written) (ends left' new) after count
piece_came (piece_outcome.Read m) left mid left' written old new reader after buf count n a takes some within few took =
    let long : length (take n buf) ≡ n = length-take-le n buf within in
    let m_is : m ≡ n = took.2 ∙ long in (
      record {
        seen = a.seen ++ take n buf;
        after = took.0;
        read = read_more left mid left' a.seen buf n a.read takes;
        lines = λ meant says w told.
            took.1 meant says w (a.lines meant (read-front meant a.seen (take n buf) says) w told);
        count_is = omega (arith, length-append a.seen (take n buf), a.count_is, m_is, long);
        within = omega (arith, m_is);
      },
      omega (arith, m_is),
    )
piece_came (piece_outcome.Ended end) left mid left' written old new reader after buf count n a takes some within few
    took =
    let long : length (take n buf) ≡ n = length-take-le n buf within in
    let other = not_source end took.0 in
    closed_as end left left' written old new a.seen a.lines (record {
      front = λ all told. let r = a.read all told in (r.0, r.1);
      within = omega (arith, a.count_is, a.within);
      ends = λ all told meant reads. let r = read_more left mid left' a.seen buf n a.read takes all told in
          subst (EndsOn meant end old new (ran meant a.seen).text) (sym r.1)
          (took.1 meant r.0 (subst (Reads meant) r.1 reads));
      read = λ all told. let r = read_more left mid left' a.seen buf n a.read takes all told in
          record {
            read = a.seen ++ take n buf;
            rest = r.0;
            all_is = r.1;
            left_is = r.2;
            within = omega (arith, length-append a.seen (take n buf), a.count_is, long);
          };
      done = λ e all told. absurd (other.1 e);
      other = other.0;
    })

not_source_at : (end : RunEnd) (old new : Option (List ℕ)) (fault : Option (ℕ × ScriptReason)) →
    ClosesAs end old new fault → end ≢ run_end.SourceFault
not_source_at run_end.Done old new fault c e = cc
not_source_at (run_end.ScriptFault line reason) old new fault c e = cc
not_source_at run_end.SourceFault old new fault c e = c
not_source_at run_end.SinkFault old new fault c e = cc
not_source_at run_end.NoMemory old new fault c e = cc

-- what the end is told of, by the reader
ended_by : (meant : List ℕ → Message) (reader : Reader) (seen : List ℕ) → Keeps reader seen →
    (a : IsAfter meant reader seen) → length seen ≤ limit →
    HasOutcome meant seen (ran meant seen).text (ended (reader.lines_read + 1) reader.line.items a.reading)
ended_by meant reader seen k a h =
    subst
    (λ (l : List ℕ). HasOutcome meant seen (ran meant seen).text (ended (reader.lines_read + 1) l a.reading))
    (sym k.line)
    (subst
    (λ (n : ℕ). HasOutcome meant seen (ran meant seen).text (ended (n + 1) (lines seen).1 a.reading))
    (sym k.lines_read) (outcome-end meant seen a.reading h a.faultless))

-- a reader stands at some reading, whatever the texts of clients mean
pub some_reading : (p : Progress) (n : ℕ) → HasStand p n → (reading : Reading) × StandsAt p reading
some_reading (progress.Heading metadata) n stand = (Heading metadata.items, refl)
some_reading (progress.Running runner) n stand = (
  Running runner.hub.meta (run runner.hub.meta stand.1.0),
  record { history = stand.1.0; runs = stand.1.1; is = refl },
)

pub finished : (end : RunEnd) (left mid left' written old new : Option (List ℕ)) (reader : Reader) (buf : List ℕ)
    (count : ℕ) → IsAt (ends left written) (ends mid old) reader count → Takes mid left' got.End buf →
    ((reading : Reading) → StandsAt reader.progress reading →
    ClosesAs end old new (ended (reader.lines_read + 1) reader.line.items reading)) →
    ClosedAs end (ends left written) (ends left' new)
finished end left mid left' written old new reader buf count a takes closes =
    let within : length a.seen ≤ limit = omega (arith, a.count_is, a.within) in
    let some = some_reading reader.progress reader.lines_read a.after.keeps.stands in
    closed_as end left left' written old new a.seen a.lines (record {
      front = λ all told. let r = a.read all told in (r.0, r.1);
      within = within;
      ends = λ all told meant reads. let r = read_end left mid left' a.seen buf a.read takes all told in
          let f = a.read all told in
          let at = a.after.after meant (front_says meant all a.seen f.0 f.1 within reads) in
          subst (EndsOn meant end old new (ran meant a.seen).text) (sym r.0)
          (ends_on meant end old new (ran meant a.seen).text a.seen
          (ended (reader.lines_read + 1) reader.line.items at.reading) (closes at.reading at.stands)
          (ended_by meant reader a.seen a.after.keeps at within));
      read = λ all told. let r = read_end left mid left' a.seen buf a.read takes all told in
          record {
            read = a.seen;
            rest = [];
            all_is = r.0 ∙ sym (append-nil a.seen);
            left_is = r.1;
            within = omega (arith, within);
          };
      done = λ e all told. (read_end left mid left' a.seen buf a.read takes all told).1;
      other = not_source_at end old new (ended (reader.lines_read + 1) reader.line.items some.0)
          (closes some.0 some.1);
    })

not_done_at : (end : RunEnd) (old new : Option (List ℕ)) (line : ℕ) (reason : ScriptReason) →
    ClosesAs end old new (Some (line, reason)) → end ≢ run_end.Done
not_done_at run_end.Done old new line reason c e = let none = c.0 in cc
not_done_at (run_end.ScriptFault n r) old new line reason c e = cc
not_done_at run_end.SourceFault old new line reason c e = c
not_done_at run_end.SinkFault old new line reason c e = cc
not_done_at run_end.NoMemory old new line reason c e = cc

-- one byte more than a script may have
pub too_long : (end : RunEnd) (left mid left' written old new : Option (List ℕ)) (reader : Reader) (buf : List ℕ)
    (n : ℕ) → IsAt (ends left written) (ends mid old) reader limit → Takes mid left' (got.Bytes n) buf → 0 < n →
    n ≤ 1 → n ≤ length buf → ClosesAs end old new (Some (reader.lines_read + 1, Size)) →
    ClosedAs end (ends left written) (ends left' new)
too_long end left mid left' written old new reader buf n a takes some one within closes =
    let long : length (take n buf) ≡ n = length-take-le n buf within in
    let full : length a.seen ≡ limit = omega (arith, a.count_is) in
    closed_as end left left' written old new a.seen a.lines (record {
      front = λ all told. let r = a.read all told in (r.0, r.1);
      within = omega (arith, full);
      ends = λ all told meant reads.
          let r = came left mid left' a.seen buf n all a.read takes told in
          let at = a.after.after meant (front_says meant all a.seen r.0 r.1 (omega (arith, full)) reads) in
          let known : HasOutcome meant all (ran meant a.seen).text (Some (reader.lines_read + 1, Size)) =
          subst
          (λ (xs : List ℕ). HasOutcome meant xs (ran meant a.seen).text (Some (reader.lines_read + 1, Size)))
          (sym r.1)
          (subst
          (λ (k : ℕ). HasOutcome meant (a.seen ++ r.0) (ran meant a.seen).text (Some (k + 1, Size)))
          (sym a.after.keeps.lines_read)
          (outcome-size meant a.seen r.0 at.reading full (omega (arith, r.2)) at.faultless)) in
          ends_on meant end old new (ran meant a.seen).text all (Some (reader.lines_read + 1, Size)) closes known;
      read = λ all told. let r = read_more left mid left' a.seen buf n a.read takes all told in
          record {
            read = a.seen ++ take n buf;
            rest = r.0;
            all_is = r.1;
            left_is = r.2;
            within = omega (arith, length-append a.seen (take n buf), full, long);
          };
      done = λ e all told. absurd (not_done_at end old new (reader.lines_read + 1) Size closes e);
      other = not_source_at end old new (Some (reader.lines_read + 1, Size)) closes;
    })

pub neither : (end : RunEnd) (old new : Option (List ℕ)) (line : ℕ) (reason : ScriptReason) →
    ClosesAs end old new (Some (line, reason)) → IsNeither end
neither run_end.Done old new line reason c = absurd (not_done_at run_end.Done old new line reason c refl)
neither (run_end.ScriptFault n r) old new line reason c = tt
neither run_end.SourceFault old new line reason c = c
neither run_end.SinkFault old new line reason c = tt
neither run_end.NoMemory old new line reason c = tt
