-- Pieces, one after the other, and a whole call.
use Rattle.std.proofs.Common.{◌≡◌, ◌∙◌, sym, ap, subst, refl, ℕ, ◌≤◌}
use Rattle.std.proofs.Common.{Result, Ok, Err, List, [], ◌++◌, length, take, arith, append-nil}
use Rattle.outside.specs.Ends.{Rose, Takes}
use Rattle.outside.specs.declared.source.Got.TheVariants as got
use Rattle.role_model.specs.declared.metadata.Metadata.{Metadata}
use Rattle.machine.specs.Lines.{lines}
use Rattle.machine.specs.State.{Event}
use Rattle.history_lock.specs.PassViews.{PassView}
use Rattle.subs_engine.proofs.Owns.{did_nothing}
use Rattle.commit_server.specs.declared.end.CommitEnd.{CommitEnd}
use Rattle.commit_server.specs.declared.end.CommitEnd.TheVariants as end
use Rattle.commit_server.specs.Answers.{IsShort}
use Rattle.commit_server.specs.Commits.{SourceView, SinkView, Reads, Over, EndsBy, EndsShort}
use Rattle.commit_server.specs.Commits.{Commits}
use Rattle.commit_server.specs.Parts.{StopsBy, IsRest, Until, FedAs, Goes, Ends, TakesPiece}
use Rattle.commit_server.proofs.Writing.{writes_nothing, reads_then, reads_nothing, reads_piece, reads_end}
use Rattle.commit_server.proofs.Writing.{nothing_left, reads_failed}
use Rattle.commit_server.proofs.Feeding.{only_line, feeds_nothing, feeds_then, until_then}

-- ---- one piece

ends_by : (turns : ℕ) (s s' : SourceView) (k k' : SinkView) (e : CommitEnd) (over : Over) → StopsBy turns k k' e over →
    EndsBy turns s s' k k' e over
ends_by turns s s' k k' end.Ended over x = absurd x
ends_by turns s s' k k' end.SourceFault over x = absurd x
ends_by turns s s' k k' end.SinkFault over x = x
ends_by turns s s' k k' end.TooLong over x = x
ends_by turns s s' k k' end.Spent over x = x
ends_by turns s s' k k' end.NoMemory over x = x

-- so many bytes were read, and taken
pub takes_bytes : (p q : PassView Event Metadata) (s s' : SourceView) (k k' : SinkView) (line line' : List ℕ) (n : ℕ)
    (buf piece : List ℕ) (r : Result (Unit {0}) CommitEnd) → Takes s.left s'.left (got.Bytes n) buf →
    s.faults ≤ s'.faults → piece ≡ take n buf
    → FedAs p q k k' line line' piece r → TakesPiece p q s s' k k' line line' r
takes_bytes p q s s' k k' line line' n buf piece (Ok done) takes later is fed =
    record { read = piece; reads = subst (Reads s s') (sym is) (reads_piece s s' n buf takes later); feeds = fed }
takes_bytes p q s s' k k' line line' n buf piece (Err e) takes later is fed = record {
  over = fed.over;
  read = piece;
  reads = subst (Reads s s') (sym is) (reads_piece s s' n buf takes later);
  until = fed.until;
  ends = ends_by (length q.seen) s s' k k' e fed.over fed.stops;
}

module _ (p : PassView Event Metadata) (s s' : SourceView) (k : SinkView) (line buf : List ℕ) where
  -- nothing more was read
  until_nothing : (e : CommitEnd) → IsRest line → EndsShort e (only_line line)
      → Until p p k k line [] e (only_line line)
  until_nothing e rest short = record {
    answered = [];
    seen = [];
    seen_of = refl;
    lines_are = ap lines (append-nil line) ∙ rest;
    each = tt;
    short = tt;
    ends_short = short;
    did = did_nothing p;
    sent = [];
    texts = refl;
    writes = writes_nothing k;
  }

  pub ends_ended : IsRest line → IsShort line → Takes s.left s'.left got.End buf → s.faults ≤ s'.faults →
      Ends p p s s' k k line end.Ended
  ends_ended rest short takes later = record {
    over = only_line line;
    read = [];
    reads = reads_end s s' buf takes later;
    until = until_nothing end.Ended rest short;
    ends = (record { pending = refl; calls = refl; unsent = refl }, refl, nothing_left s s' buf takes);
  }

  pub ends_failed : IsRest line → IsShort line → Takes s.left s'.left got.Failed buf → s.faults ≤ s'.faults →
      Rose s.faults s'.faults → Ends p p s s' k k line end.SourceFault
  ends_failed rest short takes later rose = record {
    over = only_line line;
    read = [];
    reads = reads_failed s s' buf takes later;
    until = until_nothing end.SourceFault rest short;
    ends = (rose, record { pending = refl; calls = refl; unsent = refl }, refl);
  }

-- ---- pieces, one after the other

pub goes_nothing : (p : PassView Event Metadata) (s : SourceView) (k : SinkView) (line : List ℕ) → IsRest line →
    IsShort line → Goes p p s s k k line line
goes_nothing p s k line rest short = record {
  read = [];
  reads = reads_nothing s;
  feeds =
      feeds_nothing p k line rest short;
}

pub goes_then : (p q r : PassView Event Metadata) (s t u : SourceView) (k l m : SinkView) (line line' line'' : List ℕ) →
    Goes p q s t k l line line' → Goes q r t u l m line' line'' → Goes p r s u k m line line''
goes_then p q r s t u k l m line line' line'' a b = record {
  read = a.read ++ b.read;
  reads = reads_then s t u a.read b.read a.reads b.reads;
  feeds = feeds_then p q r k l m line line' line'' a.read b.read a.feeds b.feeds;
}

-- ---- a whole call

-- the end, seen from an earlier moment
ends_too : (turns : ℕ) (s t u : SourceView) (k l m : SinkView) (e : CommitEnd) (over : Over) (read : List ℕ) →
    Reads s t read → k.faults ≤ l.faults → EndsBy turns t u l m e over → EndsBy turns s u k m e over
ends_too turns s t u k l m end.Ended over read reads later x =
    (x.0, x.1, λ bytes told. let one = reads.told bytes told in x.2 one.0 one.1)
ends_too turns s t u k l m end.SourceFault over read reads later x = (omega (arith, x.0, reads.later), x.1, x.2)
ends_too turns s t u k l m end.SinkFault over read reads later x = (omega (arith, x.0, later), x.1, x.2)
ends_too turns s t u k l m end.TooLong over read reads later x = x
ends_too turns s t u k l m end.Spent over read reads later x = x
ends_too turns s t u k l m end.NoMemory over read reads later x = x

pub commits_all : (p q r : PassView Event Metadata) (s t u : SourceView) (k l m : SinkView) (line : List ℕ)
    (e : CommitEnd) → Goes p q s t k l [] line → Ends q r t u l m line e → Commits p r s u k m e
commits_all p q r s t u k l m line e a b =
    let until = until_then p q r k l m [] line a.read b.read e b.over a.feeds b.until in
    record {
      answered = until.answered;
      over = b.over;
      read = a.read ++ b.read;
      reads = reads_then s t u a.read b.read a.reads b.reads;
      seen = until.seen;
      seen_of = until.seen_of;
      lines_are = until.lines_are;
      each = until.each;
      short = until.short;
      ends_short = until.ends_short;
      did = until.did;
      sent = until.sent;
      texts = until.texts;
      writes = until.writes;
      ends = ends_too (length r.seen) s t u k l m e b.over a.read a.reads a.feeds.writes.later b.ends;
    }
