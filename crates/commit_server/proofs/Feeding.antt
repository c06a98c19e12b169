-- Bytes, one after the other.
use Rattle.std.proofs.Common.{◌≡◌, ◌≢◌, ◌∙◌, sym, ap, subst, refl, ℕ, ◌+◌, ◌≤◌, ◌<◌, ◌⊎◌, inl, inr}
use Rattle.std.proofs.Common.{List, [], ◌∷◌, ◌++◌, length, take, drop, get_or, arith, append_assoc}
use Rattle.std.proofs.Common.{append-nil, length-append}
use Rattle.std.specs.List.{AllByRecursion}
use Rattle.std.proofs.lemmas.List.{map-append, take_more, take-append-drop}
use Rattle.std.proofs.lemmas.Grind.{flat_map-append}
use Rattle.role_model.specs.declared.metadata.Metadata.{Metadata}
use Rattle.machine.specs.Lines.{lines}
use Rattle.machine.specs.State.{Event, Skip, Skipped}
use Rattle.history_lock.specs.PassViews.{PassView}
use Rattle.subs_engine.specs.Calls.{Call, Did, plain}
use Rattle.subs_engine.specs.Polls.{IsOne}
use Rattle.subs_engine.proofs.Owns.{did_nothing, did_then}
use Rattle.commit_server.specs.declared.end.CommitEnd.{CommitEnd}
use Rattle.commit_server.specs.declared.end.CommitEnd.TheVariants as end
use Rattle.commit_server.specs.Answers.{limit, IsShort, Answered, IsAnswered, line_of, lines_of, calls_by, calls_of}
use Rattle.commit_server.specs.Answers.{text_by, texts_of}
use Rattle.commit_server.specs.Commits.{SinkView, Writes, Over, EndsShort, LacksMemory, NotCommitted}
use Rattle.commit_server.specs.Parts.{StopsBy, LineStops, LineAnswered, IsRest, Feeds, Until, Stops}
use Rattle.commit_server.proofs.Lines.{rest-is, more-byte, line-end, lines-then}
use Rattle.commit_server.proofs.Writing.{writes_then, writes_nothing}

pub all_append : {X : Type 0} (P : X → Type 0) (xs ys : List X) → AllByRecursion P xs → AllByRecursion P ys →
    AllByRecursion P (xs ++ ys)
all_append P [] ys a b = b
all_append P (x ∷ xs) ys a b = (a.0, all_append P xs ys a.1 b)

-- nothing is over but these bytes behind the last line end
abbrev pub only_line : List ℕ → Over
only_line line = record { pending = []; calls = []; unsent = []; line = line; ahead = [] }

-- ---- one byte

-- a byte of a line
pub feeds_byte : (p : PassView Event Metadata) (k : SinkView) (line line' : List ℕ) (b : ℕ) → b ≢ 10 → IsRest line →
    length line < limit → line' ≡ line ++ b ∷ [] → Feeds p p k k line line' (b ∷ [])
feeds_byte p k line line' b ne rest short is = record {
  answered = [];
  lines_are = more-byte line b ne rest ∙ ap (λ (l : List ℕ). ([], l)) (sym is);
  each = tt;
  short = tt;
  short_line = omega (arith, ap length is, length-append line (b ∷ []));
  did = did_nothing p;
  writes = writes_nothing k;
}

-- a line end
pub feeds_line : (p q : PassView Event Metadata) (k k' : SinkView) (line line' : List ℕ) (b : ℕ) → b ≡ 10 →
    IsRest line → IsShort line → line' ≡ [] → LineAnswered p q k k' line → Feeds p q k k' line line' (b ∷ [])
feeds_line p q k k' line line' b is rest short none a = record {
  answered = a.answered ∷ [];
  lines_are = line-end line b is rest ∙ (λ i. (sym a.line_is i ∷ [], sym none i));
  each = (a.is, tt);
  short = (subst IsShort (sym a.line_is) short, tt);
  short_line = omega (arith, ap length none);
  did = subst (Did p q) (sym (append-nil a.answered.calls)) a.did;
  writes = subst (Writes k k') (sym (append-nil a.answered.text)) a.writes;
}

-- the end comes at a line
ends_short_by : (turns : ℕ) (k k' : SinkView) (e : CommitEnd) (over : Over) → over.line ≡ [] →
    StopsBy turns k k' e over → EndsShort e over
ends_short_by turns k k' end.Ended over none s = absurd s
ends_short_by turns k k' end.SourceFault over none s = absurd s
ends_short_by turns k k' end.SinkFault over none s = omega (arith, ap length none)
ends_short_by turns k k' end.TooLong over none s = tt
ends_short_by turns k k' end.Spent over none s = omega (arith, ap length none)
ends_short_by turns k k' end.NoMemory over none s = omega (arith, ap length none)

pub stops_line : (p q : PassView Event Metadata) (k k' : SinkView) (line : List ℕ) (b : ℕ) (e : CommitEnd) → b ≡ 10 →
    IsRest line → IsShort line → LineStops p q k k' line e → Stops p q k k' line (b ∷ []) e
stops_line p q k k' line b e is rest short s = record {
  over = s.over;
  until = record {
    answered = s.answered;
    seen = b ∷ [];
    seen_of = ap (λ (l : List ℕ). b ∷ l) (sym s.no_ahead);
    lines_are = line-end line b is rest ∙ (λ i. (sym s.line_is i, sym s.no_line i));
    each = s.each;
    short = subst (AllByRecursion IsShort) (sym s.line_is) (short, tt);
    ends_short = ends_short_by (length q.seen) k k' e s.over s.no_line s.stops;
    did = s.did;
    sent = s.sent;
    texts = s.texts;
    writes = s.writes;
  };
  stops = s.stops;
}

-- the line goes on by a byte, and serving ends
until_byte : (p : PassView Event Metadata) (k : SinkView) (line : List ℕ) (b : ℕ) (e : CommitEnd) → b ≢ 10 →
    IsRest line → EndsShort e (only_line (line ++ b ∷ []))
    → Until p p k k line (b ∷ []) e (only_line (line ++ b ∷ []))
until_byte p k line b e ne rest short = record {
  answered = [];
  seen = b ∷ [];
  seen_of = refl;
  lines_are = more-byte line b ne rest;
  each = tt;
  short = tt;
  ends_short = short;
  did = did_nothing p;
  sent = [];
  texts = refl;
  writes = writes_nothing k;
}

-- the line is too long
pub stops_long : (p : PassView Event Metadata) (k : SinkView) (line : List ℕ) (b : ℕ) → b ≢ 10 → IsRest line →
    limit ≤ length line → Stops p p k k line (b ∷ []) end.TooLong
stops_long p k line b ne rest long = record {
  over = only_line (line ++ b ∷ []);
  until = until_byte p k line b end.TooLong ne rest tt;
  stops = (omega (arith, length-append line (b ∷ []), long), record { pending = refl; calls = refl; unsent = refl });
}

-- a byte found no memory
pub stops_byte : (p : PassView Event Metadata) (k : SinkView) (line : List ℕ) (b : ℕ) → b ≢ 10 → IsRest line →
    length line < limit → Stops p p k k line (b ∷ []) end.NoMemory
stops_byte p k line b ne rest short = record {
  over = only_line (line ++ b ∷ []);
  until = until_byte p k line b end.NoMemory ne rest (omega (arith, length-append line (b ∷ []), short));
  stops = record { few = omega arith; calls = inl refl };
}

-- ---- bytes, one after the other

pub rest_after : (p q : PassView Event Metadata) (k k' : SinkView) (line line' bytes : List ℕ) →
    Feeds p q k k' line line' bytes → IsRest line'
rest_after p q k k' line line' bytes f = rest-is (line ++ bytes) (lines_of f.answered) line' f.lines_are

pub feeds_nothing : (p : PassView Event Metadata) (k : SinkView) (line : List ℕ) → IsRest line → IsShort line →
    Feeds p p k k line line []
feeds_nothing p k line rest short = record {
  answered = [];
  lines_are = ap lines (append-nil line) ∙ rest;
  each = tt;
  short = tt;
  short_line = short;
  did = did_nothing p;
  writes = writes_nothing k;
}

pub feeds_then : (p q r : PassView Event Metadata) (k l m : SinkView) (line line' line'' xs ys : List ℕ) →
    Feeds p q k l line line' xs → Feeds q r l m line' line'' ys → Feeds p r k m line line'' (xs ++ ys)
feeds_then p q r k l m line line' line'' xs ys a b = record {
  answered = a.answered ++ b.answered;
  lines_are = ap lines (sym (append_assoc line xs ys)) ∙ lines-then (line ++ xs) ys (lines_of a.answered)
      (lines_of b.answered) line' line'' a.lines_are b.lines_are
      ∙ ap (λ (l : List (List ℕ)). (l, line'')) (sym (map-append line_of a.answered b.answered));
  each = all_append IsAnswered a.answered b.answered a.each b.each;
  short = subst (AllByRecursion IsShort) (sym (map-append line_of a.answered b.answered))
      (all_append IsShort (lines_of a.answered) (lines_of b.answered) a.short b.short);
  short_line = b.short_line;
  did = subst (Did p r) (sym (flat_map-append calls_by a.answered b.answered))
      (did_then p q r (calls_of a.answered) (calls_of b.answered) a.did b.did);
  writes = subst (Writes k m) (sym (flat_map-append text_by a.answered b.answered))
      (writes_then k l m (texts_of a.answered) (texts_of b.answered) a.writes b.writes);
}

-- how serving ends, seen from an earlier moment
stops_too : (turns : ℕ) (k l m : SinkView) (e : CommitEnd) (over : Over) → k.faults ≤ l.faults →
    StopsBy turns l m e over → StopsBy turns k m e over
stops_too turns k l m end.Ended over later s = s
stops_too turns k l m end.SourceFault over later s = s
stops_too turns k l m end.SinkFault over later s = (omega (arith, s.0, later), s.1, s.2)
stops_too turns k l m end.TooLong over later s = s
stops_too turns k l m end.Spent over later s = s
stops_too turns k l m end.NoMemory over later s = s

lines-three : (xs ys : List Answered) (pending : List (List ℕ)) → lines_of xs ++ (lines_of ys ++ pending) ≡ lines_of
    (xs ++ ys) ++ pending
lines-three xs ys pending = sym (append_assoc (lines_of xs) (lines_of ys) pending)
    ∙ ap (λ (l : List (List ℕ)). l ++ pending) (sym (map-append line_of xs ys))

-- bytes, and then the end
pub until_then : (p q r : PassView Event Metadata) (k l m : SinkView) (line line' xs ys : List ℕ) (e : CommitEnd)
    (over : Over) → Feeds p q k l line line' xs → Until q r l m line' ys e over → Until p r k m line (xs ++ ys) e over
until_then p q r k l m line line' xs ys e over a s = record {
  answered = a.answered ++ s.answered;
  seen = xs ++ s.seen;
  seen_of = ap (λ (l : List ℕ). xs ++ l) s.seen_of ∙ sym (append_assoc xs s.seen over.ahead);
  lines_are = ap lines (sym (append_assoc line xs s.seen))
      ∙ lines-then (line ++ xs) s.seen (lines_of a.answered) (lines_of s.answered ++ over.pending) line' over.line
      a.lines_are s.lines_are
      ∙ ap (λ (l : List (List ℕ)). (l, over.line)) (lines-three a.answered s.answered over.pending);
  each = all_append IsAnswered a.answered s.answered a.each s.each;
  short = subst (AllByRecursion IsShort) (lines-three a.answered s.answered over.pending)
      (all_append IsShort (lines_of a.answered) (lines_of s.answered ++ over.pending) a.short s.short);
  ends_short = s.ends_short;
  did = subst (Did p r) (sym (append_assoc (calls_of a.answered) (calls_of s.answered) over.calls)
      ∙ ap (λ (l : List Call). l ++ over.calls) (sym (flat_map-append calls_by a.answered s.answered)))
      (did_then p q r (calls_of a.answered) (calls_of s.answered ++ over.calls) a.did s.did);
  sent = texts_of a.answered ++ s.sent;
  texts = flat_map-append text_by a.answered s.answered ∙ ap (λ (l : List ℕ). texts_of a.answered ++ l) s.texts
      ∙ sym (append_assoc (texts_of a.answered) s.sent over.unsent);
  writes = writes_then k l m (texts_of a.answered) s.sent a.writes s.writes;
}

pub stops_then : (p q r : PassView Event Metadata) (k l m : SinkView) (line line' xs ys : List ℕ) (e : CommitEnd) →
    Feeds p q k l line line' xs → Stops q r l m line' ys e → Stops p r k m line (xs ++ ys) e
stops_then p q r k l m line line' xs ys e a s = record {
  over = s.over;
  until = until_then p q r k l m line line' xs ys e s.over a s.until;
  stops = stops_too (length r.seen) k l m e s.over a.writes.later s.stops;
}

-- what is over, with other bytes ahead
abbrev pub with_ahead : List ℕ → Over → Over
with_ahead ahead over = record {
  pending = over.pending;
  calls = over.calls;
  unsent = over.unsent;
  line = over.line;
  ahead = ahead;
}

ends_more : (e : CommitEnd) (over : Over) (ahead : List ℕ) → EndsShort e over → EndsShort e (with_ahead ahead over)
ends_more end.Ended over ahead s = s
ends_more end.SourceFault over ahead s = s
ends_more end.SinkFault over ahead s = s
ends_more end.TooLong over ahead s = s
ends_more end.Spent over ahead s = s
ends_more end.NoMemory over ahead s = s

not_committed_too : (over : Over) (ahead : List ℕ) → NotCommitted over → NotCommitted (with_ahead ahead over)
not_committed_too over ahead s = record { line = s.line; pending = s.pending; is = s.is; unsent = s.unsent }

lacks_too : (over : Over) (ahead : List ℕ) → LacksMemory over → LacksMemory (with_ahead ahead over)
lacks_too over ahead s = record { few = s.few; calls = cases s.calls }
  where
    cases : (over.calls ≡ []) ⊎ (IsOne over.calls Skip (plain Skipped) × NotCommitted over) →
        (over.calls ≡ []) ⊎ (IsOne over.calls Skip (plain Skipped) × NotCommitted (with_ahead ahead over))
    cases (inl a) = inl a
    cases (inr b) = inr (b.0, not_committed_too over ahead b.1)

stops_more : (turns : ℕ) (k k' : SinkView) (e : CommitEnd) (over : Over) (ahead : List ℕ) → StopsBy turns k k' e over →
    StopsBy turns k k' e (with_ahead ahead over)
stops_more turns k k' end.Ended over ahead s = s
stops_more turns k k' end.SourceFault over ahead s = s
stops_more turns k k' end.SinkFault over ahead s = s
stops_more turns k k' end.TooLong over ahead s = (
  s.0,
  record {
    pending = s.1.pending;
    calls = s.1.calls;
    unsent = s.1.unsent;
  },
)
stops_more turns k k' end.Spent over ahead s = (s.0, s.1, not_committed_too over ahead s.2)
stops_more turns k k' end.NoMemory over ahead s = lacks_too over ahead s

-- bytes behind the end are ahead of it
pub stops_ahead : (p q : PassView Event Metadata) (k k' : SinkView) (line xs ys : List ℕ) (e : CommitEnd) →
    Stops p q k k' line xs e → Stops p q k k' line (xs ++ ys) e
stops_ahead p q k k' line xs ys e s = let u = s.until in record {
  over = with_ahead (s.over.ahead ++ ys) s.over;
  until = record {
    answered = u.answered;
    seen = u.seen;
    seen_of = ap (λ (l : List ℕ). l ++ ys) u.seen_of ∙ append_assoc u.seen s.over.ahead ys;
    lines_are = u.lines_are;
    each = u.each;
    short = u.short;
    ends_short = ends_more e s.over (s.over.ahead ++ ys) u.ends_short;
    did = u.did;
    sent = u.sent;
    texts = u.texts;
    writes = u.writes;
  };
  stops = stops_more (length q.seen) k k' e s.over (s.over.ahead ++ ys) s.stops;
}

-- ---- the bytes of a piece

-- one more byte
pub feeds_more : (p q r : PassView Event Metadata) (k l m : SinkView) (line line' line'' piece : List ℕ) (i : ℕ) →
    i < length piece → Feeds p q k l line line' (take i piece)
    → Feeds q r l m line' line'' (get_or piece i 0 ∷ []) → Feeds p r k m line line'' (take (i + 1) piece)
feeds_more p q r k l m line line' line'' piece i lt a b =
    subst (Feeds p r k m line line'') (sym (take_more piece i 0 lt))
    (feeds_then p q r k l m line line' line'' (take i piece) (get_or piece i 0 ∷ []) a b)

whole_piece : (piece : List ℕ) (i : ℕ) → i < length piece →
    (take i piece ++ get_or piece i 0 ∷ []) ++ drop (i + 1) piece ≡ piece
whole_piece piece i lt = ap (λ (l : List ℕ). l ++ drop (i + 1) piece) (sym (take_more piece i 0 lt))
    ∙ take-append-drop (i + 1) piece

-- serving ends at a byte
pub stops_within : (p q r : PassView Event Metadata) (k l m : SinkView) (line line' piece : List ℕ) (i : ℕ)
    (e : CommitEnd) → i < length piece → Feeds p q k l line line' (take i piece)
    → Stops q r l m line' (get_or piece i 0 ∷ []) e → Stops p r k m line piece e
stops_within p q r k l m line line' piece i e lt a s =
    subst (λ (xs : List ℕ). Stops p r k m line xs e) (whole_piece piece i lt)
    (stops_ahead p r k m line (take i piece ++ get_or piece i 0 ∷ []) (drop (i + 1) piece) e
    (stops_then p q r k l m line line' (take i piece) (get_or piece i 0 ∷ []) e a s))
