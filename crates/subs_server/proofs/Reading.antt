-- Metadata, read piece by piece.
use Rattle.std.proofs.Common.{◌≡◌, ◌∙◌, sym, ap, subst, ℕ, ◌≤◌, ◌<◌, inl, inr, Option, List, [], ◌++◌, length, take, arith}
use Rattle.outside.specs.Ends.{Rose, Takes}
use Rattle.outside.specs.declared.source.Got.TheVariants as got
use Rattle.commit_server.specs.Commits.{SourceView, Reads}
use Rattle.commit_server.proofs.Writing.{reads_then, reads_piece, reads_nothing}
use Rattle.subs_server.specs.Mains.{Held, metadata_limit}

pub text_nothing : (s : SourceView) → Reads s s []
text_nothing s = reads_nothing s

-- one more piece
pub text_more : (s t u : SourceView) (n : ℕ) (text text' buf piece : List ℕ) → Reads s t text → Takes t.left u.left (got.Bytes n) buf → t.faults ≤ u.faults → piece ≡ take n buf → text' ≡ text ++ piece → Reads s u text'
text_more s t u n text text' buf piece reads takes later is whole =
    subst (Reads s u) (sym (whole ∙ ap (λ (l : List ℕ). text ++ l) is)) (reads_then s t u text (take n buf) reads (reads_piece t u n buf takes later))

-- nothing is left
pub held_whole : (s t u : SourceView) (text buf : List ℕ) → Reads s t text → Takes t.left u.left got.End buf → Held s.left u.left text
held_whole s t u text buf reads takes = λ all told.
    let one = reads.told all told in
    let took = subst (λ (o : Option (List ℕ)). Takes o u.left got.End buf) one.1 takes in
    (one.0, took.1, one.2, inl took.0)

-- too much came
pub held_past : (s t : SourceView) (text : List ℕ) → Reads s t text → metadata_limit < length text → Held s.left t.left text
held_past s t text reads past = λ all told. let one = reads.told all told in (one.0, one.1, one.2, inr past)

pub later_then : (s t u : SourceView) (text : List ℕ) → Reads s t text → t.faults ≤ u.faults → s.faults ≤ u.faults
later_then s t u text reads later = omega (arith, reads.later, later)

pub rose_then : (s t u : SourceView) (text : List ℕ) → Reads s t text → Rose t.faults u.faults → Rose s.faults u.faults
rose_then s t u text reads rose = omega (arith, reads.later, rose)
