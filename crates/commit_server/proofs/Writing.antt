-- What was written and read, call by call.
use Rattle.std.proofs.Common.{◌≡◌, ◌∙◌, sym, ap, subst, refl, ℕ, ◌+◌, ◌≤◌, ◌⊎◌, inl, inr, Option, Some}
use Rattle.std.proofs.Common.{List, [], ◌++◌, take, drop, arith, append_assoc, append-nil}
use Rattle.std.proofs.Common.{take-add}
use Rattle.std.proofs.lemmas.List.{take-append-drop}
use Rattle.outside.specs.Ends.{Adds, Takes, Rose}
use Rattle.outside.specs.declared.sink.Put.TheVariants as put
use Rattle.outside.specs.declared.source.Got.TheVariants as got
use Rattle.commit_server.specs.declared.end.CommitEnd.{CommitEnd}
use Rattle.commit_server.specs.declared.end.CommitEnd.TheVariants as end
use Rattle.commit_server.specs.Commits.{SourceView, SinkView, Reads, Writes}
use Rattle.commit_server.specs.Parts.{WritesFront}

-- ---- sinks

pub writes_then : (k l m : SinkView) (xs ys : List ℕ) → Writes k l xs → Writes l m ys → Writes k m (xs ++ ys)
writes_then k l m xs ys a b = record {
  told = λ before told. b.told (before ++ xs) (a.told before told) ∙ ap Some (append_assoc before xs ys);
  later = omega (arith, a.later, b.later);
}

pub writes_nothing : (k : SinkView) → Writes k k []
writes_nothing k = record { told = λ before told. told ∙ ap Some (sym (append-nil before)); later = omega arith }

-- the same bytes
pub writes_same : (k l : SinkView) (xs ys : List ℕ) → xs ≡ ys → Writes k l xs → Writes k l ys
writes_same k l xs ys e w = subst (Writes k l) e w

-- a call that took n more bytes
pub writes_more : (k l m : SinkView) (text rest : List ℕ) (at n : ℕ) → Writes k l (take at text) → rest ≡ drop at text →
    Adds l.written m.written (put.Bytes n) rest → l.faults ≤ m.faults → Writes k m (take (at + n) text)
writes_more k l m text rest at n a is adds later = record {
  told = λ before told. subst (λ (o : Option (List ℕ)). Adds o m.written (put.Bytes n) rest) (a.told before told) adds
      ∙ ap (λ (ys : List ℕ). Some ys) (rw (is, take-add) (append_assoc before _ _));
  later = omega (arith, a.later, later);
}

-- a call that took none
pub writes_no_more : (k l m : SinkView) (text : List ℕ) (at : ℕ) (e : CommitEnd) → Writes k l (take at text) →
    ((before : List ℕ) → l.written ≡ Some before → m.written ≡ Some before) → l.faults ≤ m.faults
    → (e ≡ end.SinkFault → Rose l.faults m.faults) → (e ≡ end.SinkFault) ⊎ (e ≡ end.NoMemory) → WritesFront k m text e
writes_no_more k l m text at e a same later fault sink = record {
  sent = take at text;
  unsent = drop at text;
  whole = sym (take-append-drop at text);
  writes = record {
    told = λ before told. same (before ++ take at text) (a.told before told);
    later =
        omega (arith, a.later, later);
  };
  fault = λ is. omega (arith, fault is, a.later);
  sink = sink;
}

sink_same : (l m : SinkView) (r : Option (List ℕ)) (rest : List ℕ) → r ≡ l.written → Adds r m.written put.Failed rest →
    (before : List ℕ) → l.written ≡ Some before → m.written ≡ Some before
sink_same l m r rest e adds before told = subst (λ (o : Option (List ℕ)). Adds o m.written put.Failed rest) (e
    ∙ told) adds

pub writes_failed : (k l m : SinkView) (text rest : List ℕ) (at : ℕ) → Writes k l (take at text) →
    Adds l.written m.written put.Failed rest → l.faults ≤ m.faults → Rose l.faults m.faults →
    WritesFront k m text end.SinkFault
writes_failed k l m text rest at a adds later rose = writes_no_more k l m text at end.SinkFault a
    (sink_same l m l.written rest refl adds) later (λ e. rose) (inl refl)

pub writes_refused : (k l m : SinkView) (text rest : List ℕ) (at : ℕ) → Writes k l (take at text) →
    Adds l.written m.written put.NoMemory rest → l.faults ≤ m.faults → WritesFront k m text end.NoMemory
writes_refused k l m text rest at a adds later = writes_no_more k l m text at end.NoMemory a
    (λ before told. subst (λ (o : Option (List ℕ)). Adds o m.written put.NoMemory rest) told adds) later
    (λ e. absurd (cc)) (inr refl)

-- ---- sources

pub reads_then : (s t u : SourceView) (xs ys : List ℕ) → Reads s t xs → Reads t u ys → Reads s u (xs ++ ys)
reads_then s t u xs ys a b = record {
  told = λ bytes told. let one = a.told bytes told in let two = b.told one.0 one.1 in
      (two.0, two.1, one.2 ∙ ap (λ (l : List ℕ). xs ++ l) two.2 ∙ sym (append_assoc xs ys two.0));
  later = omega (arith, a.later, b.later);
}

pub reads_nothing : (s : SourceView) → Reads s s []
reads_nothing s = record { told = λ bytes told. (bytes, told, refl); later = omega arith }

pub reads_piece : (s t : SourceView) (n : ℕ) (buf : List ℕ) → Takes s.left t.left (got.Bytes n) buf →
    s.faults ≤ t.faults → Reads s t (take n buf)
reads_piece s t n buf takes later = record {
  told = λ bytes told. let took = subst (λ (o : Option (List ℕ)). Takes o t.left (got.Bytes n) buf) told takes in
      (drop n bytes, took.2, sym (take-append-drop n bytes) ∙ ap (λ (l : List ℕ). l ++ drop n bytes) (sym took.0));
  later = later;
}

pub reads_end : (s t : SourceView) (buf : List ℕ) → Takes s.left t.left got.End buf → s.faults ≤ t.faults → Reads s t []
reads_end s t buf takes later = record {
  told = λ bytes told. let took = subst (λ (o : Option (List ℕ)). Takes o t.left got.End buf) told takes in
      (bytes, took.1, refl);
  later = later;
}

pub nothing_left : (s t : SourceView) (buf : List ℕ) → Takes s.left t.left got.End buf → (bytes : List ℕ) →
    s.left ≡ Some bytes → t.left ≡ Some []
nothing_left s t buf takes bytes told = let took = subst (λ (o : Option (List ℕ)). Takes o t.left got.End buf) told
    takes in took.1 ∙ ap Some took.0

pub reads_failed : (s t : SourceView) (buf : List ℕ) → Takes s.left t.left got.Failed buf → s.faults ≤ t.faults →
    Reads s t []
reads_failed s t buf takes later = record {
  told = λ bytes told. let took = subst (λ (o : Option (List ℕ)). Takes o t.left got.Failed buf) told takes in
      (bytes, took, refl);
  later = later;
}
