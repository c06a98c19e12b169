-- What was written, call by call.
use Rattle.std.proofs.Common.{◌≡◌, ◌≢◌, ◌∙◌, sym, ap, subst, ℕ, ◌+◌, Option, Some, List, [], ◌++◌, length, take, drop, arith, append_assoc, append-nil, take-add, min}
use Rattle.std.proofs.Math.Seq.{take-append-add}
use Rattle.std.proofs.lemmas.Grind.{common_steps}
use Rattle.outside.specs.Ends.{Adds}
use Rattle.outside.specs.declared.sink.Put.TheVariants as put
use Rattle.subs_run.specs.declared.put.Wrote.TheVariants as wrote
use Rattle.subs_run.specs.Written.{WritesAll, WritesFront, WritesOn, WritesFrontOn}

-- a call that took n more bytes
pub writes_more : (old mid new : Option (List ℕ)) (bytes rest : List ℕ) (at n : ℕ) →
    WritesAll old mid (take at bytes) → rest ≡ drop at bytes → Adds mid new (put.Bytes n) rest →
    WritesAll old new (take (at + n) bytes)
writes_more old mid new bytes rest at n so_far is more w told =
    let now : new ≡ Some (w ++ take at bytes ++ take n rest) =
    subst (λ m. Adds m new (put.Bytes n) rest) (so_far w told) more in
    now ∙ ap (λ ys. Some ys) (rw (is, take-add) (append_assoc w _ _))

pub wrote_nothing : (old : Option (List ℕ)) (bytes : List ℕ) → bytes ≡ [] → WritesAll old old bytes
wrote_nothing old bytes e w told = told ∙ ap (λ ys. Some ys) (sym (ap (λ xs. w ++ xs) e ∙ append-nil w))

-- Behind what stood there

pub on_same : (old : Option (List ℕ)) (before after : List ℕ) → after ≡ before → WritesOn old old before after
on_same old before after e w told = told ∙ ap (λ (xs : List ℕ). Some (w ++ xs)) (sym e)

pub on_all : (old new : Option (List ℕ)) (before after bytes : List ℕ) → WritesAll old new bytes →
    after ≡ before ++ bytes → WritesOn old new before after
on_all old new before after bytes wrote e w told =
    wrote (w ++ before) told ∙ ap (λ (xs : List ℕ). Some xs)
    (append_assoc w before bytes ∙ ap (λ (xs : List ℕ). w ++ xs) (sym e))

pub on_then : (old mid new : Option (List ℕ)) (xs ys zs : List ℕ) → WritesOn old mid xs ys → WritesOn mid new ys zs →
    WritesOn old new xs zs
on_then old mid new xs ys zs first second w told = second w (first w told)

pub on_front : (old new : Option (List ℕ)) (before after bytes : List ℕ) → WritesFront old new bytes →
    after ≡ before ++ bytes → WritesFrontOn old new before after
on_front old new before after bytes part e w told =
    let p = part (w ++ before) told in (
      length before + p.0,
      p.1 ∙ ap (λ (xs : List ℕ). Some xs)
          (append_assoc w before (take p.0 bytes) ∙ ap (λ (xs : List ℕ). w ++ xs)
          (sym (ap (λ (xs : List ℕ). take (length before + p.0) xs) e ∙ take-append-add before bytes p.0))),
    )

pub front_then : (old mid new : Option (List ℕ)) (xs ys zs : List ℕ) → WritesOn old mid xs ys →
    WritesFrontOn mid new ys zs → WritesFrontOn old new xs zs
front_then old mid new xs ys zs first second w told = second w (first w told)

-- a front of the longer transcript
pub front_longer : (old new : Option (List ℕ)) (before after more longer : List ℕ) → longer ≡ after ++ more →
    WritesFrontOn old new before after → WritesFrontOn old new before longer
front_longer old new before after more longer e part w told =
    let p = part w told in
    let same : take p.0 after ≡ take (min p.0 (length after)) (after ++ more) = grind (arith, common_steps) in (
      min p.0 (length after),
      p.1 ∙ ap (λ (xs : List ℕ). Some (w ++ xs))
          (same ∙ ap (λ (xs : List ℕ). take (min p.0 (length after)) xs) (sym e)),
    )

-- all of a transcript is a front of a longer one
pub front_all : (old new : Option (List ℕ)) (before after : List ℕ) → WritesOn old new before after →
    WritesFrontOn old new before after
front_all old new before after wrote w told =
    let same : after ≡ take (length after) after = grind (arith, common_steps) in
    (length after, wrote w told ∙ ap (λ (xs : List ℕ). Some (w ++ xs)) same)

pub failed_not_done : wrote.Failed ≢ wrote.Done
failed_not_done e = cc

pub no_memory_not_done : wrote.NoMemory ≢ wrote.Done
no_memory_not_done e = cc

pub front_of_all : (old new : Option (List ℕ)) (bytes : List ℕ) → WritesAll old new bytes → WritesFront old new bytes
front_of_all old new bytes wrote w told =
    let same : bytes ≡ take (length bytes) bytes = grind (arith, common_steps) in
    (length bytes, wrote w told ∙ ap (λ (xs : List ℕ). Some (w ++ xs)) same)
