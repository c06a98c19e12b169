-- The outcome of a script, by what was read of it.
use Rattle.std.proofs.Common.{◌≡◌, ◌≢◌, ◌∙◌, ◌≤◌, ◌<◌, ◌+◌, ◌-◌, ◌⊎◌, inl, inr, arith, sym, ap, refl, subst, ℕ, Bool, true, false, Option, Some, None, List, ◌++◌, length, length-append, append_assoc, append-nil, take}
use Rattle.std.specs.Prelude.{nat_lt}
use Rattle.std.proofs.Math.Seq.{take-append-add}
use Rattle.std.proofs.lemmas.Bool.{lt-ltb, le-ltb}
use Rattle.std.proofs.lemmas.List.{take_all, take-append-le}
use Rattle.machine.specs.Messages.{Message}
use Rattle.machine.specs.Lines.{lines}
use Rattle.machine.specs.Script.{Reading, Standing, At, Fault, Ran, AllSay, limit, ended, fault_at_end, fault_line, outcome, output}
use Rattle.machine.specs.declared.script.ScriptReason.{ScriptReason}
use Rattle.machine.specs.declared.script.ScriptReason.TheVariants.{Size}
use Rattle.subs_run.specs.declared.answer.RunEnd.{RunEnd}
use Rattle.subs_run.specs.declared.answer.RunEnd.TheVariants as run_end
use Rattle.subs_run.specs.Runs.{ran, Reads, EndsAs, IsToldWhole}
use Rattle.subs_run.specs.Pieces.{ClosesAs, EndsOn}
use Rattle.subs_run.specs.Standing.{AreRead}
use Rattle.subs_run.specs.Written.{WritesOn, WritesFrontOn}
use Rattle.subs_run.proofs.Rans.{ran-fault, ran-longer, read-front}
use Rattle.subs_run.proofs.Written.{on_all, on_front, on_then, front_then, front_longer}

-- what counts of a text with a front within the limit
take_limit : (a rest : List ℕ) → length a ≤ limit → take limit (a ++ rest) ≡ a ++ take (limit - length a) rest
take_limit a rest h =
    let parts : limit ≡ length a + (limit - length a) = omega arith in
    ap (λ (n : ℕ). take n (a ++ rest)) parts ∙ take-append-add a rest (limit - length a)

-- what a script ends with, where this is known of it
pub record HasOutcome (meant : List ℕ → Message) (all text : List ℕ) (fault : Option (ℕ × ScriptReason)) : Type 0 where
  pub text_is : (outcome meant all).text ≡ text
  pub fault_is : (outcome meant all).fault ≡ fault

at_fault : (too_long : Bool) (number : ℕ) (rest : List ℕ) (s : Standing) (line : ℕ) (reason : ScriptReason) →
    s ≡ Fault line reason → fault_at_end too_long number rest s ≡ Some (line, reason)
at_fault too_long number rest s line reason e = ap (λ (t : Standing). fault_at_end too_long number rest t) e

end_at : (too_long : Bool) (s : Standing) (number : ℕ) (rest : List ℕ) (reading : Reading) → too_long ≡ false →
    s ≡ At reading → fault_at_end too_long number rest s ≡ ended number rest reading
end_at too_long s number rest reading e f =
    ap (λ (b : Bool). fault_at_end b number rest s) e ∙ ap (λ (t : Standing). fault_at_end false number rest t) f

long_at : (too_long : Bool) (s : Standing) (number : ℕ) (rest : List ℕ) (reading : Reading) → too_long ≡ true →
    s ≡ At reading → fault_at_end too_long number rest s ≡ Some (number, Size)
long_at too_long s number rest reading e f =
    ap (λ (b : Bool). fault_at_end b number rest s) e ∙ ap (λ (t : Standing). fault_at_end true number rest t) f

module _ (meant : List ℕ → Message) where
  -- where the texts of a script have their meanings, those of its front have them
  pub reads-front : (a rest : List ℕ) → length a ≤ limit → Reads meant (a ++ rest) → AreRead meant a
  reads-front a rest h reads =
      read-front meant a (take (limit - length a) rest)
      (subst (λ (xs : List ℕ). AllSay meant (ran meant xs).said) (take_limit a rest h) reads)

  -- the transcript of the front is a front of the output
  pub output-longer : (a rest : List ℕ) → length a ≤ limit →
      (more : List ℕ) × (output meant (a ++ rest) ≡ (ran meant a).text ++ more)
  output-longer a rest h =
      let l = ran-longer meant a (take (limit - length a) rest) in
      let fault = fault_line (outcome meant (a ++ rest)).fault in (
        l.text ++ fault,
        ap (λ (xs : List ℕ). (ran meant xs).text ++ fault) (take_limit a rest h)
            ∙ (ap (λ (xs : List ℕ). xs ++ fault) l.text_is ∙ append_assoc (ran meant a).text l.text fault),
      )

  -- a line of the front is at fault
  pub outcome-fault : (a rest : List ℕ) (line : ℕ) (reason : ScriptReason) → length a ≤ limit →
      (ran meant a).standing ≡ Fault line reason → HasOutcome meant (a ++ rest) (ran meant a).text (Some (line, reason))
  outcome-fault a rest line reason h e =
      let more = take (limit - length a) rest in
      let same : ran meant (take limit (a ++ rest)) ≡ ran meant a =
      ap (ran meant) (take_limit a rest h) ∙ ran-fault meant a more line reason e in
      let parts = lines (take limit (a ++ rest)) in
      record {
        text_is = ap (λ (r : Ran). r.text) same;
        fault_is = at_fault (nat_lt limit (length (a ++ rest))) (length parts.0 + 1) parts.1
            (ran meant (take limit (a ++ rest))).standing line reason (ap (λ (r : Ran). r.standing) same ∙ e);
      }

  -- the script ends here
  pub outcome-end : (all : List ℕ) (reading : Reading) → length all ≤ limit → (ran meant all).standing ≡ At reading →
      HasOutcome meant all (ran meant all).text (ended (length (lines all).0 + 1) (lines all).1 reading)
  outcome-end all reading h e =
      let same : take limit all ≡ all = take_all limit all h in
      let short : nat_lt limit (length all) ≡ false = le-ltb limit (length all) h in
      let parts = lines (take limit all) in
      record {
        text_is = ap (λ (xs : List ℕ). (ran meant xs).text) same;
        fault_is = end_at (nat_lt limit (length all)) (ran meant (take limit all)).standing
            (length parts.0 + 1) parts.1 reading short (ap (λ (xs : List ℕ). (ran meant xs).standing) same ∙ e) ∙ ap
            (λ (xs : List ℕ). ended (length (lines xs).0 + 1) (lines xs).1 reading) same;
      }

  -- the script is too long
  pub outcome-size : (a rest : List ℕ) (reading : Reading) → length a ≡ limit → 0 < length rest →
      (ran meant a).standing ≡ At reading →
      HasOutcome meant (a ++ rest) (ran meant a).text (Some (length (lines a).0 + 1, Size))
  outcome-size a rest reading h some e =
      let same : take limit (a ++ rest) ≡ a =
      take-append-le limit a rest (omega arith) ∙ take_all limit a (omega arith) in
      let bytes : length (a ++ rest) ≡ length a + length rest = length-append a rest in
      let longer : limit < length (a ++ rest) = omega arith in
      let long : nat_lt limit (length (a ++ rest)) ≡ true = lt-ltb limit (length (a ++ rest)) longer in
      let parts = lines (take limit (a ++ rest)) in
      record {
        text_is = ap (λ (xs : List ℕ). (ran meant xs).text) same;
        fault_is = long_at (nat_lt limit (length (a ++ rest))) (ran meant (take limit (a ++ rest))).standing
            (length parts.0 + 1) parts.1 reading long (ap (λ (xs : List ℕ). (ran meant xs).standing) same ∙ e) ∙ ap
            (λ (xs : List ℕ). let f : Option (ℕ × ScriptReason) = Some (length (lines xs).0 + 1, Size) in f) same;
      }

  -- What is written at the end

  output_is : (all text : List ℕ) (fault : Option (ℕ × ScriptReason)) → HasOutcome meant all text fault →
      output meant all ≡ text ++ fault_line fault
  output_is all text fault o =
      ap (λ (xs : List ℕ). xs ++ fault_line (outcome meant all).fault) o.text_is ∙ ap
      (λ (f : Option (ℕ × ScriptReason)). text ++ fault_line f) o.fault_is

  without_fault : (all text : List ℕ) (fault : Option (ℕ × ScriptReason)) → fault ≡ None →
      HasOutcome meant all text fault → output meant all ≡ text
  without_fault all text fault none o =
      output_is all text fault o ∙ (ap (λ (f : Option (ℕ × ScriptReason)). text ++ fault_line f) none ∙ append-nil text)

  pub ends_on : (end : RunEnd) (old new : Option (List ℕ)) (text all : List ℕ) (fault : Option (ℕ × ScriptReason)) →
      ClosesAs end old new fault → HasOutcome meant all text fault → EndsOn meant end old new text all
  ends_on run_end.Done old new text all fault closes o = (
    o.fault_is ∙ closes.0,
    λ w told. closes.1
        ∙ (told ∙ ap (λ (xs : List ℕ). Some (w ++ xs)) (sym (without_fault all text fault closes.0 o))),
  )
  ends_on (run_end.ScriptFault line reason) old new text all fault closes o = (
    o.fault_is ∙ closes.0,
    on_all old new text (output meant all) (fault_line fault) closes.1
        (output_is all text fault o),
  )
  ends_on run_end.SourceFault old new text all fault closes o = tt
  ends_on run_end.SinkFault old new text all fault closes o =
      on_front old new text (output meant all) (fault_line fault) closes (output_is all text fault o)
  ends_on run_end.NoMemory old new text all fault closes o =
      on_front old new text (output meant all) (fault_line fault) closes (output_is all text fault o)

  pub ends_then : (end : RunEnd) (old mid new : Option (List ℕ)) (before text all : List ℕ) →
      WritesOn old mid before text → EndsOn meant end mid new text all → EndsOn meant end old new before all
  ends_then run_end.Done old mid new before text all first second =
      (second.0, on_then old mid new before text (output meant all) first second.1)
  ends_then (run_end.ScriptFault line reason) old mid new before text all first second =
      (second.0, on_then old mid new before text (output meant all) first second.1)
  ends_then run_end.SourceFault old mid new before text all first second = tt
  ends_then run_end.SinkFault old mid new before text all first second =
      front_then old mid new before text (output meant all) first second
  ends_then run_end.NoMemory old mid new before text all first second =
      front_then old mid new before text (output meant all) first second

  -- a front of the transcript so far is one of the output
  pub front_of_output : (old new : Option (List ℕ)) (before a rest : List ℕ) → length a ≤ limit →
      WritesFrontOn old new before (ran meant a).text → WritesFrontOn old new before (output meant (a ++ rest))
  front_of_output old new before a rest h part =
      let l = output-longer a rest h in front_longer old new before (ran meant a).text l.0
      (output meant (a ++ rest)) l.1 part

  pub ends_as : (end : RunEnd) (old new : Option (List ℕ)) (before all : List ℕ) →
      EndsOn meant end old new before all → EndsAs end (outcome meant all).fault
  ends_as run_end.Done old new before all e = e.0
  ends_as (run_end.ScriptFault line reason) old new before all e = e.0
  ends_as run_end.SourceFault old new before all e = tt
  ends_as run_end.SinkFault old new before all e = tt
  ends_as run_end.NoMemory old new before all e = tt

  pub ends_whole : (end : RunEnd) (old new : Option (List ℕ)) (before all : List ℕ) → IsToldWhole end →
      EndsOn meant end old new before all → WritesOn old new before (output meant all)
  ends_whole run_end.Done old new before all h e = e.1
  ends_whole (run_end.ScriptFault line reason) old new before all h e = e.1
  ends_whole run_end.SourceFault old new before all h e = absurd h
  ends_whole run_end.SinkFault old new before all h e = absurd h
  ends_whole run_end.NoMemory old new before all h e = absurd h

  pub ends_front : (end : RunEnd) (old new : Option (List ℕ)) (before all : List ℕ) → (end ≡ run_end.SinkFault)
      ⊎ (end ≡ run_end.NoMemory) → EndsOn meant end old new before all → WritesFrontOn old new before (output meant all)
  ends_front run_end.Done old new before all h e = absurd (elim h [ inl e ↦ (cc) | inr e ↦ (cc) ])
  ends_front (run_end.ScriptFault line reason) old new before all h e = absurd (elim h [ inl e ↦ (cc) | inr e ↦ (cc) ])
  ends_front run_end.SourceFault old new before all h e = absurd (elim h [ inl e ↦ (cc) | inr e ↦ (cc) ])
  ends_front run_end.SinkFault old new before all h e = e
  ends_front run_end.NoMemory old new before all h e = e

pub none_some : (o : Option (ℕ × ScriptReason)) (x : ℕ × ScriptReason) → o ≡ None → o ≡ Some x → ⊥
none_some o x e f = let g : None ≡ Some x = sym e ∙ f in cc

-- a script without a fault, where nothing else fails
pub answered_by : (end : RunEnd) (fault : Option (ℕ × ScriptReason)) → EndsAs end fault → fault ≡ None →
    end ≢ run_end.SourceFault → end ≢ run_end.SinkFault → (end ≡ run_end.Done) ⊎ (end ≡ run_end.NoMemory)
answered_by run_end.Done fault e none source sink = inl refl
answered_by (run_end.ScriptFault line reason) fault e none source sink = absurd (none_some fault (line, reason) none e)
answered_by run_end.SourceFault fault e none source sink = absurd (source refl)
answered_by run_end.SinkFault fault e none source sink = absurd (sink refl)
answered_by run_end.NoMemory fault e none source sink = inr refl
