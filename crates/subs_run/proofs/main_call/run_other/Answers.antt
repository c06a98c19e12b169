use Rattle.std.proofs.Common.{◌≡◌, ◌∙◌, subst, ℕ, Option, Some, List}
use Rattle.load_gen.specs.Generated.{generated}
use Rattle.subs_run.specs.Runs.{Reads}
use Rattle.subs_run.specs.Words.{load_line}
use Rattle.subs_run.specs.Written.{WritesAll, WritesFront}
use Rattle.subs_run.proofs.main_call.run_other.Goals as goal

same_number : (m n : ℕ) (o : Option ℕ) → Some m ≡ o → o ≡ Some n → m ≡ n
same_number m n o e f = let both : Some m ≡ Some n = e ∙ f in cc

pub returns-in-Some-clause-load_written : goal.returns-in-Some-clause-load_written
returns-in-Some-clause-load_written g c n e zero meant reads =
    subst (λ (m : ℕ). Reads meant (generated m) →
    WritesAll (g.K.Sink.written c.args.sink.now) (g.K.Sink.written c.load.new.sink) (load_line meant m))
    (same_number c.in-Some.n n _ c.in-Some.ensures e) (c.load.ensures.written zero meant) reads

pub returns-in-Some-clause-load_front : goal.returns-in-Some-clause-load_front
returns-in-Some-clause-load_front g c n e meant reads =
    subst (λ (m : ℕ). Reads meant (generated m) →
    WritesFront (g.K.Sink.written c.args.sink.now) (g.K.Sink.written c.load.new.sink) (load_line meant m))
    (same_number c.in-Some.n n _ c.in-Some.ensures e) (c.load.ensures.front meant) reads
