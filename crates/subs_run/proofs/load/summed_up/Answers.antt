use Rattle.std.proofs.Common.{◌≡◌, ◌∙◌, sym, ap, subst, ℕ, Option, Some, List}
use Rattle.std.proofs.lemmas.Result.{IfOk-weaker}
use Rattle.wire_model.specs.Generated.{summary_line}
use Rattle.load_gen.specs.Generated.{generated}
use Rattle.machine.specs.Messages.{Message}
use Rattle.machine.specs.Script.{output}
use Rattle.subs_run.specs.Runs.{Reads}
use Rattle.subs_run.specs.Words.{load_line}
use Rattle.subs_run.proofs.load.summed_up.Goals as goal

summed : (meant : List ℕ → Message) (n : ℕ) (line text script : List ℕ) (written : Option (List ℕ)) →
    line ≡ summary_line n text → written ≡ Some text → script ≡ generated n →
    ((m : List ℕ → Message) → Reads m script → written ≡ Some (output m script)) → Reads meant (generated n) →
    line ≡ load_line meant n
unfolding load_line
summed meant n line text script written is told same ran reads =
    let all : written ≡ Some (output meant (generated n)) =
    subst (λ (s : List ℕ). Reads meant s → written ≡ Some (output meant s)) same (ran meant) reads in
    let both : Some text ≡ Some (output meant (generated n)) = sym told ∙ all in
    let text_is : text ≡ output meant (generated n) = cc in
    is ∙ ap (λ (bytes : List ℕ). summary_line n bytes) text_is

pub returns : goal.returns
returns g c =
    IfOk-weaker c.summary_line.result _ _
    (λ line is meant reads. summed meant c.args.n line c.as_slice.result.now c.in_ok-script.script _ is
    c.as_slice.ensures c.in_ok-script.ensures c.in_ok-sink.ensures reads) c.summary_line.ensures
