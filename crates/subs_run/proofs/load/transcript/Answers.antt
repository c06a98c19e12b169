use Rattle.std.proofs.Common.{◌∙◌, ap, ℕ, Some, List, []}
use Rattle.subs_run.proofs.load.transcript.Goals as goal

pub returns-in-Done : goal.returns-in-Done
returns-in-Done g c meant reads =
    c.in-Done.ensures.whole tt c.args.script []
    (c.new-source.ensures.left ∙ ap (λ (bytes : List ℕ). Some bytes) c.into_vec.ensures)
    c.new-sink.ensures.written meant reads

pub returns-in-ScriptFault : goal.returns-in-ScriptFault
returns-in-ScriptFault g c meant reads =
    c.in-ScriptFault.ensures.whole tt c.args.script []
    (c.new-source.ensures.left ∙ ap (λ (bytes : List ℕ). Some bytes) c.into_vec.ensures)
    c.new-sink.ensures.written meant reads
