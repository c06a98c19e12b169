use Rattle.std.proofs.Common.{ℕ, List, refl, subst}
use Rattle.machine.specs.Script.{AllSay, said_by, take_line as line_outcome}
use Rattle.subs_run.specs.Progress.{Advances}
use Rattle.subs_run.proofs.Readers.{not_counted, not_gone}
use Rattle.subs_run.proofs.reader.Reader.take_line.Goals as goal

pub returns-in_default-clause-counts : goal.returns-in_default-clause-counts
returns-in_default-clause-counts g c =
    not_counted c.advance.result c.args.self.now.lines_read _ c.in_default.not-Went refl

pub returns-in_default-clause-went : goal.returns-in_default-clause-went
returns-in_default-clause-went g c meant reading st says =
    let told =
    subst (λ (xs : List ℕ). AllSay meant (said_by reading xs) → Advances c.advance.result
    (line_outcome meant reading xs) c.advance.new.progress c.clear.new.self.items c.advance.new.out.items)
    c.deref.ensures.value (c.advance.ensures.advances meant reading st) in
    not_gone c.advance.result (line_outcome meant reading c.args.self.now.line.items) c.advance.new.progress
    c.clear.new.self.items c.advance.new.out.items _ c.in_default.not-Went (told says)
