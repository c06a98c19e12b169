use Rattle.std.proofs.Common.{ap, sym, ◌∙◌, false, true, rules}
use Rattle.std.proofs.lemmas.Str.{is_utf8-from_IsUtf8}
use Rattle.machine.specs.Lines.{read_form}
use Rattle.script_text.proofs.Lines.{read_line-other, not_utf8}
use Rattle.script_text.proofs.line.read_line.Goals as goal

pub returns-in-Ok : goal.returns-in-Ok
returns-in-Ok c = c.read_form.ensures ∙ ap read_form c.in-Ok.ensures.cases.0 ∙ sym (read_line-other c.args.line.now true (search rules) c.if-line-eq35.false (is_utf8-from_IsUtf8 c.args.line.now c.in-Ok.ensures.cases.1))

pub returns-in-Err : goal.returns-in-Err
returns-in-Err c = sym (read_line-other c.args.line.now false (search rules) c.if-line-eq35.false (not_utf8 c.args.line.now c.in-Err.ensures.cases.0))
