use Rattle.std.proofs.Common.{option_map, ap, sym, ◌∙◌, arith}
use Rattle.script_text.specs.Said.{line_of}
use Rattle.script_text.proofs.Lines.{no_text}
use Rattle.script_text.proofs.line.read_receive.Goals as goal

pub returns-in_err-conn : goal.returns-in_err-conn
returns-in_err-conn c = ap (option_map line_of) c.from_residual.ensures ∙ sym (no_text c.args.text.now (c.in_err-conn.ensures.byte (omega arith) (λ w o h. h)))
