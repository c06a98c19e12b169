use Rattle.toml.specs.View.{table_view}
use Rattle.toml.specs.Errors.{IsMemory}
use Rattle.metadata_form.proofs.Documents.{toml_of-some, toml_of-refused}
use Rattle.metadata_form.proofs.toml_text.read_toml.Goals as goal

pub returns-in-Ok-clause-ok : goal.returns-in-Ok-clause-ok
returns-in-Ok-clause-ok c = toml_of-some c.args.text.now (table_view c.in-Ok.table) c.in-Ok.ensures.ok.0 c.in-Ok.ensures.ok.1

pub returns-else-is_memory-clause-bad : goal.returns-else-is_memory-clause-bad
returns-else-is_memory-clause-bad c = λ e. toml_of-refused c.args.text.now c.is_memory.result (IsMemory c.in-Err.error) c.if-is_memory.false c.is_memory.ensures c.in-Err.ensures.refused
