-- The parts of canonical texts that have no name of their own.
use Rattle.std.specs.Prelude.{codes}
use Rattle.request_model.specs.declared.document.GPair.{GPair}
use Rattle.request_model.specs.declared.document.GValue.TheViews.{out-GPair}
use Rattle.request_model.specs.Strings.{Text}
use Rattle.scalar_val.specs.Joined.{named_text}

-- a pair of a cursor's initial value
abbrev pub initial_pair : GPair → Text
initial_pair p = named_text (out-GPair p).name (codes "_")
