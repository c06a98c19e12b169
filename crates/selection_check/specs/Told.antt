-- What a refusal of the walk says. This project's own.
use Rattle.std.specs.Prelude.{Option, option_map}
use Rattle.query_model.specs.declared.fault.QueryFault.{QueryFault}
use Rattle.query_model.specs.Refusals.{refusal}
use Rattle.selection_check.specs.declared.refusal.Refusal.{Refusal}

abbrev pub told : Option Refusal → Option QueryFault
told o = option_map (λ r. refusal r.kind r.name.now) o
