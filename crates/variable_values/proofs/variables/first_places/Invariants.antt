use Rattle.std.proofs.Common.{map, drop}
use Rattle.query_model.specs.declared.variable.Variable.{Variable}
use Rattle.variable_values.specs.Places.{FindsFrom}
use Rattle.variable_values.proofs.variables.first_places.Given as goal

abbrev pub invariant-loop-place : goal.invariant-loop-place
invariant-loop-place l = FindsFrom l.place l.places (map (λ (x : Variable). x.name) (drop l.place l.variables))
