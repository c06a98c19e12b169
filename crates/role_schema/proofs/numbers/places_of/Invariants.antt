use Rattle.std.proofs.Common.{take}
use Rattle.role_schema.specs.Numbers.{HasPlaces}
use Rattle.role_schema.proofs.numbers.places_of.Given as goal

abbrev pub invariant-loop-place : goal.invariant-loop-place
invariant-loop-place l = HasPlaces l.places (take l.place l.numbers)
