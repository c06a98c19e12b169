use Rattle.std.proofs.Common.{◌≡◌, ◌++◌, map}
use Rattle.query_binding.specs.Added.{texts}
use Rattle.query_binding.proofs.text_names.copied.Given as goal

abbrev pub invariant-loop-name : goal.invariant-loop-name
invariant-loop-name l = l.copy ++ map (λ k. k.now) l.name-iterator ≡ texts l.names
