use Rattle.std.proofs.Common.{◌≡◌, map, drop}
use Rattle.std.specs.List.{list_any}
use Rattle.std.specs.Str.{bytes_eq}
use Rattle.metadata_form.proofs.form.is_key.Given as goal

abbrev pub invariant-loop-key : goal.invariant-loop-key
invariant-loop-key l = list_any (bytes_eq l.name) (map (λ k. k.now) (drop l.key-index l.keys)) ≡ list_any (bytes_eq l.name) (map (λ k. k.now) l.keys)
