-- Names that stand twice.
use Rattle.std.proofs.Common.{◌≡◌, ◌||◌, List, [], ◌∷◌, refl, ap}
use Rattle.std.specs.List.{list_any}
use Rattle.std.specs.Str.{bytes_eq}
use Rattle.name_set.specs.Names.{repeats}
use Rattle.role_model.specs.MetadataNames.{has_twice}
use Rattle.role_model.specs.Texts.{Text}

pub same_twice : (names : List Text) → repeats names ≡ has_twice names
same_twice [] = refl
same_twice (n ∷ ns) = ap (λ b. list_any (bytes_eq n) ns || b) (same_twice ns)
