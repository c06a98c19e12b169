-- A list that is longer than another, as far as the other goes.
use Rattle.std.proofs.Common.{◌≡◌, ℕ, ◌<◌, zero, suc, List, [], ◌∷◌, length, drop, refl, arith}
use Rattle.std.specs.Cmp.Lexicographic.{slice_cmp}
use Rattle.std.specs.declared.cmp.Ordering.{Ordering}
use Rattle.std.specs.declared.cmp.Ordering.TheVariants.{Greater}

pub longer : {X : Type 0} (R : X → X → Ordering) (xs : List X) (i : ℕ) (rest : List X) → i < length xs → length rest < 1 → slice_cmp R (drop i xs) rest ≡ Greater
longer R [] i rest within short = absurd (omega arith)
longer R (x ∷ xs) zero [] within short = refl
longer R (x ∷ xs) zero (y ∷ rest) within short = absurd (omega arith)
longer R (x ∷ xs) (suc i) rest within short = longer R xs i rest (omega arith) short
