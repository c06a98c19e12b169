-- What one call of a spawner may do, by its answer. The rules are this project's own.
use Rattle.std.specs.Prelude.{◌≡◌, Bool, true, false, Option, Some, None, List, [], ◌∷◌, ◌++◌}

-- the works that were started before and then, where the spawner tells them
abbrev pub Starts : {W : Type 0} → Option (List W) → Option (List W) → Bool → W → Type 0
Starts None after r work = Unit {0}
Starts (Some before) after true work = after ≡ Some (before ++ work ∷ [])
Starts (Some before) after false work = after ≡ Some before
