-- What a clock over a list of times answers. The rules are this project's own.
use Rattle.std.specs.Prelude.{◌≡◌, ℕ, ◌+◌, ◌-◌, ◌^◌, min, zero, suc, List, [], ◌∷◌, ◌++◌, length, slice_get, unwrap_or}

-- the answer of the call after so many: the time at that place, past the end the last one, and 0 where there is none
abbrev pub time_after : List ℕ → ℕ → ℕ
time_after times calls = unwrap_or (slice_get times (min calls (length times - 1))) 0

-- the answers of so many calls
abbrev pub answers_of : List ℕ → ℕ → List ℕ
answers_of times zero = []
answers_of times (suc calls) = answers_of times calls ++ time_after times calls ∷ []

-- these are its answers so far, of which it has counted so many; the count stands still at its end
pub record IsAnswered (times : List ℕ) (count : ℕ) (answers : List ℕ) : Type 0 where
  pub listed : answers ≡ answers_of times (length answers)
  pub counted : count ≡ min (length answers) (2 ^ 64 - 1)
