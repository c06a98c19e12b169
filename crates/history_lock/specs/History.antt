-- Histories of a lock: lists of entries, each with the number of a pass and an event. They are this project's own.
use Rattle.std.specs.Prelude.{◌≡◌, ℕ, ◌==◌, ltb, List, [], ◌∷◌, ◌++◌, length, map, if◌then◌else◌}
use Rattle.history_lock.specs.declared.known.Entry.{Entry}

module _ {E : Type 0} where
  abbrev pub entry : ℕ → E → Entry E
  entry number e = record { pass = number; event = e }

  abbrev pub event_of : Entry E → E
  event_of x = x.event

  -- the events of a history, in order
  abbrev pub events : List (Entry E) → List E
  events xs = map event_of xs

  -- the entries of one pass, in order
  abbrev pub own : ℕ → List (Entry E) → List (Entry E)
  own number [] = []
  own number (x ∷ xs) = if x.pass == number then (x ∷ own number xs) else own number xs

  -- the history begins with what the pass has seen, and has no entry of the pass beyond it
  pub record Extends (number : ℕ) (seen log : List (Entry E)) : Type 0 where
    pub rest : List (Entry E)
    pub whole : log ≡ seen ++ rest
    pub others : own number rest ≡ []

  -- the longer of two lists
  abbrev pub longer : List (Entry E) → List (Entry E) → List (Entry E)
  longer xs ys = if ltb (length xs) (length ys) then ys else xs
