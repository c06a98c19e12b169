-- Which words of `serve` are valid, and what they ask for. This project's own.
use Rattle.std.specs.Prelude.{◌≡◌, ◌⊎◌, ◌≤◌, ℕ, List, [], ◌∷◌, codes}
use Rattle.std.specs.Fmt.{decimal}
use Rattle.serve_words.specs.declared.words.ServeWords.{ServeWords}

-- an option: its name and its number
abbrev pub Choice : Type 0
Choice = List ℕ × ℕ

-- options as they are written, each as two words
abbrev pub written : List Choice → List (List ℕ)
written [] = []
written (c ∷ choices) = c.0 ∷ decimal c.1 ∷ written choices

-- these two, in either order
abbrev pub AreTwo : Choice → Choice → List Choice → Type 0
AreTwo a b choices = (choices ≡ a ∷ b ∷ []) ⊎ (choices ≡ b ∷ a ∷ [])

-- these three, in any order
abbrev pub AreThree : Choice → Choice → Choice → List Choice → Type 0
AreThree a b c choices =
    (choices ≡ a ∷ b ∷ c ∷ []) ⊎ (choices ≡ a ∷ c ∷ b ∷ []) ⊎ (choices ≡ b ∷ a ∷ c ∷ [])
    ⊎ (choices ≡ b ∷ c ∷ a ∷ []) ⊎ (choices ≡ c ∷ a ∷ b ∷ []) ⊎ (choices ≡ c ∷ b ∷ a ∷ [])

abbrev pub port : ServeWords → Choice
port asked = (codes "--port", asked.port)

abbrev pub commit_port : ServeWords → Choice
commit_port asked = (codes "--commit-port", asked.commit_port)

abbrev pub workers : ServeWords → Choice
workers asked = (codes "--workers", asked.workers)

-- both ports with the workers, or both ports alone and then two workers
abbrev pub AreChoices : ServeWords → List Choice → Type 0
AreChoices asked choices =
    AreThree (port asked) (commit_port asked) (workers asked) choices
    ⊎ (AreTwo (port asked) (commit_port asked) choices × (asked.workers ≡ 2))

-- the numbers that may be asked for
pub record IsInRange (asked : ServeWords) : Type 0 where
  pub port : (1 ≤ asked.port) × (asked.port ≤ 65535)
  pub commit_port : (1 ≤ asked.commit_port) × (asked.commit_port ≤ 65535)
  pub workers : (1 ≤ asked.workers) × (asked.workers ≤ 16)

-- `serve` and its options, in any order and each once
pub record IsValid (words : List (List ℕ)) (asked : ServeWords) : Type 0 where
  pub choices : List Choice
  pub whole : words ≡ codes "serve" ∷ written choices
  pub each_once : AreChoices asked choices
  pub in_range : IsInRange asked
