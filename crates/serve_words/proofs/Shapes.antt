use Rattle.std.proofs.Common.{◌≡◌, ◌⊎◌, ℕ, List, ◌∷◌, Some, length, codes, refl, sym, subst, inl, inr}
use Rattle.std.specs.Fmt.{decimal}
use Rattle.serve_words.specs.declared.words.ServeWords.{ServeWords}
use Rattle.serve_words.specs.Options.{value_of}
use Rattle.serve_words.specs.Words.{Choice, written, AreTwo, AreThree, AreChoices, IsValid, port, commit_port, workers}

-- each option is found by its name, and the number of words tells whether the workers stand there
pub record Fits (asked : ServeWords) (options : List (List ℕ)) : Type 0 where
  pub port : value_of (codes "--port") options ≡ Some (decimal asked.port)
  pub commit_port : value_of (codes "--commit-port") options ≡ Some (decimal asked.commit_port)
  pub workers : ((length options ≡ 6) × (value_of (codes "--workers") options ≡ Some (decimal asked.workers)))
      ⊎ ((length options ≡ 4) × (asked.workers ≡ 2))

-- what fits in one order fits where the choices are in that order
in_order : (asked : ServeWords) (choices order : List Choice) → choices ≡ order → Fits asked (written order) →
    Fits asked (written choices)
in_order asked choices order e = subst (λ c. Fits asked (written c)) (sym e)

fits_three : (asked : ServeWords) (choices : List Choice) →
    AreThree (port asked) (commit_port asked) (workers asked) choices → Fits asked (written choices)
fits_three asked choices (inl e) =
    in_order asked choices _ e (record { port = refl; commit_port = refl; workers = inl (refl, refl) })
fits_three asked choices (inr (inl e)) =
    in_order asked choices _ e (record { port = refl; commit_port = refl; workers = inl (refl, refl) })
fits_three asked choices (inr (inr (inl e))) =
    in_order asked choices _ e (record { port = refl; commit_port = refl; workers = inl (refl, refl) })
fits_three asked choices (inr (inr (inr (inl e)))) =
    in_order asked choices _ e (record { port = refl; commit_port = refl; workers = inl (refl, refl) })
fits_three asked choices (inr (inr (inr (inr (inl e))))) =
    in_order asked choices _ e (record { port = refl; commit_port = refl; workers = inl (refl, refl) })
fits_three asked choices (inr (inr (inr (inr (inr e))))) =
    in_order asked choices _ e (record { port = refl; commit_port = refl; workers = inl (refl, refl) })

fits_two : (asked : ServeWords) (choices : List Choice) →
    AreTwo (port asked) (commit_port asked) choices → asked.workers ≡ 2 → Fits asked (written choices)
fits_two asked choices (inl e) two =
    in_order asked choices _ e (record { port = refl; commit_port = refl; workers = inr (refl, two) })
fits_two asked choices (inr e) two =
    in_order asked choices _ e (record { port = refl; commit_port = refl; workers = inr (refl, two) })

pub fits : (asked : ServeWords) (choices : List Choice) → AreChoices asked choices → Fits asked (written choices)
fits asked choices (inl h) = fits_three asked choices h
fits asked choices (inr h) = fits_two asked choices h.0 h.1

-- valid words are `serve` and options that fit
pub valid_fits : (words : List (List ℕ)) (asked : ServeWords) → IsValid words asked
    → (options : List (List ℕ)) × (words ≡ codes "serve" ∷ options) × Fits asked options
valid_fits words asked v = (written v.choices, v.whole, fits asked v.choices v.each_once)
