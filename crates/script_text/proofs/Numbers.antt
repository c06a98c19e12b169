use Rattle.std.proofs.Common.{◌≡◌, ℕ, ◌+◌, ◌-◌, ◌*◌, ◌<◌, ◌≤◌, List, [], ◌∷◌, None, length, drop, get_or, drop-cons, ap, sym, ◌∙◌, subst, add-one, arith}
use Rattle.std.proofs.lemmas.Bool.Decides.{nat_tests}
use Rattle.std.specs.List.{fold}
use Rattle.machine.specs.Lines.{number_of}
use Rattle.script_text.specs.Numbers.{small_number}

abbrev pub further : ℕ → ℕ → ℕ
further n b = n * 10 + (b - 48)

-- a number only grows with further digits
pub number-grows : (n : ℕ) (text : List ℕ) → n ≤ fold further n text
number-grows n [] = omega arith
number-grows n (b ∷ bs) = let h : further n b ≤ fold further (further n b) bs = number-grows (further n b) bs in omega arith

large_is_none : (limit : ℕ) (text : List ℕ) → limit ≤ number_of text → None ≡ small_number limit text
large_is_none limit text h = grind (arith, nat_tests)

-- the digits up to a place already name too large a number
pub too_large : (limit : ℕ) (text : List ℕ) (n i : ℕ) → i < length text → fold further n (drop i text) ≡ number_of text → limit ≤ further n (get_or text i 0) → None ≡ small_number limit text
too_large limit text n i h e big =
    let d : drop i text ≡ get_or text i 0 ∷ drop (i + 1) text = rw (add-one, drop-cons text i 0) in
    let f : fold further (further n (get_or text i 0)) (drop (i + 1) text) ≡ number_of text = ap (fold further n) (sym d) ∙ e in
    let g = number-grows (further n (get_or text i 0)) (drop (i + 1) text) in
    let more : limit ≤ fold further (further n (get_or text i 0)) (drop (i + 1) text) = omega arith in
    large_is_none limit text (subst (λ m. limit ≤ m) f more)
