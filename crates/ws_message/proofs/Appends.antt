-- What was appended in several steps.
use Rattle.std.proofs.Common.{◌≡◌, ℕ, List, ◌++◌, sym, ap, ◌∙◌, append_assoc}

pub one_more : (out told text before now : List ℕ) → before ≡ out ++ told → now ≡ before ++ text → now ≡ out ++ (told ++ text)
one_more out told text before now a b = b ∙ ap (λ w. w ++ text) a ∙ append_assoc out told text

pub two_more : (out told front text before now : List ℕ) → before ≡ out ++ told → now ≡ before ++ (front ++ text) → now ≡ out ++ (told ++ front ++ text)
two_more out told front text before now a b = one_more out told (front ++ text) before now a b ∙ ap (λ w. out ++ w) (sym (append_assoc told front text))
