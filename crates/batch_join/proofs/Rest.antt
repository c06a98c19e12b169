-- One result more.
use Rattle.std.proofs.Common.{◌≡◌, ◌∙◌, ◌<◌, ◌+◌, ◌++◌, ℕ, List, [], ◌∷◌, length, map, drop, get_or, sym, ap, subst, append_assoc}
use Rattle.std.specs.List.{AllByRecursion}
use Rattle.std.proofs.lemmas.List.{drop_more}

pub result_more : {B C : Type 0} (g : B → C) (done : List C) (a : C) (rows : List B) (i : ℕ) (b : B) (all : List C)
    → i < length rows → b ≡ get_or rows i b → a ≡ g b → done ++ map g (drop i rows) ≡ all
    → (done ++ a ∷ []) ++ map g (drop (i + 1) rows) ≡ all
result_more g done a rows i b all within item same told =
    let step : map g (drop i rows) ≡ a ∷ map g (drop (i + 1) rows) =
    ap (map g) (drop_more rows i b within) ∙ ap (λ x. g x ∷ map g (drop (i + 1) rows)) (sym item)
    ∙ ap (λ x. x ∷ map g (drop (i + 1) rows)) (sym same) in
    append_assoc done (a ∷ []) (map g (drop (i + 1) rows)) ∙ ap (λ x. done ++ x) (sym step) ∙ told

pub rest_all : {X : Type 0} (P : X → Type 0) (xs : List X) (i : ℕ) (x : X) → i < length xs
    → AllByRecursion P (drop i xs) → AllByRecursion P (drop (i + 1) xs)
rest_all P xs i x within h = (subst (AllByRecursion P) (drop_more xs i x within) h).1

pub here_all : {X : Type 0} (P : X → Type 0) (xs : List X) (i : ℕ) (x : X) → i < length xs → x ≡ get_or xs i x
    → AllByRecursion P (drop i xs) → P x
here_all P xs i x within is h = subst P (sym is) (subst (AllByRecursion P) (drop_more xs i x within) h).0
