-- Elements that are put in their places one after the other, in whatever order.
use Rattle.std.proofs.Common.{◌≡◌, List, [], ◌∷◌, refl, ap, sym, ◌∙◌, Ordering, Less, Equal, Greater}
use Rattle.std.specs.Cmp.{IsTotalOrder}
use Rattle.std.specs.Ordering.{ordering_reverse, match_ordering}
use Rattle.scalar_val.specs.Ordered.{included}

module _ {X : Type 0} (cmp : X → X → Ordering) where
  below : (x y : X) (ys : List X) → cmp x y ≡ Less → included cmp x (y ∷ ys) ≡ x ∷ y ∷ ys
  below x y ys e = ap (λ o. match_ordering o (x ∷ y ∷ ys) (y ∷ ys) (y ∷ included cmp x ys)) e

  there : (x y : X) (ys : List X) → cmp x y ≡ Equal → included cmp x (y ∷ ys) ≡ y ∷ ys
  there x y ys e = ap (λ o. match_ordering o (x ∷ y ∷ ys) (y ∷ ys) (y ∷ included cmp x ys)) e

  above : (x y : X) (ys : List X) → cmp x y ≡ Greater → included cmp x (y ∷ ys) ≡ y ∷ included cmp x ys
  above x y ys e = ap (λ o. match_ordering o (x ∷ y ∷ ys) (y ∷ ys) (y ∷ included cmp x ys)) e

module _ {X : Type 0} (cmp : X → X → Ordering) (total : IsTotalOrder cmp) (exact : (x y : X) → cmp x y ≡ Equal → x ≡ y) where
  turned : (x y : X) (o : Ordering) → cmp x y ≡ o → cmp y x ≡ ordering_reverse o
  turned x y o e = total.antisymm y x ∙ ap ordering_reverse e

  lower_first : (x y : X) (zs : List X) → cmp x y ≡ Less → included cmp x (included cmp y zs) ≡ included cmp y (included cmp x zs)
  lower_first x y [] h = below cmp x y [] h ∙ sym (above cmp y x [] (turned x y Less h))
  lower_first x y (z ∷ zs) h = go (lower_first x y zs h) (cmp y z) (cmp x z) refl refl
    where
      -- y above x passes it
      passes : (us : List X) → included cmp y (x ∷ us) ≡ x ∷ included cmp y us
      passes us = above cmp y x us (turned x y Less h)

      lowest : cmp x z ≡ Less → (us : List X) → included cmp x (z ∷ us) ≡ x ∷ z ∷ us → included cmp y (included cmp x (z ∷ zs)) ≡ x ∷ included cmp y (z ∷ zs)
      lowest e us _ = ap (included cmp y) (below cmp x z zs e) ∙ passes (z ∷ zs)

      go : included cmp x (included cmp y zs) ≡ included cmp y (included cmp x zs) → (o p : Ordering) → cmp y z ≡ o → cmp x z ≡ p → included cmp x (included cmp y (z ∷ zs)) ≡ included cmp y (included cmp x (z ∷ zs))
      go more Less p e f =
          let g = total.trans x y z h e in
          ap (included cmp x) (below cmp y z zs e) ∙ below cmp x y (z ∷ zs) h ∙ ap (λ us. x ∷ us) (sym (below cmp y z zs e)) ∙ sym (lowest g zs (below cmp x z zs g))
      go more Equal p e f =
          let g = ap (cmp x) (sym (exact y z e)) ∙ h in
          ap (included cmp x) (there cmp y z zs e) ∙ below cmp x z zs g ∙ ap (λ us. x ∷ us) (sym (there cmp y z zs e)) ∙ sym (lowest g zs (below cmp x z zs g))
      go more Greater Less e f =
          ap (included cmp x) (above cmp y z zs e) ∙ below cmp x z (included cmp y zs) f ∙ ap (λ us. x ∷ us) (sym (above cmp y z zs e)) ∙ sym (lowest f zs (below cmp x z zs f))
      go more Greater Equal e f =
          ap (included cmp x) (above cmp y z zs e) ∙ there cmp x z (included cmp y zs) f ∙ sym (above cmp y z zs e) ∙ ap (included cmp y) (sym (there cmp x z zs f))
      go more Greater Greater e f =
          ap (included cmp x) (above cmp y z zs e) ∙ above cmp x z (included cmp y zs) f ∙ ap (λ us. z ∷ us) more
          ∙ sym (above cmp y z (included cmp x zs) e) ∙ ap (included cmp y) (sym (above cmp x z zs f))

  pub either_first : (x y : X) (zs : List X) → included cmp x (included cmp y zs) ≡ included cmp y (included cmp x zs)
  either_first x y zs = go (cmp x y) refl
    where
      go : (o : Ordering) → cmp x y ≡ o → included cmp x (included cmp y zs) ≡ included cmp y (included cmp x zs)
      go Less e = lower_first x y zs e
      go Equal e = ap (λ u. included cmp u (included cmp y zs)) (exact x y e) ∙ ap (λ u. included cmp y (included cmp u zs)) (sym (exact x y e))
      go Greater e = sym (lower_first y x zs (turned x y Greater e))

  itself : (x : X) → cmp x x ≡ Equal
  itself x = go (cmp x x) refl
    where
      go : (o : Ordering) → cmp x x ≡ o → o ≡ Equal
      go Less e = let f = turned x x Less e in cc
      go Equal e = refl
      go Greater e = let f = turned x x Greater e in cc

  -- one that is there is there
  pub twice : (x : X) (zs : List X) → included cmp x (included cmp x zs) ≡ included cmp x zs
  twice x [] = there cmp x x [] (itself x)
  twice x (z ∷ zs) = go (cmp x z) refl (twice x zs)
    where
      go : (o : Ordering) → cmp x z ≡ o → included cmp x (included cmp x zs) ≡ included cmp x zs → included cmp x (included cmp x (z ∷ zs)) ≡ included cmp x (z ∷ zs)
      go Less e more = ap (included cmp x) (below cmp x z zs e) ∙ there cmp x x (z ∷ zs) (itself x) ∙ sym (below cmp x z zs e)
      go Equal e more = ap (included cmp x) (there cmp x z zs e)
      go Greater e more = ap (included cmp x) (above cmp x z zs e) ∙ above cmp x z (included cmp x zs) e ∙ ap (λ us. z ∷ us) more ∙ sym (above cmp x z zs e)
