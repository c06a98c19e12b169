-- Lists that agree place by place.
use Rattle.std.proofs.Common.{◌≡◌, inl, inr, ◌∙◌, sym, ap, refl, subst, Bool, true, false, cond, List, [], ◌∷◌, ◌++◌, map, filter}
use Rattle.std.specs.List.{AllZip}
use Rattle.hub_model.proofs.Items.{Among, filter_yes}

module _ {X Y : Type 0} (R : X → Y → Type 0) where
  pub zip_mapped : (f : X → X) → ((x : X) (y : Y) → R x y → R (f x) y) → (xs : List X) (ys : List Y) → AllZip R xs ys →
      AllZip R (map f xs) ys
  zip_mapped f h [] [] z = z
  zip_mapped f h [] (y ∷ ys) z = absurd z
  zip_mapped f h (x ∷ xs) [] z = absurd z
  zip_mapped f h (x ∷ xs) (y ∷ ys) z = (h x y z.0, zip_mapped f h xs ys z.1)

  zip_kept : (x : X) (y : Y) (xs : List X) (ys : List Y) (p q : Bool) → p ≡ q → R x y → AllZip R xs ys →
      AllZip R (cond p (x ∷ xs) xs) (cond q (y ∷ ys) ys)
  zip_kept x y xs ys true true e r z = (r, z)
  zip_kept x y xs ys true false e r z = absurd (cc)
  zip_kept x y xs ys false true e r z = absurd (cc)
  zip_kept x y xs ys false false e r z = z

  pub zip_filter : (p : X → Bool) (q : Y → Bool) → ((x : X) (y : Y) → R x y → p x ≡ q y) → (xs : List X) (ys : List Y) →
      AllZip R xs ys → AllZip R (filter p xs) (filter q ys)
  zip_filter p q h [] [] z = z
  zip_filter p q h [] (y ∷ ys) z = absurd z
  zip_filter p q h (x ∷ xs) [] z = absurd z
  zip_filter p q h (x ∷ xs) (y ∷ ys) z =
      zip_kept x y (filter p xs) (filter q ys) (p x) (q y) (h x y z.0) z.0 (zip_filter p q h xs ys z.1)

  -- what passes at each place
  pub zip_all : (q : Y → Bool) (xs : List X) (ys : List Y) →
      ((x : X) (y : Y) → Among x xs → R x y → q y ≡ true) → AllZip R xs ys → filter q ys ≡ ys
  zip_all q [] [] h z = refl
  zip_all q [] (y ∷ ys) h z = absurd z
  zip_all q (x ∷ xs) [] h z = absurd z
  zip_all q (x ∷ xs) (y ∷ ys) h z =
      filter_yes q y ys (h x y (inl refl) z.0)
      ∙ ap (λ (l : List Y). y ∷ l) (zip_all q xs ys (λ a b i r. h a b (inr i) r) z.1)

  pub zip_push : (xs : List X) (ys : List Y) (x : X) (y : Y) → AllZip R xs ys → R x y →
      AllZip R (xs ++ x ∷ []) (ys ++ y ∷ [])
  zip_push [] [] x y z r = (r, tt)
  zip_push [] (b ∷ ys) x y z r = absurd z
  zip_push (a ∷ xs) [] x y z r = absurd z
  zip_push (a ∷ xs) (b ∷ ys) x y z r = (z.0, zip_push xs ys x y z.1 r)

  -- the places at which tests find
  pub record Beside (xs : List X) (y : Y) : Type 0 where
    pub left : X
    pub among : Among left xs
    pub related : R left y

  pub zip_beside : (xs : List X) (ys : List Y) → AllZip R xs ys → (y : Y) → Among y ys → Beside xs y
  zip_beside [] [] z y a = absurd a
  zip_beside [] (b ∷ ys) z y a = absurd z
  zip_beside (x ∷ xs) [] z y a = absurd z
  zip_beside (x ∷ xs) (b ∷ ys) z y (inl e) =
      record { left = x; among = inl refl; related = subst (R x) (sym e) z.0 }
  zip_beside (x ∷ xs) (b ∷ ys) z y (inr a) =
      let more = zip_beside xs ys z.1 y a in
      record { left = more.left; among = inr more.among; related = more.related }

  pub record Opposite (x : X) (ys : List Y) : Type 0 where
    pub right : Y
    pub among : Among right ys
    pub related : R x right

  pub zip_opposite : (xs : List X) (ys : List Y) → AllZip R xs ys → (x : X) → Among x xs → Opposite x ys
  zip_opposite [] [] z x a = absurd a
  zip_opposite [] (b ∷ ys) z x a = absurd z
  zip_opposite (c ∷ xs) [] z x a = absurd z
  zip_opposite (c ∷ xs) (b ∷ ys) z x (inl e) =
      record { right = b; among = inl refl; related = subst (λ (d : X). R d b) (sym e) z.0 }
  zip_opposite (c ∷ xs) (b ∷ ys) z x (inr a) =
      let more = zip_opposite xs ys z.1 x a in
      record { right = more.right; among = inr more.among; related = more.related }
