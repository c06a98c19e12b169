-- Lists of texts that are read from their front.
use Rattle.std.proofs.Common.{◌≡◌, ◌==◌, ℕ, Bool, true, false, not, List, [], ◌∷◌, ◌++◌, map, refl, ap, ap₂, sym, ◌∙◌, append_assoc}
use Rattle.std.proofs.lemmas.Bool.{false≢true, and_parts, not-true, eq-eqb}
use Rattle.std.specs.Prelude.{IsTrue, flat_map}
use Rattle.std.specs.List.{list_all, AllByRecursion}
use Rattle.request_model.specs.Strings.{Text}
use Rattle.scalar_val.specs.Joined.{parted}
use Rattle.request_model.proofs.ReadNames.{tails, is_close, closes}

-- the text of x, where something that closes follows, tells `told x` and ends where it ends
abbrev pub Told : {X : Type 0} → (X → Text) → (X → X) → (X → Bool) → X → Type 0
Told {X} text told good x =
    (y : X) (r s : Text) → IsTrue (good x) → IsTrue (good y) → IsTrue (closes r) → IsTrue (closes s) → text x ++ r ≡ text y ++ s → (told x ≡ told y) × (r ≡ s)

-- a text that isn't empty and begins with no byte that closes
abbrev pub opens : Text → Bool
opens [] = false
opens (b ∷ r) = not (is_close b)

module _ {X : Type 0} (text : X → Text) (told : X → X) (good : X → Bool) (opened : (x : X) → IsTrue (good x) → IsTrue (opens (text x)))
    (between end : ℕ) (differ : (between == end) ≡ false) (between_closes : is_close between ≡ true) (end_closes : is_close end ≡ true) where
  abbrev more : List X → Text
  more xs = flat_map (λ u. between ∷ u) (map text xs)

  more_closes : (xs : List X) (r : Text) → IsTrue (closes (more xs ++ end ∷ r))
  more_closes [] r = end_closes
  more_closes (x ∷ xs) r = between_closes

  not_end : (t m s r : Text) → IsTrue (opens t) → end ∷ r ≡ (t ++ m) ++ s → ⊥
  not_end [] m s r o h = false≢true o
  not_end (b ∷ t) m s r o h = false≢true (sym (not-true (is_close b) o) ∙ ap is_close (sym (tails end b r ((t ++ m) ++ s) h).0) ∙ end_closes)

  not_between : (r s : Text) → between ∷ r ≡ end ∷ s → ⊥
  not_between r s h = false≢true (sym differ ∙ eq-eqb between end (tails between end r s h).0)

  read_item : (x y : X) (xs ys : List X) (r s : Text) → AllByRecursion (Told text told good) (x ∷ xs) → IsTrue (list_all good (x ∷ xs)) → IsTrue (list_all good (y ∷ ys)) →
      (text x ++ more xs) ++ end ∷ r ≡ (text y ++ more ys) ++ end ∷ s → (told x ≡ told y) × (more xs ++ end ∷ r ≡ more ys ++ end ∷ s)
  read_item x y xs ys r s all gx gy h =
      all.0 y (more xs ++ end ∷ r) (more ys ++ end ∷ s) (and_parts (good x) (list_all good xs) gx).0 (and_parts (good y) (list_all good ys) gy).0
      (more_closes xs r) (more_closes ys s) (sym (append_assoc (text x) (more xs) (end ∷ r)) ∙ h ∙ append_assoc (text y) (more ys) (end ∷ s))

  read_more : (xs ys : List X) (r s : Text) → AllByRecursion (Told text told good) xs → IsTrue (list_all good xs) → IsTrue (list_all good ys) →
      more xs ++ end ∷ r ≡ more ys ++ end ∷ s → (map told xs ≡ map told ys) × (r ≡ s)
  read_more [] [] r s all gx gy h = (refl, (tails end end r s h).1)
  read_more [] (y ∷ ys) r s all gx gy h = absurd (not_between ((text y ++ more ys) ++ end ∷ s) r (sym h))
  read_more (x ∷ xs) [] r s all gx gy h = absurd (not_between ((text x ++ more xs) ++ end ∷ r) s h)
  read_more (x ∷ xs) (y ∷ ys) r s all gx gy h =
      let one = read_item x y xs ys r s all gx gy (tails between between ((text x ++ more xs) ++ end ∷ r) ((text y ++ more ys) ++ end ∷ s) h).1 in
      let rest = read_more xs ys r s all.1 (and_parts (good x) (list_all good xs) gx).1 (and_parts (good y) (list_all good ys) gy).1 one.1 in
      (ap₂ (λ z zs. z ∷ zs) one.0 rest.0, rest.1)

  pub read_parted : (xs ys : List X) (r s : Text) → AllByRecursion (Told text told good) xs → IsTrue (list_all good xs) → IsTrue (list_all good ys) →
      parted between (map text xs) ++ end ∷ r ≡ parted between (map text ys) ++ end ∷ s → (map told xs ≡ map told ys) × (r ≡ s)
  read_parted [] [] r s all gx gy h = (refl, (tails end end r s h).1)
  read_parted [] (y ∷ ys) r s all gx gy h = absurd (not_end (text y) (more ys) (end ∷ s) r (opened y (and_parts (good y) (list_all good ys) gy).0) h)
  read_parted (x ∷ xs) [] r s all gx gy h = absurd (not_end (text x) (more xs) (end ∷ r) s (opened x (and_parts (good x) (list_all good xs) gx).0) (sym h))
  read_parted (x ∷ xs) (y ∷ ys) r s all gx gy h =
      let one = read_item x y xs ys r s all gx gy h in
      let rest = read_more xs ys r s all.1 (and_parts (good x) (list_all good xs) gx).1 (and_parts (good y) (list_all good ys) gy).1 one.1 in
      (ap₂ (λ z zs. z ∷ zs) one.0 rest.0, rest.1)
