-- Lists that are sorted by placing each element: what a filter and the first elements leave of them.
use Rattle.std.proofs.Common.{◌≡◌, Bool, true, false, not, cond, if◌then◌else◌, List, [], ◌∷◌, ◌++◌, filter, refl, ap, sym, ◌∙◌, ◌⊎◌, inl, inr}
use Rattle.std.specs.Ordering.{is_le}
use Rattle.std.specs.declared.cmp.Ordering.{Ordering}
use Rattle.std.specs.List.{AllByRecursion}
use Rattle.data_model.specs.Rows.{Pairwise}
use Rattle.scalar_val.specs.Ordered.{placed, ordered}

pub all_filter : {Y : Type 0} (P : Y → Type 0) (q : Y → Bool) (ys : List Y) → AllByRecursion P ys → AllByRecursion P (filter q ys)
all_filter P q [] h = tt
all_filter P q (y ∷ ys) h = go (q y) (all_filter P q ys h.1)
  where
    go : (b : Bool) → AllByRecursion P (filter q ys) → AllByRecursion P (cond b (y ∷ filter q ys) (filter q ys))
    go true more = (h.0, more)
    go false more = more

pub pairs_filter : {Y : Type 0} (R : Y → Y → Type 0) (q : Y → Bool) (ys : List Y) → Pairwise R ys → Pairwise R (filter q ys)
pairs_filter R q [] h = tt
pairs_filter R q (y ∷ ys) h = go (q y) (pairs_filter R q ys h.1)
  where
    go : (b : Bool) → Pairwise R (filter q ys) → Pairwise R (cond b (y ∷ filter q ys) (filter q ys))
    go true more = (all_filter (R y) q ys h.0, more)
    go false more = more

pub all_weaker : {Y : Type 0} (P Q : Y → Type 0) → ((y : Y) → P y → Q y) → (ys : List Y) → AllByRecursion P ys → AllByRecursion Q ys
all_weaker P Q f [] h = tt
all_weaker P Q f (y ∷ ys) h = (f y h.0, all_weaker P Q f ys h.1)

pub pairs_weaker : {Y : Type 0} (R S : Y → Y → Type 0) → ((x y : Y) → R x y → S x y) → (ys : List Y) → Pairwise R ys → Pairwise S ys
pairs_weaker R S f [] h = tt
pairs_weaker R S f (y ∷ ys) h = (all_weaker (R y) (S y) (f y) ys h.0, pairs_weaker R S f ys h.1)

pub keeps_none : {Y : Type 0} (q : Y → Bool) (ys : List Y) → AllByRecursion (λ y. q y ≡ false) ys → filter q ys ≡ []
keeps_none q [] h = refl
keeps_none q (y ∷ ys) h = ap (λ b. cond b (y ∷ filter q ys) (filter q ys)) h.0 ∙ keeps_none q ys h.1

pub keeps_all : {Y : Type 0} (q : Y → Bool) (ys : List Y) → AllByRecursion (λ y. q y ≡ true) ys → filter q ys ≡ ys
keeps_all q [] h = refl
keeps_all q (y ∷ ys) h = ap (λ b. cond b (y ∷ filter q ys) (filter q ys)) h.0 ∙ ap (λ zs. y ∷ zs) (keeps_all q ys h.1)

pub same_filter : {Y : Type 0} (p q : Y → Bool) (ys : List Y) → AllByRecursion (λ y. p y ≡ q y) ys → filter p ys ≡ filter q ys
same_filter p q [] h = refl
same_filter p q (y ∷ ys) h = ap (λ b. cond b (y ∷ filter p ys) (filter p ys)) h.0 ∙ ap (λ zs. cond (q y) (y ∷ zs) zs) (same_filter p q ys h.1)

pub each_of : {Y : Type 0} (P : Y → Type 0) → ((y : Y) → P y) → (ys : List Y) → AllByRecursion P ys
each_of P f [] = tt
each_of P f (y ∷ ys) = (f y, each_of P f ys)

-- what passes a test that goes on upwards stands last
pub parts_of : {Y : Type 0} (q : Y → Bool) (ys : List Y) → Pairwise (λ x y. q x ≡ true → q y ≡ true) ys → filter (λ y. not (q y)) ys ++ filter q ys ≡ ys
parts_of q [] h = refl
parts_of q (y ∷ ys) h = go (q y) refl (parts_of q ys h.1)
  where
    go : (b : Bool) → q y ≡ b → filter (λ z. not (q z)) ys ++ filter q ys ≡ ys → cond (not b) (y ∷ filter (λ z. not (q z)) ys) (filter (λ z. not (q z)) ys) ++ cond b (y ∷ filter q ys) (filter q ys) ≡ y ∷ ys
    go true e more =
        let all : AllByRecursion (λ z. q z ≡ true) ys = all_weaker (λ z. q y ≡ true → q z ≡ true) (λ z. q z ≡ true) (λ z f. f e) ys h.0 in
        ap (λ zs. zs ++ y ∷ filter q ys) (keeps_none (λ z. not (q z)) ys (all_weaker (λ z. q z ≡ true) (λ z. not (q z) ≡ false) (λ z f. ap not f) ys all)) ∙ ap (λ zs. y ∷ zs) (keeps_all q ys all)
    go false e more = ap (λ zs. y ∷ zs) more

module _ {Y : Type 0} (cmp : Y → Y → Ordering) where
  abbrev pub le : Y → Y → Bool
  le x y = is_le (cmp x y)

  all_placed : (P : Y → Type 0) (x : Y) (ys : List Y) → P x → AllByRecursion P ys → AllByRecursion P (placed cmp x ys)
  all_placed P x [] p h = (p, tt)
  all_placed P x (y ∷ ys) p h = go (le x y) (all_placed P x ys p h.1)
    where
      go : (b : Bool) → AllByRecursion P (placed cmp x ys) → AllByRecursion P (if b then x ∷ y ∷ ys else y ∷ placed cmp x ys)
      go true more = (p, h)
      go false more = (h.0, more)

  pub all_ordered : (P : Y → Type 0) (ys : List Y) → AllByRecursion P ys → AllByRecursion P (ordered cmp ys)
  all_ordered P [] h = tt
  all_ordered P (y ∷ ys) h = all_placed P y (ordered cmp ys) h.0 (all_ordered P ys h.1)

  module _ (chain : (x y z : Y) → le x y ≡ true → le y z ≡ true → le x z ≡ true) (turn : (x y : Y) → le x y ≡ false → le y x ≡ true) where
    abbrev Up : List Y → Type 0
    Up ys = Pairwise (λ x y. le x y ≡ true) ys

    placed_up : (x : Y) (ys : List Y) → Up ys → Up (placed cmp x ys)
    placed_up x [] h = (tt, tt)
    placed_up x (y ∷ ys) h = go (le x y) refl (placed_up x ys h.1)
      where
        go : (b : Bool) → le x y ≡ b → Up (placed cmp x ys) → Up (if b then x ∷ y ∷ ys else y ∷ placed cmp x ys)
        go true e more = ((e, all_weaker (λ z. le y z ≡ true) (λ z. le x z ≡ true) (λ z f. chain x y z e f) ys h.0), h)
        go false e more = (all_placed (λ z. le y z ≡ true) x ys (turn x y e) h.0, more)

    pub ordered_up : (ys : List Y) → Up (ordered cmp ys)
    ordered_up [] = tt
    ordered_up (y ∷ ys) = placed_up y (ordered cmp ys) (ordered_up ys)

    placed_first : (x : Y) (ys : List Y) → AllByRecursion (λ z. le x z ≡ true) ys → placed cmp x ys ≡ x ∷ ys
    placed_first x [] h = refl
    placed_first x (y ∷ ys) h = ap (λ b. if b then x ∷ y ∷ ys else y ∷ placed cmp x ys) h.0

    filter_placed : (q : Y → Bool) (x : Y) (ys : List Y) → Up ys → filter q (placed cmp x ys) ≡ cond (q x) (placed cmp x (filter q ys)) (filter q ys)
    filter_placed q x [] h = refl
    filter_placed q x (y ∷ ys) h = go (le x y) refl (filter_placed q x ys h.1)
      where
        passed : (a b : Bool) → le x y ≡ false → cond b (y ∷ cond a (placed cmp x (filter q ys)) (filter q ys)) (cond a (placed cmp x (filter q ys)) (filter q ys))
            ≡ cond a (placed cmp x (cond b (y ∷ filter q ys) (filter q ys))) (cond b (y ∷ filter q ys) (filter q ys))
        passed true true e = sym (ap (λ c. if c then x ∷ y ∷ filter q ys else y ∷ placed cmp x (filter q ys)) e)
        passed true false e = refl
        passed false true e = refl
        passed false false e = refl

        go : (b : Bool) → le x y ≡ b → filter q (placed cmp x ys) ≡ cond (q x) (placed cmp x (filter q ys)) (filter q ys)
            → filter q (if b then x ∷ y ∷ ys else y ∷ placed cmp x ys) ≡ cond (q x) (placed cmp x (filter q (y ∷ ys))) (filter q (y ∷ ys))
        go true e more =
            let all : AllByRecursion (λ z. le x z ≡ true) (y ∷ ys) = (e, all_weaker (λ z. le y z ≡ true) (λ z. le x z ≡ true) (λ z f. chain x y z e f) ys h.0) in
            ap (λ zs. cond (q x) zs (filter q (y ∷ ys))) (sym (placed_first x (filter q (y ∷ ys)) (all_filter (λ z. le x z ≡ true) q (y ∷ ys) all)))
        go false e more = ap (λ zs. cond (q y) (y ∷ zs) zs) more ∙ passed (q x) (q y) e

    -- a filter before or after
    pub filter_ordered : (q : Y → Bool) (ys : List Y) → filter q (ordered cmp ys) ≡ ordered cmp (filter q ys)
    filter_ordered q [] = refl
    filter_ordered q (y ∷ ys) = filter_placed q y (ordered cmp ys) (ordered_up ys) ∙ ap (λ zs. cond (q y) (placed cmp y zs) zs) (filter_ordered q ys) ∙ go (q y)
      where
        go : (b : Bool) → cond b (placed cmp y (ordered cmp (filter q ys))) (ordered cmp (filter q ys)) ≡ ordered cmp (cond b (y ∷ filter q ys) (filter q ys))
        go true = refl
        go false = refl

  -- a strict order, in which any two of the list are apart
  module _ (lt : Y → Y → Bool) (below : (x y : Y) → lt x y ≡ true → le x y ≡ true) (above : (x y : Y) → lt y x ≡ true → le x y ≡ false)
      (further : (x y z : Y) → lt x y ≡ true → lt y z ≡ true → lt x z ≡ true) where
    abbrev Apart : Y → Y → Type 0
    Apart x y = (lt x y ≡ true) ⊎ (lt y x ≡ true)

    abbrev Strict : List Y → Type 0
    Strict ys = Pairwise (λ x y. lt x y ≡ true) ys

    unlike : (b : Bool) → b ≡ true → b ≡ false → ⊥
    unlike b e f = cc

    low : (x y : Y) → Apart x y → le x y ≡ true → lt x y ≡ true
    low x y (inl h) e = h
    low x y (inr h) e = absurd (unlike (le x y) e (above x y h))

    high : (x y : Y) → Apart x y → le x y ≡ false → lt y x ≡ true
    high x y (inr h) e = h
    high x y (inl h) e = absurd (unlike (le x y) (below x y h) e)

    placed_strict : (x : Y) (ys : List Y) → AllByRecursion (Apart x) ys → Strict ys → Strict (placed cmp x ys)
    placed_strict x [] a h = (tt, tt)
    placed_strict x (y ∷ ys) a h = go (le x y) refl (placed_strict x ys a.1 h.1)
      where
        go : (b : Bool) → le x y ≡ b → Strict (placed cmp x ys) → Strict (if b then x ∷ y ∷ ys else y ∷ placed cmp x ys)
        go true e more = let l = low x y a.0 e in ((l, all_weaker (λ z. lt y z ≡ true) (λ z. lt x z ≡ true) (λ z f. further x y z l f) ys h.0), h)
        go false e more = (all_placed (λ z. lt y z ≡ true) x ys (high x y a.0 e) h.0, more)

    pub ordered_strict : (ys : List Y) → Pairwise Apart ys → Strict (ordered cmp ys)
    ordered_strict [] h = tt
    ordered_strict (y ∷ ys) h = placed_strict y (ordered cmp ys) (all_ordered (Apart y) ys h.0) (ordered_strict ys h.1)
