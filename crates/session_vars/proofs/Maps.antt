-- Maps of texts of which only some names are kept.
use Rattle.std.proofs.Common.{◌≡◌, [], ◌∷◌, Bool, true, false, Option, Some, None, Ordering, Less, Equal, Greater, nat_cmp, filter, is_eq, refl, sym, ◌∙◌, ap, subst}
use Rattle.std.specs.Cmp.Lexicographic.{slice_cmp}
use Rattle.std.specs.Ordering.{match_ordering, ordering_reverse}
use Rattle.std.specs.Str.{bytes_eq}
use Rattle.std.proofs.lemmas.Cmp.{nat_list_cmp_total}
use Rattle.std.proofs.lemmas.Map.Lookups.{exact_bytes}
use Rattle.std.proofs.lemmas.Map.Text.{is_eq-slice_cmp}
use Rattle.std.proofs.lemmas.Slice.Eq.{bytes_eq-Decides}
use Rattle.role_model.specs.Texts.{Text, Texts, value_of, with_value}

abbrev compare : Text → Text → Ordering
compare = slice_cmp nat_cmp

-- the name is below all of the map
abbrev pub IsBelow : Text → Texts → Type 0
IsBelow name [] = Unit {0}
IsBelow name (e ∷ es) = (compare name e.0 ≡ Less) × IsBelow name es

abbrev pub Ascends : Texts → Type 0
Ascends [] = Unit {0}
Ascends (e ∷ es) = IsBelow e.0 es × Ascends es

-- the part of the map whose names pass
abbrev pub passed : (Text → Bool) → Texts → Texts
passed q es = filter (λ e. q e.0) es

same : (a b : Text) → compare a b ≡ Equal → a ≡ b
same a b h = exact_bytes a b h

compare-self : (a : Text) → compare a a ≡ Equal
compare-self a = equal (compare a a) (is_eq-slice_cmp a a ∙ (bytes_eq-Decides a a).1 refl)
  where
    equal : (o : Ordering) → is_eq o ≡ true → o ≡ Equal
    equal Less h = cc
    equal Equal h = refl
    equal Greater h = cc

turned : (a b : Text) → compare a b ≡ Greater → compare b a ≡ Less
turned a b h = nat_list_cmp_total.antisymm b a ∙ ap ordering_reverse h

below_more : (a b : Text) (es : Texts) → compare a b ≡ Less → IsBelow b es → IsBelow a es
below_more a b [] h below = tt
below_more a b (e ∷ es) h below = (nat_list_cmp_total.trans a b e.0 h below.0, below_more a b es h below.1)

-- a map with one more value ascends

below_with_by : (low name value : Text) (e : Text × Text) (es : Texts) (o : Ordering) → compare name e.0 ≡ o → compare low name ≡ Less → IsBelow low (e ∷ es) → IsBelow low (with_value name value es) → IsBelow low (with_value name value (e ∷ es))
below_with_by low name value e es Less c h below rest = rw c (h, below)
below_with_by low name value e es Equal c h below rest = rw c below
below_with_by low name value e es Greater c h below rest = rw c (below.0, rest)

below_with : (low name value : Text) (es : Texts) → compare low name ≡ Less → IsBelow low es → IsBelow low (with_value name value es)
below_with low name value [] h below = (h, tt)
below_with low name value (e ∷ es) h below = below_with_by low name value e es (compare name e.0) refl h below (below_with low name value es h below.1)

ascends_with_by : (name value : Text) (e : Text × Text) (es : Texts) (o : Ordering) → compare name e.0 ≡ o → Ascends (e ∷ es) → Ascends (with_value name value es) → Ascends (with_value name value (e ∷ es))
ascends_with_by name value e es Less c up rest = rw c ((c, below_more name e.0 es c up.0), up)
ascends_with_by name value e es Equal c up rest = rw c up
ascends_with_by name value e es Greater c up rest = rw c (below_with e.0 name value es (turned name e.0 c) up.0, rest)

pub ascends_with : (name value : Text) (es : Texts) → Ascends es → Ascends (with_value name value es)
ascends_with name value [] up = (tt, tt)
ascends_with name value (e ∷ es) up = ascends_with_by name value e es (compare name e.0) refl up (ascends_with name value es up.1)

-- what passes of a map with one more value

front_by : (q : Text → Bool) (name value : Text) (e : Text × Text) (es : Texts) (b : Bool) → q e.0 ≡ b → compare name e.0 ≡ Less → with_value name value (passed q es) ≡ (name, value) ∷ passed q es → with_value name value (passed q (e ∷ es)) ≡ (name, value) ∷ passed q (e ∷ es)
front_by q name value e es true h below rest = rw (h, below) refl
front_by q name value e es false h below rest = rw h rest

front : (q : Text → Bool) (name value : Text) (es : Texts) → IsBelow name es → with_value name value (passed q es) ≡ (name, value) ∷ passed q es
front q name value [] below = refl
front q name value (e ∷ es) below = front_by q name value e es (q e.0) refl below.0 (front q name value es below.1)

later_by : (q : Text → Bool) (name value : Text) (e : Text × Text) (es : Texts) (b : Bool) → q e.0 ≡ b → compare name e.0 ≡ Greater → passed q (with_value name value es) ≡ with_value name value (passed q es) → passed q (with_value name value (e ∷ es)) ≡ with_value name value (passed q (e ∷ es))
later_by q name value e es true h c rest = rw (h, c, h) (ap (λ (xs : Texts). e ∷ xs) rest)
later_by q name value e es false h c rest = rw (h, c, h) rest

passed_with_by : (q : Text → Bool) (name value : Text) (e : Text × Text) (es : Texts) (o : Ordering) → compare name e.0 ≡ o → q name ≡ true → Ascends (e ∷ es) → passed q (with_value name value es) ≡ with_value name value (passed q es) → passed q (with_value name value (e ∷ es)) ≡ with_value name value (passed q (e ∷ es))
passed_with_by q name value e es Less c h up rest = rw (c, h) (sym (front q name value (e ∷ es) (c, below_more name e.0 es c up.0)))
passed_with_by q name value e es Equal c h up rest =
    let passes : q e.0 ≡ true = sym (ap q (same name e.0 c)) ∙ h in
    rw (passes, c, passes) refl
passed_with_by q name value e es Greater c h up rest = later_by q name value e es (q e.0) refl c rest

pub passed_with : (q : Text → Bool) (name value : Text) (es : Texts) → q name ≡ true → Ascends es → passed q (with_value name value es) ≡ with_value name value (passed q es)
passed_with q name value [] h up = rw h refl
passed_with q name value (e ∷ es) h up = passed_with_by q name value e es (compare name e.0) refl h up (passed_with q name value es h up.1)

passed_without_by : (q : Text → Bool) (name value : Text) (e : Text × Text) (es : Texts) (o : Ordering) → compare name e.0 ≡ o → q name ≡ false → passed q (with_value name value es) ≡ passed q es → passed q (with_value name value (e ∷ es)) ≡ passed q (e ∷ es)
passed_without_by q name value e es Less c h rest = rw (c, h) refl
passed_without_by q name value e es Equal c h rest =
    let fails : q e.0 ≡ false = sym (ap q (same name e.0 c)) ∙ h in
    rw (c, fails) refl
passed_without_by q name value e es Greater c h rest = rw (c, rest) refl

pub passed_without : (q : Text → Bool) (name value : Text) (es : Texts) → q name ≡ false → passed q (with_value name value es) ≡ passed q es
passed_without q name value [] h = rw h refl
passed_without q name value (e ∷ es) h = passed_without_by q name value e es (compare name e.0) refl h (passed_without q name value es h)

-- values

found_by : (name value : Text) (e : Text × Text) (es : Texts) (o : Ordering) → compare name e.0 ≡ o → value_of name (with_value name value es) ≡ Some value → value_of name (with_value name value (e ∷ es)) ≡ Some value
found_by name value e es Less c rest = rw (c, compare-self name) refl
found_by name value e es Equal c rest = rw (c, c) refl
found_by name value e es Greater c rest = rw (c, c) rest

pub found : (name value : Text) (es : Texts) → value_of name (with_value name value es) ≡ Some value
found name value [] = rw (compare-self name) refl
found name value (e ∷ es) = found_by name value e es (compare name e.0) refl (found name value es)

missed : (a b : Text) (x y : Option Text) → bytes_eq a b ≡ false → match_ordering (compare a b) x y x ≡ x
missed a b x y h = past (compare a b) (is_eq-slice_cmp a b ∙ h)
  where
    past : (o : Ordering) → is_eq o ≡ false → match_ordering o x y x ≡ x
    past Less k = refl
    past Equal k = cc
    past Greater k = refl

unchanged_by : (other name value : Text) (e : Text × Text) (es : Texts) (o : Ordering) → compare name e.0 ≡ o → bytes_eq other name ≡ false → value_of other (with_value name value es) ≡ value_of other es → value_of other (with_value name value (e ∷ es)) ≡ value_of other (e ∷ es)
unchanged_by other name value e es Less c h rest = rw c (missed other name (value_of other (e ∷ es)) (Some value) h)
unchanged_by other name value e es Equal c h rest =
    let differs : bytes_eq other e.0 ≡ false = subst (λ (n : Text). bytes_eq other n ≡ false) (same name e.0 c) h in
    rw c (missed other e.0 (value_of other es) (Some value) differs ∙ sym (missed other e.0 (value_of other es) (Some e.1) differs))
unchanged_by other name value e es Greater c h rest = rw (c, rest) refl

pub unchanged : (other name value : Text) (es : Texts) → bytes_eq other name ≡ false → value_of other (with_value name value es) ≡ value_of other es
unchanged other name value [] h = missed other name None (Some value) h
unchanged other name value (e ∷ es) h = unchanged_by other name value e es (compare name e.0) refl h (unchanged other name value es h)

passes_by : (q : Text → Bool) (name : Text) (e : Text × Text) (es : Texts) (b : Bool) (o : Ordering) → q e.0 ≡ b → compare name e.0 ≡ o → q name ≡ true → value_of name (passed q es) ≡ value_of name es → value_of name (passed q (e ∷ es)) ≡ value_of name (e ∷ es)
passes_by q name e es true o h c passes rest = rw (h, rest) refl
passes_by q name e es false Less h c passes rest = rw (h, c) rest
passes_by q name e es false Equal h c passes rest = apart (value_of name (passed q (e ∷ es))) (value_of name (e ∷ es)) (q e.0) (sym (ap q (same name e.0 c)) ∙ passes) h
  where
    apart : (x y : Option Text) (b : Bool) → b ≡ true → b ≡ false → x ≡ y
    apart x y b passing failing = cc
passes_by q name e es false Greater h c passes rest = rw (h, c) rest

-- the value of a name that passes
pub passed_value : (q : Text → Bool) (name : Text) (es : Texts) → q name ≡ true → value_of name (passed q es) ≡ value_of name es
passed_value q name [] h = refl
passed_value q name (e ∷ es) h = passes_by q name e es (q e.0) (compare name e.0) refl refl h (passed_value q name es h)

pub differs : (a b : Text) → bytes_eq a b ≡ false → bytes_eq b a ≡ false
differs a b h = by_test (bytes_eq b a) refl
  where
    by_test : (t : Bool) → bytes_eq b a ≡ t → t ≡ false
    by_test true k = sym ((bytes_eq-Decides a b).1 (sym ((bytes_eq-Decides b a).0 k))) ∙ h
    by_test false k = refl
