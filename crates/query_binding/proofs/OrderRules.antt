-- Names that are put in their places one after the other, in whatever order.
use denote.Ref.{Bor}
use Rattle.std.proofs.Common.{◌≡◌, ◌∙◌, refl, ap, sym, append_assoc, Bool, false, ◌||◌, if◌then◌else◌, List, [], ◌∷◌, ◌++◌, map}
use Rattle.std.proofs.lemmas.Bool.{or_parts, or_from}
use Rattle.std.proofs.lemmas.List.Folds.{list_any-append}
use Rattle.std.proofs.lemmas.Cmp.{nat_list_cmp_total}
use Rattle.std.proofs.lemmas.Map.Lookups.{exact_bytes}
use Rattle.std.proofs.lemmas.Map.Text.{is_eq-slice_cmp}
use Rattle.std.specs.List.{AllByRecursion, list_any}
use Rattle.std.specs.List.Sorted.{IsStrictlySortedBy}
use Rattle.std.specs.Ordering.{nat_cmp, is_eq, match_ordering, ordering_reverse}
use Rattle.std.specs.declared.cmp.Ordering.{Ordering}
use Rattle.std.specs.declared.cmp.Ordering.TheVariants.{Less, Equal, Greater}
use Rattle.std.specs.Cmp.Lexicographic.{slice_cmp}
use Rattle.std.specs.Str.{bytes_eq}
use Rattle.scalar_val.specs.Ordered.{distinct_in_order}
use Rattle.name_set.specs.Names.{inserted, repeats}
use Rattle.name_set.proofs.NameRules.{turned as swapped}
use Rattle.request_model.specs.Strings.{Text}
use Rattle.query_binding.specs.Added.{with_name, added}

abbrev text_cmp : Text → Text → Ordering
text_cmp = slice_cmp nat_cmp

abbrev pub borrowed_cmp : Bor Text → Bor Text → Ordering
borrowed_cmp x y = text_cmp x.now y.now

-- ---- two names are put in their places in either order

below : (x y : Text) (ys : List Text) → text_cmp x y ≡ Less → with_name x (y ∷ ys) ≡ x ∷ y ∷ ys
below x y ys e = ap (λ o. match_ordering o (x ∷ y ∷ ys) (y ∷ ys) (y ∷ with_name x ys)) e

there : (x y : Text) (ys : List Text) → text_cmp x y ≡ Equal → with_name x (y ∷ ys) ≡ y ∷ ys
there x y ys e = ap (λ o. match_ordering o (x ∷ y ∷ ys) (y ∷ ys) (y ∷ with_name x ys)) e

above : (x y : Text) (ys : List Text) → text_cmp x y ≡ Greater → with_name x (y ∷ ys) ≡ y ∷ with_name x ys
above x y ys e = ap (λ o. match_ordering o (x ∷ y ∷ ys) (y ∷ ys) (y ∷ with_name x ys)) e

turned : (x y : Text) (o : Ordering) → text_cmp x y ≡ o → text_cmp y x ≡ ordering_reverse o
turned x y o e = nat_list_cmp_total.antisymm y x ∙ ap ordering_reverse e

lower_first : (x y : Text) (zs : List Text) → text_cmp x y ≡ Less →
    with_name x (with_name y zs) ≡ with_name y (with_name x zs)
lower_first x y [] h = below x y [] h ∙ sym (above y x [] (turned x y Less h))
lower_first x y (z ∷ zs) h = by (lower_first x y zs h) (text_cmp y z) (text_cmp x z) refl refl
  where
    lowest : text_cmp x z ≡ Less → with_name y (with_name x (z ∷ zs)) ≡ x ∷ with_name y (z ∷ zs)
    lowest e = ap (with_name y) (below x z zs e) ∙ above y x (z ∷ zs) (turned x y Less h)

    by : with_name x (with_name y zs) ≡ with_name y (with_name x zs) → (o p : Ordering) → text_cmp y z ≡ o →
        text_cmp x z ≡ p → with_name x (with_name y (z ∷ zs)) ≡ with_name y (with_name x (z ∷ zs))
    by more Less p e f =
        ap (with_name x) (below y z zs e) ∙ below x y (z ∷ zs) h ∙ ap (λ us. x ∷ us) (sym (below y z zs e))
        ∙ sym (lowest (nat_list_cmp_total.trans x y z h e))
    by more Equal p e f =
        let g = ap (text_cmp x) (sym (exact_bytes y z e)) ∙ h in
        ap (with_name x) (there y z zs e) ∙ below x z zs g ∙ ap (λ us. x ∷ us) (sym (there y z zs e)) ∙ sym (lowest g)
    by more Greater Less e f =
        ap (with_name x) (above y z zs e) ∙ below x z (with_name y zs) f ∙ ap (λ us. x ∷ us) (sym (above y z zs e))
        ∙ sym (lowest f)
    by more Greater Equal e f =
        ap (with_name x) (above y z zs e) ∙ there x z (with_name y zs) f ∙ sym (above y z zs e)
        ∙ ap (with_name y) (sym (there x z zs f))
    by more Greater Greater e f =
        ap (with_name x) (above y z zs e) ∙ above x z (with_name y zs) f ∙ ap (λ us. z ∷ us) more
        ∙ sym (above y z (with_name x zs) e) ∙ ap (with_name y) (sym (above x z zs f))

either_first : (x y : Text) (zs : List Text) → with_name x (with_name y zs) ≡ with_name y (with_name x zs)
either_first x y zs = by (text_cmp x y) refl
  where
    by : (o : Ordering) → text_cmp x y ≡ o → with_name x (with_name y zs) ≡ with_name y (with_name x zs)
    by Less e = lower_first x y zs e
    by Equal e =
        ap (λ u. with_name u (with_name y zs)) (exact_bytes x y e)
        ∙ ap (λ u. with_name y (with_name u zs)) (sym (exact_bytes x y e))
    by Greater e = sym (lower_first y x zs (turned x y Greater e))

added_past : (x : Text) (ys names : List Text) → added ys (with_name x names) ≡ with_name x (added ys names)
added_past x [] names = refl
added_past x (y ∷ ys) names = ap (added ys) (either_first y x names) ∙ added_past x ys (with_name y names)

pub added_in_order : (xs : List Text) → added xs [] ≡ distinct_in_order (slice_cmp nat_cmp) xs
added_in_order [] = refl
added_in_order (x ∷ xs) = added_past x xs [] ∙ ap (with_name x) (added_in_order xs)

-- ---- names in order stand once

other : (x y : Text) → text_cmp x y ≡ Less → bytes_eq x y ≡ false
other x y e = sym (is_eq-slice_cmp x y) ∙ ap is_eq e

others : (x : Bor Text) (ks : List (Bor Text)) → AllByRecursion (λ k. borrowed_cmp x k ≡ Less) ks →
    list_any (bytes_eq x.now) (map (λ k. k.now) ks) ≡ false
others x [] all = refl
others x (k ∷ ks) all = rw (other x.now k.now all.0) (others x ks all.1)

pub in_order_once : (ks : List (Bor Text)) → IsStrictlySortedBy borrowed_cmp ks → repeats (map (λ k. k.now) ks) ≡ false
unfolding IsStrictlySortedBy
in_order_once [] sorted = refl
in_order_once (k ∷ ks) sorted = rw (others k ks sorted.0) (in_order_once ks sorted.1)

-- ---- a list is copied, name by name, to names that stand once

new_one : (done : List Text) (t : Text) (rest : List Text) → repeats (done ++ t ∷ rest) ≡ false →
    list_any (bytes_eq t) done ≡ false
new_one [] t rest h = refl
new_one (x ∷ xs) t rest h =
    let parts = or_parts (list_any (bytes_eq x) (xs ++ t ∷ rest)) (repeats (xs ++ t ∷ rest)) h in
    let apart =
    or_parts (list_any (bytes_eq x) xs) (bytes_eq x t || list_any (bytes_eq x) rest)
    (sym (list_any-append (bytes_eq x) xs (t ∷ rest)) ∙ parts.0) in
    or_from (bytes_eq t x) (list_any (bytes_eq t) xs)
    (swapped t x ∙ (or_parts (bytes_eq x t) (list_any (bytes_eq x) rest) apart.1).0) (new_one xs t rest parts.1)

pub next_copied : (done : List Text) (t : Text) (rest all : List Text) → done ++ t ∷ rest ≡ all → repeats all ≡ false →
    inserted done t ++ rest ≡ all
next_copied done t rest all e h =
    ap (λ (b : Bool). (if b then done else done ++ t ∷ []) ++ rest) (new_one done t rest (ap repeats e ∙ h))
    ∙ append_assoc done (t ∷ []) rest ∙ e
