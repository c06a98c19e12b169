-- The variables of a selection are those of its essence, whatever the order of its arguments.
use Rattle.std.proofs.Common.{◌≡◌, Bool, true, false, if◌then◌else◌, List, [], ◌∷◌, ◌++◌, map, flat_map, refl, ap, sym, subst, ◌∙◌, Ordering, Less, Equal, Greater, is_le, nat_cmp}
use Rattle.std.proofs.lemmas.Cmp.{nat_list_cmp_total}
use Rattle.std.proofs.lemmas.Map.Lookups.{exact_bytes}
use Rattle.std.proofs.lemmas.List.Folds.{flat_map-map}
use Rattle.std.specs.Cmp.{IsTotalOrder}
use Rattle.std.specs.Ordering.{ordering_reverse, match_ordering}
use Rattle.std.specs.Cmp.Lexicographic.{slice_cmp}
use Rattle.std.specs.List.{AllByRecursion}
use Rattle.request_model.specs.declared.document.GPair.{GPair}
use Rattle.request_model.specs.declared.flat.FlatField.{FlatField}
use Rattle.request_model.specs.declared.flat.FlatField.TheOpen.{FlatField-F}
use Rattle.request_model.specs.declared.flat.FlatField.TheViews.{roll-FlatField}
use Rattle.request_model.specs.declared.flat.FlatField.TheFolds.{fold-FlatField, fold-roll-FlatField, ind-FlatField}
use Rattle.request_model.specs.declared.flat.Flat.{Flat}
use Rattle.request_model.specs.Strings.{Text}
use Rattle.scalar_val.specs.Ordered.{placed, ordered, included, distinct_in_order}
use Rattle.request_model.specs.Selection.{concatenated, by_name}
use Rattle.request_model.specs.SelectionLaws.{bare_argument, bare_step, bare_field}
use Rattle.request_model.proofs.ReadArguments.{firsts}
use Rattle.query_model.specs.Names.{pair_value}
use Rattle.query_model.specs.Queries.{value_names, field_names_step, text_variables}
use Rattle.admission_laws.proofs.BareArguments.{bare_arguments}

-- ---- elements that are put in their places one after the other, in whatever order

module _ {X : Type 0} (cmp : X → X → Ordering) where
  below : (x y : X) (ys : List X) → cmp x y ≡ Less → included cmp x (y ∷ ys) ≡ x ∷ y ∷ ys
  below x y ys e = ap (λ o. match_ordering o (x ∷ y ∷ ys) (y ∷ ys) (y ∷ included cmp x ys)) e

  there : (x y : X) (ys : List X) → cmp x y ≡ Equal → included cmp x (y ∷ ys) ≡ y ∷ ys
  there x y ys e = ap (λ o. match_ordering o (x ∷ y ∷ ys) (y ∷ ys) (y ∷ included cmp x ys)) e

  above : (x y : X) (ys : List X) → cmp x y ≡ Greater → included cmp x (y ∷ ys) ≡ y ∷ included cmp x ys
  above x y ys e = ap (λ o. match_ordering o (x ∷ y ∷ ys) (y ∷ ys) (y ∷ included cmp x ys)) e

module _ {X : Type 0} (cmp : X → X → Ordering) (total : IsTotalOrder cmp) (exact : (x y : X) → cmp x y ≡ Equal → x ≡ y) where
  turned : (x y : X) (o : Ordering) → cmp x y ≡ o → cmp y x ≡ ordering_reverse o
  turned x y o e = total.antisymm y x ∙ ap ordering_reverse e

  lower_first : (x y : X) (zs : List X) → cmp x y ≡ Less → included cmp x (included cmp y zs) ≡ included cmp y (included cmp x zs)
  lower_first x y [] h = below cmp x y [] h ∙ sym (above cmp y x [] (turned x y Less h))
  lower_first x y (z ∷ zs) h = go (lower_first x y zs h) (cmp y z) (cmp x z) refl refl
    where
      -- y above x passes it
      passes : (us : List X) → included cmp y (x ∷ us) ≡ x ∷ included cmp y us
      passes us = above cmp y x us (turned x y Less h)

      lowest : cmp x z ≡ Less → (us : List X) → included cmp x (z ∷ us) ≡ x ∷ z ∷ us → included cmp y (included cmp x (z ∷ zs)) ≡ x ∷ included cmp y (z ∷ zs)
      lowest e us _ = ap (included cmp y) (below cmp x z zs e) ∙ passes (z ∷ zs)

      go : included cmp x (included cmp y zs) ≡ included cmp y (included cmp x zs) → (o p : Ordering) → cmp y z ≡ o → cmp x z ≡ p → included cmp x (included cmp y (z ∷ zs)) ≡ included cmp y (included cmp x (z ∷ zs))
      go more Less p e f =
          let g = total.trans x y z h e in
          ap (included cmp x) (below cmp y z zs e) ∙ below cmp x y (z ∷ zs) h ∙ ap (λ us. x ∷ us) (sym (below cmp y z zs e)) ∙ sym (lowest g zs (below cmp x z zs g))
      go more Equal p e f =
          let g = ap (cmp x) (sym (exact y z e)) ∙ h in
          ap (included cmp x) (there cmp y z zs e) ∙ below cmp x z zs g ∙ ap (λ us. x ∷ us) (sym (there cmp y z zs e)) ∙ sym (lowest g zs (below cmp x z zs g))
      go more Greater Less e f =
          ap (included cmp x) (above cmp y z zs e) ∙ below cmp x z (included cmp y zs) f ∙ ap (λ us. x ∷ us) (sym (above cmp y z zs e)) ∙ sym (lowest f zs (below cmp x z zs f))
      go more Greater Equal e f =
          ap (included cmp x) (above cmp y z zs e) ∙ there cmp x z (included cmp y zs) f ∙ sym (above cmp y z zs e) ∙ ap (included cmp y) (sym (there cmp x z zs f))
      go more Greater Greater e f =
          ap (included cmp x) (above cmp y z zs e) ∙ above cmp x z (included cmp y zs) f ∙ ap (λ us. z ∷ us) more
          ∙ sym (above cmp y z (included cmp x zs) e) ∙ ap (included cmp y) (sym (above cmp x z zs f))

  either_first : (x y : X) (zs : List X) → included cmp x (included cmp y zs) ≡ included cmp y (included cmp x zs)
  either_first x y zs = go (cmp x y) refl
    where
      go : (o : Ordering) → cmp x y ≡ o → included cmp x (included cmp y zs) ≡ included cmp y (included cmp x zs)
      go Less e = lower_first x y zs e
      go Equal e = ap (λ u. included cmp u (included cmp y zs)) (exact x y e) ∙ ap (λ u. included cmp y (included cmp u zs)) (sym (exact x y e))
      go Greater e = sym (lower_first y x zs (turned x y Greater e))

-- ---- texts, in order and each once

abbrev text_cmp : Text → Text → Ordering
text_cmp = slice_cmp nat_cmp

abbrev pub adding : List Text → List Text → List Text
adding [] zs = zs
adding (x ∷ xs) zs = included text_cmp x (adding xs zs)

pub distinct_added : (xs : List Text) → distinct_in_order text_cmp xs ≡ adding xs []
distinct_added [] = refl
distinct_added (x ∷ xs) = ap (included text_cmp x) (distinct_added xs)

added_append : (xs ys zs : List Text) → adding (xs ++ ys) zs ≡ adding xs (adding ys zs)
added_append [] ys zs = refl
added_append (x ∷ xs) ys zs = ap (included text_cmp x) (added_append xs ys zs)

added_past : (x : Text) (ys zs : List Text) → included text_cmp x (adding ys zs) ≡ adding ys (included text_cmp x zs)
added_past x [] zs = refl
added_past x (y ∷ ys) zs = either_first text_cmp nat_list_cmp_total exact_bytes x y (adding ys zs) ∙ ap (included text_cmp y) (added_past x ys zs)

added_either : (xs ys zs : List Text) → adding xs (adding ys zs) ≡ adding ys (adding xs zs)
added_either [] ys zs = refl
added_either (x ∷ xs) ys zs = ap (included text_cmp x) (added_either xs ys zs) ∙ added_past x ys (adding xs zs)

-- the same texts, whatever their order
abbrev Alike : List Text → List Text → Type 0
Alike xs ys = (zs : List Text) → adding xs zs ≡ adding ys zs

alike_both : (xs ys us vs : List Text) → Alike xs us → Alike ys vs → Alike (xs ++ ys) (us ++ vs)
alike_both xs ys us vs a b zs = added_append xs ys zs ∙ ap (adding xs) (b zs) ∙ a (adding vs zs) ∙ sym (added_append us vs zs)

module _ {X : Type 0} (cmp : X → X → Ordering) (names : X → List Text) where
  alike_placed : (x : X) (ys : List X) → Alike (flat_map names (placed cmp x ys)) (flat_map names (x ∷ ys))
  alike_placed x [] zs = refl
  alike_placed x (y ∷ ys) zs = go (is_le (cmp x y)) (alike_placed x ys zs)
    where
      go : (b : Bool) → adding (flat_map names (placed cmp x ys)) zs ≡ adding (flat_map names (x ∷ ys)) zs →
          adding (flat_map names (if b then x ∷ y ∷ ys else y ∷ placed cmp x ys)) zs ≡ adding (flat_map names (x ∷ y ∷ ys)) zs
      go true more = refl
      go false more =
          added_append (names y) (flat_map names (placed cmp x ys)) zs ∙ ap (adding (names y)) (more ∙ added_append (names x) (flat_map names ys) zs)
          ∙ added_either (names y) (names x) (adding (flat_map names ys) zs)
          ∙ sym (added_append (names x) (names y ++ flat_map names ys) zs ∙ ap (adding (names x)) (added_append (names y) (flat_map names ys) zs))

  alike_ordered : (xs : List X) → Alike (flat_map names (ordered cmp xs)) (flat_map names xs)
  alike_ordered [] zs = refl
  alike_ordered (x ∷ xs) zs =
      alike_placed x (ordered cmp xs) zs ∙ added_append (names x) (flat_map names (ordered cmp xs)) zs ∙ ap (adding (names x)) (alike_ordered xs zs) ∙ sym (added_append (names x) (flat_map names xs) zs)

-- ---- the names in the arguments of fields

abbrev pub pair_names : GPair → List Text
pair_names p = value_names (pair_value p)

-- where a cursor's initial value is away already
abbrev pub bare_names_step : FlatField-F (List Text) → List Text
bare_names_step f = flat_map pair_names f.args ++ concatenated f.fields

abbrev pub bare_names : FlatField → List Text
bare_names = fold-FlatField (List Text) bare_names_step

abbrev pub all_names : FlatField → List Text
all_names = fold-FlatField (List Text) field_names_step

abbrev IsAlike : FlatField → Type 0
IsAlike x = Alike (bare_names (bare_field x)) (all_names x)

alike_fields : (xs : List FlatField) → AllByRecursion IsAlike xs → Alike (concatenated (map bare_names (map bare_field xs))) (concatenated (map all_names xs))
alike_fields [] all zs = refl
alike_fields (x ∷ xs) all zs =
    alike_both (bare_names (bare_field x)) (concatenated (map bare_names (map bare_field xs))) (all_names x) (concatenated (map all_names xs)) all.0 (alike_fields xs all.1) zs

alike_rolled : (f : FlatField-F FlatField) → AllByRecursion IsAlike f.fields → IsAlike (roll-FlatField f)
alike_rolled f all zs =
    ap (λ ts. adding ts zs) (ap bare_names (fold-roll-FlatField FlatField bare_step f) ∙ fold-roll-FlatField (List Text) bare_names_step _)
    ∙ alike_both (flat_map pair_names (bare_arguments f.args)) (concatenated (map bare_names (map bare_field f.fields))) (flat_map (λ p. pair_names (bare_argument p)) f.args) (concatenated (map all_names f.fields))
    (λ us. ap (λ ts. adding ts us) (flat_map-map pair_names bare_argument (by_name f.args)) ∙ alike_ordered _ (λ p. pair_names (bare_argument p)) f.args us)
    (alike_fields f.fields all) zs
    ∙ ap (λ ts. adding ts zs) (sym (fold-roll-FlatField (List Text) field_names_step f))

alike_field : (x : FlatField) → IsAlike x
alike_field = ind-FlatField IsAlike (λ f y is. alike_rolled f (subst (λ z. AllByRecursion IsAlike z.fields) is (firsts IsAlike y.fields)))

each_alike : (xs : List FlatField) → Alike (flat_map bare_names (map bare_field xs)) (flat_map all_names xs)
each_alike [] zs = refl
each_alike (x ∷ xs) zs = alike_both (bare_names (bare_field x)) (flat_map bare_names (map bare_field xs)) (all_names x) (flat_map all_names xs) (alike_field x) (each_alike xs) zs

-- the variables of fields in an essence
abbrev pub bare_variables : List FlatField → List Text
bare_variables fields = adding (flat_map bare_names fields) []

pub text_variables_are : (s : Flat) → text_variables s ≡ bare_variables (map bare_field s.fields)
text_variables_are s = distinct_added (flat_map all_names s.fields) ∙ sym (each_alike s.fields [])
