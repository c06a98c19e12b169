-- Names that are collected.
use denote.Ref.{Bor}
use Rattle.std.proofs.Common.{◌≡◌, ◌∙◌, refl, ap, sym, List, [], ◌∷◌, ◌++◌, map, flat_map}
use Rattle.std.specs.Ordering.{nat_cmp, match_ordering}
use Rattle.std.specs.declared.cmp.Ordering.{Ordering}
use Rattle.std.specs.declared.cmp.Ordering.TheVariants.{Less, Equal, Greater}
use Rattle.std.specs.Cmp.Lexicographic.{slice_cmp}
use Rattle.scalar_val.specs.Ordered.{distinct_in_order}
use Rattle.std.specs.BTreeSet.{insert_key}
use Rattle.request_model.specs.Strings.{Text}
use Rattle.request_model.specs.Selection.{concatenated}
use Rattle.request_model.specs.SelectionLaws.{bare_initial, bare_initial_by, bare_object, bare_object_by, bare_cursor, bare_cursor_by, bare_pair, renamed}
use Rattle.request_model.specs.declared.document.GPair.{GPair}
use Rattle.request_model.specs.declared.document.GValue.{GValue}
use Rattle.request_model.specs.declared.document.GValue.TheVariants as v
use Rattle.request_model.specs.declared.document.GValue.TheViews.{outs-Many, outs-Object}
use Rattle.request_model.specs.declared.document.GValue.TheFolds.{fold-roll-GPair}
use Rattle.request_model.specs.declared.flat.FlatField.{FlatField}
use Rattle.request_model.specs.declared.flat.FlatField.TheViews.{out-FlatField}
use Rattle.request_model.specs.declared.flat.FlatField.TheFolds.{fold_out-FlatField}
use Rattle.query_model.specs.Queries.{value_names, value_names_step, pair_names_step, field_names_step}
use Rattle.query_model.proofs.QueryRules.{names-Many, names-Object, names-Null}
use Rattle.query_binding.proofs.OrderRules.{borrowed_cmp, added_in_order}
use Rattle.query_binding.specs.Added.{with_name, added, added_each, pair_names, cursor_pair_names, object_names, argument_names, field_names}

-- ---- a name in a set

pub name_inserted : (keys : List (Bor Text)) (name : Bor Text) →
    map (λ k. k.now) (insert_key borrowed_cmp keys name) ≡ with_name name.now (map (λ k. k.now) keys)
name_inserted [] name = refl
name_inserted (k ∷ ks) name = by (slice_cmp nat_cmp name.now k.now) (name_inserted ks name)
  where
    by : (o : Ordering) → map (λ x. x.now) (insert_key borrowed_cmp ks name) ≡ with_name name.now (map (λ x. x.now) ks) →
        map (λ x. x.now) (match_ordering o (name ∷ k ∷ ks) (k ∷ ks) (k ∷ insert_key borrowed_cmp ks name))
        ≡ match_ordering o (name.now ∷ k.now ∷ map (λ x. x.now) ks) (k.now ∷ map (λ x. x.now) ks)
        (k.now ∷ with_name name.now (map (λ x. x.now) ks))
    by Less later = refl
    by Equal later = refl
    by Greater later = ap (λ ts. k.now ∷ ts) later

-- ---- lists of names

pub added_append : (xs ys names : List Text) → added (xs ++ ys) names ≡ added ys (added xs names)
added_append [] ys names = refl
added_append (x ∷ xs) ys names = added_append xs ys (with_name x names)

pub added_concatenated : (xss : List (List Text)) (names : List Text) → added_each xss names ≡ added (concatenated xss) names
added_concatenated [] names = refl
added_concatenated (xs ∷ xss) names = added_concatenated xss (added xs names) ∙ sym (added_append xs (concatenated xss) names)

flat_added : {X : Type 0} (f : X → List Text) (xs : List X) (names : List Text) →
    added (flat_map f xs) names ≡ added_each (map f xs) names
flat_added f [] names = refl
flat_added f (x ∷ xs) names = added_append (f x) (flat_map f xs) names ∙ flat_added f xs (added (f x) names)

-- ---- the names in a value

pub many_added : (items : List GValue) (names : List Text) →
    added (value_names (v.Many items)) names ≡ added_each (map value_names items) names
many_added items names =
    ap (λ ts. added ts names) (names-Many items) ∙ sym (added_concatenated (map value_names items) names)

pub object_added : (pairs : List GPair) (names : List Text) →
    added (value_names (v.Object pairs)) names ≡ added_each (map pair_names pairs) names
object_added pairs names =
    ap (λ ts. added ts names) (names-Object pairs) ∙ sym (added_concatenated (map pair_names pairs) names)

-- ---- a cursor's

map_twice : {X Y Z : Type 0} (f : Y → Z) (g : X → Y) (xs : List X) → map f (map g xs) ≡ map (λ x. f (g x)) xs
map_twice f g [] = refl
map_twice f g (x ∷ xs) = ap (λ ys. f (g x) ∷ ys) (map_twice f g xs)

pub renamed_names : (p : GPair) (x : GValue) → pair_names (renamed p x) ≡ value_names x
renamed_names p x = fold-roll-GPair (List Text) (List Text) value_names_step pair_names_step _

no_names : (pairs : List GPair) → concatenated (map pair_names (map (λ p. renamed p v.Null) pairs)) ≡ []
no_names [] = refl
no_names (p ∷ ps) =
    ap (λ ts. ts ++ concatenated (map pair_names (map (λ q. renamed q v.Null) ps))) (renamed_names p v.Null ∙ names-Null)
    ∙ no_names ps

pub initial_added : (pairs : List GPair) (names : List Text) → added (value_names (bare_initial (v.Object pairs))) names ≡ names
initial_added pairs names =
    ap (λ f. added (value_names (bare_initial_by (v.Object pairs) f)) names) (outs-Object pairs)
    ∙ ap (λ ts. added ts names) (names-Object (map (λ p. renamed p v.Null) pairs) ∙ no_names pairs)

pub cursor_object_added : (pairs : List GPair) (names : List Text) →
    added (object_names (v.Object pairs)) names ≡ added_each (map cursor_pair_names pairs) names
cursor_object_added pairs names =
    ap (λ f. added (value_names (bare_object_by (v.Object pairs) f)) names) (outs-Object pairs)
    ∙ object_added (map bare_pair pairs) names
    ∙ ap (λ xss. added_each xss names) (map_twice pair_names bare_pair pairs)

pub cursor_added : (items : List GValue) (names : List Text) →
    added (value_names (bare_cursor (v.Many items))) names ≡ added_each (map object_names items) names
cursor_added items names =
    ap (λ f. added (value_names (bare_cursor_by (bare_object (v.Many items)) f)) names) (outs-Many items)
    ∙ many_added (map bare_object items) names ∙ ap (λ xss. added_each xss names) (map_twice value_names bare_object items)

-- ---- a field's

pub field_added : (f : FlatField) (names : List Text) →
    added (field_names f) names
    ≡ added_each (map field_names (out-FlatField f).fields) (added_each (map argument_names (out-FlatField f).args) names)
field_added f names =
    ap (λ ts. added ts names) (fold_out-FlatField (List Text) field_names_step f)
    ∙ added_append (flat_map argument_names (out-FlatField f).args) (concatenated (map field_names (out-FlatField f).fields)) names
    ∙ sym (added_concatenated (map field_names (out-FlatField f).fields) _)
    ∙ ap (added_each (map field_names (out-FlatField f).fields)) (flat_added argument_names (out-FlatField f).args names)

-- ---- a selection's

flat_is_concatenated : {X : Type 0} (f : X → List Text) (xs : List X) → concatenated (map f xs) ≡ flat_map f xs
flat_is_concatenated f [] = refl
flat_is_concatenated f (x ∷ xs) = ap (λ ts. f x ++ ts) (flat_is_concatenated f xs)

pub fields_added : (fields : List FlatField) →
    added_each (map field_names fields) [] ≡ distinct_in_order (slice_cmp nat_cmp) (flat_map field_names fields)
fields_added fields =
    added_concatenated (map field_names fields) [] ∙ ap (λ ts. added ts []) (flat_is_concatenated field_names fields)
    ∙ added_in_order (flat_map field_names fields)
