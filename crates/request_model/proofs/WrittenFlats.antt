-- The flat selection of what a text says is written.
use Rattle.std.proofs.Common.{◌≡◌, ℕ, zero, suc, ◌+◌, Bool, true, false, ◌&&◌, ◌||◌, if◌then◌else◌, List, [], ◌∷◌, ◌++◌, length, map, Option, Some, None, Result, Ok, Err, refl, ap, ap₂, sym, subst, ◌∙◌}
use Rattle.std.proofs.lemmas.Bool.{false≢true, and_parts, and_from, or_parts}
use Rattle.std.proofs.lemmas.List.Folds.{list_all-map, list_all-append}
use Rattle.std.specs.Prelude.{IsTrue, cond, flat_map, find}
use Rattle.std.specs.Str.{bytes_eq}
use Rattle.std.specs.List.{list_all, list_any, filter_map, cons_option, AllByRecursion}
use Rattle.request_model.specs.declared.document.Selection.{Selection}
use Rattle.request_model.specs.declared.document.Selection.TheOpen.{Selection-F}
use Rattle.request_model.specs.declared.document.Selection.TheViews.{roll-Selection}
use Rattle.request_model.specs.declared.document.Selection.TheFolds.{map-Selection, para-roll-Selection, ind-Selection}
use Rattle.request_model.specs.declared.document.Definition.{Definition}
use Rattle.request_model.specs.declared.document.Definition.TheVariants as definition
use Rattle.request_model.specs.declared.flat.FlatField.{FlatField}
use Rattle.request_model.specs.declared.flat.FlatField.TheOpen.{FlatField-F}
use Rattle.request_model.specs.declared.flat.FlatField.TheViews.{roll-FlatField}
use Rattle.request_model.specs.declared.flat.FlatField.TheFolds.{fold-roll-FlatField}
use Rattle.request_model.specs.declared.flat.FlatFault.{FlatFault}
use Rattle.request_model.specs.Strings.{Text}
use Rattle.request_model.specs.Place.{lexemes_of}
use Rattle.request_model.specs.Lexemes.{lexemes}
use Rattle.request_model.specs.Selection.{Operation, Fragment, operation_of, fragment_of, operations, fragment_named, is_called, or_no_operation, chosen, Scope, is_dropped, Selected, Group, grouped, Collected, nothing, Collecting, in_order, noted, noted_if, with_visited, with_field, response_key, unless_dropped, selection_step, collect_one, collecting, visiting, spreading, collected, fields_of, inner_set, has_some, has_inner, most_levels, fields_down, scope, flattened}
use Rattle.request_model.specs.SelectionLaws.{is_name, is_written_pair, itself, is_empty, written_field_step, FlatsAreWritten}
use Rattle.request_model.proofs.SelectionRules.{paired, second_of}
use Rattle.request_model.proofs.ReadArguments.{firsts}
use Rattle.request_model.proofs.ReadFields.{is_written_field}
use Rattle.request_model.proofs.WrittenLexemes.{good_lexemes}
use Rattle.request_model.proofs.WrittenDocuments.{good_step, is_good_selection, good_rolled, GoodDefinition, document_good}

-- ---- what is collected

record GoodSelected (f : Selected) : Type 0 where
  key : IsTrue (is_name f.key)
  name : IsTrue (is_name f.name)
  args : IsTrue (list_all is_written_pair f.args)
  select : IsTrue (list_all is_good_selection f.select)

abbrev GoodGroup : Group → Type 0
GoodGroup g = AllByRecursion GoodSelected (fields_of g)

abbrev GoodCollected : Collected → Type 0
GoodCollected c = AllByRecursion GoodGroup c.groups

abbrev Keeps : Collecting → Type 0
Keeps k = (c : Collected) → GoodCollected c → GoodCollected (k c)

all_push : {X : Type 0} (P : X → Type 0) (xs : List X) (x : X) → AllByRecursion P xs → P x → AllByRecursion P (xs ++ x ∷ [])
all_push P [] x all p = (p, tt)
all_push P (y ∷ ys) x all p = (all.0, all_push P ys x all.1 p)

grouped_good : (f : Selected) (gs : List Group) → GoodSelected f → AllByRecursion GoodGroup gs → AllByRecursion GoodGroup (grouped f gs)
grouped_good f [] g all = ((g, tt), tt)
grouped_good f (h ∷ gs) g all = go (bytes_eq f.key h.first.key) (grouped_good f gs g all.1)
  where
    go : (b : Bool) → AllByRecursion GoodGroup (grouped f gs) → AllByRecursion GoodGroup (if b then record { first = h.first; others = h.others ++ f ∷ [] } ∷ gs else h ∷ grouped f gs)
    go true rest = ((all.0.0, all_push GoodSelected h.others f all.0.1 g), all.1)
    go false rest = (all.0, rest)

in_order_keeps : (fs : List Collecting) → AllByRecursion Keeps fs → Keeps (in_order fs)
in_order_keeps [] all c g = g
in_order_keeps (f ∷ fs) all c g = in_order_keeps fs all.1 (f c) (all.0 c g)

unless_keeps : (b : Bool) (k : Collecting) → Keeps k → Keeps (unless_dropped b k)
unless_keeps true k keeps c g = g
unless_keeps false k keeps c g = keeps c g

noted_keeps : (on : Option Text) → Keeps (noted_if on)
noted_keeps (Some on) c g = g
noted_keeps None c g = g

module _ (where_ : Scope) (spread : Text → Collecting) (spread_keeps : (name : Text) → Keeps (spread name)) where
  abbrev collect : Selection → Collecting
  collect = collect_one where_ spread

  abbrev KeepsGood : Selection → Type 0
  KeepsGood x = IsTrue (is_good_selection x) → Keeps (collect x)

  abbrev EachInner : Selection-F Selection → Type 0
  EachInner (Selection-F.Field alias name args ds inner) = AllByRecursion KeepsGood inner
  EachInner (Selection-F.Spread name ds) = Unit {0}
  EachInner (Selection-F.Inline on ds inner) = AllByRecursion KeepsGood inner

  all_keep : (xs : List Selection) → AllByRecursion KeepsGood xs → IsTrue (list_all is_good_selection xs) → AllByRecursion Keeps (map collect xs)
  all_keep [] all g = tt
  all_keep (x ∷ xs) all g = let p = and_parts (is_good_selection x) (list_all is_good_selection xs) g in (all.0 p.0, all_keep xs all.1 p.1)

  step_keeps : (f : Selection-F Selection) → EachInner f → IsTrue (good_step (map-Selection Selection Bool is_good_selection f)) → Keeps (selection_step where_ spread (map-Selection Selection (Selection × Collecting) (λ x. (x, collect x)) f))
  step_keeps (Selection-F.Field alias name args ds inner) each g =
      let key = is_name (response_key alias name) in
      let written = list_all is_written_pair args in
      let three = and_parts (key && is_name name && written) (list_all itself (map is_good_selection inner)) g in
      let two = and_parts (key && is_name name) written three.0 in
      let one = and_parts key (is_name name) two.0 in
      let good : GoodSelected (record { key = response_key alias name; name = name; args = args; select = inner }) =
      record { key = one.0; name = one.1; args = two.1; select = sym (list_all-map itself is_good_selection inner) ∙ three.1 } in
      unless_keeps (is_dropped where_ ds) (with_field (record { key = response_key alias name; name = name; args = args; select = map (λ (e : Selection × Collecting). e.0) (map (λ x. (x, collect x)) inner) }))
      (λ c h. grouped_good _ c.groups (subst (λ xs. GoodSelected (record { key = response_key alias name; name = name; args = args; select = xs })) (sym (paired collect inner)) good) h)
  step_keeps (Selection-F.Spread name ds) each g = unless_keeps (is_dropped where_ ds) (spread name) (spread_keeps name)
  step_keeps (Selection-F.Inline on ds inner) each g =
      unless_keeps (is_dropped where_ ds) (λ c. in_order (map (λ (e : Selection × Collecting). e.1) (map (λ x. (x, collect x)) inner)) (noted_if on c))
      (λ c h. in_order_keeps _ (subst (AllByRecursion Keeps) (sym (second_of collect inner)) (all_keep inner each (sym (list_all-map itself is_good_selection inner) ∙ g))) (noted_if on c) (noted_keeps on c h))

  rolled_keeps : (f : Selection-F Selection) → EachInner f → KeepsGood (roll-Selection f)
  unfolding collect_one
  rolled_keeps f each g = subst Keeps (sym (para-roll-Selection Collecting (selection_step where_ spread) f)) (step_keeps f each (sym (good_rolled f) ∙ g))

  each_inner : (y : Selection-F ((x : Selection) × KeepsGood x)) → EachInner (map-Selection ((x : Selection) × KeepsGood x) Selection (λ e. e.0) y)
  each_inner (Selection-F.Field alias name args ds inner) = firsts KeepsGood inner
  each_inner (Selection-F.Spread name ds) = tt
  each_inner (Selection-F.Inline on ds inner) = firsts KeepsGood inner

  collect_keeps : (x : Selection) → KeepsGood x
  collect_keeps = ind-Selection KeepsGood (λ f y is. rolled_keeps f (subst EachInner is (each_inner y)))

  all_collect : (xs : List Selection) → AllByRecursion KeepsGood xs
  all_collect [] = tt
  all_collect (x ∷ xs) = (collect_keeps x, all_collect xs)

  collecting_keeps : (set : List Selection) → IsTrue (list_all is_good_selection set) → Keeps (collecting where_ spread set)
  collecting_keeps set g = in_order_keeps (map collect set) (all_keep set (all_collect set) g)

-- ---- fragments

abbrev GoodFragment : Fragment → Type 0
GoodFragment f = IsTrue (list_all is_good_selection f.select)

abbrev GoodMaybe : {X : Type 0} → (X → Type 0) → Option X → Type 0
GoodMaybe P None = Unit {0}
GoodMaybe P (Some x) = P x

found_good : {X : Type 0} (P : X → Type 0) (test : X → Bool) (xs : List X) → AllByRecursion P xs → GoodMaybe P (find test xs)
found_good P test [] all = tt
found_good P test (x ∷ xs) all = go (test x) (found_good P test xs all.1)
  where
    go : (b : Bool) → GoodMaybe P (find test xs) → GoodMaybe P (cond b (Some x) (find test xs))
    go true rest = all.0
    go false rest = rest

module _ (where_ : Scope) (good : AllByRecursion GoodFragment where_.fragments) where
  visiting_keeps : (inner : List Selection → Collecting) → ((set : List Selection) → IsTrue (list_all is_good_selection set) → Keeps (inner set)) → (o : Option Fragment) → GoodMaybe GoodFragment o → Keeps (visiting where_ inner o)
  visiting_keeps inner keeps None g c h = h
  visiting_keeps inner keeps (Some f) g c h = go (list_any (bytes_eq f.name) c.visited)
    where
      go : (b : Bool) → GoodCollected (if b then c else inner f.select (noted f.on (with_visited f.name c)))
      go true = h
      go false = keeps f.select g (noted f.on (with_visited f.name c)) h

  spreading_keeps : (depth : ℕ) (name : Text) → Keeps (spreading where_ depth name)
  spreading_keeps zero name c h = h
  spreading_keeps (suc depth) name c h =
      visiting_keeps (collecting where_ (spreading where_ depth)) (collecting_keeps where_ (spreading where_ depth) (spreading_keeps depth)) (fragment_named where_.fragments name)
      (found_good GoodFragment _ where_.fragments good) c h

  collected_good : (set : List Selection) → IsTrue (list_all is_good_selection set) → GoodCollected (collected where_ set)
  collected_good set g = collecting_keeps where_ (spreading where_ (length where_.fragments)) (spreading_keeps (length where_.fragments)) set g nothing tt

  -- ---- fields

  inner_good : (fs : List Selected) → AllByRecursion GoodSelected fs → IsTrue (list_all is_good_selection (flat_map (λ (f : Selected). f.select) fs))
  inner_good [] all = refl
  inner_good (f ∷ fs) all = list_all-append is_good_selection f.select (flat_map (λ (h : Selected). h.select) fs) ∙ and_from _ _ all.0.select (inner_good fs all.1)

  none_inner : (fs : List Selected) → list_any has_inner fs ≡ false → flat_map (λ (f : Selected). f.select) fs ≡ []
  none_inner [] e = refl
  none_inner (f ∷ fs) e = let p = or_parts (has_inner f) (list_any has_inner fs) e in ap₂ (λ xs ys. xs ++ ys) (none f.select p.0) (none_inner fs p.1)
    where
      none : (xs : List Selection) → has_some xs ≡ false → xs ≡ []
      none [] e = refl
      none (x ∷ xs) e = absurd (false≢true (sym e))

  none_down : (levels : ℕ) → fields_down where_ levels [] ≡ []
  none_down zero = refl
  none_down (suc levels) = refl

  abbrev field_of : ℕ → Group → FlatField-F FlatField
  field_of levels g = record {
    key = g.first.key;
    name = g.first.name;
    args = g.first.args;
    nested = list_any has_inner (fields_of g);
    conditions = (collected where_ (inner_set g)).conditions;
    fields = fields_down where_ levels (inner_set g);
  }

  nested_or_none : (levels : ℕ) (g : Group) → IsTrue (list_any has_inner (fields_of g) || is_empty (map is_written_field (fields_down where_ levels (inner_set g))))
  nested_or_none levels g = go (list_any has_inner (fields_of g)) refl
    where
      go : (b : Bool) → list_any has_inner (fields_of g) ≡ b → IsTrue (b || is_empty (map is_written_field (fields_down where_ levels (inner_set g))))
      go true e = refl
      go false e = ap (λ xs. is_empty (map is_written_field xs)) (ap (fields_down where_ levels) (none_inner (fields_of g) e) ∙ none_down levels)

  field_good : (levels : ℕ) (g : Group) → GoodGroup g → IsTrue (list_all is_written_field (fields_down where_ levels (inner_set g))) → IsTrue (is_written_field (roll-FlatField (field_of levels g)))
  field_good levels g good inner =
      let f = field_of levels g in
      let key = is_name f.key in
      let name = is_name f.name in
      let args = list_all is_written_pair f.args in
      let nested = f.nested || is_empty (map is_written_field f.fields) in
      fold-roll-FlatField Bool written_field_step f
      ∙ and_from (key && name && args && nested) (list_all itself (map is_written_field f.fields))
      (and_from (key && name && args) nested (and_from (key && name) args (and_from key name good.0.key good.0.name) good.0.args) (nested_or_none levels g))
      (list_all-map itself is_written_field f.fields ∙ inner)

  fields_good : (levels : ℕ) (set : List Selection) → IsTrue (list_all is_good_selection set) → IsTrue (list_all is_written_field (fields_down where_ levels set))
  fields_good zero set g = refl
  fields_good (suc levels) set g = go (fields_good levels) (collected where_ set).groups (collected_good set g)
    where
      go : ((set : List Selection) → IsTrue (list_all is_good_selection set) → IsTrue (list_all is_written_field (fields_down where_ levels set))) → (gs : List Group) → AllByRecursion GoodGroup gs →
          IsTrue (list_all is_written_field (map (λ (h : Group). roll-FlatField (field_of levels h)) gs))
      go below [] all = refl
      go below (h ∷ gs) all = and_from _ _ (field_good levels h all.0 (below (inner_set h) (inner_good (fields_of h) all.0))) (go below gs all.1)

-- ---- documents

abbrev GoodOperation : Operation → Type 0
GoodOperation o = IsTrue (list_all is_good_selection o.select)

kept_good : {X Y : Type 0} (P : X → Type 0) (Q : Y → Type 0) (h : X → Option Y) → ((x : X) → P x → GoodMaybe Q (h x)) → (xs : List X) → AllByRecursion P xs → AllByRecursion Q (filter_map h xs)
kept_good P Q h good [] all = tt
kept_good {Y = Y} P Q h good (x ∷ xs) all = go (h x) (good x all.0) (kept_good P Q h good xs all.1)
  where
    go : (o : Option Y) → GoodMaybe Q o → AllByRecursion Q (filter_map h xs) → AllByRecursion Q (cons_option o (filter_map h xs))
    go None g rest = rest
    go (Some y) g rest = (g, rest)

operation_good : (x : Definition) → GoodDefinition x → GoodMaybe GoodOperation (operation_of x)
operation_good (definition.Operation w n vs ds set) g = g
operation_good (definition.Fragment n on ds set) g = tt

fragment_good : (x : Definition) → GoodDefinition x → GoodMaybe GoodFragment (fragment_of x)
fragment_good (definition.Operation w n vs ds set) g = tt
fragment_good (definition.Fragment n on ds set) g = g

abbrev GoodResult : Result Operation FlatFault → Type 0
GoodResult (Ok o) = GoodOperation o
GoodResult (Err x) = Unit {0}

chosen_good : (wanted : Option Text) (os : List Operation) → AllByRecursion GoodOperation os → GoodResult (chosen wanted os)
chosen_good (Some name) os all = go (find (is_called name) os) (found_good GoodOperation (is_called name) os all)
  where
    go : (o : Option Operation) → GoodMaybe GoodOperation o → GoodResult (or_no_operation o)
    go None g = tt
    go (Some o) g = g
chosen_good None [] all = tt
chosen_good None (o ∷ []) all = all.0
chosen_good None (o ∷ p ∷ os) all = tt

pub flats_are_written : FlatsAreWritten
flats_are_written text d wanted values f reads (flattened {o = o} {w = w} chosen_is none served_is) =
    let good = document_good (lexemes_of text (lexemes text).0) [] d reads.derives.0 (good_lexemes text) in
    let operation : GoodOperation o = subst GoodResult chosen_is (chosen_good wanted (operations d) (kept_good GoodDefinition GoodOperation operation_of operation_good d.definitions good)) in
    fields_good (scope d values o) (kept_good GoodDefinition GoodFragment fragment_of fragment_good d.definitions good) (most_levels + 1) o.select operation
