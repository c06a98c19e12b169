-- Canonical texts depend on nothing but what they tell.
use Rattle.std.proofs.Common.{◌≡◌, Bool, true, false, List, [], ◌∷◌, ◌++◌, map, refl, ap, ap₂, sym, subst, ◌∙◌}
use Rattle.std.specs.Prelude.{codes}
use Rattle.std.specs.Str.{bytes_eq}
use Rattle.std.specs.List.{AllByRecursion}
use Rattle.request_model.specs.declared.document.GValue.{GValue}
use Rattle.request_model.specs.declared.document.GValue.TheVariants as v
use Rattle.request_model.specs.declared.document.GPair.{GPair}
use Rattle.request_model.specs.declared.document.GValue.TheOpen.{GValue-F, GPair-F}
use Rattle.request_model.specs.declared.document.GValue.TheViews.{out-GValue, roll-GValue, roll-out-GValue, out-roll-GValue, outs-Many, outs-Object, out-GPair, roll-GPair, out-roll-GPair}
use Rattle.scalar_val.specs.declared.word.Word.{Word}
use Rattle.request_model.specs.declared.flat.FlatField.{FlatField}
use Rattle.request_model.specs.declared.flat.FlatField.TheOpen.{FlatField-F}
use Rattle.request_model.specs.declared.flat.FlatField.TheViews.{roll-FlatField}
use Rattle.request_model.specs.declared.flat.FlatField.TheFolds.{fold-FlatField, fold-roll-FlatField, ind-FlatField}
use Rattle.request_model.specs.declared.flat.Flat.{Flat}
use Rattle.request_model.specs.Strings.{Text}
use Rattle.request_model.specs.Selection.{by_name}
use Rattle.scalar_val.specs.Joined.{parted, in_brackets, in_braces, named_text}
use Rattle.request_model.specs.Canonical.{value_text, initial_text, cursor_pair, cursor_object, cursor_text_by, cursor_text, argument_text, in_parentheses, set_text, field_step, field_text, word_text, canonical}
use Rattle.request_model.specs.SelectionLaws.{bare_initial, bare_pair, bare_object, bare_cursor_by, bare_cursor, bare_argument, bare_step, bare_field, essence, CanonicalTellsNoMore}
use Rattle.request_model.proofs.ReadParts.{ByName}
use Rattle.request_model.proofs.ReadArguments.{firsts, object_by, object_told_by, object_text, object_told, inner, inner_told, keyed, hidden_text, hidden_told, hidden}

each_same : {X Y : Type 0} (f : X → Y) (g : X → X) → ((x : X) → f (g x) ≡ f x) → (xs : List X) → map f (map g xs) ≡ map f xs
each_same f g same [] = refl
each_same f g same (x ∷ xs) = ap₂ (λ y ys. y ∷ ys) (same x) (each_same f g same xs)

-- ---- arguments

unchanged_by_name : (test : Text → Bool) (inside : Bool → GValue → Text) (told : Bool → GValue → GValue) (pair : GPair → Text) (pair_told : GPair → GPair) → ByName test inside told pair pair_told →
    ((b : Bool) (x : GValue) → inside b (told b x) ≡ inside b x) → (p : GPair) → pair (pair_told p) ≡ pair p
unchanged_by_name test inside told pair pair_told s same p =
    let name = (out-GPair p).name in
    let value = (out-GPair p).value in
    let q : GPair-F GValue GPair = record { name = name; value = told (test name) value } in
    ap pair (s.told_is p) ∙ s.text_is (roll-GPair q) ∙ ap (λ (z : GPair-F GValue GPair). named_text z.name (inside (test z.name) z.value)) (out-roll-GPair q)
    ∙ ap (named_text name) (same (test name) value) ∙ sym (s.text_is p)

module _ (pair : GPair → Text) (pair_is : GPair → GPair) (same : (p : GPair) → pair (pair_is p) ≡ pair p) where
  abbrev the_text : GValue → Text
  the_text = object_text pair pair_is

  abbrev told_by : GValue → GValue-F GValue GPair → GValue
  told_by = object_told_by pair pair_is

  object_same : (x : GValue) → object_text pair pair_is (object_told pair pair_is x) ≡ object_text pair pair_is x
  object_same x = subst (λ z. the_text (object_told pair pair_is z) ≡ the_text z) (roll-out-GValue x) (rolled (out-GValue x))
    where
      go : (f : GValue-F GValue GPair) → the_text (told_by (roll-GValue f) f) ≡ the_text (roll-GValue f)
      go (GValue-F.Var name) = refl
      go (GValue-F.Int t) = refl
      go (GValue-F.Text s) = refl
      go (GValue-F.Bool b) = refl
      go GValue-F.Null = refl
      go (GValue-F.Enum name) = refl
      go (GValue-F.Many items) = refl
      go (GValue-F.Object ps) =
          ap (object_by pair pair_is (value_text (v.Object (map pair_is ps)))) (outs-Object (map pair_is ps)) ∙ ap in_braces (each_same pair pair_is same ps)
          ∙ sym (ap (object_by pair pair_is (value_text (roll-GValue (GValue-F.Object ps)))) (out-roll-GValue (GValue-F.Object ps)))

      rolled : (f : GValue-F GValue GPair) → the_text (object_told pair pair_is (roll-GValue f)) ≡ the_text (roll-GValue f)
      rolled f = ap (λ z. the_text (told_by (roll-GValue f) z)) (out-roll-GValue f) ∙ go f

module _ (key : Text) (text : GValue → Text) (told : GValue → GValue) (same : (x : GValue) → text (told x) ≡ text x) where
  inner_same : (b : Bool) (x : GValue) → inner key text told b (inner_told key text told b x) ≡ inner key text told b x
  inner_same true x = same x
  inner_same false x = refl

initial_same : (x : GValue) → initial_text (bare_initial x) ≡ initial_text x
initial_same = object_same hidden_text hidden_told (unchanged_by_name (λ name. true) (λ b x. codes "_") (λ b x. v.Null) hidden_text hidden_told hidden (λ b x. refl))

cursor_pair_same : (p : GPair) → cursor_pair (bare_pair p) ≡ cursor_pair p
cursor_pair_same = unchanged_by_name (λ name. bytes_eq name (codes "initial_value")) (inner (codes "initial_value") initial_text bare_initial) (inner_told (codes "initial_value") initial_text bare_initial)
    cursor_pair bare_pair (keyed (codes "initial_value") initial_text bare_initial) (inner_same (codes "initial_value") initial_text bare_initial initial_same)

cursor_object_same : (x : GValue) → cursor_object (bare_object x) ≡ cursor_object x
cursor_object_same = object_same cursor_pair bare_pair cursor_pair_same

-- what is no list is written as it is in a list
alone : (f : GValue-F GValue GPair) → ((b : GValue) → bare_cursor_by b f ≡ b) → ((t : Text) → cursor_text_by t f ≡ t) → cursor_text (object_told_by cursor_pair bare_pair (roll-GValue f) f) ≡ cursor_object (roll-GValue f) →
    cursor_text (bare_cursor_by (bare_object (roll-GValue f)) f) ≡ cursor_text (roll-GValue f)
alone f told text same =
    ap cursor_text (told (bare_object (roll-GValue f)) ∙ ap (object_told_by cursor_pair bare_pair (roll-GValue f)) (out-roll-GValue f)) ∙ same
    ∙ sym (ap (cursor_text_by (cursor_object (roll-GValue f))) (out-roll-GValue f) ∙ text (cursor_object (roll-GValue f)))

as_object : (f : GValue-F GValue GPair) → ((t : Text) → cursor_text_by t f ≡ t) → cursor_text (roll-GValue f) ≡ cursor_object (roll-GValue f)
as_object f text = ap (cursor_text_by (cursor_object (roll-GValue f))) (out-roll-GValue f) ∙ text (cursor_object (roll-GValue f))

cursor_same : (x : GValue) → cursor_text (bare_cursor x) ≡ cursor_text x
cursor_same x = subst (λ z. cursor_text (bare_cursor z) ≡ cursor_text z) (roll-out-GValue x) (rolled (out-GValue x))
  where
    object : (ps : List GPair) → cursor_text (v.Object (map bare_pair ps)) ≡ cursor_object (roll-GValue (GValue-F.Object ps))
    object ps =
        let r = roll-GValue (GValue-F.Object ps) in
        let q = v.Object (map bare_pair ps) in
        let e : bare_object r ≡ q = ap (object_told_by cursor_pair bare_pair r) (out-roll-GValue (GValue-F.Object ps)) in
        ap (cursor_text_by (cursor_object q)) (outs-Object (map bare_pair ps)) ∙ ap cursor_object (sym e) ∙ cursor_object_same r

    go : (f : GValue-F GValue GPair) → cursor_text (bare_cursor_by (bare_object (roll-GValue f)) f) ≡ cursor_text (roll-GValue f)
    go (GValue-F.Var name) = alone (GValue-F.Var name) (λ b. refl) (λ t. refl) (as_object (GValue-F.Var name) (λ t. refl))
    go (GValue-F.Int t) = alone (GValue-F.Int t) (λ b. refl) (λ t. refl) (as_object (GValue-F.Int t) (λ t. refl))
    go (GValue-F.Text s) = alone (GValue-F.Text s) (λ b. refl) (λ t. refl) (as_object (GValue-F.Text s) (λ t. refl))
    go (GValue-F.Bool b) = alone (GValue-F.Bool b) (λ b. refl) (λ t. refl) (as_object (GValue-F.Bool b) (λ t. refl))
    go GValue-F.Null = alone GValue-F.Null (λ b. refl) (λ t. refl) (as_object GValue-F.Null (λ t. refl))
    go (GValue-F.Enum name) = alone (GValue-F.Enum name) (λ b. refl) (λ t. refl) (as_object (GValue-F.Enum name) (λ t. refl))
    go (GValue-F.Many items) =
        ap (cursor_text_by (cursor_object (v.Many (map bare_object items)))) (outs-Many (map bare_object items)) ∙ ap in_brackets (each_same cursor_object bare_object cursor_object_same items)
        ∙ sym (ap (cursor_text_by (cursor_object (roll-GValue (GValue-F.Many items)))) (out-roll-GValue (GValue-F.Many items)))
    go (GValue-F.Object ps) = alone (GValue-F.Object ps) (λ b. refl) (λ t. refl) (object ps)

    rolled : (f : GValue-F GValue GPair) → cursor_text (bare_cursor (roll-GValue f)) ≡ cursor_text (roll-GValue f)
    rolled f = ap (λ z. cursor_text (bare_cursor_by (bare_object (roll-GValue f)) z)) (out-roll-GValue f) ∙ go f

argument_same : (p : GPair) → argument_text (bare_argument p) ≡ argument_text p
argument_same = unchanged_by_name (λ name. bytes_eq name (codes "cursor")) (inner (codes "cursor") cursor_text bare_cursor) (inner_told (codes "cursor") cursor_text bare_cursor)
    argument_text bare_argument (keyed (codes "cursor") cursor_text bare_cursor) (inner_same (codes "cursor") cursor_text bare_cursor cursor_same)

-- ---- fields

-- the text of a field whose arguments are in order
abbrev ordered_step : FlatField-F Text → Text
ordered_step f = named_text f.key f.name ++ in_parentheses (map argument_text f.args) ++ set_text f.nested f.fields

abbrev ordered_text : FlatField → Text
ordered_text = fold-FlatField Text ordered_step

abbrev IsSame : FlatField → Type 0
IsSame x = ordered_text (bare_field x) ≡ field_text x

all_same : (xs : List FlatField) → AllByRecursion IsSame xs → map ordered_text (map bare_field xs) ≡ map field_text xs
all_same [] all = refl
all_same (x ∷ xs) all = ap₂ (λ y ys. y ∷ ys) all.0 (all_same xs all.1)

rolled_same : (f : FlatField-F FlatField) → AllByRecursion IsSame f.fields → IsSame (roll-FlatField f)
rolled_same f all =
    ap ordered_text (fold-roll-FlatField FlatField bare_step f) ∙ fold-roll-FlatField Text ordered_step _
    ∙ ap₂ (λ ts us. named_text f.key f.name ++ in_parentheses ts ++ set_text f.nested us) (each_same argument_text bare_argument argument_same (by_name f.args)) (all_same f.fields all)
    ∙ sym (fold-roll-FlatField Text field_step f)

field_same : (x : FlatField) → IsSame x
field_same = ind-FlatField IsSame (λ f y is. rolled_same f (subst (λ z. AllByRecursion IsSame z.fields) is (firsts IsSame y.fields)))

fields_same : (xs : List FlatField) → map ordered_text (map bare_field xs) ≡ map field_text xs
fields_same [] = refl
fields_same (x ∷ xs) = ap₂ (λ y ys. y ∷ ys) (field_same x) (fields_same xs)

-- ---- selections

abbrev text_of : Word × List FlatField → Text
text_of e = word_text e.0 ++ 32 ∷ parted 32 (map ordered_text e.1)

text_of_essence : (f : Flat) → canonical f ≡ text_of (essence f)
text_of_essence f = ap (λ ts. word_text f.kind ++ 32 ∷ parted 32 ts) (sym (fields_same f.fields))

pub canonical_tells_no_more : CanonicalTellsNoMore
canonical_tells_no_more f g h = text_of_essence f ∙ ap text_of h ∙ sym (text_of_essence g)
