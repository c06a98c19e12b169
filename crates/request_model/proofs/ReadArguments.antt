-- The texts of arguments tell them, but for the value in a cursor's `initial_value`.
use Rattle.std.proofs.Common.{◌≡◌, Bool, true, false, if◌then◌else◌, List, [], ◌∷◌, map, refl, ap, sym, subst, ◌∙◌}
use Rattle.std.specs.Prelude.{IsTrue, codes}
use Rattle.std.specs.Str.{bytes_eq}
use Rattle.std.specs.List.{AllByRecursion}
use Rattle.request_model.specs.declared.document.GValue.{GValue}
use Rattle.request_model.specs.declared.document.GValue.TheVariants as v
use Rattle.request_model.specs.declared.document.GValue.TheVariants.{rolls-Many, rolls-Object}
use Rattle.request_model.specs.declared.document.GPair.{GPair}
use Rattle.request_model.specs.declared.document.GValue.TheOpen.{GValue-F}
use Rattle.request_model.specs.declared.document.GValue.TheViews.{out-GValue, roll-GValue, roll-out-GValue, out-roll-GValue, out-GPair, roll-GPair, roll-out-GPair, out-roll-GPair}
use Rattle.request_model.specs.declared.document.GValue.TheFolds.{fold-roll-GValue, map-GValue, ind-GValue}
use Rattle.request_model.specs.Strings.{Text}
use Rattle.scalar_val.specs.Joined.{in_braces, named_text}
use Rattle.request_model.specs.Canonical.{value_step, pair_step, value_text, pair_text, initial_text, cursor_pair, cursor_object, cursor_text_by, cursor_text, argument_text}
use Rattle.request_model.specs.SelectionLaws.{is_written_pair, renamed, bare_initial, bare_pair, bare_object, bare_cursor_by, bare_cursor, bare_argument}
use Rattle.request_model.proofs.SelectionRules.{pair_text-is}
use Rattle.request_model.proofs.ReadNames.{tails}
use Rattle.request_model.proofs.ReadLists.{Told}
use Rattle.request_model.proofs.ReadValues.{is_written_value, Shape, Atom, Dollar, Quote, Bracket, Brace, shape, value_of, shape_text, retold, EachPart, shaped}
use Rattle.request_model.proofs.ReadParts.{ByShape, Opens, by_shape_opens, told_by_shape, each_of, ByName, by_name_opens, told_by_name}

-- ---- values

same_each : {X : Type 0} (xs : List X) → map (λ x. x) xs ≡ xs
same_each [] = refl
same_each (x ∷ xs) = ap (λ ys. x ∷ ys) (same_each xs)

retold_same : (s : Shape) → retold (λ x. x) (λ p. p) s ≡ s
retold_same (Atom t) = refl
retold_same (Dollar name) = refl
retold_same (Quote t) = refl
retold_same (Bracket items) = ap Bracket (same_each items)
retold_same (Brace pairs) = ap Brace (same_each pairs)

value_shape : (f : GValue-F GValue GPair) → value_text (roll-GValue f) ≡ shape_text value_text pair_text (shape f)
value_shape f = fold-roll-GValue Text Text value_step pair_step f ∙ go f
  where
    go : (f : GValue-F GValue GPair) → value_step (map-GValue GValue GPair Text Text value_text pair_text f) ≡ shape_text value_text pair_text (shape f)
    go (GValue-F.Var name) = refl
    go (GValue-F.Int t) = refl
    go (GValue-F.Text s) = refl
    go (GValue-F.Bool true) = refl
    go (GValue-F.Bool false) = refl
    go GValue-F.Null = refl
    go (GValue-F.Enum name) = refl
    go (GValue-F.Many items) = refl
    go (GValue-F.Object pairs) = refl

abbrev any_value : ByShape value_text pair_text (λ x. x) (λ p. p) value_text (λ x. x)
any_value = record { text_is = value_shape; told_is = λ f g. sym (shaped f g) ∙ ap value_of (sym (retold_same (shape f))) }

abbrev any_pair : ByName (λ name. true) (λ b. value_text) (λ b x. x) pair_text (λ p. p)
any_pair = record { text_is = pair_text-is; told_is = λ p. sym (roll-out-GPair p) }

values_open : Opens value_text is_written_value
values_open = by_shape_opens value_text pair_text (λ x. x) (λ p. p) value_text (λ x. x) any_value

pairs_open : Opens pair_text is_written_pair
pairs_open = by_name_opens (λ name. true) (λ b. value_text) (λ b x. x) pair_text (λ p. p) any_pair

abbrev ValueTold : GValue → Type 0
ValueTold = Told value_text (λ x. x) is_written_value

abbrev PairTold : GPair → Type 0
PairTold = Told pair_text (λ p. p) is_written_pair

pub firsts : {X : Type 0} (P : X → Type 0) (es : List ((x : X) × P x)) → AllByRecursion P (map (λ e. e.0) es)
firsts P [] = tt
firsts P (e ∷ es) = (e.1, firsts P es)

each_part : (y : GValue-F ((x : GValue) × ValueTold x) ((p : GPair) × PairTold p)) →
    EachPart ValueTold PairTold (shape (map-GValue ((x : GValue) × ValueTold x) ((p : GPair) × PairTold p) GValue GPair (λ e. e.0) (λ e. e.0) y))
each_part (GValue-F.Var name) = tt
each_part (GValue-F.Int t) = tt
each_part (GValue-F.Text s) = tt
each_part (GValue-F.Bool true) = tt
each_part (GValue-F.Bool false) = tt
each_part GValue-F.Null = tt
each_part (GValue-F.Enum name) = tt
each_part (GValue-F.Many items) = firsts ValueTold items
each_part (GValue-F.Object pairs) = firsts PairTold pairs

pair_from_value : (p : GPair) → ValueTold (out-GPair p).value → PairTold p
pair_from_value p told = told_by_name (λ name. true) (λ b. value_text) (λ b x. x) pair_text (λ p. p) any_pair p (λ b. told)

pub value_told : (x : GValue) → ValueTold x
value_told = ind-GValue ValueTold PairTold
    (λ f y is. told_by_shape value_text pair_text (λ x. x) (λ p. p) value_text (λ x. x) any_value values_open pairs_open f (subst (λ z. EachPart ValueTold PairTold (shape z)) is (each_part y)))
    (λ f y is. pair_from_value (roll-GPair f) (subst (λ z. ValueTold z.value) (sym (out-roll-GPair f)) (subst (λ z. ValueTold z.value) is y.value.1)))

pub pair_told : (p : GPair) → PairTold p
pair_told p = pair_from_value p (value_told (out-GPair p).value)

-- ---- a value whose pairs are written otherwise where it is an object

module _ (pair : GPair → Text) (pair_is : GPair → GPair) where
  abbrev pub object_by : Text → GValue-F GValue GPair → Text
  object_by other (GValue-F.Object pairs) = in_braces (map pair pairs)
  object_by other _ = other

  abbrev pub object_told_by : GValue → GValue-F GValue GPair → GValue
  object_told_by x (GValue-F.Object pairs) = v.Object (map pair_is pairs)
  object_told_by x _ = x

  abbrev pub object_text : GValue → Text
  object_text x = object_by (value_text x) (out-GValue x)

  abbrev pub object_told : GValue → GValue
  object_told x = object_told_by x (out-GValue x)

  object_shape : (f : GValue-F GValue GPair) → object_text (roll-GValue f) ≡ shape_text value_text pair (shape f)
  object_shape f = ap (object_by (value_text (roll-GValue f))) (out-roll-GValue f) ∙ go f (value_shape f)
    where
      go : (f : GValue-F GValue GPair) → value_text (roll-GValue f) ≡ shape_text value_text pair_text (shape f) → object_by (value_text (roll-GValue f)) f ≡ shape_text value_text pair (shape f)
      go (GValue-F.Var name) e = e
      go (GValue-F.Int t) e = e
      go (GValue-F.Text s) e = e
      go (GValue-F.Bool true) e = e
      go (GValue-F.Bool false) e = e
      go GValue-F.Null e = e
      go (GValue-F.Enum name) e = e
      go (GValue-F.Many items) e = e
      go (GValue-F.Object pairs) e = refl

  object_tells : (f : GValue-F GValue GPair) → IsTrue (is_written_value (roll-GValue f)) → object_told (roll-GValue f) ≡ value_of (retold (λ x. x) pair_is (shape f))
  object_tells f g = ap (object_told_by (roll-GValue f)) (out-roll-GValue f) ∙ go f (sym (shaped f g))
    where
      go : (f : GValue-F GValue GPair) → roll-GValue f ≡ value_of (shape f) → object_told_by (roll-GValue f) f ≡ value_of (retold (λ x. x) pair_is (shape f))
      go (GValue-F.Var name) e = e
      go (GValue-F.Int t) e = e
      go (GValue-F.Text s) e = e
      go (GValue-F.Bool true) e = e
      go (GValue-F.Bool false) e = e
      go GValue-F.Null e = e
      go (GValue-F.Enum name) e = e
      go (GValue-F.Many items) e = ap (λ xs. roll-GValue (GValue-F.Many xs)) (sym (same_each items))
      go (GValue-F.Object pairs) e = sym (rolls-Object (map pair_is pairs))

  abbrev objects : ByShape value_text pair (λ x. x) pair_is object_text object_told
  objects = record { text_is = object_shape; told_is = object_tells }

  object_open : Opens object_text is_written_value
  object_open = by_shape_opens value_text pair (λ x. x) pair_is object_text object_told objects

  object_tells_all : Opens pair is_written_pair → ((p : GPair) → Told pair pair_is is_written_pair p) → (x : GValue) → Told object_text object_told is_written_value x
  object_tells_all open_ told x = subst (Told object_text object_told is_written_value) (roll-out-GValue x)
      (told_by_shape value_text pair (λ x. x) pair_is object_text object_told objects values_open open_ (out-GValue x)
      (each_of ValueTold (Told pair pair_is is_written_pair) value_told told (shape (out-GValue x))))

-- ---- a pair whose value is written otherwise under one name

module _ (key : Text) (text : GValue → Text) (told : GValue → GValue) where
  abbrev pub keyed_text : GPair → Text
  keyed_text p = if bytes_eq (out-GPair p).name key then named_text (out-GPair p).name (text (out-GPair p).value) else pair_text p

  abbrev pub keyed_told : GPair → GPair
  keyed_told p = if bytes_eq (out-GPair p).name key then renamed p (told (out-GPair p).value) else p

  abbrev pub inner : Bool → GValue → Text
  inner true = text
  inner false = value_text

  abbrev pub inner_told : Bool → GValue → GValue
  inner_told true = told
  inner_told false = λ x. x

  keyed_text_is : (p : GPair) → keyed_text p ≡ named_text (out-GPair p).name (inner (bytes_eq (out-GPair p).name key) (out-GPair p).value)
  keyed_text_is p = go (bytes_eq (out-GPair p).name key)
    where
      go : (b : Bool) → (if b then named_text (out-GPair p).name (text (out-GPair p).value) else pair_text p) ≡ named_text (out-GPair p).name (inner b (out-GPair p).value)
      go true = refl
      go false = pair_text-is p

  keyed_told_is : (p : GPair) → keyed_told p ≡ renamed p (inner_told (bytes_eq (out-GPair p).name key) (out-GPair p).value)
  keyed_told_is p = go (bytes_eq (out-GPair p).name key)
    where
      go : (b : Bool) → (if b then renamed p (told (out-GPair p).value) else p) ≡ renamed p (inner_told b (out-GPair p).value)
      go true = refl
      go false = sym (roll-out-GPair p)

  pub keyed : ByName (λ name. bytes_eq name key) inner inner_told keyed_text keyed_told
  keyed = record { text_is = keyed_text_is; told_is = keyed_told_is }

  keyed_open : Opens keyed_text is_written_pair
  keyed_open = by_name_opens (λ name. bytes_eq name key) inner inner_told keyed_text keyed_told keyed

  module _ (tells : (x : GValue) → Told text told is_written_value x) where
    inner_tells : (b : Bool) (x : GValue) → Told (inner b) (inner_told b) is_written_value x
    inner_tells true x = tells x
    inner_tells false x = value_told x

    keyed_tells : (p : GPair) → Told keyed_text keyed_told is_written_pair p
    keyed_tells p = told_by_name (λ name. bytes_eq name key) inner inner_told keyed_text keyed_told keyed p (λ b. inner_tells b (out-GPair p).value)

-- ---- cursors

abbrev pub hidden_text : GPair → Text
hidden_text p = named_text (out-GPair p).name (codes "_")

abbrev pub hidden_told : GPair → GPair
hidden_told p = renamed p v.Null

abbrev pub hidden : ByName (λ name. true) (λ b x. codes "_") (λ b x. v.Null) hidden_text hidden_told
hidden = record { text_is = λ p. refl; told_is = λ p. refl }

hidden_open : Opens hidden_text is_written_pair
hidden_open = by_name_opens (λ name. true) (λ b x. codes "_") (λ b x. v.Null) hidden_text hidden_told hidden

hidden_tells : (p : GPair) → Told hidden_text hidden_told is_written_pair p
hidden_tells p = told_by_name (λ name. true) (λ b x. codes "_") (λ b x. v.Null) hidden_text hidden_told hidden p (λ b y q r gx gy hq hr h. (refl, (tails 95 95 q r h).1))

initial_tells : (x : GValue) → Told initial_text bare_initial is_written_value x
initial_tells = object_tells_all hidden_text hidden_told hidden_open hidden_tells

cursor_pair_open : Opens cursor_pair is_written_pair
cursor_pair_open = keyed_open (codes "initial_value") initial_text bare_initial

cursor_pair_tells : (p : GPair) → Told cursor_pair bare_pair is_written_pair p
cursor_pair_tells = keyed_tells (codes "initial_value") initial_text bare_initial initial_tells

cursor_object_open : Opens cursor_object is_written_value
cursor_object_open = object_open cursor_pair bare_pair

cursor_object_tells : (x : GValue) → Told cursor_object bare_object is_written_value x
cursor_object_tells = object_tells_all cursor_pair bare_pair cursor_pair_open cursor_pair_tells

cursor_shape : (f : GValue-F GValue GPair) → cursor_text (roll-GValue f) ≡ shape_text cursor_object cursor_pair (shape f)
cursor_shape f = ap (cursor_text_by (cursor_object (roll-GValue f))) (out-roll-GValue f) ∙ go f (object_shape cursor_pair bare_pair f)
  where
    go : (f : GValue-F GValue GPair) → cursor_object (roll-GValue f) ≡ shape_text value_text cursor_pair (shape f) → cursor_text_by (cursor_object (roll-GValue f)) f ≡ shape_text cursor_object cursor_pair (shape f)
    go (GValue-F.Var name) e = e
    go (GValue-F.Int t) e = e
    go (GValue-F.Text s) e = e
    go (GValue-F.Bool true) e = e
    go (GValue-F.Bool false) e = e
    go GValue-F.Null e = e
    go (GValue-F.Enum name) e = e
    go (GValue-F.Many items) e = refl
    go (GValue-F.Object pairs) e = e

cursor_is : (f : GValue-F GValue GPair) → IsTrue (is_written_value (roll-GValue f)) → bare_cursor (roll-GValue f) ≡ value_of (retold bare_object bare_pair (shape f))
cursor_is f g = ap (bare_cursor_by (bare_object (roll-GValue f))) (out-roll-GValue f) ∙ go f (object_tells cursor_pair bare_pair f g)
  where
    go : (f : GValue-F GValue GPair) → bare_object (roll-GValue f) ≡ value_of (retold (λ x. x) bare_pair (shape f)) → bare_cursor_by (bare_object (roll-GValue f)) f ≡ value_of (retold bare_object bare_pair (shape f))
    go (GValue-F.Var name) e = e
    go (GValue-F.Int t) e = e
    go (GValue-F.Text s) e = e
    go (GValue-F.Bool true) e = e
    go (GValue-F.Bool false) e = e
    go GValue-F.Null e = e
    go (GValue-F.Enum name) e = e
    go (GValue-F.Many items) e = sym (rolls-Many (map bare_object items))
    go (GValue-F.Object pairs) e = e

abbrev cursors : ByShape cursor_object cursor_pair bare_object bare_pair cursor_text bare_cursor
cursors = record { text_is = cursor_shape; told_is = cursor_is }

cursor_tells : (x : GValue) → Told cursor_text bare_cursor is_written_value x
cursor_tells x = subst (Told cursor_text bare_cursor is_written_value) (roll-out-GValue x)
    (told_by_shape cursor_object cursor_pair bare_object bare_pair cursor_text bare_cursor cursors cursor_object_open cursor_pair_open (out-GValue x)
    (each_of (Told cursor_object bare_object is_written_value) (Told cursor_pair bare_pair is_written_pair) cursor_object_tells cursor_pair_tells (shape (out-GValue x))))

-- ---- arguments

pub argument_opens : Opens argument_text is_written_pair
argument_opens = keyed_open (codes "cursor") cursor_text bare_cursor

pub argument_tells : (p : GPair) → Told argument_text bare_argument is_written_pair p
argument_tells = keyed_tells (codes "cursor") cursor_text bare_cursor cursor_tells
