-- The texts of values are read from their front.
use Rattle.std.proofs.Common.{◌≡◌, ◌==◌, ℕ, Bool, true, false, ◌&&◌, List, [], ◌∷◌, ◌++◌, map, refl, ap, sym, ◌∙◌, append_assoc, arith}
use Rattle.std.proofs.lemmas.Bool.{false≢true, and_parts}
use Rattle.std.proofs.lemmas.List.{append_cancel_left}
use Rattle.std.proofs.lemmas.List.Folds.{list_all-map}
use Rattle.std.specs.Prelude.{IsTrue, codes, Option, Some}
use Rattle.std.specs.List.{list_all, AllByRecursion}
use Rattle.json.specs.Print.{escape, quoted}
use Rattle.json.specs.Text.{content, plain}
use Rattle.json.proofs.Printed.Strings.{content-escape}
use Rattle.request_model.specs.declared.document.GValue.{GValue}
use Rattle.request_model.specs.declared.document.GPair.{GPair}
use Rattle.request_model.specs.declared.document.GValue.TheOpen.{GValue-F}
use Rattle.request_model.specs.declared.document.GValue.TheViews.{roll-GValue}
use Rattle.request_model.specs.declared.document.GValue.TheFolds.{fold-GValue, fold-roll-GValue, map-GValue}
use Rattle.request_model.specs.Strings.{Text}
use Rattle.scalar_val.specs.Joined.{parted, in_brackets, in_braces}
use Rattle.request_model.specs.SelectionLaws.{is_name, itself, written_value_step, written_pair_step, is_written_pair}
use Rattle.request_model.proofs.ReadNames.{tails, apart, is_part, closes, closes_stops, read_part}
use Rattle.request_model.proofs.ReadLists.{Told, opens, read_parted}
use Rattle.request_model.proofs.ReadAtoms.{name_parts, int_parts, atom_value, atom-Int, atom-Enum}

abbrev pub is_written_value : GValue → Bool
is_written_value = fold-GValue Bool Bool written_value_step written_pair_step

-- ---- the forms of a text of a value

pub data Shape : Type 0 where
  Atom : Text → Shape
  Dollar : Text → Shape
  Quote : Text → Shape
  Bracket : List GValue → Shape
  Brace : List GPair → Shape

abbrev pub shape : GValue-F GValue GPair → Shape
shape (GValue-F.Var name) = Dollar name
shape (GValue-F.Int digits) = Atom digits
shape (GValue-F.Text s) = Quote s
shape (GValue-F.Bool true) = Atom (codes "true")
shape (GValue-F.Bool false) = Atom (codes "false")
shape GValue-F.Null = Atom (codes "null")
shape (GValue-F.Enum name) = Atom name
shape (GValue-F.Many items) = Bracket items
shape (GValue-F.Object pairs) = Brace pairs

abbrev pub value_of : Shape → GValue
value_of (Atom t) = roll-GValue (atom_value t)
value_of (Dollar name) = roll-GValue (GValue-F.Var name)
value_of (Quote s) = roll-GValue (GValue-F.Text s)
value_of (Bracket items) = roll-GValue (GValue-F.Many items)
value_of (Brace pairs) = roll-GValue (GValue-F.Object pairs)

abbrev pub shape_text : (GValue → Text) → (GPair → Text) → Shape → Text
shape_text item pair (Atom t) = t
shape_text item pair (Dollar name) = 36 ∷ name
shape_text item pair (Quote s) = quoted s
shape_text item pair (Bracket items) = in_brackets (map item items)
shape_text item pair (Brace pairs) = in_braces (map pair pairs)

abbrev pub retold : (GValue → GValue) → (GPair → GPair) → Shape → Shape
retold item pair (Atom t) = Atom t
retold item pair (Dollar name) = Dollar name
retold item pair (Quote s) = Quote s
retold item pair (Bracket items) = Bracket (map item items)
retold item pair (Brace pairs) = Brace (map pair pairs)

abbrev pub is_filled : Text → Bool
is_filled [] = false
is_filled (b ∷ t) = true

abbrev pub is_good : Shape → Bool
is_good (Atom t) = is_filled t && list_all is_part t
is_good (Dollar name) = list_all is_part name
is_good (Quote s) = true
is_good (Bracket items) = list_all is_written_value items
is_good (Brace pairs) = list_all is_written_pair pairs

-- P holds of each item and Q of each pair of a list or an object
abbrev pub EachPart : (GValue → Type 0) → (GPair → Type 0) → Shape → Type 0
EachPart P Q (Atom t) = Unit {0}
EachPart P Q (Dollar name) = Unit {0}
EachPart P Q (Quote s) = Unit {0}
EachPart P Q (Bracket items) = AllByRecursion P items
EachPart P Q (Brace pairs) = AllByRecursion Q pairs

-- ---- the first byte tells the form

abbrev first : Text → ℕ
first [] = 0
first (b ∷ t) = b

abbrev form_by : Bool → Bool → Bool → Bool → ℕ
form_by true q l o = 1
form_by false true l o = 2
form_by false false true o = 3
form_by false false false true = 4
form_by false false false false = 0

abbrev form : ℕ → ℕ
form b = form_by (b == 36) (b == 34) (b == 91) (b == 123)

abbrev form_of : Shape → ℕ
form_of (Atom t) = 0
form_of (Dollar name) = 1
form_of (Quote s) = 2
form_of (Bracket items) = 3
form_of (Brace pairs) = 4

form-part : (b : ℕ) → is_part b ≡ true → form b ≡ 0
form-part b h = rw (apart is_part b 36 h refl) (rw (apart is_part b 34 h refl) (rw (apart is_part b 91 h refl) (rw (apart is_part b 123 h refl) refl)))

first_form : (item : GValue → Text) (pair : GPair → Text) (s : Shape) (r : Text) → IsTrue (is_good s) → form (first (shape_text item pair s ++ r)) ≡ form_of s
first_form item pair (Atom []) r g = absurd (false≢true g)
first_form item pair (Atom (b ∷ t)) r g = form-part b (and_parts (is_part b) (list_all is_part t) g).0
first_form item pair (Dollar name) r g = refl
first_form item pair (Quote s) r g = refl
first_form item pair (Bracket items) r g = refl
first_form item pair (Brace pairs) r g = refl

pub part_opens : (b : ℕ) (t : Text) → is_part b ≡ true → IsTrue (opens (b ∷ t))
part_opens b t h = rw (apart is_part b 32 h refl) (rw (apart is_part b 41 h refl) (rw (apart is_part b 44 h refl) (rw (apart is_part b 93 h refl) (rw (apart is_part b 125 h refl) refl))))

pub shape_opens : (item : GValue → Text) (pair : GPair → Text) (s : Shape) → IsTrue (is_good s) → IsTrue (opens (shape_text item pair s))
shape_opens item pair (Atom []) g = g
shape_opens item pair (Atom (b ∷ t)) g = part_opens b t (and_parts (is_part b) (list_all is_part t) g).0
shape_opens item pair (Dollar name) g = refl
shape_opens item pair (Quote s) g = refl
shape_opens item pair (Bracket items) g = refl
shape_opens item pair (Brace pairs) g = refl

-- ---- strings

some_is : (s t : Text) → ◌≡◌ {A = Option Text} (Some s) (Some t) → s ≡ t
some_is s t h = cc

read_quoted : (s t q r : Text) → quoted s ++ q ≡ quoted t ++ r → (s ≡ t) × (q ≡ r)
read_quoted s t q r h =
    let inner : escape s ++ (34 ∷ q) ≡ escape t ++ (34 ∷ r) = sym (append_assoc (escape s) (34 ∷ []) q) ∙ (tails 34 34 _ _ h).1 ∙ append_assoc (escape t) (34 ∷ []) r in
    let told : s ≡ t = some_is s t (sym (content-escape s q) ∙ ap (content plain) inner ∙ content-escape t r) in
    let left : escape t ++ (34 ∷ q) ≡ escape t ++ (34 ∷ r) = ap (λ z. escape z ++ (34 ∷ q)) (sym told) ∙ inner in
    (told, (tails 34 34 q r (append_cancel_left (escape t) (34 ∷ q) (34 ∷ r) left)).1)

-- ---- two shapes of one text

module _ (item : GValue → Text) (pair : GPair → Text) (item_told : GValue → GValue) (pair_told : GPair → GPair)
    (item_opens : (x : GValue) → IsTrue (is_written_value x) → IsTrue (opens (item x))) (pair_opens : (p : GPair) → IsTrue (is_written_pair p) → IsTrue (opens (pair p))) where
  abbrev text_of : Shape → Text
  text_of = shape_text item pair

  differ : (s t : Shape) (q r : Text) → IsTrue (is_good s) → IsTrue (is_good t) → text_of s ++ q ≡ text_of t ++ r → form_of s ≡ form_of t
  differ s t q r gs gt h = sym (first_form item pair s q gs) ∙ ap (λ z. form (first z)) h ∙ first_form item pair t r gt

  pub read_shape : (s t : Shape) (q r : Text) → EachPart (Told item item_told is_written_value) (Told pair pair_told is_written_pair) s → IsTrue (is_good s) → IsTrue (is_good t) →
      IsTrue (closes q) → IsTrue (closes r) → text_of s ++ q ≡ text_of t ++ r → (retold item_told pair_told s ≡ retold item_told pair_told t) × (q ≡ r)
  read_shape (Atom x) (Atom y) q r each gs gt hq hr h =
      let e = read_part x y q r (and_parts (is_filled x) (list_all is_part x) gs).1 (and_parts (is_filled y) (list_all is_part y) gt).1 (closes_stops q hq) (closes_stops r hr) h in
      (ap Atom e.0, e.1)
  read_shape (Dollar x) (Dollar y) q r each gs gt hq hr h =
      let e = read_part x y q r gs gt (closes_stops q hq) (closes_stops r hr) (tails 36 36 (x ++ q) (y ++ r) h).1 in
      (ap Dollar e.0, e.1)
  read_shape (Quote x) (Quote y) q r each gs gt hq hr h =
      let e = read_quoted x y q r h in
      (ap Quote e.0, e.1)
  read_shape (Bracket xs) (Bracket ys) q r each gs gt hq hr h =
      let inner = sym (append_assoc (parted 44 (map item xs)) (93 ∷ []) q) ∙ (tails 91 91 _ _ h).1 ∙ append_assoc (parted 44 (map item ys)) (93 ∷ []) r in
      let e = read_parted item item_told is_written_value item_opens 44 93 refl refl refl xs ys q r each gs gt inner in
      (ap Bracket e.0, e.1)
  read_shape (Brace xs) (Brace ys) q r each gs gt hq hr h =
      let inner = sym (append_assoc (parted 44 (map pair xs)) (125 ∷ []) q) ∙ (tails 123 123 _ _ h).1 ∙ append_assoc (parted 44 (map pair ys)) (125 ∷ []) r in
      let e = read_parted pair pair_told is_written_pair pair_opens 44 125 refl refl refl xs ys q r each gs gt inner in
      (ap Brace e.0, e.1)
  read_shape s t q r each gs gt hq hr h = let e : form_of s ≡ form_of t = differ s t q r gs gt h in absurd (omega (arith, e))

-- ---- a value and its shape

pub written-roll : (f : GValue-F GValue GPair) → is_written_value (roll-GValue f) ≡ written_value_step (map-GValue GValue GPair Bool Bool is_written_value is_written_pair f)
written-roll f = fold-roll-GValue Bool Bool written_value_step written_pair_step f

good_atom : (t : Text) → IsTrue (is_name t) → IsTrue (is_good (Atom t))
good_atom [] h = absurd (false≢true h)
good_atom (b ∷ t) h = name_parts (b ∷ t) h

pub good_shape : (f : GValue-F GValue GPair) → IsTrue (is_written_value (roll-GValue f)) → IsTrue (is_good (shape f))
good_shape f g = go f (sym (written-roll f) ∙ g)
  where
    go : (f : GValue-F GValue GPair) → IsTrue (written_value_step (map-GValue GValue GPair Bool Bool is_written_value is_written_pair f)) → IsTrue (is_good (shape f))
    go (GValue-F.Var name) g = name_parts name g
    go (GValue-F.Int []) g = absurd (false≢true g)
    go (GValue-F.Int (b ∷ t)) g = int_parts (b ∷ t) g
    go (GValue-F.Text s) g = refl
    go (GValue-F.Bool true) g = refl
    go (GValue-F.Bool false) g = refl
    go GValue-F.Null g = refl
    go (GValue-F.Enum name) g = good_atom name (and_parts _ _ g).0
    go (GValue-F.Many items) g = sym (list_all-map itself is_written_value items) ∙ g
    go (GValue-F.Object pairs) g = sym (list_all-map itself is_written_pair pairs) ∙ g

pub shaped : (f : GValue-F GValue GPair) → IsTrue (is_written_value (roll-GValue f)) → value_of (shape f) ≡ roll-GValue f
shaped f g = go f (sym (written-roll f) ∙ g)
  where
    go : (f : GValue-F GValue GPair) → IsTrue (written_value_step (map-GValue GValue GPair Bool Bool is_written_value is_written_pair f)) → value_of (shape f) ≡ roll-GValue f
    go (GValue-F.Var name) g = refl
    go (GValue-F.Int t) g = ap roll-GValue (atom-Int t g)
    go (GValue-F.Text s) g = refl
    go (GValue-F.Bool true) g = refl
    go (GValue-F.Bool false) g = refl
    go GValue-F.Null g = refl
    go (GValue-F.Enum name) g = ap roll-GValue (atom-Enum name g)
    go (GValue-F.Many items) g = refl
    go (GValue-F.Object pairs) g = refl
