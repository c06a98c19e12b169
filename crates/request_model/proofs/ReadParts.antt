-- Texts of values by their shape, and of pairs by their name.
use Rattle.std.proofs.Common.{◌≡◌, Bool, List, [], ◌∷◌, ◌++◌, refl, ap, ap₂, sym, subst, ◌∙◌, append_assoc}
use Rattle.std.proofs.lemmas.Bool.{false≢true, and_parts}
use Rattle.std.specs.Prelude.{IsTrue}
use Rattle.std.specs.List.{list_all, AllByRecursion}
use Rattle.request_model.specs.declared.document.GValue.{GValue}
use Rattle.request_model.specs.declared.document.GPair.{GPair}
use Rattle.request_model.specs.declared.document.GValue.TheOpen.{GValue-F}
use Rattle.request_model.specs.declared.document.GValue.TheViews.{out-GValue, roll-GValue, roll-out-GValue, out-GPair, roll-GPair}
use Rattle.request_model.specs.declared.document.GValue.TheFolds.{fold_out-GPair}
use Rattle.request_model.specs.Strings.{Text}
use Rattle.scalar_val.specs.Joined.{named_text}
use Rattle.request_model.specs.SelectionLaws.{is_name, written_value_step, written_pair_step, is_written_pair, renamed}
use Rattle.request_model.proofs.ReadNames.{tails, is_part, closes, read_part}
use Rattle.request_model.proofs.ReadLists.{Told, opens}
use Rattle.request_model.proofs.ReadAtoms.{name_parts}
use Rattle.request_model.proofs.ReadValues.{is_written_value, Shape, Atom, Dollar, Quote, Bracket, Brace, shape, value_of, shape_text, retold, EachPart, part_opens, shape_opens, read_shape, good_shape}

-- ---- a text by the shape of its value

-- the text is that of the shape with these texts of its parts, and it tells the shape with what they tell
pub record ByShape (item : GValue → Text) (pair : GPair → Text) (item_told : GValue → GValue) (pair_told : GPair → GPair) (text : GValue → Text) (told : GValue → GValue) : Type 0 where
  pub text_is : (f : GValue-F GValue GPair) → text (roll-GValue f) ≡ shape_text item pair (shape f)
  pub told_is : (f : GValue-F GValue GPair) → IsTrue (is_written_value (roll-GValue f)) → told (roll-GValue f) ≡ value_of (retold item_told pair_told (shape f))

-- it begins with no byte that closes
abbrev pub Opens : {X : Type 0} → (X → Text) → (X → Bool) → Type 0
Opens {X} text good = (x : X) → IsTrue (good x) → IsTrue (opens (text x))

module _ (item : GValue → Text) (pair : GPair → Text) (item_told : GValue → GValue) (pair_told : GPair → GPair) (text : GValue → Text) (told : GValue → GValue)
    (s : ByShape item pair item_told pair_told text told) where
  pub by_shape_opens : Opens text is_written_value
  by_shape_opens x g =
      subst (λ y. IsTrue (is_written_value y) → IsTrue (opens (text y))) (roll-out-GValue x)
      (λ h. subst (λ t. IsTrue (opens t)) (sym (s.text_is (out-GValue x))) (shape_opens item pair (shape (out-GValue x)) (good_shape (out-GValue x) h))) g

  module _ (item_opens : Opens item is_written_value) (pair_opens : Opens pair is_written_pair) where
    told_rolled : (f g : GValue-F GValue GPair) → EachPart (Told item item_told is_written_value) (Told pair pair_told is_written_pair) (shape f) → (q r : Text) →
        IsTrue (is_written_value (roll-GValue f)) → IsTrue (is_written_value (roll-GValue g)) → IsTrue (closes q) → IsTrue (closes r) →
        text (roll-GValue f) ++ q ≡ text (roll-GValue g) ++ r → (told (roll-GValue f) ≡ told (roll-GValue g)) × (q ≡ r)
    told_rolled f g each q r gf gg hq hr h =
        let same = ap (λ t. t ++ q) (sym (s.text_is f)) ∙ h ∙ ap (λ t. t ++ r) (s.text_is g) in
        let e = read_shape item pair item_told pair_told item_opens pair_opens (shape f) (shape g) q r each (good_shape f gf) (good_shape g gg) hq hr same in
        (s.told_is f gf ∙ ap value_of e.0 ∙ sym (s.told_is g gg), e.1)

    pub told_by_shape : (f : GValue-F GValue GPair) → EachPart (Told item item_told is_written_value) (Told pair pair_told is_written_pair) (shape f) → Told text told is_written_value (roll-GValue f)
    told_by_shape f each y q r gf gy hq hr h =
        subst (λ z. IsTrue (is_written_value z) → text (roll-GValue f) ++ q ≡ text z ++ r → (told (roll-GValue f) ≡ told z) × (q ≡ r)) (roll-out-GValue y)
        (λ gz hz. told_rolled f (out-GValue y) each q r gf gz hq hr hz) gy h

pub all_of : {X : Type 0} (P : X → Type 0) → ((x : X) → P x) → (xs : List X) → AllByRecursion P xs
all_of P p [] = tt
all_of P p (x ∷ xs) = (p x, all_of P p xs)

pub each_of : (P : GValue → Type 0) (Q : GPair → Type 0) → ((x : GValue) → P x) → ((p : GPair) → Q p) → (s : Shape) → EachPart P Q s
each_of P Q p q (Atom t) = tt
each_of P Q p q (Dollar name) = tt
each_of P Q p q (Quote t) = tt
each_of P Q p q (Bracket items) = all_of P p items
each_of P Q p q (Brace pairs) = all_of Q q pairs

-- ---- a name and what is named

written_pair_is : (p : GPair) → is_written_pair p ≡ written_pair_step (record { name = (out-GPair p).name; value = is_written_value (out-GPair p).value })
written_pair_is p = fold_out-GPair Bool Bool written_value_step written_pair_step p

name_is_written : (p : GPair) → IsTrue (is_written_pair p) → IsTrue (is_name (out-GPair p).name)
name_is_written p g = (and_parts (is_name (out-GPair p).name) (is_written_value (out-GPair p).value) (sym (written_pair_is p) ∙ g)).0

value_is_written : (p : GPair) → IsTrue (is_written_pair p) → IsTrue (is_written_value (out-GPair p).value)
value_is_written p g = (and_parts (is_name (out-GPair p).name) (is_written_value (out-GPair p).value) (sym (written_pair_is p) ∙ g)).1

pub named_opens : (name t : Text) → IsTrue (is_name name) → IsTrue (opens (named_text name t))
named_opens [] t g = absurd (false≢true g)
named_opens (b ∷ name) t g = part_opens b (name ++ 58 ∷ t) (and_parts (is_part b) (list_all is_part name) (name_parts (b ∷ name) g)).0

pub read_named : (m n t u q r : Text) → IsTrue (is_name m) → IsTrue (is_name n) → named_text m t ++ q ≡ named_text n u ++ r → (m ≡ n) × (t ++ q ≡ u ++ r)
read_named m n t u q r gm gn h =
    let inner = sym (append_assoc m (58 ∷ t) q) ∙ h ∙ append_assoc n (58 ∷ u) r in
    let e = read_part m n (58 ∷ (t ++ q)) (58 ∷ (u ++ r)) (name_parts m gm) (name_parts n gn) refl refl inner in
    (e.0, (tails 58 58 (t ++ q) (u ++ r) e.1).1)

-- the text of the value, and what it tells, depend on a test of the name
pub record ByName (test : Text → Bool) (inner : Bool → GValue → Text) (inner_told : Bool → GValue → GValue) (pair : GPair → Text) (pair_told : GPair → GPair) : Type 0 where
  pub text_is : (p : GPair) → pair p ≡ named_text (out-GPair p).name (inner (test (out-GPair p).name) (out-GPair p).value)
  pub told_is : (p : GPair) → pair_told p ≡ renamed p (inner_told (test (out-GPair p).name) (out-GPair p).value)

module _ (test : Text → Bool) (inner : Bool → GValue → Text) (inner_told : Bool → GValue → GValue) (pair : GPair → Text) (pair_told : GPair → GPair)
    (s : ByName test inner inner_told pair pair_told) where
  pub by_name_opens : Opens pair is_written_pair
  by_name_opens p g = subst (λ t. IsTrue (opens t)) (sym (s.text_is p)) (named_opens (out-GPair p).name _ (name_is_written p g))

  pub told_by_name : (p : GPair) → ((b : Bool) → Told (inner b) (inner_told b) is_written_value (out-GPair p).value) → Told pair pair_told is_written_pair p
  told_by_name p told y q r gp gy hq hr h =
      let m = (out-GPair p).name in
      let n = (out-GPair y).name in
      let t = (out-GPair p).value in
      let u = (out-GPair y).value in
      let same = ap (λ z. z ++ q) (sym (s.text_is p)) ∙ h ∙ ap (λ z. z ++ r) (s.text_is y) in
      let e = read_named m n (inner (test m) t) (inner (test n) u) q r (name_is_written p gp) (name_is_written y gy) same in
      let values = told (test m) u q r (value_is_written p gp) (value_is_written y gy) hq hr (e.1 ∙ ap (λ k. inner (test k) u ++ r) (sym e.0)) in
      (s.told_is p ∙ ap₂ (λ k x. roll-GPair (record { name = k; value = x })) e.0 (values.0 ∙ ap (λ k. inner_told (test k) u) e.0) ∙ sym (s.told_is y), values.1)
