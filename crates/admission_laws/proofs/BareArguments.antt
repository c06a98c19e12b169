-- Arguments in order, without a cursor's initial value: what is found by a name is the same, and so are the column and
-- the direction of a stream.
use Rattle.std.proofs.Common.{◌≡◌, ℕ, Bool, true, false, cond, if◌then◌else◌, List, [], ◌∷◌, map, find, Option, Some, None, option_map, option_and_then, unwrap_or, refl, ap, sym, ◌∙◌, Ordering, Less, Equal, Greater, is_eq, is_le, nat_cmp}
use Rattle.std.proofs.lemmas.Bool.{false≢true}
use Rattle.std.proofs.lemmas.Slice.Eq.{bytes_eq-Decides}
use Rattle.std.proofs.lemmas.Map.Text.{is_eq-slice_cmp}
use Rattle.std.specs.Prelude.{codes}
use Rattle.std.specs.Str.{bytes_eq}
use Rattle.std.specs.Ordering.{on}
use Rattle.std.specs.Cmp.Lexicographic.{slice_cmp}
use Rattle.role_model.specs.Roles.{View, column_seen}
use Rattle.request_model.specs.declared.document.GValue.{GValue}
use Rattle.request_model.specs.declared.document.GValue.TheVariants as v
use Rattle.request_model.specs.declared.document.GValue.TheOpen.{GValue-F, GPair-F}
use Rattle.request_model.specs.declared.document.GValue.TheViews.{out-GValue, outs-Many, outs-Object, out-GPair, roll-out-GPair, out-roll-GPair}
use Rattle.request_model.specs.declared.document.GPair.{GPair}
use Rattle.request_model.specs.Strings.{Text}
use Rattle.scalar_val.specs.Ordered.{placed, ordered}
use Rattle.request_model.specs.Selection.{by_name}
use Rattle.request_model.specs.SelectionLaws.{renamed, bare_initial, bare_pair, bare_object_by, bare_object, bare_cursor_by, bare_cursor, bare_argument}
use Rattle.query_model.specs.Names.{pair_name, pair_value, argument, pairs_by, pairs_in, items_by, items_in, enum_in, pairs_of_first, cursor_pairs, pairs_or_none, first_pair, initial_pair, initial_column, is_desc, descends}

-- ---- pairs

renamed_name : (p : GPair) (x : GValue) → pair_name (renamed p x) ≡ pair_name p
renamed_name p x = ap (λ (z : GPair-F GValue GPair). z.name) (out-roll-GPair (record { name = pair_name p; value = x }))

renamed_value : (p : GPair) (x : GValue) → pair_value (renamed p x) ≡ x
renamed_value p x = ap (λ (z : GPair-F GValue GPair). z.value) (out-roll-GPair (record { name = pair_name p; value = x }))

-- pairs that keep their names, with other values
pub record Renews (f : GPair → GPair) (g : Text → GValue → GValue) : Type 0 where
  pub name_is : (p : GPair) → pair_name (f p) ≡ pair_name p
  pub value_is : (p : GPair) → pair_value (f p) ≡ g (pair_name p) (pair_value p)

module _ (key : Text) (told : GValue → GValue) where
  -- the value of one name alone
  abbrev pub inside : Bool → GValue → GValue
  inside true x = told x
  inside false x = x

  abbrev pub keyed : GPair → GPair
  keyed p = if bytes_eq (out-GPair p).name key then renamed p (told (out-GPair p).value) else p

  keyed_is : (p : GPair) → keyed p ≡ renamed p (inside (bytes_eq (pair_name p) key) (pair_value p))
  keyed_is p = go (bytes_eq (pair_name p) key)
    where
      go : (b : Bool) → (if b then renamed p (told (pair_value p)) else p) ≡ renamed p (inside b (pair_value p))
      go true = refl
      go false = sym (roll-out-GPair p)

  pub keyed_renews : Renews keyed (λ name. inside (bytes_eq name key))
  keyed_renews = record {
    name_is = λ p. ap pair_name (keyed_is p) ∙ renamed_name p (inside (bytes_eq (pair_name p) key) (pair_value p));
    value_is = λ p. ap pair_value (keyed_is p) ∙ renamed_value p (inside (bytes_eq (pair_name p) key) (pair_value p));
  }

-- ---- what is found by name

argument_told : (f : GPair → GPair) (g : Text → GValue → GValue) → Renews f g → (name : Text) (ps : List GPair) → argument name (map f ps) ≡ option_map (g name) (argument name ps)
argument_told f g s name [] = refl
argument_told f g s name (p ∷ ps) =
    ap (λ t. option_map pair_value (cond (bytes_eq name t) (Some (f p)) (find (λ q. bytes_eq name (pair_name q)) (map f ps)))) (s.name_is p)
    ∙ go (bytes_eq name (pair_name p)) (bytes_eq-Decides name (pair_name p)).0 (argument_told f g s name ps)
  where
    go : (b : Bool) → (b ≡ true → name ≡ pair_name p) → argument name (map f ps) ≡ option_map (g name) (argument name ps) →
        option_map pair_value (cond b (Some (f p)) (find (λ q. bytes_eq name (pair_name q)) (map f ps))) ≡ option_map (g name) (option_map pair_value (cond b (Some p) (find (λ q. bytes_eq name (pair_name q)) ps)))
    go true e more = ap Some (s.value_is p ∙ ap (λ t. g t (pair_value p)) (sym (e refl)))
    go false e more = more

abbrev name_cmp : GPair → GPair → Ordering
name_cmp = on (λ (p : GPair). (out-GPair p).name) (slice_cmp nat_cmp)

not_above : (o : Ordering) → is_eq o ≡ true → is_le o ≡ true
not_above Less h = refl
not_above Equal h = refl
not_above Greater h = absurd (false≢true h)

swapped : {X : Type 0} (a b : Bool) (x y z : X) → (a ≡ true → b ≡ true → ⊥) → cond b x (cond a y z) ≡ cond a y (cond b x z)
swapped true true x y z n = absurd (n refl refl)
swapped true false x y z n = refl
swapped false true x y z n = refl
swapped false false x y z n = refl

-- the first pair of a name stays the first
module _ (name : Text) where
  abbrev called : GPair → Bool
  called p = bytes_eq name (pair_name p)

  apart : (p q : GPair) → is_le (name_cmp p q) ≡ false → called p ≡ true → called q ≡ true → ⊥
  apart p q n a b =
      let e : pair_name p ≡ pair_name q = sym ((bytes_eq-Decides name (pair_name p)).0 a) ∙ (bytes_eq-Decides name (pair_name q)).0 b in
      false≢true (sym n ∙ not_above (name_cmp p q) (is_eq-slice_cmp (pair_name p) (pair_name q) ∙ (bytes_eq-Decides (pair_name p) (pair_name q)).1 e))

  find_placed : (p : GPair) (qs : List GPair) → find called (placed name_cmp p qs) ≡ find called (p ∷ qs)
  find_placed p [] = refl
  find_placed p (q ∷ qs) = go (is_le (name_cmp p q)) (apart p q) (find_placed p qs)
    where
      go : (b : Bool) → (b ≡ false → called p ≡ true → called q ≡ true → ⊥) → find called (placed name_cmp p qs) ≡ find called (p ∷ qs) →
          find called (if b then p ∷ q ∷ qs else q ∷ placed name_cmp p qs) ≡ find called (p ∷ q ∷ qs)
      go true n more = refl
      go false n more = ap (λ o. cond (called q) (Some q) o) more ∙ swapped (called p) (called q) (Some q) (Some p) (find called qs) (n refl)

  find_ordered : (ps : List GPair) → find called (ordered name_cmp ps) ≡ find called ps
  find_ordered [] = refl
  find_ordered (p ∷ ps) = find_placed p (ordered name_cmp ps) ∙ ap (λ o. cond (called p) (Some p) o) (find_ordered ps)

-- the arguments of a field in the essence of a selection
abbrev pub bare_arguments : List GPair → List GPair
bare_arguments args = map bare_argument (by_name args)

found : (name : Text) (args : List GPair) → argument name (bare_arguments args) ≡ option_map (inside (codes "cursor") bare_cursor (bytes_eq name (codes "cursor"))) (argument name args)
found name args =
    argument_told bare_argument (λ t. inside (codes "cursor") bare_cursor (bytes_eq t (codes "cursor"))) (keyed_renews (codes "cursor") bare_cursor) name (by_name args)
    ∙ ap (λ o. option_map (inside (codes "cursor") bare_cursor (bytes_eq name (codes "cursor"))) (option_map pair_value o)) (find_ordered name args)

mapped_same : {X : Type 0} (f : X → X) → ((x : X) → f x ≡ x) → (o : Option X) → option_map f o ≡ o
mapped_same f e (Some x) = ap Some (e x)
mapped_same f e None = refl

pub found_same : (name : Text) → bytes_eq name (codes "cursor") ≡ false → (args : List GPair) → argument name (bare_arguments args) ≡ argument name args
found_same name e args =
    found name args ∙ ap (λ b. option_map (inside (codes "cursor") bare_cursor b) (argument name args)) e ∙ mapped_same (inside (codes "cursor") bare_cursor false) (λ x. refl) (argument name args)

-- ---- a cursor without its initial value keeps its form

module _ {B : Type 0} (P : GValue-F GValue GPair → B) (many : (xs ys : List GValue) → P (GValue-F.Many xs) ≡ P (GValue-F.Many ys)) (object : (ps qs : List GPair) → P (GValue-F.Object ps) ≡ P (GValue-F.Object qs)) where
  pub form_kept : (x : GValue) → P (out-GValue (bare_cursor x)) ≡ P (out-GValue x)
  form_kept x = go (out-GValue x) refl
    where
      go : (f : GValue-F GValue GPair) → out-GValue x ≡ f → P (out-GValue (bare_cursor_by (bare_object_by x f) f)) ≡ P f
      go (GValue-F.Var name) e = ap P e
      go (GValue-F.Int t) e = ap P e
      go (GValue-F.Text s) e = ap P e
      go (GValue-F.Bool b) e = ap P e
      go GValue-F.Null e = ap P e
      go (GValue-F.Enum name) e = ap P e
      go (GValue-F.Many items) e = ap P (outs-Many (map bare_object items)) ∙ many (map bare_object items) items
      go (GValue-F.Object ps) e = ap P (outs-Object (map bare_pair ps)) ∙ object (map bare_pair ps) ps

  -- what is told of the form of an argument is the same
  pub form_found : {C : Type 0} (Q : Option B → C) (name : Text) (args : List GPair) → Q (option_map (λ x. P (out-GValue x)) (argument name (bare_arguments args))) ≡ Q (option_map (λ x. P (out-GValue x)) (argument name args))
  form_found Q name args = ap (λ o. Q (option_map (λ x. P (out-GValue x)) o)) (found name args) ∙ ap Q (go (bytes_eq name (codes "cursor")) (argument name args))
    where
      go : (b : Bool) (o : Option GValue) → option_map (λ x. P (out-GValue x)) (option_map (inside (codes "cursor") bare_cursor b) o) ≡ option_map (λ x. P (out-GValue x)) o
      go b None = refl
      go true (Some x) = ap Some (form_kept x)
      go false (Some x) = refl

-- ---- the pairs of a cursor

module _ (pair_is : GPair → GPair) where
  abbrev told_by : GValue → GValue-F GValue GPair → GValue
  told_by x (GValue-F.Object pairs) = v.Object (map pair_is pairs)
  told_by x _ = x

  pairs_told : (x : GValue) → pairs_in (told_by x (out-GValue x)) ≡ map pair_is (pairs_in x)
  pairs_told x = go (out-GValue x) refl
    where
      go : (f : GValue-F GValue GPair) → out-GValue x ≡ f → pairs_in (told_by x f) ≡ map pair_is (pairs_by f)
      go (GValue-F.Var name) e = ap pairs_by e
      go (GValue-F.Int t) e = ap pairs_by e
      go (GValue-F.Text s) e = ap pairs_by e
      go (GValue-F.Bool b) e = ap pairs_by e
      go GValue-F.Null e = ap pairs_by e
      go (GValue-F.Enum name) e = ap pairs_by e
      go (GValue-F.Many items) e = ap pairs_by e
      go (GValue-F.Object ps) e = ap pairs_by (outs-Object (map pair_is ps))

first_told : (o : Option GValue) → pairs_of_first (option_map items_in (option_map bare_cursor o)) ≡ map bare_pair (pairs_of_first (option_map items_in o))
first_told None = refl
first_told (Some x) = go (out-GValue x) refl
  where
    same : (f : GValue-F GValue GPair) → out-GValue x ≡ f → ((z : GValue) → items_by z f ≡ z ∷ []) → pairs_by f ≡ [] → pairs_of_first (Some (items_in x)) ≡ map bare_pair (pairs_of_first (Some (items_by x f)))
    same f e i n =
        ap (λ z. pairs_of_first (Some (items_by x z))) e ∙ ap (λ zs. pairs_of_first (Some zs)) (i x) ∙ ap pairs_by e ∙ n ∙ ap (map bare_pair) (sym (ap pairs_by e ∙ n))
        ∙ ap (λ zs. map bare_pair (pairs_of_first (Some zs))) (sym (i x))

    listed : (items : List GValue) → pairs_of_first (Some (map bare_object items)) ≡ map bare_pair (pairs_of_first (Some items))
    listed [] = refl
    listed (y ∷ ys) = pairs_told bare_pair y

    go : (f : GValue-F GValue GPair) → out-GValue x ≡ f → pairs_of_first (Some (items_in (bare_cursor_by (bare_object_by x f) f))) ≡ map bare_pair (pairs_of_first (Some (items_by x f)))
    go (GValue-F.Var name) e = same (GValue-F.Var name) e (λ z. refl) refl
    go (GValue-F.Int t) e = same (GValue-F.Int t) e (λ z. refl) refl
    go (GValue-F.Text s) e = same (GValue-F.Text s) e (λ z. refl) refl
    go (GValue-F.Bool b) e = same (GValue-F.Bool b) e (λ z. refl) refl
    go GValue-F.Null e = same GValue-F.Null e (λ z. refl) refl
    go (GValue-F.Enum name) e = same (GValue-F.Enum name) e (λ z. refl) refl
    go (GValue-F.Many items) e = ap (λ z. pairs_of_first (Some (items_by (v.Many (map bare_object items)) z))) (outs-Many (map bare_object items)) ∙ listed items
    go (GValue-F.Object ps) e =
        let q = v.Object (map bare_pair ps) in
        ap (λ z. pairs_of_first (Some (items_by q z))) (outs-Object (map bare_pair ps)) ∙ ap pairs_by (outs-Object (map bare_pair ps)) ∙ ap (λ z. map bare_pair (pairs_by z)) (sym e)

cursor_pairs_told : (args : List GPair) → cursor_pairs (bare_arguments args) ≡ map bare_pair (cursor_pairs args)
cursor_pairs_told args = ap (λ o. pairs_of_first (option_map items_in o)) (found (codes "cursor") args) ∙ first_told (argument (codes "cursor") args)

in_cursor : (name : Text) (args : List GPair) →
    argument name (cursor_pairs (bare_arguments args)) ≡ option_map (inside (codes "initial_value") bare_initial (bytes_eq name (codes "initial_value"))) (argument name (cursor_pairs args))
in_cursor name args =
    ap (argument name) (cursor_pairs_told args)
    ∙ argument_told bare_pair (λ t. inside (codes "initial_value") bare_initial (bytes_eq t (codes "initial_value"))) (keyed_renews (codes "initial_value") bare_initial) name (cursor_pairs args)

-- ---- the column and the direction of a stream

abbrev hidden : GPair → GPair
hidden p = renamed p v.Null

initials_told : (o : Option GValue) → first_pair (pairs_or_none (option_map bare_initial o)) ≡ option_map hidden (first_pair (pairs_or_none o))
initials_told None = refl
initials_told (Some x) = ap first_pair (pairs_told hidden x) ∙ go (pairs_in x)
  where
    go : (ps : List GPair) → first_pair (map hidden ps) ≡ option_map hidden (first_pair ps)
    go [] = refl
    go (p ∷ ps) = refl

initial_pair_told : (args : List GPair) → initial_pair (bare_arguments args) ≡ option_map hidden (initial_pair args)
initial_pair_told args = ap (λ o. first_pair (pairs_or_none o)) (in_cursor (codes "initial_value") args) ∙ initials_told (argument (codes "initial_value") (cursor_pairs args))

pub initial_column_same : (w : View) (table : ℕ) (args : List GPair) → initial_column w table (bare_arguments args) ≡ initial_column w table args
initial_column_same w table args = ap (λ o. unwrap_or (option_and_then (λ p. column_seen w table (pair_name p)) o) 0) (initial_pair_told args) ∙ go (initial_pair args)
  where
    go : (o : Option GPair) → unwrap_or (option_and_then (λ p. column_seen w table (pair_name p)) (option_map hidden o)) 0 ≡ unwrap_or (option_and_then (λ p. column_seen w table (pair_name p)) o) 0
    go None = refl
    go (Some p) = ap (λ t. unwrap_or (column_seen w table t) 0) (renamed_name p v.Null)

pub descends_same : (args : List GPair) → descends (bare_arguments args) ≡ descends args
descends_same args =
    ap (λ o. is_desc (option_and_then enum_in o))
    (in_cursor (codes "ordering") args ∙ mapped_same (inside (codes "initial_value") bare_initial false) (λ x. refl) (argument (codes "ordering") (cursor_pairs args)))
