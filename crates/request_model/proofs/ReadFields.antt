-- Canonical texts tell the fields of a selection.
use Rattle.std.proofs.Common.{◌≡◌, ℕ, Bool, true, false, ◌&&◌, ◌||◌, if◌then◌else◌, List, [], ◌∷◌, ◌++◌, map, refl, ap, sym, subst, ◌∙◌, append_assoc, arith}
use Rattle.std.proofs.lemmas.Bool.{false≢true, and_parts, and_from}
use Rattle.std.proofs.lemmas.List.{append_cancel_left}
use Rattle.std.proofs.lemmas.List.Folds.{list_all-map}
use Rattle.std.specs.Prelude.{IsTrue, codes}
use Rattle.std.specs.List.{list_all, AllByRecursion}
use Rattle.std.specs.Ordering.{is_le}
use Rattle.std.specs.declared.cmp.Ordering.{Ordering}
use Rattle.request_model.specs.declared.document.GPair.{GPair}
use Rattle.scalar_val.specs.declared.word.Word.{Word}
use Rattle.scalar_val.specs.declared.word.Word.TheVariants as word
use Rattle.request_model.specs.declared.flat.FlatField.{FlatField}
use Rattle.request_model.specs.declared.flat.FlatField.TheOpen.{FlatField-F}
use Rattle.request_model.specs.declared.flat.FlatField.TheViews.{out-FlatField, roll-FlatField, roll-out-FlatField}
use Rattle.request_model.specs.declared.flat.FlatField.TheFolds.{fold-FlatField, fold-roll-FlatField, ind-FlatField}
use Rattle.request_model.specs.Strings.{Text}
use Rattle.scalar_val.specs.Ordered.{placed, ordered}
use Rattle.request_model.specs.Selection.{by_name}
use Rattle.scalar_val.specs.Joined.{parted, named_text}
use Rattle.request_model.specs.Canonical.{argument_text, in_parentheses, set_text, field_step, field_text, word_text}
use Rattle.request_model.specs.SelectionLaws.{is_name, is_written_pair, itself, is_empty, written_field_step, bare_argument, bare_step, bare_field, CanonicalTells}
use Rattle.request_model.proofs.ReadNames.{tails, not_empty, is_close, closes, stops, closes_stops, read_part}
use Rattle.request_model.proofs.ReadLists.{Told, opens, read_parted}
use Rattle.request_model.proofs.ReadAtoms.{name_parts}
use Rattle.request_model.proofs.ReadParts.{Opens, all_of, named_opens, read_named}
use Rattle.request_model.proofs.ReadArguments.{firsts, argument_opens, argument_tells}

abbrev pub is_written_field : FlatField → Bool
is_written_field = fold-FlatField Bool written_field_step

-- ---- arguments in order

placed_all : {X : Type 0} (good : X → Bool) (cmp : X → X → Ordering) (x : X) (xs : List X) → IsTrue (good x) → IsTrue (list_all good xs) → IsTrue (list_all good (placed cmp x xs))
placed_all good cmp x [] g all = and_from (good x) true g refl
placed_all good cmp x (y ∷ ys) g all = go (is_le (cmp x y)) (placed_all good cmp x ys g (and_parts (good y) (list_all good ys) all).1)
  where
    go : (b : Bool) → IsTrue (list_all good (placed cmp x ys)) → IsTrue (list_all good (if b then x ∷ y ∷ ys else y ∷ placed cmp x ys))
    go true rest = and_from (good x) (good y && list_all good ys) g all
    go false rest = and_from (good y) (list_all good (placed cmp x ys)) (and_parts (good y) (list_all good ys) all).0 rest

pub ordered_all : {X : Type 0} (good : X → Bool) (cmp : X → X → Ordering) (xs : List X) → IsTrue (list_all good xs) → IsTrue (list_all good (ordered cmp xs))
ordered_all good cmp [] all = refl
ordered_all good cmp (x ∷ xs) all =
    let p = and_parts (good x) (list_all good xs) all in
    placed_all good cmp x (ordered cmp xs) p.0 (ordered_all good cmp xs p.1)

-- ---- the parts of a field's text behind its names

not_close : (b : ℕ) (q z : Text) → is_close b ≡ false → IsTrue (closes q) → q ≡ b ∷ z → ⊥
not_close b [] z n c h = not_empty b z (sym h)
not_close b (d ∷ q) z n c h = false≢true (sym n ∙ ap is_close (sym (tails d b q z h).0) ∙ c)

no_paren : (nested : Bool) (fields : List Text) (q z : Text) → IsTrue (closes q) → set_text nested fields ++ q ≡ 40 ∷ z → ⊥
no_paren true fields q z c h = let e : 123 ≡ 40 = (tails 123 40 _ z h).0 in omega (arith, e)
no_paren false fields q z c h = not_close 40 q z refl c h

read_arguments : (xs ys : List GPair) (nested others : Bool) (fields more : List Text) (q r : Text) → IsTrue (list_all is_written_pair xs) → IsTrue (list_all is_written_pair ys) → IsTrue (closes q) → IsTrue (closes r) →
    in_parentheses (map argument_text xs) ++ (set_text nested fields ++ q) ≡ in_parentheses (map argument_text ys) ++ (set_text others more ++ r) →
    (map bare_argument xs ≡ map bare_argument ys) × (set_text nested fields ++ q ≡ set_text others more ++ r)
read_arguments [] [] nested others fields more q r ga gb hq hr h = (refl, h)
read_arguments [] (y ∷ ys) nested others fields more q r ga gb hq hr h = absurd (no_paren nested fields q _ hq h)
read_arguments (x ∷ xs) [] nested others fields more q r ga gb hq hr h = absurd (no_paren others more r _ hr (sym h))
read_arguments (x ∷ xs) (y ∷ ys) nested others fields more q r ga gb hq hr h =
    let inner = sym (append_assoc (parted 44 (map argument_text (x ∷ xs))) (41 ∷ []) (set_text nested fields ++ q)) ∙ (tails 40 40 _ _ h).1 ∙ append_assoc (parted 44 (map argument_text (y ∷ ys))) (41 ∷ []) (set_text others more ++ r) in
    read_parted argument_text bare_argument is_written_pair argument_opens 44 41 refl refl refl (x ∷ xs) (y ∷ ys) (set_text nested fields ++ q) (set_text others more ++ r) (all_of _ argument_tells (x ∷ xs)) ga gb inner

stops_set : (nested : Bool) (fields : List Text) (q : Text) → IsTrue (closes q) → IsTrue (stops (set_text nested fields ++ q))
stops_set true fields q c = refl
stops_set false fields q c = closes_stops q c

stops_rest : (args : List Text) (nested : Bool) (fields : List Text) (q : Text) → IsTrue (closes q) → IsTrue (stops (in_parentheses args ++ (set_text nested fields ++ q)))
stops_rest [] nested fields q c = stops_set nested fields q c
stops_rest (t ∷ ts) nested fields q c = refl

-- ---- fields

abbrev FieldTold : FlatField → Type 0
FieldTold = Told field_text bare_field is_written_field

abbrev rest_text : FlatField-F FlatField → Text
rest_text f = in_parentheses (map argument_text (by_name f.args)) ++ set_text f.nested (map field_text f.fields)

text-roll : (f : FlatField-F FlatField) → field_text (roll-FlatField f) ≡ named_text f.key f.name ++ rest_text f
text-roll f = fold-roll-FlatField Text field_step f ∙ append_assoc (named_text f.key f.name) (in_parentheses (map argument_text (by_name f.args))) (set_text f.nested (map field_text f.fields))

bare-roll : (f : FlatField-F FlatField) → bare_field (roll-FlatField f) ≡
    roll-FlatField (record { key = f.key; name = f.name; args = map bare_argument (by_name f.args); nested = f.nested; conditions = []; fields = map bare_field f.fields })
bare-roll f = fold-roll-FlatField FlatField bare_step f

record Written (f : FlatField-F FlatField) : Type 0 where
  key : IsTrue (is_name f.key)
  name : IsTrue (is_name f.name)
  args : IsTrue (list_all is_written_pair f.args)
  nested : IsTrue (f.nested || is_empty f.fields)
  fields : IsTrue (list_all is_written_field f.fields)

empty_map : {X Y : Type 0} (g : X → Y) (b : Bool) (xs : List X) → IsTrue (b || is_empty (map g xs)) → IsTrue (b || is_empty xs)
empty_map g true xs h = refl
empty_map g false [] h = refl
empty_map g false (x ∷ xs) h = h

written-roll : (f : FlatField-F FlatField) → IsTrue (is_written_field (roll-FlatField f)) → Written f
written-roll f g =
    let key = is_name f.key in
    let name = is_name f.name in
    let args = list_all is_written_pair f.args in
    let nested = f.nested || is_empty (map is_written_field f.fields) in
    let fields = list_all itself (map is_written_field f.fields) in
    let whole : (key && name && args && nested && fields) ≡ true = sym (fold-roll-FlatField Bool written_field_step f) ∙ g in
    let four = and_parts (key && name && args && nested) fields whole in
    let three = and_parts (key && name && args) nested four.0 in
    let two = and_parts (key && name) args three.0 in
    let one = and_parts key name two.0 in
    record { key = one.0; name = one.1; args = two.1; nested = empty_map is_written_field f.nested f.fields three.1; fields = sym (list_all-map itself is_written_field f.fields) ∙ four.1 }

opens-append : (t z : Text) → IsTrue (opens t) → IsTrue (opens (t ++ z))
opens-append [] z h = absurd (false≢true h)
opens-append (b ∷ t) z h = h

pub field_opens : Opens field_text is_written_field
field_opens x g = subst (λ y. IsTrue (is_written_field y) → IsTrue (opens (field_text y))) (roll-out-FlatField x) (rolled (out-FlatField x)) g
  where
    rolled : (f : FlatField-F FlatField) → IsTrue (is_written_field (roll-FlatField f)) → IsTrue (opens (field_text (roll-FlatField f)))
    rolled f h = subst (λ t. IsTrue (opens t)) (sym (text-roll f)) (opens-append (named_text f.key f.name) (rest_text f) (named_opens f.key f.name (written-roll f h).key))

read_set : (xs ys : List FlatField) (nested others : Bool) (q r : Text) → AllByRecursion FieldTold xs → IsTrue (list_all is_written_field xs) → IsTrue (list_all is_written_field ys) →
    IsTrue (nested || is_empty xs) → IsTrue (others || is_empty ys) → IsTrue (closes q) → IsTrue (closes r) →
    set_text nested (map field_text xs) ++ q ≡ set_text others (map field_text ys) ++ r → (nested ≡ others) × (map bare_field xs ≡ map bare_field ys) × (q ≡ r)
read_set xs ys true true q r all gx gy nx ny hq hr h =
    let inner = sym (append_assoc (parted 32 (map field_text xs)) (125 ∷ []) q) ∙ (tails 123 123 _ _ h).1 ∙ append_assoc (parted 32 (map field_text ys)) (125 ∷ []) r in
    let e = read_parted field_text bare_field is_written_field field_opens 32 125 refl refl refl xs ys q r all gx gy inner in
    (refl, e.0, e.1)
read_set xs ys true false q r all gx gy nx ny hq hr h = absurd (not_close 123 r _ refl hr (sym h))
read_set xs ys false true q r all gx gy nx ny hq hr h = absurd (not_close 123 q _ refl hq h)
read_set [] [] false false q r all gx gy nx ny hq hr h = (refl, refl, h)
read_set (x ∷ xs) ys false false q r all gx gy nx ny hq hr h = absurd (false≢true nx)
read_set [] (y ∷ ys) false false q r all gx gy nx ny hq hr h = absurd (false≢true ny)

roll_same : (k l m n : Text) (ps qs : List GPair) (c d : Bool) (xs ys : List FlatField) → k ≡ l → m ≡ n → ps ≡ qs → c ≡ d → xs ≡ ys →
    roll-FlatField (record { key = k; name = m; args = ps; nested = c; conditions = []; fields = xs }) ≡ roll-FlatField (record { key = l; name = n; args = qs; nested = d; conditions = []; fields = ys })
roll_same k l m n ps qs c d xs ys e1 e2 e3 e4 e5 = cc

read_field : (f g : FlatField-F FlatField) (q r : Text) → AllByRecursion FieldTold f.fields → Written f → Written g → IsTrue (closes q) → IsTrue (closes r) →
    (named_text f.key f.name ++ rest_text f) ++ q ≡ (named_text g.key g.name ++ rest_text g) ++ r → (bare_field (roll-FlatField f) ≡ bare_field (roll-FlatField g)) × (q ≡ r)
read_field f g q r all wf wg hq hr h =
    let asf = by_name f.args in
    let asg = by_name g.args in
    let sf = set_text f.nested (map field_text f.fields) in
    let sg = set_text g.nested (map field_text g.fields) in
    let h1 = sym (append_assoc (named_text f.key f.name) (rest_text f) q) ∙ h ∙ append_assoc (named_text g.key g.name) (rest_text g) r in
    let names = read_named f.key g.key f.name g.name (rest_text f ++ q) (rest_text g ++ r) wf.key wg.key h1 in
    let h2 = ap (λ z. f.name ++ z) (sym (append_assoc (in_parentheses (map argument_text asf)) sf q)) ∙ names.1 ∙ ap (λ z. g.name ++ z) (append_assoc (in_parentheses (map argument_text asg)) sg r) in
    let called = read_part f.name g.name (in_parentheses (map argument_text asf) ++ (sf ++ q)) (in_parentheses (map argument_text asg) ++ (sg ++ r)) (name_parts f.name wf.name) (name_parts g.name wg.name)
    (stops_rest (map argument_text asf) f.nested (map field_text f.fields) q hq) (stops_rest (map argument_text asg) g.nested (map field_text g.fields) r hr) h2 in
    let arguments = read_arguments asf asg f.nested g.nested (map field_text f.fields) (map field_text g.fields) q r (ordered_all is_written_pair _ f.args wf.args) (ordered_all is_written_pair _ g.args wg.args) hq hr called.1 in
    let sets = read_set f.fields g.fields f.nested g.nested q r all wf.fields wg.fields wf.nested wg.nested hq hr arguments.1 in
    (bare-roll f ∙ roll_same _ _ _ _ _ _ _ _ _ _ names.0 called.0 arguments.0 sets.0 sets.1 ∙ sym (bare-roll g), sets.2)

told_rolled : (f : FlatField-F FlatField) → AllByRecursion FieldTold f.fields → FieldTold (roll-FlatField f)
told_rolled f all y q r gf gy hq hr h =
    subst (λ z. IsTrue (is_written_field z) → field_text (roll-FlatField f) ++ q ≡ field_text z ++ r → (bare_field (roll-FlatField f) ≡ bare_field z) × (q ≡ r)) (roll-out-FlatField y) (at (out-FlatField y)) gy h
  where
    at : (g : FlatField-F FlatField) → IsTrue (is_written_field (roll-FlatField g)) → field_text (roll-FlatField f) ++ q ≡ field_text (roll-FlatField g) ++ r → (bare_field (roll-FlatField f) ≡ bare_field (roll-FlatField g)) × (q ≡ r)
    at g gg k = read_field f g q r all (written-roll f gf) (written-roll g gg) hq hr (ap (λ t. t ++ q) (sym (text-roll f)) ∙ k ∙ ap (λ t. t ++ r) (text-roll g))

field_told : (x : FlatField) → FieldTold x
field_told = ind-FlatField FieldTold (λ f y is. told_rolled f (subst (λ z. AllByRecursion FieldTold z.fields) is (firsts FieldTold y.fields)))

-- ---- selections

read_fields : (xs ys : List FlatField) → IsTrue (list_all is_written_field xs) → IsTrue (list_all is_written_field ys) → parted 32 (map field_text xs) ≡ parted 32 (map field_text ys) → map bare_field xs ≡ map bare_field ys
read_fields xs ys gx gy h = (read_parted field_text bare_field is_written_field field_opens 32 125 refl refl refl xs ys [] [] (all_of FieldTold field_told xs) gx gy (ap (λ t. t ++ 125 ∷ []) h)).0

canonical_apart : (t u : Text) → ◌≡◌ {A = Text} (codes "query" ++ t) (codes "subscription" ++ u) → ⊥
canonical_apart t u h = let e : 113 ≡ 115 = (tails 113 115 _ _ h).0 in omega (arith, e)

pub canonical_tells : CanonicalTells
canonical_tells f g wf wg h = go f.kind g.kind h
  where
    go : (v w : Word) → word_text v ++ 32 ∷ parted 32 (map field_text f.fields) ≡ word_text w ++ 32 ∷ parted 32 (map field_text g.fields) → ◌≡◌ {A = Word × List FlatField} (v, map bare_field f.fields) (w, map bare_field g.fields)
    go word.Query word.Query k = ap (λ xs. (word.Query, xs)) (read_fields f.fields g.fields wf wg (tails 32 32 _ _ (append_cancel_left (codes "query") _ _ k)).1)
    go word.Subscription word.Subscription k = ap (λ xs. (word.Subscription, xs)) (read_fields f.fields g.fields wf wg (tails 32 32 _ _ (append_cancel_left (codes "subscription") _ _ k)).1)
    go word.Query word.Subscription k = absurd (canonical_apart _ _ k)
    go word.Subscription word.Query k = absurd (canonical_apart _ _ (sym k))
