-- A text is one document at most: by the grammar, a list of lexemes is cut in one way where what follows can't go on.
use Rattle.std.proofs.Common.{◌≡◌, ℕ, Bool, true, false, ◌==◌, List, [], ◌∷◌, Option, Some, None, refl, ap, ap₂, sym, subst}
use Rattle.std.proofs.lemmas.Bool.{false≢true}
use Rattle.request_model.specs.declared.document.GValue.{GValue}
use Rattle.request_model.specs.declared.document.GValue.TheVariants as v
use Rattle.request_model.specs.declared.document.GPair.{GPair, roll-GPair}
use Rattle.request_model.specs.declared.document.Directive.{Directive}
use Rattle.request_model.specs.declared.document.TypeRef.{TypeRef}
use Rattle.request_model.specs.declared.document.TypeRef.TheVariants as t
use Rattle.request_model.specs.declared.document.VarDef.{VarDef}
use Rattle.request_model.specs.declared.document.Selection.{Selection}
use Rattle.request_model.specs.declared.document.Selection.TheVariants as sel
use Rattle.request_model.specs.declared.document.OpWord.{OpWord}
use Rattle.request_model.specs.declared.document.Definition.{Definition}
use Rattle.request_model.specs.declared.document.Definition.TheVariants as definition
use Rattle.request_model.specs.declared.document.Document.{Document}
use Rattle.request_model.specs.Strings.{Text}
use Rattle.request_model.specs.Place.{lexemes_of, Reads}
use Rattle.request_model.specs.Lexemes.{lexemes}
use Rattle.request_model.specs.Grammar.{Lexeme, Punct, Spread, Name, Int, Quoted, bang, end_paren, end_bracket, end_brace, Many, no_more, one_more, MaybeName, no_name, a_name, IsValue, IsValues, IsPair, IsPairs, variable, integer, string, true_, false_, null, enum, list, object, no_values, more_values, a_pair, no_pairs, more_pairs, MaybeArguments, no_arguments, some_arguments, IsDirective, a_directive, Directives, IsType, named, named_strict, listed, listed_strict, MaybeDefault, no_default, a_default, IsVarDef, a_variable, MaybeVariables, no_variables, some_variables, IsFieldName, plain, aliased, IsSelection, IsSelections, IsSet, MaybeSet, field, spread, inline, inline_on, no_selections, more_selections, a_set, no_set, some_set, IsOpWord, query, mutation, subscription, IsDefinition, shorthand, operation, fragment, IsDocument, a_document}
use Rattle.request_model.proofs.ReadNames.{tails}

-- ---- what lexemes begin with: the byte of a punctuator, or a number above all bytes for each other form

abbrev front : List Lexeme → ℕ
front [] = 0
front (Punct b ∷ ts) = b
front (Spread ∷ ts) = 256
front (Name n ∷ ts) = 257
front (Int n ∷ ts) = 258
front (Quoted n ∷ ts) = 259

abbrev NotAt : ℕ → List Lexeme → Type 0
NotAt k ts = (front ts == k) ≡ false

wrong : true ≡ false → ⊥
wrong h = false≢true (sym h)

-- no x begins here
abbrev Never : {A : Type 0} → (List Lexeme → A → List Lexeme → Type 0) → List Lexeme → Type 0
Never {A} R r = (x : A) (mid : List Lexeme) → R r x mid → ⊥

-- one x is cut off in one way
abbrev Cut : {A : Type 0} → A → A → List Lexeme → List Lexeme → Type 0
Cut x y r s = (x ≡ y) × (r ≡ s)

behind : {A B : Type 0} (f : A → B) (x y : A) (b : Lexeme) (r s : List Lexeme) → Cut x y (b ∷ r) (b ∷ s) → Cut (f x) (f y) r s
behind f x y b r s c = (ap f c.0, (tails b b r s c.1).1)

added : {A : Type 0} (x y : A) (xs ys : List A) (r s : List Lexeme) → x ≡ y → Cut xs ys r s → Cut (x ∷ xs) (y ∷ ys) r s
added x y xs ys r s e c = (ap₂ (λ z zs. z ∷ zs) e c.0, c.1)

-- ---- lists of what is cut in one way where F holds of what follows

module _ {A : Type 0} (R : List Lexeme → A → List Lexeme → Type 0) (F : List Lexeme → Type 0)
    (once : (ts r s : List Lexeme) (x y : A) → F r → F s → R ts x r → R ts y s → Cut x y r s) (starts : (ts r : List Lexeme) (x : A) → R ts x r → F ts) where
  before : (ts r : List Lexeme) (xs : List A) → F r → Many R ts xs r → F ts
  before ts r xs f no_more = f
  before ts r xs f (one_more a b) = starts ts _ _ a

  many_once : (ts r s : List Lexeme) (xs ys : List A) → F r → F s → Never R r → Never R s → Many R ts xs r → Many R ts ys s → Cut xs ys r s
  many_once ts r s xs ys f g n o no_more no_more = (refl, refl)
  many_once ts r s xs ys f g n o no_more (one_more a b) = absurd (n _ _ a)
  many_once ts r s xs ys f g n o (one_more a b) no_more = absurd (o _ _ a)
  many_once ts r s xs ys f g n o (one_more {mid = m} {x = x} {xs = us} a b) (one_more {mid = k} {x = y} {xs = vs} c d) =
      let one = once ts m k x y (before m r us f b) (before k s vs g d) a c in
      added x y us vs r s one.0 (many_once m r s us vs f g n o b (subst (λ u. Many R u vs s) (sym one.1) d))

-- ---- values, arguments and directives

module _ (constant : Bool) where
  no_value : (r : List Lexeme) → Never (IsValue constant) (end_bracket ∷ r)
  no_value r x mid a = elim a [ ]

  no_pair : (b : ℕ) (r : List Lexeme) → Never (IsPair constant) (Punct b ∷ r)
  no_pair b r x mid a = elim a [ ]

  mutual
    value_once : (ts r s : List Lexeme) (x y : GValue) → IsValue constant ts x r → IsValue constant ts y s → Cut x y r s
    value_once ts r s x y (variable _) (variable _) = (refl, refl)
    value_once ts r s x y integer integer = (refl, refl)
    value_once ts r s x y string string = (refl, refl)
    value_once ts r s x y true_ true_ = (refl, refl)
    value_once ts r s x y true_ (enum a b c) = absurd (a refl)
    value_once ts r s x y false_ false_ = (refl, refl)
    value_once ts r s x y false_ (enum a b c) = absurd (b refl)
    value_once ts r s x y null null = (refl, refl)
    value_once ts r s x y null (enum a b c) = absurd (c refl)
    value_once ts r s x y (enum a b c) true_ = absurd (a refl)
    value_once ts r s x y (enum a b c) false_ = absurd (b refl)
    value_once ts r s x y (enum a b c) null = absurd (c refl)
    value_once ts r s x y (enum a b c) (enum _ _ _) = (refl, refl)
    value_once ts r s x y (list {ts = us} {xs = xs} a) (list {xs = ys} b) =
        behind v.Many xs ys end_bracket r s (values_once us (end_bracket ∷ r) (end_bracket ∷ s) xs ys (no_value r) (no_value s) a b)
    value_once ts r s x y (object {ts = us} {xs = xs} a) (object {xs = ys} b) =
        behind v.Object xs ys end_brace r s (pairs_once us (end_brace ∷ r) (end_brace ∷ s) xs ys (no_pair 125 r) (no_pair 125 s) a b)

    values_once : (ts r s : List Lexeme) (xs ys : List GValue) → Never (IsValue constant) r → Never (IsValue constant) s → IsValues constant ts xs r → IsValues constant ts ys s → Cut xs ys r s
    values_once ts r s xs ys n o no_values no_values = (refl, refl)
    values_once ts r s xs ys n o no_values (more_values a b) = absurd (n _ _ a)
    values_once ts r s xs ys n o (more_values a b) no_values = absurd (o _ _ a)
    values_once ts r s xs ys n o (more_values {mid = m} {x = x} {xs = us} a b) (more_values {mid = k} {x = y} {xs = vs} c d) =
        let one = value_once ts m k x y a c in
        added x y us vs r s one.0 (values_once m r s us vs n o b (subst (λ u. IsValues constant u vs s) (sym one.1) d))

    pair_once : (ts r s : List Lexeme) (x y : GPair) → IsPair constant ts x r → IsPair constant ts y s → Cut x y r s
    pair_once ts r s x y (a_pair {n = n} {ts = us} {x = p} a) (a_pair {x = q} b) =
        let one = value_once us r s p q a b in
        (ap (λ (z : GValue). roll-GPair (record { name = n; value = z })) one.0, one.1)

    pairs_once : (ts r s : List Lexeme) (xs ys : List GPair) → Never (IsPair constant) r → Never (IsPair constant) s → IsPairs constant ts xs r → IsPairs constant ts ys s → Cut xs ys r s
    pairs_once ts r s xs ys n o no_pairs no_pairs = (refl, refl)
    pairs_once ts r s xs ys n o no_pairs (more_pairs a b) = absurd (n _ _ a)
    pairs_once ts r s xs ys n o (more_pairs a b) no_pairs = absurd (o _ _ a)
    pairs_once ts r s xs ys n o (more_pairs {mid = m} {x = x} {xs = us} a b) (more_pairs {mid = k} {x = y} {xs = vs} c d) =
        let one = pair_once ts m k x y a c in
        added x y us vs r s one.0 (pairs_once m r s us vs n o b (subst (λ u. IsPairs constant u vs s) (sym one.1) d))

  arguments_once : (ts r s : List Lexeme) (xs ys : List GPair) → NotAt 40 r → NotAt 40 s → MaybeArguments constant ts xs r → MaybeArguments constant ts ys s → Cut xs ys r s
  arguments_once ts r s xs ys f g no_arguments no_arguments = (refl, refl)
  arguments_once ts r s xs ys f g no_arguments (some_arguments a b) = absurd (wrong f)
  arguments_once ts r s xs ys f g (some_arguments a b) no_arguments = absurd (wrong g)
  arguments_once ts r s xs ys f g (some_arguments {ts = ws} {mid = m} {x = x} {xs = us} a b) (some_arguments {mid = k} {x = y} {xs = vs} c d) =
      let one = pair_once ws m k x y a c in
      let more = pairs_once m (end_paren ∷ r) (end_paren ∷ s) us vs (no_pair 41 r) (no_pair 41 s) b (subst (λ u. IsPairs constant u vs (end_paren ∷ s)) (sym one.1) d) in
      added x y us vs r s one.0 (behind (λ zs. zs) us vs end_paren r s more)

  directive_once : (ts r s : List Lexeme) (x y : Directive) → NotAt 40 r → NotAt 40 s → IsDirective constant ts x r → IsDirective constant ts y s → Cut x y r s
  directive_once ts r s x y f g (a_directive {n = n} {ts = us} {xs = xs} a) (a_directive {xs = ys} b) =
      let all = arguments_once us r s xs ys f g a b in
      (ap (λ (zs : List GPair). record { name = n; args = zs }) all.0, all.1)

  directive_starts : (ts r : List Lexeme) (x : Directive) → IsDirective constant ts x r → NotAt 40 ts
  directive_starts ts r x (a_directive a) = refl

  no_directive : (r : List Lexeme) → NotAt 64 r → Never (IsDirective constant) r
  no_directive r f x mid (a_directive a) = wrong f

  directives_once : (ts r s : List Lexeme) (xs ys : List Directive) → NotAt 40 r → NotAt 40 s → NotAt 64 r → NotAt 64 s → Directives constant ts xs r → Directives constant ts ys s → Cut xs ys r s
  directives_once ts r s xs ys f g h i a b = many_once (IsDirective constant) (NotAt 40) directive_once directive_starts ts r s xs ys f g (no_directive r h) (no_directive s i) a b

  -- where they may be missing, what follows decides the front
  arguments_front : (k : ℕ) (ts r : List Lexeme) (xs : List GPair) → (40 == k) ≡ false → NotAt k r → MaybeArguments constant ts xs r → NotAt k ts
  arguments_front k ts r xs e f no_arguments = f
  arguments_front k ts r xs e f (some_arguments a b) = e

  directives_front : (k : ℕ) (ts r : List Lexeme) (xs : List Directive) → (64 == k) ≡ false → NotAt k r → Directives constant ts xs r → NotAt k ts
  directives_front k ts r xs e f no_more = f
  directives_front k ts r xs e f (one_more (a_directive a) b) = e

-- ---- types and variables

strict_here : (r s : List Lexeme) → NotAt 33 r → r ≡ bang ∷ s → ⊥
strict_here r s f e = wrong (subst (λ u. NotAt 33 u) e f)

type_once : (ts r s : List Lexeme) (x y : TypeRef) → NotAt 33 r → NotAt 33 s → IsType ts x r → IsType ts y s → Cut x y r s
type_once ts r s x y f g named named = (refl, refl)
type_once ts r s x y f g named named_strict = absurd (wrong f)
type_once ts r s x y f g named_strict named = absurd (wrong g)
type_once ts r s x y f g named_strict named_strict = (refl, refl)
type_once ts r s x y f g (listed {ts = us} {x = p} a) (listed {x = q} b) = behind (λ z. t.Listed z false) p q end_bracket r s (type_once us (end_bracket ∷ r) (end_bracket ∷ s) p q refl refl a b)
type_once ts r s x y f g (listed {ts = us} {x = p} a) (listed_strict {x = q} b) =
    absurd (strict_here r s f (tails end_bracket end_bracket r (bang ∷ s) (type_once us (end_bracket ∷ r) (end_bracket ∷ bang ∷ s) p q refl refl a b).1).1)
type_once ts r s x y f g (listed_strict {ts = us} {x = p} a) (listed {x = q} b) =
    absurd (strict_here s r g (sym (tails end_bracket end_bracket (bang ∷ r) s (type_once us (end_bracket ∷ bang ∷ r) (end_bracket ∷ s) p q refl refl a b).1).1))
type_once ts r s x y f g (listed_strict {ts = us} {x = p} a) (listed_strict {x = q} b) =
    let one = type_once us (end_bracket ∷ bang ∷ r) (end_bracket ∷ bang ∷ s) p q refl refl a b in
    (ap (λ z. t.Listed z true) one.0, (tails bang bang r s (tails end_bracket end_bracket (bang ∷ r) (bang ∷ s) one.1).1).1)

default_once : (ts r s : List Lexeme) (x y : Option GValue) → NotAt 61 r → NotAt 61 s → MaybeDefault ts x r → MaybeDefault ts y s → Cut x y r s
default_once ts r s x y f g no_default no_default = (refl, refl)
default_once ts r s x y f g no_default (a_default a) = absurd (wrong f)
default_once ts r s x y f g (a_default a) no_default = absurd (wrong g)
default_once ts r s x y f g (a_default {ts = us} {x = p} a) (a_default {x = q} b) =
    let one = value_once true us r s p q a b in
    (ap Some one.0, one.1)

default_front : (k : ℕ) (ts r : List Lexeme) (x : Option GValue) → (61 == k) ≡ false → NotAt k r → MaybeDefault ts x r → NotAt k ts
default_front k ts r x e f no_default = f
default_front k ts r x e f (a_default a) = e

-- no !, =, @ and (
abbrev EndsVariable : List Lexeme → Type 0
EndsVariable r = NotAt 33 r × NotAt 61 r × NotAt 64 r × NotAt 40 r

variable_once : (ts r s : List Lexeme) (x y : VarDef) → EndsVariable r → EndsVariable s → IsVarDef ts x r → IsVarDef ts y s → Cut x y r s
variable_once ts r s x y f g (a_variable {n = n} {ts = us} {t1 = t1} {t2 = t2} {type = p} {value = d} {ds = ds} a b c) (a_variable {t1 = u1} {t2 = u2} {type = q} {value = e} {ds = es} a' b' c') =
    let t2-33 = directives_front true 33 t2 r ds refl f.0 c in
    let u2-33 = directives_front true 33 u2 s es refl g.0 c' in
    let t2-61 = directives_front true 61 t2 r ds refl f.1 c in
    let u2-61 = directives_front true 61 u2 s es refl g.1 c' in
    let one = type_once us t1 u1 p q (default_front 33 t1 t2 d refl t2-33 b) (default_front 33 u1 u2 e refl u2-33 b') a a' in
    let two = default_once t1 t2 u2 d e t2-61 u2-61 b (subst (λ z. MaybeDefault z e u2) (sym one.1) b') in
    let three = directives_once true t2 r s ds es f.3 g.3 f.2 g.2 c (subst (λ z. Directives true z es s) (sym two.1) c') in
    (ap₂ (λ (z : TypeRef × Option GValue) (zs : List Directive). record { name = n; kind = z.0; default = z.1; directives = zs }) (ap₂ (λ z w. (z, w)) one.0 two.0) three.0, three.1)

variable_starts : (ts r : List Lexeme) (x : VarDef) → IsVarDef ts x r → EndsVariable ts
variable_starts ts r x (a_variable a b c) = (refl, refl, refl, refl)

no_variable : (r : List Lexeme) → Never IsVarDef (end_paren ∷ r)
no_variable r x mid a = elim a [ ]

variables_once : (ts r s : List Lexeme) (xs ys : List VarDef) → NotAt 40 r → NotAt 40 s → MaybeVariables ts xs r → MaybeVariables ts ys s → Cut xs ys r s
variables_once ts r s xs ys f g no_variables no_variables = (refl, refl)
variables_once ts r s xs ys f g no_variables (some_variables a b) = absurd (wrong f)
variables_once ts r s xs ys f g (some_variables a b) no_variables = absurd (wrong g)
variables_once ts r s xs ys f g (some_variables {ts = ws} {mid = m} {x = x} {xs = us} a b) (some_variables {mid = k} {x = y} {xs = vs} c d) =
    let one = variable_once ws m k x y (before IsVarDef EndsVariable variable_once variable_starts m (end_paren ∷ r) us (refl, refl, refl, refl) b)
    (before IsVarDef EndsVariable variable_once variable_starts k (end_paren ∷ s) vs (refl, refl, refl, refl) d) a c in
    let more = many_once IsVarDef EndsVariable variable_once variable_starts m (end_paren ∷ r) (end_paren ∷ s) us vs (refl, refl, refl, refl) (refl, refl, refl, refl) (no_variable r) (no_variable s) b
    (subst (λ u. Many IsVarDef u vs (end_paren ∷ s)) (sym one.1) d) in
    added x y us vs r s one.0 (behind (λ zs. zs) us vs end_paren r s more)

variables_front : (k : ℕ) (ts r : List Lexeme) (xs : List VarDef) → (40 == k) ≡ false → NotAt k r → MaybeVariables ts xs r → NotAt k ts
variables_front k ts r xs e f no_variables = f
variables_front k ts r xs e f (some_variables a b) = e

-- ---- selections

-- no :, (, @ and {
abbrev EndsSelection : List Lexeme → Type 0
EndsSelection r = NotAt 58 r × NotAt 40 r × NotAt 64 r × NotAt 123 r

name_once : (ts r s : List Lexeme) (x y : Option Text × Text) → NotAt 58 r → NotAt 58 s → IsFieldName ts x r → IsFieldName ts y s → Cut x y r s
name_once ts r s x y f g plain plain = (refl, refl)
name_once ts r s x y f g plain aliased = absurd (wrong f)
name_once ts r s x y f g aliased plain = absurd (wrong g)
name_once ts r s x y f g aliased aliased = (refl, refl)

set_front : (k : ℕ) (ts r : List Lexeme) (xs : List Selection) → (123 == k) ≡ false → IsSet ts xs r → NotAt k ts
set_front k ts r xs e (a_set a b) = e

maybe_front : (k : ℕ) (ts r : List Lexeme) (xs : List Selection) → (123 == k) ≡ false → NotAt k r → MaybeSet ts xs r → NotAt k ts
maybe_front k ts r xs e f no_set = f
maybe_front k ts r xs e f (some_set a) = set_front k ts r xs e a

selection_starts : (ts r : List Lexeme) (x : Selection) → IsSelection ts x r → EndsSelection ts
selection_starts ts r x (field plain b c d) = (refl, refl, refl, refl)
selection_starts ts r x (field aliased b c d) = (refl, refl, refl, refl)
selection_starts ts r x (spread n a) = (refl, refl, refl, refl)
selection_starts ts r x (inline a b) = (refl, refl, refl, refl)
selection_starts ts r x (inline_on a b) = (refl, refl, refl, refl)

no_selection : (r : List Lexeme) → Never IsSelection (end_brace ∷ r)
no_selection r x mid (field a b c d) = elim a [ ]

selections_start : (ts r : List Lexeme) (xs : List Selection) → EndsSelection r → IsSelections ts xs r → EndsSelection ts
selections_start ts r xs f no_selections = f
selections_start ts r xs f (more_selections a b) = selection_starts ts _ _ a

-- neither directives nor a selection set begin with a name
no_name_here : (n : Text) (ts mid r : List Lexeme) (ds : List Directive) (set : List Selection) → Directives false (Name n ∷ ts) ds mid → IsSet mid set r → ⊥
no_name_here n ts mid r ds set no_more b = elim b [ ]
no_name_here n ts mid r ds set (one_more a c) b = elim a [ ]

mutual
  selection_once : (ts r s : List Lexeme) (x y : Selection) → EndsSelection r → EndsSelection s → IsSelection ts x r → IsSelection ts y s → Cut x y r s
  selection_once ts r s x y f g (field {t1 = t1} {t2 = t2} {t3 = t3} {called = n} {args = p} {ds = ds} {set = set} a b c d) (field {t1 = u1} {t2 = u2} {t3 = u3} {called = m} {args = q} {ds = es} {set = other} a' b' c' d') =
      let t3-40 = maybe_front 40 t3 r set refl f.1 d in
      let u3-40 = maybe_front 40 u3 s other refl g.1 d' in
      let t3-64 = maybe_front 64 t3 r set refl f.2 d in
      let u3-64 = maybe_front 64 u3 s other refl g.2 d' in
      let t2-40 = directives_front false 40 t2 t3 ds refl t3-40 c in
      let u2-40 = directives_front false 40 u2 u3 es refl u3-40 c' in
      let t1-58 = arguments_front false 58 t1 t2 p refl (directives_front false 58 t2 t3 ds refl (maybe_front 58 t3 r set refl f.0 d) c) b in
      let u1-58 = arguments_front false 58 u1 u2 q refl (directives_front false 58 u2 u3 es refl (maybe_front 58 u3 s other refl g.0 d') c') b' in
      let one = name_once ts t1 u1 n m t1-58 u1-58 a a' in
      let two = arguments_once false t1 t2 u2 p q t2-40 u2-40 b (subst (λ z. MaybeArguments false z q u2) (sym one.1) b') in
      let three = directives_once false t2 t3 u3 ds es t3-40 u3-40 t3-64 u3-64 c (subst (λ z. Directives false z es u3) (sym two.1) c') in
      let four = maybe_once t3 r s set other f.3 g.3 d (subst (λ z. MaybeSet z other s) (sym three.1) d') in
      (ap₂ (λ (z : (Option Text × Text) × List GPair) (w : List Directive × List Selection). sel.Field z.0.0 z.0.1 z.1 w.0 w.1) (ap₂ (λ z w. (z, w)) one.0 two.0) (ap₂ (λ z w. (z, w)) three.0 four.0), four.1)
  selection_once ts r s x y f g (field a b c d) (spread n e) = elim a [ ]
  selection_once ts r s x y f g (field a b c d) (inline e h) = elim a [ ]
  selection_once ts r s x y f g (field a b c d) (inline_on e h) = elim a [ ]
  selection_once ts r s x y f g (spread n e) (field a b c d) = elim a [ ]
  selection_once ts r s x y f g (spread {n = n} {ts = us} {ds = ds} ne a) (spread {ds = es} nf b) =
      let one = directives_once false us r s ds es f.1 g.1 f.2 g.2 a b in
      (ap (λ zs. sel.Spread n zs) one.0, one.1)
  selection_once ts r s x y f g (spread n e) (inline a b) = absurd (no_name_here _ _ _ _ _ _ a b)
  selection_once ts r s x y f g (spread n e) (inline_on a b) = absurd (n refl)
  selection_once ts r s x y f g (inline e h) (field a b c d) = elim a [ ]
  selection_once ts r s x y f g (inline a b) (spread n e) = absurd (no_name_here _ _ _ _ _ _ a b)
  selection_once ts r s x y f g (inline {ts = us} {mid = m} {ds = ds} {set = set} a b) (inline {mid = k} {ds = es} {set = other} c d) =
      let one = directives_once false us m k ds es (set_front 40 m r set refl b) (set_front 40 k s other refl d) (set_front 64 m r set refl b) (set_front 64 k s other refl d) a c in
      let two = set_once m r s set other b (subst (λ z. IsSet z other s) (sym one.1) d) in
      (ap₂ (λ (zs : List Directive) (ws : List Selection). sel.Inline None zs ws) one.0 two.0, two.1)
  selection_once ts r s x y f g (inline a b) (inline_on c d) = absurd (no_name_here _ _ _ _ _ _ a b)
  selection_once ts r s x y f g (inline_on e h) (field a b c d) = elim a [ ]
  selection_once ts r s x y f g (inline_on a b) (spread n e) = absurd (n refl)
  selection_once ts r s x y f g (inline_on a b) (inline c d) = absurd (no_name_here _ _ _ _ _ _ c d)
  selection_once ts r s x y f g (inline_on {n = n} {ts = us} {mid = m} {ds = ds} {set = set} a b) (inline_on {mid = k} {ds = es} {set = other} c d) =
      let one = directives_once false us m k ds es (set_front 40 m r set refl b) (set_front 40 k s other refl d) (set_front 64 m r set refl b) (set_front 64 k s other refl d) a c in
      let two = set_once m r s set other b (subst (λ z. IsSet z other s) (sym one.1) d) in
      (ap₂ (λ (zs : List Directive) (ws : List Selection). sel.Inline (Some n) zs ws) one.0 two.0, two.1)

  selections_once : (ts r s : List Lexeme) (xs ys : List Selection) → EndsSelection r → EndsSelection s → Never IsSelection r → Never IsSelection s → IsSelections ts xs r → IsSelections ts ys s → Cut xs ys r s
  selections_once ts r s xs ys f g n o no_selections no_selections = (refl, refl)
  selections_once ts r s xs ys f g n o no_selections (more_selections a b) = absurd (n _ _ a)
  selections_once ts r s xs ys f g n o (more_selections a b) no_selections = absurd (o _ _ a)
  selections_once ts r s xs ys f g n o (more_selections {mid = m} {x = x} {xs = us} a b) (more_selections {mid = k} {x = y} {xs = vs} c d) =
      let one = selection_once ts m k x y (selections_start m r us f b) (selections_start k s vs g d) a c in
      added x y us vs r s one.0 (selections_once m r s us vs f g n o b (subst (λ u. IsSelections u vs s) (sym one.1) d))

  set_once : (ts r s : List Lexeme) (xs ys : List Selection) → IsSet ts xs r → IsSet ts ys s → Cut xs ys r s
  set_once ts r s xs ys (a_set {ts = ws} {mid = m} {x = x} {xs = us} a b) (a_set {mid = k} {x = y} {xs = vs} c d) =
      let one = selection_once ws m k x y (selections_start m (end_brace ∷ r) us (refl, refl, refl, refl) b) (selections_start k (end_brace ∷ s) vs (refl, refl, refl, refl) d) a c in
      let more = selections_once m (end_brace ∷ r) (end_brace ∷ s) us vs (refl, refl, refl, refl) (refl, refl, refl, refl) (no_selection r) (no_selection s) b
      (subst (λ u. IsSelections u vs (end_brace ∷ s)) (sym one.1) d) in
      added x y us vs r s one.0 (behind (λ zs. zs) us vs end_brace r s more)

  maybe_once : (ts r s : List Lexeme) (xs ys : List Selection) → NotAt 123 r → NotAt 123 s → MaybeSet ts xs r → MaybeSet ts ys s → Cut xs ys r s
  maybe_once ts r s xs ys f g no_set no_set = (refl, refl)
  maybe_once ts r s xs ys f g no_set (some_set (a_set a b)) = absurd (wrong f)
  maybe_once ts r s xs ys f g (some_set (a_set a b)) no_set = absurd (wrong g)
  maybe_once ts r s xs ys f g (some_set a) (some_set b) = set_once ts r s xs ys a b

-- ---- definitions

maybe_name_once : (ts r s : List Lexeme) (x y : Option Text) → NotAt 257 r → NotAt 257 s → MaybeName ts x r → MaybeName ts y s → Cut x y r s
maybe_name_once ts r s x y f g no_name no_name = (refl, refl)
maybe_name_once ts r s x y f g no_name a_name = absurd (wrong f)
maybe_name_once ts r s x y f g a_name no_name = absurd (wrong g)
maybe_name_once ts r s x y f g a_name a_name = (refl, refl)

word_once : (w : Text) (x y : OpWord) → IsOpWord w x → IsOpWord w y → x ≡ y
word_once w x y query query = refl
word_once w x y mutation mutation = refl
word_once w x y subscription subscription = refl

definition_once : (ts r s : List Lexeme) (x y : Definition) → IsDefinition ts x r → IsDefinition ts y s → Cut x y r s
definition_once ts r s x y (shorthand {set = set} a) (shorthand {set = other} b) =
    let one = set_once ts r s set other a b in
    (ap (definition.Operation OpWord.Query None [] []) one.0, one.1)
definition_once ts r s x y (shorthand a) (operation w b c d e) = elim a [ ]
definition_once ts r s x y (shorthand a) (fragment n b c) = elim a [ ]
definition_once ts r s x y (operation w b c d e) (shorthand a) = elim a [ ]
definition_once ts r s x y (operation {o = o} {ts = us} {t1 = t1} {t2 = t2} {t3 = t3} {name = n} {vars = vs} {ds = ds} {set = set} w a b c d) (operation {o = p} {t1 = u1} {t2 = u2} {t3 = u3} {name = m} {vars = ws} {ds = es} {set = other} z a' b' c' d') =
    let t3-40 = set_front 40 t3 r set refl d in
    let u3-40 = set_front 40 u3 s other refl d' in
    let t2-40 = directives_front false 40 t2 t3 ds refl t3-40 c in
    let u2-40 = directives_front false 40 u2 u3 es refl u3-40 c' in
    let t1-257 = variables_front 257 t1 t2 vs refl (directives_front false 257 t2 t3 ds refl (set_front 257 t3 r set refl d) c) b in
    let u1-257 = variables_front 257 u1 u2 ws refl (directives_front false 257 u2 u3 es refl (set_front 257 u3 s other refl d') c') b' in
    let none = word_once _ o p w z in
    let one = maybe_name_once us t1 u1 n m t1-257 u1-257 a a' in
    let two = variables_once t1 t2 u2 vs ws t2-40 u2-40 b (subst (λ q. MaybeVariables q ws u2) (sym one.1) b') in
    let three = directives_once false t2 t3 u3 ds es t3-40 u3-40 (set_front 64 t3 r set refl d) (set_front 64 u3 s other refl d') c (subst (λ q. Directives false q es u3) (sym two.1) c') in
    let four = set_once t3 r s set other d (subst (λ q. IsSet q other s) (sym three.1) d') in
    (ap₂ (λ (q : (OpWord × Option Text) × List VarDef) (k : List Directive × List Selection). definition.Operation q.0.0 q.0.1 q.1 k.0 k.1) (ap₂ (λ q k. (q, k)) (ap₂ (λ q k. (q, k)) none one.0) two.0) (ap₂ (λ q k. (q, k)) three.0 four.0), four.1)
definition_once ts r s x y (operation w a b c d) (fragment n e h) = elim w [ ]
definition_once ts r s x y (fragment n b c) (shorthand a) = elim a [ ]
definition_once ts r s x y (fragment n e h) (operation w a b c d) = elim w [ ]
definition_once ts r s x y (fragment {n = n} {on = on} {ts = us} {mid = m} {ds = ds} {set = set} ne a b) (fragment {mid = k} {ds = es} {set = other} nf c d) =
    let one = directives_once false us m k ds es (set_front 40 m r set refl b) (set_front 40 k s other refl d) (set_front 64 m r set refl b) (set_front 64 k s other refl d) a c in
    let two = set_once m r s set other b (subst (λ z. IsSet z other s) (sym one.1) d) in
    (ap₂ (λ (zs : List Directive) (ws : List Selection). definition.Fragment n on zs ws) one.0 two.0, two.1)

abbrev Any : List Lexeme → Type 0
Any ts = Unit {0}

no_definition : Never IsDefinition []
no_definition x mid (shorthand a) = elim a [ ]

document_once : (ts : List Lexeme) (x y : Document) → IsDocument ts x [] → IsDocument ts y [] → x ≡ y
document_once ts x y (a_document {mid = m} {x = p} {xs = us} a b) (a_document {mid = k} {x = q} {xs = vs} c d) =
    let one = definition_once ts m k p q a c in
    let more = many_once IsDefinition Any (λ ts r s x y f g. definition_once ts r s x y) (λ ts r x a. tt) m [] [] us vs tt tt no_definition no_definition b (subst (λ u. Many IsDefinition u vs []) (sym one.1) d) in
    ap (λ (zs : List Definition). record { definitions = zs }) (ap₂ (λ z zs. z ∷ zs) one.0 more.0)

-- ---- texts

pub one_document : (text : Text) (d e : Document) → Reads text d → Reads text e → d ≡ e
one_document text d e r s = document_once (lexemes_of text (lexemes text).0) d e r.derives.0 s.derives.0
