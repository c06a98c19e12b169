-- The rules of values, arguments and directives, part by part.
use Rattle.std.proofs.Common.{◌≡◌, ◌≢◌, ℕ, Bool, true, false, List, [], ◌∷◌, ◌++◌, refl, ap, sym, ◌∙◌, subst, arith}
use Rattle.std.specs.Prelude.{codes}
use Rattle.request_model.specs.declared.document.GValue.{GValue}
use Rattle.request_model.specs.declared.document.GValue.TheVariants as v
use Rattle.request_model.specs.declared.document.GPair.{GPair, roll-GPair}
use Rattle.request_model.specs.declared.document.Directive.{Directive}
use Rattle.request_model.specs.Strings.{Text, unescaped}
use Rattle.request_model.specs.Grammar.{Lexeme, Punct, Name, Int, Quoted, Many, no_more, one_more, IsValue, IsValues, IsPair, IsPairs, MaybeArguments, IsDirective, Directives, variable, integer, string, true_, false_, null, enum, list, object, no_values, more_values, a_pair, no_pairs, more_pairs, no_arguments, some_arguments, a_directive}
use Rattle.gql_ast.specs.Fronts.{IsAt, NotAt, NotName, NotInt, NotQuoted, NotWord}
use Rattle.gql_ast.specs.Reading.{Agree, Took, Stops, Then, Closed, IsName, IsPunct}
use Rattle.gql_ast.specs.Follow.{Anything, EndsDirectives}
use Rattle.gql_ast.proofs.Steps.{Same, Follows, took_as, stops_as, took_after, stops_after, both, first, second, took_under, stops_under}
use Rattle.gql_ast.proofs.Loops.{Front, Lists, listed}
use Rattle.gql_ast.proofs.OneLexeme.{NotAt-agree, NotName-agree, NotInt-agree, NotQuoted-agree, IsAt-agree, at_apart, took_one, stops_here, took_none}

-- what may be made up where a name or a value is missing
abbrev pub some_name : Lexeme
some_name = Name (codes "a")

abbrev pub some_value : Lexeme
some_value = Name (codes "null")

abbrev pub free : {A : Type 0} (R : List Lexeme → A → List Lexeme → Type 0) (F : List Lexeme → Type 0) (ts r : List Lexeme) (y : A) → R ts y r → F r → Anything ts
free R F ts r y h after = tt

module _ (constant : Bool) where
  -- ---- values

  pub list_rule : Follows (Punct 91) (Closed (IsValues constant) 93) (IsValue constant) Anything v.Many
  list_rule = record { is = λ ts r x h. list h; was = split }
    where
      split : (ts r : List Lexeme) (z : GValue) → IsValue constant (Punct 91 ∷ ts) z r → Anything r → (xs : List GValue) × Closed (IsValues constant) 93 ts xs r × (z ≡ v.Many xs)
      split ts r z (list h) _ = (_, h, refl)

  pub object_rule : Follows (Punct 123) (Closed (IsPairs constant) 125) (IsValue constant) Anything v.Object
  object_rule = record { is = λ ts r x h. object h; was = split }
    where
      split : (ts r : List Lexeme) (z : GValue) → IsValue constant (Punct 123 ∷ ts) z r → Anything r → (xs : List GPair) × Closed (IsPairs constant) 125 ts xs r × (z ≡ v.Object xs)
      split ts r z (object h) _ = (_, h, refl)

  pub variable_rule : constant ≡ false → Follows (Punct 36) IsName (IsValue constant) Anything v.Var
  variable_rule c = record { is = join; was = split }
    where
      join : (ts r : List Lexeme) (n : Text) → IsName ts n r → IsValue constant (Punct 36 ∷ ts) (v.Var n) r
      join ts r n e = subst (λ u. IsValue constant (Punct 36 ∷ u) (v.Var n) r) (sym e) (variable c)

      split : (ts r : List Lexeme) (z : GValue) → IsValue constant (Punct 36 ∷ ts) z r → Anything r → (n : Text) × IsName ts n r × (z ≡ v.Var n)
      split ts r z (variable _) _ = (_, refl, refl)

  integer_only : (n : Text) (s r : List Lexeme) (y : GValue) → IsValue constant (Int n ∷ s) y r → Anything r → (y ≡ v.Int n) × (r ≡ s)
  integer_only n s r y integer _ = (refl, refl)

  pub took_integer : {n : Text} {ts rest : List Lexeme} → ts ≡ Int n ∷ rest → Took (IsValue constant) Anything ts (v.Int n) rest
  took_integer {n = n} e = took_one e (λ s. integer) (integer_only n)

  string_only : (n : Text) (s r : List Lexeme) (y : GValue) → IsValue constant (Quoted n ∷ s) y r → Anything r → (y ≡ v.Text (unescaped n)) × (r ≡ s)
  string_only n s r y string _ = (refl, refl)

  pub took_string : {n : Text} {ts rest : List Lexeme} → ts ≡ Quoted n ∷ rest → Took (IsValue constant) Anything ts (v.Text (unescaped n)) rest
  took_string {n = n} e = took_one e (λ s. string) (string_only n)

  -- a name is one value
  name_only : (n : Text) (ts rest rest' : List Lexeme) (x y : GValue) → IsValue constant (Name n ∷ ts) x rest → IsValue constant (Name n ∷ ts) y rest' → (y ≡ x) × (rest' ≡ ts)
  name_only n ts rest rest' x y true_ true_ = (refl, refl)
  name_only n ts rest rest' x y true_ (enum a b c) = absurd (a refl)
  name_only n ts rest rest' x y false_ false_ = (refl, refl)
  name_only n ts rest rest' x y false_ (enum a b c) = absurd (b refl)
  name_only n ts rest rest' x y null null = (refl, refl)
  name_only n ts rest rest' x y null (enum a b c) = absurd (c refl)
  name_only n ts rest rest' x y (enum a b c) true_ = absurd (a refl)
  name_only n ts rest rest' x y (enum a b c) false_ = absurd (b refl)
  name_only n ts rest rest' x y (enum a b c) null = absurd (c refl)
  name_only n ts rest rest' x y (enum a b c) (enum _ _ _) = (refl, refl)

  pub took_named : {n : Text} {ts rest : List Lexeme} {x : GValue} → ts ≡ Name n ∷ rest → ((s : List Lexeme) → IsValue constant (Name n ∷ s) x s) → Took (IsValue constant) Anything ts x rest
  took_named {n = n} {x = x} e made = took_one e made (λ s r y h _. name_only n s s r x y (made s) h)

  value_never : (s r : List Lexeme) (y : GValue) → NotAt 91 s → NotAt 123 s → (constant ≡ false → NotAt 36 s) → NotInt s → NotQuoted s → NotName s → IsValue constant s y r → ⊥
  value_never s r y a b c d e f (variable k) = c k _ refl
  value_never s r y a b c d e f integer = d _ _ refl
  value_never s r y a b c d e f string = e _ _ refl
  value_never s r y a b c d e f true_ = f _ _ refl
  value_never s r y a b c d e f false_ = f _ _ refl
  value_never s r y a b c d e f null = f _ _ refl
  value_never s r y a b c d e f (enum _ _ _) = f _ _ refl
  value_never s r y a b c d e f (list _) = a _ refl
  value_never s r y a b c d e f (object _) = b _ refl

  pub stops_value : (ts t1 t2 t3 t4 t5 t6 : List Lexeme) → (t1 ≡ ts) × NotAt 91 ts → (t2 ≡ t1) × NotAt 123 t1 → (t3 ≡ t2) × (constant ≡ false → NotAt 36 t2) →
      (t4 ≡ t3) × NotInt t3 → (t5 ≡ t4) × NotQuoted t4 → (t6 ≡ t5) × NotName t5 → Stops (IsValue constant) Anything ts t6
  stops_value ts t1 t2 t3 t4 t5 t6 a b c d e f =
      stops_here (f.0 ∙ e.0 ∙ d.0 ∙ c.0 ∙ b.0 ∙ a.0) (some_value ∷ []) v.Null (λ s. null)
      (λ s r y agree h. value_never s r y (NotAt-agree 91 ts s agree a.1)
      (NotAt-agree 123 ts s agree (subst (NotAt 123) a.0 b.1))
      (λ k. NotAt-agree 36 ts s agree (subst (NotAt 36) (b.0 ∙ a.0) (c.1 k)))
      (NotInt-agree ts s agree (subst NotInt (c.0 ∙ b.0 ∙ a.0) d.1))
      (NotQuoted-agree ts s agree (subst NotQuoted (d.0 ∙ c.0 ∙ b.0 ∙ a.0) e.1))
      (NotName-agree ts s agree (subst NotName (e.0 ∙ d.0 ∙ c.0 ∙ b.0 ∙ a.0) f.1)) h)

  -- ---- lists of values

  value_item : (ts r : List Lexeme) (ys : List GValue) → NotAt 93 ts → Closed (IsValues constant) 93 ts ys r → Anything r →
      (x : GValue) × (mid : List Lexeme) × (xs : List GValue) × IsValue constant ts x mid × Anything mid × Closed (IsValues constant) 93 mid xs r × (ys ≡ x ∷ xs)
  value_item ts r ys away no_values _ = absurd (away _ refl)
  value_item ts r ys away (more_values a b) _ = (_, _, _, a, tt, b, refl)

  pub values_list : Lists (Closed (IsValues constant) 93) Anything (IsValue constant) Anything (NotAt 93)
  values_list = record { next = λ ts mid rest x xs a b. more_values a b; goes = NotAt-agree 93; item = value_item }

  values_only : (s r : List Lexeme) (ys : List GValue) → Closed (IsValues constant) 93 (Punct 93 ∷ s) ys r → Anything r → (ys ≡ []) × (r ≡ s)
  values_only s r ys no_values _ = (refl, refl)
  values_only s r ys (more_values a _) _ = elim a [ ]

  pub values_end : {ts0 ts rest : List Lexeme} {found : List GValue} → ts ≡ Punct 93 ∷ rest → Front (Closed (IsValues constant) 93) Anything ts0 found ts → Took (Closed (IsValues constant) 93) Anything ts0 found rest
  values_end e a = listed a (took_one e (λ s. no_values) values_only)

  -- ---- pairs

  abbrev PairParts : List Lexeme → Text × (Unit {0} × GValue) → List Lexeme → Type 0
  PairParts = Then IsName (Then (IsPunct 58) (IsValue constant))

  abbrev pair_of : Text × (Unit {0} × GValue) → GPair
  pair_of p = roll-GPair (record { name = p.0; value = p.1.1 })

  pub pair_rule : Same PairParts (IsPair constant) Anything pair_of Anything
  pair_rule = record { agrees = λ _ _ _ _. tt; is = join; was = split }
    where
      join : (ts r : List Lexeme) (x : Text × (Unit {0} × GValue)) → PairParts ts x r → IsPair constant ts (pair_of x) r
      join ts r x h = subst (λ u. IsPair constant u (pair_of x) r) (sym (h.1 ∙ ap (λ u. Name x.0 ∷ u) h.2.1)) (a_pair h.2.2)

      split : (ts r : List Lexeme) (z : GPair) → Anything ts → IsPair constant ts z r → Anything r → (x : Text × (Unit {0} × GValue)) × PairParts ts x r × (z ≡ pair_of x)
      split ts r z _ (a_pair h) _ = ((_, (tt, _)), (_, refl, (_, refl, h)), refl)

  abbrev pub some_pair : List Lexeme
  some_pair = some_name ∷ Punct 58 ∷ some_value ∷ []

  module _ (close : ℕ) where
    pair_item : (ts r : List Lexeme) (ys : List GPair) → NotAt close ts → Closed (IsPairs constant) close ts ys r → Anything r →
        (x : GPair) × (mid : List Lexeme) × (xs : List GPair) × IsPair constant ts x mid × Anything mid × Closed (IsPairs constant) close mid xs r × (ys ≡ x ∷ xs)
    pair_item ts r ys away h _ = go ts (Punct close ∷ r) ys away refl h
      where
        go : (ts u : List Lexeme) (ys : List GPair) → NotAt close ts → Punct close ∷ r ≡ u → IsPairs constant ts ys u → (x : GPair) × (mid : List Lexeme) × (xs : List GPair) × IsPair constant ts x mid × Anything mid × Closed (IsPairs constant) close mid xs r × (ys ≡ x ∷ xs)
        go ts u ys away e no_pairs = absurd (away r (sym e))
        go ts u ys away e (more_pairs {mid = mid} {xs = xs} a b) = (_, mid, xs, a, tt, subst (λ w. IsPairs constant mid xs w) (sym e) b, refl)

    pub pairs_list : Lists (Closed (IsPairs constant) close) Anything (IsPair constant) Anything (NotAt close)
    pairs_list = record { next = λ ts mid rest x xs a b. more_pairs a b; goes = NotAt-agree close; item = pair_item }

    pairs_only : (s r : List Lexeme) (ys : List GPair) → Closed (IsPairs constant) close (Punct close ∷ s) ys r → Anything r → (ys ≡ []) × (r ≡ s)
    pairs_only s r ys h _ = go (Punct close ∷ s) (Punct close ∷ r) ys refl refl h
      where
        none : (ts u : List Lexeme) (x : GPair) → Punct close ∷ s ≡ ts → IsPair constant ts x u → ⊥
        none ts u x e (a_pair {n = n} {ts = more} _) = let bad : Punct close ∷ s ≡ Name n ∷ Punct 58 ∷ more = e in cc

        go : (ts u : List Lexeme) (ys : List GPair) → Punct close ∷ s ≡ ts → Punct close ∷ r ≡ u → IsPairs constant ts ys u → (ys ≡ []) × (r ≡ s)
        go ts u ys e f no_pairs = (refl, let same : Punct close ∷ r ≡ Punct close ∷ s = f ∙ sym e in cc)
        go ts u ys e f (more_pairs a _) = absurd (none ts _ _ e a)

    pub pairs_end : {ts0 ts rest : List Lexeme} {found : List GPair} → ts ≡ Punct close ∷ rest → Front (Closed (IsPairs constant) close) Anything ts0 found ts → Took (Closed (IsPairs constant) close) Anything ts0 found rest
    pairs_end e a = listed a (took_one e (λ s. no_pairs) pairs_only)

  -- ---- Arguments?

  abbrev pub ArgumentParts : List Lexeme → GPair × List GPair → List Lexeme → Type 0
  ArgumentParts = Then (IsPair constant) (Closed (IsPairs constant) 41)

  abbrev pub listed_pair : GPair × List GPair → List GPair
  listed_pair p = p.0 ∷ p.1

  pub arguments_rule : Follows (Punct 40) ArgumentParts (MaybeArguments constant) (NotAt 40) listed_pair
  arguments_rule = record { is = λ ts r x h. some_arguments h.1 h.2; was = split }
    where
      split : (ts r : List Lexeme) (z : List GPair) → MaybeArguments constant (Punct 40 ∷ ts) z r → NotAt 40 r → (p : GPair × List GPair) × ArgumentParts ts p r × (z ≡ listed_pair p)
      split ts r z no_arguments away = absurd (away _ refl)
      split ts r z (some_arguments a b) away = ((_, _), (_, a, b), refl)

  no_arguments_only : (s r : List Lexeme) (y : List GPair) → NotAt 40 s → MaybeArguments constant s y r → (y ≡ []) × (r ≡ s)
  no_arguments_only s r y away no_arguments = (refl, refl)
  no_arguments_only s r y away (some_arguments _ _) = absurd (away _ refl)

  pub took_no_arguments : {ts now : List Lexeme} → (now ≡ ts) × NotAt 40 ts → Took (MaybeArguments constant) (NotAt 40) ts [] now
  took_no_arguments {ts = ts} e = took_none e.0 (λ s. no_arguments) (λ s r y agree h _. no_arguments_only s r y (NotAt-agree 40 ts s agree e.1) h)

  -- ---- a directive

  abbrev DirectiveParts : List Lexeme → Unit {0} × (Text × List GPair) → List Lexeme → Type 0
  DirectiveParts = Then (IsPunct 64) (Then IsName (MaybeArguments constant))

  abbrev directive_of : Unit {0} × (Text × List GPair) → Directive
  directive_of p = record { name = p.1.0; args = p.1.1 }

  pub directive_rule : Same DirectiveParts (IsDirective constant) (NotAt 40) directive_of Anything
  directive_rule = record { agrees = λ _ _ _ _. tt; is = join; was = split }
    where
      join : (ts r : List Lexeme) (x : Unit {0} × (Text × List GPair)) → DirectiveParts ts x r → IsDirective constant ts (directive_of x) r
      join ts r x h = subst (λ u. IsDirective constant u (directive_of x) r) (sym (h.1 ∙ ap (λ u. Punct 64 ∷ u) h.2.1)) (a_directive h.2.2)

      split : (ts r : List Lexeme) (z : Directive) → Anything ts → IsDirective constant ts z r → NotAt 40 r → (x : Unit {0} × (Text × List GPair)) × DirectiveParts ts x r × (z ≡ directive_of x)
      split ts r z _ (a_directive h) _ = ((tt, (_, _)), (_, refl, (_, refl, h)), refl)

  -- ---- Directives?

  directive_first : (ts r : List Lexeme) (x : Directive) → IsDirective constant ts x r → IsAt 64 ts
  directive_first ts r x (a_directive _) = (_, refl)

  pub directives_paren : (ts r : List Lexeme) (y : List Directive) → Directives constant ts y r → EndsDirectives r → NotAt 40 ts
  directives_paren ts r y no_more after = after.1
  directives_paren ts r y (one_more a b) after = at_apart 64 40 _ (omega arith) (directive_first _ _ _ a)

  -- what may not follow directives may not begin them, but for their own @
  pub directives_first : (b : ℕ) → 64 ≢ b → (ts r : List Lexeme) (y : List Directive) → Directives constant ts y r → NotAt b r → NotAt b ts
  directives_first b ne ts r y no_more after = after
  directives_first b ne ts r y (one_more a _) after = at_apart 64 b _ ne (directive_first _ _ _ a)

  -- what may not follow arguments may not begin them, but for their own (
  pub arguments_first : (b : ℕ) → 40 ≢ b → (ts r : List Lexeme) (y : List GPair) → MaybeArguments constant ts y r → NotAt b r → NotAt b ts
  arguments_first b ne ts r y no_arguments after = after
  arguments_first b ne ts r y (some_arguments _ _) after = at_apart 40 b _ ne (_, refl)

  directive_item : (ts r : List Lexeme) (ys : List Directive) → IsAt 64 ts → Directives constant ts ys r → EndsDirectives r →
      (x : Directive) × (mid : List Lexeme) × (xs : List Directive) × IsDirective constant ts x mid × NotAt 40 mid × Directives constant mid xs r × (ys ≡ x ∷ xs)
  directive_item ts r ys on no_more after = absurd (after.0 on.0 on.1)
  directive_item ts r ys on (one_more a b) after = (_, _, _, a, directives_paren _ _ _ b after, b, refl)

  pub directives_list : Lists (Directives constant) EndsDirectives (IsDirective constant) (NotAt 40) (IsAt 64)
  directives_list = record { next = λ ts mid rest x xs a b. one_more a b; goes = IsAt-agree 64; item = directive_item }

  no_directives_only : (s r : List Lexeme) (y : List Directive) → NotAt 64 s → Directives constant s y r → (y ≡ []) × (r ≡ s)
  no_directives_only s r y away no_more = (refl, refl)
  no_directives_only s r y away (one_more a b) = let q = directive_first _ _ _ a in absurd (away q.0 q.1)

  pub directives_end : {ts0 ts : List Lexeme} {found : List Directive} → NotAt 64 ts → Front (Directives constant) EndsDirectives ts0 found ts → Took (Directives constant) EndsDirectives ts0 found ts
  directives_end {ts = ts} away a = listed a (took_none refl (λ s. no_more) (λ s r y agree h _. no_directives_only s r y (NotAt-agree 64 ts s agree away) h))
