-- The rules of selections, part by part.
use Rattle.std.proofs.Common.{◌≡◌, ◌≢◌, ℕ, false, List, [], ◌∷◌, ◌++◌, Option, Some, None, refl, ap, sym, ◌∙◌, subst, arith}
use Rattle.std.specs.Prelude.{codes}
use Rattle.request_model.specs.declared.document.GPair.{GPair}
use Rattle.request_model.specs.declared.document.Directive.{Directive}
use Rattle.request_model.specs.declared.document.Selection.{Selection}
use Rattle.request_model.specs.declared.document.Selection.TheVariants as sel
use Rattle.request_model.specs.Strings.{Text}
use Rattle.request_model.specs.Grammar.{Lexeme, Punct, Spread, Name, no_more, one_more, MaybeArguments, no_arguments, IsDirective, a_directive, Directives, IsFieldName, plain, aliased, IsSelection, IsSelections, IsSet, MaybeSet, field, spread, inline, inline_on, no_selections, more_selections, a_set, no_set, some_set}
use Rattle.gql_ast.specs.Fronts.{IsAt, NotAt, NotName, NotSpread, NotWord}
use Rattle.gql_ast.specs.Reading.{Agree, Took, Stops, Then, Closed, Behind, IsName, IsPunct}
use Rattle.gql_ast.specs.Follow.{Anything, EndsDirectives, EndsSelection}
use Rattle.gql_ast.proofs.Steps.{Same, Follows, took_after, stops_after, took_under, stops_under}
use Rattle.gql_ast.proofs.Loops.{Front, Lists, listed}
use Rattle.gql_ast.proofs.OneLexeme.{NotAt-agree, NotName-agree, NotSpread-agree, IsAt-agree, at_apart, not_name, not_spread, took_one, took_none}
use Rattle.gql_ast.proofs.ValueRules.{some_name, arguments_first, directives_first, directives_paren}

-- ---- (Name :)? Name

first_is_name : (ts r : List Lexeme) (z : Option Text × Text) → IsFieldName ts z r → (n : Text) × (more : List Lexeme) × (ts ≡ Name n ∷ more)
first_is_name ts r z plain = (_, _, refl)
first_is_name ts r z aliased = (_, _, refl)

plain_only : (n : Text) (s r : List Lexeme) (z : Option Text × Text) → NotAt 58 s → IsFieldName (Name n ∷ s) z r → (z ≡ (None, n)) × (r ≡ s)
plain_only n s r z away plain = (refl, refl)
plain_only n s r z away aliased = absurd (away _ refl)

pub took_plain : {ts t1 now : List Lexeme} {n : Text} → Took IsName Anything ts n t1 → (now ≡ t1) × NotAt 58 t1 → Took IsFieldName (NotAt 58) ts (None, n) now
took_plain {ts = ts} {t1 = t1} {n = n} a e =
    subst (λ u. Took IsFieldName (NotAt 58) ts (None, n) u) (sym e.0) (record {
      front = Name n ∷ [];
      cut = a.cut ∙ a.stands t1;
      stands = λ s. plain;
      only = λ s agree z r h _. plain_only n s r z (NotAt-agree 58 t1 s agree e.1) h;
    })

-- behind a name and a colon
alias_rule : (a : Text) → Follows (Punct 58) IsName (Behind (Name a) IsFieldName) (NotAt 58) (λ n. (Some a, n))
alias_rule a = record { is = join; was = split }
  where
    join : (ts r : List Lexeme) (n : Text) → IsName ts n r → IsFieldName (Name a ∷ Punct 58 ∷ ts) (Some a, n) r
    join ts r n e = subst (λ u. IsFieldName (Name a ∷ Punct 58 ∷ u) (Some a, n) r) (sym e) aliased

    split : (ts r : List Lexeme) (z : Option Text × Text) → IsFieldName (Name a ∷ Punct 58 ∷ ts) z r → NotAt 58 r → (n : Text) × IsName ts n r × (z ≡ (Some a, n))
    split ts r z plain away = absurd (away _ refl)
    split ts r z aliased away = (_, refl, refl)

-- behind a lexeme, as it is
pub behind_rule : {A : Type 0} (t : Lexeme) (R : List Lexeme → A → List Lexeme → Type 0) (F : List Lexeme → Type 0) → Follows t (Behind t R) R F (λ z. z)
behind_rule t R F = record { is = λ _ _ _ h. h; was = λ _ _ z h _. (z, h, refl) }

pub took_aliased : {ts t1 t2 rest : List Lexeme} {a n : Text} → Took IsName Anything ts a t1 → t1 ≡ Punct 58 ∷ t2 → Took IsName Anything t2 n rest → Took IsFieldName (NotAt 58) ts (Some a, n) rest
took_aliased {t1 = t1} {a = a} x e y = took_after (behind_rule (Name a) IsFieldName (NotAt 58)) (x.cut ∙ x.stands t1) (took_after (alias_rule a) e (took_under {F' = Anything} (λ _ _. tt) y))

pub stops_aliased : {ts t1 t2 rest : List Lexeme} {a : Text} → Took IsName Anything ts a t1 → t1 ≡ Punct 58 ∷ t2 → Stops IsName Anything t2 rest → Stops IsFieldName (NotAt 58) ts rest
stops_aliased {t1 = t1} {a = a} x e y = stops_after (behind_rule (Name a) IsFieldName (NotAt 58)) (x.cut ∙ x.stands t1) (stops_after (alias_rule a) e (stops_under {F' = Anything} (λ _ _. tt) y))

name_is : (ts r : List Lexeme) (n : Text) → IsName ts n r → IsFieldName ts (None, n) r
name_is ts r n e = subst (λ u. IsFieldName u (None, n) r) (sym e) plain

pub stops_field_name : {ts rest : List Lexeme} → Stops IsName Anything ts rest → Stops IsFieldName (NotAt 58) ts rest
stops_field_name a = record {
  front = a.front;
  cut = a.cut;
  more = a.more;
  whole = (None, a.whole);
  goes_on = λ s. name_is _ _ _ (a.goes_on s);
  never = λ s agree z r h _. let q = first_is_name (a.front ++ s) r z h in a.never s agree q.0 q.1 q.2 tt;
}

-- ---- what the rules begin with

pub set_first : (ts r : List Lexeme) (y : List Selection) → IsSet ts y r → IsAt 123 ts
set_first ts r y (a_set _ _) = (_, refl)

pub set_ends : (ts r : List Lexeme) (y : List Selection) → IsSet ts y r → Anything r → EndsDirectives ts
set_ends ts r y h _ = let q = set_first ts r y h in (at_apart 123 64 ts (omega arith) q, at_apart 123 40 ts (omega arith) q)

pub maybe_set_ends : (ts r : List Lexeme) (y : List Selection) → MaybeSet ts y r → EndsSelection r → EndsDirectives ts
maybe_set_ends ts r y no_set after = (after.2, after.1)
maybe_set_ends ts r y (some_set h) after = set_ends ts r y h tt

maybe_set_colon : (ts r : List Lexeme) (y : List Selection) → MaybeSet ts y r → EndsSelection r → NotAt 58 ts
maybe_set_colon ts r y no_set after = after.0
maybe_set_colon ts r y (some_set h) after = at_apart 123 58 ts (omega arith) (set_first ts r y h)

abbrev pub Tail : List Lexeme → List Directive × List Selection → List Lexeme → Type 0
Tail = Then (Directives false) MaybeSet

pub tail_paren : (ts r : List Lexeme) (y : List Directive × List Selection) → Tail ts y r → EndsSelection r → NotAt 40 ts
tail_paren ts r y h after = directives_paren false ts h.0 y.0 h.1 (maybe_set_ends h.0 r y.1 h.2 after)

abbrev pub Arguments : List Lexeme → List GPair × (List Directive × List Selection) → List Lexeme → Type 0
Arguments = Then (MaybeArguments false) Tail

pub arguments_colon : (ts r : List Lexeme) (y : List GPair × (List Directive × List Selection)) → Arguments ts y r → EndsSelection r → NotAt 58 ts
arguments_colon ts r y h after =
    arguments_first false 58 (omega arith) ts h.0 y.0 h.1 (directives_first false 58 (omega arith) h.0 h.2.0 y.1.0 h.2.1 (maybe_set_colon h.2.0 r y.1.1 h.2.2 after))

-- ---- a field

abbrev Parts : Type 0
Parts = (Option Text × Text) × (List GPair × (List Directive × List Selection))

abbrev FieldParts : List Lexeme → Parts → List Lexeme → Type 0
FieldParts = Then IsFieldName Arguments

abbrev field_of : Parts → Selection
field_of p = sel.Field p.0.0 p.0.1 p.1.0 p.1.1.0 p.1.1.1

field_was : (ts r : List Lexeme) (z : Selection) → NotSpread ts → IsSelection ts z r → EndsSelection r → (x : Parts) × FieldParts ts x r × (z ≡ field_of x)
field_was ts r z away (field a b c d) _ = ((_, (_, (_, _))), (_, a, (_, b, (_, c, d))), refl)
field_was ts r z away (spread _ _) _ = absurd (away _ refl)
field_was ts r z away (inline _ _) _ = absurd (away _ refl)
field_was ts r z away (inline_on _ _) _ = absurd (away _ refl)

pub field_rule : Same FieldParts IsSelection EndsSelection field_of NotSpread
field_rule = record { agrees = NotSpread-agree; is = λ ts r x h. field h.1 h.2.1 h.2.2.1 h.2.2.2; was = field_was }

pub no_tail : (s : List Lexeme) → Tail s ([], []) s
no_tail s = (s, no_more, no_set)

pub no_arguments_tail : (s : List Lexeme) → Arguments s ([], ([], [])) s
no_arguments_tail s = (s, no_arguments, no_tail s)

-- ---- SelectionSet?

no_set_only : (s r : List Lexeme) (y : List Selection) → NotAt 123 s → MaybeSet s y r → (y ≡ []) × (r ≡ s)
no_set_only s r y away no_set = (refl, refl)
no_set_only s r y away (some_set h) = let q = set_first s r y h in absurd (away q.0 q.1)

pub took_no_set : {ts : List Lexeme} → NotAt 123 ts → Took MaybeSet (NotAt 123) ts [] ts
took_no_set {ts = ts} away = took_none refl (λ s. no_set) (λ s r y agree h _. no_set_only s r y (NotAt-agree 123 ts s agree away) h)

set_was : (ts r : List Lexeme) (z : List Selection) → IsAt 123 ts → MaybeSet ts z r → NotAt 123 r → (x : List Selection) × IsSet ts x r × (z ≡ x)
set_was ts r z on no_set away = absurd (away on.0 on.1)
set_was ts r z on (some_set h) away = (z, h, refl)

pub some_set_rule : Same IsSet MaybeSet (NotAt 123) (λ z. z) (IsAt 123)
some_set_rule = record { agrees = IsAt-agree 123; is = λ _ _ _ h. some_set h; was = set_was }

-- ---- Selection* and the closing bracket

abbrev pub Closing : List Lexeme → List Selection → List Lexeme → Type 0
Closing = Closed IsSelections 125

selection_ends : (ts r : List Lexeme) (x : Selection) → IsSelection ts x r → (b : ℕ) → NotAt b ts
selection_ends ts r x (field a _ _ _) b = let q = first_is_name _ _ _ a in subst (λ u. NotAt b u) (sym q.2) (not_name b q.0 q.1)
selection_ends ts r x (spread _ _) b = not_spread b _
selection_ends ts r x (inline _ _) b = not_spread b _
selection_ends ts r x (inline_on _ _) b = not_spread b _

bracket_ends : (ts : List Lexeme) → IsAt 125 ts → EndsSelection ts
bracket_ends ts q = (at_apart 125 58 ts (omega arith) q, at_apart 125 40 ts (omega arith) q, at_apart 125 64 ts (omega arith) q, at_apart 125 123 ts (omega arith) q)

pub closing_ends : (ts r : List Lexeme) (y : List Selection) → Closing ts y r → Anything r → EndsSelection ts
closing_ends ts r y no_selections _ = bracket_ends _ (_, refl)
closing_ends ts r y (more_selections {x = x} a _) _ = (selection_ends _ _ x a 58, selection_ends _ _ x a 40, selection_ends _ _ x a 64, selection_ends _ _ x a 123)

selection_item : (ts r : List Lexeme) (ys : List Selection) → NotAt 125 ts → Closing ts ys r → Anything r →
    (x : Selection) × (mid : List Lexeme) × (xs : List Selection) × IsSelection ts x mid × EndsSelection mid × Closing mid xs r × (ys ≡ x ∷ xs)
selection_item ts r ys away no_selections _ = absurd (away _ refl)
selection_item ts r ys away (more_selections a b) _ = (_, _, _, a, closing_ends _ _ _ b tt, b, refl)

pub selections_list : Lists Closing Anything IsSelection EndsSelection (NotAt 125)
selections_list = record { next = λ ts mid rest x xs a b. more_selections a b; goes = NotAt-agree 125; item = selection_item }

selections_only : (s r : List Lexeme) (ys : List Selection) → Closing (Punct 125 ∷ s) ys r → Anything r → (ys ≡ []) × (r ≡ s)
selections_only s r ys no_selections _ = (refl, refl)
selections_only s r ys (more_selections {x = x} a _) _ = absurd (selection_ends _ _ x a 125 _ refl)

pub selections_end : {ts0 ts rest : List Lexeme} {found : List Selection} → ts ≡ Punct 125 ∷ rest → Front Closing Anything ts0 found ts → Took Closing Anything ts0 found rest
selections_end e a = listed a (took_one e (λ s. no_selections) selections_only)

-- ---- a set

abbrev pub Inner : List Lexeme → Selection × List Selection → List Lexeme → Type 0
Inner = Then IsSelection Closing

abbrev SetParts : List Lexeme → Unit {0} × (Selection × List Selection) → List Lexeme → Type 0
SetParts = Then (IsPunct 123) Inner

abbrev set_of : Unit {0} × (Selection × List Selection) → List Selection
set_of p = p.1.0 ∷ p.1.1

set_is : (ts r : List Lexeme) (x : Unit {0} × (Selection × List Selection)) → SetParts ts x r → IsSet ts (set_of x) r
set_is ts r x h = subst (λ u. IsSet u (set_of x) r) (sym h.1) (a_set h.2.1 h.2.2)

braces_was : (ts r : List Lexeme) (z : List Selection) → Anything ts → IsSet ts z r → Anything r → (x : Unit {0} × (Selection × List Selection)) × SetParts ts x r × (z ≡ set_of x)
braces_was ts r z _ (a_set a b) _ = ((tt, (_, _)), (_, refl, (_, a, b)), refl)

pub set_rule : Same SetParts IsSet Anything set_of Anything
set_rule = record { agrees = λ _ _ _ _. tt; is = set_is; was = braces_was }

abbrev pub some_field : Selection
some_field = sel.Field None (codes "a") [] [] []

made_selection : (s : List Lexeme) → IsSelection (some_name ∷ s) some_field s
made_selection s = field plain no_arguments no_more no_set

pub made_inner_at : (s : List Lexeme) → Inner ((some_name ∷ Punct 125 ∷ []) ++ s) (some_field, []) s
made_inner_at s = (_, made_selection (Punct 125 ∷ s), no_selections)

-- ---- Directives? SelectionSet

abbrev pub Body : List Lexeme → List Directive × List Selection → List Lexeme → Type 0
Body = Then (Directives false) IsSet

abbrev pub some_set_of : List Lexeme
some_set_of = Punct 123 ∷ some_name ∷ Punct 125 ∷ []

pub made_set : (s : List Lexeme) → IsSet (some_set_of ++ s) (some_field ∷ []) s
made_set s = a_set (made_selection (Punct 125 ∷ s)) no_selections

pub made_body : (s : List Lexeme) → Body (some_set_of ++ s) ([], some_field ∷ []) s
made_body s = (_, no_more, made_set s)

-- no body begins with a name
directive_first : (ts r : List Lexeme) (x : Directive) → IsDirective false ts x r → IsAt 64 ts
directive_first ts r x (a_directive _) = (_, refl)

pub no_body : (n : Text) (ts mid r : List Lexeme) (ds : List Directive) (x : List Selection) → Directives false (Name n ∷ ts) ds mid → IsSet mid x r → ⊥
no_body n ts mid r ds x no_more h = let q = set_first _ _ _ h in not_name 123 n ts q.0 q.1
no_body n ts mid r ds x (one_more a _) h = let q = directive_first _ _ _ a in not_name 64 n ts q.0 q.1

-- ---- after the three dots

abbrev pub AfterDots : List Lexeme → Selection → List Lexeme → Type 0
AfterDots = Behind Spread IsSelection

abbrev inline_of : List Directive × List Selection → Selection
inline_of p = sel.Inline None p.0 p.1

inline_was : (ts r : List Lexeme) (z : Selection) → NotName ts → AfterDots ts z r → EndsSelection r → (p : List Directive × List Selection) × Body ts p r × (z ≡ inline_of p)
inline_was ts r z away (field a _ _ _) _ = elim a [ ]
inline_was ts r z away (spread _ _) _ = absurd (away _ _ refl)
inline_was ts r z away (inline a b) _ = ((_, _), (_, a, b), refl)
inline_was ts r z away (inline_on _ _) _ = absurd (away _ _ refl)

pub inline_rule : Same Body AfterDots EndsSelection inline_of NotName
inline_rule = record { agrees = NotName-agree; is = λ ts r p h. inline h.1 h.2; was = inline_was }

abbrev AfterOn : List Lexeme → Selection → List Lexeme → Type 0
AfterOn = Behind (Name (codes "on")) AfterDots

abbrev OnParts : List Lexeme → Text × (List Directive × List Selection) → List Lexeme → Type 0
OnParts = Then IsName Body

abbrev on_of : Text × (List Directive × List Selection) → Selection
on_of p = sel.Inline (Some p.0) p.1.0 p.1.1

on_is : (ts r : List Lexeme) (p : Text × (List Directive × List Selection)) → OnParts ts p r → AfterOn ts (on_of p) r
on_is ts r p h = subst (λ u. AfterOn u (on_of p) r) (sym h.1) (inline_on h.2.1 h.2.2)

on_was : (ts r : List Lexeme) (z : Selection) → Anything ts → AfterOn ts z r → EndsSelection r → (p : Text × (List Directive × List Selection)) × OnParts ts p r × (z ≡ on_of p)
on_was ts r z _ (field a _ _ _) _ = elim a [ ]
on_was ts r z _ (spread ne _) _ = absurd (ne refl)
on_was ts r z _ (inline a b) _ = absurd (no_body _ _ _ _ _ _ a b)
on_was ts r z _ (inline_on a b) _ = ((_, (_, _)), (_, refl, (_, a, b)), refl)

pub on_rule : Same OnParts AfterOn EndsSelection on_of Anything
on_rule = record { agrees = λ _ _ _ _. tt; is = on_is; was = on_was }

spread_was : (n : Text) → n ≢ codes "on" → (ts r : List Lexeme) (z : Selection) → AfterDots (Name n ∷ ts) z r → EndsSelection r → (ds : List Directive) × Directives false ts ds r × (z ≡ sel.Spread n ds)
spread_was n ne ts r z (field a _ _ _) _ = elim a [ ]
spread_was n ne ts r z (spread _ h) _ = (_, h, refl)
spread_was n ne ts r z (inline a b) _ = absurd (no_body _ _ _ _ _ _ a b)
spread_was n ne ts r z (inline_on _ _) _ = absurd (ne refl)

pub spread_rule : (n : Text) → n ≢ codes "on" → Follows (Name n) (Directives false) AfterDots EndsSelection (sel.Spread n)
spread_rule n ne = record { is = λ _ _ _ h. spread ne h; was = spread_was n ne }

pub no_brace : (r : List Lexeme) → EndsSelection r → NotAt 123 r
no_brace r e = e.3

pub ends_directives : (r : List Lexeme) → EndsSelection r → EndsDirectives r
ends_directives r e = (e.2, e.1)

-- a name that was taken where this word wasn't is another
pub not_word : (w n : Text) (ts t1 t2 : List Lexeme) → (t1 ≡ ts) × NotWord w ts → t1 ≡ Name n ∷ t2 → n ≢ w
not_word w n ts t1 t2 away e same = away.1 t2 (sym away.0 ∙ e ∙ ap (λ u. Name u ∷ t2) same)
