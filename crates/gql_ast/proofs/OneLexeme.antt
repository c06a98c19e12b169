-- What reading one lexeme gives, or none.
use Rattle.std.proofs.Common.{◌≡◌, ◌≢◌, ℕ, List, [], ◌∷◌, ◌++◌, refl, ap, sym, ◌∙◌, subst}
use Rattle.std.specs.Prelude.{codes}
use Rattle.request_model.specs.Strings.{Text}
use Rattle.request_model.specs.Grammar.{Lexeme, Punct, Spread, Name, Int, Quoted}
use Rattle.gql_ast.specs.Fronts.{IsAt, NotAt, NotSpread, NotWord, NotName, NotInt, NotQuoted}
use Rattle.gql_ast.specs.Reading.{Agree, Took, Stops, IsName, IsPunct, IsWord}
use Rattle.gql_ast.specs.Follow.{Anything}

-- ---- the front of lists that agree

-- no such lexeme comes first
abbrev NotLexeme : Lexeme → List Lexeme → Type 0
NotLexeme t ts = (more : List Lexeme) → ts ≡ t ∷ more → ⊥

NotLexeme-agree : (u : Lexeme) (ts s : List Lexeme) → Agree ts s → NotLexeme u ts → NotLexeme u s
NotLexeme-agree u [] s h n = λ more e. let bad : [] ≡ u ∷ more = sym h ∙ e in n more bad
NotLexeme-agree u (t ∷ ts) s h n = λ more e. let same : t ≡ u = cc in n ts (ap (λ x. x ∷ ts) same)

pub NotAt-agree : (b : ℕ) (ts s : List Lexeme) → Agree ts s → NotAt b ts → NotAt b s
NotAt-agree b = NotLexeme-agree (Punct b)

pub NotSpread-agree : (ts s : List Lexeme) → Agree ts s → NotSpread ts → NotSpread s
NotSpread-agree = NotLexeme-agree Spread

pub NotWord-agree : (w : Text) (ts s : List Lexeme) → Agree ts s → NotWord w ts → NotWord w s
NotWord-agree w = NotLexeme-agree (Name w)

pub NotName-agree : (ts s : List Lexeme) → Agree ts s → NotName ts → NotName s
NotName-agree ts s h n w = NotLexeme-agree (Name w) ts s h (n w)

pub NotInt-agree : (ts s : List Lexeme) → Agree ts s → NotInt ts → NotInt s
NotInt-agree ts s h n w = NotLexeme-agree (Int w) ts s h (n w)

pub NotQuoted-agree : (ts s : List Lexeme) → Agree ts s → NotQuoted ts → NotQuoted s
NotQuoted-agree ts s h n w = NotLexeme-agree (Quoted w) ts s h (n w)

pub IsAt-agree : (b : ℕ) (ts s : List Lexeme) → Agree ts s → IsAt b ts → IsAt b s
IsAt-agree b [] s h (more, e) = let bad : [] ≡ Punct b ∷ more = e in absurd cc
IsAt-agree b (t ∷ ts) s h (more, e) = let same : t ≡ Punct b = cc in (h.0, h.1 ∙ ap (λ x. x ∷ h.0) same)

-- one punctuator isn't another
pub at_apart : (a b : ℕ) (ts : List Lexeme) → a ≢ b → IsAt a ts → NotAt b ts
at_apart a b ts ne h more e = ne (let q : Punct a ∷ h.0 ≡ Punct b ∷ more = sym h.1 ∙ e in cc)

pub not_name : (b : ℕ) (n : Text) (ts : List Lexeme) → NotAt b (Name n ∷ ts)
not_name b n ts more e = cc

pub not_spread : (b : ℕ) (ts : List Lexeme) → NotAt b (Spread ∷ ts)
not_spread b ts more e = cc

-- ---- rules of one lexeme, and of none

module _ {A : Type 0} {R : List Lexeme → A → List Lexeme → Type 0} {F : List Lexeme → Type 0} where
  pub took_one : {t : Lexeme} {ts rest : List Lexeme} {x : A} → ts ≡ t ∷ rest → ((s : List Lexeme) → R (t ∷ s) x s) → ((s r : List Lexeme) (y : A) → R (t ∷ s) y r → F r → (y ≡ x) × (r ≡ s)) → Took R F ts x rest
  took_one {t = t} e stands only = record { front = t ∷ []; cut = e; stands = stands; only = λ s _ y r h after. only s r y h after }

  -- nothing of the rule stands here
  pub stops_here : {ts now : List Lexeme} → now ≡ ts → (more : List Lexeme) (x : A) → ((s : List Lexeme) → R (more ++ s) x s) → ((s r : List Lexeme) (y : A) → Agree ts s → R s y r → ⊥) → Stops R F ts now
  stops_here {ts = ts} e more x made never =
      subst (λ u. Stops R F ts u) (sym e) (record { front = []; cut = refl; more = more; whole = x; goes_on = made; never = λ s agree y r h _. never s r y agree h })

  -- the rule is absent, as it may be
  pub took_none : {ts now : List Lexeme} {x : A} → now ≡ ts → ((s : List Lexeme) → R s x s) → ((s r : List Lexeme) (y : A) → Agree ts s → R s y r → F r → (y ≡ x) × (r ≡ s)) → Took R F ts x now
  took_none {ts = ts} {x = x} e made only =
      subst (λ u. Took R F ts x u) (sym e) (record { front = []; cut = refl; stands = made; only = λ s agree y r h after. only s r y agree h after })

pub took_punct : (b : ℕ) (ts rest : List Lexeme) → ts ≡ Punct b ∷ rest → Took (IsPunct b) Anything ts tt rest
took_punct b ts rest e = took_one e (λ s. refl) (λ s r y h _. (refl, let same : r ≡ s = cc in same))

pub stops_punct : (b : ℕ) (ts now : List Lexeme) → (now ≡ ts) × NotAt b ts → Stops (IsPunct b) Anything ts now
stops_punct b ts now e = stops_here e.0 (Punct b ∷ []) tt (λ s. refl) (λ s r y agree h. NotAt-agree b ts s agree e.1 r h)

pub took_word : (w : Text) (ts rest : List Lexeme) → ts ≡ Name w ∷ rest → Took (IsWord w) Anything ts tt rest
took_word w ts rest e = took_one e (λ s. refl) (λ s r y h _. (refl, let same : r ≡ s = cc in same))

pub stops_word : (w : Text) (ts now : List Lexeme) → (now ≡ ts) × NotWord w ts → Stops (IsWord w) Anything ts now
stops_word w ts now e = stops_here e.0 (Name w ∷ []) tt (λ s. refl) (λ s r y agree h. NotWord-agree w ts s agree e.1 r h)

pub took_name : (n : Text) (ts rest : List Lexeme) → ts ≡ Name n ∷ rest → Took IsName Anything ts n rest
took_name n ts rest e = took_one e (λ s. refl) (λ s r y h _. (let same : y ≡ n = cc in same, let same : r ≡ s = cc in same))

pub stops_name : (ts now : List Lexeme) → (now ≡ ts) × NotName ts → Stops IsName Anything ts now
stops_name ts now e = stops_here e.0 (Name (codes "a") ∷ []) (codes "a") (λ s. refl) (λ s r y agree h. NotName-agree ts s agree e.1 y r h)
