-- What it means to read a rule of the grammar from the front of a list of lexemes, or to stop at a fault (GraphQL
-- October 2021, section 2.2).
use Rattle.std.specs.Prelude.{◌≡◌, ◌≢◌, codes, ℕ, Bool, true, false, List, [], ◌∷◌, ◌++◌, Option, Some, None}
use Rattle.request_model.specs.Strings.{Text}
use Rattle.request_model.specs.Grammar.{Lexeme, Punct, Name, bang}

-- the lists begin with the same lexeme, or both are empty
abbrev pub Agree : List Lexeme → List Lexeme → Type 0
Agree [] s = s ≡ []
Agree (t ∷ ts) s = (more : List Lexeme) × (s ≡ t ∷ more)

-- R ts x rest says that ts is x and then rest, and F rest that such a rest may follow.
-- x was read: it stands there whatever follows, and nothing else does.
pub record Took {A : Type 0} (R : List Lexeme → A → List Lexeme → Type 0) (F : List Lexeme → Type 0) (ts : List Lexeme)
    (x : A) (rest : List Lexeme) : Type 0 where
  pub front : List Lexeme
  pub cut : ts ≡ front ++ rest
  pub stands : (s : List Lexeme) → R (front ++ s) x s
  pub only : (s : List Lexeme) → Agree rest s → (y : A) (r : List Lexeme) → R (front ++ s) y r → F r → (y ≡ x) × (r ≡ s)

-- rest begins with the fault: what comes before it can go on, and with its first lexeme, or at the end, nothing stands
-- there
pub record Stops {A : Type 0} (R : List Lexeme → A → List Lexeme → Type 0) (F : List Lexeme → Type 0) (ts : List Lexeme)
    (rest : List Lexeme) : Type 0 where
  pub front : List Lexeme
  pub cut : ts ≡ front ++ rest
  pub more : List Lexeme
  pub whole : A
  pub goes_on : (s : List Lexeme) → R (front ++ (more ++ s)) whole s
  pub never : (s : List Lexeme) → Agree rest s → (y : A) (r : List Lexeme) → R (front ++ s) y r → F r → ⊥

-- ---- rules made of rules

abbrev pub IsName : List Lexeme → Text → List Lexeme → Type 0
IsName ts n rest = ts ≡ Name n ∷ rest

abbrev pub IsPunct : ℕ → List Lexeme → Unit {0} → List Lexeme → Type 0
IsPunct b ts _ rest = ts ≡ Punct b ∷ rest

abbrev pub IsWord : Text → List Lexeme → Unit {0} → List Lexeme → Type 0
IsWord w ts _ rest = ts ≡ Name w ∷ rest

-- one rule, and then another
abbrev pub Then : {A B : Type 0} → (List Lexeme → A → List Lexeme → Type 0) → (List Lexeme → B → List Lexeme → Type 0) →
    List Lexeme → A × B → List Lexeme → Type 0
Then R1 R2 ts x rest = (mid : List Lexeme) × R1 ts x.0 mid × R2 mid x.1 rest

-- the same, and then the closing bracket
abbrev pub Closed : {A : Type 0} → (List Lexeme → A → List Lexeme → Type 0) → ℕ → List Lexeme → A → List Lexeme → Type 0
Closed R b ts x rest = R ts x (Punct b ∷ rest)

-- the same behind a lexeme
abbrev pub Behind : {A : Type 0} → Lexeme → (List Lexeme → A → List Lexeme → Type 0) → List Lexeme → A → List Lexeme →
    Type 0
Behind t R ts x rest = R (t ∷ ts) x rest

-- !?
abbrev pub Strict : List Lexeme → Bool → List Lexeme → Type 0
Strict ts true rest = ts ≡ bang ∷ rest
Strict ts false rest = ts ≡ rest

-- FragName: a name other than on
abbrev pub IsFragmentName : List Lexeme → Text → List Lexeme → Type 0
IsFragmentName ts n rest = (ts ≡ Name n ∷ rest) × (n ≢ codes "on")
