-- How reading a part and then another makes reading of the whole.
use Rattle.std.proofs.Common.{◌≡◌, ℕ, List, [], ◌∷◌, ◌++◌, refl, ap, sym, ◌∙◌, subst, append_assoc}
use Rattle.std.specs.Prelude.{Result, Err, IsErrAnd}
use Rattle.std.proofs.lemmas.Result.{err_from_is_err_and}
use Rattle.request_model.specs.Grammar.{Lexeme, Punct}
use Rattle.gql_ast.specs.declared.cursor.Stop.{Stop}
use Rattle.gql_ast.specs.declared.cursor.Stop.TheVariants.{Syntax}
use Rattle.gql_ast.specs.Reading.{Agree, Took, Stops, Then}

-- what agrees with the rest agrees, behind what comes before it, with the whole
Agree-front : (front rest s : List Lexeme) → Agree rest s → Agree (front ++ rest) (front ++ s)
Agree-front [] rest s h = h
Agree-front (t ∷ front) rest s h = (front ++ s, refl)

pub Agree-cut : (ts front rest s : List Lexeme) → ts ≡ front ++ rest → Agree rest s → Agree ts (front ++ s)
Agree-cut ts front rest s e h = subst (λ u. Agree u (front ++ s)) (sym e) (Agree-front front rest s h)

-- ---- one rule, and then another; `follows` says what the second one begins with

module _ {A B : Type 0} {R1 : List Lexeme → A → List Lexeme → Type 0} {F1 : List Lexeme → Type 0} {R2 : List Lexeme → B → List Lexeme → Type 0} {F2 : List Lexeme → Type 0} where
  pub both : {ts mid rest : List Lexeme} {x : A} {y : B} → ((ts r : List Lexeme) (y : B) → R2 ts y r → F2 r → F1 ts) → Took R1 F1 ts x mid → Took R2 F2 mid y rest → Took (Then R1 R2) F2 ts (x, y) rest
  both {mid = mid} {rest = rest} {x = x} {y = y} follows a b = record {
    front = a.front ++ b.front;
    cut = a.cut ∙ ap (λ u. a.front ++ u) b.cut ∙ sym (append_assoc a.front b.front rest);
    stands = λ s. (b.front ++ s, rw append_assoc (a.stands (b.front ++ s)), b.stands s);
    only = λ s agree z r h after.
        let h1 = subst (λ u. R1 u z.0 h.0) (append_assoc a.front b.front s) h.1 in
        let first = a.only (b.front ++ s) (Agree-cut mid b.front rest s b.cut agree) z.0 h.0 h1 (follows h.0 r z.1 h.2 after) in
        let second = b.only s agree z.1 r (subst (λ u. R2 u z.1 r) first.1 h.2) after in
        (ap (λ u. (u, z.1)) first.0 ∙ ap (λ u. (x, u)) second.0, second.1);
  }

  pub second : {ts mid rest : List Lexeme} {x : A} → ((ts r : List Lexeme) (y : B) → R2 ts y r → F2 r → F1 ts) → Took R1 F1 ts x mid → Stops R2 F2 mid rest → Stops (Then R1 R2) F2 ts rest
  second {mid = mid} {rest = rest} {x = x} follows a b = record {
    front = a.front ++ b.front;
    cut = a.cut ∙ ap (λ u. a.front ++ u) b.cut ∙ sym (append_assoc a.front b.front rest);
    more = b.more;
    whole = (x, b.whole);
    goes_on = λ s. (b.front ++ (b.more ++ s), rw append_assoc (a.stands (b.front ++ (b.more ++ s))), b.goes_on s);
    never = λ s agree z r h after.
        let h1 = subst (λ u. R1 u z.0 h.0) (append_assoc a.front b.front s) h.1 in
        let first = a.only (b.front ++ s) (Agree-cut mid b.front rest s b.cut agree) z.0 h.0 h1 (follows h.0 r z.1 h.2 after) in
        b.never s agree z.1 r (subst (λ u. R2 u z.1 r) first.1 h.2) after;
  }

  -- the second rule can be made up
  pub first : {ts rest : List Lexeme} → ((ts r : List Lexeme) (y : B) → R2 ts y r → F2 r → F1 ts) → (more : List Lexeme) (y : B) → ((s : List Lexeme) → R2 (more ++ s) y s) → Stops R1 F1 ts rest → Stops (Then R1 R2) F2 ts rest
  first follows more y made a = record {
    front = a.front;
    cut = a.cut;
    more = a.more ++ more;
    whole = (a.whole, y);
    goes_on = λ s. (more ++ s, subst (λ u. R1 (a.front ++ u) a.whole (more ++ s)) (sym (append_assoc a.more more s)) (a.goes_on (more ++ s)), made s);
    never = λ s agree z r h after. a.never s agree z.0 h.0 h.1 (follows h.0 r z.1 h.2 after);
  }

-- ---- a rule by another name

-- at a front with P, the rule R is R1, whose value f changes
pub record Same {A C : Type 0} (R1 : List Lexeme → A → List Lexeme → Type 0) (R : List Lexeme → C → List Lexeme → Type 0) (F : List Lexeme → Type 0) (f : A → C) (P : List Lexeme → Type 0) : Type 0 where
  pub agrees : (ts s : List Lexeme) → Agree ts s → P ts → P s
  pub is : (ts r : List Lexeme) (x : A) → R1 ts x r → R ts (f x) r
  pub was : (ts r : List Lexeme) (z : C) → P ts → R ts z r → F r → (x : A) × R1 ts x r × (z ≡ f x)

module _ {A C : Type 0} {R1 : List Lexeme → A → List Lexeme → Type 0} {R : List Lexeme → C → List Lexeme → Type 0} {F : List Lexeme → Type 0} {f : A → C} {P : List Lexeme → Type 0} (same : Same R1 R F f P) where
  pub took_as : {ts rest : List Lexeme} {x : A} → P ts → Took R1 F ts x rest → Took R F ts (f x) rest
  took_as {ts = ts} {rest = rest} p a = record {
    front = a.front;
    cut = a.cut;
    stands = λ s. same.is _ _ _ (a.stands s);
    only = λ s agree z r h after.
        let q = same.was (a.front ++ s) r z (same.agrees ts (a.front ++ s) (Agree-cut ts a.front rest s a.cut agree) p) h after in
        let e = a.only s agree q.0 r q.1 after in
        (q.2 ∙ ap f e.0, e.1);
  }

  pub stops_as : {ts rest : List Lexeme} → P ts → Stops R1 F ts rest → Stops R F ts rest
  stops_as {ts = ts} {rest = rest} p a = record {
    front = a.front;
    cut = a.cut;
    more = a.more;
    whole = f a.whole;
    goes_on = λ s. same.is _ _ _ (a.goes_on s);
    never = λ s agree z r h after.
        let q = same.was (a.front ++ s) r z (same.agrees ts (a.front ++ s) (Agree-cut ts a.front rest s a.cut agree) p) h after in
        a.never s agree q.0 r q.1 after;
  }

-- ---- a lexeme was taken first

-- behind t, the rule R is R1, whose value f changes
pub record Follows {A C : Type 0} (t : Lexeme) (R1 : List Lexeme → A → List Lexeme → Type 0) (R : List Lexeme → C → List Lexeme → Type 0) (F : List Lexeme → Type 0) (f : A → C) : Type 0 where
  pub is : (ts r : List Lexeme) (x : A) → R1 ts x r → R (t ∷ ts) (f x) r
  pub was : (ts r : List Lexeme) (z : C) → R (t ∷ ts) z r → F r → (x : A) × R1 ts x r × (z ≡ f x)

module _ {A C : Type 0} {t : Lexeme} {R1 : List Lexeme → A → List Lexeme → Type 0} {R : List Lexeme → C → List Lexeme → Type 0} {F : List Lexeme → Type 0} {f : A → C} (same : Follows t R1 R F f) where
  pub took_after : {ts0 ts rest : List Lexeme} {x : A} → ts0 ≡ t ∷ ts → Took R1 F ts x rest → Took R F ts0 (f x) rest
  took_after e a = record {
    front = t ∷ a.front;
    cut = e ∙ ap (λ u. t ∷ u) a.cut;
    stands = λ s. same.is _ _ _ (a.stands s);
    only = λ s agree z r h after.
        let q = same.was (a.front ++ s) r z h after in
        let p = a.only s agree q.0 r q.1 after in
        (q.2 ∙ ap f p.0, p.1);
  }

  pub stops_after : {ts0 ts rest : List Lexeme} → ts0 ≡ t ∷ ts → Stops R1 F ts rest → Stops R F ts0 rest
  stops_after e a = record {
    front = t ∷ a.front;
    cut = e ∙ ap (λ u. t ∷ u) a.cut;
    more = a.more;
    whole = f a.whole;
    goes_on = λ s. same.is _ _ _ (a.goes_on s);
    never = λ s agree z r h after.
        let q = same.was (a.front ++ s) r z h after in
        a.never s agree q.0 r q.1 after;
  }

-- ---- small changes

-- fewer may follow
module _ {A : Type 0} {R : List Lexeme → A → List Lexeme → Type 0} {F' F : List Lexeme → Type 0} (less : (r : List Lexeme) → F r → F' r) where
  pub took_under : {ts rest : List Lexeme} {x : A} → Took R F' ts x rest → Took R F ts x rest
  took_under a = record { front = a.front; cut = a.cut; stands = a.stands; only = λ s agree y r h after. a.only s agree y r h (less r after) }

  pub stops_under : {ts rest : List Lexeme} → Stops R F' ts rest → Stops R F ts rest
  stops_under a = record { front = a.front; cut = a.cut; more = a.more; whole = a.whole; goes_on = a.goes_on; never = λ s agree y r h after. a.never s agree y r h (less r after) }

module _ {A : Type 0} {R : List Lexeme → A → List Lexeme → Type 0} {F : List Lexeme → Type 0} where
  pub took_from : {a b rest : List Lexeme} {x : A} → a ≡ b → Took R F a x rest → Took R F b x rest
  took_from {rest = rest} {x = x} e t = subst (λ u. Took R F u x rest) e t

  pub stops_from : {a b rest : List Lexeme} → a ≡ b → Stops R F a rest → Stops R F b rest
  stops_from {rest = rest} e t = subst (λ u. Stops R F u rest) e t

  pub took_to : {ts a b : List Lexeme} {x : A} → a ≡ b → Took R F ts x a → Took R F ts x b
  took_to {ts = ts} {x = x} e t = subst (λ u. Took R F ts x u) e t

  pub stops_to : {ts a b : List Lexeme} → a ≡ b → Stops R F ts a → Stops R F ts b
  stops_to {ts = ts} e t = subst (λ u. Stops R F ts u) e t

-- the error that a `?` passed on
pub passed_on : {A B : Type 0} (r : Result B Stop) (e : Stop) → IsErrAnd r (λ y. y ≡ e) → r ≡ Err Syntax → ◌≡◌ {A = Result A Stop} (Err e) (Err Syntax)
passed_on r e h s =
    let p = err_from_is_err_and r h in
    let q : p.0 ≡ Syntax = cc in
    let k : e ≡ Syntax = sym p.2 ∙ q in
    ap (λ x. Err x) k
