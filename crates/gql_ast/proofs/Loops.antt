-- A list of items, read by a loop. Whole is the rule of the list with what ends it.
use Rattle.std.proofs.Common.{◌≡◌, List, [], ◌∷◌, ◌++◌, refl, ap, sym, ◌∙◌, subst, append_assoc, append-nil}
use Rattle.request_model.specs.Grammar.{Lexeme}
use Rattle.gql_ast.specs.Reading.{Agree, Took, Stops}
use Rattle.gql_ast.proofs.Steps.{Agree-cut}

-- found stands from ts0 up to ts, and whatever stands from ts0 on begins with it
pub record Front {A : Type 0} (Whole : List Lexeme → List A → List Lexeme → Type 0) (F : List Lexeme → Type 0) (ts0 : List Lexeme) (found : List A) (ts : List Lexeme) : Type 0 where
  pub front : List Lexeme
  pub cut : ts0 ≡ front ++ ts
  pub stands : (s rest : List Lexeme) (xs : List A) → Whole s xs rest → Whole (front ++ s) (found ++ xs) rest
  pub only : (s : List Lexeme) → Agree ts s → (ys : List A) (r : List Lexeme) → Whole (front ++ s) ys r → F r →
      (xs : List A) × (ys ≡ found ++ xs) × Whole s xs r

module _ {A : Type 0} {Whole : List Lexeme → List A → List Lexeme → Type 0} {F : List Lexeme → Type 0} where
  pub at_start : {ts : List Lexeme} → Front Whole F ts [] ts
  at_start = record { front = []; cut = refl; stands = λ s rest xs h. h; only = λ s agree ys r h after. (ys, refl, h) }

  -- the list ends here
  pub listed : {ts0 ts rest : List Lexeme} {found : List A} → Front Whole F ts0 found ts → Took Whole F ts [] rest → Took Whole F ts0 found rest
  listed {ts = ts} {rest = rest} {found = found} a t = record {
    front = a.front ++ t.front;
    cut = a.cut ∙ ap (λ u. a.front ++ u) t.cut ∙ sym (append_assoc a.front t.front rest);
    stands = λ s. rw append_assoc (subst (λ u. Whole (a.front ++ (t.front ++ s)) u s) (append-nil found) (a.stands (t.front ++ s) s [] (t.stands s)));
    only = λ s agree ys r h after.
        let p = a.only (t.front ++ s) (Agree-cut ts t.front rest s t.cut agree) ys r (subst (λ u. Whole u ys r) (append_assoc a.front t.front s) h) after in
        let q = t.only s agree p.0 r p.2 after in
        (p.1 ∙ ap (λ u. found ++ u) q.0 ∙ append-nil found, q.1);
  }

-- Goes is what the loop tests: where it holds an item comes next
pub record Lists {A : Type 0} (Whole : List Lexeme → List A → List Lexeme → Type 0) (F : List Lexeme → Type 0) (R : List Lexeme → A → List Lexeme → Type 0) (F1 : List Lexeme → Type 0) (Goes : List Lexeme → Type 0) : Type 0 where
  pub next : (ts mid rest : List Lexeme) (x : A) (xs : List A) → R ts x mid → Whole mid xs rest → Whole ts (x ∷ xs) rest
  pub goes : (ts s : List Lexeme) → Agree ts s → Goes ts → Goes s
  pub item : (ts r : List Lexeme) (ys : List A) → Goes ts → Whole ts ys r → F r → (x : A) × (mid : List Lexeme) × (xs : List A) × R ts x mid × F1 mid × Whole mid xs r × (ys ≡ x ∷ xs)

module _ {A : Type 0} {Whole : List Lexeme → List A → List Lexeme → Type 0} {F : List Lexeme → Type 0} {R : List Lexeme → A → List Lexeme → Type 0} {F1 : List Lexeme → Type 0} {Goes : List Lexeme → Type 0} (L : Lists Whole F R F1 Goes) where
  pub longer : {ts0 ts rest : List Lexeme} {found : List A} {x : A} → Goes ts → Front Whole F ts0 found ts → Took R F1 ts x rest → Front Whole F ts0 (found ++ x ∷ []) rest
  longer {ts = ts} {rest = rest} {found = found} {x = x} on a t = record {
    front = a.front ++ t.front;
    cut = a.cut ∙ ap (λ u. a.front ++ u) t.cut ∙ sym (append_assoc a.front t.front rest);
    stands = λ s r xs h. rw (append_assoc, append_assoc) (a.stands (t.front ++ s) r (x ∷ xs) (L.next _ _ _ _ _ (t.stands s) h));
    only = λ s agree ys r h after.
        let along = Agree-cut ts t.front rest s t.cut agree in
        let p = a.only (t.front ++ s) along ys r (subst (λ u. Whole u ys r) (append_assoc a.front t.front s) h) after in
        let q = L.item (t.front ++ s) r p.0 (L.goes ts (t.front ++ s) along on) p.2 after in
        let e = t.only s agree q.0 q.1 q.3 q.4 in
        (q.2, p.1 ∙ ap (λ u. found ++ u) (q.6 ∙ ap (λ v. v ∷ q.2) e.0) ∙ sym (append_assoc found (x ∷ []) q.2), subst (λ u. Whole u q.2 r) e.1 q.5);
  }

  -- `more` ends a list
  pub stopped : {ts0 ts rest : List Lexeme} {found : List A} → (more : List Lexeme) → ((s : List Lexeme) → Whole (more ++ s) [] s) → Goes ts → Front Whole F ts0 found ts → Stops R F1 ts rest → Stops Whole F ts0 rest
  stopped {ts = ts} {rest = rest} {found = found} more end on a t = record {
    front = a.front ++ t.front;
    cut = a.cut ∙ ap (λ u. a.front ++ u) t.cut ∙ sym (append_assoc a.front t.front rest);
    more = t.more ++ more;
    whole = found ++ t.whole ∷ [];
    goes_on = λ s. rw (append_assoc, append_assoc) (a.stands (t.front ++ (t.more ++ (more ++ s))) s (t.whole ∷ []) (L.next _ _ _ _ _ (t.goes_on (more ++ s)) (end s)));
    never = λ s agree ys r h after.
        let along = Agree-cut ts t.front rest s t.cut agree in
        let p = a.only (t.front ++ s) along ys r (subst (λ u. Whole u ys r) (append_assoc a.front t.front s) h) after in
        let q = L.item (t.front ++ s) r p.0 (L.goes ts (t.front ++ s) along on) p.2 after in
        t.never s agree q.0 q.1 q.3 q.4;
  }
