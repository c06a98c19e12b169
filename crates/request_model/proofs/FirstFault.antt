-- An operation has one flat selection at most, or one first fault, and not both.
use Rattle.std.proofs.Common.{◌≡◌, inl, inr, List, [], ◌∷◌, Option, Some, Result, Ok, Err, ap, sym, ◌∙◌, subst}
use Rattle.std.specs.List.{AllByRecursion}
use Rattle.serde_json.specs.Data.{Members}
use Rattle.request_model.specs.declared.document.Document.{Document}
use Rattle.scalar_val.specs.declared.word.Word.{Word}
use Rattle.request_model.specs.declared.flat.Flat.{Flat}
use Rattle.request_model.specs.declared.flat.FlatFault.{FlatFault}
use Rattle.request_model.specs.Strings.{Text}
use Rattle.request_model.specs.Selection.{Operation, IsFirst, HasFault, fault_order, flat_of, served, Flattens, not_chosen, refused, flattened}

first_once : (H : FlatFault → Type 0) (ys : List FlatFault) (x z : FlatFault) → IsFirst H ys x → IsFirst H ys z → x ≡ z
first_once H [] x z a b = absurd a
first_once H (y ∷ ys) x z (inl a) (inl b) = a.1 ∙ sym b.1
first_once H (y ∷ ys) x z (inl a) (inr b) = absurd (b.0 a.0)
first_once H (y ∷ ys) x z (inr a) (inl b) = absurd (a.0 b.0)
first_once H (y ∷ ys) x z (inr a) (inr b) = first_once H ys x z a.1 b.1

none_first : (H : FlatFault → Type 0) (ys : List FlatFault) (x : FlatFault) → AllByRecursion (λ y. H y → ⊥) ys → IsFirst H ys x → ⊥
none_first H [] x all first = first
none_first H (y ∷ ys) x all (inl a) = all.0 a.0
none_first H (y ∷ ys) x all (inr a) = none_first H ys x all.1 a.1

one_choice : (r : Result Operation FlatFault) (o p : Operation) → r ≡ Ok o → r ≡ Ok p → o ≡ p
one_choice r o p a b = let q : Result.Ok o ≡ Ok p = sym a ∙ b in cc

no_choice : (r : Result Operation FlatFault) (o : Operation) (x : FlatFault) → r ≡ Ok o → r ≡ Err x → ⊥
no_choice r o x a b = let q : Result.Ok o ≡ Err x = sym a ∙ b in cc

one_fault : (r : Result Operation FlatFault) (x y : FlatFault) → r ≡ Err x → r ≡ Err y → x ≡ y
one_fault r x y a b = let q : Result.Err x ≡ Err y = sym a ∙ b in cc

one_word : (r : Option Word) (v w : Word) → r ≡ Some v → r ≡ Some w → v ≡ w
one_word r v w a b = let q : Some v ≡ Some w = sym a ∙ b in cc

module _ (d : Document) (values : Members) where
  same_first : (o p : Operation) (x y : FlatFault) → o ≡ p → IsFirst (HasFault d values o) fault_order x → IsFirst (HasFault d values p) fault_order y → x ≡ y
  same_first o p x y e a b = first_once (HasFault d values p) fault_order x y (subst (λ (q : Operation). IsFirst (HasFault d values q) fault_order x) e a) b

  not_both : (o p : Operation) (x : FlatFault) → o ≡ p → IsFirst (HasFault d values o) fault_order x → AllByRecursion (λ y. HasFault d values p y → ⊥) fault_order → ⊥
  not_both o p x e a all = none_first (HasFault d values p) fault_order x all (subst (λ (q : Operation). IsFirst (HasFault d values q) fault_order x) e a)

  same_flat : (o p : Operation) (v w : Word) → o ≡ p → v ≡ w → flat_of d values o v ≡ flat_of d values p w
  same_flat o p v w e f = ap (λ q. flat_of d values q v) e ∙ ap (flat_of d values p) f

pub flattens_once : (d : Document) (wanted : Option Text) (values : Members) (a b : Result Flat FlatFault) → Flattens d wanted values a → Flattens d wanted values b → a ≡ b
flattens_once d wanted values a b (not_chosen p) (not_chosen q) = ap Err (one_fault _ _ _ p q)
flattens_once d wanted values a b (not_chosen p) (refused q _) = absurd (no_choice _ _ _ q p)
flattens_once d wanted values a b (not_chosen p) (flattened q _ _) = absurd (no_choice _ _ _ q p)
flattens_once d wanted values a b (refused p _) (not_chosen q) = absurd (no_choice _ _ _ p q)
flattens_once d wanted values a b (refused p f) (refused q g) = ap Err (same_first d values _ _ _ _ (one_choice _ _ _ p q) f g)
flattens_once d wanted values a b (refused p f) (flattened q g _) = absurd (not_both d values _ _ _ (one_choice _ _ _ p q) f g)
flattens_once d wanted values a b (flattened p _ _) (not_chosen q) = absurd (no_choice _ _ _ p q)
flattens_once d wanted values a b (flattened p f _) (refused q g) = absurd (not_both d values _ _ _ (one_choice _ _ _ q p) g f)
flattens_once d wanted values a b (flattened p _ v) (flattened q _ w) =
    let same = one_choice _ _ _ p q in
    ap Ok (same_flat d values _ _ _ _ same (one_word _ _ _ (ap (λ (o : Operation). served o.word) (sym same) ∙ v) w))
