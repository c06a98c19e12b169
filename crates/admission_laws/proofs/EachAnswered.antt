-- No text has neither a document nor a first fault, no document neither a flat selection nor a first fault, and so no
-- request is without an answer.
use Rattle.std.proofs.Common.{◌≡◌, ◌⊎◌, inl, inr, ℕ, ◌≤◌, ◌<◌, List, [], ◌∷◌, ◌++◌, length, Option, Some, None, Result, Ok, Err, refl, ap, sym, subst, ◌∙◌, append_assoc, append-nil}
use Rattle.std.specs.Prelude.{codes}
use Rattle.std.proofs.lemmas.Bool.{cases_lt}
use Rattle.std.specs.List.{AllByRecursion}
use Rattle.serde_json.specs.Data.{Members}
use Rattle.role_model.specs.declared.metadata.Metadata.{Metadata}
use Rattle.role_model.specs.declared.session.Session.{Session}
use Rattle.request_model.specs.declared.token.Token.{Token}
use Rattle.request_model.specs.declared.document.Document.{Document}
use Rattle.request_model.specs.declared.document.OpWord.TheVariants as word
use Rattle.request_model.specs.declared.document.Definition.TheVariants as d
use Rattle.request_model.specs.declared.document.Selection.TheVariants as s
use Rattle.scalar_val.specs.declared.word.Word.{Word}
use Rattle.request_model.specs.declared.flat.Flat.{Flat}
use Rattle.request_model.specs.declared.flat.FlatFault.{FlatFault}
use Rattle.request_model.specs.declared.flat.FlatFault.TheVariants as fault
use Rattle.request_model.specs.Strings.{Text}
use Rattle.request_model.specs.Lexemes.{lexemes}
use Rattle.request_model.specs.Grammar.{Name, brace, end_brace, no_more, no_arguments, plain, field, no_set, no_selections, a_set, shorthand, a_document}
use Rattle.request_model.specs.Place.{lexemes_of, length_limit, Begins, Derives, Reads, FaultAt, too_long, at_lexeme, at_bad, at_end}
use Rattle.request_model.specs.Selection.{Operation, operations, or_no_operation, chosen, IsFirst, served, fault_order, HasFault, Flattens, not_chosen, refused, flattened}
use Rattle.query_model.specs.declared.fault.FaultKind.{FaultKind}
use Rattle.query_model.specs.declared.fault.QueryFault.{QueryFault}
use Rattle.query_model.specs.Admission.{Admitted, kind_of_fault, Admits, unread, unselected, selected}
use Rattle.query_model.specs.AdmissionLaws.{IsAnswered}

-- ---- texts

-- no lexemes begin { a }
nothing_begins : Begins []
nothing_begins = (
  tt,
  (
    brace ∷ Name (codes "a") ∷ end_brace ∷ [],
    record { definitions = d.Operation word.Query None [] [] (s.Field None (codes "a") [] [] [] ∷ []) ∷ [] },
    a_document (shorthand (a_set (field plain no_arguments no_more no_set) no_selections)) no_more,
  ),
)

module _ (text : Text) (no_fault : (at : ℕ) → FaultAt text at → ⊥) (short : length text ≤ length_limit) where
  -- where there is no fault, the lexemes begin a document
  go_on : (before after : List Token) → (lexemes text).0 ≡ before ++ after →
      ((Begins (lexemes_of text before) → ⊥) → ⊥) → (Begins (lexemes_of text (lexemes text).0) → ⊥) → ⊥
  go_on before [] cut begin never =
      begin (λ b. never (subst (λ ts. Begins (lexemes_of text ts)) (sym (cut ∙ append-nil before)) b))
  go_on before (t ∷ after) cut begin never =
      go_on (before ++ t ∷ []) after (cut ∙ sym (append_assoc before (t ∷ []) after))
      (λ more. begin (λ b. no_fault t.start (at_lexeme short before t after cut b more))) never

  all_begin : (Begins (lexemes_of text (lexemes text).0) → ⊥) → ⊥
  all_begin = go_on [] (lexemes text).0 refl (λ never. never nothing_begins)

  no_document : ((d : Document) → Reads text d → ⊥) → ⊥
  no_document none = go (lexemes text).1 refl
    where
      go : (bad : Option ℕ) → (lexemes text).1 ≡ bad → ⊥
      go (Some at) e = all_begin (λ b. no_fault at (at_bad short at e b))
      go None e =
          let none_derives : (d : Document) → Derives (lexemes_of text (lexemes text).0) d → ⊥ =
          λ d h. none d (record { fits = short; good = e; derives = h }) in
          all_begin (λ b. no_fault (length text) (at_end short e b none_derives))

pub is_told : (text : Text) → ((d : Document) → Reads text d → ⊥) → ((at : ℕ) → FaultAt text at → ⊥) → ⊥
is_told text none no_fault = go (cases_lt length_limit (length text))
  where
    go : (length_limit < length text) ⊎ (length text ≤ length_limit) → ⊥
    go (inr short) = no_document text no_fault short none
    go (inl long) = no_fault length_limit (too_long long)

-- ---- selections

module _ (d : Document) (wanted : Option Text) (values : Members) where
  pub is_flattened : ((r : Result Flat FlatFault) → Flattens d wanted values r → ⊥) → ⊥
  is_flattened none = go (chosen wanted (operations d)) refl
    where
      with_word : (o : Operation) → chosen wanted (operations d) ≡ Ok o → (w : Option Word) → served o.word ≡ w → ⊥
      with_word o e w is =
          let n1 : HasFault d values o fault.NotServed → ⊥ = λ h. none _ (refused e (inl (h, refl))) in
          let n2 : HasFault d values o fault.UnknownFragment → ⊥ = λ h. none _ (refused e (inr (n1, inl (h, refl)))) in
          let n3 : HasFault d values o fault.FragmentCycle → ⊥ =
          λ h. none _ (refused e (inr (n1, inr (n2, inl (h, refl))))) in
          let n4 : HasFault d values o fault.NoDirective → ⊥ =
          λ h. none _ (refused e (inr (n1, inr (n2, inr (n3, inl (h, refl)))))) in
          let n5 : HasFault d values o fault.NotBoolean → ⊥ =
          λ h. none _ (refused e (inr (n1, inr (n2, inr (n3, inr (n4, inl (h, refl))))))) in
          let n6 : HasFault d values o fault.TooLarge → ⊥ =
          λ h. none _ (refused e (inr (n1, inr (n2, inr (n3, inr (n4, inr (n5, inl (h, refl)))))))) in
          let n7 : HasFault d values o fault.Conflict → ⊥ =
          λ h. none _ (refused e (inr (n1, inr (n2, inr (n3, inr (n4, inr (n5, inr (n6, inl (h, refl))))))))) in
          by_word w is n1 (n1, (n2, (n3, (n4, (n5, (n6, (n7, tt)))))))
        where
          by_word : (w : Option Word) → served o.word ≡ w → (HasFault d values o fault.NotServed → ⊥) →
              AllByRecursion (λ x. HasFault d values o x → ⊥) fault_order → ⊥
          by_word (Some w) is n1 all = none _ (flattened e all is)
          by_word None is n1 all = n1 is

      go : (r : Result Operation FlatFault) → chosen wanted (operations d) ≡ r → ⊥
      go (Ok o) e = with_word o e (served o.word) refl
      go (Err x) e = none _ (not_chosen e)

-- ---- want of memory is no fault of a selection

abbrev HasKind : FlatFault → Type 0
HasKind x = (k : FaultKind) × (kind_of_fault x ≡ Some k)

no_operation_kind : (r : Option Operation) (x : FlatFault) → or_no_operation r ≡ Err x → HasKind x
no_operation_kind (Some o) x e = absurd (let h : ◌≡◌ {A = Result Operation FlatFault} (Ok o) (Err x) = e in cc)
no_operation_kind None x e =
    let h : ◌≡◌ {A = Result Operation FlatFault} (Err fault.NoOperation) (Err x) = e in
    let is : fault.NoOperation ≡ x = cc in subst HasKind is (_, refl)

choosing_kind : (wanted : Option Text) (os : List Operation) (x : FlatFault) → chosen wanted os ≡ Err x → HasKind x
choosing_kind (Some name) os x e = no_operation_kind _ x e
choosing_kind None [] x e =
    let h : ◌≡◌ {A = Result Operation FlatFault} (Err fault.NoOperation) (Err x) = e in
    let is : fault.NoOperation ≡ x = cc in subst HasKind is (_, refl)
choosing_kind None (o ∷ []) x e = absurd (let h : ◌≡◌ {A = Result Operation FlatFault} (Ok o) (Err x) = e in cc)
choosing_kind None (o ∷ p ∷ os) x e =
    let h : ◌≡◌ {A = Result Operation FlatFault} (Err fault.AmbiguousOperation) (Err x) = e in
    let is : fault.AmbiguousOperation ≡ x = cc in subst HasKind is (_, refl)

first_kind : (H : FlatFault → Type 0) (ys : List FlatFault) (x : FlatFault) → AllByRecursion HasKind ys →
    IsFirst H ys x → HasKind x
first_kind H [] x kinds e = absurd e
first_kind H (y ∷ ys) x kinds (inl h) = subst HasKind (sym h.1) kinds.0
first_kind H (y ∷ ys) x kinds (inr h) = first_kind H ys x kinds.1 h.1

each_kind : AllByRecursion HasKind fault_order
each_kind = ((_, refl), ((_, refl), ((_, refl), ((_, refl), ((_, refl), ((_, refl), ((_, refl), tt)))))))

fault_kind : (d : Document) (wanted : Option Text) (values : Members) (x : FlatFault) →
    Flattens d wanted values (Err x) → HasKind x
fault_kind d wanted values x (not_chosen e) = choosing_kind wanted (operations d) x e
fault_kind d wanted values x (refused {o = o} e f) = first_kind (HasFault d values o) fault_order x each_kind f

-- ---- requests

pub is_answered : IsAnswered
is_answered m session text operation values none =
    is_told text (λ d read. is_flattened d operation values (go d read)) (λ at f. none _ (unread f))
  where
    go : (d : Document) → Reads text d → (r : Result Flat FlatFault) → Flattens d operation values r → ⊥
    go d read (Err x) f = none _ (unselected read f (fault_kind d operation values x f).1)
    go d read (Ok s) f = none _ (selected read f)
