-- A request is admitted or refused in one way.
use Rattle.std.proofs.Common.{◌≡◌, ◌∙◌, ◌⊎◌, inl, inr, [], Option, Some, Result, Ok, Err, refl, ap, sym, subst}
use Rattle.serde_json.specs.Data.{Members}
use Rattle.request_model.specs.declared.document.Document.{Document}
use Rattle.request_model.specs.declared.flat.Flat.{Flat}
use Rattle.request_model.specs.declared.flat.FlatFault.{FlatFault}
use Rattle.request_model.specs.Strings.{Text}
use Rattle.request_model.specs.Place.{Reads}
use Rattle.request_model.specs.Selection.{Flattens}
use Rattle.request_model.proofs.FaultRules.{one_fault, no_fault}
use Rattle.request_model.proofs.FirstFault.{flattens_once}
use Rattle.query_model.specs.declared.fault.FaultKind.{FaultKind}
use Rattle.query_model.specs.declared.fault.QueryFault.{QueryFault}
use Rattle.query_model.specs.Refusals.{refusal}
use Rattle.query_model.specs.Admission.{Admitted, admitted, kind_of_fault, syntax_at, unread, unselected, selected}
use Rattle.query_model.specs.AdmissionLaws.{AdmitsOnce, IsAdmittedOrRefused}
use Rattle.admission_laws.proofs.OneDocument.{one_document}

module _ (text : Text) (operation : Option Text) (values : Members) where
  one_flat : (d e : Document) (x y : Result Flat FlatFault) → Reads text d → Reads text e →
      Flattens d operation values x → Flattens e operation values y → x ≡ y
  one_flat d e x y r s f g =
      let same = one_document text d e r s in
      flattens_once d operation values x y f (subst (λ z. Flattens z operation values y) (sym same) g)

same_fault : (x y : FlatFault) → ◌≡◌ {A = Result Flat FlatFault} (Err x) (Err y) → x ≡ y
same_fault x y e = cc

same_flat : (x y : Flat) → ◌≡◌ {A = Result Flat FlatFault} (Ok x) (Ok y) → x ≡ y
same_flat x y e = cc

not_both : (x : FlatFault) (y : Flat) → ◌≡◌ {A = Result Flat FlatFault} (Err x) (Ok y) → ⊥
not_both x y e = cc

one_kind : (x y : FlatFault) (k l : FaultKind) → x ≡ y → kind_of_fault x ≡ Some k → kind_of_fault y ≡ Some l → k ≡ l
one_kind x y k l same e f = let h : Some k ≡ Some l = sym e ∙ ap kind_of_fault same ∙ f in cc

pub admits_once : AdmitsOnce
admits_once m session text operation values a b (unread p) (unread q) =
    ap (λ n. Err (syntax_at n)) (one_fault text _ _ p q)
admits_once m session text operation values a b (unread p) (unselected r f k) = absurd (no_fault text _ _ r p)
admits_once m session text operation values a b (unread p) (selected r f) = absurd (no_fault text _ _ r p)
admits_once m session text operation values a b (unselected r f k) (unread p) = absurd (no_fault text _ _ r p)
admits_once m session text operation values a b (unselected r f k) (unselected s g l) =
    ap (λ x. Err (refusal x []))
    (one_kind _ _ _ _ (same_fault _ _ (one_flat text operation values _ _ _ _ r s f g)) k l)
admits_once m session text operation values a b (unselected r f k) (selected s g) =
    absurd (not_both _ _ (one_flat text operation values _ _ _ _ r s f g))
admits_once m session text operation values a b (selected r f) (unread p) = absurd (no_fault text _ _ r p)
admits_once m session text operation values a b (selected r f) (unselected s g l) =
    absurd (not_both _ _ (one_flat text operation values _ _ _ _ s r g f))
admits_once m session text operation values a b (selected r f) (selected s g) =
    ap (admitted m session values) (same_flat _ _ (one_flat text operation values _ _ _ _ r s f g))

pub admitted_or_refused : IsAdmittedOrRefused
admitted_or_refused m session values s = go (admitted m session values s) refl
  where
    go : (r : Result Admitted QueryFault) → admitted m session values s ≡ r →
        ((a : Admitted) × (admitted m session values s ≡ Ok a))
        ⊎ ((e : QueryFault) × (admitted m session values s ≡ Err e))
    go (Ok a) is = inl (a, is)
    go (Err e) is = inr (e, is)
