-- A text has one meaning.
use Rattle.std.proofs.Common.{◌≡◌, ◌∙◌, [], Option, Some, Result, Ok, Err, refl, ap, ap₂, sym, subst}
use Rattle.serde_json.specs.Data.{Members}
use Rattle.request_model.specs.declared.document.Document.{Document}
use Rattle.request_model.specs.declared.flat.Flat.{Flat}
use Rattle.request_model.specs.declared.flat.FlatFault.{FlatFault}
use Rattle.request_model.specs.Strings.{Text}
use Rattle.request_model.specs.Place.{Reads}
use Rattle.request_model.specs.Selection.{Flattens}
use Rattle.request_model.proofs.FaultRules.{one_fault, no_fault}
use Rattle.request_model.proofs.FirstFault.{flattens_once}
use Rattle.query_model.specs.declared.fault.FaultKind.{FaultKind}
use Rattle.query_model.specs.declared.fault.QueryFault.{QueryFault}
use Rattle.query_model.specs.Refusals.{refusal}
use Rattle.query_model.specs.Admission.{kind_of_fault, syntax_at}
use Rattle.query_model.specs.Selecting.{Asked, Selects, unread, unselected, selected}
use Rattle.admission_laws.proofs.OneDocument.{one_document}
use Rattle.wire_model.specs.ClientMessages as client
use Rattle.wire_model.specs.ClientMessages.{ClientMessage, message}
use Rattle.machine.specs.Messages.{Message, Subscribe, IsRead, Means, init, subscribe, complete, ping, pong, bad}
use Rattle.script_laws.specs.Meanings.{SelectsOnce, SaysOnce}

-- Selections

module _ (text : Text) (operation : Option Text) (values : Members) where
  one_flat : (d e : Document) (x y : Result Flat FlatFault) → Reads text d → Reads text e →
      Flattens d operation values x → Flattens e operation values y → x ≡ y
  one_flat d e x y r s f g =
      let same = one_document text d e r s in
      flattens_once d operation values x y f (subst (λ z. Flattens z operation values y) (sym same) g)

same_fault : (x y : FlatFault) → ◌≡◌ {A = Result Flat FlatFault} (Err x) (Err y) → x ≡ y
same_fault x y e = cc

same_flat : (x y : Flat) → ◌≡◌ {A = Result Flat FlatFault} (Ok x) (Ok y) → x ≡ y
same_flat x y e = cc

not_both : (x : FlatFault) (y : Flat) → ◌≡◌ {A = Result Flat FlatFault} (Err x) (Ok y) → ⊥
not_both x y e = cc

one_kind : (x y : FlatFault) (k l : FaultKind) → x ≡ y → kind_of_fault x ≡ Some k → kind_of_fault y ≡ Some l → k ≡ l
one_kind x y k l same e f = let h : Some k ≡ Some l = sym e ∙ ap kind_of_fault same ∙ f in cc

pub selects_once : SelectsOnce
selects_once text operation values x y (unread p) (unread q) = ap (λ n. Err (syntax_at n)) (one_fault text _ _ p q)
selects_once text operation values x y (unread p) (unselected r f k) = absurd (no_fault text _ _ r p)
selects_once text operation values x y (unread p) (selected r f) = absurd (no_fault text _ _ r p)
selects_once text operation values x y (unselected r f k) (unread p) = absurd (no_fault text _ _ r p)
selects_once text operation values x y (unselected r f k) (unselected s g l) =
    ap (λ z. Err (refusal z []))
    (one_kind _ _ _ _ (same_fault _ _ (one_flat text operation values _ _ _ _ r s f g)) k l)
selects_once text operation values x y (unselected r f k) (selected s g) =
    absurd (not_both _ _ (one_flat text operation values _ _ _ _ r s f g))
selects_once text operation values x y (selected r f) (unread p) = absurd (no_fault text _ _ r p)
selects_once text operation values x y (selected r f) (unselected s g l) =
    absurd (not_both _ _ (one_flat text operation values _ _ _ _ s r g f))
selects_once text operation values x y (selected r f) (selected s g) =
    ap (λ z. Ok z) (same_flat _ _ (one_flat text operation values _ _ _ _ r s f g))

-- Messages

one_asked : (request : client.Request) (a b : Asked) → IsRead request a → IsRead request b → a ≡ b
one_asked request a b r s =
    let values : a.values ≡ b.values = r.values ∙ sym s.values in
    let selection : a.selection ≡ b.selection =
    selects_once request.query request.operation a.values a.selection b.selection r.selection
    (subst (λ v. Selects request.query request.operation v b.selection) (sym values) s.selection) in
    ap₂ (λ (x : Result Flat QueryFault) (v : Members). record { selection = x; values = v }) selection values

means_once : (c : ClientMessage) (m n : Message) → Means c m → Means c n → m ≡ n
means_once c m n init init = refl
means_once c m n (subscribe {id = id} {request = request} {asked = a} r) (subscribe {asked = b} s) =
    ap (λ asked. Subscribe id asked) (one_asked request a b r s)
means_once c m n complete complete = refl
means_once c m n ping ping = refl
means_once c m n pong pong = refl
means_once c m n bad bad = refl

pub says_once : SaysOnce
says_once text m n says also = means_once (message text) m n says also
