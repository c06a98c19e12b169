-- What reading a request gives, from the answers of its steps.
use Rattle.std.proofs.Common.{◌≡◌, ◌≢◌, ◌∙◌, ℕ, [], Option, Some, Result, Ok, Err, ap, sym, subst}
use Rattle.serde_json.specs.Data.{Members}
use Rattle.request_model.specs.declared.document.Document.{Document}
use Rattle.request_model.specs.declared.flat.Flat.{Flat}
use Rattle.request_model.specs.declared.flat.FlatFault.{FlatFault}
use Rattle.request_model.specs.declared.flat.FlatFault.TheVariants as flat
use Rattle.request_model.specs.Strings.{Text}
use Rattle.request_model.specs.Place.{Reads, FaultAt}
use Rattle.request_model.specs.Selection.{Flattens}
use Rattle.query_model.specs.declared.fault.FaultKind.{FaultKind}
use Rattle.query_model.specs.declared.fault.QueryFault.{QueryFault}
use Rattle.query_model.specs.Refusals.{refusal}
use Rattle.query_model.specs.Admission.{kind_of_fault, syntax_at}
use Rattle.query_model.specs.Selecting.{Selects, unread, unselected, selected}

Fallen : Type 0
Fallen = Result Flat FlatFault

pub unread_so : (text : Text) (operation : Option Text) (values : Members) (at : ℕ) (f : QueryFault) →
    f ≡ syntax_at at → FaultAt text at → Selects text operation values (Err f)
unread_so text operation values at f e p = subst (λ x. Selects text operation values (Err x)) (sym e) (unread p)

-- want of memory refuses nothing
no_kind : (k : FaultKind) → kind_of_fault flat.NoMemory ≡ Some k → ⊥
no_kind k e = cc

same_fault : (x y : FlatFault) → ◌≡◌ {A = Result Flat FlatFault} (Err x) (Err y) → x ≡ y
same_fault x y e = cc

not_memory : (x : FlatFault) (k : FaultKind) → kind_of_fault x ≡ Some k →
    ◌≡◌ {A = Result Flat FlatFault} (Err x) (Err flat.NoMemory) → ⊥
not_memory x k e n = no_kind k (sym (ap kind_of_fault (same_fault x flat.NoMemory n)) ∙ e)

ok_not_memory : (s : Flat) → ◌≡◌ {A = Result Flat FlatFault} (Ok s) (Err flat.NoMemory) → ⊥
ok_not_memory s e = cc

module _ (text : Text) (operation : Option Text) (values : Members) (d : Document) where
  pub unselected_so : (r : Result Flat FlatFault) (x : FlatFault) (k : FaultKind) (f : QueryFault) →
      Reads text d → (r ≢ Err flat.NoMemory → Flattens d operation values r) → r ≡ Err x →
      kind_of_fault x ≡ Some k → f ≡ refusal k [] → Selects text operation values (Err f)
  unselected_so r x k f reads flattens is kind e =
      let all : (y : Result Flat FlatFault) → r ≡ y → y ≢ Err flat.NoMemory → Flattens d operation values y = λ y same n. subst (Flattens d operation values) same (flattens (λ m. n (sym same ∙ m))) in
      subst (λ z. Selects text operation values (Err z)) (sym e)
      (unselected reads (all (Err x) is (not_memory x k kind)) kind)

  pub selected_so : (r : Result Flat FlatFault) (s : Flat) → Reads text d →
      (r ≢ Err flat.NoMemory → Flattens d operation values r) → r ≡ Ok s → Selects text operation values (Ok s)
  selected_so r s reads flattens is =
      let all : (y : Result Flat FlatFault) → r ≡ y → y ≢ Err flat.NoMemory → Flattens d operation values y = λ y same n. subst (Flattens d operation values) same (flattens (λ m. n (sym same ∙ m))) in
      selected reads (all (Ok s) is (ok_not_memory s))
