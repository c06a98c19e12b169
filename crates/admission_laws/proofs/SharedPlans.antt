-- Queries of one poller have one plan.
use Rattle.std.proofs.Common.{◌≡◌, List, Option, Some, None, Result, Ok, Err, refl, ap₂, sym, subst, ◌∙◌}
use Rattle.std.specs.Prelude.{IsTrue}
use Rattle.serde_json.specs.Data.{Members}
use Rattle.role_model.specs.declared.metadata.Metadata.{Metadata}
use Rattle.role_model.specs.declared.session.Session.{Session}
use Rattle.request_model.specs.declared.flat.FlatField.{FlatField}
use Rattle.request_model.specs.declared.flat.Flat.{Flat}
use Rattle.request_model.specs.SelectionLaws.{is_written, essence}
use Rattle.request_model.proofs.ReadFields.{canonical_tells}
use Rattle.query_model.specs.declared.fault.QueryFault.{QueryFault}
use Rattle.query_model.specs.declared.variable.Variable.{Variable}
use Rattle.query_model.specs.declared.session.SessionValue.{SessionValue}
use Rattle.query_model.specs.Queries.{selection_slots, view_of}
use Rattle.query_model.specs.Walk.{walk_fault}
use Rattle.query_model.specs.Admission.{Admitted, admitted, and_next, unless_fault, one_root, variables_of, slots_given, role_view, query_with}
use Rattle.query_model.specs.AdmissionLaws.{IsAdmitted, PollersHaveOnePlan}
use Rattle.admission_laws.proofs.OnePlan.{plan_in, plan_of_essence}

-- ---- what an admitted query is made of

pub record MadeOf (m : Metadata) (session : Session) (values : Members) (s : Flat) (a : Admitted) : Type 0 where
  pub root : FlatField
  pub vars : List Variable
  pub slots : List SessionValue
  pub one : one_root s.fields ≡ Ok root
  pub read : variables_of values s.vars ≡ Ok vars
  pub walked : walk_fault vars (role_view m session values s) s root ≡ None
  pub given : slots_given session (selection_slots (role_view m session values s) s) ≡ Ok slots
  pub is : query_with m session values s root vars slots ≡ a

next_of : {A B : Type 0} (r : Result A QueryFault) (f : A → Result B QueryFault) (b : B) → and_next r f ≡ Ok b → (x : A) × (r ≡ Ok x) × (f x ≡ Ok b)
next_of (Ok x) f b h = (x, refl, h)
next_of (Err e) f b h = absurd (let q : ◌≡◌ {A = Result _ QueryFault} (Err e) (Ok b) = h in cc)

no_fault_of : {A : Type 0} (o : Option QueryFault) (r : Result A QueryFault) (b : A) → unless_fault o r ≡ Ok b → (o ≡ None) × (r ≡ Ok b)
no_fault_of (Some e) r b h = absurd (let q : ◌≡◌ {A = Result _ QueryFault} (Err e) (Ok b) = h in cc)
no_fault_of None r b h = (refl, h)

the_value : {A : Type 0} (x y : A) → ◌≡◌ {A = Result A QueryFault} (Ok x) (Ok y) → x ≡ y
the_value x y h = cc

pub made_of : (m : Metadata) (session : Session) (values : Members) (s : Flat) (a : Admitted) → admitted m session values s ≡ Ok a → MadeOf m session values s a
made_of m session values s a h =
    let w = role_view m session values s in
    let first = next_of (one_root s.fields) _ a h in
    let second = next_of (variables_of values s.vars) _ a first.2 in
    let third = no_fault_of (walk_fault second.0 w s first.0) _ a second.2 in
    let fourth = next_of (slots_given session (selection_slots w s)) _ a third.1 in
    record { root = first.0; vars = second.0; slots = fourth.0; one = first.1; read = second.1; walked = third.0; given = fourth.1; is = the_value _ a fourth.2 }

-- its selection is the one that was admitted, and so is written
pub written_selection : (m : Metadata) (a : Admitted) → IsAdmitted m a → IsTrue (is_written a.query.selection)
written_selection m a i =
    let made = made_of m i.session i.values i.selection a i.gives in
    subst (λ (b : Admitted). IsTrue (is_written b.query.selection)) made.is i.written

-- ---- the law

pub pollers_have_one_plan : PollersHaveOnePlan
pollers_have_one_plan m a b i j same =
    let e : essence a.query.selection ≡ essence b.query.selection = canonical_tells a.query.selection b.query.selection (written_selection m a i) (written_selection m b j) same.text in
    plan_of_essence (view_of m a.query) a.query.selection
    ∙ ap₂ (λ role e. plan_in (record { metadata = m; role = role }) e) same.role e
    ∙ sym (plan_of_essence (view_of m b.query) b.query.selection)
