-- How many slots a selection has that the walk lets pass, and that it is admitted as some request.
use Rattle.std.proofs.Common.{◌≡◌, ◌≤◌, ℕ, Option, None, Result, Ok, Err, List, length, refl, subst, arith}
use Rattle.serde_json.specs.Data.{Members}
use Rattle.role_model.specs.declared.metadata.Metadata.{Metadata}
use Rattle.role_model.specs.declared.session.Session.{Session}
use Rattle.role_model.specs.MetadataMeaning.{IsMetadata}
use Rattle.role_model.specs.Roles.{View}
use Rattle.request_model.specs.declared.document.Document.{Document}
use Rattle.request_model.specs.declared.flat.FlatField.{FlatField}
use Rattle.request_model.specs.declared.flat.Flat.{Flat}
use Rattle.request_model.specs.Strings.{Text}
use Rattle.request_model.specs.Place.{Reads, length_limit}
use Rattle.request_model.specs.Selection.{Flattens}
use Rattle.request_model.specs.SelectionLaws.{FlatsAreWritten}
use Rattle.query_model.specs.declared.fault.QueryFault.{QueryFault}
use Rattle.query_model.specs.declared.variable.Variable.{Variable}
use Rattle.query_model.specs.Queries.{text_variables}
use Rattle.query_model.specs.Walk.{walk_fault}
use Rattle.query_model.specs.Admission.{Admitted, admitted, one_root, variables_of}
use Rattle.query_model.specs.AdmissionLaws.{IsAdmitted}
use Rattle.query_model.specs.Selecting.{Selects, unread, unselected, selected}
use Rattle.admission_bounds.specs.Bounds.{VariablesAreFew}
use Rattle.plan_build.specs.Made.{IsSelected}

pub record ReadAs (text : Text) (operation : Option Text) (values : Members) (s : Flat) : Type 0 where
  pub document : Document
  pub reads : Reads text document
  pub flattens : Flattens document operation values (Ok s)

not_refused : (e : QueryFault) (s : Flat) → ◌≡◌ {A = Result Flat QueryFault} (Err e) (Ok s) → ⊥
not_refused e s h = cc

same_flat : (s t : Flat) → ◌≡◌ {A = Result Flat QueryFault} (Ok s) (Ok t) → s ≡ t
same_flat s t h = cc

read_from : (text : Text) (operation : Option Text) (values : Members) (r : Result Flat QueryFault) (s : Flat) →
    Selects text operation values r → r ≡ Ok s → ReadAs text operation values s
read_from text operation values r s (unread p) h = absurd (not_refused _ s h)
read_from text operation values r s (unselected p f k) h = absurd (not_refused _ s h)
read_from text operation values r s (selected {d = d} {s = t} p f) h = record {
  document = d;
  reads = p;
  flattens = subst (λ x. Flattens d operation values (Ok x)) (same_flat t s h) f;
}

pub read_as : (text : Text) (operation : Option Text) (values : Members) (s : Flat) →
    Selects text operation values (Ok s) → ReadAs text operation values s
read_as text operation values s p = read_from text operation values (Ok s) s p refl

wider : (n : ℕ) → n ≤ length_limit → n ≤ 4294967296
wider n h = omega arith

pub names_few : VariablesAreFew → (v : View) (values : Members) (s : Flat) (f : FlatField) (vars : List Variable) →
    IsSelected s → variables_of values s.vars ≡ Ok vars → one_root s.fields ≡ Ok f → walk_fault vars v s f ≡ None →
    length (text_variables s) ≤ 4294967296
names_few law v values s f vars (text, operation, given, p) named root walked =
    let r = read_as text operation given s p in
    wider (length (text_variables s))
    (law v text operation given values r.document s f vars r.reads r.flattens named root walked)

pub is_admitted : FlatsAreWritten → (m : Metadata) (session : Session) (values : Members) (s : Flat) (a : Admitted) →
    IsMetadata m → IsSelected s → admitted m session values s ≡ Ok a → IsAdmitted m a
is_admitted law m session values s a metadata (text, operation, given, p) e =
    let r = read_as text operation given s p in
    record {
      metadata = metadata;
      session = session;
      values = values;
      selection = s;
      written = law text r.document operation given s r.reads r.flattens;
      gives = e;
    }
