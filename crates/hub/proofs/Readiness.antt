-- What a request is admitted with is what its subscription begins with.
use Rattle.std.proofs.Common.{◌≡◌, ◌∙◌, sym, ap, refl, subst, Ok, Err, Option, Some, Result}
use Rattle.serde_json.specs.Data.{Members}
use Rattle.serde_json.specs.View.{view}
use Rattle.scalar_val.specs.declared.word.Word.{Word}
use Rattle.scalar_val.specs.declared.word.Word.TheVariants as word
use Rattle.json_out.specs.declared.data.Request.{Request}
use Rattle.role_model.specs.declared.metadata.Metadata.{Metadata}
use Rattle.role_model.specs.declared.session.Session.{Session}
use Rattle.role_model.specs.MetadataMeaning.{IsMetadata}
use Rattle.request_model.specs.declared.flat.Flat.{Flat}
use Rattle.request_model.specs.Strings.{Text}
use Rattle.request_model.specs.Selection.{given_values}
use Rattle.request_model.specs.SelectionLaws.{FlatsAreWritten}
use Rattle.query_model.specs.declared.fault.QueryFault.{QueryFault}
use Rattle.query_model.specs.Names.{Root, RowsOf, RowOf, StreamOf, NoRoot}
use Rattle.query_model.specs.Queries.{kind_by, root_of, view_of}
use Rattle.query_model.specs.Plans.{plan_of}
use Rattle.query_model.specs.Admission.{Admitted, Admits, admitted, role_view, unread, unselected, selected}
use Rattle.query_model.specs.Selecting.{Selects}
use Rattle.query_model.specs.Selecting as reading
use Rattle.plan_model.specs.declared.plan.Plan.{Plan}
use Rattle.admission_laws.proofs.SharedPlans.{made_of}
use Rattle.run_laws.proofs.AdmittedQueries.{begins_so}
use Rattle.plan_build.specs.declared.admission.Admitted as build
use Rattle.plan_build.specs.Made.{IsMade}
use Rattle.plan_build.proofs.BoundRules.{is_admitted}
use Rattle.cohort_map.specs.declared.key.PollerKey.{PollerKey}
use Rattle.hub.specs.declared.conversation.Ready.{Ready}
use Rattle.hub.specs.Messages.{word_of, IsReady}

word_by_kind : (w : Word) (root : Root) → word_of (kind_by w root) ≡ w
word_by_kind word.Query root = refl
word_by_kind word.Subscription (RowsOf table) = refl
word_by_kind word.Subscription (RowOf table) = refl
word_by_kind word.Subscription (StreamOf table) = refl
word_by_kind word.Subscription NoRoot = refl

-- the selection that an admitted request's text gives
record Read (m : Metadata) (session : Session) (text : Text) (operation : Option Text) (values : Members)
    (a : Admitted) : Type 0 where
  selection : Flat
  selects : Selects text operation values (Ok selection)
  gives : admitted m session values selection ≡ Ok a

read_of : (m : Metadata) (session : Session) (text : Text) (operation : Option Text) (values : Members)
    (r : Result Admitted QueryFault) (a : Admitted) → Admits m session text operation values r → r ≡ Ok a →
    Read m session text operation values a
read_of m session text operation values r a (unread p) e =
    absurd (let f : ◌≡◌ {A = Result Admitted QueryFault} (Err _) (Ok a) = e in cc)
read_of m session text operation values r a (unselected p f k) e =
    absurd (let g : ◌≡◌ {A = Result Admitted QueryFault} (Err _) (Ok a) = e in cc)
read_of m session text operation values r a (selected {s = s} p f) e =
    record { selection = s; selects = reading.selected p f; gives = e }

poller_by : (m : Metadata) (session : Session) (values : Members) (s : Flat) (a : Admitted) →
    admitted m session values s ≡ Ok a →
    (word_of a.query.kind ≡ a.query.selection.kind) × (session.role ≡ a.query.role)
poller_by m session values s a e =
    let made = made_of m session values s a e in
    subst (λ (b : Admitted). (word_of b.query.kind ≡ b.query.selection.kind) × (session.role ≡ b.query.role)) made.is
    (word_by_kind s.kind (root_of (role_view m session values s) s.kind made.root), refl)

same_poller : (w v : Word) (r q c d : Text) → w ≡ v → r ≡ q → c ≡ d →
    ◌≡◌ {A = PollerKey} (record { word = w; role = r; canon = c }) (record { word = v; role = q; canon = d })
same_poller w v r q c d e f g = cc

pub ready_is : FlatsAreWritten → (m : Metadata) (session : Session) (request : Request) (a : Admitted)
    (made : build.Admitted) (ready : Ready) → IsMetadata m →
    Admits m session request.query request.operation (given_values (view request.variables)) (Ok a) → IsMade m a made →
    ready.kind ≡ made.kind → ready.plan ≡ made.plan →
    ready.poller ≡ record { word = word_of made.kind; role = session.role; canon = made.canon } →
    ready.binding ≡ made.binding → IsReady m session request ready
ready_is written m session request a made ready metadata admits is kind plan poller binding =
    let values : Members = given_values (view request.variables) in
    let read = read_of m session request.query request.operation values (Ok a) a admits refl in
    let by = poller_by m session values read.selection a read.gives in
    let role = by.1 in
    let words : word_of made.kind ≡ a.query.selection.kind = ap word_of is.kind ∙ by.0 in
    record {
      admitted = a;
      answers = admits;
      kind = kind ∙ is.kind;
      plan = subst (λ (p : Plan). plan_of (view_of m a.query) a.query.selection ≡ Some p) (sym plan) is.plan;
      poller = poller ∙ same_poller _ _ _ _ _ _ words role is.canon;
      binding = binding ∙ is.binding;
      is_admitted = is_admitted written m session values read.selection a metadata
          (request.query, request.operation, values, read.selects) read.gives;
      cursor = begins_so m session values read.selection a read.gives;
    }
