-- What is admitted, and the first refusal of what isn't. The stages and their order are this project's own.
use Rattle.std.specs.Prelude.{◌≡◌, ℕ, List, [], ◌∷◌, Option, Some, None, Result, Ok, Err}
use Rattle.serde_json.specs.Data.{Members}
use Rattle.scalar_val.specs.declared.val.Val.{Val}
use Rattle.scalar_val.specs.declared.val.Val.TheVariants as val
use Rattle.scalar_val.specs.Spellings.{spelled}
use Rattle.role_model.specs.declared.metadata.Metadata.{Metadata}
use Rattle.role_model.specs.declared.session.Session.{Session}
use Rattle.role_model.specs.Roles.{View}
use Rattle.role_model.specs.Texts.{value_of}
use Rattle.request_model.specs.declared.document.GPair.{GPair}
use Rattle.request_model.specs.declared.document.VarDef.{VarDef}
use Rattle.request_model.specs.declared.document.Document.{Document}
use Rattle.request_model.specs.declared.flat.FlatField.{FlatField}
use Rattle.request_model.specs.declared.flat.FlatField.TheViews.{out-FlatField}
use Rattle.request_model.specs.declared.flat.Flat.{Flat}
use Rattle.request_model.specs.declared.flat.FlatFault.{FlatFault}
use Rattle.request_model.specs.declared.flat.FlatFault.TheVariants as flat
use Rattle.request_model.specs.Strings.{Text}
use Rattle.request_model.specs.Place.{Reads, FaultAt}
use Rattle.request_model.specs.Selection.{Flattens}
use Rattle.query_model.specs.declared.fault.FaultKind.{FaultKind}
use Rattle.query_model.specs.declared.fault.FaultKind.TheVariants as fault
use Rattle.query_model.specs.declared.fault.QueryFault.{QueryFault}
use Rattle.query_model.specs.Names.{Root, RowsOf, RowOf, StreamOf, NoRoot, kind_of, pair_value, initial_pair, initial_column}
use Rattle.query_model.specs.declared.variable.Variable.{Variable}
use Rattle.query_model.specs.Variables.{variable_of, value_read}
use Rattle.query_model.specs.declared.session.SessionSlot.{SessionSlot}
use Rattle.query_model.specs.declared.session.SessionValue.{SessionValue}
use Rattle.query_model.specs.Queries.{Query, root_of, kind_by, selection_slots}
use Rattle.query_model.specs.Refusals.{refusal}
use Rattle.query_model.specs.Walk.{walk_fault}

-- ---- variables, in order of declaration

abbrev pub with_variable : Text → Result Variable FaultKind → Result (List Variable) QueryFault →
    Result (List Variable) QueryFault
with_variable name (Err k) others = Err (refusal k name)
with_variable name (Ok x) (Ok xs) = Ok (x ∷ xs)
with_variable name (Ok x) (Err e) = Err e

abbrev pub variables_of : Members → List VarDef → Result (List Variable) QueryFault
variables_of values [] = Ok []
variables_of values (x ∷ xs) = with_variable x.name (variable_of values x) (variables_of values xs)

-- ---- session slots, in their order

abbrev pub spelled_value : SessionSlot → Option Val → Result SessionValue QueryFault
spelled_value s (Some x) = Ok (record { slot = s; value = x })
spelled_value s None = Err (refusal fault.BadSession s.name)

abbrev pub slot_value : SessionSlot → Option Text → Result SessionValue QueryFault
slot_value s None = Err (refusal fault.MissingSession s.name)
slot_value s (Some text) = spelled_value s (spelled s.kind text)

abbrev pub with_slot : Result SessionValue QueryFault → Result (List SessionValue) QueryFault →
    Result (List SessionValue) QueryFault
with_slot (Err e) others = Err e
with_slot (Ok x) (Ok xs) = Ok (x ∷ xs)
with_slot (Ok x) (Err e) = Err e

abbrev pub slots_given : Session → List SessionSlot → Result (List SessionValue) QueryFault
slots_given session [] = Ok []
slots_given session (s ∷ ss) = with_slot (slot_value s (value_of s.name session.vars)) (slots_given session ss)

-- ---- admission

-- a query with its initial cursor
pub record Admitted : Type 0 where
  pub query : Query
  pub cursor : Val

abbrev pub and_next : {A B : Type 0} → Result A QueryFault → (A → Result B QueryFault) → Result B QueryFault
and_next (Ok x) f = f x
and_next (Err e) f = Err e

abbrev pub unless_fault : {A : Type 0} → Option QueryFault → Result A QueryFault → Result A QueryFault
unless_fault (Some e) r = Err e
unless_fault None r = r

abbrev pub one_root : List FlatField → Result FlatField QueryFault
one_root [] = Err (refusal fault.NotOneRoot [])
one_root (f ∷ []) = Ok f
one_root (f ∷ g ∷ fs) = Err (refusal fault.NotOneRoot [])

-- the initial cursor of a stream, and null for every other query
module _ (vars : List Variable) (v : View) where
  abbrev pub initial_value : ℕ → List GPair → Option GPair → Val
  initial_value table args (Some p) = value_read vars (kind_of v table (initial_column v table args)) (pair_value p)
  initial_value table args None = val.Null

  abbrev pub initial_cursor : Root → List GPair → Val
  initial_cursor (StreamOf table) args = initial_value table args (initial_pair args)
  initial_cursor (RowsOf table) args = val.Null
  initial_cursor (RowOf table) args = val.Null
  initial_cursor NoRoot args = val.Null

module _ (m : Metadata) (session : Session) (values : Members) (s : Flat) where
  abbrev pub role_view : View
  role_view = record { metadata = m; role = session.role }

  abbrev pub query_with : FlatField → List Variable → List SessionValue → Admitted
  query_with f vars slots =
      let root = root_of role_view s.kind f in
      record {
        query = record {
          kind = kind_by s.kind root;
          role = session.role;
          selection = s;
          variables = vars;
          session = slots;
        };
        cursor = initial_cursor vars role_view root (out-FlatField f).args;
      }

  -- one root field, variables, the walk and session slots, in this order
  abbrev pub admitted : Result Admitted QueryFault
  admitted =
      and_next (one_root s.fields) (λ f.
      and_next (variables_of values s.vars) (λ vars.
      unless_fault (walk_fault vars role_view s f)
      (and_next (slots_given session (selection_slots role_view s)) (λ slots. Ok (query_with f vars slots)))))

-- the refusal of a fault of a flat selection; want of memory is none of them, and refuses nothing here
abbrev pub kind_of_fault : FlatFault → Option FaultKind
kind_of_fault flat.NoOperation = Some fault.NoOperation
kind_of_fault flat.AmbiguousOperation = Some fault.AmbiguousOperation
kind_of_fault flat.NotServed = Some fault.NotServed
kind_of_fault flat.UnknownFragment = Some fault.UnknownFragment
kind_of_fault flat.FragmentCycle = Some fault.FragmentCycle
kind_of_fault flat.NoDirective = Some fault.NoDirective
kind_of_fault flat.NotBoolean = Some fault.NotBoolean
kind_of_fault flat.TooLarge = Some fault.TooLarge
kind_of_fault flat.Conflict = Some fault.Conflict
kind_of_fault flat.NoMemory = None

abbrev pub syntax_at : ℕ → QueryFault
syntax_at at = record { kind = fault.Syntax; at = at; name = [] }

-- What a request comes to: its text, the name of its operation or none, and the values of its variables.
pub data Admits (m : Metadata) (session : Session) (text : Text) (operation : Option Text) (values : Members) :
    Result Admitted QueryFault → Type 0 where
  unread : {at : ℕ} → FaultAt text at → Admits m session text operation values (Err (syntax_at at))
  unselected : {d : Document} {x : FlatFault} {k : FaultKind} →
      Reads text d → Flattens d operation values (Err x) → kind_of_fault x ≡ Some k →
      Admits m session text operation values (Err (refusal k []))
  selected : {d : Document} {s : Flat} →
      Reads text d → Flattens d operation values (Ok s) →
      Admits m session text operation values (admitted m session values s)
