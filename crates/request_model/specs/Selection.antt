-- The fields that an operation selects: GraphQL October 2021, section 6.3.2 "Field Collection", with the merging of
-- sections 5.3.2 and 6.4.3, and what refuses an operation before that. The codes, their order and the limits are this
-- project's own.
use Rattle.std.specs.Prelude.{
  ◌≡◌,
  ◌≢◌,
  ◌⊎◌,
  ℕ,
  zero,
  suc,
  ◌+◌,
  max,
  Bool,
  true,
  false,
  not,
  ◌&&◌,
  ◌||◌,
  if◌then◌else◌,
  nat_lt,
  List,
  [],
  ◌∷◌,
  ◌++◌,
  length,
  map,
  find,
  flat_map,
  Option,
  Some,
  None,
  is_none,
  option_and_then,
  unwrap_or,
  Result,
  Ok,
  Err,
  IsTrue,
  codes,
}
use Rattle.std.specs.List.{list_any, filter_map, AllByRecursion}
use Rattle.std.specs.Str.{bytes_eq}
use Rattle.std.specs.Ordering.{nat_cmp, on}
use Rattle.std.specs.Cmp.Lexicographic.{slice_cmp}
use Rattle.serde_json.specs.Data.{Data, Members, no_members}
use Rattle.serde_json.specs.Find.{as_bool, as_object, get_member}
use Rattle.request_model.specs.declared.document.GValue.{GValue}
use Rattle.request_model.specs.declared.document.GValue.TheOpen.{GValue-F}
use Rattle.request_model.specs.declared.document.GValue.TheViews.{out-GValue, out-GPair}
use Rattle.request_model.specs.declared.document.GPair.{GPair}
use Rattle.request_model.specs.declared.document.Directive.{Directive}
use Rattle.request_model.specs.declared.document.VarDef.{VarDef}
use Rattle.request_model.specs.declared.document.Selection.{Selection}
use Rattle.request_model.specs.declared.document.Selection.TheOpen.{Selection-F}
use Rattle.request_model.specs.declared.document.Selection.TheFolds.{fold-Selection, para-Selection}
use Rattle.request_model.specs.declared.document.OpWord.{OpWord}
use Rattle.request_model.specs.declared.document.OpWord.TheVariants as op
use Rattle.request_model.specs.declared.document.Definition.{Definition}
use Rattle.request_model.specs.declared.document.Definition.TheVariants as definition
use Rattle.request_model.specs.declared.document.Document.{Document}
use Rattle.scalar_val.specs.declared.word.Word.{Word}
use Rattle.scalar_val.specs.declared.word.Word.TheVariants as word
use Rattle.request_model.specs.declared.flat.FlatField.{FlatField}
use Rattle.request_model.specs.declared.flat.FlatField.TheOpen.{FlatField-F}
use Rattle.request_model.specs.declared.flat.FlatField.TheViews.{roll-FlatField}
use Rattle.request_model.specs.declared.flat.FlatField.TheFolds.{fold-FlatField}
use Rattle.request_model.specs.declared.flat.Flat.{Flat}
use Rattle.request_model.specs.declared.flat.FlatFault.{FlatFault}
use Rattle.request_model.specs.declared.flat.FlatFault.TheVariants as fault
use Rattle.request_model.specs.Strings.{Text}
use Rattle.scalar_val.specs.Ordered.{ordered}

-- ---- operations and fragments

pub record Operation : Type 0 where
  pub word : OpWord
  pub name : Option Text
  pub vars : List VarDef
  pub directives : List Directive
  pub select : List Selection

pub record Fragment : Type 0 where
  pub name : Text
  pub on : Text
  pub directives : List Directive
  pub select : List Selection

abbrev pub operation_of : Definition → Option Operation
operation_of (definition.Operation w n vs ds set) = Some
    (record { word = w; name = n; vars = vs; directives = ds; select = set })
operation_of (definition.Fragment n on ds set) = None

abbrev pub fragment_of : Definition → Option Fragment
fragment_of (definition.Operation w n vs ds set) = None
fragment_of (definition.Fragment n on ds set) = Some (record { name = n; on = on; directives = ds; select = set })

abbrev pub operations : Document → List Operation
operations d = filter_map operation_of d.definitions

abbrev pub fragments : Document → List Fragment
fragments d = filter_map fragment_of d.definitions

-- of several fragments of one name the first counts
abbrev pub fragment_named : List Fragment → Text → Option Fragment
fragment_named fs name = find (λ (f : Fragment). bytes_eq name f.name) fs

abbrev pub is_name_of : Text → Option Text → Bool
is_name_of name (Some n) = bytes_eq name n
is_name_of name None = false

abbrev pub is_called : Text → Operation → Bool
is_called name o = is_name_of name o.name

abbrev pub or_no_operation : Option Operation → Result Operation FlatFault
or_no_operation (Some o) = Ok o
or_no_operation None = Err fault.NoOperation

abbrev pub only_one : List Operation → Result Operation FlatFault
only_one [] = Err fault.NoOperation
only_one (o ∷ []) = Ok o
only_one (o ∷ p ∷ os) = Err fault.AmbiguousOperation

-- GetOperation (section 6.1): the first operation of the wanted name, or the only one where no name is wanted
abbrev pub chosen : Option Text → List Operation → Result Operation FlatFault
chosen (Some name) os = or_no_operation (find (is_called name) os)
chosen None os = only_one os

-- ---- directives (section 3.13)

-- What decides conditions and spreads: the fragments, the operation's variables, and the values given for them. Of
-- several variables of one name the first counts.
pub record Scope : Type 0 where
  pub fragments : List Fragment
  pub vars : List VarDef
  pub values : Members

-- the values that a request gives in its `variables`; what is no object gives none
abbrev pub given_values : Data → Members
given_values d = unwrap_or (as_object d) no_members

abbrev pub bool_in : GValue-F GValue GPair → Option Bool
bool_in (GValue-F.Bool b) = Some b
bool_in _ = None

abbrev pub literal_bool : GValue → Option Bool
literal_bool x = bool_in (out-GValue x)

abbrev pub bool_given : Option Data → Option GValue → Option Bool
bool_given (Some given) default = as_bool given
bool_given None default = option_and_then literal_bool default

-- the value given for a variable counts, also where it is no boolean, and else its default
abbrev pub variable_bool : Members → VarDef → Option Bool
variable_bool values x = bool_given (get_member x.name values) x.default

abbrev pub bool_by : Scope → GValue-F GValue GPair → Option Bool
bool_by s (GValue-F.Bool b) = Some b
bool_by s (GValue-F.Var name) = option_and_then (variable_bool s.values)
    (find (λ (v : VarDef). bytes_eq name v.name) s.vars)
bool_by s _ = None

-- a boolean literal, or a declared variable whose value is a boolean
abbrev pub bool_of : Scope → GValue → Option Bool
bool_of s x = bool_by s (out-GValue x)

-- the condition of a directive: its one argument, `if`
abbrev pub condition_in : Scope → List GPair → Option Bool
condition_in s [] = None
condition_in s (p ∷ []) = if bytes_eq (out-GPair p).name (codes "if") then bool_of s (out-GPair p).value else None
condition_in s (p ∷ q ∷ ps) = None

abbrev pub condition : Scope → Directive → Option Bool
condition s d = condition_in s d.args

abbrev pub is_skip : Directive → Bool
is_skip d = bytes_eq d.name (codes "skip")

abbrev pub is_include : Directive → Bool
is_include d = bytes_eq d.name (codes "include")

abbrev pub is_served : Directive → Bool
is_served d = is_skip d || is_include d

abbrev pub is_met : Option Bool → Bool
is_met (Some b) = b
is_met None = false

abbrev pub is_unmet : Option Bool → Bool
is_unmet (Some b) = not b
is_unmet None = false

abbrev pub drops : Scope → Directive → Bool
drops s d = is_skip d && is_met (condition s d) || is_include d && is_unmet (condition s d)

-- a selection is dropped where `@skip` is true or `@include` is false
abbrev pub is_dropped : Scope → List Directive → Bool
is_dropped s ds = list_any (drops s) ds

-- ---- what stands in selections, dropped or not

abbrev pub concatenated : {X : Type 0} → List (List X) → List X
concatenated = flat_map (λ xs. xs)

-- the names of the fragments that are spread
abbrev pub spreads_step : Selection-F (List Text) → List Text
spreads_step (Selection-F.Field alias name args ds inner) = concatenated inner
spreads_step (Selection-F.Spread name ds) = name ∷ []
spreads_step (Selection-F.Inline on ds inner) = concatenated inner

abbrev pub spreads : List Selection → List Text
spreads set = flat_map (fold-Selection (List Text) spreads_step) set

abbrev pub directives_step : Selection-F (List Directive) → List Directive
directives_step (Selection-F.Field alias name args ds inner) = ds ++ concatenated inner
directives_step (Selection-F.Spread name ds) = ds
directives_step (Selection-F.Inline on ds inner) = ds ++ concatenated inner

abbrev pub directives_in : List Selection → List Directive
directives_in set = flat_map (fold-Selection (List Directive) directives_step) set

-- some selection spreads a fragment of this name
abbrev pub has_spread : List Selection → Text → Bool
has_spread set name = list_any (bytes_eq name) (spreads set)

-- the fragments that selections reach by spreads
pub data IsReached (fs : List Fragment) (start : List Selection) : Fragment → Type 0 where
  spread_there : {f : Fragment} (name : Text) → IsTrue (has_spread start name) → fragment_named fs name ≡ Some f →
      IsReached fs start f
  spread_further : {f g : Fragment} (name : Text) → IsReached fs start f → IsTrue (has_spread f.select name) →
      fragment_named fs name ≡ Some g → IsReached fs start g

-- it holds of the operation, or of a fragment that the operation reaches
abbrev pub InReach : List Fragment → Operation → (List Directive → List Selection → Bool) → Type 0
InReach fs o test = IsTrue (test o.directives o.select)
    ⊎ ((f : Fragment) × IsReached fs o.select f × IsTrue (test f.directives f.select))

-- ---- field collection

-- a field as it is selected, under its response key: its alias, or else its name
pub record Selected : Type 0 where
  pub key : Text
  pub name : Text
  pub args : List GPair
  pub select : List Selection

-- the fields of one response key, in the order in which they are met
pub record Group : Type 0 where
  pub first : Selected
  pub others : List Selected

abbrev pub grouped : Selected → List Group → List Group
grouped f [] = record { first = f; others = [] } ∷ []
grouped f (g ∷ gs) = if bytes_eq f.key g.first.key then record { first = g.first; others = g.others ++ f ∷ [] } ∷ gs
    else g ∷ grouped f gs

-- what is collected of one object: the fragments that were spread, the type conditions that were met, and the fields
pub record Collected : Type 0 where
  pub visited : List Text
  pub conditions : List Text
  pub groups : List Group

abbrev pub nothing : Collected
nothing = record { visited = []; conditions = []; groups = [] }

-- what selections add to what is collected
abbrev pub Collecting : Type 0
Collecting = Collected → Collected

abbrev pub in_order : List Collecting → Collecting
in_order [] c = c
in_order (f ∷ fs) c = in_order fs (f c)

abbrev pub noted : Text → Collecting
noted on c = record { visited = c.visited; conditions = c.conditions ++ on ∷ []; groups = c.groups }

abbrev pub noted_if : Option Text → Collecting
noted_if (Some on) c = noted on c
noted_if None c = c

abbrev pub with_visited : Text → Collecting
with_visited name c = record { visited = c.visited ++ name ∷ []; conditions = c.conditions; groups = c.groups }

abbrev pub with_field : Selected → Collecting
with_field f c = record { visited = c.visited; conditions = c.conditions; groups = grouped f c.groups }

abbrev pub response_key : Option Text → Text → Text
response_key (Some alias) name = alias
response_key None name = name

abbrev pub unless_dropped : Bool → Collecting → Collecting
unless_dropped true f c = c
unless_dropped false f c = f c

module _ (s : Scope) where
  -- CollectFields; `spread` is what the spread of a name gives
  abbrev pub selection_step : (Text → Collecting) → Selection-F (Selection × Collecting) → Collecting
  selection_step spread (Selection-F.Field alias name args ds inner) =
      unless_dropped (is_dropped s ds) (with_field
      (record { key = response_key alias name; name = name; args = args; select = map (λ e. e.0) inner }))
  selection_step spread (Selection-F.Spread name ds) = unless_dropped (is_dropped s ds) (spread name)
  selection_step spread (Selection-F.Inline on ds inner) = unless_dropped (is_dropped s ds)
      (λ c. in_order (map (λ e. e.1) inner) (noted_if on c))

  unfoldable pub collect_one : (Text → Collecting) → Selection → Collecting
  collect_one spread = para-Selection Collecting (selection_step spread)

  abbrev pub collecting : (Text → Collecting) → List Selection → Collecting
  collecting spread set = in_order (map (collect_one spread) set)

  -- a fragment gives its selections, once for each object
  abbrev pub visiting : (List Selection → Collecting) → Option Fragment → Collecting
  visiting inner None c = c
  visiting inner (Some f) c = if list_any (bytes_eq f.name) c.visited then c
      else inner f.select (noted f.on (with_visited f.name c))

  -- Since an object takes each fragment once, spreads nest at most as deep as there are fragments.
  abbrev pub spreading : ℕ → Text → Collecting
  spreading zero name c = c
  spreading (suc depth) name c = visiting (collecting (spreading depth)) (fragment_named s.fragments name) c

  -- one object
  abbrev pub collected : List Selection → Collected
  collected set = collecting (spreading (length s.fragments)) set nothing

-- ---- merging

abbrev pub fields_of : Group → List Selected
fields_of g = g.first ∷ g.others

-- MergeSelectionSets: the selections of all fields of one key together
abbrev pub inner_set : Group → List Selection
inner_set g = flat_map (λ (f : Selected). f.select) (fields_of g)

abbrev pub has_some : {X : Type 0} → List X → Bool
has_some [] = false
has_some (x ∷ xs) = true

abbrev pub has_inner : Selected → Bool
has_inner f = has_some f.select

module _ (s : Scope) where
  -- the fields of an object and of those in it, down to so many levels
  abbrev pub fields_down : ℕ → List Selection → List FlatField
  fields_down zero set = []
  fields_down (suc levels) set =
      map (λ (g : Group). roll-FlatField (record {
        key = g.first.key;
        name = g.first.name;
        args = g.first.args;
        nested = list_any has_inner (fields_of g);
        conditions = (collected s (inner_set g)).conditions;
        fields = fields_down levels (inner_set g);
      }))
      (collected s set).groups

-- ---- limits

abbrev pub most_levels : ℕ
most_levels = 12

abbrev pub most_fields : ℕ
most_fields = 4096

abbrev pub sum_of : List ℕ → ℕ
sum_of [] = 0
sum_of (n ∷ ns) = n + sum_of ns

abbrev pub max_of : List ℕ → ℕ
max_of [] = 0
max_of (n ∷ ns) = max n (max_of ns)

-- the number of fields, and of their levels
abbrev pub size_step : FlatField-F ℕ → ℕ
size_step f = 1 + sum_of f.fields

abbrev pub size : List FlatField → ℕ
size fields = sum_of (map (fold-FlatField ℕ size_step) fields)

abbrev pub levels_step : FlatField-F ℕ → ℕ
levels_step f = 1 + max_of f.fields

abbrev pub levels : List FlatField → ℕ
levels fields = max_of (map (fold-FlatField ℕ levels_step) fields)

-- Where there is a field one level below the last one that is allowed, deeper ones don't matter any more.
abbrev pub fields_seen : Scope → List Selection → List FlatField
fields_seen s set = fields_down s (most_levels + 1) set

abbrev pub is_large : List FlatField → Bool
is_large fields = nat_lt most_levels (levels fields) || nat_lt most_fields (size fields)

-- ---- conflicts (section 5.3.2)

abbrev pub by_name : List GPair → List GPair
by_name = ordered (on (λ (p : GPair). (out-GPair p).name) (slice_cmp nat_cmp))

-- they differ in name or in arguments ordered by name
abbrev pub Differ : Selected → Selected → Type 0
Differ f g = (f.name ≢ g.name) ⊎ (by_name f.args ≢ by_name g.args)

abbrev pub Some_of : {X : Type 0} → (X → Type 0) → List X → Type 0
Some_of P [] = ⊥
Some_of P (x ∷ xs) = P x ⊎ Some_of P xs

-- a field differs from the first of its key, in an object down to so many levels
abbrev pub FieldsConflict : Scope → ℕ → List Selection → Type 0
FieldsConflict s zero set = ⊥
FieldsConflict s (suc levels) set =
    Some_of (λ (g : Group). Some_of (Differ g.first) g.others ⊎ FieldsConflict s levels (inner_set g))
    (collected s set).groups

abbrev pub repeats : List Text → Bool
repeats [] = false
repeats (t ∷ ts) = list_any (bytes_eq t) ts || repeats ts

-- two operations, two fragments or two variables of the operation share a name
abbrev pub shares_name : Document → Operation → Bool
shares_name d o = repeats (filter_map (λ (p : Operation). p.name) (operations d))
    || repeats (map (λ (f : Fragment). f.name) (fragments d)) || repeats (map (λ (v : VarDef). v.name) o.vars)

-- ---- what refuses an operation

abbrev pub served : OpWord → Option Word
served op.Query = Some word.Query
served op.Subscription = Some word.Subscription
served op.Mutation = None

module _ (d : Document) (values : Members) (o : Operation) where
  abbrev pub scope : Scope
  scope = record { fragments = fragments d; vars = o.vars; values = values }

  abbrev pub has_unknown : List Directive → List Selection → Bool
  has_unknown ds set = list_any (λ name. is_none (fragment_named (fragments d) name)) (spreads set)

  -- a directive on the definition, or one that isn't served
  abbrev pub has_stray : List Directive → List Selection → Bool
  has_stray ds set = has_some ds || list_any (λ x. not (is_served x)) (directives_in set)

  abbrev pub has_no_boolean : List Directive → List Selection → Bool
  has_no_boolean ds set = list_any (λ x. is_served x && is_none (condition scope x)) (directives_in set)

  -- the operation has this fault; none of the first two and of want of memory, which aren't its own
  abbrev pub HasFault : FlatFault → Type 0
  HasFault fault.NotServed = served o.word ≡ None
  HasFault fault.UnknownFragment = InReach (fragments d) o has_unknown
  HasFault fault.FragmentCycle = (f : Fragment) × IsReached (fragments d) o.select f
      × IsReached (fragments d) f.select f
  HasFault fault.NoDirective = IsTrue (list_any (λ (v : VarDef). has_some v.directives) o.vars)
      ⊎ InReach (fragments d) o has_stray
  HasFault fault.NotBoolean = InReach (fragments d) o has_no_boolean
  HasFault fault.TooLarge = IsTrue (is_large (fields_seen scope o.select))
  HasFault fault.Conflict = IsTrue (shares_name d o) ⊎ FieldsConflict scope most_levels o.select
  HasFault fault.NoOperation = ⊥
  HasFault fault.AmbiguousOperation = ⊥
  HasFault fault.NoMemory = ⊥

  abbrev pub flat_of : Word → Flat
  flat_of w = record {
    kind = w;
    vars = o.vars;
    conditions = (collected scope o.select).conditions;
    fields = fields_seen
        scope o.select;
  }

-- the faults in their order
abbrev pub fault_order : List FlatFault
fault_order = fault.NotServed ∷ fault.UnknownFragment ∷ fault.FragmentCycle ∷ fault.NoDirective ∷ fault.NotBoolean
    ∷ fault.TooLarge ∷ fault.Conflict ∷ []

-- x is the first of the list that holds
abbrev pub IsFirst : (FlatFault → Type 0) → List FlatFault → FlatFault → Type 0
IsFirst Holds [] x = ⊥
IsFirst Holds (y ∷ ys) x = (Holds y × (x ≡ y)) ⊎ ((Holds y → ⊥) × IsFirst Holds ys x)

-- The flat selection of the wanted operation of a document, with these values for its variables, or the first fault.
pub data Flattens (d : Document) (wanted : Option Text) (values : Members) : Result Flat FlatFault → Type 0 where
  not_chosen : {x : FlatFault} → chosen wanted (operations d) ≡ Err x → Flattens d wanted values (Err x)
  refused : {o : Operation} {x : FlatFault} → chosen wanted (operations d) ≡ Ok o →
      IsFirst (HasFault d values o) fault_order x → Flattens d wanted values (Err x)
  flattened : {o : Operation} {w : Word} → chosen wanted (operations d) ≡ Ok o →
      AllByRecursion (λ x. HasFault d values o x → ⊥) fault_order → served o.word ≡ Some w →
      Flattens d wanted values (Ok (flat_of d values o w))
