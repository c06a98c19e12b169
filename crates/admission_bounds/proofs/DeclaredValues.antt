-- Where the walk finds no fault in a value, each variable that stands in it is declared.
use Rattle.std.proofs.Common.{◌≡◌, ℕ, Bool, true, false, ◌||◌, if◌then◌else◌, List, [], ◌∷◌, map, find, cond, is_none, Option, Some, None, option_and_then, refl, sym, subst}
use Rattle.std.specs.Prelude.{codes}
use Rattle.std.specs.Str.{bytes_eq}
use Rattle.std.specs.List.{list_any, AllByRecursion}
use Rattle.scalar_val.specs.declared.val.Kind.{Kind}
use Rattle.scalar_val.specs.declared.val.Kind.TheVariants as kind
use Rattle.plan_model.specs.declared.filter.Slot.{Slot}
use Rattle.role_model.specs.Roles.{View, column_seen}
use Rattle.request_model.specs.declared.document.GValue.{GValue}
use Rattle.request_model.specs.declared.document.GValue.TheOpen.{GValue-F}
use Rattle.request_model.specs.declared.document.GValue.TheViews.{out-GValue}
use Rattle.request_model.specs.declared.document.GValue.TheFolds.{map-GValue, fold-GPair, fold_out-GValue}
use Rattle.request_model.specs.declared.document.GPair.{GPair}
use Rattle.request_model.specs.Strings.{Text}
use Rattle.request_model.specs.Selection.{concatenated}
use Rattle.request_model.specs.SelectionLaws.{bare_object_by, bare_cursor_by, bare_cursor}
use Rattle.query_model.specs.declared.fault.FaultKind.TheVariants as fault
use Rattle.query_model.specs.declared.fault.QueryFault.{QueryFault}
use Rattle.query_model.specs.Names.{literal_by, literal_value, variable_by, items_by, enum_by, pair_name, pair_value, pairs_by}
use Rattle.query_model.specs.declared.variable.Variable.{Variable}
use Rattle.query_model.specs.Variables.{variable_named}
use Rattle.query_model.specs.Conditions.{order_named}
use Rattle.query_model.specs.Queries.{value_names, value_names_step, pair_names_step}
use Rattle.query_model.specs.Refusals.{refusal, refused, refused_if, or_then, first_of}
use Rattle.query_model.specs.ValueFaults.{declared_fault, by_variable, literal_fault, null_slot_fault, single_fault, null_list_fault, list_fault, null_by, object_by}
use Rattle.query_model.specs.CountFaults.{negative_slot_fault, negative_fault, count_fault, batch_fault}
use Rattle.query_model.specs.OrderFaults.{order_key_fault, order_fault, orders_fault}
use Rattle.query_model.proofs.QueryRules.{names-pair}
use Rattle.admission_laws.proofs.BareNames.{pair_names}
use Rattle.admission_laws.proofs.OnePlan.{map_same}
use Rattle.admission_laws.proofs.PlansThere.{neither}
use Rattle.admission_laws.proofs.TypedValues.{passed_if, clash, some_none}
use Rattle.query_model.proofs.Positions.{each_joined_all}

-- ---- the names in a value

abbrev pub names_by : GValue-F GValue GPair → List Text
names_by f = value_names_step (map-GValue GValue GPair (List Text) (List Text) value_names (fold-GPair (List Text) (List Text) value_names_step pair_names_step) f)

pub names_out : (x : GValue) → value_names x ≡ names_by (out-GValue x)
names_out x = fold_out-GValue (List Text) (List Text) value_names_step pair_names_step x

module _ (vars : List Variable) where
  abbrev pub IsDeclared : Text → Type 0
  IsDeclared n = list_any (λ (x : Variable). bytes_eq n x.name) vars ≡ true

  abbrev pub AllDeclared : List Text → Type 0
  AllDeclared ns = AllByRecursion IsDeclared ns

  -- ---- lists of names

  pub each_concatenated : (nss : List (List Text)) → AllByRecursion AllDeclared nss → AllDeclared (concatenated nss)
  each_concatenated [] all = tt
  each_concatenated (ns ∷ nss) all = each_joined_all IsDeclared ns (concatenated nss) all.0 (each_concatenated nss all.1)

  pub each_value : (xs : List GValue) → AllByRecursion (λ x. AllDeclared (value_names x)) xs → AllDeclared (concatenated (map value_names xs))
  each_value [] all = tt
  each_value (x ∷ xs) all = each_joined_all IsDeclared (value_names x) (concatenated (map value_names xs)) all.0 (each_value xs all.1)

  pub each_pair : (ps : List GPair) → AllByRecursion (λ p. AllDeclared (pair_names p)) ps → AllDeclared (names_by (GValue-F.Object ps))
  each_pair ps all = subst (λ ts. AllDeclared (concatenated ts)) (sym (map_same (fold-GPair (List Text) (List Text) value_names_step pair_names_step) pair_names names-pair ps)) (go ps all)
    where
      go : (qs : List GPair) → AllByRecursion (λ p. AllDeclared (pair_names p)) qs → AllDeclared (concatenated (map pair_names qs))
      go [] all = tt
      go (q ∷ qs) all = each_joined_all IsDeclared (pair_names q) (concatenated (map pair_names qs)) all.0 (go qs all.1)

  -- what holds of a value's names holds of those of its form, and the other way round
  pub by_form : (x : GValue) → AllDeclared (names_by (out-GValue x)) → AllDeclared (value_names x)
  by_form x h = subst AllDeclared (sym (names_out x)) h

  pub of_form : (x : GValue) → AllDeclared (value_names x) → AllDeclared (names_by (out-GValue x))
  of_form x h = subst AllDeclared (names_out x) h

  -- ---- a variable in its place

  found_any : (p : Variable → Bool) (xs : List Variable) (x : Variable) → find p xs ≡ Some x → list_any p xs ≡ true
  found_any p [] x h = absurd (let q : ◌≡◌ {A = Option Variable} None (Some x) = h in cc)
  found_any p (y ∷ ys) x h = go (p y) h (found_any p ys x)
    where
      go : (b : Bool) → cond b (Some y) (find p ys) ≡ Some x → (find p ys ≡ Some x → list_any p ys ≡ true) → (b || list_any p ys) ≡ true
      go true k more = refl
      go false k more = more k

  pub declared : (listed : Bool) (k : Kind) (judge : Slot → Option QueryFault) (name : Text) → declared_fault vars listed k judge name (variable_named vars name) ≡ None → IsDeclared name
  declared listed k judge name h = go (variable_named vars name) refl h
    where
      go : (o : Option Variable) → variable_named vars name ≡ o → declared_fault vars listed k judge name o ≡ None → IsDeclared name
      go None e j = absurd (some_none (refusal fault.MissingVariable name) j)
      go (Some x) e j = found_any (λ (y : Variable). bytes_eq name y.name) vars x e

  -- ---- single values

  single_form : (place : Text) (k : Kind) (f : GValue-F GValue GPair) → by_variable vars false k (null_slot_fault vars place) (literal_fault vars place k (literal_by f)) (variable_by f) ≡ None → AllDeclared (names_by f)
  single_form place k (GValue-F.Var name) h = (declared false k (null_slot_fault vars place) name h, tt)
  single_form place k (GValue-F.Int t) h = tt
  single_form place k (GValue-F.Text t) h = tt
  single_form place k (GValue-F.Bool t) h = tt
  single_form place k GValue-F.Null h = tt
  single_form place k (GValue-F.Enum name) h = tt
  single_form place k (GValue-F.Many xs) h = absurd (some_none (refusal fault.WrongType place) h)
  single_form place k (GValue-F.Object ps) h = absurd (some_none (refusal fault.WrongType place) h)

  pub single_declared : (place : Text) (k : Kind) (x : GValue) → single_fault vars place k x ≡ None → AllDeclared (value_names x)
  single_declared place k x h = by_form x (single_form place k (out-GValue x) h)

  -- a key column may be called `cursor`, and its value is a single one
  pub single_bare : (place : Text) (k : Kind) (x : GValue) → single_fault vars place k x ≡ None → AllDeclared (value_names (bare_cursor x))
  single_bare place k x h = go (out-GValue x) h (single_declared place k x h)
    where
      go : (f : GValue-F GValue GPair) → by_variable vars false k (null_slot_fault vars place) (literal_fault vars place k (literal_by f)) (variable_by f) ≡ None → AllDeclared (value_names x) → AllDeclared (value_names (bare_cursor_by (bare_object_by x f) f))
      go (GValue-F.Var name) h one = one
      go (GValue-F.Int t) h one = one
      go (GValue-F.Text t) h one = one
      go (GValue-F.Bool t) h one = one
      go GValue-F.Null h one = one
      go (GValue-F.Enum name) h one = one
      go (GValue-F.Many xs) h one = absurd (some_none (refusal fault.WrongType place) h)
      go (GValue-F.Object ps) h one = absurd (some_none (refusal fault.WrongType place) h)

  -- ---- lists of values

  singles_declared : (place : Text) (k : Kind) (xs : List GValue) → first_of (map (single_fault vars place k) xs) ≡ None → AllByRecursion (λ x. AllDeclared (value_names x)) xs
  singles_declared place k [] h = tt
  singles_declared place k (x ∷ xs) h =
      let parts = neither (single_fault vars place k x) (first_of (map (single_fault vars place k) xs)) h in
      (single_declared place k x parts.0, singles_declared place k xs parts.1)

  pub list_declared : (place : Text) (k : Kind) (x : GValue) → list_fault vars place k x ≡ None → AllDeclared (value_names x)
  list_declared place k x h = by_form x (go (out-GValue x) (λ e. of_form x (singles_declared place k (x ∷ []) e).0) h)
    where
      go : (f : GValue-F GValue GPair) → (first_of (map (single_fault vars place k) (x ∷ [])) ≡ None → AllDeclared (names_by f)) →
          by_variable vars true k (null_list_fault vars place) (first_of (map (single_fault vars place k) (items_by x f))) (variable_by f) ≡ None → AllDeclared (names_by f)
      go (GValue-F.Var name) one h = (declared true k (null_list_fault vars place) name h, tt)
      go (GValue-F.Int t) one h = tt
      go (GValue-F.Text t) one h = tt
      go (GValue-F.Bool t) one h = tt
      go GValue-F.Null one h = tt
      go (GValue-F.Enum name) one h = tt
      go (GValue-F.Many xs) one h = each_value xs (singles_declared place k xs h)
      go (GValue-F.Object ps) one h = one h

  -- ---- counts

  pub count_declared : (place : Text) (x : GValue) → count_fault vars place x ≡ None → AllDeclared (value_names x)
  count_declared place x h = by_form x (go (out-GValue x) h)
    where
      go : (f : GValue-F GValue GPair) →
          by_variable vars false kind.Int (negative_slot_fault vars place) (if null_by f then None else or_then (literal_fault vars place kind.Int (literal_by f)) (negative_fault vars place (literal_value kind.Int x))) (variable_by f) ≡ None →
          AllDeclared (names_by f)
      go (GValue-F.Var name) h = (declared false kind.Int (negative_slot_fault vars place) name h, tt)
      go (GValue-F.Int t) h = tt
      go (GValue-F.Text t) h = tt
      go (GValue-F.Bool t) h = tt
      go GValue-F.Null h = tt
      go (GValue-F.Enum name) h = tt
      go (GValue-F.Many xs) h = absurd (some_none (refusal fault.WrongType place) h)
      go (GValue-F.Object ps) h = absurd (some_none (refusal fault.WrongType place) h)

  pub batch_declared : (place : Text) (x : GValue) → batch_fault vars place x ≡ None → AllDeclared (value_names x)
  batch_declared place x h = single_declared place kind.Int x (neither (single_fault vars place kind.Int x) _ h).0

  -- ---- orders

  module _ (v : View) where
    enum_form : (f : GValue-F GValue GPair) → is_none (option_and_then order_named (enum_by f)) ≡ false → AllDeclared (names_by f)
    enum_form (GValue-F.Var name) h = absurd (clash h)
    enum_form (GValue-F.Int t) h = tt
    enum_form (GValue-F.Text t) h = tt
    enum_form (GValue-F.Bool t) h = tt
    enum_form GValue-F.Null h = tt
    enum_form (GValue-F.Enum name) h = tt
    enum_form (GValue-F.Many xs) h = absurd (clash h)
    enum_form (GValue-F.Object ps) h = absurd (clash h)

    order_key_declared : (table : ℕ) (p : GPair) → order_key_fault vars v table p ≡ None → AllDeclared (pair_names p)
    order_key_declared table p h = go (is_none (column_seen v table (pair_name p))) h
      where
        go : (c : Bool) → (if c then refused fault.NoArgument (pair_name p) else refused_if (is_none (option_and_then order_named (enum_by (out-GValue (pair_value p))))) fault.WrongType (pair_name p)) ≡ None → AllDeclared (pair_names p)
        go true k = absurd (some_none (refusal fault.NoArgument (pair_name p)) k)
        go false k =
            by_form (pair_value p) (enum_form (out-GValue (pair_value p)) (passed_if (is_none (option_and_then order_named (enum_by (out-GValue (pair_value p))))) fault.WrongType (pair_name p) k))

    order_keys_declared : (table : ℕ) (ps : List GPair) → first_of (map (order_key_fault vars v table) ps) ≡ None → AllByRecursion (λ p. AllDeclared (pair_names p)) ps
    order_keys_declared table [] h = tt
    order_keys_declared table (p ∷ ps) h =
        let parts = neither (order_key_fault vars v table p) (first_of (map (order_key_fault vars v table) ps)) h in
        (order_key_declared table p parts.0, order_keys_declared table ps parts.1)

    order_form : (table : ℕ) (f : GValue-F GValue GPair) → (if object_by f then first_of (map (order_key_fault vars v table) (pairs_by f)) else refused fault.WrongType (codes "order_by")) ≡ None → AllDeclared (names_by f)
    order_form table (GValue-F.Object ps) h = each_pair ps (order_keys_declared table ps h)
    order_form table (GValue-F.Var name) h = absurd (some_none (refusal fault.WrongType (codes "order_by")) h)
    order_form table (GValue-F.Int t) h = tt
    order_form table (GValue-F.Text t) h = tt
    order_form table (GValue-F.Bool t) h = tt
    order_form table GValue-F.Null h = tt
    order_form table (GValue-F.Enum name) h = tt
    order_form table (GValue-F.Many xs) h = absurd (some_none (refusal fault.WrongType (codes "order_by")) h)

    orders_each : (table : ℕ) (xs : List GValue) → first_of (map (order_fault vars v table) xs) ≡ None → AllByRecursion (λ x. AllDeclared (value_names x)) xs
    orders_each table [] h = tt
    orders_each table (x ∷ xs) h =
        let parts = neither (order_fault vars v table x) (first_of (map (order_fault vars v table) xs)) h in
        (by_form x (order_form table (out-GValue x) parts.0), orders_each table xs parts.1)

    pub orders_declared : (table : ℕ) (x : GValue) → orders_fault vars v table x ≡ None → AllDeclared (value_names x)
    orders_declared table x h = by_form x (go (out-GValue x) (λ e. of_form x (orders_each table (x ∷ []) e).0) h)
      where
        go : (f : GValue-F GValue GPair) → (first_of (map (order_fault vars v table) (x ∷ [])) ≡ None → AllDeclared (names_by f)) →
            (if null_by f then None else first_of (map (order_fault vars v table) (items_by x f))) ≡ None → AllDeclared (names_by f)
        go (GValue-F.Var name) one h = one h
        go (GValue-F.Int t) one h = tt
        go (GValue-F.Text t) one h = tt
        go (GValue-F.Bool t) one h = tt
        go GValue-F.Null one h = tt
        go (GValue-F.Enum name) one h = tt
        go (GValue-F.Many xs) one h = each_value xs (orders_each table xs h)
        go (GValue-F.Object ps) one h = one h
