-- The values of variables are of their types, and what the walk lets pass is bound and of the kind that is wanted.
use Rattle.std.proofs.Common.{◌≡◌, ℤ, Bool, true, false, not, ◌&&◌, ◌||◌, if◌then◌else◌, List, [], ◌∷◌, Option, Some, None, option_map, Result, Ok, Err, refl, ap, sym, ◌∙◌, subst}
use Rattle.std.proofs.lemmas.Bool.{and_from, and_parts}
use Rattle.std.specs.List.{AllByRecursion}
use Rattle.std.specs.Str.{bytes_eq}
use Rattle.serde_json.specs.Data.{Members}
use Rattle.serde_json.specs.Find.{get_member}
use Rattle.scalar_val.specs.declared.val.Kind.{Kind}
use Rattle.scalar_val.specs.declared.val.Kind.TheVariants as kind
use Rattle.scalar_val.specs.declared.val.Val.{Val}
use Rattle.scalar_val.specs.declared.val.Val.TheVariants as val
use Rattle.scalar_val.specs.Spellings.{fitted, within}
use Rattle.plan_model.specs.declared.filter.Slot.{Slot}
use Rattle.plan_model.specs.declared.filter.Slot.TheVariants.{One, Many}
use Rattle.scalar_val.specs.Values.{is_null, same_kind}
use Rattle.plan_model.specs.Values.{is_bool}
use Rattle.request_model.specs.declared.document.VarDef.{VarDef}
use Rattle.request_model.specs.Strings.{Text}
use Rattle.query_model.specs.declared.fault.FaultKind.{FaultKind}
use Rattle.query_model.specs.declared.fault.FaultKind.TheVariants as fault
use Rattle.query_model.specs.declared.fault.QueryFault.{QueryFault}
use Rattle.query_model.specs.declared.variable.VarType.{VarType}
use Rattle.query_model.specs.declared.variable.Variable.{Variable}
use Rattle.query_model.specs.Variables.{Input, Single, Several, null_unless, or_wrong, as_list, item_values, input_value, counted, type_of, with_value, typed_variable, variable_of, variable_named, slot_in, variable_slot}
use Rattle.query_model.specs.Refusals.{refusal, refused, refused_if}
use Rattle.query_model.specs.ValueFaults.{has_type, declared_fault}
use Rattle.query_model.specs.Admission.{with_variable, variables_of}
use Rattle.query_model.proofs.Positions.{each_found}

-- ---- values of kinds, as far as is asked

abbrev pub is_int : Val → Bool
is_int (val.Int z) = true
is_int _ = false

abbrev pub is_of : Kind → Val → Bool
is_of kind.Bool x = is_bool x
is_of kind.Int x = is_int x
is_of _ x = true

pub none_some : {A : Type 0} (x : A) → ◌≡◌ {A = Option A} None (Some x) → ⊥
none_some x h = cc

pub some_none : {A : Type 0} (x : A) → ◌≡◌ {A = Option A} (Some x) None → ⊥
some_none x h = cc

pub same_some : {A : Type 0} (x y : A) → ◌≡◌ {A = Option A} (Some x) (Some y) → x ≡ y
same_some x y h = cc

pub fitted_of : (k : Kind) (x y : Val) → fitted k x ≡ Some y → is_of k y ≡ true
fitted_of kind.Bool (val.Bool b) y h = ap is_bool (sym (same_some (val.Bool b) y h))
fitted_of kind.Bool val.Null y h = absurd (none_some y h)
fitted_of kind.Bool (val.Int z) y h = absurd (none_some y h)
fitted_of kind.Bool (val.Big z) y h = absurd (none_some y h)
fitted_of kind.Bool (val.Text t) y h = absurd (none_some y h)
fitted_of kind.Bool (val.Uuid n) y h = absurd (none_some y h)
fitted_of kind.Int (val.Big z) y h = go (within 31 z) h
  where
    go : (o : Option ℤ) → option_map val.Int o ≡ Some y → is_int y ≡ true
    go None k = absurd (none_some y k)
    go (Some i) k = ap is_int (sym (same_some (val.Int i) y k))
fitted_of kind.Int val.Null y h = absurd (none_some y h)
fitted_of kind.Int (val.Bool b) y h = absurd (none_some y h)
fitted_of kind.Int (val.Int z) y h = absurd (none_some y h)
fitted_of kind.Int (val.Text t) y h = absurd (none_some y h)
fitted_of kind.Int (val.Uuid n) y h = absurd (none_some y h)
fitted_of kind.Big x y h = refl
fitted_of kind.Text x y h = refl
fitted_of kind.Uuid x y h = refl

-- ---- variables

abbrev pub typed : VarType → Slot → Bool
typed t (One x) = is_null x || (not t.listed && is_of t.kind x)
typed t (Many xs) = t.listed

abbrev pub Typed : Variable → Type 0
Typed x = typed x.type_ x.value ≡ true

wrong_result : {A : Type 0} (e : FaultKind) (x : A) → ◌≡◌ {A = Result A FaultKind} (Err e) (Ok x) → ⊥
wrong_result e x h = cc

same_result : {A E : Type 0} (x y : A) → ◌≡◌ {A = Result A E} (Ok x) (Ok y) → x ≡ y
same_result x y h = cc

or_right : (a b : Bool) → b ≡ true → (a || b) ≡ true
or_right true b h = refl
or_right false b h = h

module _ (t : VarType) where
  several_typed : (b : Bool) → t.listed ≡ b → (o : Option (List Val)) (s : Slot) → (if b then or_wrong (option_map Many o) else Err fault.WrongType) ≡ Ok s → typed t s ≡ true
  several_typed true e None s h = absurd (wrong_result fault.WrongType s h)
  several_typed true e (Some xs) s h = ap (typed t) (sym (same_result (Many xs) s h)) ∙ e
  several_typed false e o s h = absurd (wrong_result fault.WrongType s h)

  null_typed : (b : Bool) (s : Slot) → null_unless b ≡ Ok s → typed t s ≡ true
  null_typed true s h = absurd (wrong_result fault.MissingVariable s h)
  null_typed false s h = ap (typed t) (sym (same_result (One val.Null) s h))

  one_typed : (b : Bool) → t.listed ≡ b → (o : Option Val) → ((y : Val) → o ≡ Some y → is_of t.kind y ≡ true) → (s : Slot) → or_wrong (option_map (as_list b) o) ≡ Ok s → typed t s ≡ true
  one_typed b e None of_kind s h = absurd (wrong_result fault.WrongType s h)
  one_typed true e (Some y) of_kind s h = ap (typed t) (sym (same_result (Many (y ∷ [])) s h)) ∙ e
  one_typed false e (Some y) of_kind s h =
      ap (typed t) (sym (same_result (One y) s h)) ∙ or_right (is_null y) (not t.listed && is_of t.kind y) (and_from (not t.listed) (is_of t.kind y) (ap not e) (of_kind y refl))

  input_typed : (x : Input) (s : Slot) → input_value t x ≡ Ok s → typed t s ≡ true
  input_typed (Single None) s h = absurd (wrong_result fault.WrongType s h)
  input_typed (Single (Some x)) s h = go (is_null x) h
    where
      go : (b : Bool) → (if b then null_unless t.strict else or_wrong (option_map (as_list t.listed) (fitted t.kind x))) ≡ Ok s → typed t s ≡ true
      go true k = null_typed t.strict s k
      go false k = one_typed t.listed refl (fitted t.kind x) (fitted_of t.kind x) s k
  input_typed (Several xs) s h = several_typed t.listed refl (item_values t xs) s h

variable_typed : (values : Members) (d : VarDef) (x : Variable) → variable_of values d ≡ Ok x → Typed x
variable_typed values d x h = go (type_of d.kind) h
  where
    valued : (t : VarType) (r : Result Slot FaultKind) → ((s : Slot) → r ≡ Ok s → typed t s ≡ true) → with_value d.name t r ≡ Ok x → Typed x
    valued t (Err e) good k = absurd (wrong_result e x k)
    valued t (Ok s) good k = subst Typed (same_result (record { name = d.name; type_ = t; value = s }) x k) (good s refl)

    go : (o : Option VarType) → typed_variable d.name (counted (get_member d.name values) d.default) o ≡ Ok x → Typed x
    go None k = absurd (wrong_result fault.WrongType x k)
    go (Some t) k = valued t (input_value t (counted (get_member d.name values) d.default)) (input_typed t (counted (get_member d.name values) d.default)) k

pub variables_typed : (values : Members) (ds : List VarDef) (xs : List Variable) → variables_of values ds ≡ Ok xs → AllByRecursion Typed xs
variables_typed values [] xs h = subst (AllByRecursion Typed) (same_result {E = QueryFault} [] xs h) tt
variables_typed values (d ∷ ds) xs h = go (variable_of values d) (variables_of values ds) (variable_typed values d) (variables_typed values ds) h
  where
    go : (r : Result Variable FaultKind) (more : Result (List Variable) QueryFault) → ((x : Variable) → r ≡ Ok x → Typed x) → ((ys : List Variable) → more ≡ Ok ys → AllByRecursion Typed ys) → with_variable d.name r more ≡ Ok xs → AllByRecursion Typed xs
    go (Err e) more a b k = absurd (let q : ◌≡◌ {A = Result (List Variable) QueryFault} (Err (refusal e d.name)) (Ok xs) = k in cc)
    go (Ok x) (Err e) a b k = absurd (let q : ◌≡◌ {A = Result (List Variable) QueryFault} (Err e) (Ok xs) = k in cc)
    go (Ok x) (Ok ys) a b k = subst (AllByRecursion Typed) (same_result {E = QueryFault} (x ∷ ys) xs k) (a x refl, b ys refl)

-- ---- what the walk lets pass

pub passed_if : (b : Bool) (k : FaultKind) (name : Text) → refused_if b k name ≡ None → b ≡ false
passed_if true k name h = absurd (some_none (refusal k name) h)
passed_if false k name h = refl

pub clash : true ≡ false → ⊥
clash h = cc

kinds_same : (k l : Kind) → same_kind k l ≡ true → k ≡ l
kinds_same kind.Bool kind.Bool h = refl
kinds_same kind.Int kind.Int h = refl
kinds_same kind.Big kind.Big h = refl
kinds_same kind.Text kind.Text h = refl
kinds_same kind.Uuid kind.Uuid h = refl
kinds_same kind.Bool kind.Int h = absurd (clash (sym h))
kinds_same kind.Bool kind.Big h = absurd (clash (sym h))
kinds_same kind.Bool kind.Text h = absurd (clash (sym h))
kinds_same kind.Bool kind.Uuid h = absurd (clash (sym h))
kinds_same kind.Int kind.Bool h = absurd (clash (sym h))
kinds_same kind.Int kind.Big h = absurd (clash (sym h))
kinds_same kind.Int kind.Text h = absurd (clash (sym h))
kinds_same kind.Int kind.Uuid h = absurd (clash (sym h))
kinds_same kind.Big kind.Bool h = absurd (clash (sym h))
kinds_same kind.Big kind.Int h = absurd (clash (sym h))
kinds_same kind.Big kind.Text h = absurd (clash (sym h))
kinds_same kind.Big kind.Uuid h = absurd (clash (sym h))
kinds_same kind.Text kind.Bool h = absurd (clash (sym h))
kinds_same kind.Text kind.Int h = absurd (clash (sym h))
kinds_same kind.Text kind.Big h = absurd (clash (sym h))
kinds_same kind.Text kind.Uuid h = absurd (clash (sym h))
kinds_same kind.Uuid kind.Bool h = absurd (clash (sym h))
kinds_same kind.Uuid kind.Int h = absurd (clash (sym h))
kinds_same kind.Uuid kind.Big h = absurd (clash (sym h))
kinds_same kind.Uuid kind.Text h = absurd (clash (sym h))

module _ (vars : List Variable) (all : AllByRecursion Typed vars) where
  -- the slot of a variable that is declared as wanted: its value is one of the kind or null, or a list or null
  abbrev pub Declared : Bool → Kind → Slot → Type 0
  Declared listed k s = (t : VarType) × (t.listed ≡ listed) × (k ≡ t.kind) × (typed t s ≡ true)

  pub declared : (listed : Bool) (k : Kind) (judge : Slot → Option QueryFault) (name : Text) → declared_fault vars listed k judge name (variable_named vars name) ≡ None →
      Declared listed k (variable_slot vars name) × (judge (variable_slot vars name) ≡ None)
  declared listed k judge name h = go (variable_named vars name) refl h
    where
      listed_is : (b : Bool) (x : Variable) → (if b then x.type_.listed else not x.type_.listed) ≡ true → x.type_.listed ≡ b
      listed_is true x e = e
      listed_is false x e = turned x.type_.listed e
        where
          turned : (c : Bool) → not c ≡ true → c ≡ false
          turned true k = absurd (clash (sym k))
          turned false k = refl

      found : (x : Variable) → variable_named vars name ≡ Some x → (b : Bool) → has_type vars listed k x ≡ b → (if b then judge x.value else refused fault.WrongType name) ≡ None →
          Declared listed k (slot_in (Some x)) × (judge (slot_in (Some x)) ≡ None)
      found x e true t j =
          let parts = and_parts (same_kind k x.type_.kind) (if listed then x.type_.listed else not x.type_.listed) t in
          ((x.type_, listed_is listed x parts.1, kinds_same k x.type_.kind parts.0, (each_found Typed (λ (y : Variable). bytes_eq name y.name) vars x all e).0), j)
      found x e false t j = absurd (some_none (refusal fault.WrongType name) j)

      go : (o : Option Variable) → variable_named vars name ≡ o → declared_fault vars listed k judge name o ≡ None → Declared listed k (slot_in o) × (judge (slot_in o) ≡ None)
      go None e j = absurd (some_none (refusal fault.MissingVariable name) j)
      go (Some x) e j = found x e (has_type vars listed k x) refl j
