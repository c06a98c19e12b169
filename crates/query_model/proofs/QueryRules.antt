-- Conditions, admission and results, an equation for each form.
use Rattle.std.proofs.Common.{◌≡◌, ◌∙◌, ℕ, Bool, List, [], ◌∷◌, map, Option, ap, sym}
use Rattle.std.specs.Prelude.{codes}
use Rattle.data_model.specs.Rows.{Row}
use Rattle.plan_model.specs.declared.filter.Filter.{Filter}
use Rattle.plan_model.specs.declared.filter.Filter.TheVariants as filter
use Rattle.plan_model.proofs.FilterRules.{filter-And, filter-Or, filter-Cmp}
use Rattle.role_model.specs.Roles.{View}
use Rattle.request_model.specs.declared.document.GValue.{GValue}
use Rattle.request_model.specs.declared.document.GValue.TheVariants as v
use Rattle.request_model.specs.declared.document.GValue.TheVariants.{rolls-Many, rolls-Object, rolls-Var, rolls-Int, rolls-Null, rolls-Enum}
use Rattle.request_model.specs.declared.document.GValue.TheViews.{out-GValue, roll-out-GValue, out-GPair, roll-GPair, roll-out-GPair}
use Rattle.request_model.specs.declared.document.GValue.TheFolds.{map-GValue, para-roll-GValue, para-roll-GPair, fold-GPair, fold-roll-GValue, fold_out-GPair}
use Rattle.request_model.specs.declared.document.GPair.{GPair}
use Rattle.request_model.specs.declared.document.TypeRef.TheViews.{outs-Named, outs-Listed}
use Rattle.request_model.specs.declared.flat.FlatField.{FlatField}
use Rattle.request_model.specs.declared.flat.FlatField.TheOpen.{FlatField-F}
use Rattle.request_model.specs.declared.flat.FlatField.TheViews.{roll-FlatField, out-roll-FlatField}
use Rattle.request_model.specs.declared.flat.FlatField.TheFolds.{fold-FlatField, fold-roll-FlatField}
use Rattle.request_model.specs.Strings.{Text}
use Rattle.request_model.specs.Selection.{concatenated}
use Rattle.query_model.specs.declared.fault.QueryFault.{QueryFault}
use Rattle.query_model.specs.Conditions.{Reader, Conditions, conditions_in, condition_at, conditions_step, key_filter}
use Rattle.query_model.specs.Refusals.{refused, first_of}
use Rattle.query_model.specs.ConditionFaults.{Judged, judged, judged_at, condition_step, key_fault, keys_fault}
use Rattle.query_model.specs.declared.fault.FaultKind.TheVariants as fault
use Rattle.query_model.specs.declared.variable.Variable.{Variable}
use Rattle.query_model.specs.Queries.{value_names, value_names_step, pair_names_step}

-- ---- folds of fields whose step gives a function

module _ {B : Type 0} (key name : Text) (args : List GPair) (nested : Bool) (conditions : List Text) (fields : List FlatField) where
  pub fold-in : (step : FlatField-F (ℕ → B) → ℕ → B) (table : ℕ) →
      fold-FlatField (ℕ → B) step (roll-FlatField (record { key = key; name = name; args = args; nested = nested; conditions = conditions; fields = fields })) table ≡
      step (record { key = key; name = name; args = args; nested = nested; conditions = conditions; fields = map (fold-FlatField (ℕ → B) step) fields }) table
  fold-in step table = ap (λ (f : ℕ → B). f table) (fold-roll-FlatField (ℕ → B) step _)

  pub fold-at : (step : FlatField-F (ℕ → Row → B) → ℕ → Row → B) (table : ℕ) (row : Row) →
      fold-FlatField (ℕ → Row → B) step (roll-FlatField (record { key = key; name = name; args = args; nested = nested; conditions = conditions; fields = fields })) table row ≡
      step (record { key = key; name = name; args = args; nested = nested; conditions = conditions; fields = map (fold-FlatField (ℕ → Row → B) step) fields }) table row
  fold-at step table row = ap (λ (f : ℕ → Row → B). f table row) (fold-roll-FlatField (ℕ → Row → B) step _)

-- ---- conditions

module _ (w : View) (r : Reader) where
  pub object-one : (pairs : List GPair) (table : ℕ) →
      (conditions_in w r (v.Object pairs)).one table ≡ filter.And (map (λ (p : GPair × (ℕ → Filter)). p.1 table) (map (λ p. (p, condition_at w r p)) pairs))
  unfolding conditions_in condition_at
  object-one pairs table =
      ap (λ (x : GValue). (conditions_in w r x).one table) (sym (rolls-Object pairs))
      ∙ ap (λ (c : Conditions). c.one table) (para-roll-GValue Conditions (ℕ → Filter) (conditions_step w r) (key_filter w r) _)

  -- as a list of conditions: one alone, and those of a list
  pub object-many : (pairs : List GPair) (table : ℕ) →
      (conditions_in w r (v.Object pairs)).many table ≡
      filter.And (map (λ (p : GPair × (ℕ → Filter)). p.1 table) (map (λ p. (p, condition_at w r p)) pairs)) ∷ []
  unfolding conditions_in condition_at
  object-many pairs table =
      ap (λ (x : GValue). (conditions_in w r x).many table) (sym (rolls-Object pairs))
      ∙ ap (λ (c : Conditions). c.many table)
      (para-roll-GValue Conditions (ℕ → Filter) (conditions_step w r) (key_filter w r) _)

  pub items-many : (items : List GValue) (table : ℕ) →
      (conditions_in w r (v.Many items)).many table ≡
      map (λ (x : GValue × Conditions). x.1.one table) (map (λ x. (x, conditions_in w r x)) items)
  unfolding conditions_in condition_at
  items-many items table =
      ap (λ (x : GValue). (conditions_in w r x).many table) (sym (rolls-Many items))
      ∙ ap (λ (c : Conditions). c.many table)
      (para-roll-GValue Conditions (ℕ → Filter) (conditions_step w r) (key_filter w r) _)

  pub key-is : (p : GPair) (table : ℕ) →
      condition_at w r p table ≡ key_filter w r (record { name = (out-GPair p).name; value = ((out-GPair p).value, conditions_in w r (out-GPair p).value) }) table
  unfolding conditions_in condition_at
  key-is p table =
      ap (λ (x : GPair). condition_at w r x table) (sym (roll-out-GPair p))
      ∙ ap (λ (f : ℕ → Filter). f table) (para-roll-GPair Conditions (ℕ → Filter) (conditions_step w r) (key_filter w r) _)

  -- a condition that isn't so, from the one that is
  pub not-one : (x : GValue) (table : ℕ) (f : Filter) → (conditions_in w r x).one table ≡ f →
      (conditions_in w r (v.Object (roll-GPair (record { name = codes "_not"; value = x }) ∷ []))).one table ≡ filter.And (filter.Not f ∷ [])
  not-one x table f is =
      object-one (roll-GPair (record { name = codes "_not"; value = x }) ∷ []) table
      ∙ ap (λ (g : Filter). filter.And (g ∷ [])) (key-is (roll-GPair (record { name = codes "_not"; value = x })) table)
      ∙ ap (λ (g : Filter). filter.And (filter.Not g ∷ [])) is

  -- each form at once: what the value's own layer gives, with its parts read
  pub conditions-is : (x : GValue) → conditions_in w r x ≡ conditions_step w r (map-GValue GValue GPair (GValue × Conditions) (GPair × (ℕ → Filter)) (λ y. (y, conditions_in w r y)) (λ p. (p, condition_at w r p)) (out-GValue x))
  unfolding conditions_in condition_at
  conditions-is x = ap (conditions_in w r) (sym (roll-out-GValue x)) ∙ para-roll-GValue Conditions (ℕ → Filter) (conditions_step w r) (key_filter w r) (out-GValue x)

-- ---- the walk over conditions

module _ (vars : List Variable) (w : View) where
  pub judged-object : (pairs : List GPair) (blamed : Text) (table : ℕ) →
      (judged vars w (v.Object pairs)).one blamed table ≡ keys_fault vars w table [] (map (λ p. (p, judged_at vars w p)) pairs)
  unfolding judged judged_at
  judged-object pairs blamed table =
      ap (λ (x : GValue). (judged vars w x).one blamed table) (sym (rolls-Object pairs))
      ∙ ap (λ (c : Judged). c.one blamed table) (para-roll-GValue Judged (ℕ → Option QueryFault) (condition_step vars w) (key_fault vars w) _)

  pub judged-key : (p : GPair) (table : ℕ) →
      judged_at vars w p table ≡ key_fault vars w (record { name = (out-GPair p).name; value = ((out-GPair p).value, judged vars w (out-GPair p).value) }) table
  unfolding judged judged_at
  judged-key p table =
      ap (λ (x : GPair). judged_at vars w x table) (sym (roll-out-GPair p))
      ∙ ap (λ (f : ℕ → Option QueryFault). f table) (para-roll-GPair Judged (ℕ → Option QueryFault) (condition_step vars w) (key_fault vars w) _)

module _ (vars : List Variable) (w : View) where
  pub judged-Var : (name blamed : Text) (table : ℕ) → (judged vars w (v.Var name)).one blamed table ≡ refused fault.WrongType blamed
  unfolding judged
  judged-Var name blamed table =
      ap (λ (x : GValue). (judged vars w x).one blamed table) (sym (rolls-Var name))
      ∙ ap (λ (c : Judged). c.one blamed table) (para-roll-GValue Judged (ℕ → Option QueryFault) (condition_step vars w) (key_fault vars w) _)

  pub judged-Int : (digits blamed : Text) (table : ℕ) → (judged vars w (v.Int digits)).one blamed table ≡ refused fault.WrongType blamed
  unfolding judged
  judged-Int digits blamed table =
      ap (λ (x : GValue). (judged vars w x).one blamed table) (sym (rolls-Int digits))
      ∙ ap (λ (c : Judged). c.one blamed table) (para-roll-GValue Judged (ℕ → Option QueryFault) (condition_step vars w) (key_fault vars w) _)

  pub judged-Many : (items : List GValue) (blamed : Text) (table : ℕ) → (judged vars w (v.Many items)).one blamed table ≡ refused fault.WrongType blamed
  unfolding judged
  judged-Many items blamed table =
      ap (λ (x : GValue). (judged vars w x).one blamed table) (sym (rolls-Many items))
      ∙ ap (λ (c : Judged). c.one blamed table) (para-roll-GValue Judged (ℕ → Option QueryFault) (condition_step vars w) (key_fault vars w) _)

  -- a list of conditions, item by item
  pub judged-several : (items : List GValue) (blamed : Text) (table : ℕ) →
      (judged vars w (v.Many items)).many blamed table ≡ first_of (map (λ (x : GValue × Judged). x.1.one blamed table) (map (λ y. (y, judged vars w y)) items))
  unfolding judged
  judged-several items blamed table =
      ap (λ (x : GValue). (judged vars w x).many blamed table) (sym (rolls-Many items))
      ∙ ap (λ (c : Judged). c.many blamed table) (para-roll-GValue Judged (ℕ → Option QueryFault) (condition_step vars w) (key_fault vars w) _)

  -- one condition for a list of them
  pub judged-object-many : (pairs : List GPair) (blamed : Text) (table : ℕ) →
      (judged vars w (v.Object pairs)).many blamed table ≡
      keys_fault vars w table [] (map (λ p. (p, judged_at vars w p)) pairs)
  unfolding judged judged_at
  judged-object-many pairs blamed table =
      ap (λ (x : GValue). (judged vars w x).many blamed table) (sym (rolls-Object pairs))
      ∙ ap (λ (c : Judged). c.many blamed table)
      (para-roll-GValue Judged (ℕ → Option QueryFault) (condition_step vars w) (key_fault vars w) _)

  -- as a list of conditions
  pub judged-many-null : (blamed : Text) (table : ℕ) → (judged vars w v.Null).many blamed table ≡ refused fault.WrongType blamed
  unfolding judged
  judged-many-null blamed table =
      ap (λ (x : GValue). (judged vars w x).many blamed table) (sym rolls-Null)
      ∙ ap (λ (c : Judged). c.many blamed table) (para-roll-GValue Judged (ℕ → Option QueryFault) (condition_step vars w) (key_fault vars w) _)

  -- each form at once
  pub judged-is : (x : GValue) → judged vars w x ≡ condition_step vars w (map-GValue GValue GPair (GValue × Judged) (GPair × (ℕ → Option QueryFault)) (λ y. (y, judged vars w y)) (λ p. (p, judged_at vars w p)) (out-GValue x))
  unfolding judged judged_at
  judged-is x = ap (judged vars w) (sym (roll-out-GValue x)) ∙ para-roll-GValue Judged (ℕ → Option QueryFault) (condition_step vars w) (key_fault vars w) (out-GValue x)

-- ---- the names of variables in values

pub names-Var : (name : Text) → value_names (v.Var name) ≡ name ∷ []
names-Var name = ap value_names (sym (rolls-Var name)) ∙ fold-roll-GValue (List Text) (List Text) value_names_step pair_names_step _

pub names-Int : (digits : Text) → value_names (v.Int digits) ≡ []
names-Int digits = ap value_names (sym (rolls-Int digits)) ∙ fold-roll-GValue (List Text) (List Text) value_names_step pair_names_step _

pub names-Null : value_names v.Null ≡ []
names-Null = ap value_names (sym rolls-Null) ∙ fold-roll-GValue (List Text) (List Text) value_names_step pair_names_step _

pub names-Enum : (name : Text) → value_names (v.Enum name) ≡ []
names-Enum name = ap value_names (sym (rolls-Enum name)) ∙ fold-roll-GValue (List Text) (List Text) value_names_step pair_names_step _

pub names-Many : (items : List GValue) → value_names (v.Many items) ≡ concatenated (map value_names items)
names-Many items = ap value_names (sym (rolls-Many items)) ∙ fold-roll-GValue (List Text) (List Text) value_names_step pair_names_step _

pub names-Object : (pairs : List GPair) → value_names (v.Object pairs) ≡ concatenated (map (fold-GPair (List Text) (List Text) value_names_step pair_names_step) pairs)
names-Object pairs = ap value_names (sym (rolls-Object pairs)) ∙ fold-roll-GValue (List Text) (List Text) value_names_step pair_names_step _

pub names-pair : (p : GPair) → fold-GPair (List Text) (List Text) value_names_step pair_names_step p ≡ value_names (out-GPair p).value
names-pair p = fold_out-GPair (List Text) (List Text) value_names_step pair_names_step p

pub ruleset queries = (outs-Named, outs-Listed, fold-in, fold-at, out-roll-FlatField, filter-And, filter-Or, filter-Cmp, object-one, object-many, items-many, key-is, judged-object, judged-key, judged-Var, judged-Int, judged-Many, judged-several, judged-object-many, judged-many-null, names-Var, names-Int, names-Null, names-Enum, names-Many, names-Object, names-pair)
