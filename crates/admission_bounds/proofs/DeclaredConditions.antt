-- Where the walk finds no fault in a condition or a cursor, each variable that stands in it is declared.
use Rattle.std.proofs.Common.{◌≡◌, ℕ, Bool, true, false, ◌||◌, if◌then◌else◌, List, [], ◌∷◌, map, is_some, Option, Some, None, refl, ap, sym, ◌∙◌, subst}
use Rattle.std.specs.Prelude.{codes}
use Rattle.std.specs.Str.{bytes_eq}
use Rattle.std.specs.List.{list_any, AllByRecursion}
use Rattle.scalar_val.specs.declared.val.Kind.{Kind}
use Rattle.scalar_val.specs.declared.val.Kind.TheVariants as kind
use Rattle.plan_model.specs.declared.filter.Op.{Op}
use Rattle.role_model.specs.JsonFilters.{op_named}
use Rattle.role_model.specs.Roles.{View, column_seen}
use Rattle.request_model.specs.declared.document.GValue.{GValue}
use Rattle.request_model.specs.declared.document.GValue.TheOpen.{GValue-F}
use Rattle.request_model.specs.declared.document.GValue.TheViews.{out-GValue, roll-GValue, out-roll-GValue, out-GPair, roll-GPair, out-roll-GPair}
use Rattle.request_model.specs.declared.document.GValue.TheFolds.{map-GValue, ind-GValue}
use Rattle.request_model.specs.declared.document.GPair.{GPair}
use Rattle.request_model.specs.Strings.{Text}
use Rattle.request_model.proofs.ReadArguments.{firsts}
use Rattle.query_model.specs.declared.fault.FaultKind.TheVariants as fault
use Rattle.query_model.specs.declared.fault.QueryFault.{QueryFault}
use Rattle.query_model.specs.Names.{kind_of, pair_name, pair_value, pairs_by}
use Rattle.query_model.specs.declared.variable.Variable.{Variable}
use Rattle.query_model.specs.Queries.{value_names}
use Rattle.query_model.specs.Refusals.{refusal, refused, first_of, pairs_fault}
use Rattle.query_model.specs.ConditionFaults.{Judged, operator_fault, column_fault, keys_fault, condition_step, judged, judged_at, where_fault}
use Rattle.query_model.specs.ValueFaults.{null_by, object_by, is_null_literal, single_fault, list_fault}
use Rattle.query_model.proofs.QueryRules.{judged-is, judged-key}
use Rattle.admission_laws.proofs.BareNames.{pair_names}
use Rattle.admission_laws.proofs.PlansThere.{neither}
use Rattle.admission_laws.proofs.TypedValues.{clash, some_none}
use Rattle.admission_laws.proofs.PassedConditions.{each_judged}
use Rattle.admission_bounds.proofs.DeclaredValues.{names_by, names_out, AllDeclared, each_value, each_pair, by_form, single_declared, list_declared}

module _ (vars : List Variable) (v : View) where
  abbrev Told : List Text → Type 0
  Told = AllDeclared vars

  -- ---- operators of a column

  operator_declared : (name : Text) (k : Kind) (p : GPair) → operator_fault vars v name k p ≡ None → Told (pair_names p)
  operator_declared name k p h = go (bytes_eq (pair_name p) (codes "_in")) (bytes_eq (pair_name p) (codes "_nin")) (bytes_eq (pair_name p) (codes "_is_null")) (op_named (pair_name p)) h
    where
      go : (x y z : Bool) (o : Option Op) →
          (if x || y then list_fault vars name k (pair_value p) else if z then single_fault vars name kind.Bool (pair_value p) else if is_some o then single_fault vars name k (pair_value p) else refused fault.WrongType name) ≡ None →
          Told (pair_names p)
      go true y z o e = list_declared vars name k (pair_value p) e
      go false true z o e = list_declared vars name k (pair_value p) e
      go false false true o e = single_declared vars name kind.Bool (pair_value p) e
      go false false false None e = absurd (some_none (refusal fault.WrongType name) e)
      go false false false (Some op) e = single_declared vars name k (pair_value p) e

  operators_declared : (name : Text) (k : Kind) (ps : List GPair) → AllByRecursion (λ p. operator_fault vars v name k p ≡ None) ps → AllByRecursion (λ p. Told (pair_names p)) ps
  operators_declared name k [] h = tt
  operators_declared name k (p ∷ ps) h = (operator_declared name k p h.0, operators_declared name k ps h.1)

  object_form : (name : Text) (k : Kind) (f : GValue-F GValue GPair) →
      (if object_by f then pairs_fault (λ other. refusal fault.WrongType name) (operator_fault vars v name k) [] (pairs_by f) else refused fault.WrongType name) ≡ None → Told (names_by f)
  object_form name k (GValue-F.Object ps) h = each_pair vars ps (operators_declared name k ps (each_judged (λ other. refusal fault.WrongType name) (operator_fault vars v name k) [] ps h))
  object_form name k (GValue-F.Var n) h = absurd (some_none (refusal fault.WrongType name) h)
  object_form name k (GValue-F.Int t) h = tt
  object_form name k (GValue-F.Text t) h = tt
  object_form name k (GValue-F.Bool t) h = tt
  object_form name k GValue-F.Null h = tt
  object_form name k (GValue-F.Enum n) h = tt
  object_form name k (GValue-F.Many xs) h = absurd (some_none (refusal fault.WrongType name) h)

  column_declared : (table : ℕ) (name : Text) (x : GValue) (o : Option ℕ) → column_fault vars v table name x o ≡ None → Told (value_names x)
  column_declared table name x None h = absurd (some_none (refusal fault.NoArgument name) h)
  column_declared table name x (Some column) h = by_form vars x (object_form name (kind_of v table column) (out-GValue x) h)

  -- ---- conditions

  pub record ValueDeclared (x : GValue) : Type 0 where
    pub one : (blamed : Text) (table : ℕ) → (judged vars v x).one blamed table ≡ None → Told (value_names x)
    pub many : (blamed : Text) (table : ℕ) → (judged vars v x).many blamed table ≡ None → Told (value_names x)

  abbrev PairDeclared : GPair → Type 0
  PairDeclared p = (table : ℕ) → judged_at vars v p table ≡ None → Told (pair_names p)

  abbrev EachDeclared : GValue-F GValue GPair → Type 0
  EachDeclared (GValue-F.Many xs) = AllByRecursion ValueDeclared xs
  EachDeclared (GValue-F.Object ps) = AllByRecursion PairDeclared ps
  EachDeclared _ = Unit {0}

  each_part : (y : GValue-F ((x : GValue) × ValueDeclared x) ((p : GPair) × PairDeclared p)) →
      EachDeclared (map-GValue ((x : GValue) × ValueDeclared x) ((p : GPair) × PairDeclared p) GValue GPair (λ e. e.0) (λ e. e.0) y)
  each_part (GValue-F.Var name) = tt
  each_part (GValue-F.Int t) = tt
  each_part (GValue-F.Text t) = tt
  each_part (GValue-F.Bool t) = tt
  each_part GValue-F.Null = tt
  each_part (GValue-F.Enum name) = tt
  each_part (GValue-F.Many xs) = firsts ValueDeclared xs
  each_part (GValue-F.Object ps) = firsts PairDeclared ps

  pair_declared : (p : GPair) → ValueDeclared (out-GPair p).value → PairDeclared p
  pair_declared p told table h = go (bytes_eq (pair_name p) (codes "_and")) (bytes_eq (pair_name p) (codes "_or")) (bytes_eq (pair_name p) (codes "_not")) (sym (judged-key vars v p table) ∙ h)
    where
      go : (x y z : Bool) →
          (if x || y then (judged vars v (pair_value p)).many (pair_name p) table else if z then (judged vars v (pair_value p)).one (pair_name p) table else column_fault vars v table (pair_name p) (pair_value p) (column_seen v table (pair_name p))) ≡ None →
          Told (pair_names p)
      go true y z e = told.many (pair_name p) table e
      go false true z e = told.many (pair_name p) table e
      go false false true e = told.one (pair_name p) table e
      go false false false e = column_declared table (pair_name p) (pair_value p) (column_seen v table (pair_name p)) e

  abbrev layer : GValue-F GValue GPair → Judged
  layer f = condition_step vars v (map-GValue GValue GPair (GValue × Judged) (GPair × (ℕ → Option QueryFault)) (λ y. (y, judged vars v y)) (λ p. (p, judged_at vars v p)) f)

  keys_declared : (table : ℕ) (before : List Text) (ps : List GPair) → AllByRecursion PairDeclared ps →
      keys_fault vars v table before (map {B = GPair × (ℕ → Option QueryFault)} (λ p. (p, judged_at vars v p)) ps) ≡ None → AllByRecursion (λ p. Told (pair_names p)) ps
  keys_declared table before [] each h = tt
  keys_declared table before (p ∷ ps) each h =
      let rest = keys_fault vars v table (pair_name p ∷ before) (map {B = GPair × (ℕ → Option QueryFault)} (λ p. (p, judged_at vars v p)) ps) in
      let parts = neither (if list_any (bytes_eq (pair_name p)) before then refused fault.NoArgument (pair_name p) else judged_at vars v p table) rest h in
      (each.0 table (go (list_any (bytes_eq (pair_name p)) before) parts.0), keys_declared table (pair_name p ∷ before) ps each.1 parts.1)
    where
      go : (c : Bool) → (if c then refused fault.NoArgument (pair_name p) else judged_at vars v p table) ≡ None → judged_at vars v p table ≡ None
      go true k = absurd (some_none (refusal fault.NoArgument (pair_name p)) k)
      go false k = k

  items_declared : (blamed : Text) (table : ℕ) (xs : List GValue) → AllByRecursion ValueDeclared xs →
      first_of (map (λ (x : GValue × Judged). x.1.one blamed table) (map {B = GValue × Judged} (λ y. (y, judged vars v y)) xs)) ≡ None → AllByRecursion (λ x. Told (value_names x)) xs
  items_declared blamed table [] each h = tt
  items_declared blamed table (x ∷ xs) each h =
      let parts = neither ((judged vars v x).one blamed table) (first_of (map (λ (x : GValue × Judged). x.1.one blamed table) (map {B = GValue × Judged} (λ y. (y, judged vars v y)) xs))) h in
      (each.0.one blamed table parts.0, items_declared blamed table xs each.1 parts.1)

  one_by_form : (f : GValue-F GValue GPair) → EachDeclared f → (blamed : Text) (table : ℕ) → (layer f).one blamed table ≡ None → Told (names_by f)
  one_by_form (GValue-F.Object ps) each blamed table h = each_pair vars ps (keys_declared table [] ps each h)
  one_by_form (GValue-F.Var name) each blamed table h = absurd (some_none (refusal fault.WrongType blamed) h)
  one_by_form (GValue-F.Int t) each blamed table h = tt
  one_by_form (GValue-F.Text t) each blamed table h = tt
  one_by_form (GValue-F.Bool t) each blamed table h = tt
  one_by_form GValue-F.Null each blamed table h = tt
  one_by_form (GValue-F.Enum name) each blamed table h = tt
  one_by_form (GValue-F.Many xs) each blamed table h = absurd (some_none (refusal fault.WrongType blamed) h)

  many_by_form : (f : GValue-F GValue GPair) → EachDeclared f → (blamed : Text) (table : ℕ) → (layer f).many blamed table ≡ None → Told (names_by f)
  many_by_form (GValue-F.Object ps) each blamed table h = each_pair vars ps (keys_declared table [] ps each h)
  many_by_form (GValue-F.Many xs) each blamed table h = each_value vars xs (items_declared blamed table xs each h)
  many_by_form (GValue-F.Var name) each blamed table h = absurd (some_none (refusal fault.WrongType blamed) h)
  many_by_form (GValue-F.Int t) each blamed table h = tt
  many_by_form (GValue-F.Text t) each blamed table h = tt
  many_by_form (GValue-F.Bool t) each blamed table h = tt
  many_by_form GValue-F.Null each blamed table h = tt
  many_by_form (GValue-F.Enum name) each blamed table h = tt

  judged_rolled : (f : GValue-F GValue GPair) → judged vars v (roll-GValue f) ≡ layer f
  judged_rolled f = judged-is vars v (roll-GValue f) ∙ ap layer (out-roll-GValue f)

  rolled_declared : (f : GValue-F GValue GPair) → EachDeclared f → ValueDeclared (roll-GValue f)
  rolled_declared f each =
      let names = sym (names_out (roll-GValue f) ∙ ap names_by (out-roll-GValue f)) in
      record {
        one = λ blamed table h. subst Told names (one_by_form f each blamed table (ap (λ (j : Judged). j.one blamed table) (sym (judged_rolled f)) ∙ h));
        many = λ blamed table h. subst Told names (many_by_form f each blamed table (ap (λ (j : Judged). j.many blamed table) (sym (judged_rolled f)) ∙ h));
      }

  value_declared : (x : GValue) → ValueDeclared x
  value_declared = ind-GValue ValueDeclared PairDeclared
      (λ f y is. rolled_declared f (subst EachDeclared is (each_part y)))
      (λ f y is. pair_declared (roll-GPair f) (subst (λ z. ValueDeclared z.value) (sym (out-roll-GPair f)) (subst (λ z. ValueDeclared z.value) is y.value.1)))

  pub where_declared : (table : ℕ) (x : GValue) → where_fault vars v table x ≡ None → Told (value_names x)
  where_declared table x h = go (is_null_literal x) refl h
    where
      null_named : (f : GValue-F GValue GPair) → null_by f ≡ true → Told (names_by f)
      null_named GValue-F.Null e = tt
      null_named (GValue-F.Var name) e = absurd (clash (sym e))
      null_named (GValue-F.Int t) e = tt
      null_named (GValue-F.Text t) e = tt
      null_named (GValue-F.Bool t) e = tt
      null_named (GValue-F.Enum name) e = tt
      null_named (GValue-F.Many xs) e = absurd (clash (sym e))
      null_named (GValue-F.Object ps) e = absurd (clash (sym e))

      go : (c : Bool) → is_null_literal x ≡ c → (if c then None else (judged vars v x).one (codes "where") table) ≡ None → Told (value_names x)
      go true e k = by_form vars x (null_named (out-GValue x) e)
      go false e k = (value_declared x).one (codes "where") table k
