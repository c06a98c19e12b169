-- Conditions that the walk lets pass fit.
use Rattle.std.proofs.Common.{◌≡◌, ℕ, Bool, true, false, ◌||◌, if◌then◌else◌, List, [], ◌∷◌, map, length, nat_lt, is_some, unwrap_or, Option, Some, None, option_map, option_and_then, refl, ap, sym, ◌∙◌, subst}
use Rattle.std.specs.Prelude.{codes}
use Rattle.std.specs.Str.{bytes_eq}
use Rattle.std.specs.List.{list_any, AllByRecursion}
use Rattle.scalar_val.specs.declared.val.Kind.{Kind}
use Rattle.scalar_val.specs.declared.val.Kind.TheVariants as kind
use Rattle.data_model.specs.declared.catalog.Column.{Column}
use Rattle.data_model.specs.declared.catalog.TableDef.{TableDef}
use Rattle.plan_model.specs.declared.filter.Binding.{Binding}
use Rattle.plan_model.specs.declared.filter.Filter.{Filter}
use Rattle.plan_model.specs.declared.filter.Filter.TheVariants as filter
use Rattle.plan_model.specs.declared.filter.Op.{Op}
use Rattle.role_model.specs.JsonFilters.{op_named, column_number}
use Rattle.role_model.specs.Roles.{View, only_if, table_at, sees_column, column_seen}
use Rattle.request_model.specs.declared.document.GValue.{GValue}
use Rattle.request_model.specs.declared.document.GValue.TheOpen.{GValue-F}
use Rattle.request_model.specs.declared.document.GValue.TheViews.{out-GValue, roll-GValue, out-roll-GValue, out-GPair, roll-GPair, out-roll-GPair}
use Rattle.request_model.specs.declared.document.GValue.TheFolds.{map-GValue, fold-GPair, fold_out-GValue, ind-GValue}
use Rattle.request_model.specs.declared.document.GPair.{GPair}
use Rattle.request_model.specs.Strings.{Text}
use Rattle.request_model.specs.Selection.{concatenated}
use Rattle.request_model.proofs.ReadArguments.{firsts}
use Rattle.query_model.specs.declared.fault.FaultKind.TheVariants as fault
use Rattle.query_model.specs.declared.fault.QueryFault.{QueryFault}
use Rattle.query_model.specs.Names.{kind_of, pair_name, pair_value, variable_by, variable_in, pairs_by, pairs_in, items_by, items_in}
use Rattle.query_model.specs.declared.variable.Variable.{Variable}
use Rattle.query_model.specs.Conditions.{Reader, Conditions, always, compares, operator_filter, column_filter, conditions_step, conditions_in, condition_at, where_filter}
use Rattle.query_model.specs.declared.session.SessionSlot.{SessionSlot}
use Rattle.query_model.specs.Queries.{value_names, value_names_step, pair_names_step}
use Rattle.query_model.specs.Refusals.{refusal, refused, first_of, pairs_fault}
use Rattle.query_model.specs.ConditionFaults.{Judged, operator_fault, column_fault, keys_fault, condition_step, judged, judged_at, where_fault}
use Rattle.query_model.specs.ValueFaults.{null_by, is_null_literal, is_object, single_fault, list_fault}
use Rattle.plan_model.specs.PlanFits.{has_column}
use Rattle.query_model.specs.Plans.{operands}
use Rattle.query_model.proofs.QueryRules.{conditions-is, key-is, judged-is, judged-key, names-pair}
use Rattle.admission_laws.proofs.BareNames.{pair_names}
use Rattle.admission_laws.proofs.OnePlan.{map_same}
use Rattle.admission_laws.proofs.PlansThere.{neither}
use Rattle.query_model.proofs.Positions.{placed_at}
use Rattle.admission_laws.proofs.AgreedValues.{front_holds, back_holds}
use Rattle.admission_laws.proofs.FittingFilters.{Fit, fit-And, fit-Or, fit-Not, fit-Cmp, fit-Among, fit-IsNull}
use Rattle.admission_laws.proofs.TypedValues.{Typed, clash, some_none, none_some, same_some}
use Rattle.admission_laws.proofs.PassedValues.{Listed, ListedIn, ItemsListed, single_good, list_good}

-- ---- columns that a role sees are there

pub seen_within : (w : View) (table : ℕ) (name : Text) (column : ℕ) → column_seen w table name ≡ Some column → has_column w.metadata.catalog table column ≡ true
seen_within w table name column h = go (table_at w table) refl h
  where
    only : (b : Bool) (j : ℕ) → only_if b (Some j) ≡ Some column → j ≡ column
    only true j k = same_some j column k
    only false j k = absurd (none_some column k)

    inner : (t : TableDef) → table_at w table ≡ Some t → (o : Option ℕ) → column_number t.columns name ≡ o → option_and_then (λ c. only_if (sees_column w table c) (Some c)) o ≡ Some column → has_column w.metadata.catalog table column ≡ true
    inner t e None i k = absurd (none_some column k)
    inner t e (Some j) i k =
        ap (λ (o : Option TableDef). nat_lt column (unwrap_or (option_map (λ (u : TableDef). length u.columns) o) 0)) e
        ∙ subst (λ c. nat_lt c (length t.columns) ≡ true) (only (sees_column w table j) j k) (placed_at (λ (c : Column). bytes_eq name c.name) t.columns j i).within

    go : (o : Option TableDef) → table_at w table ≡ o → option_and_then (λ (t : TableDef). option_and_then (λ c. only_if (sees_column w table c) (Some c)) (column_number t.columns name)) o ≡ Some column → has_column w.metadata.catalog table column ≡ true
    go None e k = absurd (none_some column k)
    go (Some t) e k = inner t e (column_number t.columns name) refl k

pub each_judged : (strange : Text → QueryFault) (judge : GPair → Option QueryFault) (before : List Text) (ps : List GPair) → pairs_fault strange judge before ps ≡ None → AllByRecursion (λ p. judge p ≡ None) ps
each_judged strange judge before [] h = tt
each_judged strange judge before (p ∷ ps) h =
    let parts = neither (if list_any (bytes_eq (pair_name p)) before then Some (strange (pair_name p)) else judge p) (pairs_fault strange judge (pair_name p ∷ before) ps) h in
    (go (list_any (bytes_eq (pair_name p)) before) parts.0, each_judged strange judge (pair_name p ∷ before) ps parts.1)
  where
    go : (c : Bool) → (if c then Some (strange (pair_name p)) else judge p) ≡ None → judge p ≡ None
    go true k = absurd (some_none (strange (pair_name p)) k)
    go false k = k

module _ (w : View) (names : List Text) (slots : List SessionSlot) (b : Binding) (vars : List Variable) (all : AllByRecursion Typed vars) where
  abbrev IsListed : Text → Type 0
  IsListed n = Listed w names slots b vars all n

  abbrev pub AllListed : List Text → Type 0
  AllListed ns = AllByRecursion IsListed ns

  abbrev reader : Reader
  reader = operands w names slots

  abbrev Fits : ℕ → Filter → Type 0
  Fits table f = Fit w.metadata.catalog b table f

  -- ---- the names in a value

  abbrev pub names_by : GValue-F GValue GPair → List Text
  names_by f = value_names_step (map-GValue GValue GPair (List Text) (List Text) value_names (fold-GPair (List Text) (List Text) value_names_step pair_names_step) f)

  pub names_out : (x : GValue) → value_names x ≡ names_by (out-GValue x)
  names_out x = fold_out-GValue (List Text) (List Text) value_names_step pair_names_step x

  pub variable_listed : (x : GValue) → AllListed (value_names x) → ListedIn w names slots b vars all (variable_in x)
  variable_listed x h = go (out-GValue x) (subst AllListed (names_out x) h)
    where
      go : (f : GValue-F GValue GPair) → AllListed (names_by f) → ListedIn w names slots b vars all (variable_by f)
      go (GValue-F.Var name) h = h.0
      go (GValue-F.Int t) h = tt
      go (GValue-F.Text t) h = tt
      go (GValue-F.Bool t) h = tt
      go GValue-F.Null h = tt
      go (GValue-F.Enum name) h = tt
      go (GValue-F.Many xs) h = tt
      go (GValue-F.Object ps) h = tt

  pub each_listed : (xs : List GValue) → AllListed (concatenated (map value_names xs)) → ItemsListed w names slots b vars all xs
  each_listed [] h = tt
  each_listed (x ∷ xs) h =
      (variable_listed x (front_holds IsListed (value_names x) (concatenated (map value_names xs)) h), each_listed xs (back_holds IsListed (value_names x) (concatenated (map value_names xs)) h))

  pub items_listed : (x : GValue) → AllListed (value_names x) → ItemsListed w names slots b vars all (items_in x)
  items_listed x h = go (out-GValue x) (subst AllListed (names_out x) h) (variable_listed x h, tt)
    where
      go : (f : GValue-F GValue GPair) → AllListed (names_by f) → ItemsListed w names slots b vars all (x ∷ []) → ItemsListed w names slots b vars all (items_by x f)
      go (GValue-F.Var name) h one = one
      go (GValue-F.Int t) h one = one
      go (GValue-F.Text t) h one = one
      go (GValue-F.Bool t) h one = one
      go GValue-F.Null h one = one
      go (GValue-F.Enum name) h one = one
      go (GValue-F.Many xs) h one = each_listed xs h
      go (GValue-F.Object ps) h one = one

  abbrev pub PairListed : GPair → Type 0
  PairListed p = AllListed (pair_names p)

  pairs_split : (ps : List GPair) → AllListed (concatenated (map pair_names ps)) → AllByRecursion PairListed ps
  pairs_split [] h = tt
  pairs_split (p ∷ ps) h = (front_holds IsListed (pair_names p) (concatenated (map pair_names ps)) h, pairs_split ps (back_holds IsListed (pair_names p) (concatenated (map pair_names ps)) h))

  pub pairs_out : (ps : List GPair) → AllListed (names_by (GValue-F.Object ps)) → AllByRecursion PairListed ps
  pairs_out ps h =
      pairs_split ps (subst (λ ts. AllListed (concatenated ts)) (map_same (fold-GPair (List Text) (List Text) value_names_step pair_names_step) pair_names names-pair ps) h)

  pub pairs_listed : (x : GValue) → AllListed (value_names x) → AllByRecursion PairListed (pairs_in x)
  pairs_listed x h = go (out-GValue x) (subst AllListed (names_out x) h)
    where
      go : (f : GValue-F GValue GPair) → AllListed (names_by f) → AllByRecursion PairListed (pairs_by f)
      go (GValue-F.Var name) h = tt
      go (GValue-F.Int t) h = tt
      go (GValue-F.Text t) h = tt
      go (GValue-F.Bool t) h = tt
      go GValue-F.Null h = tt
      go (GValue-F.Enum name) h = tt
      go (GValue-F.Many xs) h = tt
      go (GValue-F.Object ps) h = pairs_out ps h

  -- ---- operators of a column

  module _ (table column : ℕ) (name : Text) (there : has_column w.metadata.catalog table column ≡ true) where
    abbrev k : Kind
    k = kind_of w table column

    operator_good : (p : GPair) → PairListed p → operator_fault vars w name k p ≡ None → Fits table (operator_filter w reader column k p)
    operator_good p l h = go (bytes_eq (pair_name p) (codes "_in")) (bytes_eq (pair_name p) (codes "_nin")) (bytes_eq (pair_name p) (codes "_is_null")) (op_named (pair_name p)) h
      where
        go : (x y z : Bool) (o : Option Op) →
            (if x || y then list_fault vars name k (pair_value p) else if z then single_fault vars name kind.Bool (pair_value p) else if is_some o then single_fault vars name k (pair_value p) else refused fault.WrongType name) ≡ None →
            Fits table (if x then filter.Among column false (reader.many k (pair_value p)) else if y then filter.Among column true (reader.many k (pair_value p)) else if z then filter.IsNull column (reader.one kind.Bool (pair_value p)) else compares column (reader.one k (pair_value p)) o)
        go true y z o e = fit-Among w.metadata.catalog b table column false _ there (list_good w names slots b vars all name k (pair_value p) (variable_listed (pair_value p) l) (items_listed (pair_value p) l) e)
        go false true z o e = fit-Among w.metadata.catalog b table column true _ there (list_good w names slots b vars all name k (pair_value p) (variable_listed (pair_value p) l) (items_listed (pair_value p) l) e)
        go false false true o e =
            let good = single_good w names slots b vars all name kind.Bool (pair_value p) (variable_listed (pair_value p) l) e in
            fit-IsNull w.metadata.catalog b table column _ there good.fits good.of_kind
        go false false false None e = absurd (some_none (refusal fault.WrongType name) e)
        go false false false (Some op) e = fit-Cmp w.metadata.catalog b table column op _ there (single_good w names slots b vars all name k (pair_value p) (variable_listed (pair_value p) l) e).fits

    operators_good : (ps : List GPair) → AllByRecursion PairListed ps → AllByRecursion (λ p. operator_fault vars w name k p ≡ None) ps → AllByRecursion (Fits table) (map (operator_filter w reader column k) ps)
    operators_good [] l h = tt
    operators_good (p ∷ ps) l h = (operator_good p l.0 h.0, operators_good ps l.1 h.1)

  column_good : (table : ℕ) (name : Text) (x : GValue) → AllListed (value_names x) → column_fault vars w table name x (column_seen w table name) ≡ None → Fits table (column_filter w reader table x (column_seen w table name))
  column_good table name x l h = go (column_seen w table name) refl h
    where
      inner : (column : ℕ) → column_seen w table name ≡ Some column → (c : Bool) →
          (if c then pairs_fault (λ other. refusal fault.WrongType name) (operator_fault vars w name (kind_of w table column)) [] (pairs_in x) else refused fault.WrongType name) ≡ None → Fits table (column_filter w reader table x (Some column))
      inner column e true k =
          fit-And w.metadata.catalog b table _ (operators_good table column name (seen_within w table name column e) (pairs_in x) (pairs_listed x l)
          (each_judged (λ other. refusal fault.WrongType name) (operator_fault vars w name (kind_of w table column)) [] (pairs_in x) k))
      inner column e false k = absurd (some_none (refusal fault.WrongType name) k)

      go : (o : Option ℕ) → column_seen w table name ≡ o → column_fault vars w table name x o ≡ None → Fits table (column_filter w reader table x o)
      go None e k = absurd (some_none (refusal fault.NoArgument name) k)
      go (Some column) e k = inner column e (is_object x) k

  -- ---- conditions

  pub record ValueFits (x : GValue) : Type 0 where
    pub one : (blamed : Text) (table : ℕ) → (judged vars w x).one blamed table ≡ None → Fits table ((conditions_in w reader x).one table)
    pub many : (blamed : Text) (table : ℕ) → (judged vars w x).many blamed table ≡ None → AllByRecursion (Fits table) ((conditions_in w reader x).many table)

  abbrev IfListed : GValue → Type 0
  IfListed x = AllListed (value_names x) → ValueFits x

  abbrev PairFits : GPair → Type 0
  PairFits p = PairListed p → (table : ℕ) → judged_at vars w p table ≡ None → Fits table (condition_at w reader p table)

  abbrev EachFits : GValue-F GValue GPair → Type 0
  EachFits (GValue-F.Many xs) = AllByRecursion IfListed xs
  EachFits (GValue-F.Object ps) = AllByRecursion PairFits ps
  EachFits _ = Unit {0}

  each_part : (y : GValue-F ((x : GValue) × IfListed x) ((p : GPair) × PairFits p)) → EachFits (map-GValue ((x : GValue) × IfListed x) ((p : GPair) × PairFits p) GValue GPair (λ e. e.0) (λ e. e.0) y)
  each_part (GValue-F.Var name) = tt
  each_part (GValue-F.Int t) = tt
  each_part (GValue-F.Text t) = tt
  each_part (GValue-F.Bool t) = tt
  each_part GValue-F.Null = tt
  each_part (GValue-F.Enum name) = tt
  each_part (GValue-F.Many xs) = firsts IfListed xs
  each_part (GValue-F.Object ps) = firsts PairFits ps

  pair_fits : (p : GPair) → IfListed (out-GPair p).value → PairFits p
  pair_fits p told l table h =
      subst (Fits table) (sym (key-is w reader p table)) (go (bytes_eq (pair_name p) (codes "_and")) (bytes_eq (pair_name p) (codes "_or")) (bytes_eq (pair_name p) (codes "_not")) (sym (judged-key vars w p table) ∙ h))
    where
      go : (x y z : Bool) →
          (if x || y then (judged vars w (pair_value p)).many (pair_name p) table else if z then (judged vars w (pair_value p)).one (pair_name p) table else column_fault vars w table (pair_name p) (pair_value p) (column_seen w table (pair_name p))) ≡ None →
          Fits table (if x then filter.And ((conditions_in w reader (pair_value p)).many table) else if y then filter.Or ((conditions_in w reader (pair_value p)).many table) else if z then filter.Not ((conditions_in w reader (pair_value p)).one table) else column_filter w reader table (pair_value p) (column_seen w table (pair_name p)))
      go true y z e = fit-And w.metadata.catalog b table _ ((told l).many (pair_name p) table e)
      go false true z e = fit-Or w.metadata.catalog b table _ ((told l).many (pair_name p) table e)
      go false false true e = fit-Not w.metadata.catalog b table _ ((told l).one (pair_name p) table e)
      go false false false e = column_good table (pair_name p) (pair_value p) l e

  abbrev judging_layer : GValue-F GValue GPair → Judged
  judging_layer f = condition_step vars w (map-GValue GValue GPair (GValue × Judged) (GPair × (ℕ → Option QueryFault)) (λ y. (y, judged vars w y)) (λ p. (p, judged_at vars w p)) f)

  abbrev layer : GValue-F GValue GPair → Conditions
  layer f = conditions_step w reader (map-GValue GValue GPair (GValue × Conditions) (GPair × (ℕ → Filter)) (λ y. (y, conditions_in w reader y)) (λ p. (p, condition_at w reader p)) f)

  keys_fit : (table : ℕ) (before : List Text) (ps : List GPair) → AllByRecursion PairFits ps → AllByRecursion PairListed ps →
      keys_fault vars w table before (map {B = GPair × (ℕ → Option QueryFault)} (λ p. (p, judged_at vars w p)) ps) ≡ None →
      AllByRecursion (Fits table) (map (λ (p : GPair × (ℕ → Filter)). p.1 table) (map {B = GPair × (ℕ → Filter)} (λ p. (p, condition_at w reader p)) ps))
  keys_fit table before [] each l h = tt
  keys_fit table before (p ∷ ps) each l h =
      let rest = keys_fault vars w table (pair_name p ∷ before) (map {B = GPair × (ℕ → Option QueryFault)} (λ p. (p, judged_at vars w p)) ps) in
      let parts = neither (if list_any (bytes_eq (pair_name p)) before then refused fault.NoArgument (pair_name p) else judged_at vars w p table) rest h in
      (each.0 l.0 table (go (list_any (bytes_eq (pair_name p)) before) parts.0), keys_fit table (pair_name p ∷ before) ps each.1 l.1 parts.1)
    where
      go : (c : Bool) → (if c then refused fault.NoArgument (pair_name p) else judged_at vars w p table) ≡ None → judged_at vars w p table ≡ None
      go true k = absurd (some_none (refusal fault.NoArgument (pair_name p)) k)
      go false k = k

  items_fit_all : (blamed : Text) (table : ℕ) (xs : List GValue) → AllByRecursion IfListed xs → AllListed (concatenated (map value_names xs)) →
      first_of (map (λ (x : GValue × Judged). x.1.one blamed table) (map {B = GValue × Judged} (λ y. (y, judged vars w y)) xs)) ≡ None →
      AllByRecursion (Fits table) (map (λ (x : GValue × Conditions). x.1.one table) (map {B = GValue × Conditions} (λ y. (y, conditions_in w reader y)) xs))
  items_fit_all blamed table [] each l h = tt
  items_fit_all blamed table (x ∷ xs) each l h =
      let parts = neither ((judged vars w x).one blamed table) (first_of (map (λ (x : GValue × Judged). x.1.one blamed table) (map {B = GValue × Judged} (λ y. (y, judged vars w y)) xs))) h in
      ((each.0 (front_holds IsListed (value_names x) (concatenated (map value_names xs)) l)).one blamed table parts.0, items_fit_all blamed table xs each.1 (back_holds IsListed (value_names x) (concatenated (map value_names xs)) l) parts.1)

  one_by_form : (f : GValue-F GValue GPair) → EachFits f → AllListed (names_by f) → (blamed : Text) (table : ℕ) → (judging_layer f).one blamed table ≡ None → Fits table ((layer f).one table)
  one_by_form (GValue-F.Object ps) each l blamed table h = fit-And w.metadata.catalog b table _ (keys_fit table [] ps each (pairs_out ps l) h)
  one_by_form (GValue-F.Var name) each l blamed table h = absurd (some_none (refusal fault.WrongType blamed) h)
  one_by_form (GValue-F.Int t) each l blamed table h = absurd (some_none (refusal fault.WrongType blamed) h)
  one_by_form (GValue-F.Text t) each l blamed table h = absurd (some_none (refusal fault.WrongType blamed) h)
  one_by_form (GValue-F.Bool t) each l blamed table h = absurd (some_none (refusal fault.WrongType blamed) h)
  one_by_form GValue-F.Null each l blamed table h = absurd (some_none (refusal fault.WrongType blamed) h)
  one_by_form (GValue-F.Enum name) each l blamed table h = absurd (some_none (refusal fault.WrongType blamed) h)
  one_by_form (GValue-F.Many xs) each l blamed table h = absurd (some_none (refusal fault.WrongType blamed) h)

  many_by_form : (f : GValue-F GValue GPair) → EachFits f → AllListed (names_by f) → (blamed : Text) (table : ℕ) → (judging_layer f).many blamed table ≡ None → AllByRecursion (Fits table) ((layer f).many table)
  many_by_form (GValue-F.Object ps) each l blamed table h = (fit-And w.metadata.catalog b table _ (keys_fit table [] ps each (pairs_out ps l) h), tt)
  many_by_form (GValue-F.Many xs) each l blamed table h = items_fit_all blamed table xs each l h
  many_by_form (GValue-F.Var name) each l blamed table h = absurd (some_none (refusal fault.WrongType blamed) h)
  many_by_form (GValue-F.Int t) each l blamed table h = absurd (some_none (refusal fault.WrongType blamed) h)
  many_by_form (GValue-F.Text t) each l blamed table h = absurd (some_none (refusal fault.WrongType blamed) h)
  many_by_form (GValue-F.Bool t) each l blamed table h = absurd (some_none (refusal fault.WrongType blamed) h)
  many_by_form GValue-F.Null each l blamed table h = absurd (some_none (refusal fault.WrongType blamed) h)
  many_by_form (GValue-F.Enum name) each l blamed table h = absurd (some_none (refusal fault.WrongType blamed) h)

  judged_rolled : (f : GValue-F GValue GPair) → judged vars w (roll-GValue f) ≡ judging_layer f
  judged_rolled f = judged-is vars w (roll-GValue f) ∙ ap judging_layer (out-roll-GValue f)

  conditions_rolled : (f : GValue-F GValue GPair) → conditions_in w reader (roll-GValue f) ≡ layer f
  conditions_rolled f = conditions-is w reader (roll-GValue f) ∙ ap layer (out-roll-GValue f)

  rolled_fits : (f : GValue-F GValue GPair) → EachFits f → IfListed (roll-GValue f)
  rolled_fits f each l =
      let named = subst AllListed (names_out (roll-GValue f) ∙ ap names_by (out-roll-GValue f)) l in
      record {
        one = λ blamed table h. subst (λ (c : Conditions). Fits table (c.one table)) (sym (conditions_rolled f)) (one_by_form f each named blamed table (ap (λ (j : Judged). j.one blamed table) (sym (judged_rolled f)) ∙ h));
        many = λ blamed table h. subst (λ (c : Conditions). AllByRecursion (Fits table) (c.many table)) (sym (conditions_rolled f)) (many_by_form f each named blamed table (ap (λ (j : Judged). j.many blamed table) (sym (judged_rolled f)) ∙ h));
      }

  value_fits : (x : GValue) → IfListed x
  value_fits = ind-GValue IfListed PairFits
      (λ f y is. rolled_fits f (subst EachFits is (each_part y)))
      (λ f y is. pair_fits (roll-GPair f) (subst (λ z. IfListed z.value) (sym (out-roll-GPair f)) (subst (λ z. IfListed z.value) is y.value.1)))

  pub always_fits : (table : ℕ) → Fits table always
  always_fits table = fit-And w.metadata.catalog b table [] tt

  pub where_good : (table : ℕ) (x : GValue) → AllListed (value_names x) → where_fault vars w table x ≡ None → Fits table (where_filter w reader table (Some x))
  where_good table x l h = go (is_null_literal x) refl h
    where
      null_fits : (f : GValue-F GValue GPair) → null_by f ≡ true → Fits table ((layer f).one table)
      null_fits GValue-F.Null e = always_fits table
      null_fits (GValue-F.Var name) e = absurd (clash (sym e))
      null_fits (GValue-F.Int t) e = absurd (clash (sym e))
      null_fits (GValue-F.Text t) e = absurd (clash (sym e))
      null_fits (GValue-F.Bool t) e = absurd (clash (sym e))
      null_fits (GValue-F.Enum name) e = absurd (clash (sym e))
      null_fits (GValue-F.Many xs) e = absurd (clash (sym e))
      null_fits (GValue-F.Object ps) e = absurd (clash (sym e))

      go : (c : Bool) → is_null_literal x ≡ c → (if c then None else (judged vars w x).one (codes "where") table) ≡ None → Fits table ((conditions_in w reader x).one table)
      go true e k = subst (λ (c : Conditions). Fits table (c.one table)) (sym (conditions-is w reader x)) (null_fits (out-GValue x) e)
      go false e k = (value_fits x l).one (codes "where") table k
