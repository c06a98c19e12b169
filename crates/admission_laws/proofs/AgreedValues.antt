-- What is read of values where variables agree on the names that stand in them.
use Rattle.std.proofs.Common.{◌≡◌, ℕ, Bool, true, false, if◌then◌else◌, List, [], ◌∷◌, ◌++◌, map, flat_map, cond, find, Option, Some, None, option_map, refl, ap, ap₂, sym, subst, ◌∙◌}
use std.Path.{fun_ext}
use Rattle.std.specs.Prelude.{codes}
use Rattle.std.specs.Str.{bytes_eq}
use Rattle.std.specs.List.{AllByRecursion}
use Rattle.scalar_val.specs.declared.val.Kind.{Kind}
use Rattle.scalar_val.specs.declared.val.Kind.TheVariants as kind
use Rattle.plan_model.specs.declared.filter.Filter.{Filter}
use Rattle.plan_model.specs.declared.filter.Filter.TheVariants as filter
use Rattle.role_model.specs.JsonFilters.{op_named}
use Rattle.role_model.specs.Roles.{View, column_seen}
use Rattle.plan_model.specs.Values.{one_value, many_values}
use Rattle.request_model.specs.declared.document.GValue.{GValue}
use Rattle.request_model.specs.declared.document.GValue.TheOpen.{GValue-F}
use Rattle.request_model.specs.declared.document.GValue.TheViews.{out-GValue, roll-GValue, out-roll-GValue, out-GPair, roll-GPair, out-roll-GPair}
use Rattle.request_model.specs.declared.document.GValue.TheFolds.{map-GValue, fold-GPair, fold_out-GValue, ind-GValue}
use Rattle.request_model.specs.declared.document.GPair.{GPair}
use Rattle.request_model.specs.Strings.{Text}
use Rattle.request_model.specs.Selection.{concatenated}
use Rattle.request_model.proofs.ReadArguments.{firsts}
use Rattle.query_model.specs.Names.{kind_of, pair_name, pair_value, argument, literal_value, variable_by, pairs_by, items_by}
use Rattle.query_model.specs.declared.variable.Variable.{Variable}
use Rattle.query_model.specs.Variables.{variable_slot, value_by, value_read, values_by, values_read, number_read}
use Rattle.plan_model.specs.Values.{number_in}
use Rattle.query_model.specs.Conditions.{Reader, Conditions, operator_filter, column_filter, conditions_step, conditions_in, condition_at, where_filter, compares}
use Rattle.query_model.specs.Queries.{value_names, value_names_step, pair_names_step}
use Rattle.query_model.proofs.QueryRules.{conditions-is, key-is, names-pair}
use Rattle.admission_laws.proofs.BareNames.{pair_names}
use Rattle.admission_laws.proofs.OnePlan.{map_same}

-- ---- lists of which something holds throughout

pub front_holds : {X : Type 0} (P : X → Type 0) (xs ys : List X) → AllByRecursion P (xs ++ ys) → AllByRecursion P xs
front_holds P [] ys all = tt
front_holds P (x ∷ xs) ys all = (all.0, front_holds P xs ys all.1)

pub back_holds : {X : Type 0} (P : X → Type 0) (xs ys : List X) → AllByRecursion P (xs ++ ys) → AllByRecursion P ys
back_holds P [] ys all = all
back_holds P (x ∷ xs) ys all = back_holds P xs ys all.1

module _ (va vb : List Variable) where
  -- the variables agree on these names
  abbrev pub Agree : List Text → Type 0
  Agree ns = AllByRecursion (λ n. variable_slot va n ≡ variable_slot vb n) ns

  abbrev pub AgreeIn : Option GValue → Type 0
  AgreeIn (Some x) = Agree (value_names x)
  AgreeIn None = Unit {0}

  abbrev front : (xs ys : List Text) → Agree (xs ++ ys) → Agree xs
  front = front_holds (λ n. variable_slot va n ≡ variable_slot vb n)

  abbrev back : (xs ys : List Text) → Agree (xs ++ ys) → Agree ys
  back = back_holds (λ n. variable_slot va n ≡ variable_slot vb n)

  pub found_agree : (name : Text) (args : List GPair) → Agree (flat_map pair_names args) → AgreeIn (argument name args)
  found_agree name [] h = tt
  found_agree name (p ∷ ps) h = go (bytes_eq name (pair_name p)) (found_agree name ps (back (pair_names p) (flat_map pair_names ps) h))
    where
      go : (b : Bool) → AgreeIn (argument name ps) → AgreeIn (option_map pair_value (cond b (Some p) (find (λ q. bytes_eq name (pair_name q)) ps)))
      go true more = front (pair_names p) (flat_map pair_names ps) h
      go false more = more

  -- ---- the names in a value, by its form

  abbrev names_by : GValue-F GValue GPair → List Text
  names_by f = value_names_step (map-GValue GValue GPair (List Text) (List Text) value_names (fold-GPair (List Text) (List Text) value_names_step pair_names_step) f)

  names_out : (x : GValue) → value_names x ≡ names_by (out-GValue x)
  names_out x = fold_out-GValue (List Text) (List Text) value_names_step pair_names_step x

  names_of_pairs : (ps : List GPair) → map (fold-GPair (List Text) (List Text) value_names_step pair_names_step) ps ≡ map pair_names ps
  names_of_pairs ps = map_same (fold-GPair (List Text) (List Text) value_names_step pair_names_step) pair_names names-pair ps

  -- ---- values

  pub value_agrees : (k : Kind) (x : GValue) → Agree (value_names x) → value_read va k x ≡ value_read vb k x
  value_agrees k x h = go (out-GValue x) (subst Agree (names_out x) h)
    where
      go : (f : GValue-F GValue GPair) → Agree (names_by f) → value_by va (literal_value k x) (variable_by f) ≡ value_by vb (literal_value k x) (variable_by f)
      go (GValue-F.Var name) h = ap (λ s. one_value (Some s)) h.0
      go (GValue-F.Int t) h = refl
      go (GValue-F.Text s) h = refl
      go (GValue-F.Bool b) h = refl
      go GValue-F.Null h = refl
      go (GValue-F.Enum name) h = refl
      go (GValue-F.Many xs) h = refl
      go (GValue-F.Object ps) h = refl

  each_agrees : (k : Kind) (xs : List GValue) → Agree (concatenated (map value_names xs)) → map (value_read va k) xs ≡ map (value_read vb k) xs
  each_agrees k [] h = refl
  each_agrees k (x ∷ xs) h =
      ap₂ (λ y ys. y ∷ ys) (value_agrees k x (front (value_names x) (concatenated (map value_names xs)) h)) (each_agrees k xs (back (value_names x) (concatenated (map value_names xs)) h))

  pub values_agree : (k : Kind) (x : GValue) → Agree (value_names x) → values_read va k x ≡ values_read vb k x
  values_agree k x h = go (out-GValue x) (subst Agree (names_out x) h) (ap (λ y. y ∷ []) (value_agrees k x h))
    where
      go : (f : GValue-F GValue GPair) → Agree (names_by f) → value_read va k x ∷ [] ≡ value_read vb k x ∷ [] →
          values_by va (map (value_read va k) (items_by x f)) (variable_by f) ≡ values_by vb (map (value_read vb k) (items_by x f)) (variable_by f)
      go (GValue-F.Var name) h one = ap (λ s. many_values (Some s)) h.0
      go (GValue-F.Int t) h one = one
      go (GValue-F.Text s) h one = one
      go (GValue-F.Bool b) h one = one
      go GValue-F.Null h one = one
      go (GValue-F.Enum name) h one = one
      go (GValue-F.Many xs) h one = each_agrees k xs h
      go (GValue-F.Object ps) h one = one

  pub number_agrees : (o : Option GValue) → AgreeIn o → number_read va o ≡ number_read vb o
  number_agrees (Some x) h = ap number_in (value_agrees kind.Int x h)
  number_agrees None h = refl

  -- ---- conditions, by two readers that agree where the variables do

  module _ (w : View) (r s : Reader) (one : (k : Kind) (x : GValue) → Agree (value_names x) → r.one k x ≡ s.one k x) (many : (k : Kind) (x : GValue) → Agree (value_names x) → r.many k x ≡ s.many k x) where
    operator_agrees : (column : ℕ) (k : Kind) (p : GPair) → Agree (pair_names p) → operator_filter w r column k p ≡ operator_filter w s column k p
    operator_agrees column k p h = go (bytes_eq (pair_name p) (codes "_in")) (bytes_eq (pair_name p) (codes "_nin")) (bytes_eq (pair_name p) (codes "_is_null"))
      where
        go : (a b c : Bool) →
            (if a then filter.Among column false (r.many k (pair_value p)) else if b then filter.Among column true (r.many k (pair_value p)) else if c then filter.IsNull column (r.one kind.Bool (pair_value p)) else compares column (r.one k (pair_value p)) (op_named (pair_name p)))
            ≡ (if a then filter.Among column false (s.many k (pair_value p)) else if b then filter.Among column true (s.many k (pair_value p)) else if c then filter.IsNull column (s.one kind.Bool (pair_value p)) else compares column (s.one k (pair_value p)) (op_named (pair_name p)))
        go true b c = ap (filter.Among column false) (many k (pair_value p) h)
        go false true c = ap (filter.Among column true) (many k (pair_value p) h)
        go false false true = ap (filter.IsNull column) (one kind.Bool (pair_value p) h)
        go false false false = ap (λ o. compares column o (op_named (pair_name p))) (one k (pair_value p) h)

    operators_agree : (column : ℕ) (k : Kind) (ps : List GPair) → Agree (concatenated (map pair_names ps)) → map (operator_filter w r column k) ps ≡ map (operator_filter w s column k) ps
    operators_agree column k [] h = refl
    operators_agree column k (p ∷ ps) h =
        ap₂ (λ y ys. y ∷ ys) (operator_agrees column k p (front (pair_names p) (concatenated (map pair_names ps)) h)) (operators_agree column k ps (back (pair_names p) (concatenated (map pair_names ps)) h))

    column_agrees : (table : ℕ) (x : GValue) (o : Option ℕ) → Agree (value_names x) → column_filter w r table x o ≡ column_filter w s table x o
    column_agrees table x None h = refl
    column_agrees table x (Some column) h = ap filter.And (go (out-GValue x) (subst Agree (names_out x) h))
      where
        go : (f : GValue-F GValue GPair) → Agree (names_by f) → map (operator_filter w r column (kind_of w table column)) (pairs_by f) ≡ map (operator_filter w s column (kind_of w table column)) (pairs_by f)
        go (GValue-F.Var name) h = refl
        go (GValue-F.Int t) h = refl
        go (GValue-F.Text t) h = refl
        go (GValue-F.Bool b) h = refl
        go GValue-F.Null h = refl
        go (GValue-F.Enum name) h = refl
        go (GValue-F.Many xs) h = refl
        go (GValue-F.Object ps) h = operators_agree column (kind_of w table column) ps (subst (λ ts. Agree (concatenated ts)) (names_of_pairs ps) h)

    abbrev ValueAgrees : GValue → Type 0
    ValueAgrees x = Agree (value_names x) → conditions_in w r x ≡ conditions_in w s x

    abbrev PairAgrees : GPair → Type 0
    PairAgrees p = Agree (pair_names p) → condition_at w r p ≡ condition_at w s p

    abbrev EachAgrees : GValue-F GValue GPair → Type 0
    EachAgrees (GValue-F.Many xs) = AllByRecursion ValueAgrees xs
    EachAgrees (GValue-F.Object ps) = AllByRecursion PairAgrees ps
    EachAgrees _ = Unit {0}

    each_part : (y : GValue-F ((x : GValue) × ValueAgrees x) ((p : GPair) × PairAgrees p)) →
        EachAgrees (map-GValue ((x : GValue) × ValueAgrees x) ((p : GPair) × PairAgrees p) GValue GPair (λ e. e.0) (λ e. e.0) y)
    each_part (GValue-F.Var name) = tt
    each_part (GValue-F.Int t) = tt
    each_part (GValue-F.Text t) = tt
    each_part (GValue-F.Bool b) = tt
    each_part GValue-F.Null = tt
    each_part (GValue-F.Enum name) = tt
    each_part (GValue-F.Many xs) = firsts ValueAgrees xs
    each_part (GValue-F.Object ps) = firsts PairAgrees ps

    pair_agrees : (p : GPair) → ValueAgrees (out-GPair p).value → PairAgrees p
    pair_agrees p told h = fun_ext (λ table. key-is w r p table ∙ go table (bytes_eq (pair_name p) (codes "_and")) (bytes_eq (pair_name p) (codes "_or")) (bytes_eq (pair_name p) (codes "_not")) ∙ sym (key-is w s p table))
      where
        go : (table : ℕ) (a b c : Bool) →
            (if a then filter.And ((conditions_in w r (pair_value p)).many table) else if b then filter.Or ((conditions_in w r (pair_value p)).many table) else if c then filter.Not ((conditions_in w r (pair_value p)).one table) else column_filter w r table (pair_value p) (column_seen w table (pair_name p)))
            ≡ (if a then filter.And ((conditions_in w s (pair_value p)).many table) else if b then filter.Or ((conditions_in w s (pair_value p)).many table) else if c then filter.Not ((conditions_in w s (pair_value p)).one table) else column_filter w s table (pair_value p) (column_seen w table (pair_name p)))
        go table true b c = ap (λ (z : Conditions). filter.And (z.many table)) (told h)
        go table false true c = ap (λ (z : Conditions). filter.Or (z.many table)) (told h)
        go table false false true = ap (λ (z : Conditions). filter.Not (z.one table)) (told h)
        go table false false false = column_agrees table (pair_value p) (column_seen w table (pair_name p)) h

    parts_agree : (xs : List GValue) → AllByRecursion ValueAgrees xs → Agree (concatenated (map value_names xs)) → map {B = GValue × Conditions} (λ x. (x, conditions_in w r x)) xs ≡ map (λ x. (x, conditions_in w s x)) xs
    parts_agree [] all h = refl
    parts_agree (x ∷ xs) all h =
        ap₂ (λ (c : Conditions) (ys : List (GValue × Conditions)). (x, c) ∷ ys) (all.0 (front (value_names x) (concatenated (map value_names xs)) h)) (parts_agree xs all.1 (back (value_names x) (concatenated (map value_names xs)) h))

    keys_agree : (ps : List GPair) → AllByRecursion PairAgrees ps → Agree (concatenated (map pair_names ps)) → map {B = GPair × (ℕ → Filter)} (λ p. (p, condition_at w r p)) ps ≡ map (λ p. (p, condition_at w s p)) ps
    keys_agree [] all h = refl
    keys_agree (p ∷ ps) all h =
        ap₂ (λ (c : ℕ → Filter) (ys : List (GPair × (ℕ → Filter))). (p, c) ∷ ys) (all.0 (front (pair_names p) (concatenated (map pair_names ps)) h)) (keys_agree ps all.1 (back (pair_names p) (concatenated (map pair_names ps)) h))

    abbrev layer : Reader → GValue-F GValue GPair → Conditions
    layer t f = conditions_step w t (map-GValue GValue GPair (GValue × Conditions) (GPair × (ℕ → Filter)) (λ y. (y, conditions_in w t y)) (λ p. (p, condition_at w t p)) f)

    rolled_agrees : (f : GValue-F GValue GPair) → EachAgrees f → ValueAgrees (roll-GValue f)
    rolled_agrees f all h =
        conditions-is w r (roll-GValue f) ∙ ap (layer r) (out-roll-GValue f) ∙ go f all (subst Agree (names_out (roll-GValue f) ∙ ap names_by (out-roll-GValue f)) h)
        ∙ sym (conditions-is w s (roll-GValue f) ∙ ap (layer s) (out-roll-GValue f))
      where
        go : (f : GValue-F GValue GPair) → EachAgrees f → Agree (names_by f) → layer r f ≡ layer s f
        go (GValue-F.Var name) all h = refl
        go (GValue-F.Int t) all h = refl
        go (GValue-F.Text t) all h = refl
        go (GValue-F.Bool b) all h = refl
        go GValue-F.Null all h = refl
        go (GValue-F.Enum name) all h = refl
        go (GValue-F.Many xs) all h = ap (λ ys. conditions_step w r (GValue-F.Many ys)) (parts_agree xs all h)
        go (GValue-F.Object ps) all h = ap (λ ys. conditions_step w r (GValue-F.Object ys)) (keys_agree ps all (subst (λ ts. Agree (concatenated ts)) (names_of_pairs ps) h))

    conditions_agree : (x : GValue) → ValueAgrees x
    conditions_agree = ind-GValue ValueAgrees PairAgrees
        (λ f y is. rolled_agrees f (subst EachAgrees is (each_part y)))
        (λ f y is. pair_agrees (roll-GPair f) (subst (λ z. ValueAgrees z.value) (sym (out-roll-GPair f)) (subst (λ z. ValueAgrees z.value) is y.value.1)))

    pub where_agrees : (table : ℕ) (o : Option GValue) → AgreeIn o → where_filter w r table o ≡ where_filter w s table o
    where_agrees table (Some x) h = ap (λ (c : Conditions). c.one table) (conditions_agree x h)
    where_agrees table None h = refl
