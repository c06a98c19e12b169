-- Conditions of a plan with its binding are as true as those with the values themselves in their places.
use Rattle.std.proofs.Common.{◌≡◌, ℕ, Bool, true, false, if◌then◌else◌, List, [], ◌∷◌, map, slice_get, Option, Some, None, refl, ap, ap₂, sym, ◌∙◌, subst}
use Rattle.std.specs.Prelude.{codes}
use Rattle.std.specs.Str.{bytes_eq}
use Rattle.std.specs.List.{AllByRecursion}
use Rattle.scalar_val.specs.declared.val.Kind.{Kind}
use Rattle.scalar_val.specs.declared.val.Kind.TheVariants as kind
use Rattle.scalar_val.specs.declared.val.Val.{Val}
use Rattle.data_model.specs.Rows.{Row}
use Rattle.plan_model.specs.declared.filter.Binding.{Binding}
use Rattle.plan_model.specs.declared.filter.Filter.{Filter}
use Rattle.plan_model.specs.declared.filter.Filter.TheVariants as filter
use Rattle.plan_model.specs.declared.filter.Items.{Items}
use Rattle.plan_model.specs.declared.filter.Items.TheVariants as items
use Rattle.plan_model.specs.declared.filter.Op.{Op}
use Rattle.plan_model.specs.declared.filter.Operand.{Operand}
use Rattle.plan_model.specs.declared.filter.Operand.TheVariants.{Const}
use Rattle.role_model.specs.JsonFilters.{op_named}
use Rattle.role_model.specs.Roles.{View, column_seen}
use Rattle.plan_model.specs.declared.filter.TruthValue.{TruthValue}
use Rattle.plan_model.specs.Truth.{all_of, any_of, negated, negated_if, compared, among, null_as_wanted, truth_of}
use Rattle.scalar_val.specs.Values.{cell}
use Rattle.plan_model.specs.Values.{many_values, operand_value, item_values}
use Rattle.plan_model.proofs.Truths.{truth_of-And, truth_of-Or, truth_of-Not, truth_of-Cmp, truth_of-Among, truth_of-IsNull}
use Rattle.request_model.specs.declared.document.GValue.{GValue}
use Rattle.request_model.specs.declared.document.GValue.TheOpen.{GValue-F}
use Rattle.request_model.specs.declared.document.GValue.TheViews.{roll-GValue, out-roll-GValue, out-GPair, roll-GPair, out-roll-GPair}
use Rattle.request_model.specs.declared.document.GValue.TheFolds.{map-GValue, ind-GValue}
use Rattle.request_model.specs.declared.document.GPair.{GPair}
use Rattle.request_model.specs.Strings.{Text}
use Rattle.request_model.specs.Selection.{concatenated}
use Rattle.request_model.proofs.ReadArguments.{firsts}
use Rattle.query_model.specs.Names.{kind_of, pair_name, pair_value, variable_in, pairs_in, items_in}
use Rattle.query_model.specs.declared.variable.Variable.{Variable}
use Rattle.query_model.specs.Variables.{value_read, values_by, values_read}
use Rattle.query_model.specs.Conditions.{Reader, Conditions, compares, operator_filter, column_filter, conditions_step, conditions_in, condition_at, where_filter}
use Rattle.query_model.specs.declared.session.SessionSlot.{SessionSlot}
use Rattle.query_model.specs.Queries.{value_names}
use Rattle.query_model.specs.Results.{nothing_bound}
use Rattle.query_model.specs.Plans.{operands, operand_of, items_or}
use Rattle.query_model.proofs.QueryRules.{conditions-is, key-is}
use Rattle.admission_laws.proofs.BareNames.{pair_names}
use Rattle.admission_laws.proofs.AgreedValues.{front_holds, back_holds}
use Rattle.admission_laws.proofs.TypedValues.{Typed}
use Rattle.admission_laws.proofs.PassedValues.{ListedIn, ItemsListed, read_bound}
use Rattle.admission_laws.proofs.PassedConditions.{AllListed, variable_listed, items_listed, names_by, names_out, pairs_out, pairs_listed, PairListed}

module _ (b : Binding) where
  abbrev pub Alike : Filter → Filter → Type 0
  Alike f g = (row : Row) → truth_of b f row ≡ truth_of nothing_bound g row

  abbrev pub BothAlike : List Filter → List Filter → Type 0
  BothAlike [] [] = Unit {0}
  BothAlike [] (g ∷ gs) = ⊥
  BothAlike (f ∷ fs) [] = ⊥
  BothAlike (f ∷ fs) (g ∷ gs) = Alike f g × BothAlike fs gs

  truths_same : (fs gs : List Filter) → BothAlike fs gs → (row : Row) → map (λ (part : Row → TruthValue). part row) (map (truth_of b) fs) ≡ map (λ (part : Row → TruthValue). part row) (map (truth_of nothing_bound) gs)
  truths_same [] [] h row = refl
  truths_same [] (g ∷ gs) h row = absurd h
  truths_same (f ∷ fs) [] h row = absurd h
  truths_same (f ∷ fs) (g ∷ gs) h row = ap₂ (λ x xs. x ∷ xs) (h.0 row) (truths_same fs gs h.1 row)

  pub alike-And : (fs gs : List Filter) → BothAlike fs gs → Alike (filter.And fs) (filter.And gs)
  alike-And fs gs h row = truth_of-And b fs row ∙ ap all_of (truths_same fs gs h row) ∙ sym (truth_of-And nothing_bound gs row)

  pub alike-Or : (fs gs : List Filter) → BothAlike fs gs → Alike (filter.Or fs) (filter.Or gs)
  alike-Or fs gs h row = truth_of-Or b fs row ∙ ap any_of (truths_same fs gs h row) ∙ sym (truth_of-Or nothing_bound gs row)

  pub alike-Not : (f g : Filter) → Alike f g → Alike (filter.Not f) (filter.Not g)
  alike-Not f g h row = truth_of-Not b f row ∙ ap negated (h row) ∙ sym (truth_of-Not nothing_bound g row)

  pub alike-Cmp : (column : ℕ) (op : Op) (o p : Operand) → operand_value b o ≡ operand_value nothing_bound p → Alike (filter.Cmp column op o) (filter.Cmp column op p)
  alike-Cmp column op o p h row = truth_of-Cmp b column op o row ∙ ap (compared op (cell row column)) h ∙ sym (truth_of-Cmp nothing_bound column op p row)

  pub alike-Among : (column : ℕ) (n : Bool) (xs ys : Items) → item_values b xs ≡ item_values nothing_bound ys → Alike (filter.Among column n xs) (filter.Among column n ys)
  alike-Among column n xs ys h row = truth_of-Among b column n xs row ∙ ap (λ zs. negated_if n (among (cell row column) zs)) h ∙ sym (truth_of-Among nothing_bound column n ys row)

  pub alike-IsNull : (column : ℕ) (o p : Operand) → operand_value b o ≡ operand_value nothing_bound p → Alike (filter.IsNull column o) (filter.IsNull column p)
  alike-IsNull column o p h row = truth_of-IsNull b column o row ∙ ap (null_as_wanted (cell row column)) h ∙ sym (truth_of-IsNull nothing_bound column p row)

module _ (w : View) (names : List Text) (slots : List SessionSlot) (b : Binding) (vars : List Variable) (all : AllByRecursion Typed vars) where
  abbrev r : Reader
  r = operands w names slots

  -- the values themselves
  abbrev pub read : Reader
  read = record { one = λ k x. Const (value_read vars k x); many = λ k x. items.Each (map Const (values_read vars k x)) }

  abbrev Hears : List Text → Type 0
  Hears ns = AllListed w names slots b vars all ns

  one_same : (k : Kind) (x : GValue) → Hears (value_names x) → operand_value b (r.one k x) ≡ value_read vars k x
  one_same k x h = sym (read_bound w names slots b vars all k x (variable_listed w names slots b vars all x h))

  each_read : (k : Kind) (xs : List GValue) → ItemsListed w names slots b vars all xs → map (operand_value b) (map (operand_of w names slots k) xs) ≡ map (value_read vars k) xs
  each_read k [] h = refl
  each_read k (x ∷ xs) h = ap₂ (λ y ys. y ∷ ys) (sym (read_bound w names slots b vars all k x h.0)) (each_read k xs h.1)

  constants : (xs : List Val) → map (operand_value nothing_bound) (map Const xs) ≡ xs
  constants [] = refl
  constants (x ∷ xs) = ap (λ ys. x ∷ ys) (constants xs)

  many_same : (k : Kind) (x : GValue) → Hears (value_names x) → item_values b (r.many k x) ≡ item_values nothing_bound (read.many k x)
  many_same k x h = go (variable_in x) (variable_listed w names slots b vars all x h) ∙ sym (constants (values_read vars k x))
    where
      go : (o : Option Text) → ListedIn w names slots b vars all o → item_values b (items_or w names slots (items.Each (map (operand_of w names slots k) (items_in x))) o) ≡ values_by vars (map (value_read vars k) (items_in x)) o
      go None l = each_read k (items_in x) (items_listed w names slots b vars all x h)
      go (Some n) l = ap many_values l

  operator_same : (column : ℕ) (k : Kind) (p : GPair) → Hears (pair_names p) → Alike b (operator_filter w r column k p) (operator_filter w read column k p)
  operator_same column k p h = go (bytes_eq (pair_name p) (codes "_in")) (bytes_eq (pair_name p) (codes "_nin")) (bytes_eq (pair_name p) (codes "_is_null")) (op_named (pair_name p))
    where
      go : (x y z : Bool) (o : Option Op) →
          Alike b (if x then filter.Among column false (r.many k (pair_value p)) else if y then filter.Among column true (r.many k (pair_value p)) else if z then filter.IsNull column (r.one kind.Bool (pair_value p)) else compares column (r.one k (pair_value p)) o)
          (if x then filter.Among column false (read.many k (pair_value p)) else if y then filter.Among column true (read.many k (pair_value p)) else if z then filter.IsNull column (read.one kind.Bool (pair_value p)) else compares column (read.one k (pair_value p)) o)
      go true y z o = alike-Among b column false _ _ (many_same k (pair_value p) h)
      go false true z o = alike-Among b column true _ _ (many_same k (pair_value p) h)
      go false false true o = alike-IsNull b column _ _ (one_same kind.Bool (pair_value p) h)
      go false false false None = alike-And b [] [] tt
      go false false false (Some op) = alike-Cmp b column op _ _ (one_same k (pair_value p) h)

  operators_same : (column : ℕ) (k : Kind) (ps : List GPair) → AllByRecursion (PairListed w names slots b vars all) ps → BothAlike b (map (operator_filter w r column k) ps) (map (operator_filter w read column k) ps)
  operators_same column k [] h = tt
  operators_same column k (p ∷ ps) h = (operator_same column k p h.0, operators_same column k ps h.1)

  column_same : (table : ℕ) (x : GValue) (o : Option ℕ) → Hears (value_names x) → Alike b (column_filter w r table x o) (column_filter w read table x o)
  column_same table x None h = alike-And b [] [] tt
  column_same table x (Some column) h = alike-And b _ _ (operators_same column (kind_of w table column) (pairs_in x) (pairs_listed w names slots b vars all x h))

  record ValueSame (x : GValue) : Type 0 where
    one : (table : ℕ) → Alike b ((conditions_in w r x).one table) ((conditions_in w read x).one table)
    many : (table : ℕ) → BothAlike b ((conditions_in w r x).many table) ((conditions_in w read x).many table)

  abbrev IfHeard : GValue → Type 0
  IfHeard x = Hears (value_names x) → ValueSame x

  abbrev PairSame : GPair → Type 0
  PairSame p = Hears (pair_names p) → (table : ℕ) → Alike b (condition_at w r p table) (condition_at w read p table)

  abbrev EachSame : GValue-F GValue GPair → Type 0
  EachSame (GValue-F.Many xs) = AllByRecursion IfHeard xs
  EachSame (GValue-F.Object ps) = AllByRecursion PairSame ps
  EachSame _ = Unit {0}

  each_part : (y : GValue-F ((x : GValue) × IfHeard x) ((p : GPair) × PairSame p)) → EachSame (map-GValue ((x : GValue) × IfHeard x) ((p : GPair) × PairSame p) GValue GPair (λ e. e.0) (λ e. e.0) y)
  each_part (GValue-F.Var name) = tt
  each_part (GValue-F.Int t) = tt
  each_part (GValue-F.Text t) = tt
  each_part (GValue-F.Bool t) = tt
  each_part GValue-F.Null = tt
  each_part (GValue-F.Enum name) = tt
  each_part (GValue-F.Many xs) = firsts IfHeard xs
  each_part (GValue-F.Object ps) = firsts PairSame ps

  pair_same : (p : GPair) → IfHeard (out-GPair p).value → PairSame p
  pair_same p told l table = subst (λ f. Alike b f (condition_at w read p table)) (sym (key-is w r p table)) (subst (Alike b _) (sym (key-is w read p table)) (go (bytes_eq (pair_name p) (codes "_and")) (bytes_eq (pair_name p) (codes "_or")) (bytes_eq (pair_name p) (codes "_not"))))
    where
      go : (x y z : Bool) →
          Alike b (if x then filter.And ((conditions_in w r (pair_value p)).many table) else if y then filter.Or ((conditions_in w r (pair_value p)).many table) else if z then filter.Not ((conditions_in w r (pair_value p)).one table) else column_filter w r table (pair_value p) (column_seen w table (pair_name p)))
          (if x then filter.And ((conditions_in w read (pair_value p)).many table) else if y then filter.Or ((conditions_in w read (pair_value p)).many table) else if z then filter.Not ((conditions_in w read (pair_value p)).one table) else column_filter w read table (pair_value p) (column_seen w table (pair_name p)))
      go true y z = alike-And b _ _ ((told l).many table)
      go false true z = alike-Or b _ _ ((told l).many table)
      go false false true = alike-Not b _ _ ((told l).one table)
      go false false false = column_same table (pair_value p) (column_seen w table (pair_name p)) l

  abbrev layer : Reader → GValue-F GValue GPair → Conditions
  layer t f = conditions_step w t (map-GValue GValue GPair (GValue × Conditions) (GPair × (ℕ → Filter)) (λ y. (y, conditions_in w t y)) (λ p. (p, condition_at w t p)) f)

  keys_same : (table : ℕ) (ps : List GPair) → AllByRecursion PairSame ps → AllByRecursion (PairListed w names slots b vars all) ps →
      BothAlike b (map (λ (p : GPair × (ℕ → Filter)). p.1 table) (map {B = GPair × (ℕ → Filter)} (λ p. (p, condition_at w r p)) ps)) (map (λ (p : GPair × (ℕ → Filter)). p.1 table) (map {B = GPair × (ℕ → Filter)} (λ p. (p, condition_at w read p)) ps))
  keys_same table [] each l = tt
  keys_same table (p ∷ ps) each l = (each.0 l.0 table, keys_same table ps each.1 l.1)

  parts_same : (table : ℕ) (xs : List GValue) → AllByRecursion IfHeard xs → Hears (concatenated (map value_names xs)) →
      BothAlike b (map (λ (x : GValue × Conditions). x.1.one table) (map {B = GValue × Conditions} (λ y. (y, conditions_in w r y)) xs)) (map (λ (x : GValue × Conditions). x.1.one table) (map {B = GValue × Conditions} (λ y. (y, conditions_in w read y)) xs))
  parts_same table [] each l = tt
  parts_same table (x ∷ xs) each l =
      ((each.0 (front_holds _ (value_names x) (concatenated (map value_names xs)) l)).one table, parts_same table xs each.1 (back_holds _ (value_names x) (concatenated (map value_names xs)) l))

  one_by_form : (f : GValue-F GValue GPair) → EachSame f → Hears (names_by w names slots b vars all f) → (table : ℕ) → Alike b ((layer r f).one table) ((layer read f).one table)
  one_by_form (GValue-F.Object ps) each l table = alike-And b _ _ (keys_same table ps each (pairs_out w names slots b vars all ps l))
  one_by_form (GValue-F.Var name) each l table = alike-And b [] [] tt
  one_by_form (GValue-F.Int t) each l table = alike-And b [] [] tt
  one_by_form (GValue-F.Text t) each l table = alike-And b [] [] tt
  one_by_form (GValue-F.Bool t) each l table = alike-And b [] [] tt
  one_by_form GValue-F.Null each l table = alike-And b [] [] tt
  one_by_form (GValue-F.Enum name) each l table = alike-And b [] [] tt
  one_by_form (GValue-F.Many xs) each l table = alike-And b [] [] tt

  many_by_form : (f : GValue-F GValue GPair) → EachSame f → Hears (names_by w names slots b vars all f) → (table : ℕ) → BothAlike b ((layer r f).many table) ((layer read f).many table)
  many_by_form (GValue-F.Many xs) each l table = parts_same table xs each l
  many_by_form (GValue-F.Object ps) each l table = (one_by_form (GValue-F.Object ps) each l table, tt)
  many_by_form (GValue-F.Var name) each l table = (alike-And b [] [] tt, tt)
  many_by_form (GValue-F.Int t) each l table = (alike-And b [] [] tt, tt)
  many_by_form (GValue-F.Text t) each l table = (alike-And b [] [] tt, tt)
  many_by_form (GValue-F.Bool t) each l table = (alike-And b [] [] tt, tt)
  many_by_form GValue-F.Null each l table = (alike-And b [] [] tt, tt)
  many_by_form (GValue-F.Enum name) each l table = (alike-And b [] [] tt, tt)

  rolled_is : (t : Reader) (f : GValue-F GValue GPair) → conditions_in w t (roll-GValue f) ≡ layer t f
  rolled_is t f = conditions-is w t (roll-GValue f) ∙ ap (layer t) (out-roll-GValue f)

  rolled_same : (f : GValue-F GValue GPair) → EachSame f → IfHeard (roll-GValue f)
  rolled_same f each l =
      let named = subst Hears (names_out w names slots b vars all (roll-GValue f) ∙ ap (names_by w names slots b vars all) (out-roll-GValue f)) l in
      record {
        one = λ table. subst (λ (c : Conditions). Alike b (c.one table) ((conditions_in w read (roll-GValue f)).one table)) (sym (rolled_is r f)) (subst (λ (c : Conditions). Alike b ((layer r f).one table) (c.one table)) (sym (rolled_is read f)) (one_by_form f each named table));
        many = λ table. subst (λ (c : Conditions). BothAlike b (c.many table) ((conditions_in w read (roll-GValue f)).many table)) (sym (rolled_is r f)) (subst (λ (c : Conditions). BothAlike b ((layer r f).many table) (c.many table)) (sym (rolled_is read f)) (many_by_form f each named table));
      }

  value_same : (x : GValue) → IfHeard x
  value_same = ind-GValue IfHeard PairSame
      (λ f y is. rolled_same f (subst EachSame is (each_part y)))
      (λ f y is. pair_same (roll-GPair f) (subst (λ z. IfHeard z.value) (sym (out-roll-GPair f)) (subst (λ z. IfHeard z.value) is y.value.1)))

  -- `where` is as true
  pub where_same : (table : ℕ) (x : GValue) → Hears (value_names x) → Alike b (where_filter w r table (Some x)) (where_filter w read table (Some x))
  where_same table x h = (value_same x h).one table
