-- Selections fit where their parts do, and the arguments that the walk lets pass give such parts.
use Rattle.std.proofs.Common.{◌≡◌, ℕ, Bool, true, false, ◌&&◌, ◌==◌, List, [], ◌∷◌, map, find, flat_map, filter_map, length, nat_lt, Option, Some, None, option_map, option_and_then, refl, ap, sym, ◌∙◌, subst}
use Rattle.std.proofs.lemmas.Bool.{and_from}
use Rattle.std.proofs.lemmas.Slice.Eq.{bytes_eq-Decides}
use Rattle.std.specs.Prelude.{codes}
use Rattle.std.specs.Str.{bytes_eq}
use Rattle.std.specs.List.{list_all, AllByRecursion}
use Rattle.data_model.specs.declared.catalog.Catalog.{Catalog}
use Rattle.plan_model.specs.declared.filter.Binding.{Binding}
use Rattle.plan_model.specs.declared.filter.Filter.{Filter}
use Rattle.plan_model.specs.declared.plan.Order.{Order}
use Rattle.plan_model.specs.declared.plan.Field.{Field}
use Rattle.plan_model.specs.declared.plan.Field.TheVariants as field
use Rattle.plan_model.specs.declared.plan.Field.TheVariants.{rolls-Column, rolls-Typename, rolls-Link}
use Rattle.plan_model.specs.declared.plan.Field.TheOpen.{Select-F}
use Rattle.plan_model.specs.declared.plan.Field.TheViews.{roll-Select}
use Rattle.plan_model.specs.declared.plan.Field.TheFolds.{fold-Field, fold-roll-Field, fold-roll-Select}
use Rattle.plan_model.specs.declared.plan.Select.{Select}
use Rattle.role_model.specs.Roles.{View, filter_seen, column_seen}
use Rattle.plan_model.specs.FilterFits.{itself}
use Rattle.request_model.specs.declared.document.GValue.{GValue}
use Rattle.request_model.specs.declared.document.GPair.{GPair}
use Rattle.request_model.specs.Strings.{Text}
use Rattle.request_model.specs.SelectionLaws.{bare_cursor, bare_argument}
use Rattle.query_model.specs.declared.fault.FaultKind.TheVariants as fault
use Rattle.query_model.specs.declared.fault.QueryFault.{QueryFault}
use Rattle.query_model.specs.Names.{pair_name, pair_value, argument, variable_by, variable_in, pairs_in, items_in, enum_in}
use Rattle.query_model.specs.declared.variable.Variable.{Variable}
use Rattle.query_model.specs.Conditions.{order_named, order_entry, order_in, orders_in, where_filter}
use Rattle.query_model.specs.declared.session.SessionSlot.{SessionSlot}
use Rattle.query_model.specs.Queries.{value_names, slots_by, table_slots}
use Rattle.query_model.specs.Refusals.{refusal}
use Rattle.query_model.specs.ArgumentFaults.{Known, known_fault, judged_by, arguments_fault, list_arguments}
use Rattle.query_model.specs.ConditionFaults.{where_fault}
use Rattle.query_model.specs.CountFaults.{count_fault}
use Rattle.plan_model.specs.PlanFits.{has_column, columns_fit, shape_fits, FitsAt, fits_field_step, fits_select_step, select_fits}
use Rattle.plan_model.specs.BindingFits.{count_fits, batch_fits, bound_field_step, bound_select_step, is_bound, values_fit}
use Rattle.query_model.specs.Plans.{operands, permission, permission_by, count_operand, list_select, one_select}
use Rattle.admission_laws.proofs.BareArguments.{keyed_renews, inside, form_kept}
use Rattle.query_model.proofs.Positions.{each_found, each_filtered, each_joined_all, all_from}
use Rattle.admission_laws.proofs.AgreedValues.{front_holds, back_holds}
use Rattle.admission_laws.proofs.GoodMetadata.{GoodMetadata}
use Rattle.admission_laws.proofs.FittingFilters.{Fit, fit-And, fits_slotted}
use Rattle.admission_laws.proofs.TypedValues.{Typed, clash, some_none, none_some, same_some}
use Rattle.admission_laws.proofs.PassedValues.{ListedIn, count_good}
use Rattle.admission_laws.proofs.PassedConditions.{seen_within, each_judged, AllListed, variable_listed, where_good, always_fits}

module _ (catalog : Catalog) (b : Binding) where
  pub record SelectGood (is_root : Bool) (to : List ℕ) (s : Select) : Type 0 where
    pub fits : select_fits catalog s is_root to ≡ true
    pub bound : is_bound b s ≡ true

  abbrev pub field_fits : Field → ℕ → Bool
  field_fits = fold-Field (ℕ → Bool) (FitsAt catalog) (fits_field_step catalog) (fits_select_step catalog)

  abbrev pub field_bound : Field → Bool
  field_bound = fold-Field Bool Bool (bound_field_step b) (bound_select_step b)

  pub record FieldGood (table : ℕ) (f : Field) : Type 0 where
    pub fits : field_fits f table ≡ true
    pub bound : field_bound f ≡ true

  pub typename_good : (table : ℕ) (key : Text) → FieldGood table (field.Typename key)
  typename_good table key = record {
    fits = ap (λ (f : Field). field_fits f table) (sym (rolls-Typename key)) ∙ ap (λ (g : ℕ → Bool). g table) (fold-roll-Field (ℕ → Bool) (FitsAt catalog) (fits_field_step catalog) (fits_select_step catalog) _);
    bound = ap field_bound (sym (rolls-Typename key)) ∙ fold-roll-Field Bool Bool (bound_field_step b) (bound_select_step b) _;
  }

  pub column_field_good : (table : ℕ) (key : Text) (column : ℕ) → has_column catalog table column ≡ true → FieldGood table (field.Column key column)
  column_field_good table key column h = record {
    fits = ap (λ (f : Field). field_fits f table) (sym (rolls-Column key column)) ∙ ap (λ (g : ℕ → Bool). g table) (fold-roll-Field (ℕ → Bool) (FitsAt catalog) (fits_field_step catalog) (fits_select_step catalog) _) ∙ h;
    bound = ap field_bound (sym (rolls-Column key column)) ∙ fold-roll-Field Bool Bool (bound_field_step b) (bound_select_step b) _;
  }

  pub link_field_good : (table : ℕ) (key : Text) (from to : List ℕ) (s : Select) → (length from == length to) ≡ true → list_all (has_column catalog table) from ≡ true → SelectGood false to s → FieldGood table (field.Link key from to s)
  link_field_good table key from to s h k g = record {
    fits =
        ap (λ (f : Field). field_fits f table) (sym (rolls-Link key from to s)) ∙ ap (λ (g : ℕ → Bool). g table) (fold-roll-Field (ℕ → Bool) (FitsAt catalog) (fits_field_step catalog) (fits_select_step catalog) _)
        ∙ and_from ((length from == length to) && list_all (has_column catalog table) from) (select_fits catalog s false to) (and_from (length from == length to) (list_all (has_column catalog table) from) h k) g.fits;
    bound = ap field_bound (sym (rolls-Link key from to s)) ∙ fold-roll-Field Bool Bool (bound_field_step b) (bound_select_step b) _ ∙ g.bound;
  }

  each_field_fits : (table : ℕ) (fs : List Field) → AllByRecursion (FieldGood table) fs → list_all (λ (f : ℕ → Bool). f table) (map field_fits fs) ≡ true
  each_field_fits table [] all = refl
  each_field_fits table (f ∷ fs) all = and_from (field_fits f table) _ all.0.fits (each_field_fits table fs all.1)

  each_field_bound : (table : ℕ) (fs : List Field) → AllByRecursion (FieldGood table) fs → list_all itself (map field_bound fs) ≡ true
  each_field_bound table [] all = refl
  each_field_bound table (f ∷ fs) all = and_from (field_bound f) _ all.0.bound (each_field_bound table fs all.1)

  pub select_good : (is_root : Bool) (to : List ℕ) (s : Select-F Field Select) → nat_lt s.table (length catalog.tables) ≡ true → list_all (has_column catalog s.table) to ≡ true → shape_fits catalog is_root s.table s.shape ≡ true →
      Fit catalog b s.table s.filter → list_all (λ (o : Order). has_column catalog s.table o.column) s.order ≡ true → AllByRecursion (FieldGood s.table) s.fields →
      count_fits b s.limit ≡ true → count_fits b s.offset ≡ true → batch_fits b s.shape ≡ true → SelectGood is_root to (roll-Select s)
  select_good is_root to s table joined shaped fit order fields limit offset batch = record {
    fits =
        ap (λ (g : FitsAt catalog). g is_root to) (fold-roll-Select (ℕ → Bool) (FitsAt catalog) (fits_field_step catalog) (fits_select_step catalog) s)
        ∙ and_from _ (list_all (λ (f : ℕ → Bool). f s.table) (map field_fits s.fields))
        (and_from _ (list_all (λ (o : Order). has_column catalog s.table o.column) s.order)
        (and_from _ (columns_fit catalog s.table s.filter) (and_from _ (shape_fits catalog is_root s.table s.shape) (and_from (nat_lt s.table (length catalog.tables)) (list_all (has_column catalog s.table) to) table joined) shaped) fit.columns) order)
        (each_field_fits s.table s.fields fields);
    bound =
        fold-roll-Select Bool Bool (bound_field_step b) (bound_select_step b) s
        ∙ and_from _ (list_all itself (map field_bound s.fields))
        (and_from _ (batch_fits b s.shape) (and_from _ (count_fits b s.offset) (and_from (values_fit b s.filter) (count_fits b s.limit) fit.values limit) offset) batch) (each_field_bound s.table s.fields fields);
  }

-- ---- orders

module _ (w : View) (table : ℕ) where
  abbrev OrderThere : Order → Type 0
  OrderThere o = has_column w.metadata.catalog table o.column ≡ true

  order_there : (p : GPair) (o : Order) → order_in w table p ≡ Some o → OrderThere o
  order_there p o h = go (column_seen w table (pair_name p)) (seen_within w table (pair_name p)) h
    where
      inner : (c : ℕ) (e : Option (Bool × Bool)) → has_column w.metadata.catalog table c ≡ true → option_map (order_entry c) e ≡ Some o → OrderThere o
      inner c None t k = absurd (none_some o k)
      inner c (Some e) t k = subst OrderThere (same_some (order_entry c e) o k) t

      go : (s : Option ℕ) → ((c : ℕ) → s ≡ Some c → has_column w.metadata.catalog table c ≡ true) → option_and_then (λ column. option_map (order_entry column) (option_and_then order_named (enum_in (pair_value p)))) s ≡ Some o → OrderThere o
      go None t k = absurd (none_some o k)
      go (Some c) t k = inner c (option_and_then order_named (enum_in (pair_value p))) (t c refl) k

  pairs_there : (ps : List GPair) → AllByRecursion OrderThere (filter_map (order_in w table) ps)
  pairs_there ps = each_filtered (λ p. Unit {0}) OrderThere (order_in w table) (λ p t o h. order_there p o h) ps (every ps)
    where
      every : (qs : List GPair) → AllByRecursion (λ (p : GPair). Unit {0}) qs
      every [] = tt
      every (q ∷ qs) = (tt, every qs)

  pub orders_within : (o : Option GValue) → list_all (λ (x : Order). has_column w.metadata.catalog table x.column) (orders_in w table o) ≡ true
  orders_within None = refl
  orders_within (Some x) = all_from (λ (x : Order). has_column w.metadata.catalog table x.column) (orders_in w table (Some x)) (go (items_in x))
    where
      go : (ys : List GValue) → AllByRecursion OrderThere (flat_map (λ y. filter_map (order_in w table) (pairs_in y)) ys)
      go [] = tt
      go (y ∷ ys) = each_joined_all OrderThere (filter_map (order_in w table) (pairs_in y)) (flat_map (λ y. filter_map (order_in w table) (pairs_in y)) ys) (pairs_there (pairs_in y)) (go ys)

-- ---- arguments

module _ (w : View) (names : List Text) (slots : List SessionSlot) (b : Binding) (vars : List Variable) (all : AllByRecursion Typed vars) where
  abbrev pub bare_pair_names : GPair → List Text
  bare_pair_names p = value_names (pair_value (bare_argument p))

  abbrev Told : List Text → Type 0
  Told ns = AllListed w names slots b vars all ns

  pub record Argument (known : Known) (name : Text) (x : GValue) : Type 0 where
    pub pair : GPair
    pub value_is : pair_value pair ≡ x
    pub name_is : pair_name pair ≡ name
    pub judge : GValue → Option QueryFault
    pub known_is : known name ≡ Some judge
    pub passes : judge x ≡ None
    pub listed : Told (bare_pair_names pair)

  each_told : (args : List GPair) → Told (flat_map bare_pair_names args) → AllByRecursion (λ p. Told (bare_pair_names p)) args
  each_told [] h = tt
  each_told (p ∷ ps) h =
      (front_holds _ (bare_pair_names p) (flat_map bare_pair_names ps) h, each_told ps (back_holds _ (bare_pair_names p) (flat_map bare_pair_names ps) h))

  pub argument_good : (known : Known) (name : Text) (args : List GPair) → arguments_fault vars w known args ≡ None → Told (flat_map bare_pair_names args) → (x : GValue) → argument name args ≡ Some x → Argument known name x
  argument_good known name args h l x e = outer (find (λ p. bytes_eq name (pair_name p)) args) refl e
    where
      inner : (p : GPair) → pair_name p ≡ name → Told (bare_pair_names p) → (o : Option (GValue → Option QueryFault)) → known name ≡ o → known_fault vars w p o ≡ None → Argument known name (pair_value p)
      inner p n t None k j = absurd (some_none (refusal fault.NoArgument (pair_name p)) j)
      inner p n t (Some judge) k j = record { pair = p; value_is = refl; name_is = n; judge = judge; known_is = k; passes = j; listed = t }

      outer : (o : Option GPair) → find (λ p. bytes_eq name (pair_name p)) args ≡ o → option_map pair_value o ≡ Some x → Argument known name x
      outer None f k = absurd (none_some x k)
      outer (Some p) f k =
          let judged = each_found (λ p. judged_by vars w known p ≡ None) (λ p. bytes_eq name (pair_name p)) args p (each_judged (refusal fault.NoArgument) (judged_by vars w known) [] args h) f in
          let told = each_found (λ p. Told (bare_pair_names p)) (λ p. bytes_eq name (pair_name p)) args p (each_told args l) f in
          let n : name ≡ pair_name p = (bytes_eq-Decides name (pair_name p)).0 judged.1 in
          subst (Argument known name) (same_some (pair_value p) x k) (inner p (sym n) told.0 (known name) refl (ap (λ t. known_fault vars w p (known t)) n ∙ judged.0))

  -- the names in an argument other than `cursor`
  pub whole_listed : (known : Known) (name : Text) (x : GValue) → bytes_eq name (codes "cursor") ≡ false → Argument known name x → Told (value_names x)
  whole_listed known name x n a =
      subst (λ z. Told (value_names z)) (go (bytes_eq (pair_name a.pair) (codes "cursor")) (ap (λ t. bytes_eq t (codes "cursor")) a.name_is ∙ n) ((keyed_renews (codes "cursor") bare_cursor).value_is a.pair)) a.listed
    where
      go : (c : Bool) → c ≡ false → pair_value (bare_argument a.pair) ≡ inside (codes "cursor") bare_cursor c (pair_value a.pair) → pair_value (bare_argument a.pair) ≡ x
      go true e k = absurd (clash e)
      go false e k = k ∙ a.value_is

  -- and the variable that any argument is
  pub any_listed : (known : Known) (name : Text) (x : GValue) → Argument known name x → ListedIn w names slots b vars all (variable_in x)
  any_listed known name x a =
      subst (ListedIn w names slots b vars all) (ap variable_in ((keyed_renews (codes "cursor") bare_cursor).value_is a.pair) ∙ go (bytes_eq (pair_name a.pair) (codes "cursor")) ∙ ap variable_in a.value_is)
      (variable_listed w names slots b vars all (pair_value (bare_argument a.pair)) a.listed)
    where
      go : (c : Bool) → variable_in (inside (codes "cursor") bare_cursor c (pair_value a.pair)) ≡ variable_in (pair_value a.pair)
      go true = form_kept variable_by (λ xs ys. refl) (λ ps qs. refl) (pair_value a.pair)
      go false = refl

  -- ---- what a role's permission adds

  module _ (good : GoodMetadata w.metadata) (bound : length b.session ≡ length slots) where
    pub permission_good : (table : ℕ) → AllByRecursion (λ (s : SessionSlot). nat_lt 0 (length slots) ≡ true) (table_slots w table) → AllByRecursion (Fit w.metadata.catalog b table) (permission w names slots table)
    permission_good table h = go (filter_seen w table) refl h
      where
        go : (o : Option Filter) → filter_seen w table ≡ o → AllByRecursion (λ (s : SessionSlot). nat_lt 0 (length slots) ≡ true) (slots_by w table o) → AllByRecursion (Fit w.metadata.catalog b table) (permission_by w names slots table o)
        go None e k = tt
        go (Some f) e k = (fits_slotted w names slots b bound table f (good.filters w.role table f e) k, tt)

    abbrev pub Permitted : ℕ → Type 0
    Permitted table = AllByRecursion (λ (s : SessionSlot). nat_lt 0 (length slots) ≡ true) (table_slots w table)

    abbrev Fits : ℕ → Filter → Type 0
    Fits table f = Fit w.metadata.catalog b table f

    pub where_of : (known : Known) (table : ℕ) (args : List GPair) → known (codes "where") ≡ Some (where_fault vars w table) → arguments_fault vars w known args ≡ None → Told (flat_map bare_pair_names args) →
        (o : Option GValue) → argument (codes "where") args ≡ o → Fits table (where_filter w (operands w names slots) table o)
    where_of known table args k h l None e = always_fits w names slots b vars all table
    where_of known table args k h l (Some x) e =
        let a = argument_good known (codes "where") args h l x e in
        where_good w names slots b vars all table x (whole_listed known (codes "where") x refl a)
        (ap (λ (f : GValue → Option QueryFault). f x) (same_some (where_fault vars w table) a.judge (sym k ∙ a.known_is)) ∙ a.passes)

    count_of : (table : ℕ) (name : Text) (args : List GPair) → bytes_eq name (codes "cursor") ≡ false → list_arguments vars w table name ≡ Some (count_fault vars name) → arguments_fault vars w (list_arguments vars w table) args ≡ None → Told (flat_map bare_pair_names args) →
        (o : Option GValue) → argument name args ≡ o → count_fits b (count_operand w names slots o) ≡ true
    count_of table name args n k h l None e = refl
    count_of table name args n k h l (Some x) e =
        let a = argument_good (list_arguments vars w table) name args h l x e in
        count_good w names slots b vars all name x (any_listed (list_arguments vars w table) name x a)
        (ap (λ (f : GValue → Option QueryFault). f x) (same_some (count_fault vars name) a.judge (sym k ∙ a.known_is)) ∙ a.passes)

    pub list_good : (is_root : Bool) (to : List ℕ) (table : ℕ) (args : List GPair) (fields : List Field) → nat_lt table (length w.metadata.catalog.tables) ≡ true → list_all (has_column w.metadata.catalog table) to ≡ true → Permitted table →
        arguments_fault vars w (list_arguments vars w table) args ≡ None → Told (flat_map bare_pair_names args) → AllByRecursion (FieldGood w.metadata.catalog b table) fields → SelectGood w.metadata.catalog b is_root to (list_select w names slots table args fields)
    list_good is_root to table args fields there joined permitted h l goods =
        select_good w.metadata.catalog b is_root to _ there joined refl
        (fit-And w.metadata.catalog b table _ (where_of (list_arguments vars w table) table args refl h l (argument (codes "where") args) refl, permission_good table permitted))
        (orders_within w table (argument (codes "order_by") args)) goods
        (count_of table (codes "limit") args refl refl h l (argument (codes "limit") args) refl) (count_of table (codes "offset") args refl refl h l (argument (codes "offset") args) refl) refl

    pub one_good : (is_root : Bool) (to : List ℕ) (table : ℕ) (conditions : List Filter) (fields : List Field) → nat_lt table (length w.metadata.catalog.tables) ≡ true → list_all (has_column w.metadata.catalog table) to ≡ true → Permitted table →
        AllByRecursion (Fits table) conditions → AllByRecursion (FieldGood w.metadata.catalog b table) fields → SelectGood w.metadata.catalog b is_root to (one_select w names slots table conditions fields)
    one_good is_root to table conditions fields there joined permitted fit goods =
        select_good w.metadata.catalog b is_root to _ there joined refl
        (fit-And w.metadata.catalog b table _ (each_joined_all (Fits table) conditions (permission w names slots table) fit (permission_good table permitted))) refl goods refl refl refl
