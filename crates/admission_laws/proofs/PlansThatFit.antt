-- An admitted query has a plan that fits, and its binding fits it, with any cursor.
use Rattle.std.proofs.Common.{◌≡◌, ℕ, Bool, true, false, ◌&&◌, ◌||◌, if◌then◌else◌, List, [], ◌∷◌, ◌++◌, map, find, flat_map, length, nat_lt, slice_get, is_some, is_none, unwrap_or, Option, Some, None, option_map, option_and_then, refl, ap, sym, ◌∙◌, subst, append_assoc}
use Rattle.std.proofs.lemmas.Bool.{and_parts}
use Rattle.std.proofs.lemmas.Option.{slice_get-map}
use Rattle.std.proofs.lemmas.List.{length-map}
use Rattle.std.proofs.lemmas.Slice.Eq.{bytes_eq-Decides}
use Rattle.std.specs.Prelude.{codes}
use Rattle.std.specs.Str.{bytes_eq}
use Rattle.std.specs.Ordering.{match_ordering}
use Rattle.std.specs.declared.cmp.Ordering.{Ordering}
use Rattle.std.specs.declared.cmp.Ordering.TheVariants.{Less, Equal, Greater}
use Rattle.std.specs.List.{list_all, list_any, AllByRecursion}
use Rattle.scalar_val.specs.declared.val.Val.{Val}
use Rattle.scalar_val.specs.declared.val.Val.TheVariants as val
use Rattle.data_model.specs.declared.catalog.Catalog.{Catalog}
use Rattle.data_model.specs.declared.catalog.TableDef.{TableDef}
use Rattle.plan_model.specs.declared.filter.Binding.{Binding}
use Rattle.plan_model.specs.declared.filter.Op.TheVariants.{Eq}
use Rattle.plan_model.specs.declared.filter.Operand.TheVariants.{Const}
use Rattle.plan_model.specs.FilterFits.{operand_fits}
use Rattle.plan_model.specs.Values.{operand_value}
use Rattle.role_model.specs.declared.metadata.Metadata.{Metadata}
use Rattle.plan_model.specs.declared.plan.Plan.{Plan}
use Rattle.plan_model.specs.declared.plan.Select.{Select}
use Rattle.role_model.specs.JsonFilters.{slot_of}
use Rattle.role_model.specs.Roles.{View, table_at, column_seen}
use Rattle.request_model.specs.declared.document.GValue.{GValue}
use Rattle.request_model.specs.declared.document.GPair.{GPair}
use Rattle.request_model.specs.declared.flat.FlatField.{FlatField}
use Rattle.request_model.specs.declared.flat.FlatField.TheOpen.{FlatField-F}
use Rattle.request_model.specs.declared.flat.FlatField.TheViews.{out-FlatField}
use Rattle.request_model.specs.declared.flat.FlatField.TheFolds.{fold_out-FlatField}
use Rattle.request_model.specs.declared.flat.Flat.{Flat}
use Rattle.request_model.specs.Strings.{Text}
use Rattle.scalar_val.specs.Ordered.{included, distinct_in_order}
use Rattle.request_model.specs.Selection.{concatenated}
use Rattle.request_model.specs.SelectionLaws.{bare_argument}
use Rattle.query_model.specs.declared.fault.FaultKind.TheVariants as fault
use Rattle.query_model.specs.declared.fault.QueryFault.{QueryFault}
use Rattle.query_model.specs.Names.{Root, RowsOf, RowOf, StreamOf, NoRoot, key_in, key_columns, column_name, kind_of, literal_value, variable_in, pair_name, pair_value, pairs_in, items_in, argument, pairs_of_first, pairs_or_none, first_pair, initial_column}
use Rattle.query_model.specs.declared.variable.Variable.{Variable}
use Rattle.query_model.specs.Variables.{variable_slot}
use Rattle.query_model.specs.declared.session.SessionSlot.{SessionSlot}
use Rattle.query_model.specs.declared.session.SessionValue.{SessionValue}
use Rattle.query_model.specs.Queries.{slot_cmp, value_names, field_names_step, table_slots, root_tables, root_of, selection_slots, text_variables, view_of, binding_of}
use Rattle.query_model.specs.Refusals.{refusal, refused_if, pairs_fault}
use Rattle.query_model.specs.ArgumentFaults.{arguments_fault, missing_fault, list_arguments, key_names, key_kind, stream_arguments}
use Rattle.query_model.specs.ArgumentFaults.{key_arguments}
use Rattle.query_model.specs.Walk.{judging, root_fault, walk_fault}
use Rattle.query_model.specs.ValueFaults.{single_fault, is_object}
use Rattle.query_model.specs.CountFaults.{batch_fault}
use Rattle.query_model.specs.CursorFaults.{cursor_fault, only_object_fault, cursor_object_fault, cursor_key_fault, one_pair_fault, initial_pair_fault, bad_cursor, is_ordering}
use Rattle.query_model.specs.Admission.{Admitted}
use Rattle.plan_model.specs.BindingFits.{is_number}
use Rattle.plan_model.specs.PlanFits.{has_column}
use Rattle.query_model.specs.Plans.{operand_by, column_condition, key_condition, batch_operand, root_select, plan_with, root_plan, plan_of}
use Rattle.query_model.specs.AdmissionLaws.{IsAdmitted, PlansFit}
use Rattle.admission_laws.proofs.BareNames.{all_names, distinct_added}
use Rattle.admission_laws.proofs.PlansThere.{neither, only_root}
use Rattle.query_model.proofs.Positions.{below_next, placed_at, has_place, each_found, each_mapped}
use Rattle.admission_laws.proofs.AgreedValues.{front_holds, back_holds}
use Rattle.admission_laws.proofs.GoodMetadata.{GoodMetadata, good_metadata}
use Rattle.admission_laws.proofs.FittingFilters.{Fit, fit-And, fit-Or, fit-Cmp}
use Rattle.admission_laws.proofs.TypedValues.{Typed, variables_typed, clash, some_none, none_some, same_some, passed_if}
use Rattle.admission_laws.proofs.PassedValues.{single_good, batch_good}
use Rattle.admission_laws.proofs.PassedConditions.{seen_within, each_judged}
use Rattle.admission_laws.proofs.FittingSelects.{SelectGood, Argument, argument_good, any_listed, select_good, permission_good, where_of, list_good, one_good}
use Rattle.admission_laws.proofs.FittingPlans.{object_passes, Told, MayRead, fields_good, InRange, root_in_range}
use Rattle.admission_laws.proofs.SharedPlans.{made_of}
use Rattle.admission_laws.proofs.AdmittedSlots.{slots_of, adding_holds}

each_of : (p : ℕ → Bool) (xs : List ℕ) → list_all p xs ≡ true → AllByRecursion (λ x. p x ≡ true) xs
each_of p [] h = tt
each_of p (x ∷ xs) h = let parts = and_parts (p x) (list_all p xs) h in (parts.0, each_of p xs parts.1)

-- ---- the column of a stream

module _ (w : View) (vars : List Variable) (table : ℕ) where
  abbrev column_of : Option GPair → ℕ
  column_of o = unwrap_or (option_and_then (λ p. column_seen w table (pair_name p)) o) 0

  abbrev IsThere : ℕ → Type 0
  IsThere c = has_column w.metadata.catalog table c ≡ true

  bad : {A : Type 0} → bad_cursor vars w ≡ None → A
  bad h = absurd (some_none (refusal fault.BadCursor (codes "cursor")) h)

  one_there : (ps : List GPair) → one_pair_fault vars w table ps ≡ None → IsThere (column_of (first_pair ps))
  one_there [] h = bad h
  one_there (p ∷ q ∷ ps) h = bad h
  one_there (p ∷ []) h = go (column_seen w table (pair_name p)) refl h
    where
      go : (o : Option ℕ) → column_seen w table (pair_name p) ≡ o → initial_pair_fault vars w table p o ≡ None → IsThere (unwrap_or o 0)
      go None e k = bad k
      go (Some c) e k = seen_within w table (pair_name p) c e

  -- a key `initial_value` is judged by its object
  key_is : (q : GPair) (c : Bool) → c ≡ true → (if c then (if is_object (pair_value q) then one_pair_fault vars w table (pairs_in (pair_value q)) else bad_cursor vars w)
      else if bytes_eq (pair_name q) (codes "ordering") then (if is_ordering vars w (pair_value q) then None else bad_cursor vars w) else bad_cursor vars w)
      ≡ (if is_object (pair_value q) then one_pair_fault vars w table (pairs_in (pair_value q)) else bad_cursor vars w)
  key_is q true e = refl
  key_is q false e = absurd (clash (sym e))

  object_there : (ps : List GPair) → cursor_object_fault vars w table ps ≡ None → IsThere (column_of (first_pair (pairs_or_none (argument (codes "initial_value") ps))))
  object_there ps h =
      let parts = neither (pairs_fault (λ other. refusal fault.BadCursor (codes "cursor")) (cursor_key_fault vars w table) [] ps) (if is_some (argument (codes "initial_value") ps) then None else bad_cursor vars w) h in
      outer (find (λ p. bytes_eq (codes "initial_value") (pair_name p)) ps) refl parts.1 (each_judged (λ other. refusal fault.BadCursor (codes "cursor")) (cursor_key_fault vars w table) [] ps parts.0)
    where
      object : (q : GPair) (c : Bool) → (if c then one_pair_fault vars w table (pairs_in (pair_value q)) else bad_cursor vars w) ≡ None → IsThere (column_of (first_pair (pairs_in (pair_value q))))
      object q true k = one_there (pairs_in (pair_value q)) k
      object q false k = bad k

      key : (q : GPair) → bytes_eq (pair_name q) (codes "initial_value") ≡ true → cursor_key_fault vars w table q ≡ None → IsThere (column_of (first_pair (pairs_in (pair_value q))))
      key q e k = object q (is_object (pair_value q)) (sym (key_is q (bytes_eq (pair_name q) (codes "initial_value")) e) ∙ k)

      outer : (o : Option GPair) → find (λ p. bytes_eq (codes "initial_value") (pair_name p)) ps ≡ o → (if is_some (option_map pair_value o) then None else bad_cursor vars w) ≡ None →
          AllByRecursion (λ p. cursor_key_fault vars w table p ≡ None) ps → IsThere (column_of (first_pair (pairs_or_none (option_map pair_value o))))
      outer None e k each = bad k
      outer (Some q) e k each =
          let r = each_found (λ p. cursor_key_fault vars w table p ≡ None) (λ p. bytes_eq (codes "initial_value") (pair_name p)) ps q each e in
          key q ((bytes_eq-Decides (pair_name q) (codes "initial_value")).1 (sym ((bytes_eq-Decides (codes "initial_value") (pair_name q)).0 r.1))) r.0

  items_there : (xs : List GValue) → only_object_fault vars w table xs ≡ None → IsThere (column_of (first_pair (pairs_or_none (argument (codes "initial_value") (pairs_of_first (Some xs))))))
  items_there [] h = bad h
  items_there (x ∷ y ∷ xs) h = bad h
  items_there (x ∷ []) h = go (is_object x) h
    where
      go : (c : Bool) → (if c then cursor_object_fault vars w table (pairs_in x) else bad_cursor vars w) ≡ None → IsThere (column_of (first_pair (pairs_or_none (argument (codes "initial_value") (pairs_in x)))))
      go true k = object_there (pairs_in x) k
      go false k = bad k

-- ---- a root

module _ (w : View) (names : List Text) (slots : List SessionSlot) (b : Binding) (vars : List Variable) (all : AllByRecursion Typed vars) (good : GoodMetadata w.metadata) (bound : length b.session ≡ length slots) where
  abbrev catalog : Catalog
  catalog = w.metadata.catalog

  abbrev Hears : List Text → Type 0
  Hears ns = Told w names slots b vars all good bound ns

  abbrev Reads : List ℕ → Type 0
  Reads ts = MayRead w names slots b vars all good bound ts

  abbrev own_names : List GPair → List Text
  own_names args = flat_map (λ p. value_names (pair_value (bare_argument p))) args

  module _ (table : ℕ) (args : List GPair) where
    key_good : arguments_fault vars w (key_arguments vars w table) args ≡ None → Hears (own_names args) → (column : ℕ) → has_column catalog table column ≡ true → Fit catalog b table (key_condition w names slots table args column)
    key_good h l column there = go (argument (column_name w table column) args) refl
      where
        kinds : (x : GValue) (o : Option Text) (k l : Val) → operand_fits b (operand_by w names slots (Const k) o) ≡ true → operand_fits b (operand_by w names slots (Const l) o) ≡ true
        kinds x None k l e = refl
        kinds x (Some n) k l e = e

        single : (x : GValue) → Argument w names slots b vars all (key_arguments vars w table) (column_name w table column) x → (c : Bool) →
            (judge : GValue → Option QueryFault) → (if c then Some (single_fault vars (column_name w table column) (key_kind vars w table (column_name w table column))) else None) ≡ Some judge → judge x ≡ None →
            single_fault vars (column_name w table column) (key_kind vars w table (column_name w table column)) x ≡ None
        single x a true judge e j = ap (λ (f : GValue → Option QueryFault). f x) (same_some (single_fault vars (column_name w table column) (key_kind vars w table (column_name w table column))) judge e) ∙ j
        single x a false judge e j = absurd (none_some judge e)

        go : (o : Option GValue) → argument (column_name w table column) args ≡ o → Fit catalog b table (column_condition w names slots table column o)
        go None e = fit-Or catalog b table [] tt
        go (Some x) e =
            let a = argument_good w names slots b vars all (key_arguments vars w table) (column_name w table column) args h l x e in
            let k = key_kind vars w table (column_name w table column) in
            let one = single_good w names slots b vars all (column_name w table column) k x (any_listed w names slots b vars all (key_arguments vars w table) (column_name w table column) x a)
            (single x a (list_any (bytes_eq (column_name w table column)) (key_names vars w table)) a.judge a.known_is a.passes) in
            fit-Cmp catalog b table column Eq _ there (kinds x (variable_in x) (literal_value k x) (literal_value (kind_of w table column) x) one.fits)

    keys_good : arguments_fault vars w (key_arguments vars w table) args ≡ None → Hears (own_names args) → AllByRecursion (Fit catalog b table) (map (key_condition w names slots table args) (key_columns w table))
    keys_good h l =
        each_mapped (λ c. has_column catalog table c ≡ true) (Fit catalog b table) (key_condition w names slots table args) (λ c t. key_good h l c t) (key_columns w table) (go (table_at w table) refl)
      where
        go : (o : Option TableDef) → table_at w table ≡ o → AllByRecursion (λ c. has_column catalog table c ≡ true) (key_in o)
        go None e = tt
        go (Some t) e = each_of (has_column catalog table) t.key (good.keys table t e)

    stream_there : arguments_fault vars w (stream_arguments vars w table) args ≡ None → Hears (own_names args) → is_none (argument (codes "cursor") args) ≡ false → has_column catalog table (initial_column w table args) ≡ true
    stream_there h l n = go (argument (codes "cursor") args) refl n
      where
        go : (o : Option GValue) → argument (codes "cursor") args ≡ o → is_none o ≡ false → has_column catalog table (column_of w vars table (first_pair (pairs_or_none (argument (codes "initial_value") (pairs_of_first (option_map items_in o)))))) ≡ true
        go None e k = absurd (clash k)
        go (Some x) e k =
            let a = argument_good w names slots b vars all (stream_arguments vars w table) (codes "cursor") args h l x e in
            items_there w vars table (items_in x) (ap (λ (f : GValue → Option QueryFault). f x) (same_some (cursor_fault vars w table) a.judge a.known_is) ∙ a.passes)

    batch_there : arguments_fault vars w (stream_arguments vars w table) args ≡ None → Hears (own_names args) → is_none (argument (codes "batch_size") args) ≡ false →
        (operand_fits b (batch_operand w names slots (argument (codes "batch_size") args)) && is_number b 1 (operand_value b (batch_operand w names slots (argument (codes "batch_size") args)))) ≡ true
    batch_there h l n = go (argument (codes "batch_size") args) refl n
      where
        go : (o : Option GValue) → argument (codes "batch_size") args ≡ o → is_none o ≡ false → (operand_fits b (batch_operand w names slots o) && is_number b 1 (operand_value b (batch_operand w names slots o))) ≡ true
        go None e k = absurd (clash k)
        go (Some x) e k =
            let a = argument_good w names slots b vars all (stream_arguments vars w table) (codes "batch_size") args h l x e in
            batch_good w names slots b vars all (codes "batch_size") x (any_listed w names slots b vars all (stream_arguments vars w table) (codes "batch_size") x a)
            (ap (λ (f : GValue → Option QueryFault). f x) (same_some (batch_fault vars (codes "batch_size")) a.judge a.known_is) ∙ a.passes)

    both_there : missing_fault vars w (codes "batch_size" ∷ codes "cursor" ∷ []) args ≡ None → (is_none (argument (codes "batch_size") args) ≡ false) × (is_none (argument (codes "cursor") args) ≡ false)
    both_there h =
        let first = neither (refused_if (is_none (argument (codes "batch_size") args)) fault.NoArgument (codes "batch_size")) _ h in
        let second = neither (refused_if (is_none (argument (codes "cursor") args)) fault.NoArgument (codes "cursor")) None first.1 in
        (passed_if (is_none (argument (codes "batch_size") args)) fault.NoArgument (codes "batch_size") first.0, passed_if (is_none (argument (codes "cursor") args)) fault.NoArgument (codes "cursor") second.0)

  root_good : (root : Root) (f : FlatField-F FlatField) → InRange w root → root_fault vars w root f ≡ None → Hears (own_names f.args ++ concatenated (map all_names f.fields)) → Reads (root_tables w root f.fields) → (s : Select) →
      root_select w names slots root f ≡ Some s → SelectGood catalog b true [] s
  root_good NoRoot f range h l r s e = absurd (none_some s e)
  root_good (RowsOf table) f range h l r s e =
      let o = object_passes vars w (list_arguments vars w table) [] table (judging vars w f) h in
      subst (SelectGood catalog b true []) (same_some _ s e)
      (list_good w names slots b vars all good bound true [] table f.args _ range refl r.0 o.arguments (front_holds _ (own_names f.args) _ l)
      (fields_good w names slots b vars all good bound table f.fields o.fields (back_holds _ (own_names f.args) _ l) r.1))
  root_good (RowOf table) f range h l r s e =
      let o = object_passes vars w (key_arguments vars w table) (key_names vars w table) table (judging vars w f) h in
      subst (SelectGood catalog b true []) (same_some _ s e)
      (one_good w names slots b vars all good bound true [] table _ _ range refl r.0 (keys_good table f.args o.arguments (front_holds _ (own_names f.args) _ l))
      (fields_good w names slots b vars all good bound table f.fields o.fields (back_holds _ (own_names f.args) _ l) r.1))
  root_good (StreamOf table) f range h l r s e =
      let o = object_passes vars w (stream_arguments vars w table) (codes "batch_size" ∷ codes "cursor" ∷ []) table (judging vars w f) h in
      let own = front_holds _ (own_names f.args) _ l in
      let there = both_there table f.args o.missing in
      subst (SelectGood catalog b true []) (same_some _ s e)
      (select_good catalog b true [] _ range refl (stream_there table f.args o.arguments own there.1)
      (fit-And catalog b table _ (where_of w names slots b vars all good bound (stream_arguments vars w table) table f.args refl o.arguments own (argument (codes "where") f.args) refl, permission_good w names slots b vars all good bound table r.0))
      refl (fields_good w names slots b vars all good bound table f.fields o.fields (back_holds _ (own_names f.args) _ l) r.1) refl refl (batch_there table f.args o.arguments own there.0))

-- ---- what an admitted query is

pub record Admission (m : Metadata) (a : Admitted) : Type 0 where
  pub root : FlatField
  pub only : a.query.selection.fields ≡ root ∷ []
  pub typed : AllByRecursion Typed a.query.variables
  pub walked : walk_fault a.query.variables (view_of m a.query) a.query.selection root ≡ None

pub admission_of : (m : Metadata) (a : Admitted) → IsAdmitted m a → Admission m a
admission_of m a i =
    let made = made_of m i.session i.values i.selection a i.gives in
    subst (Admission m) made.is (record { root = made.root; only = only_root i.selection.fields made.root made.one; typed = variables_typed i.values i.selection.vars made.vars made.read; walked = made.walked })

-- ---- the slots of variables

member : (front back : List Text) → AllByRecursion (λ n. list_any (bytes_eq n) (front ++ back) ≡ true) back
member front [] = tt
member front (n ∷ back) =
    (here front, subst (λ ns. AllByRecursion (λ k. list_any (bytes_eq k) ns ≡ true) back) (append_assoc front (n ∷ []) back) (member (front ++ n ∷ []) back))
  where
    here : (xs : List Text) → list_any (bytes_eq n) (xs ++ n ∷ back) ≡ true
    here [] = ap (λ c. c || list_any (bytes_eq n) back) ((bytes_eq-Decides n n).1 refl)
    here (x ∷ xs) = later (bytes_eq n x) (here xs)
      where
        later : (c : Bool) → list_any (bytes_eq n) (xs ++ n ∷ back) ≡ true → (c || list_any (bytes_eq n) (xs ++ n ∷ back)) ≡ true
        later true h = refl
        later false h = h

slot_is : {X : Type 0} (f : Text → X) (names : List Text) (n : Text) → list_any (bytes_eq n) names ≡ true → slice_get (map f names) (slot_of names n) ≡ Some (f n)
slot_is f names n h =
    let place = has_place (bytes_eq n) names h in
    let at = placed_at (bytes_eq n) names place.0 place.1 in
    ap (λ o. slice_get (map f names) (unwrap_or o 0)) place.1 ∙ slice_get-map f names place.0 ∙ ap (option_map f) at.there ∙ ap (λ t. Some (f t)) (sym ((bytes_eq-Decides n at.item).0 at.passes))

each_slot : {X : Type 0} (f : Text → X) (names ns : List Text) → AllByRecursion (λ n. list_any (bytes_eq n) names ≡ true) ns → AllByRecursion (λ n. slice_get (map f names) (slot_of names n) ≡ Some (f n)) ns
each_slot f names [] h = tt
each_slot f names (n ∷ ns) h = (slot_is f names n h.0, each_slot f names ns h.1)

-- ---- the slots of session variables

filled_one : (x : SessionSlot) (ys : List SessionSlot) → nat_lt 0 (length (included slot_cmp x ys)) ≡ true
filled_one x [] = below_next 0
filled_one x (y ∷ ys) = go (slot_cmp x y)
  where
    go : (o : Ordering) → nat_lt 0 (length (match_ordering o (x ∷ y ∷ ys) (y ∷ ys) (y ∷ included slot_cmp x ys))) ≡ true
    go Less = below_next (length (y ∷ ys))
    go Equal = below_next (length ys)
    go Greater = below_next (length (included slot_cmp x ys))

every : {X : Type 0} (P : Type 0) → P → (xs : List X) → AllByRecursion (λ x. P) xs
every P p [] = tt
every P p (x ∷ xs) = (p, every P p xs)

filled : (xs : List SessionSlot) → AllByRecursion (λ x. nat_lt 0 (length (distinct_in_order slot_cmp xs)) ≡ true) xs
filled [] = tt
filled (x ∷ xs) = every (nat_lt 0 (length (distinct_in_order slot_cmp (x ∷ xs))) ≡ true) (filled_one x (distinct_in_order slot_cmp xs)) (x ∷ xs)

pub split_by : {X : Type 0} (P : SessionSlot → Type 0) (f : X → List SessionSlot) (xs : List X) → AllByRecursion P (flat_map f xs) → AllByRecursion (λ x. AllByRecursion P (f x)) xs
split_by P f [] h = tt
split_by P f (x ∷ xs) h = (front_holds P (f x) (flat_map f xs) h, split_by P f xs (back_holds P (f x) (flat_map f xs) h))

-- ---- the law

module _ (m : Metadata) (a : Admitted) (i : IsAdmitted m a) (cursor : Val) where
  abbrev w : View
  w = view_of m a.query

  abbrev s : Flat
  s = a.query.selection

  abbrev names : List Text
  names = text_variables s

  abbrev slots : List SessionSlot
  slots = selection_slots w s

  abbrev b : Binding
  b = binding_of a.query cursor

  abbrev vars : List Variable
  vars = a.query.variables

  adm : Admission m a
  adm = admission_of m a i

  bound_slots : length b.session ≡ length slots
  bound_slots =
      length-map a.query.session (λ (x : SessionValue). x.value) ∙ sym (length-map a.query.session (λ (x : SessionValue). x.slot)) ∙ ap length (slots_of m a i)

  abbrev IsListed : Text → Type 0
  IsListed n = slice_get b.vars (slot_of names n) ≡ Some (variable_slot vars n)

  pub names_listed : (f : FlatField) → s.fields ≡ f ∷ [] → AllByRecursion IsListed (flat_map (λ p. value_names (pair_value (bare_argument p))) (out-FlatField f).args ++ concatenated (map all_names (out-FlatField f).fields))
  names_listed f e =
      subst (AllByRecursion IsListed) (fold_out-FlatField (List Text) field_names_step f)
      (front_holds IsListed (all_names f) []
      (subst (λ fs. AllByRecursion IsListed (flat_map all_names fs)) e
      (adding_holds IsListed (flat_map all_names s.fields) []
      (subst (AllByRecursion IsListed) (distinct_added (flat_map all_names s.fields)) (each_slot (variable_slot vars) names names (member [] names))))))

  abbrev IsFilled : SessionSlot → Type 0
  IsFilled x = nat_lt 0 (length slots) ≡ true

  tables_filled : (f : FlatField) → s.fields ≡ f ∷ [] → AllByRecursion (λ t. AllByRecursion IsFilled (table_slots w t)) (root_tables w (root_of w s.kind f) (out-FlatField f).fields)
  tables_filled f e =
      let here = root_tables w (root_of w s.kind f) (out-FlatField f).fields in
      front_holds (λ t. AllByRecursion IsFilled (table_slots w t)) here []
      (subst (λ fs. AllByRecursion (λ t. AllByRecursion IsFilled (table_slots w t)) (flat_map (λ g. root_tables w (root_of w s.kind g) (out-FlatField g).fields) fs)) e
      (split_by IsFilled (table_slots w) (flat_map (λ g. root_tables w (root_of w s.kind g) (out-FlatField g).fields) s.fields)
      (filled (flat_map (table_slots w) (flat_map (λ g. root_tables w (root_of w s.kind g) (out-FlatField g).fields) s.fields)))))

  record Fitting (p : Plan) : Type 0 where
    names_are : p.names ≡ map (λ (t : TableDef). t.name) m.catalog.tables
    root_fits : SelectGood m.catalog b true [] p.root

  made_fitting : (f : FlatField) → s.fields ≡ f ∷ [] → walk_fault vars w s f ≡ None → (o : Option Select) → root_select w names slots (root_of w s.kind f) (out-FlatField f) ≡ o → (p : Plan) → option_map (plan_with w (out-FlatField f).key) o ≡ Some p → Fitting p
  made_fitting f e walked None h p k = absurd (none_some p k)
  made_fitting f e walked (Some x) h p k =
      subst Fitting (same_some (plan_with w (out-FlatField f).key x) p k) (record {
        names_are = refl;
        root_fits =
            root_good w names slots b vars adm.typed (good_metadata m i.metadata) bound_slots (root_of w s.kind f) (out-FlatField f) (root_in_range w s.kind (out-FlatField f).name) (neither _ _ walked).1 (names_listed f e) (tables_filled f e) x h;
      })

  fitting : (p : Plan) → plan_of w s ≡ Some p → Fitting p
  fitting p h = made_fitting adm.root adm.only adm.walked (root_select w names slots (root_of w s.kind adm.root) (out-FlatField adm.root)) refl p (ap (root_plan w s) (sym adm.only) ∙ h)

pub plans_fit : PlansFit
plans_fit m a i p h =
    let one = fitting m a i val.Null p h in
    (record { names = one.names_are; root = one.root_fits.fits }, λ cursor. (fitting m a i cursor p h).root_fits.bound)
