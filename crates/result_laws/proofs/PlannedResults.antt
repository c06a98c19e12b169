-- What an admitted query's plan gives with the query's binding is the query's result.
use Rattle.std.proofs.Common.{◌≡◌, ℕ, Bool, true, false, ◌&&◌, ◌||◌, if◌then◌else◌, List, [], ◌∷◌, ◌++◌, map, flat_map, length, slice_get, unwrap_or, Option, Some, None, option_map, refl, ap, ap₂, sym, ◌∙◌, subst, is_eq}
use std.Path.{fun_ext}
use Rattle.std.proofs.lemmas.Option.{slice_get-map}
use Rattle.std.proofs.lemmas.Map.Text.{is_eq-slice_cmp}
use Rattle.std.proofs.lemmas.Slice.Eq.{bytes_eq-Decides}
use Rattle.std.specs.Prelude.{codes}
use Rattle.std.specs.Ordering.{nat_cmp, match_ordering, ordering_then}
use Rattle.std.specs.Cmp.Lexicographic.{slice_cmp}
use Rattle.std.specs.declared.cmp.Ordering.{Ordering}
use Rattle.std.specs.declared.cmp.Ordering.TheVariants.{Less, Equal, Greater}
use Rattle.std.specs.List.{list_any, AllByRecursion}
use Rattle.scalar_val.specs.declared.val.Kind.{Kind}
use Rattle.scalar_val.specs.declared.val.Kind.TheVariants as kind
use Rattle.scalar_val.specs.declared.val.Val.{Val}
use Rattle.data_model.specs.declared.catalog.TableDef.{TableDef}
use Rattle.data_model.specs.Rows.{Row, Database}
use Rattle.plan_model.specs.declared.filter.Binding.{Binding}
use Rattle.plan_model.specs.declared.filter.Filter.{Filter}
use Rattle.plan_model.specs.declared.filter.Filter.TheVariants as filter
use Rattle.plan_model.specs.declared.filter.Operand.{Operand}
use Rattle.role_model.specs.declared.metadata.Metadata.{Metadata}
use Rattle.plan_model.specs.declared.plan.Order.{Order}
use Rattle.plan_model.specs.declared.plan.Shape.{Shape}
use Rattle.plan_model.specs.declared.plan.Shape.TheVariants as shape
use Rattle.plan_model.specs.declared.plan.Field.{Field}
use Rattle.plan_model.specs.declared.plan.Field.TheOpen.{Select-F}
use Rattle.plan_model.specs.declared.plan.Field.TheViews.{roll-Select, out-roll-Select}
use Rattle.plan_model.specs.declared.plan.Field.TheFolds.{fold-Select, fold-roll-Select}
use Rattle.plan_model.specs.declared.plan.Plan.{Plan}
use Rattle.plan_model.specs.declared.plan.Select.{Select}
use Rattle.role_model.specs.Roles.{View, table_at, cap_seen}
use Rattle.request_model.specs.declared.document.GPair.{GPair}
use Rattle.request_model.specs.declared.flat.FlatField.{FlatField}
use Rattle.request_model.specs.declared.flat.FlatField.TheOpen.{FlatField-F}
use Rattle.request_model.specs.declared.flat.FlatField.TheViews.{out-FlatField, roll-FlatField}
use Rattle.request_model.specs.declared.flat.FlatField.TheFolds.{fold-FlatField, fold-roll-FlatField, ind-FlatField}
use Rattle.request_model.specs.declared.flat.Flat.{Flat}
use Rattle.request_model.specs.Strings.{Text}
use Rattle.scalar_val.specs.Joined.{in_braces, named_text}
use Rattle.scalar_val.specs.Ordered.{included, distinct_in_order}
use Rattle.request_model.specs.Selection.{concatenated}
use Rattle.request_model.specs.SelectionLaws.{bare_argument}
use Rattle.request_model.proofs.ReadArguments.{firsts}
use Rattle.query_model.specs.declared.fault.FaultKind.TheVariants as fault
use Rattle.query_model.specs.declared.fault.QueryFault.{QueryFault}
use Rattle.query_model.specs.Names.{Root, RowsOf, RowOf, StreamOf, NoRoot, Meant, Typename, AColumn, ALink, Unseen, meant, argument, key_columns, initial_column, descends, name_in, type_name, pair_value}
use Rattle.query_model.specs.Conditions.{where_filter, orders_in}
use Rattle.scalar_val.specs.Values.{kind_rank}
use Rattle.query_model.specs.declared.session.SessionSlot.{SessionSlot}
use Rattle.query_model.specs.declared.session.SessionValue.{SessionValue}
use Rattle.query_model.specs.Queries.{Query, slot_cmp, value_names, field_names_step, table_slots, tables_by, tables_step, tables_below, root_tables, root_of, selection_slots, text_variables, view_of, binding_of}
use Rattle.query_model.specs.Refusals.{refusal, first_of}
use Rattle.query_model.specs.ArgumentFaults.{arguments_fault, no_arguments, list_arguments, link_arguments, key_names, stream_arguments}
use Rattle.query_model.specs.ArgumentFaults.{key_arguments}
use Rattle.query_model.specs.Walk.{meant_fault, field_fault_step, field_fault, judging, root_fault, walk_fault}
use Rattle.plan_model.specs.Outcomes.{Pair, answer_text, wanted_text, quoted_text, payload_text, last_value, result_of}
use Rattle.plan_model.specs.Taken.{Wanted, First, joins, taken}
use Rattle.query_model.specs.Results.{is_asked, is_permitted, list_extent, member_text, pair_step, pair_of, root_wanted, result_by, field_result, root_result, result}
use Rattle.plan_model.specs.Planned.{Selecting, field_step, select_step, field_pair, select_wanted, any_row, planned}
use Rattle.query_model.specs.Plans.{operands, permission, count_operand, batch_operand, key_condition, list_select, one_select, meant_field, plan_step, plan_field, root_select, table_names, plan_with, root_plan, plan_of}
use Rattle.query_model.specs.Admission.{Admitted}
use Rattle.query_model.specs.AdmissionLaws.{IsAdmitted}
use Rattle.query_model.specs.ResultLaws.{PlannedIsResult}
use Rattle.plan_model.proofs.PlanRules.{field-Column, field-Typename, field-Link}
use Rattle.admission_laws.proofs.BareNames.{all_names}
use Rattle.admission_laws.proofs.PlansThere.{neither}
use Rattle.admission_laws.proofs.AgreedValues.{front_holds, back_holds}
use Rattle.admission_laws.proofs.GoodMetadata.{GoodMetadata, good_metadata}
use Rattle.admission_laws.proofs.TypedValues.{Typed, some_none, none_some, same_some}
use Rattle.admission_laws.proofs.PassedConditions.{AllListed}
use Rattle.admission_laws.proofs.FittingPlans.{object_passes}
use Rattle.admission_laws.proofs.AdmittedSlots.{slots_of}
use Rattle.admission_laws.proofs.PlansThatFit.{admission_of, split_by, names_listed}
use Rattle.result_laws.proofs.PlannedWanted.{KnownAt}
use Rattle.result_laws.proofs.PlannedSelects.{list_same, stream_same, key_same, one_same}

-- ---- texts

-- the pairs give the same in the objects of a table
abbrev Paired : ℕ → List Pair → List Pair → Type 0
Paired table ps qs = (row : Row) → map (λ (p : Pair). p table row) ps ≡ map (λ (p : Pair). p table row) qs

texts_same : (db : Database) (w : Wanted) (ps qs : List Pair) → Paired w.table ps qs → wanted_text db w ps ≡ wanted_text db w qs
texts_same db w ps qs h = ap (λ (f : Row → Text). answer_text w.extent (map f (taken db w))) (fun_ext (λ row. ap in_braces (h row)))

module _ (m : Metadata) (q : Query) (names : List Text) (slots : List SessionSlot) (b : Binding) (all : AllByRecursion Typed q.variables) (told : map (λ (x : SessionValue). x.slot) q.session ≡ slots)
    (bound : b.session ≡ map (λ (x : SessionValue). x.value) q.session) (good : GoodMetadata m) (db : Database) where
  abbrev w : View
  w = view_of m q

  abbrev Hears : List Text → Type 0
  Hears ns = AllListed w names slots b q.variables all ns

  abbrev Reads : List ℕ → Type 0
  Reads ts = AllByRecursion (KnownAt m q names slots b all told bound good) ts

  abbrev own_names : List GPair → List Text
  own_names args = flat_map (λ p. value_names (pair_value (bare_argument p))) args

  abbrev giving : Field → Pair
  giving = field_pair (table_names w) b db

  abbrev choosing : Select → (Row → Bool) → Text
  choosing = fold-Select Pair (Selecting (table_names w) b db) (field_step (table_names w) b db) (select_step (table_names w) b db)

  title_same : (table : ℕ) → unwrap_or (slice_get (table_names w) table) [] ≡ type_name w table
  title_same table = ap (λ o. unwrap_or o []) (slice_get-map (λ (t : TableDef). t.name) m.catalog.tables table) ∙ go (table_at w table)
    where
      go : (o : Option TableDef) → unwrap_or (option_map (λ (t : TableDef). t.name) o) [] ≡ name_in o
      go None = refl
      go (Some t) = refl

  -- a selection gives what is wanted
  chosen : (s : Select-F Field Select) (allowed : Row → Bool) (x : Wanted) (qs : List Pair) → select_wanted b allowed s ≡ x → Paired x.table (map giving s.fields) qs → choosing (roll-Select s) allowed ≡ wanted_text db x qs
  chosen s allowed x qs e h =
      ap (λ (f : (Row → Bool) → Text). f allowed) (fold-roll-Select Pair (Selecting (table_names w) b db) (field_step (table_names w) b db) (select_step (table_names w) b db) s)
      ∙ ap (λ y. wanted_text db y (map giving s.fields)) e ∙ texts_same db x (map giving s.fields) qs h

  -- ---- fields

  abbrev checking : FlatField → ℕ → Option QueryFault
  checking = field_fault q.variables w

  abbrev reading : FlatField → ℕ → List ℕ
  reading = fold-FlatField (ℕ → List ℕ) (tables_step w)

  abbrev planning : FlatField → ℕ → Field
  planning = fold-FlatField (ℕ → Field) (plan_step w names slots)

  abbrev resolving : FlatField → Pair
  resolving = pair_of m q db

  abbrev Ready : FlatField → Type 0
  Ready x = (table : ℕ) → checking x table ≡ None → Hears (all_names x) → Reads (tables_below w table x) → (row : Row) → giving (planning x table) table row ≡ resolving x table row

  inner_same : (table : ℕ) (xs : List FlatField) → AllByRecursion Ready xs → first_of (map (λ (g : ℕ → Option QueryFault). g table) (map checking xs)) ≡ None → Hears (concatenated (map all_names xs)) →
      Reads (flat_map (λ (g : ℕ → List ℕ). g table) (map reading xs)) → Paired table (map giving (map (λ (g : ℕ → Field). g table) (map planning xs))) (map resolving xs)
  inner_same table [] each h l r row = refl
  inner_same table (x ∷ xs) each h l r row =
      let parts = neither (checking x table) (first_of (map (λ (g : ℕ → Option QueryFault). g table) (map checking xs))) h in
      let later = flat_map (λ (g : ℕ → List ℕ). g table) (map reading xs) in
      ap₂ (λ y ys. y ∷ ys) (each.0 table parts.0 (front_holds _ (all_names x) (concatenated (map all_names xs)) l) (front_holds _ (reading x table) later r) row)
      (inner_same table xs each.1 parts.1 (back_holds _ (all_names x) (concatenated (map all_names xs)) l) (back_holds _ (reading x table) later r) row)

  module _ (f : FlatField-F FlatField) where
    abbrev checked : FlatField-F (ℕ → Option QueryFault)
    checked = record { key = f.key; name = f.name; args = f.args; nested = f.nested; conditions = f.conditions; fields = map checking f.fields }

    abbrev layered : FlatField-F (ℕ → Field)
    layered = record { key = f.key; name = f.name; args = f.args; nested = f.nested; conditions = f.conditions; fields = map planning f.fields }

    abbrev resolved : FlatField-F Pair
    resolved = record { key = f.key; name = f.name; args = f.args; nested = f.nested; conditions = f.conditions; fields = map resolving f.fields }

    meant_same : AllByRecursion Ready f.fields → (table : ℕ) (x : Meant) → meant_fault q.variables w checked x ≡ None → Hears (own_names f.args ++ concatenated (map all_names f.fields)) → Reads (tables_by w (map reading f.fields) x) →
        (row : Row) → giving (meant_field w names slots layered x) table row ≡ named_text (quoted_text f.key) (member_text m q db resolved table row x)
    meant_same each table Typename h l r row =
        field-Typename (field_step (table_names w) b db) (select_step (table_names w) b db) f.key table row ∙ ap (λ t. named_text (quoted_text f.key) (quoted_text t)) (title_same table)
    meant_same each table (AColumn c) h l r row = field-Column (field_step (table_names w) b db) (select_step (table_names w) b db) f.key c table row
    meant_same each table Unseen h l r row = absurd (some_none (refusal fault.NoField f.name) h)
    meant_same each table (ALink x) h l r row =
        let object = object_passes q.variables w (link_arguments q.variables w x) [] x.table checked h in
        field-Link (field_step (table_names w) b db) (select_step (table_names w) b db) f.key x.from x.to _ table row
        ∙ ap (named_text (quoted_text f.key)) (select x.many object.arguments (inner_same x.table f.fields each object.fields (back_holds _ (own_names f.args) (concatenated (map all_names f.fields)) l) r.1))
      where
        select : (c : Bool) → arguments_fault q.variables w (if c then list_arguments q.variables w x.table else no_arguments q.variables w) f.args ≡ None → Paired x.table (map giving (map (λ (g : ℕ → Field). g x.table) layered.fields)) resolved.fields →
            choosing (if c then list_select w names slots x.table f.args (map (λ (g : ℕ → Field). g x.table) layered.fields) else one_select w names slots x.table [] (map (λ (g : ℕ → Field). g x.table) layered.fields)) (joins x.from x.to row)
            ≡ wanted_text db (if c then record { table = x.table; shown = λ r. joins x.from x.to row r && is_asked m q x.table f.args r && is_permitted m q x.table r; extent = list_extent m q x.table f.args; cap = cap_seen w x.table }
            else record { table = x.table; shown = λ r. joins x.from x.to row r && is_permitted m q x.table r; extent = First; cap = None }) resolved.fields
        select true k fields =
            chosen _ (joins x.from x.to row) _ resolved.fields
            (list_same m q names slots b all told bound good (list_arguments q.variables w x.table) f.args k (front_holds _ (own_names f.args) (concatenated (map all_names f.fields)) l) (joins x.from x.to row) x.table r.0) fields
        select false k fields = chosen _ (joins x.from x.to row) _ resolved.fields (one_same m q names slots b all told bound good (joins x.from x.to row) x.table r.0) fields

    rolled_ready : AllByRecursion Ready f.fields → Ready (roll-FlatField f)
    rolled_ready each table h l r row =
        ap (λ (g : ℕ → Field). giving (g table) table row) (fold-roll-FlatField (ℕ → Field) (plan_step w names slots) f)
        ∙ meant_same each table (meant w table f.name) (ap (λ (g : ℕ → Option QueryFault). g table) (sym (fold-roll-FlatField (ℕ → Option QueryFault) (field_fault_step q.variables w) f)) ∙ h)
        (subst Hears (fold-roll-FlatField (List Text) field_names_step f) l) (subst (λ (g : ℕ → List ℕ). Reads (g table)) (fold-roll-FlatField (ℕ → List ℕ) (tables_step w) f) r) row
        ∙ ap (λ (p : Pair). p table row) (sym (fold-roll-FlatField Pair (pair_step m q db) f))

  field_ready : (x : FlatField) → Ready x
  field_ready = ind-FlatField Ready (λ f y is. rolled_ready f (subst (λ z. AllByRecursion Ready z.fields) is (firsts Ready y.fields)))

  fields_same : (table : ℕ) (xs : List FlatField) → first_of (map (λ (g : ℕ → Option QueryFault). g table) (map checking xs)) ≡ None → Hears (concatenated (map all_names xs)) →
      Reads (flat_map (tables_below w table) xs) → Paired table (map giving (map (plan_field w names slots table) xs)) (map resolving xs)
  fields_same table [] h l r row = refl
  fields_same table (x ∷ xs) h l r row =
      let parts = neither (checking x table) (first_of (map (λ (g : ℕ → Option QueryFault). g table) (map checking xs))) h in
      ap₂ (λ y ys. y ∷ ys)
      (field_ready x table parts.0 (front_holds _ (all_names x) (concatenated (map all_names xs)) l) (front_holds _ (tables_below w table x) (flat_map (tables_below w table) xs) r) row)
      (fields_same table xs parts.1 (back_holds _ (all_names x) (concatenated (map all_names xs)) l) (back_holds _ (tables_below w table x) (flat_map (tables_below w table) xs) r) row)

  -- ---- the root

  given : (key : Text) (s : Select-F Field Select) (x : Wanted) (qs : List Pair) → select_wanted b any_row s ≡ x → Paired x.table (map giving s.fields) qs → planned (plan_with w key (roll-Select s)) b db ≡ result_of db key x qs
  given key s x qs e h =
      ap (λ (t : Select-F Field Select). result_of db key (select_wanted b any_row t) (map giving t.fields)) (out-roll-Select s)
      ∙ ap (λ y. result_of db key y (map giving s.fields)) e
      ∙ ap (λ text. record { text = payload_text key text; rows = length (taken db x); last = last_value x.extent (taken db x) }) (texts_same db x (map giving s.fields) qs h)

  -- a root's selection, of a condition, a shape and counts
  abbrev root_parts : ℕ → FlatField-F FlatField → Shape → List Filter → List Order → Option Operand → Option Operand → Option ℕ → Select-F Field Select
  root_parts table f shown conditions orders limit offset cap =
      record { table = table; shape = shown; filter = filter.And conditions; order = orders; limit = limit; offset = offset; cap = cap; fields = map (plan_field w names slots table) f.fields }

  abbrev asking : ℕ → List GPair → List Filter
  asking table args = where_filter w (operands w names slots) table (argument (codes "where") args) ∷ permission w names slots table

  abbrev list_parts : ℕ → FlatField-F FlatField → Select-F Field Select
  list_parts table f =
      root_parts table f shape.List (asking table f.args) (orders_in w table (argument (codes "order_by") f.args)) (count_operand w names slots (argument (codes "limit") f.args)) (count_operand w names slots (argument (codes "offset") f.args)) (cap_seen w table)

  abbrev key_parts : ℕ → FlatField-F FlatField → Select-F Field Select
  key_parts table f = root_parts table f shape.One (map (key_condition w names slots table f.args) (key_columns w table) ++ permission w names slots table) [] None None None

  abbrev stream_parts : ℕ → FlatField-F FlatField → Select-F Field Select
  stream_parts table f =
      root_parts table f (shape.Stream (initial_column w table f.args) (descends f.args) (batch_operand w names slots (argument (codes "batch_size") f.args))) (asking table f.args) [] None None (cap_seen w table)

  root_same : (root : Root) (f : FlatField-F FlatField) → root_fault q.variables w root f ≡ None → Hears (own_names f.args ++ concatenated (map all_names f.fields)) → Reads (root_tables w root f.fields) → (s : Select) →
      root_select w names slots root f ≡ Some s → planned (plan_with w f.key s) b db ≡ result_by m q db f (root_wanted m q b.cursor root f.args)
  root_same NoRoot f h l r s e = absurd (none_some s e)
  root_same (RowsOf table) f h l r s e =
      let o = object_passes q.variables w (list_arguments q.variables w table) [] table (judging q.variables w f) h in
      subst (λ t. planned (plan_with w f.key t) b db ≡ result_by m q db f (root_wanted m q b.cursor (RowsOf table) f.args)) (same_some _ s e)
      (given f.key (list_parts table f) _ (map resolving f.fields) (list_same m q names slots b all told bound good (list_arguments q.variables w table) f.args o.arguments (front_holds _ (own_names f.args) _ l) any_row table r.0)
      (fields_same table f.fields o.fields (back_holds _ (own_names f.args) _ l) r.1))
  root_same (RowOf table) f h l r s e =
      let o = object_passes q.variables w (key_arguments q.variables w table) (key_names q.variables w table) table (judging q.variables w f) h in
      subst (λ t. planned (plan_with w f.key t) b db ≡ result_by m q db f (root_wanted m q b.cursor (RowOf table) f.args)) (same_some _ s e)
      (given f.key (key_parts table f) _ (map resolving f.fields) (key_same m q names slots b all told bound good (key_arguments q.variables w table) f.args o.arguments (front_holds _ (own_names f.args) _ l) table r.0)
      (fields_same table f.fields o.fields (back_holds _ (own_names f.args) _ l) r.1))
  root_same (StreamOf table) f h l r s e =
      let o = object_passes q.variables w (stream_arguments q.variables w table) (codes "batch_size" ∷ codes "cursor" ∷ []) table (judging q.variables w f) h in
      subst (λ t. planned (plan_with w f.key t) b db ≡ result_by m q db f (root_wanted m q b.cursor (StreamOf table) f.args)) (same_some _ s e)
      (given f.key (stream_parts table f) _ (map resolving f.fields) (stream_same m q names slots b all told bound good (stream_arguments q.variables w table) f.args o.arguments (front_holds _ (own_names f.args) _ l) table r.0)
      (fields_same table f.fields o.fields (back_holds _ (own_names f.args) _ l) r.1))

-- ---- the slots of session variables are those of the selection

abbrev Among : SessionSlot → List SessionSlot → Type 0
Among s zs = list_any (λ z. is_eq (slot_cmp s z)) zs ≡ true

self_ranked : (k : Kind) → nat_cmp (kind_rank k) (kind_rank k) ≡ Equal
self_ranked kind.Bool = refl
self_ranked kind.Int = refl
self_ranked kind.Big = refl
self_ranked kind.Text = refl
self_ranked kind.Uuid = refl

self_tied : (s : SessionSlot) → is_eq (slot_cmp s s) ≡ true
self_tied s = go (slice_cmp nat_cmp s.name s.name) (is_eq-slice_cmp s.name s.name ∙ (bytes_eq-Decides s.name s.name).1 refl)
  where
    go : (o : Ordering) → is_eq o ≡ true → is_eq (ordering_then o (nat_cmp (kind_rank s.kind) (kind_rank s.kind))) ≡ true
    go Equal h = ap is_eq (self_ranked s.kind)
    go Less h = h
    go Greater h = h

or_later : (c d e : Bool) → (d ≡ true → e ≡ true) → (c || d) ≡ true → (c || e) ≡ true
or_later true d e f h = refl
or_later false d e f h = f h

or_first : (c d : Bool) → c ≡ true → (c || d) ≡ true
or_first true d h = refl
or_first false d h = absurd (let e : false ≡ true = h in cc)

or_second : (c d : Bool) → d ≡ true → (c || d) ≡ true
or_second true d h = refl
or_second false d h = h

included_there : (x : SessionSlot) (ys : List SessionSlot) → Among x (included slot_cmp x ys)
included_there x [] = or_first (is_eq (slot_cmp x x)) _ (self_tied x)
included_there x (y ∷ ys) = go (slot_cmp x y) refl (included_there x ys)
  where
    go : (o : Ordering) → slot_cmp x y ≡ o → Among x (included slot_cmp x ys) → Among x (match_ordering o (x ∷ y ∷ ys) (y ∷ ys) (y ∷ included slot_cmp x ys))
    go Less e more = or_first (is_eq (slot_cmp x x)) _ (self_tied x)
    go Equal e more = or_first (is_eq (slot_cmp x y)) _ (ap is_eq e)
    go Greater e more = or_second (is_eq (slot_cmp x y)) _ more

still_there : (s x : SessionSlot) (ys : List SessionSlot) → Among s ys → Among s (included slot_cmp x ys)
still_there s x [] h = or_second (is_eq (slot_cmp s x)) _ h
still_there s x (y ∷ ys) h = go (slot_cmp x y) (still_there s x ys)
  where
    go : (o : Ordering) → (Among s ys → Among s (included slot_cmp x ys)) → Among s (match_ordering o (x ∷ y ∷ ys) (y ∷ ys) (y ∷ included slot_cmp x ys))
    go Less more = or_second (is_eq (slot_cmp s x)) _ h
    go Equal more = h
    go Greater more = or_later (is_eq (slot_cmp s y)) _ _ more h

each_still : (x : SessionSlot) (ys ss : List SessionSlot) → AllByRecursion (λ s. Among s ys) ss → AllByRecursion (λ s. Among s (included slot_cmp x ys)) ss
each_still x ys [] h = tt
each_still x ys (s ∷ ss) h = (still_there s x ys h.0, each_still x ys ss h.1)

all_there : (xs : List SessionSlot) → AllByRecursion (λ s. Among s (distinct_in_order slot_cmp xs)) xs
all_there [] = tt
all_there (x ∷ xs) = (included_there x (distinct_in_order slot_cmp xs), each_still x (distinct_in_order slot_cmp xs) xs (all_there xs))

-- ---- the law

module _ (m : Metadata) (a : Admitted) (i : IsAdmitted m a) (db : Database) (cursor : Val) where
  abbrev v : View
  v = view_of m a.query

  abbrev s : Flat
  s = a.query.selection

  abbrev names : List Text
  names = text_variables s

  abbrev slots : List SessionSlot
  slots = selection_slots v s

  abbrev binding : Binding
  binding = binding_of a.query cursor

  abbrev IsThere : ℕ → Type 0
  IsThere t = AllByRecursion (λ x. Among x slots) (table_slots v t)

  tables_there : (f : FlatField) → s.fields ≡ f ∷ [] → AllByRecursion IsThere (root_tables v (root_of v s.kind f) (out-FlatField f).fields)
  tables_there f e =
      let here = root_tables v (root_of v s.kind f) (out-FlatField f).fields in
      front_holds IsThere here []
      (subst (λ fs. AllByRecursion IsThere (flat_map (λ g. root_tables v (root_of v s.kind g) (out-FlatField g).fields) fs)) e
      (split_by (λ x. Among x slots) (table_slots v) (flat_map (λ g. root_tables v (root_of v s.kind g) (out-FlatField g).fields) s.fields)
      (all_there (flat_map (table_slots v) (flat_map (λ g. root_tables v (root_of v s.kind g) (out-FlatField g).fields) s.fields)))))

  made_same : (f : FlatField) → s.fields ≡ f ∷ [] → walk_fault a.query.variables v s f ≡ None → (o : Option Select) → root_select v names slots (root_of v s.kind f) (out-FlatField f) ≡ o → (p : Plan) →
      option_map (plan_with v (out-FlatField f).key) o ≡ Some p → planned p binding db ≡ field_result m a.query cursor db f
  made_same f e walked None h p k = absurd (none_some p k)
  made_same f e walked (Some x) h p k =
      subst (λ y. planned y binding db ≡ field_result m a.query cursor db f) (same_some (plan_with v (out-FlatField f).key x) p k)
      (root_same m a.query names slots binding (admission_of m a i).typed (slots_of m a i) refl (good_metadata m i.metadata) db (root_of v s.kind f) (out-FlatField f) (neither _ _ walked).1 (names_listed m a i cursor f e) (tables_there f e) x h)

  planned_same : (p : Plan) → plan_of v s ≡ Some p → planned p binding db ≡ result m a.query cursor db
  planned_same p h =
      let adm = admission_of m a i in
      made_same adm.root adm.only adm.walked (root_select v names slots (root_of v s.kind adm.root) (out-FlatField adm.root)) refl p (ap (root_plan v s) (sym adm.only) ∙ h)
      ∙ ap (root_result m a.query cursor db) (sym adm.only)

pub planned_is_result : PlannedIsResult
planned_is_result m a i p h db _ cursor _ = planned_same m a i db cursor p h
