-- Queries of one cohort have one result.
use Rattle.std.proofs.Common.{◌≡◌, ℕ, Bool, ◌&&◌, if◌then◌else◌, List, [], ◌∷◌, map, flat_map, Option, Some, None, unwrap_or, refl, ap, ap₂, sym, subst, ◌∙◌}
use std.Path.{fun_ext}
use Rattle.std.specs.Prelude.{codes}
use Rattle.std.specs.List.{list_all, AllByRecursion}
use Rattle.scalar_val.specs.declared.val.Val.{Val}
use Rattle.scalar_val.specs.Values.{cell}
use Rattle.data_model.specs.Rows.{Row, Database}
use Rattle.plan_model.specs.declared.filter.Op.TheVariants.{Eq}
use Rattle.plan_model.specs.declared.filter.Operand.TheVariants.{Const}
use Rattle.plan_model.specs.declared.filter.Items.TheVariants as items
use Rattle.plan_model.specs.declared.filter.Binding.{Binding}
use Rattle.role_model.specs.declared.metadata.LinkDef.{LinkDef}
use Rattle.role_model.specs.declared.metadata.Metadata.{Metadata}
use Rattle.role_model.specs.Roles.{cap_seen}
use Rattle.plan_model.specs.Truth.{is_yes, compared}
use Rattle.request_model.specs.declared.document.GValue.{GValue}
use Rattle.request_model.specs.declared.document.GPair.{GPair}
use Rattle.scalar_val.specs.declared.word.Word.{Word}
use Rattle.request_model.specs.declared.flat.FlatField.{FlatField}
use Rattle.request_model.specs.declared.flat.FlatField.TheOpen.{FlatField-F}
use Rattle.request_model.specs.declared.flat.FlatField.TheViews.{out-FlatField, roll-FlatField}
use Rattle.request_model.specs.declared.flat.FlatField.TheFolds.{fold-roll-FlatField, fold_out-FlatField, ind-FlatField}
use Rattle.request_model.specs.Strings.{Text}
use Rattle.request_model.specs.Selection.{concatenated}
use Rattle.scalar_val.specs.Joined.{named_text}
use Rattle.request_model.specs.SelectionLaws.{essence}
use Rattle.request_model.proofs.ReadArguments.{firsts}
use Rattle.request_model.proofs.ReadFields.{canonical_tells}
use Rattle.request_model.proofs.ReadNames.{tails}
use Rattle.query_model.specs.Names.{Root, RowsOf, RowOf, StreamOf, NoRoot, Meant, Typename, AColumn, ALink, Unseen, meant, key_columns, column_name, kind_of, argument, initial_column, descends}
use Rattle.query_model.specs.Conditions.{orders_in}
use Rattle.query_model.specs.declared.variable.Variable.{Variable}
use Rattle.query_model.specs.Variables.{variable_slot, number_read}
use Rattle.query_model.specs.declared.session.SessionSlot.{SessionSlot}
use Rattle.query_model.specs.declared.session.SessionValue.{SessionValue}
use Rattle.query_model.specs.Queries.{Query, view_of, root_of, SameCohort}
use Rattle.query_model.specs.Admission.{Admitted}
use Rattle.plan_model.specs.Taken.{Extent, All, First, Next, joins, is_beyond, Wanted}
use Rattle.plan_model.specs.Outcomes.{wanted_text, quoted_text, Pair, result_of}
use Rattle.query_model.specs.Results.{passes, view, values, is_permitted, is_asked, column_equals, has_key_given, list_extent, rows_wanted, row_wanted, stream_wanted, link_wanted, member_text, pair_step, pair_of, root_wanted, result_by, root_result, result}
use Rattle.query_model.specs.AdmissionLaws.{IsAdmitted}
use Rattle.query_model.specs.ResultLaws.{CohortsHaveOneResult}
use Rattle.admission_laws.proofs.BareNames.{pair_names, bare_names_step, bare_names, bare_variables, text_variables_are}
use Rattle.admission_laws.proofs.OnePlan.{slots_by, selection_slots_are}
use Rattle.admission_laws.proofs.SharedPlans.{written_selection}
use Rattle.admission_laws.proofs.AdmittedSlots.{adding_holds, slots_of}
use Rattle.result_laws.proofs.BareResults.{bare_query, result_of_essence}
use Rattle.admission_laws.proofs.AgreedValues.{front_holds, back_holds, Agree, AgreeIn, found_agree, value_agrees, values_agree, number_agrees, where_agrees}

-- ---- results of one role and session, with variables that agree on the names that stand in the selection

module _ (m : Metadata) (role : Text) (session : List SessionValue) (va vb : List Variable) (e : Word × List FlatField) where
  abbrev qa : Query
  qa = bare_query role session va e

  abbrev qb : Query
  qb = bare_query role session vb e

  abbrev names_in : List GPair → List Text
  names_in args = flat_map pair_names args

  asked_agrees : (table : ℕ) (args : List GPair) → Agree va vb (names_in args) → is_asked m qa table args ≡ is_asked m qb table args
  asked_agrees table args h =
      ap (λ f. λ row. passes f row)
      (where_agrees va vb (view m qa) (values m qa) (values m qb) (λ k x g. ap Const (value_agrees va vb k x g)) (λ k x g. ap (λ xs. items.Each (map Const xs)) (values_agree va vb k x g)) table (argument (codes "where") args)
      (found_agree va vb (codes "where") args h))

  number_found : (name : Text) (args : List GPair) → Agree va vb (names_in args) → number_read va (argument name args) ≡ number_read vb (argument name args)
  number_found name args h = number_agrees va vb (argument name args) (found_agree va vb name args h)

  extent_agrees : (table : ℕ) (args : List GPair) → Agree va vb (names_in args) → list_extent m qa table args ≡ list_extent m qb table args
  extent_agrees table args h = ap₂ (λ o l. All (orders_in (view m qa) table (argument (codes "order_by") args)) (unwrap_or o 0) l) (number_found (codes "offset") args h) (number_found (codes "limit") args h)

  rows_agree : (table : ℕ) (args : List GPair) → Agree va vb (names_in args) → rows_wanted m qa table args ≡ rows_wanted m qb table args
  rows_agree table args h =
      ap₂ (λ (test : Row → Bool) (x : Extent). record { table = table; shown = λ row. test row && is_permitted m qa table row; extent = x; cap = cap_seen (view m qa) table })
      (asked_agrees table args h) (extent_agrees table args h)

  abbrev linked : LinkDef → Row → (Row → Bool) → Extent → Wanted
  linked l parent test x =
      if l.many then record { table = l.table; shown = λ row. joins l.from l.to parent row && test row && is_permitted m qa l.table row; extent = x; cap = cap_seen (view m qa) l.table }
      else record { table = l.table; shown = λ row. joins l.from l.to parent row && is_permitted m qa l.table row; extent = First; cap = None }

  link_agrees : (l : LinkDef) (args : List GPair) (parent : Row) → Agree va vb (names_in args) → link_wanted m qa l args parent ≡ link_wanted m qb l args parent
  link_agrees l args parent h = ap₂ (linked l parent) (asked_agrees l.table args h) (extent_agrees l.table args h)

  equals_agree : (table : ℕ) (row : Row) (column : ℕ) (o : Option GValue) → AgreeIn va vb o → column_equals m qa table row column o ≡ column_equals m qb table row column o
  equals_agree table row column (Some x) h = ap (λ y. is_yes (compared Eq (cell row column) y)) (value_agrees va vb (kind_of (view m qa) table column) x h)
  equals_agree table row column None h = refl

  key_agrees : (table : ℕ) (args : List GPair) → Agree va vb (names_in args) → has_key_given m qa table args ≡ has_key_given m qb table args
  key_agrees table args h =
      fun_ext (λ row. ap (λ (test : ℕ → Bool). list_all test (key_columns (view m qa) table)) (fun_ext (λ column.
      equals_agree table row column (argument (column_name (view m qa) table column) args) (found_agree va vb (column_name (view m qa) table column) args h))))

  row_agrees : (table : ℕ) (args : List GPair) → Agree va vb (names_in args) → row_wanted m qa table args ≡ row_wanted m qb table args
  row_agrees table args h = ap (λ (test : Row → Bool). record { table = table; shown = λ row. test row && is_permitted m qa table row; extent = First; cap = None }) (key_agrees table args h)

  abbrev streamed : Val → ℕ → List GPair → (Row → Bool) → Option ℕ → Wanted
  streamed cursor table args test n =
      let column = initial_column (view m qa) table args in
      record {
        table = table;
        shown = λ row. test row && is_permitted m qa table row && is_beyond (descends args) cursor (cell row column);
        extent = Next column (descends args) (unwrap_or n 0);
        cap = cap_seen (view m qa) table;
      }

  stream_agrees : (cursor : Val) (table : ℕ) (args : List GPair) → Agree va vb (names_in args) → stream_wanted m qa cursor table args ≡ stream_wanted m qb cursor table args
  stream_agrees cursor table args h = ap₂ (streamed cursor table args) (asked_agrees table args h) (number_found (codes "batch_size") args h)

  -- ---- fields

  module _ (db : Database) where
    member_agrees : (f : FlatField-F Pair) (table : ℕ) (row : Row) (x : Meant) → Agree va vb (names_in f.args) → member_text m qa db f table row x ≡ member_text m qb db f table row x
    member_agrees f table row Typename h = refl
    member_agrees f table row (AColumn column) h = refl
    member_agrees f table row (ALink l) h = ap (λ (w : Wanted). wanted_text db w f.fields) (link_agrees l f.args row h)
    member_agrees f table row Unseen h = refl

    step_agrees : (f : FlatField-F Pair) → Agree va vb (names_in f.args) → pair_step m qa db f ≡ pair_step m qb db f
    step_agrees f h = fun_ext (λ table. fun_ext (λ row. ap (named_text (quoted_text f.key)) (member_agrees f table row (meant (view m qa) table f.name) h)))

    abbrev Agrees : FlatField → Type 0
    Agrees x = Agree va vb (bare_names x) → pair_of m qa db x ≡ pair_of m qb db x

    all_agree : (xs : List FlatField) → AllByRecursion Agrees xs → Agree va vb (concatenated (map bare_names xs)) → map (pair_of m qa db) xs ≡ map (pair_of m qb db) xs
    all_agree [] all h = refl
    all_agree (x ∷ xs) all h =
        ap₂ (λ y ys. y ∷ ys) (all.0 (front_holds (λ n. variable_slot va n ≡ variable_slot vb n) (bare_names x) (concatenated (map bare_names xs)) h))
        (all_agree xs all.1 (back_holds (λ n. variable_slot va n ≡ variable_slot vb n) (bare_names x) (concatenated (map bare_names xs)) h))

    abbrev with_fields : FlatField-F FlatField → List Pair → FlatField-F Pair
    with_fields f ps = record { key = f.key; name = f.name; args = f.args; nested = f.nested; conditions = f.conditions; fields = ps }

    rolled_agrees : (f : FlatField-F FlatField) → AllByRecursion Agrees f.fields → Agrees (roll-FlatField f)
    rolled_agrees f all h =
        let g = subst (Agree va vb) (fold-roll-FlatField (List Text) bare_names_step f) h in
        let here = front_holds (λ n. variable_slot va n ≡ variable_slot vb n) (names_in f.args) (concatenated (map bare_names f.fields)) g in
        let inner = back_holds (λ n. variable_slot va n ≡ variable_slot vb n) (names_in f.args) (concatenated (map bare_names f.fields)) g in
        fold-roll-FlatField Pair (pair_step m qa db) f
        ∙ ap (λ ps. pair_step m qa db (with_fields f ps)) (all_agree f.fields all inner)
        ∙ step_agrees (with_fields f (map (pair_of m qb db) f.fields)) here
        ∙ sym (fold-roll-FlatField Pair (pair_step m qb db) f)

    field_agrees : (x : FlatField) → Agrees x
    field_agrees = ind-FlatField Agrees (λ f y is. rolled_agrees f (subst (λ z. AllByRecursion Agrees z.fields) is (firsts Agrees y.fields)))

    fields_agree : (xs : List FlatField) → Agree va vb (concatenated (map bare_names xs)) → map (pair_of m qa db) xs ≡ map (pair_of m qb db) xs
    fields_agree xs h = all_agree xs (each xs) h
      where
        each : (ys : List FlatField) → AllByRecursion Agrees ys
        each [] = tt
        each (y ∷ ys) = (field_agrees y, each ys)

  -- ---- the root

  root_agrees : (cursor : Val) (root : Root) (args : List GPair) → Agree va vb (names_in args) → root_wanted m qa cursor root args ≡ root_wanted m qb cursor root args
  root_agrees cursor (RowsOf table) args h = ap Some (rows_agree table args h)
  root_agrees cursor (RowOf table) args h = ap Some (row_agrees table args h)
  root_agrees cursor (StreamOf table) args h = ap Some (stream_agrees cursor table args h)
  root_agrees cursor NoRoot args h = refl

  by_agrees : (db : Database) (f : FlatField-F FlatField) (o : Option Wanted) → Agree va vb (concatenated (map bare_names f.fields)) → result_by m qa db f o ≡ result_by m qb db f o
  by_agrees db f (Some w) h = ap (result_of db f.key w) (fields_agree db f.fields h)
  by_agrees db f None h = refl

  roots_agree : (cursor : Val) (db : Database) (xs : List FlatField) → Agree va vb (flat_map bare_names xs) → root_result m qa cursor db xs ≡ root_result m qb cursor db xs
  roots_agree cursor db [] h = refl
  roots_agree cursor db (x ∷ []) h =
      let f = out-FlatField x in
      let g = subst (Agree va vb) (fold_out-FlatField (List Text) bare_names_step x) (front_holds (λ n. variable_slot va n ≡ variable_slot vb n) (bare_names x) [] h) in
      let here = front_holds (λ n. variable_slot va n ≡ variable_slot vb n) (names_in f.args) (concatenated (map bare_names f.fields)) g in
      let inner = back_holds (λ n. variable_slot va n ≡ variable_slot vb n) (names_in f.args) (concatenated (map bare_names f.fields)) g in
      by_agrees db f (root_wanted m qa cursor (root_of (view m qa) e.0 x) f.args) inner
      ∙ ap (result_by m qb db f) (root_agrees cursor (root_of (view m qa) e.0 x) f.args here)
  roots_agree cursor db (x ∷ y ∷ xs) h = refl

-- ---- one binding means one session and variables that agree on the names

values_told : {X Y : Type 0} (f g : X → Y) (xs : List X) → map f xs ≡ map g xs → AllByRecursion (λ x. f x ≡ g x) xs
values_told f g [] h = tt
values_told f g (x ∷ xs) h = let one = tails (f x) (g x) (map f xs) (map g xs) h in (one.0, values_told f g xs one.1)

session_is : (xs ys : List SessionValue) → map (λ (x : SessionValue). x.slot) xs ≡ map (λ (x : SessionValue). x.slot) ys → map (λ (x : SessionValue). x.value) xs ≡ map (λ (x : SessionValue). x.value) ys → xs ≡ ys
session_is [] [] h k = refl
session_is [] (y ∷ ys) h k = absurd (let q : ◌≡◌ {A = List SessionSlot} [] (y.slot ∷ map (λ (x : SessionValue). x.slot) ys) = h in cc)
session_is (x ∷ xs) [] h k = absurd (let q : ◌≡◌ {A = List SessionSlot} (x.slot ∷ map (λ (x : SessionValue). x.slot) xs) [] = h in cc)
session_is (x ∷ xs) (y ∷ ys) h k =
    let a = tails x.slot y.slot (map (λ (x : SessionValue). x.slot) xs) (map (λ (x : SessionValue). x.slot) ys) h in
    let b = tails x.value y.value (map (λ (x : SessionValue). x.value) xs) (map (λ (x : SessionValue). x.value) ys) k in
    ap₂ (λ (z : SessionValue) (zs : List SessionValue). z ∷ zs) (ap₂ (λ (s : SessionSlot) (z : Val). record { slot = s; value = z }) a.0 b.0) (session_is xs ys a.1 b.1)

-- ---- the law

module _ (m : Metadata) (a b : Admitted) (i : IsAdmitted m a) (j : IsAdmitted m b) (c d : Val) (same : SameCohort a.query c b.query d) where
  one_essence : essence a.query.selection ≡ essence b.query.selection
  one_essence = canonical_tells a.query.selection b.query.selection (written_selection m a i) (written_selection m b j) same.poller.text

  one_session : a.query.session ≡ b.query.session
  one_session =
      session_is a.query.session b.query.session
      (slots_of m a i ∙ selection_slots_are (view_of m a.query) a.query.selection
      ∙ ap₂ (λ (role : Text) (e : Word × List FlatField). slots_by (record { metadata = m; role = role }) e.0 e.1) same.poller.role one_essence
      ∙ sym (slots_of m b j ∙ selection_slots_are (view_of m b.query) b.query.selection))
      (ap (λ (z : Binding). z.session) same.binding)

  they_agree : Agree a.query.variables b.query.variables (flat_map bare_names (essence a.query.selection).1)
  they_agree =
      let names = bare_variables (essence a.query.selection).1 in
      let h : map (variable_slot a.query.variables) names ≡ map (variable_slot b.query.variables) names =
      ap (map (variable_slot a.query.variables)) (sym (text_variables_are a.query.selection)) ∙ ap (λ (z : Binding). z.vars) same.binding
      ∙ ap (map (variable_slot b.query.variables)) (text_variables_are b.query.selection ∙ ap (λ (e : Word × List FlatField). bare_variables e.1) (sym one_essence)) in
      adding_holds (λ n. variable_slot a.query.variables n ≡ variable_slot b.query.variables n) (flat_map bare_names (essence a.query.selection).1) []
      (values_told (variable_slot a.query.variables) (variable_slot b.query.variables) names h)

  one_result : (db : Database) → result m a.query c db ≡ result m b.query d db
  one_result db =
      result_of_essence m a.query c db
      ∙ roots_agree m a.query.role a.query.session a.query.variables b.query.variables (essence a.query.selection) c db (essence a.query.selection).1 they_agree
      ∙ ap₂ (λ (x : Text × List SessionValue) (y : (Word × List FlatField) × Val). result m (bare_query x.0 x.1 b.query.variables y.0) y.1 db)
      (ap₂ (λ role session. (role, session)) same.poller.role one_session) (ap₂ (λ e cursor. (e, cursor)) one_essence (ap (λ (z : Binding). z.cursor) same.binding))
      ∙ sym (result_of_essence m b.query d db)

pub cohorts_have_one_result : CohortsHaveOneResult
cohorts_have_one_result m a b i j c d _ _ same db _ = one_result m a b i j c d same db
