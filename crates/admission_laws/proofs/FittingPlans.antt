-- The plan of an admitted query fits, and its binding fits it.
use Rattle.std.proofs.Common.{◌≡◌, ℕ, Bool, true, false, if◌then◌else◌, List, [], ◌∷◌, ◌++◌, map, find, flat_map, length, nat_lt, position, slice_get, Option, Some, None, option_and_then, refl, ap, sym, ◌∙◌, subst}
use Rattle.std.specs.Prelude.{codes}
use Rattle.std.specs.Str.{bytes_eq}
use Rattle.std.specs.List.{AllByRecursion}
use Rattle.data_model.specs.declared.catalog.Catalog.{Catalog}
use Rattle.data_model.specs.declared.catalog.TableDef.{TableDef}
use Rattle.plan_model.specs.declared.filter.Binding.{Binding}
use Rattle.role_model.specs.declared.metadata.LinkDef.{LinkDef}
use Rattle.plan_model.specs.declared.plan.Field.{Field}
use Rattle.role_model.specs.Roles.{View, only_if, sees_table, table_seen, links_at, link_seen, key_seen, column_seen}
use Rattle.request_model.specs.declared.document.GValue.{GValue}
use Rattle.scalar_val.specs.declared.word.Word.{Word}
use Rattle.scalar_val.specs.declared.word.Word.TheVariants as word
use Rattle.request_model.specs.declared.flat.FlatField.{FlatField}
use Rattle.request_model.specs.declared.flat.FlatField.TheOpen.{FlatField-F}
use Rattle.request_model.specs.declared.flat.FlatField.TheViews.{roll-FlatField}
use Rattle.request_model.specs.declared.flat.FlatField.TheFolds.{fold-FlatField, fold-roll-FlatField, ind-FlatField}
use Rattle.request_model.specs.Strings.{Text}
use Rattle.request_model.specs.Selection.{concatenated}
use Rattle.request_model.specs.SelectionLaws.{bare_argument}
use Rattle.request_model.proofs.ReadArguments.{firsts}
use Rattle.query_model.specs.declared.fault.FaultKind.TheVariants as fault
use Rattle.query_model.specs.declared.fault.QueryFault.{QueryFault}
use Rattle.query_model.specs.Names.{Root, RowsOf, RowOf, StreamOf, NoRoot, Meant, Typename, AColumn, ALink, Unseen, link_or_none, column_or, meant, table_called, table_by_key, table_streamed, root_or, root_meant, pair_value}
use Rattle.query_model.specs.declared.variable.Variable.{Variable}
use Rattle.query_model.specs.declared.session.SessionSlot.{SessionSlot}
use Rattle.query_model.specs.Queries.{value_names, field_names_step, tables_by, tables_step, tables_below}
use Rattle.query_model.specs.Refusals.{refusal, first_of}
use Rattle.query_model.specs.ArgumentFaults.{arguments_fault, missing_fault, list_arguments, no_arguments, link_arguments}
use Rattle.query_model.specs.Walk.{object_fault, meant_fault, field_fault_step, field_fault}
use Rattle.query_model.specs.Plans.{list_select, one_select, meant_field, plan_step, plan_field}
use Rattle.admission_laws.proofs.BareNames.{all_names}
use Rattle.admission_laws.proofs.PlansThere.{neither}
use Rattle.query_model.proofs.Positions.{placed_at, each_found}
use Rattle.admission_laws.proofs.AgreedValues.{front_holds, back_holds}
use Rattle.admission_laws.proofs.GoodMetadata.{GoodMetadata, GoodLink}
use Rattle.admission_laws.proofs.TypedValues.{Typed, some_none, none_some, same_some}
use Rattle.admission_laws.proofs.PassedConditions.{seen_within, AllListed}
use Rattle.admission_laws.proofs.FittingSelects.{SelectGood, FieldGood, typename_good, column_field_good, link_field_good, Permitted, list_good, one_good}

-- ---- what a name means

meant_column : (w : View) (table : ℕ) (name : Text) (c : ℕ) → meant w table name ≡ AColumn c → column_seen w table name ≡ Some c
meant_column w table name c h = go (bytes_eq name (codes "__typename")) (column_seen w table name) (link_seen w table name) h
  where
    go : (t : Bool) (s : Option ℕ) (l : Option LinkDef) → (if t then Typename else column_or s (link_or_none l)) ≡ AColumn c → s ≡ Some c
    go true s l k = absurd (let q : Typename ≡ AColumn c = k in cc)
    go false (Some d) l k = let q : AColumn d ≡ AColumn c = k in let e : d ≡ c = cc in ap Some e
    go false None (Some l) k = absurd (let q : ALink l ≡ AColumn c = k in cc)
    go false None None k = absurd (let q : Unseen ≡ AColumn c = k in cc)

meant_link : (w : View) (table : ℕ) (name : Text) (x : LinkDef) → meant w table name ≡ ALink x → link_seen w table name ≡ Some x
meant_link w table name x h = go (bytes_eq name (codes "__typename")) (column_seen w table name) (link_seen w table name) h
  where
    go : (t : Bool) (s : Option ℕ) (l : Option LinkDef) → (if t then Typename else column_or s (link_or_none l)) ≡ ALink x → l ≡ Some x
    go true s l k = absurd (let q : Typename ≡ ALink x = k in cc)
    go false (Some d) l k = absurd (let q : AColumn d ≡ ALink x = k in cc)
    go false None (Some l) k = let q : ALink l ≡ ALink x = k in let e : l ≡ x = cc in ap Some e
    go false None None k = absurd (let q : Unseen ≡ ALink x = k in cc)

link_good : (w : View) → GoodMetadata w.metadata → (table : ℕ) (name : Text) (x : LinkDef) → link_seen w table name ≡ Some x → GoodLink w.metadata.catalog table x
link_good w good table name x h = go (sees_table w table) (find (λ (l : LinkDef). bytes_eq name l.name) (links_at (slice_get w.metadata.links table))) refl h
  where
    only : (a : Bool) (l : LinkDef) → only_if a (Some l) ≡ Some x → l ≡ x
    only true l k = same_some l x k
    only false l k = absurd (none_some x k)

    go : (a : Bool) (o : Option LinkDef) → find (λ (l : LinkDef). bytes_eq name l.name) (links_at (slice_get w.metadata.links table)) ≡ o →
        only_if a (option_and_then (λ (l : LinkDef). only_if (sees_table w l.table) (Some l)) o) ≡ Some x → GoodLink w.metadata.catalog table x
    go false o e k = absurd (none_some x k)
    go true None e k = absurd (none_some x k)
    go true (Some l) e k =
        subst (GoodLink w.metadata.catalog table) (only (sees_table w l.table) l k)
        (each_found (GoodLink w.metadata.catalog table) (λ (l : LinkDef). bytes_eq name l.name) (links_at (slice_get w.metadata.links table)) l (good.links table) e).0

-- ---- the parts of an object that the walk lets pass

pub record ObjectPasses (vars : List Variable) (w : View) (known : Text → Option (GValue → Option QueryFault)) (required : List Text) (table : ℕ) (f : FlatField-F (ℕ → Option QueryFault)) : Type 0 where
  pub arguments : arguments_fault vars w known f.args ≡ None
  pub missing : missing_fault vars w required f.args ≡ None
  pub fields : first_of (map (λ (g : ℕ → Option QueryFault). g table) f.fields) ≡ None

pub object_passes : (vars : List Variable) (w : View) (known : Text → Option (GValue → Option QueryFault)) (required : List Text) (table : ℕ) (f : FlatField-F (ℕ → Option QueryFault)) →
    object_fault vars w known required table f ≡ None → ObjectPasses vars w known required table f
object_passes vars w known required table f h =
    let a = neither _ _ h in
    let b = neither _ _ a.1 in
    let c = neither _ _ b.1 in
    let d = neither _ _ c.1 in
    record { arguments = b.0; missing = c.0; fields = d.1 }

module _ (w : View) (names : List Text) (slots : List SessionSlot) (b : Binding) (vars : List Variable) (all : AllByRecursion Typed vars) (good : GoodMetadata w.metadata) (bound : length b.session ≡ length slots) where
  abbrev catalog : Catalog
  catalog = w.metadata.catalog

  abbrev pub Told : List Text → Type 0
  Told ns = AllListed w names slots b vars all ns

  abbrev pub MayRead : List ℕ → Type 0
  MayRead ts = AllByRecursion (Permitted w names slots b vars all good bound) ts

  abbrev Ready : FlatField → Type 0
  Ready x = (table : ℕ) → field_fault vars w x table ≡ None → Told (all_names x) → MayRead (tables_below w table x) → FieldGood catalog b table (plan_field w names slots table x)

  abbrev judging : FlatField → ℕ → Option QueryFault
  judging = field_fault vars w

  abbrev reading : FlatField → ℕ → List ℕ
  reading = fold-FlatField (ℕ → List ℕ) (tables_step w)

  abbrev planning : FlatField → ℕ → Field
  planning = fold-FlatField (ℕ → Field) (plan_step w names slots)

  inner_good : (table : ℕ) (xs : List FlatField) → AllByRecursion Ready xs → first_of (map (λ (g : ℕ → Option QueryFault). g table) (map judging xs)) ≡ None → Told (concatenated (map all_names xs)) →
      MayRead (flat_map (λ (g : ℕ → List ℕ). g table) (map reading xs)) → AllByRecursion (FieldGood catalog b table) (map (λ (g : ℕ → Field). g table) (map planning xs))
  inner_good table [] each h l r = tt
  inner_good table (x ∷ xs) each h l r =
      let parts = neither (judging x table) (first_of (map (λ (g : ℕ → Option QueryFault). g table) (map judging xs))) h in
      let later = flat_map (λ (g : ℕ → List ℕ). g table) (map reading xs) in (
        each.0 table parts.0 (front_holds _ (all_names x) (concatenated (map all_names xs)) l) (front_holds _ (reading x table) later r),
        inner_good table xs each.1 parts.1 (back_holds _ (all_names x) (concatenated (map all_names xs)) l) (back_holds _ (reading x table) later r),
      )

  module _ (f : FlatField-F FlatField) where
    abbrev judged : FlatField-F (ℕ → Option QueryFault)
    judged = record { key = f.key; name = f.name; args = f.args; nested = f.nested; conditions = f.conditions; fields = map judging f.fields }

    abbrev planned : FlatField-F (ℕ → Field)
    planned = record { key = f.key; name = f.name; args = f.args; nested = f.nested; conditions = f.conditions; fields = map planning f.fields }

    abbrev own_names : List Text
    own_names = flat_map (λ p. value_names (pair_value (bare_argument p))) f.args

    meant_good : AllByRecursion Ready f.fields → (table : ℕ) (x : Meant) → meant w table f.name ≡ x → meant_fault vars w judged x ≡ None → Told (own_names ++ concatenated (map all_names f.fields)) →
        MayRead (tables_by w (map reading f.fields) x) → FieldGood catalog b table (meant_field w names slots planned x)
    meant_good each table Typename e h l r = typename_good catalog b table f.key
    meant_good each table (AColumn c) e h l r = column_field_good catalog b table f.key c (seen_within w table f.name c (meant_column w table f.name c e))
    meant_good each table Unseen e h l r = absurd (some_none (refusal fault.NoField f.name) h)
    meant_good each table (ALink x) e h l r =
        let link = link_good w good table f.name x (meant_link w table f.name x e) in
        let object = object_passes vars w (link_arguments vars w x) [] x.table judged h in
        link_field_good catalog b table f.key x.from x.to _ link.pairs link.from
        (select x.many object.arguments (inner_good x.table f.fields each object.fields (back_holds _ own_names (concatenated (map all_names f.fields)) l) r.1) link)
      where
        select : (c : Bool) → arguments_fault vars w (if c then list_arguments vars w x.table else no_arguments vars w) f.args ≡ None → AllByRecursion (FieldGood catalog b x.table) (map (λ (g : ℕ → Field). g x.table) planned.fields) → GoodLink catalog table x →
            SelectGood catalog b false x.to (if c then list_select w names slots x.table f.args (map (λ (g : ℕ → Field). g x.table) planned.fields) else one_select w names slots x.table [] (map (λ (g : ℕ → Field). g x.table) planned.fields))
        select true k fields link =
            list_good w names slots b vars all good bound false x.to x.table f.args _ link.there link.to r.0 k (front_holds _ own_names (concatenated (map all_names f.fields)) l) fields
        select false k fields link = one_good w names slots b vars all good bound false x.to x.table [] _ link.there link.to r.0 tt fields

    rolled_ready : AllByRecursion Ready f.fields → Ready (roll-FlatField f)
    rolled_ready each table h l r =
        subst (λ (g : ℕ → Field). FieldGood catalog b table (g table)) (sym (fold-roll-FlatField (ℕ → Field) (plan_step w names slots) f))
        (meant_good each table (meant w table f.name) refl (ap (λ (g : ℕ → Option QueryFault). g table) (sym (fold-roll-FlatField (ℕ → Option QueryFault) (field_fault_step vars w) f)) ∙ h)
        (subst Told (fold-roll-FlatField (List Text) field_names_step f) l) (subst (λ (g : ℕ → List ℕ). MayRead (g table)) (fold-roll-FlatField (ℕ → List ℕ) (tables_step w) f) r))

  pub field_ready : (x : FlatField) → Ready x
  field_ready = ind-FlatField Ready (λ f y is. rolled_ready f (subst (λ z. AllByRecursion Ready z.fields) is (firsts Ready y.fields)))

  pub fields_good : (table : ℕ) (xs : List FlatField) → first_of (map (λ (g : ℕ → Option QueryFault). g table) (map judging xs)) ≡ None → Told (concatenated (map all_names xs)) →
      MayRead (flat_map (tables_below w table) xs) → AllByRecursion (FieldGood catalog b table) (map (plan_field w names slots table) xs)
  fields_good table [] h l r = tt
  fields_good table (x ∷ xs) h l r =
      let parts = neither (judging x table) (first_of (map (λ (g : ℕ → Option QueryFault). g table) (map judging xs))) h in (
        field_ready x table parts.0 (front_holds _ (all_names x) (concatenated (map all_names xs)) l) (front_holds _ (tables_below w table x) (flat_map (tables_below w table) xs) r),
        fields_good table xs parts.1 (back_holds _ (all_names x) (concatenated (map all_names xs)) l) (back_holds _ (tables_below w table x) (flat_map (tables_below w table) xs) r),
      )

-- ---- the root's table is there

abbrev pub InRange : View → Root → Type 0
InRange w (RowsOf table) = nat_lt table (length w.metadata.catalog.tables) ≡ true
InRange w (RowOf table) = nat_lt table (length w.metadata.catalog.tables) ≡ true
InRange w (StreamOf table) = nat_lt table (length w.metadata.catalog.tables) ≡ true
InRange w NoRoot = Unit {0}

only_placed : {X : Type 0} (p : X → Bool) (test : ℕ → Bool) (xs : List X) (t : ℕ) → option_and_then (λ i. only_if (test i) (Some i)) (position p xs) ≡ Some t → nat_lt t (length xs) ≡ true
only_placed p test xs t h = go (position p xs) (λ i e. (placed_at p xs i e).within) h
  where
    only : (c : Bool) (i : ℕ) → only_if c (Some i) ≡ Some t → i ≡ t
    only true i k = same_some i t k
    only false i k = absurd (none_some t k)

    go : (o : Option ℕ) → ((i : ℕ) → o ≡ Some i → nat_lt i (length xs) ≡ true) → option_and_then (λ i. only_if (test i) (Some i)) o ≡ Some t → nat_lt t (length xs) ≡ true
    go None s k = absurd (none_some t k)
    go (Some i) s k = subst (λ j. nat_lt j (length xs) ≡ true) (only (test i) i k) (s i refl)

module _ (w : View) where
  abbrev tables : List TableDef
  tables = w.metadata.catalog.tables

  called_within : (suffix name : Text) (t : ℕ) → table_called w suffix name ≡ Some t → nat_lt t (length tables) ≡ true
  called_within suffix name t h = only_placed (λ (x : TableDef). bytes_eq name (x.name ++ suffix)) (sees_table w) tables t h

  keyed_within : (name : Text) (t : ℕ) → table_by_key w name ≡ Some t → nat_lt t (length tables) ≡ true
  keyed_within name t h = go (table_called w (codes "_by_pk") name) (called_within (codes "_by_pk") name) h
    where
      only : (c : Bool) (i : ℕ) → only_if c (Some i) ≡ Some t → i ≡ t
      only true i k = same_some i t k
      only false i k = absurd (none_some t k)

      go : (o : Option ℕ) → ((i : ℕ) → o ≡ Some i → nat_lt i (length tables) ≡ true) → option_and_then (λ i. only_if (key_seen w i) (Some i)) o ≡ Some t → nat_lt t (length tables) ≡ true
      go None s k = absurd (none_some t k)
      go (Some i) s k = subst (λ j. nat_lt j (length tables) ≡ true) (only (key_seen w i) i k) (s i refl)

  streamed_within : (x : Word) (name : Text) (t : ℕ) → table_streamed w x name ≡ Some t → nat_lt t (length tables) ≡ true
  streamed_within word.Subscription name t h = called_within (codes "_stream") name t h
  streamed_within word.Query name t h = absurd (none_some t h)

  pub root_in_range : (x : Word) (name : Text) → InRange w (root_meant w x name)
  root_in_range x name =
      go (table_seen w name) (table_by_key w name) (table_streamed w x name) (λ t h. only_placed (λ (y : TableDef). bytes_eq name y.name) (sees_table w) tables t h) (keyed_within name) (streamed_within x name)
    where
      go : (a b c : Option ℕ) → ((t : ℕ) → a ≡ Some t → nat_lt t (length tables) ≡ true) → ((t : ℕ) → b ≡ Some t → nat_lt t (length tables) ≡ true) → ((t : ℕ) → c ≡ Some t → nat_lt t (length tables) ≡ true) →
          InRange w (root_or RowsOf a (root_or RowOf b (root_or StreamOf c NoRoot)))
      go (Some t) b c p q r = p t refl
      go None (Some t) c p q r = q t refl
      go None None (Some t) p q r = r t refl
      go None None None p q r = tt
