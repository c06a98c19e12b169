-- A plan depends on the essence of its selection alone, and so do the slots of session variables.
use Rattle.std.proofs.Common.{◌≡◌, ℕ, Bool, true, false, if◌then◌else◌, List, [], ◌∷◌, ◌++◌, map, flat_map, Option, Some, None, option_map, option_and_then, unwrap_or, refl, ap, ap₂, sym, subst, ◌∙◌}
use std.Path.{fun_ext}
use Rattle.std.specs.Prelude.{codes}
use Rattle.std.specs.List.{AllByRecursion}
use Rattle.scalar_val.specs.declared.val.Val.{Val}
use Rattle.scalar_val.specs.declared.val.Val.TheVariants as val
use Rattle.plan_model.specs.declared.filter.Filter.{Filter}
use Rattle.plan_model.specs.declared.filter.Op.TheVariants.{Eq}
use Rattle.plan_model.specs.declared.filter.Operand.TheVariants.{Const}
use Rattle.plan_model.specs.declared.filter.Filter.TheVariants as filter
use Rattle.role_model.specs.declared.metadata.LinkDef.{LinkDef}
use Rattle.plan_model.specs.declared.plan.Shape.TheVariants as shape
use Rattle.plan_model.specs.declared.plan.Field.{Field}
use Rattle.plan_model.specs.declared.plan.Field.TheVariants as field
use Rattle.plan_model.specs.declared.plan.Field.TheViews.{roll-Select}
use Rattle.plan_model.specs.declared.plan.Select.{Select}
use Rattle.plan_model.specs.declared.plan.Plan.{Plan}
use Rattle.role_model.specs.Roles.{View, cap_seen}
use Rattle.request_model.specs.declared.document.GValue.{GValue}
use Rattle.request_model.specs.declared.document.GValue.TheOpen.{GValue-F}
use Rattle.request_model.specs.declared.document.GValue.TheViews.{out-GValue}
use Rattle.request_model.specs.declared.document.GPair.{GPair}
use Rattle.scalar_val.specs.declared.word.Word.{Word}
use Rattle.request_model.specs.declared.flat.FlatField.{FlatField}
use Rattle.request_model.specs.declared.flat.FlatField.TheOpen.{FlatField-F}
use Rattle.request_model.specs.declared.flat.FlatField.TheViews.{out-FlatField, roll-FlatField, out-roll-FlatField}
use Rattle.request_model.specs.declared.flat.FlatField.TheFolds.{fold-FlatField, fold-roll-FlatField, fold_out-FlatField, ind-FlatField}
use Rattle.request_model.specs.declared.flat.Flat.{Flat}
use Rattle.request_model.specs.Strings.{Text}
use Rattle.scalar_val.specs.Ordered.{distinct_in_order}
use Rattle.request_model.specs.SelectionLaws.{bare_step, bare_field, essence}
use Rattle.request_model.proofs.ReadArguments.{firsts}
use Rattle.query_model.specs.Names.{null_or_fitted, Root, RowsOf, RowOf, StreamOf, NoRoot, Meant, Typename, AColumn, ALink, Unseen, meant, root_meant, key_columns, column_name, kind_of, argument, literal_by, variable_by}
use Rattle.query_model.specs.Conditions.{where_filter, orders_in}
use Rattle.query_model.specs.declared.session.SessionSlot.{SessionSlot}
use Rattle.query_model.specs.Queries.{slot_cmp, table_slots, tables_step, tables_below, root_tables, root_of, selection_slots, text_variables}
use Rattle.query_model.specs.Plans.{operand_by, operands, permission, count_operand, list_select, one_select, column_condition, key_condition, batch_operand, stream_select, link_select, meant_field, plan_step, plan_field, root_select, plan_with, root_plan, plan_of}
use Rattle.admission_laws.proofs.BareArguments.{bare_arguments, found_same, form_found, initial_column_same, descends_same}
use Rattle.admission_laws.proofs.BareNames.{bare_variables, text_variables_are}

-- ---- folds over the essence of a field

module _ {A : Type 0} where
  -- a field with its arguments in order, without a cursor's initial value and without type conditions
  abbrev pub bared : FlatField-F A → FlatField-F A
  bared f = record { key = f.key; name = f.name; args = bare_arguments f.args; nested = f.nested; conditions = []; fields = f.fields }

module _ {A : Type 0} (step : FlatField-F A → A) (same : (f : FlatField-F A) → step (bared f) ≡ step f) where
  abbrev folded : FlatField → A
  folded = fold-FlatField A step

  abbrev IsSame : FlatField → Type 0
  IsSame x = folded (bare_field x) ≡ folded x

  all_same : (xs : List FlatField) → AllByRecursion IsSame xs → map folded (map bare_field xs) ≡ map folded xs
  all_same [] all = refl
  all_same (x ∷ xs) all = ap₂ (λ y ys. y ∷ ys) all.0 (all_same xs all.1)

  rolled_same : (f : FlatField-F FlatField) → AllByRecursion IsSame f.fields → IsSame (roll-FlatField f)
  rolled_same f all =
      ap folded (fold-roll-FlatField FlatField bare_step f) ∙ fold-roll-FlatField A step _
      ∙ ap (λ (us : List A). step (bared (record { key = f.key; name = f.name; args = f.args; nested = f.nested; conditions = f.conditions; fields = us }))) (all_same f.fields all)
      ∙ same (record { key = f.key; name = f.name; args = f.args; nested = f.nested; conditions = f.conditions; fields = map folded f.fields })
      ∙ sym (fold-roll-FlatField A step f)

  pub fold_same : (x : FlatField) → fold-FlatField A step (bare_field x) ≡ fold-FlatField A step x
  fold_same = ind-FlatField IsSame (λ f y is. rolled_same f (subst (λ z. AllByRecursion IsSame z.fields) is (firsts IsSame y.fields)))

pub each_same : {X Y : Type 0} (f : X → Y) (g : X → X) → ((x : X) → f (g x) ≡ f x) → (xs : List X) → map f (map g xs) ≡ map f xs
each_same f g same [] = refl
each_same f g same (x ∷ xs) = ap₂ (λ y ys. y ∷ ys) (same x) (each_same f g same xs)

pub each_joined : {X Y : Type 0} (f : X → List Y) (g : X → X) → ((x : X) → f (g x) ≡ f x) → (xs : List X) → flat_map f (map g xs) ≡ flat_map f xs
each_joined f g same [] = refl
each_joined f g same (x ∷ xs) = ap₂ (λ y ys. y ++ ys) (same x) (each_joined f g same xs)

pub map_same : {X Y : Type 0} (f g : X → Y) → ((x : X) → f x ≡ g x) → (xs : List X) → map f xs ≡ map g xs
map_same f g same [] = refl
map_same f g same (x ∷ xs) = ap₂ (λ y ys. y ∷ ys) (same x) (map_same f g same xs)

-- the essence of a field, layer by layer
pub out_bare : (x : FlatField) → out-FlatField (bare_field x) ≡
    record { key = (out-FlatField x).key; name = (out-FlatField x).name; args = bare_arguments (out-FlatField x).args; nested = (out-FlatField x).nested; conditions = []; fields = map bare_field (out-FlatField x).fields }
out_bare x = ap out-FlatField (fold_out-FlatField FlatField bare_step x) ∙ out-roll-FlatField _

-- ---- session slots

module _ (w : View) where
  pub root_of_bare : (word : Word) (x : FlatField) → root_of w word (bare_field x) ≡ root_of w word x
  root_of_bare word x = ap (λ (f : FlatField-F FlatField). root_meant w word f.name) (out_bare x)

  tables_same : (table : ℕ) (x : FlatField) → tables_below w table (bare_field x) ≡ tables_below w table x
  tables_same table x = ap (λ (g : ℕ → List ℕ). g table) (fold_same (tables_step w) (λ f. refl) x)

  root_tables_same : (root : Root) (xs : List FlatField) → root_tables w root (map bare_field xs) ≡ root_tables w root xs
  root_tables_same (RowsOf table) xs = ap (λ ts. table ∷ ts) (each_joined (tables_below w table) bare_field (tables_same table) xs)
  root_tables_same (RowOf table) xs = ap (λ ts. table ∷ ts) (each_joined (tables_below w table) bare_field (tables_same table) xs)
  root_tables_same (StreamOf table) xs = ap (λ ts. table ∷ ts) (each_joined (tables_below w table) bare_field (tables_same table) xs)
  root_tables_same NoRoot xs = refl

  abbrev field_tables : Word → FlatField → List ℕ
  field_tables word f = root_tables w (root_of w word f) (out-FlatField f).fields

  field_tables_same : (word : Word) (x : FlatField) → field_tables word (bare_field x) ≡ field_tables word x
  field_tables_same word x =
      ap₂ (λ (r : Root) (f : FlatField-F FlatField). root_tables w r f.fields) (root_of_bare word x) (out_bare x) ∙ root_tables_same (root_of w word x) (out-FlatField x).fields

  -- the slots of an essence
  abbrev pub slots_by : Word → List FlatField → List SessionSlot
  slots_by word fields = distinct_in_order slot_cmp (flat_map (table_slots w) (flat_map (field_tables word) fields))

  pub selection_slots_are : (s : Flat) → selection_slots w s ≡ slots_by s.kind (map bare_field s.fields)
  selection_slots_are s = ap (λ ts. distinct_in_order slot_cmp (flat_map (table_slots w) ts)) (sym (each_joined (field_tables s.kind) bare_field (field_tables_same s.kind) s.fields))

-- ---- plans

module _ (w : View) (names : List Text) (slots : List SessionSlot) where
  abbrev list_by : ℕ → List Field → Option GValue × Option GValue → Option GValue × Option GValue → Select
  list_by table fields a b = roll-Select (record {
    table = table;
    shape = shape.List;
    filter = filter.And (where_filter w (operands w names slots) table a.0 ∷ permission w names slots table);
    order = orders_in w table a.1;
    limit = count_operand w names slots b.0;
    offset = count_operand w names slots b.1;
    cap = cap_seen w table;
    fields = fields;
  })

  list_same : (table : ℕ) (args : List GPair) (fields : List Field) → list_select w names slots table (bare_arguments args) fields ≡ list_select w names slots table args fields
  list_same table args fields =
      ap₂ (list_by table fields) (ap₂ (λ a b. (a, b)) (found_same (codes "where") refl args) (found_same (codes "order_by") refl args))
      (ap₂ (λ a b. (a, b)) (found_same (codes "limit") refl args) (found_same (codes "offset") refl args))

  abbrev stream_by : ℕ → List Field → ℕ × Bool → Option GValue × Option GValue → Select
  stream_by table fields a b = roll-Select (record {
    table = table;
    shape = shape.Stream a.0 a.1 (batch_operand w names slots b.0);
    filter = filter.And (where_filter w (operands w names slots) table b.1 ∷ permission w names slots table);
    order = [];
    limit = None;
    offset = None;
    cap = cap_seen w table;
    fields = fields;
  })

  stream_same : (table : ℕ) (args : List GPair) (fields : List Field) → stream_select w names slots table (bare_arguments args) fields ≡ stream_select w names slots table args fields
  stream_same table args fields =
      ap₂ (stream_by table fields) (ap₂ (λ a b. (a, b)) (initial_column_same w table args) (descends_same args))
      (ap₂ (λ a b. (a, b)) (found_same (codes "batch_size") refl args) (found_same (codes "where") refl args))

  link_same : (l : LinkDef) (args : List GPair) (fields : List Field) → link_select w names slots l (bare_arguments args) fields ≡ link_select w names slots l args fields
  link_same l args fields = go l.many
    where
      go : (b : Bool) → (if b then list_select w names slots l.table (bare_arguments args) fields else one_select w names slots l.table [] fields) ≡ (if b then list_select w names slots l.table args fields else one_select w names slots l.table [] fields)
      go true = list_same l.table args fields
      go false = refl

  meant_same : (f : FlatField-F (ℕ → Field)) (x : Meant) → meant_field w names slots (bared f) x ≡ meant_field w names slots f x
  meant_same f Typename = refl
  meant_same f (AColumn column) = refl
  meant_same f (ALink l) = ap (field.Link f.key l.from l.to) (link_same l f.args (map (λ (g : ℕ → Field). g l.table) f.fields))
  meant_same f Unseen = refl

  plan_field_same : (table : ℕ) (x : FlatField) → plan_field w names slots table (bare_field x) ≡ plan_field w names slots table x
  plan_field_same table x = ap (λ (g : ℕ → Field). g table) (fold_same (plan_step w names slots) (λ f. fun_ext (λ t. meant_same f (meant w t f.name))) x)

  plan_fields_same : (table : ℕ) (xs : List FlatField) → map (plan_field w names slots table) (map bare_field xs) ≡ map (plan_field w names slots table) xs
  plan_fields_same table xs = each_same (plan_field w names slots table) bare_field (plan_field_same table) xs

  -- what a key's condition takes of its argument: the literal and the variable that it may be
  abbrev Told : Type 0
  Told = Option Val × Option Text

  abbrev told : GValue-F GValue GPair → Told
  told f = (literal_by f, variable_by f)

  abbrev condition_by : ℕ → ℕ → Option Told → Filter
  condition_by table column (Some t) =
      filter.Cmp column Eq (operand_by w names slots (Const (unwrap_or (option_and_then (null_or_fitted (kind_of w table column)) t.0) val.Null)) t.1)
  condition_by table column None = filter.Or []

  condition_is : (table column : ℕ) (o : Option GValue) → column_condition w names slots table column o ≡ condition_by table column (option_map (λ x. told (out-GValue x)) o)
  condition_is table column (Some x) = refl
  condition_is table column None = refl

  key_same : (table : ℕ) (args : List GPair) (column : ℕ) → key_condition w names slots table (bare_arguments args) column ≡ key_condition w names slots table args column
  key_same table args column =
      let name = column_name w table column in
      condition_is table column (argument name (bare_arguments args))
      ∙ form_found told (λ xs ys. refl) (λ ps qs. refl) (condition_by table column) name args
      ∙ sym (condition_is table column (argument name args))

  -- a root with the fields of an essence
  root_same : (root : Root) (f : FlatField-F FlatField) →
      root_select w names slots root (record { key = f.key; name = f.name; args = bare_arguments f.args; nested = f.nested; conditions = []; fields = map bare_field f.fields }) ≡ root_select w names slots root f
  root_same (RowsOf table) f = ap Some (list_same table f.args (map (plan_field w names slots table) (map bare_field f.fields)) ∙ ap (list_select w names slots table f.args) (plan_fields_same table f.fields))
  root_same (RowOf table) f =
      ap Some (ap₂ (one_select w names slots table) (map_same (key_condition w names slots table (bare_arguments f.args)) (key_condition w names slots table f.args) (key_same table f.args) (key_columns w table)) (plan_fields_same table f.fields))
  root_same (StreamOf table) f = ap Some (stream_same table f.args (map (plan_field w names slots table) (map bare_field f.fields)) ∙ ap (stream_select w names slots table f.args) (plan_fields_same table f.fields))
  root_same NoRoot f = refl

  abbrev pub plan_by : Word → FlatField → Option Plan
  plan_by word f = option_map (plan_with w (out-FlatField f).key) (root_select w names slots (root_of w word f) (out-FlatField f))

  plan_by_same : (word : Word) (x : FlatField) → plan_by word (bare_field x) ≡ plan_by word x
  plan_by_same word x =
      ap₂ (λ (r : Root) (f : FlatField-F FlatField). option_map (plan_with w f.key) (root_select w names slots r f)) (root_of_bare w word x) (out_bare x)
      ∙ ap (option_map (plan_with w (out-FlatField x).key)) (root_same (root_of w word x) (out-FlatField x))

  abbrev pub plan_from : Word → List FlatField → Option Plan
  plan_from word (f ∷ []) = plan_by word f
  plan_from word [] = None
  plan_from word (f ∷ g ∷ fs) = None

  plan_from_same : (word : Word) (xs : List FlatField) → plan_from word (map bare_field xs) ≡ plan_from word xs
  plan_from_same word [] = refl
  plan_from_same word (x ∷ []) = plan_by_same word x
  plan_from_same word (x ∷ y ∷ xs) = refl

-- the plan of an essence
abbrev pub plan_in : View → Word × List FlatField → Option Plan
plan_in w e = plan_from w (bare_variables e.1) (slots_by w e.0 e.1) e.0 e.1

plan_of_from : (w : View) (s : Flat) (xs : List FlatField) → root_plan w s xs ≡ plan_from w (text_variables s) (selection_slots w s) s.kind xs
plan_of_from w s [] = refl
plan_of_from w s (x ∷ []) = refl
plan_of_from w s (x ∷ y ∷ xs) = refl

pub plan_of_essence : (w : View) (s : Flat) → plan_of w s ≡ plan_in w (essence s)
plan_of_essence w s =
    plan_of_from w s s.fields ∙ sym (plan_from_same w (text_variables s) (selection_slots w s) s.kind s.fields)
    ∙ ap₂ (λ names slots. plan_from w names slots s.kind (map bare_field s.fields)) (text_variables_are s) (selection_slots_are w s)
