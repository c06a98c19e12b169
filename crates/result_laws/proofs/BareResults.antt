-- A result depends on the role, the values of variables and session variables and the essence of the selection alone.
use Rattle.std.proofs.Common.{◌≡◌, ℕ, Bool, true, false, ◌&&◌, if◌then◌else◌, List, [], ◌∷◌, map, Option, Some, None, option_map, option_and_then, unwrap_or, refl, ap, ap₂, sym, ◌∙◌}
use std.Path.{fun_ext}
use Rattle.std.specs.Prelude.{codes}
use Rattle.std.specs.List.{list_all}
use Rattle.scalar_val.specs.declared.val.Val.{Val}
use Rattle.scalar_val.specs.declared.val.Val.TheVariants as val
use Rattle.scalar_val.specs.Values.{cell}
use Rattle.data_model.specs.Rows.{Row, Database}
use Rattle.plan_model.specs.declared.filter.Op.TheVariants.{Eq}
use Rattle.role_model.specs.declared.metadata.LinkDef.{LinkDef}
use Rattle.role_model.specs.declared.metadata.Metadata.{Metadata}
use Rattle.role_model.specs.Roles.{cap_seen}
use Rattle.plan_model.specs.Truth.{is_yes, compared}
use Rattle.request_model.specs.declared.document.GValue.{GValue}
use Rattle.request_model.specs.declared.document.GValue.TheOpen.{GValue-F}
use Rattle.request_model.specs.declared.document.GValue.TheViews.{out-GValue}
use Rattle.request_model.specs.declared.document.GPair.{GPair}
use Rattle.scalar_val.specs.declared.word.Word.{Word}
use Rattle.request_model.specs.declared.flat.FlatField.{FlatField}
use Rattle.request_model.specs.declared.flat.FlatField.TheOpen.{FlatField-F}
use Rattle.request_model.specs.declared.flat.FlatField.TheViews.{out-FlatField}
use Rattle.request_model.specs.Strings.{Text}
use Rattle.request_model.specs.SelectionLaws.{bare_field, essence}
use Rattle.scalar_val.specs.Joined.{named_text}
use Rattle.query_model.specs.declared.kind.SubKind.TheVariants as sub
use Rattle.query_model.specs.Names.{Root, RowsOf, RowOf, StreamOf, NoRoot, Meant, Typename, AColumn, ALink, Unseen, meant, key_columns, column_name, kind_of, argument, null_or_fitted, literal_by, variable_by}
use Rattle.query_model.specs.declared.variable.Variable.{Variable}
use Rattle.query_model.specs.Variables.{value_by, number_read}
use Rattle.query_model.specs.Conditions.{where_filter, orders_in}
use Rattle.query_model.specs.declared.session.SessionValue.{SessionValue}
use Rattle.query_model.specs.Queries.{Query, root_of}
use Rattle.plan_model.specs.Taken.{All, First, Next, Wanted, joins, is_beyond}
use Rattle.plan_model.specs.Outcomes.{wanted_text, quoted_text, Pair, Outcome, result_of}
use Rattle.query_model.specs.Results.{passes, view, values, is_permitted, column_equals, has_key_given, rows_wanted, row_wanted, stream_wanted, link_wanted, member_text, pair_step, pair_of, root_wanted, result_by, root_result, result}
use Rattle.admission_laws.proofs.BareArguments.{bare_arguments, found_same, form_found, initial_column_same, descends_same}
use Rattle.admission_laws.proofs.OnePlan.{bared, fold_same, each_same, out_bare, root_of_bare}

module _ (m : Metadata) (q : Query) where
  -- ---- the rows that are wanted, by what is found of the arguments: of `where` and `order_by`, and of `offset` and `limit`

  abbrev rows_by : ℕ → Option GValue × Option GValue → Option GValue × Option GValue → Wanted
  rows_by table a b = record {
    table = table;
    shown = λ row. passes (where_filter (view m q) (values m q) table a.0) row && is_permitted m q table row;
    extent = All (orders_in (view m q) table a.1) (unwrap_or (number_read q.variables b.0) 0) (number_read q.variables b.1);
    cap = cap_seen (view m q) table;
  }

  rows_same : (table : ℕ) (args : List GPair) → rows_wanted m q table (bare_arguments args) ≡ rows_wanted m q table args
  rows_same table args =
      ap₂ (rows_by table) (ap₂ (λ a b. (a, b)) (found_same (codes "where") refl args) (found_same (codes "order_by") refl args))
      (ap₂ (λ a b. (a, b)) (found_same (codes "offset") refl args) (found_same (codes "limit") refl args))

  abbrev linked_by : LinkDef → Row → Option GValue × Option GValue → Option GValue × Option GValue → Wanted
  linked_by l parent a b = record {
    table = l.table;
    shown = λ row. joins l.from l.to parent row && passes (where_filter (view m q) (values m q) l.table a.0) row && is_permitted m q l.table row;
    extent = All (orders_in (view m q) l.table a.1) (unwrap_or (number_read q.variables b.0) 0) (number_read q.variables b.1);
    cap = cap_seen (view m q) l.table;
  }

  abbrev joined_by : LinkDef → Row → Wanted
  joined_by l parent = record { table = l.table; shown = λ row. joins l.from l.to parent row && is_permitted m q l.table row; extent = First; cap = None }

  link_same : (l : LinkDef) (args : List GPair) (parent : Row) → link_wanted m q l (bare_arguments args) parent ≡ link_wanted m q l args parent
  link_same l args parent = go l.many
    where
      go : (b : Bool) →
          (if b then linked_by l parent (argument (codes "where") (bare_arguments args), argument (codes "order_by") (bare_arguments args)) (argument (codes "offset") (bare_arguments args), argument (codes "limit") (bare_arguments args)) else joined_by l parent)
          ≡ (if b then linked_by l parent (argument (codes "where") args, argument (codes "order_by") args) (argument (codes "offset") args, argument (codes "limit") args) else joined_by l parent)
      go true =
          ap₂ (linked_by l parent) (ap₂ (λ a b. (a, b)) (found_same (codes "where") refl args) (found_same (codes "order_by") refl args))
          (ap₂ (λ a b. (a, b)) (found_same (codes "offset") refl args) (found_same (codes "limit") refl args))
      go false = refl

  -- what a key's column is compared with: the literal and the variable that its argument may be
  abbrev Told : Type 0
  Told = Option Val × Option Text

  abbrev told : GValue-F GValue GPair → Told
  told f = (literal_by f, variable_by f)

  abbrev equals_by : ℕ → Row → ℕ → Option Told → Bool
  equals_by table row column (Some t) =
      is_yes (compared Eq (cell row column) (value_by q.variables (unwrap_or (option_and_then (null_or_fitted (kind_of (view m q) table column)) t.0) val.Null) t.1))
  equals_by table row column None = false

  equals_is : (table : ℕ) (row : Row) (column : ℕ) (o : Option GValue) → column_equals m q table row column o ≡ equals_by table row column (option_map (λ x. told (out-GValue x)) o)
  equals_is table row column (Some x) = refl
  equals_is table row column None = refl

  key_same : (table : ℕ) (args : List GPair) (row : Row) → has_key_given m q table (bare_arguments args) row ≡ has_key_given m q table args row
  key_same table args row =
      ap (λ (test : ℕ → Bool). list_all test (key_columns (view m q) table)) (fun_ext (λ column.
      equals_is table row column (argument (column_name (view m q) table column) (bare_arguments args))
      ∙ form_found told (λ xs ys. refl) (λ ps qs. refl) (equals_by table row column) (column_name (view m q) table column) args
      ∙ sym (equals_is table row column (argument (column_name (view m q) table column) args))))

  abbrev keyed_by : ℕ → (Row → Bool) → Wanted
  keyed_by table test = record { table = table; shown = λ row. test row && is_permitted m q table row; extent = First; cap = None }

  row_same : (table : ℕ) (args : List GPair) → row_wanted m q table (bare_arguments args) ≡ row_wanted m q table args
  row_same table args = ap (keyed_by table) (fun_ext (key_same table args))

  abbrev streamed_by : Val → ℕ → ℕ × Bool → Option GValue × Option GValue → Wanted
  streamed_by cursor table a b = record {
    table = table;
    shown = λ row. passes (where_filter (view m q) (values m q) table b.0) row && is_permitted m q table row && is_beyond a.1 cursor (cell row a.0);
    extent = Next a.0 a.1 (unwrap_or (number_read q.variables b.1) 0);
    cap = cap_seen (view m q) table;
  }

  stream_same : (cursor : Val) (table : ℕ) (args : List GPair) → stream_wanted m q cursor table (bare_arguments args) ≡ stream_wanted m q cursor table args
  stream_same cursor table args =
      ap₂ (streamed_by cursor table) (ap₂ (λ a b. (a, b)) (initial_column_same (view m q) table args) (descends_same args))
      (ap₂ (λ a b. (a, b)) (found_same (codes "where") refl args) (found_same (codes "batch_size") refl args))

  -- ---- fields

  module _ (db : Database) where
    member_same : (f : FlatField-F Pair) (table : ℕ) (row : Row) (x : Meant) → member_text m q db (bared f) table row x ≡ member_text m q db f table row x
    member_same f table row Typename = refl
    member_same f table row (AColumn column) = refl
    member_same f table row (ALink l) = ap (λ (w : Wanted). wanted_text db w f.fields) (link_same l f.args row)
    member_same f table row Unseen = refl

    step_same : (f : FlatField-F Pair) → pair_step m q db (bared f) ≡ pair_step m q db f
    step_same f = fun_ext (λ table. fun_ext (λ row. ap (named_text (quoted_text f.key)) (member_same f table row (meant (view m q) table f.name))))

    pairs_same : (xs : List FlatField) → map (pair_of m q db) (map bare_field xs) ≡ map (pair_of m q db) xs
    pairs_same xs = each_same (pair_of m q db) bare_field (fold_same (pair_step m q db) step_same) xs

  root_same : (cursor : Val) (root : Root) (args : List GPair) → root_wanted m q cursor root (bare_arguments args) ≡ root_wanted m q cursor root args
  root_same cursor (RowsOf table) args = ap Some (rows_same table args)
  root_same cursor (RowOf table) args = ap Some (row_same table args)
  root_same cursor (StreamOf table) args = ap Some (stream_same cursor table args)
  root_same cursor NoRoot args = refl

  by_same : (db : Database) (f : FlatField-F FlatField) (o : Option Wanted) →
      result_by m q db (record { key = f.key; name = f.name; args = bare_arguments f.args; nested = f.nested; conditions = []; fields = map bare_field f.fields }) o ≡ result_by m q db f o
  by_same db f (Some w) = ap (result_of db f.key w) (pairs_same db f.fields)
  by_same db f None = refl

  abbrev result_at : Val → Database → Word → FlatField → Outcome
  result_at cursor db word f = result_by m q db (out-FlatField f) (root_wanted m q cursor (root_of (view m q) word f) (out-FlatField f).args)

  at_same : (cursor : Val) (db : Database) (word : Word) (x : FlatField) → result_at cursor db word (bare_field x) ≡ result_at cursor db word x
  at_same cursor db word x =
      ap₂ (λ (r : Root) (f : FlatField-F FlatField). result_by m q db f (root_wanted m q cursor r f.args)) (root_of_bare (view m q) word x) (out_bare x)
      ∙ by_same db (out-FlatField x) (root_wanted m q cursor (root_of (view m q) word x) (bare_arguments (out-FlatField x).args))
      ∙ ap (result_by m q db (out-FlatField x)) (root_same cursor (root_of (view m q) word x) (out-FlatField x).args)

-- a query of this role with these values, whose selection is an essence
abbrev pub bare_query : Text → List SessionValue → List Variable → Word × List FlatField → Query
bare_query role session vars e = record { kind = sub.Live; role = role; selection = record { kind = e.0; vars = []; conditions = []; fields = e.1 }; variables = vars; session = session }

module _ (m : Metadata) (q : Query) (cursor : Val) (db : Database) where
  roots_same : (xs : List FlatField) → root_result m (bare_query q.role q.session q.variables (q.selection.kind, xs)) cursor db (map bare_field xs) ≡ root_result m q cursor db xs
  roots_same [] = refl
  roots_same (x ∷ []) = at_same m q cursor db q.selection.kind x
  roots_same (x ∷ y ∷ xs) = refl

  pub result_of_essence : result m q cursor db ≡ result m (bare_query q.role q.session q.variables (essence q.selection)) cursor db
  result_of_essence = sym (roots_same q.selection.fields)
