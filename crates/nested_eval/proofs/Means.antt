-- What a plan's selections that were read write, and what they are written of.
use Rattle.std.proofs.Common.{◌≡◌, ◌∙◌, ◌<◌, ◌+◌, ◌++◌, ℕ, Bool, true, false, ◌&&◌, IsTrue, List, [], ◌∷◌, length, map, drop, take, filter, get_or, slice_get, unwrap_or, nat_lt, ◌==◌, refl, sym, ap, subst, arith, append_assoc, append-nil, codes}
use Rattle.std.specs.List.{list_all, sum}
use Rattle.std.proofs.lemmas.Bool.Decides.{nat_tests}
use Rattle.std.proofs.lemmas.List.{drop_more, take_more}
use Rattle.std.proofs.lemmas.List.Sums.{sum_by-cons}
use Rattle.scalar_val.specs.Joined.{Text, in_braces, in_brackets, named_text}
use Rattle.scalar_val.specs.ValText.{val_text}
use Rattle.scalar_val.specs.Values.{cell}
use Rattle.data_model.specs.declared.catalog.Catalog.{Catalog}
use Rattle.data_model.specs.Rows.{Row, Rows, Database, FitAll}
use Rattle.data_model.specs.Transactions.{rows_at}
use Rattle.plan_model.specs.declared.filter.Binding.{Binding}
use Rattle.plan_model.specs.declared.plan.Field.{Field}
use Rattle.plan_model.specs.declared.plan.Field.TheVariants as field
use Rattle.plan_model.specs.declared.plan.Field.TheVariants.{rolls-Link}
use Rattle.plan_model.specs.declared.plan.Field.TheFolds.{fold-Field, fold-roll-Field, fold_out-Select}
use Rattle.plan_model.specs.declared.plan.Order.{Order}
use Rattle.plan_model.specs.declared.plan.Select.{Select}
use Rattle.plan_model.specs.FilterFits.{fits, itself}
use Rattle.plan_model.specs.Outcomes.{Pair, Outcome, answer_text, object_text, quoted_text, last_value, payload_text, wanted_text}
use Rattle.plan_model.specs.PlanFits.{has_column, shape_fits, columns_fit, FitsAt, fits_field_step, fits_select_step, select_fits}
use Rattle.plan_model.specs.Planned.{Selecting, any_row, planned, wanted, extent, extent_of, field_pair, field_step, select_step, select_text}
use Rattle.plan_model.specs.Readiness.{ready_field_step, ready_select_step, is_ready, is_ready_field}
use Rattle.plan_model.specs.Reads.{reads_field_step, reads_select_step, select_reads}
use Rattle.plan_model.specs.Taken.{Extent, First, joins, cut, arranged, trimmed, taken}
use Rattle.plan_model.specs.declared.plan.Plan.{Plan}
use Rattle.scalar_val.specs.declared.val.Val.{Val}
use Rattle.plan_model.proofs.PlannedParts.{cut_parts}
use Rattle.plan_model.specs.declared.plan.Shape.{Shape}
use Rattle.plan_model.specs.declared.plan.Shape.TheVariants as shape
use Rattle.scalar_val.specs.declared.val.Val.TheVariants as val
use Rattle.plan_model.proofs.Fitting.{both, ready_parts, rows_ready, same_length}
use Rattle.plan_model.proofs.PlanRules.{field-Column, field-Typename, field-Link}
use Rattle.plan_model.proofs.Readiness.{and_in}
use Rattle.nested_eval.specs.declared.node.Part.{Part}
use Rattle.nested_eval.specs.declared.node.Part.TheVariants as part
use Rattle.nested_eval.specs.declared.node.Part.TheFolds.{fold-roll-Part, fold_out-Node}
use Rattle.nested_eval.specs.declared.node.Node.{Node}
use Rattle.nested_eval.specs.Nodes.{Telling, texts_of, object_of, part_step, node_step, part_text, node_text, objects_of, part_ready_step, node_ready_step, part_ready, node_ready, parts_ready, PartMeans, PartsMean, NodeMeans}
use Rattle.nested_eval.specs.Plans.{field_fits, field_reads, head_text}
use Rattle.nested_eval.specs.Sources.{Sourced, source_of, shown_below, taken_below, rows_fit}
use Rattle.nested_eval.proofs.Shown.{all_in}

-- ---- a selection that was read, opened

pub node_opened : (b : Binding) (n : Node) (parent : Row)
    → node_text b n parent ≡ answer_text (extent b n.source.select) (objects_of b n.parts (taken_below b n.source parent))
node_opened b n parent = ap (λ (m : Telling). m parent) (fold_out-Node Telling Telling (part_step b) (node_step b) n)

pub ready_opened : (b : Binding) (n : Node) → node_ready b n ≡ (rows_fit b n.source && parts_ready b n.parts)
ready_opened b n = fold_out-Node Bool Bool (part_ready_step b) (node_ready_step b) n

pub rows_of_ready : (b : Binding) (n : Node) → IsTrue (node_ready b n) → IsTrue (rows_fit b n.source)
rows_of_ready b n h = (both (rows_fit b n.source) (parts_ready b n.parts) (subst IsTrue (ready_opened b n) h)).0

pub parts_of_ready : (b : Binding) (n : Node) → IsTrue (node_ready b n) → IsTrue (parts_ready b n.parts)
parts_of_ready b n h = (both (rows_fit b n.source) (parts_ready b n.parts) (subst IsTrue (ready_opened b n) h)).1

-- ---- what it writes is what the selection gives

map_same : {X Y : Type 0} (f g : X → Y) → ((x : X) → f x ≡ g x) → (xs : List X) → map f xs ≡ map g xs
map_same f g same [] = refl
map_same f g same (x ∷ xs) = ap (λ y. y ∷ map f xs) (same x) ∙ ap (λ ys. g x ∷ ys) (map_same f g same xs)

module _ (names : List Text) (catalog : Catalog) (db : Database) where
  objects_same : (b : Binding) (fs : List Field) (table : ℕ) (ps : List Part) → PartsMean names catalog db fs table ps
      → (rows : Rows) → objects_of b ps rows ≡ map (object_text (map (field_pair names b db) fs) table) rows
  objects_same b fs table ps means rows =
      map_same (object_of (map (part_text b) ps)) (object_text (map (field_pair names b db) fs) table)
      (λ row. ap in_braces (means.texts b row)) rows

  pub node_tells : (s : Select) (from to : List ℕ) (n : Node) → NodeMeans names catalog db s from to n
      → (b : Binding) (parent : Row) → node_text b n parent ≡ select_text names b db s (joins from to parent)
  node_tells s from to n means b parent =
      let TextOf : Sourced → Text = λ source. answer_text (extent b source.select) (objects_of b n.parts (taken_below b source parent)) in
      let rows = taken_below b (source_of db s from to) parent in
      let opened : select_text names b db s (joins from to parent)
      ≡ answer_text (extent b s) (map (object_text (map (field_pair names b db) s.fields) s.table) rows) =
      ap (λ (m : Selecting names b db). m (joins from to parent))
      (fold_out-Select Pair (Selecting names b db) (field_step names b db) (select_step names b db) s) in
      node_opened b n parent ∙ ap TextOf means.source
      ∙ ap (answer_text (extent b s)) (objects_same b s.fields s.table n.parts means.parts rows) ∙ sym opened

  pub node_is_ready : (s : Select) (from to : List ℕ) (n : Node) → FitAll catalog.tables db
      → NodeMeans names catalog db s from to n → (b : Binding) → IsTrue (is_ready catalog b s) → IsTrue (node_ready b n)
  node_is_ready s from to n fit means b ready =
      let rows : IsTrue (rows_fit b n.source) =
      subst (λ source. IsTrue (rows_fit b source)) (sym means.source)
      (all_in (λ row. fits (length row) b s.filter) (rows_at db s.table) (rows_ready catalog db b s fit ready)) in
      subst IsTrue (sym (ready_opened b n))
      (and_in (rows_fit b n.source) (parts_ready b n.parts) rows (means.parts.ready b (ready_parts catalog b s ready).fields))

  -- ---- each part writes its field

  coloned : (key k text : Text) → k ≡ quoted_text key ++ 58 ∷ [] → k ++ text ≡ named_text (quoted_text key) text
  coloned key k text is = ap (λ x. x ++ text) is ∙ append_assoc (quoted_text key) (58 ∷ []) text

  pub column_means : (key : Text) (column table : ℕ) (k : Text) → k ≡ quoted_text key ++ 58 ∷ []
      → PartMeans names catalog db (field.Column key column) table (part.Column k column)
  column_means key column table k is = record {
    text = λ b row. ap (λ (p : Part). part_text b p row) (sym (part.rolls-Column k column))
        ∙ ap (λ (m : Telling). m row) (fold-roll-Part Telling Telling (part_step b) (node_step b) _)
        ∙ coloned key k (val_text (cell row column)) is
        ∙ sym (field-Column (field_step names b db) (select_step names b db) key column table row);
    ready = λ b h. ap (part_ready b) (sym (part.rolls-Column k column))
        ∙ fold-roll-Part Bool Bool (part_ready_step b) (node_ready_step b) _;
  }

  pub typename_means : (key : Text) (table : ℕ) (t : Text)
      → t ≡ named_text (quoted_text key) (quoted_text (unwrap_or (slice_get names table) []))
      → PartMeans names catalog db (field.Typename key) table (part.Typename t)
  typename_means key table t is = record {
    text = λ b row. ap (λ (p : Part). part_text b p row) (sym (part.rolls-Typename t))
        ∙ ap (λ (m : Telling). m row) (fold-roll-Part Telling Telling (part_step b) (node_step b) _)
        ∙ is ∙ sym (field-Typename (field_step names b db) (select_step names b db) key table row);
    ready = λ b h. ap (part_ready b) (sym (part.rolls-Typename t))
        ∙ fold-roll-Part Bool Bool (part_ready_step b) (node_ready_step b) _;
  }

  pub link_means : (key : Text) (from to : List ℕ) (s : Select) (table : ℕ) (k : Text) (n : Node)
      → FitAll catalog.tables db → k ≡ quoted_text key ++ 58 ∷ [] → NodeMeans names catalog db s from to n
      → PartMeans names catalog db (field.Link key from to s) table (part.Link k n)
  link_means key from to s table k n fit is means = record {
    text = λ b row. ap (λ (p : Part). part_text b p row) (sym (part.rolls-Link k n))
        ∙ ap (λ (m : Telling). m row) (fold-roll-Part Telling Telling (part_step b) (node_step b) _)
        ∙ ap (λ x. k ++ x) (node_tells s from to n means b row)
        ∙ coloned key k (select_text names b db s (joins from to row)) is
        ∙ sym (field-Link (field_step names b db) (select_step names b db) key from to s table row);
    ready = λ b h. ap (part_ready b) (sym (part.rolls-Link k n))
        ∙ fold-roll-Part Bool Bool (part_ready_step b) (node_ready_step b) _
        ∙ node_is_ready s from to n fit means b (link_ready b h);
  }
    where
      link_ready : (b : Binding) → IsTrue (is_ready_field catalog b (field.Link key from to s)) → IsTrue (is_ready catalog b s)
      link_ready b h =
          sym (fold-roll-Field Bool Bool (ready_field_step catalog b) (ready_select_step catalog b) _)
          ∙ ap (is_ready_field catalog b) (rolls-Link key from to s) ∙ h

  -- ---- one field more

  all_split : {X : Type 0} (p : X → Bool) (xs : List X) (x : X) → IsTrue (list_all itself (map p (xs ++ x ∷ [])))
      → IsTrue (list_all itself (map p xs)) × IsTrue (p x)
  all_split p [] x h = (refl, (both (p x) true h).0)
  all_split p (y ∷ ys) x h =
      let parts = both (p y) (list_all itself (map p (ys ++ x ∷ []))) h in
      let rest = all_split p ys x parts.1 in
      (and_in (p y) (list_all itself (map p ys)) parts.0 rest.0, rest.1)

  all_joined : {X : Type 0} (p : X → Bool) (xs : List X) (x : X) → IsTrue (list_all itself (map p xs)) → IsTrue (p x)
      → IsTrue (list_all itself (map p (xs ++ x ∷ [])))
  all_joined p [] x h k = and_in (p x) true k refl
  all_joined p (y ∷ ys) x h k =
      let parts = both (p y) (list_all itself (map p ys)) h in
      and_in (p y) (list_all itself (map p (ys ++ x ∷ []))) parts.0 (all_joined p ys x parts.1 k)

  pub no_parts : (table : ℕ) → PartsMean names catalog db [] table []
  no_parts table = record { texts = λ b row. refl; ready = λ b h. refl }

  texts_more : {X : Type 0} (t : X → Telling) (ps : List X) (p : X) (row : Row)
      → texts_of (map t (ps ++ p ∷ [])) row ≡ texts_of (map t ps) row ++ t p row ∷ []
  texts_more t [] p row = refl
  texts_more t (q ∷ qs) p row = ap (λ ts. t q row ∷ ts) (texts_more t qs p row)

  pairs_more : {X : Type 0} (t : X → Pair) (ps : List X) (p : X) (table : ℕ) (row : Row)
      → map (λ (f : Pair). f table row) (map t (ps ++ p ∷ [])) ≡ map (λ (f : Pair). f table row) (map t ps) ++ t p table row ∷ []
  pairs_more t [] p table row = refl
  pairs_more t (q ∷ qs) p table row = ap (λ ts. t q table row ∷ ts) (pairs_more t qs p table row)

  pub part_more : (fs : List Field) (f : Field) (table : ℕ) (ps : List Part) (p : Part) → PartsMean names catalog db fs table ps
      → PartMeans names catalog db f table p → PartsMean names catalog db (fs ++ f ∷ []) table (ps ++ p ∷ [])
  part_more fs f table ps p some one = record {
    texts = λ b row. texts_more (part_text b) ps p row
        ∙ ap (λ ts. ts ++ part_text b p row ∷ []) (some.texts b row)
        ∙ ap (λ t. map (λ (g : Pair). g table row) (map (field_pair names b db) fs) ++ t ∷ []) (one.text b row)
        ∙ sym (pairs_more (field_pair names b db) fs f table row);
    ready = λ b h. let parts = all_split (is_ready_field catalog b) fs f h in
        all_joined (part_ready b) ps p (some.ready b parts.0) (one.ready b parts.1);
  }

  pub next_part : (fields : List Field) (i : ℕ) (f : Field) (table : ℕ) (ps qs : List Part) (p : Part) → i < length fields
      → f ≡ get_or fields i f → qs ≡ ps ++ p ∷ [] → PartsMean names catalog db (take i fields) table ps
      → PartMeans names catalog db f table p → PartsMean names catalog db (take (i + 1) fields) table qs
  next_part fields i f table ps qs p within is more some one =
      subst (λ fs. PartsMean names catalog db fs table qs)
      (ap (λ (g : Field). take i fields ++ g ∷ []) is ∙ sym (take_more fields i f within))
      (subst (λ rs. PartsMean names catalog db (take i fields ++ f ∷ []) table rs) (sym more)
      (part_more (take i fields) f table ps p some one))

-- ---- how many rows are read, and what fits

pub all_after : {X Y : Type 0} (q : Y → Bool) (p : X → Y) (xs : List X) (i : ℕ) (x : X) → i < length xs
    → IsTrue (list_all q (map p (drop i xs))) → IsTrue (list_all q (map p (drop (i + 1) xs)))
all_after q p xs i x within h =
    (both (q (p (get_or xs i x))) (list_all q (map p (drop (i + 1) xs)))
    (subst (λ ys. IsTrue (list_all q (map p ys))) (drop_more xs i x within) h)).1

pub all_here : {X Y : Type 0} (q : Y → Bool) (p : X → Y) (xs : List X) (i : ℕ) (x : X) → i < length xs
    → x ≡ get_or xs i x → IsTrue (list_all q (map p (drop i xs))) → IsTrue (q (p x))
all_here q p xs i x within is h =
    subst (λ y. IsTrue (q (p y))) (sym is)
    (both (q (p (get_or xs i x))) (list_all q (map p (drop (i + 1) xs)))
    (subst (λ ys. IsTrue (list_all q (map p ys))) (drop_more xs i x within) h)).0

pub sum_more : {X : Type 0} (f : X → ℕ) (xs : List X) (i : ℕ) (x : X) → i < length xs → x ≡ get_or xs i x
    → sum (map f (drop i xs)) ≡ f x + sum (map f (drop (i + 1) xs))
sum_more f xs i x within is =
    ap (λ ys. sum (map f ys)) (drop_more xs i x within)
    ∙ sum_by-cons (λ (n : ℕ). n) (f (get_or xs i x)) (map f (drop (i + 1) xs))
    ∙ ap (λ y. f y + sum (map f (drop (i + 1) xs))) (sym is)

under : (n m : ℕ) → IsTrue (nat_lt n m) → n < m
under n m h = grind (arith, nat_tests)

-- what a selection that fits has
pub record SelectParts (catalog : Catalog) (db : Database) (s : Select) : Type 0 where
  pub table : s.table < length db
  pub fields : IsTrue (list_all (λ (f : ℕ → Bool). f s.table) (map (field_fits catalog) s.fields))

pub select_parts : (catalog : Catalog) (db : Database) (s : Select) (is_root : Bool) (to : List ℕ)
    → FitAll catalog.tables db → IsTrue (select_fits catalog s is_root to) → SelectParts catalog db s
select_parts catalog db s is_root to fit h =
    let table : Bool = nat_lt s.table (length catalog.tables) in
    let joined : Bool = list_all (has_column catalog s.table) to in
    let shape : Bool = shape_fits catalog is_root s.table s.shape in
    let columns : Bool = columns_fit catalog s.table s.filter in
    let orders : Bool = list_all (λ (o : Order). has_column catalog s.table o.column) s.order in
    let fields : Bool = list_all (λ (f : ℕ → Bool). f s.table) (map (field_fits catalog) s.fields) in
    let opened : select_fits catalog s is_root to ≡ (((((table && joined) && shape) && columns) && orders) && fields) =
    ap (λ (m : FitsAt catalog). m is_root to)
    (fold_out-Select (ℕ → Bool) (FitsAt catalog) (fits_field_step catalog) (fits_select_step catalog) s) in
    let h5 = both ((((table && joined) && shape) && columns) && orders) fields (subst IsTrue opened h) in
    let h4 = both (((table && joined) && shape) && columns) orders h5.0 in
    let h3 = both ((table && joined) && shape) columns h4.0 in
    let h2 = both (table && joined) shape h3.0 in
    let h1 = both table joined h2.0 in
    record {
      table = subst (λ n. s.table < n) (same_length catalog.tables db fit) (under s.table (length catalog.tables) h1.0);
      fields = h5.1;
    }

pub select_reads_is : (db : Database) (s : Select)
    → select_reads db s ≡ length (rows_at db s.table) + sum (map (field_reads db) s.fields)
select_reads_is db s = fold_out-Select ℕ ℕ (reads_field_step db) (reads_select_step db) s

-- the related selection of a link that fits
pub link_fits : (catalog : Catalog) (key : Text) (from to : List ℕ) (s : Select) (table : ℕ)
    → IsTrue (field_fits catalog (field.Link key from to s) table) → IsTrue (select_fits catalog s false to)
link_fits catalog key from to s table h =
    let here : Bool = (length from == length to) && list_all (has_column catalog table) from in
    let opened : field_fits catalog (field.Link key from to s) table ≡ (here && select_fits catalog s false to) =
    ap (λ (f : Field). field_fits catalog f table) (sym (rolls-Link key from to s))
    ∙ ap (λ (m : ℕ → Bool). m table)
    (fold-roll-Field (ℕ → Bool) (FitsAt catalog) (fits_field_step catalog) (fits_select_step catalog) _) in
    (both here (select_fits catalog s false to) (subst IsTrue opened h)).1

pub link_reads : (db : Database) (key : Text) (from to : List ℕ) (s : Select)
    → field_reads db (field.Link key from to s) ≡ select_reads db s
link_reads db key from to s =
    ap (field_reads db) (sym (rolls-Link key from to s))
    ∙ fold-roll-Field ℕ ℕ (reads_field_step db) (reads_select_step db) _

-- ---- what rows write that a selection takes

module _ (b : Binding) (n : Node) (parent : Row) where
  abbrev found : Rows
  found = filter (shown_below b n.source parent) n.source.rows

  abbrev extents : Shape → Extent
  extents s = extent_of b s n.source.select.order n.source.select.limit n.source.select.offset

  one_extent : n.source.select.shape ≡ shape.One → extent b n.source.select ≡ First
  one_extent is = ap extents is

  pub one_taken : (rows : Rows) → n.source.select.shape ≡ shape.One → rows ≡ take 1 found → rows ≡ taken_below b n.source parent
  one_taken rows is same = same ∙ ap (λ e. cut e n.source.select.cap found) (sym (one_extent is))

  pub one_text : (rows : Rows) → n.source.select.shape ≡ shape.One → rows ≡ take 1 found
      → answer_text First (objects_of b n.parts rows) ≡ node_text b n parent
  one_text rows is same =
      ap (λ e. answer_text e (objects_of b n.parts rows)) (sym (one_extent is))
      ∙ ap (λ rs. answer_text (extent b n.source.select) (objects_of b n.parts rs)) (one_taken rows is same)
      ∙ sym (node_opened b n parent)

  pub one_last : (rows : Rows) → n.source.select.shape ≡ shape.One
      → val.Null ≡ last_value (extent b n.source.select) (taken_below b n.source parent)
  one_last rows is = ap (λ e. last_value e (taken_below b n.source parent)) (sym (one_extent is))

  in_list : (s : Shape) (ts : List Text) → (s ≡ shape.One → ⊥) → in_brackets ts ≡ answer_text (extents s) ts
  in_list shape.List ts h = refl
  in_list shape.One ts h = absurd (h refl)
  in_list (shape.Stream column descending batch) ts h = refl

  pub list_taken : (rows arranged_rows : Rows) → rows ≡ trimmed (extent b n.source.select) n.source.select.cap arranged_rows
      → arranged_rows ≡ arranged (extent b n.source.select) found → rows ≡ taken_below b n.source parent
  list_taken rows arranged_rows cut_is same =
      cut_is ∙ ap (trimmed (extent b n.source.select) n.source.select.cap) same
      ∙ cut_parts (extent b n.source.select) n.source.select.cap found

  pub list_text : (rows : Rows) → (n.source.select.shape ≡ shape.One → ⊥) → rows ≡ taken_below b n.source parent
      → in_brackets (objects_of b n.parts rows) ≡ node_text b n parent
  list_text rows other same =
      in_list n.source.select.shape (objects_of b n.parts rows) other
      ∙ ap (λ rs. answer_text (extent b n.source.select) (objects_of b n.parts rs)) same ∙ sym (node_opened b n parent)

-- ---- the outcome

braced : (outer key text : Text) → ((123 ∷ outer ++ 58 ∷ 123 ∷ key ++ 58 ∷ []) ++ text) ++ 125 ∷ 125 ∷ []
    ≡ in_braces (named_text outer (in_braces (named_text key text ∷ [])) ∷ [])
braced outer key text =
    let w : Text = key ++ (58 ∷ text) in
    let e : Text = 125 ∷ [] in
    let ee : Text = 125 ∷ 125 ∷ [] in
    let left : ((((outer ++ (58 ∷ 123 ∷ key)) ++ (58 ∷ [])) ++ text) ++ ee) ≡ (outer ++ (58 ∷ 123 ∷ (w ++ ee))) =
    ap (λ x. (x ++ text) ++ ee) (append_assoc outer (58 ∷ 123 ∷ key) (58 ∷ []))
    ∙ ap (λ x. x ++ ee) (append_assoc outer (58 ∷ 123 ∷ (key ++ (58 ∷ []))) text
    ∙ ap (λ x. outer ++ (58 ∷ 123 ∷ x)) (append_assoc key (58 ∷ []) text))
    ∙ append_assoc outer (58 ∷ 123 ∷ w) ee in
    let right : (((outer ++ (58 ∷ 123 ∷ ((w ++ []) ++ e))) ++ []) ++ e) ≡ (outer ++ (58 ∷ 123 ∷ (w ++ ee))) =
    ap (λ x. x ++ e) (append-nil (outer ++ (58 ∷ 123 ∷ ((w ++ []) ++ e)))
    ∙ ap (λ x. outer ++ (58 ∷ 123 ∷ (x ++ e))) (append-nil w))
    ∙ append_assoc outer (58 ∷ 123 ∷ (w ++ e)) e ∙ ap (λ x. outer ++ (58 ∷ 123 ∷ x)) (append_assoc w e e) in
    ap (λ x. 123 ∷ x) (left ∙ sym right)

abbrev outcome_of : Text → ℕ → Val → Outcome
outcome_of text rows last = record { text = text; rows = rows; last = last }

-- the payload of a plan
abbrev whole : Plan → Binding → Database → Text
whole p b db = payload_text p.key (wanted_text db (wanted b any_row p.root) (map (field_pair p.names b db) p.root.fields))

pub outcome_told : (p : Plan) (catalog : Catalog) (db : Database) (b : Binding) (root : Node) (text : Text) (rows : ℕ) (last : Val)
    → NodeMeans p.names catalog db p.root [] [] root → text ≡ (head_text p.key ++ node_text b root []) ++ 125 ∷ 125 ∷ []
    → rows ≡ length (taken_below b root.source [])
    → last ≡ last_value (extent b root.source.select) (taken_below b root.source [])
    → outcome_of text rows last ≡ planned p b db
outcome_told p catalog db b root text rows last means told counted ends =
    let opened : node_text b root [] ≡ wanted_text db (wanted b any_row p.root) (map (field_pair p.names b db) p.root.fields) =
    node_tells p.names catalog db p.root [] [] root means b []
    ∙ ap (λ (m : Selecting p.names b db). m any_row)
    (fold_out-Select Pair (Selecting p.names b db) (field_step p.names b db) (select_step p.names b db) p.root) in
    let first : text ≡ payload_text p.key (wanted_text db (wanted b any_row p.root) (map (field_pair p.names b db) p.root.fields)) =
    told ∙ braced (quoted_text (codes "data")) (quoted_text p.key) (node_text b root []) ∙ ap (payload_text p.key) opened in
    let second : rows ≡ length (taken db (wanted b any_row p.root)) =
    counted ∙ ap (λ (s : Sourced). length (taken_below b s [])) means.source in
    let third : last ≡ last_value (extent b p.root) (taken db (wanted b any_row p.root)) =
    ends ∙ ap (λ (s : Sourced). last_value (extent b s.select) (taken_below b s [])) means.source in
    ap (λ t. outcome_of t rows last) first ∙ ap (λ r. outcome_of (whole p b db) r last) second
    ∙ ap (λ l. outcome_of (whole p b db) (length (taken db (wanted b any_row p.root))) l) third
