-- Where a key stands among rows that ascend.
use Rattle.std.proofs.Common.{◌≡◌, ℕ, ◌+◌, ◌<◌, ◌≤◌, Bool, true, false, not, ◌&&◌, ◌||◌, List, [], ◌∷◌, ◌++◌, length, take, drop, get_or, map, refl, sym, ap, ◌∙◌, arith, length-drop, length-take, ◌⊎◌, inl, inr, zero, suc, append_assoc, append-nil, take-append-drop, add-one, if◌then◌else◌}
use Rattle.std.specs.Cmp.{IsTotalOrder}
use Rattle.std.specs.Ordering.{is_lt, is_eq, is_gt, ordering_reverse}
use Rattle.std.specs.declared.cmp.Ordering.{Ordering}
use Rattle.std.specs.declared.cmp.Ordering.TheVariants.{Less, Equal, Greater}
use Rattle.std.specs.List.{All, AllByRecursion, filter, list_any, insert, remove, slice_set}
use Rattle.std.proofs.lemmas.Cmp.{lists_total}
use Rattle.std.proofs.lemmas.List.{drop_more, get_or-drop, get_or-take, length-take-le, set_split, map-append}
use Rattle.std.proofs.lemmas.List.Elements.{All-append, All-cons, All-weaker, filter-append}
use Rattle.std.proofs.lemmas.List.Folds.{list_any-append}
use Rattle.scalar_val.proofs.OrderLaws.{val_cmp-total}
use Rattle.scalar_val.specs.declared.val.Val.{Val}
use Rattle.data_model.specs.declared.catalog.TableDef.{TableDef}
use Rattle.data_model.specs.declared.transaction.SetCell.{SetCell}
use Rattle.data_model.specs.Rows.{Row, Rows, key_of, key_cmp, has_key, is_below, is_above, inserted, updated, deleted, set_cells, Ascends}
use Rattle.data_model.specs.Places.{IsFree, IsHeld}
use Rattle.data_model.proofs.Lists.{pairwise_at, filter_all, filter_none, map_same, any_none}

pub key_total : IsTotalOrder key_cmp
key_total = lists_total val_cmp-total

less_only : (o : Ordering) → is_lt o ≡ true → (is_eq o ≡ false) × (is_gt o ≡ false)
less_only Less h = (refl, refl)
less_only Equal h = cc
less_only Greater h = cc

more_only : (o : Ordering) → is_gt o ≡ true → (is_lt o ≡ false) × (is_eq o ≡ false)
more_only Less h = cc
more_only Equal h = cc
more_only Greater h = (refl, refl)

pub equal_only : (o : Ordering) → is_eq o ≡ true → (is_lt o ≡ false) × (is_gt o ≡ false)
equal_only Less h = cc
equal_only Equal h = (refl, refl)
equal_only Greater h = cc

pub no_key_below : (t : TableDef) (key : List Val) (rows : Rows) → All (λ row. is_below t key row ≡ true) rows → All (λ row. has_key t key row ≡ false) rows
no_key_below t key rows h = λ k d in'. (less_only _ (h k d in')).0

pub no_key_above : (t : TableDef) (key : List Val) (rows : Rows) → All (λ row. is_above t key row ≡ true) rows → All (λ row. has_key t key row ≡ false) rows
no_key_above t key rows h = λ k d in'. (more_only _ (h k d in')).1

-- a whole list by its parts
parts : {X : Type 0} {Y : Type 0} (f : List X → Y) (rows : List X) (at : ℕ) → f rows ≡ f (take at rows ++ drop at rows)
parts f rows at = ap f (sym (take-append-drop at rows))

pub free_nowhere : (t : TableDef) (key : List Val) (rows : Rows) (at : ℕ) → IsFree t key rows at → list_any (has_key t key) rows ≡ false
free_nowhere t key rows at h =
    parts (list_any (has_key t key)) rows at
    ∙ any_none (has_key t key) (take at rows ++ drop at rows) (All-append (λ row. has_key t key row ≡ false) (take at rows) (drop at rows) (no_key_below t key _ h.below) (no_key_above t key _ h.above))

not_above : (t : TableDef) (key : List Val) (rows : Rows) → All (λ row. is_below t key row ≡ true) rows → All (λ row. is_above t key row ≡ false) rows
not_above t key rows h = λ k d in'. (less_only _ (h k d in')).1

not_below : (t : TableDef) (key : List Val) (rows : Rows) → All (λ row. is_above t key row ≡ true) rows → All (λ row. is_below t key row ≡ false) rows
not_below t key rows h = λ k d in'. (more_only _ (h k d in')).0

pub inserted_at : (t : TableDef) (row : Row) (rows : Rows) (at : ℕ) → IsFree t (key_of t row) rows at → inserted t row rows ≡ insert rows at row
inserted_at t row rows at h =
    let key = key_of t row in
    let before : filter (is_below t key) rows ≡ take at rows =
    parts (filter (is_below t key)) rows at ∙ filter-append (is_below t key) (take at rows) (drop at rows)
    ∙ rw (filter_all (is_below t key) (take at rows) h.below, filter_none (is_below t key) (drop at rows) (not_below t key _ h.above)) (append-nil (take at rows)) in
    let after : filter (is_above t key) rows ≡ drop at rows =
    parts (filter (is_above t key)) rows at ∙ filter-append (is_above t key) (take at rows) (drop at rows)
    ∙ rw (filter_none (is_above t key) (take at rows) (not_above t key _ h.below), filter_all (is_above t key) (drop at rows) h.above) refl in
    rw (before, after) refl

or_nothing : (b : Bool) → (b || false) ≡ b
or_nothing true = refl
or_nothing false = refl

pub held_parts : (rows : Rows) (at : ℕ) (d : Row) → at < length rows → rows ≡ take at rows ++ get_or rows at d ∷ drop (at + 1) rows
held_parts rows at d within = sym (take-append-drop at rows) ∙ ap (λ ys. take at rows ++ ys) (drop_more rows at d within)

-- a test of the rows with a key is the test of the one row
pub any_held : (t : TableDef) (key : List Val) (rows : Rows) (at : ℕ) (d : Row) (p : Row → Bool) → IsHeld t key rows at → list_any (λ row. has_key t key row && p row) rows ≡ p (get_or rows at d)
any_held t key rows at d p h =
    let test = λ (row : Row). has_key t key row && p row in
    let before : list_any test (take at rows) ≡ false = any_none test (take at rows) (λ k e in'. rw (no_key_below t key _ h.below k e in') refl) in
    let after : list_any test (drop (at + 1) rows) ≡ false = any_none test (drop (at + 1) rows) (λ k e in'. rw (no_key_above t key _ h.above k e in') refl) in
    ap (list_any test) (held_parts rows at d h.within)
    ∙ list_any-append test (take at rows) (get_or rows at d ∷ drop (at + 1) rows)
    ∙ rw (before, after, h.here d) (or_nothing (p (get_or rows at d)))

pub has_held : (t : TableDef) (key : List Val) (rows : Rows) (at : ℕ) (d : Row) → IsHeld t key rows at → list_any (has_key t key) rows ≡ true
has_held t key rows at d h =
    ap (list_any (has_key t key)) (held_parts rows at d h.within)
    ∙ list_any-append (has_key t key) (take at rows) (get_or rows at d ∷ drop (at + 1) rows)
    ∙ rw (any_none (has_key t key) (take at rows) (no_key_below t key _ h.below), h.here d) refl

pub deleted_at : (t : TableDef) (key : List Val) (rows : Rows) (at : ℕ) (d : Row) → IsHeld t key rows at → deleted t key rows ≡ remove rows at
deleted_at t key rows at d h =
    let keeps = λ (row : Row). not (has_key t key row) in
    let before : filter keeps (take at rows) ≡ take at rows = filter_all keeps (take at rows) (λ k e in'. rw (no_key_below t key _ h.below k e in') refl) in
    let after : filter keeps (drop (at + 1) rows) ≡ drop (at + 1) rows = filter_all keeps (drop (at + 1) rows) (λ k e in'. rw (no_key_above t key _ h.above k e in') refl) in
    ap (filter keeps) (held_parts rows at d h.within)
    ∙ filter-append keeps (take at rows) (get_or rows at d ∷ drop (at + 1) rows)
    ∙ rw (before, h.here d, after) (rw add-one refl)

pub updated_at : (t : TableDef) (key : List Val) (cells : List SetCell) (rows : Rows) (at : ℕ) (d : Row) → IsHeld t key rows at → updated t key cells rows ≡ slice_set rows at (set_cells cells (get_or rows at d))
updated_at t key cells rows at d h =
    let change = λ (row : Row). if has_key t key row then set_cells cells row else row in
    let before : map change (take at rows) ≡ take at rows = map_same change (take at rows) (λ k e in'. rw (no_key_below t key _ h.below k e in') refl) in
    let after : map change (drop (at + 1) rows) ≡ drop (at + 1) rows = map_same change (drop (at + 1) rows) (λ k e in'. rw (no_key_above t key _ h.above k e in') refl) in
    ap (map change) (held_parts rows at d h.within)
    ∙ map-append change (take at rows) (get_or rows at d ∷ drop (at + 1) rows)
    ∙ rw (before, h.here d, after) (rw add-one (sym (set_split rows at _ h.within)))

pub lt_is : (o : Ordering) → is_lt o ≡ true → o ≡ Less
lt_is Less h = refl
lt_is Equal h = cc
lt_is Greater h = cc

pub gt_is : (o : Ordering) → is_gt o ≡ true → o ≡ Greater
gt_is Less h = cc
gt_is Equal h = cc
gt_is Greater h = refl

pub eq_is : (o : Ordering) → is_eq o ≡ true → o ≡ Equal
eq_is Less h = cc
eq_is Equal h = refl
eq_is Greater h = cc

pub is_greater : (x y : List Val) → key_cmp x y ≡ Less → key_cmp y x ≡ Greater
is_greater x y h = key_total.antisymm y x ∙ ap ordering_reverse h

pub is_less : (x y : List Val) → key_cmp x y ≡ Greater → key_cmp y x ≡ Less
is_less x y h = key_total.antisymm y x ∙ ap ordering_reverse h

above_by : (a b key : List Val) → key_cmp a b ≡ Less → (o : Ordering) → key_cmp a key ≡ o → is_lt o ≡ false → is_gt (key_cmp b key) ≡ true
above_by a b key less Less e not_less = cc
above_by a b key less Equal e not_less = ap is_gt (is_greater key b (sym (key_total.congr a key b e) ∙ less))
above_by a b key less Greater e not_less = ap is_gt (is_greater key b (key_total.trans key a b (is_less a key e) less))

-- what comes after what is not below a key is above it
above_from : (a b key : List Val) → key_cmp a b ≡ Less → is_lt (key_cmp a key) ≡ false → is_gt (key_cmp b key) ≡ true
above_from a b key less not_less = above_by a b key less (key_cmp a key) refl not_less

-- the rows after one that is not below a key
pub above_after : (t : TableDef) (key : List Val) (rows : Rows) (at : ℕ) → Ascends t rows → ((d : Row) → is_below t key (get_or rows at d) ≡ false) → All (λ row. is_above t key row ≡ true) (drop (at + 1) rows)
above_after t key rows at up here k d within =
    let far : at + 1 + k < length rows = omega (arith, length-drop (at + 1) rows) in
    let less = pairwise_at (λ a b. key_cmp (key_of t a) (key_of t b) ≡ Less) rows at (at + 1 + k) d up (omega arith) far in
    rw get_or-drop (above_from (key_of t (get_or rows at d)) (key_of t (get_or rows (at + 1 + k) d)) key less (here d))

pub free_at_end : (t : TableDef) (key : List Val) (rows : Rows) (at : ℕ) → at ≡ length rows → All (λ row. is_below t key row ≡ true) (take at rows) → IsFree t key rows at
free_at_end t key rows at e below = record { within = omega arith; below = below; above = λ k d in'. absurd (omega (arith, length-drop at rows)) }

above_from_at : (t : TableDef) (key : List Val) (rows : Rows) (at : ℕ) → Ascends t rows → ((d : Row) → is_above t key (get_or rows at d) ≡ true) → All (λ row. is_above t key row ≡ true) (drop at rows)
above_from_at t key rows at up here zero d in' = let e : at + 0 ≡ at = omega arith in rw (get_or-drop, e) (here d)
above_from_at t key rows at up here (suc k) d in' =
    let rest = above_after t key rows at up (λ e. (more_only _ (here e)).0) k d (omega (arith, length-drop at rows, length-drop (at + 1) rows)) in
    let e : at + suc k ≡ at + 1 + k = omega arith in
    let found : is_above t key (get_or rows (at + 1 + k) d) ≡ true = rw get_or-drop at rest in
    rw (get_or-drop, e) found

pub free_at : (t : TableDef) (key : List Val) (rows : Rows) (at : ℕ) → Ascends t rows → at < length rows → All (λ row. is_below t key row ≡ true) (take at rows) → ((d : Row) → is_above t key (get_or rows at d) ≡ true) → IsFree t key rows at
free_at t key rows at up within below here = record {
  within = omega arith;
  below = below;
  above = λ k d in'. above_from_at t key rows at up here k d in';
}

pub held_at : (t : TableDef) (key : List Val) (rows : Rows) (at : ℕ) → Ascends t rows → at < length rows → All (λ row. is_below t key row ≡ true) (take at rows) → ((d : Row) → has_key t key (get_or rows at d) ≡ true) → IsHeld t key rows at
held_at t key rows at up within below here = record {
  within = within;
  below = below;
  here = here;
  above = above_after t key rows at up (λ d. (equal_only _ (here d)).0);
}

-- a search among rows that ascend, at a row in the middle
order : (a b : ℕ) → a ≤ b → (a < b) ⊎ (a ≡ b)
order a b h = grind arith

below_where : (t : TableDef) (key : List Val) (rows : Rows) (middle : ℕ) → Ascends t rows → middle < length rows → ((d : Row) → key_cmp (key_of t (get_or rows middle d)) key ≡ Less) → (k : ℕ) (d : Row) → (k < middle) ⊎ (k ≡ middle) → is_below t key (get_or rows k d) ≡ true
below_where t key rows middle up within here k d (inl less) =
    let up_to = pairwise_at (λ a b. key_cmp (key_of t a) (key_of t b) ≡ Less) rows k middle d up less within in
    ap is_lt (key_total.trans (key_of t (get_or rows k d)) (key_of t (get_or rows middle d)) key up_to (here d))
below_where t key rows middle up within here k d (inr same) = rw same (ap is_lt (here d))

not_below_where : (t : TableDef) (key : List Val) (rows : Rows) (middle : ℕ) → Ascends t rows → ((d : Row) → is_below t key (get_or rows middle d) ≡ false) → (k : ℕ) (d : Row) → k < length rows → (middle < k) ⊎ (middle ≡ k) → is_below t key (get_or rows k d) ≡ false
not_below_where t key rows middle up here k d within (inl less) =
    let up_to = pairwise_at (λ a b. key_cmp (key_of t a) (key_of t b) ≡ Less) rows middle k d up less within in
    (more_only _ (above_from (key_of t (get_or rows middle d)) (key_of t (get_or rows k d)) key up_to (here d))).0
not_below_where t key rows middle up here k d within (inr same) = rw (← same) (here d)

pub below_upto : (t : TableDef) (key : List Val) (rows : Rows) (middle : ℕ) → Ascends t rows → middle < length rows → ((d : Row) → key_cmp (key_of t (get_or rows middle d)) key ≡ Less) → All (λ row. is_below t key row ≡ true) (take (middle + 1) rows)
below_upto t key rows middle up within here k d in' =
    let short : k < middle + 1 = omega (arith, length-take (middle + 1) rows) in
    rw get_or-take (below_where t key rows middle up within here k d (order k middle (omega arith)))

pub not_below_from : (t : TableDef) (key : List Val) (rows : Rows) (middle : ℕ) → Ascends t rows → ((d : Row) → is_below t key (get_or rows middle d) ≡ false) → (k : ℕ) (d : Row) → middle ≤ k → k < length rows → is_below t key (get_or rows k d) ≡ false
not_below_from t key rows middle up here k d from within = not_below_where t key rows middle up here k d within (order middle k from)
