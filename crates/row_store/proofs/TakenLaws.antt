-- What an index of unique columns tells of the rows that it stands for, and how it goes with them.
use Rattle.std.proofs.Common.{◌≡◌, ℕ, ◌+◌, ◌<◌, zero, suc, Bool, true, false, not, ◌&&◌, ◌||◌, ◌==◌, if◌then◌else◌, cond, List, [], ◌∷◌, ◌++◌, length, take, drop, get_or, refl, sym, ap, subst, ◌∙◌, arith, take-append-drop, add-one}
use Rattle.std.specs.Ordering.{is_eq, nat_cmp, ordering_then}
use Rattle.std.specs.declared.cmp.Ordering.{Ordering}
use Rattle.std.specs.declared.cmp.Ordering.TheVariants.{Less, Equal, Greater}
use Rattle.std.specs.List.{list_any, insert, remove, slice_set}
use Rattle.std.specs.Cmp.{unsigned_tied, eq_by_cmp_equiv, nat_eq_equiv}
use Rattle.std.specs.BTreeSet.{contains}
use Rattle.std.proofs.lemmas.Bool.{eqb-true}
use Rattle.std.proofs.lemmas.List.{set-get_or}
use Rattle.std.proofs.lemmas.List.Folds.{list_any-append, list_any_more}
use Rattle.scalar_val.proofs.OrderLaws.{val_cmp-total, val_cmp-exact}
use Rattle.scalar_val.specs.declared.val.Val.{Val}
use Rattle.scalar_val.specs.ValOrder.{val_cmp}
use Rattle.data_model.specs.declared.catalog.TableDef.{TableDef}
use Rattle.scalar_val.specs.Values.{is_null, cell}
use Rattle.data_model.specs.Rows.{Row, Rows, FitsTable, alike_at, clash, Pairwise}
use Rattle.data_model.proofs.Lists.{any_none, or_false, all_in, pairwise_before, pairwise_after}
use Rattle.data_model.proofs.Places.{eq_is, held_parts}
use Rattle.data_model.proofs.Fitting.{clash_back}
use Rattle.row_store.specs.declared.unique_key.UniqueKey.{UniqueKey}
use Rattle.row_store.specs.declared.taken.Taken.{Taken}
use Rattle.row_store.specs.UniqueKeys.{key_order, keys_at, value_keys, has_value}
use Rattle.row_store.specs.Taken.{stands, StandsFor}

-- truth values
swap : (a b c : Bool) → (a || (b || c)) ≡ ((a || c) || b)
swap true b c = refl
swap false true true = refl
swap false true false = refl
swap false false true = refl
swap false false false = refl

spread : (w r h : Bool) → (w && (r || h)) ≡ ((w && r) || (w && h))
spread true r h = refl
spread false r h = refl

either : (a b c d : Bool) → ((a || b) || (c || d)) ≡ ((a || c) || (b || d))
either true b c d = refl
either false true true d = refl
either false true false d = refl
either false false c d = refl

without : (s m : Bool) → (m ≡ true → s ≡ false) → ((s || m) && not m) ≡ s
without true true h = sym (h refl)
without true false h = refl
without false true h = refl
without false false h = refl

with_column : (b e a n h : Bool) → (e ≡ true → h ≡ true → n ≡ b) → ((not b && (e && h)) || (a && not n && h)) ≡ ((e || a) && not n && h)
with_column true false a n h p = refl
with_column false false a n h p = refl
with_column true true true n h p = refl
with_column true true false true true p = refl
with_column true true false false true p = let e = p refl refl in cc
with_column true true false true false p = refl
with_column true true false false false p = refl
with_column false true true true true p = let e = p refl refl in cc
with_column false true true false true p = refl
with_column false true true true false p = refl
with_column false true true false false p = refl
with_column false true false true true p = let e = p refl refl in cc
with_column false true false false true p = refl
with_column false true false true false p = refl
with_column false true false false false p = refl

split : (a b : Bool) → (a && b) ≡ true → (a ≡ true) × (b ≡ true)
split true b h = (refl, h)
split false b h = cc

or_right : (a b : Bool) → b ≡ true → (a || b) ≡ true
or_right true b h = refl
or_right false b h = h

-- lists
pub any_insert : {X : Type 0} (p : X → Bool) (xs : List X) (at : ℕ) (x : X) → list_any p (insert xs at x) ≡ (list_any p xs || p x)
any_insert p xs at x =
    list_any-append p (take at xs) (x ∷ drop at xs) ∙ swap (list_any p (take at xs)) (p x) (list_any p (drop at xs))
    ∙ ap (λ b. b || p x) (sym (list_any-append p (take at xs) (drop at xs)) ∙ ap (list_any p) (take-append-drop at xs))

any_agree : {X : Type 0} (p q : X → Bool) (xs : List X) → ((x : X) → p x ≡ q x) → list_any p xs ≡ list_any q xs
any_agree p q [] h = refl
any_agree p q (x ∷ xs) h = let here = h x in let rest = any_agree p q xs h in cc

any_false : {X : Type 0} (xs : List X) → list_any (λ (x : X). false) xs ≡ false
any_false [] = refl
any_false (x ∷ xs) = any_false xs

any_or : {X : Type 0} (p q : X → Bool) (xs : List X) → list_any (λ x. p x || q x) xs ≡ (list_any p xs || list_any q xs)
any_or p q [] = refl
any_or p q (x ∷ xs) = ap (λ b. (p x || q x) || b) (any_or p q xs) ∙ either (p x) (q x) (list_any p xs) (list_any q xs)

-- to set an item is to put another in after it is taken out
pub set_as : {X : Type 0} (xs : List X) (at : ℕ) (x : X) → at < length xs → slice_set xs at x ≡ insert (remove xs at) at x
set_as [] at x within = absurd (omega arith)
set_as (y ∷ xs) zero x within = refl
set_as (y ∷ xs) (suc at) x within = ap (λ ys. y ∷ ys) (set_as xs at x (omega arith))

-- a key that is another
same_order : (o p : Ordering) → is_eq (ordering_then o p) ≡ (is_eq o && is_eq p)
same_order Less p = refl
same_order Equal p = refl
same_order Greater p = refl

abbrev pub is_key : UniqueKey → UniqueKey → Bool
is_key key own = is_eq (key_order own key)

key_exact : (a b : UniqueKey) → is_key b a ≡ true → a ≡ b
key_exact a b h =
    let both = split (is_eq (nat_cmp a.column b.column)) (is_eq (val_cmp a.value b.value)) (sym (same_order (nat_cmp a.column b.column) (val_cmp a.value b.value)) ∙ h) in
    let column : a.column ≡ b.column = eqb-true a.column b.column (sym (unsigned_tied a.column b.column) ∙ both.0) in
    let value : a.value ≡ b.value = val_cmp-exact a.value b.value (eq_is _ both.1) in
    λ i. record { column = column i; value = value i }

same_value : (row : Row) (column : ℕ) (key : UniqueKey) (b : Bool) → (column == key.column) ≡ b → (b && is_eq (val_cmp (cell row column) key.value)) ≡ (b && has_value key row)
same_value row column key true e =
    (eq_by_cmp_equiv val_cmp-total).symm (cell row column) key.value
    ∙ ap (λ n. is_eq (val_cmp key.value (cell row n))) (eqb-true column key.column e)
same_value row column key false e = refl

same_key : (row : Row) (column : ℕ) (key : UniqueKey) → is_key key (record { column = column; value = cell row column }) ≡ ((column == key.column) && has_value key row)
same_key row column key =
    same_order (nat_cmp column key.column) (val_cmp (cell row column) key.value)
    ∙ ap (λ b. b && is_eq (val_cmp (cell row column) key.value)) (unsigned_tied column key.column)
    ∙ same_value row column key (column == key.column) refl

or_none : (a : Bool) → (a || false) ≡ a
or_none true = refl
or_none false = refl

one_key : (row : Row) (column : ℕ) (key : UniqueKey) (b : Bool) → is_null (cell row column) ≡ b → list_any (is_key key) (value_keys column (cell row column)) ≡ (not b && ((column == key.column) && has_value key row))
one_key row column key true e = rw e refl
one_key row column key false e = rw e (or_none _ ∙ same_key row column key)

null_alike : (row : Row) (column : ℕ) (key : UniqueKey) → (column == key.column) ≡ true → has_value key row ≡ true → is_null key.value ≡ is_null (cell row column)
null_alike row column key e h = ap is_null (val_cmp-exact _ _ (eq_is _ h)) ∙ ap (λ n. is_null (cell row n)) (sym (eqb-true column key.column e))

-- the keys of a row
pub among : (columns : List ℕ) (row : Row) (key : UniqueKey) → list_any (is_key key) (keys_at columns row) ≡ (list_any (λ column. column == key.column) columns && not (is_null key.value) && has_value key row)
among [] row key = refl
among (c ∷ cs) row key =
    list_any-append (is_key key) (value_keys c (cell row c)) (keys_at cs row)
    ∙ ap (λ b. b || list_any (is_key key) (keys_at cs row)) (one_key row c key (is_null (cell row c)) refl)
    ∙ ap (λ b. (not (is_null (cell row c)) && ((c == key.column) && has_value key row)) || b) (among cs row key)
    ∙ with_column (is_null (cell row c)) (c == key.column) (list_any (λ column. column == key.column) cs) (is_null key.value) (has_value key row) (null_alike row c key)

pub stands_with : (columns : List ℕ) (rows : Rows) (at : ℕ) (row : Row) (key : UniqueKey) → stands columns (insert rows at row) key ≡ (stands columns rows key || list_any (is_key key) (keys_at columns row))
stands_with columns rows at row key =
    let may = list_any (λ column. column == key.column) columns && not (is_null key.value) in
    ap (λ b. may && b) (any_insert (has_value key) rows at row)
    ∙ spread may (list_any (has_value key) rows) (has_value key row)
    ∙ ap (λ b. stands columns rows key || b) (sym (among columns row key))

pub stands_more : (columns : List ℕ) (rows : Rows) (i : ℕ) (d : Row) (key : UniqueKey) → i < length rows → stands columns (take (i + 1) rows) key ≡ (stands columns (take i rows) key || list_any (is_key key) (keys_at columns (get_or rows i d)))
stands_more columns rows i d key within =
    let may = list_any (λ column. column == key.column) columns && not (is_null key.value) in
    ap (λ b. may && b) (list_any_more (has_value key) rows i d within)
    ∙ spread may (list_any (has_value key) (take i rows)) (has_value key (get_or rows i d))
    ∙ ap (λ b. stands columns (take i rows) key || b) (sym (among columns (get_or rows i d) key))

same_here : (c : ℕ) → (c == c) ≡ true
same_here c = nat_eq_equiv.refl c

over_one : (column : ℕ) (value : Val) (f g : UniqueKey → Bool) (b : Bool) → is_null value ≡ b → (b ≡ false → f (record { column = column; value = value }) ≡ g (record { column = column; value = value })) → list_any f (value_keys column value) ≡ list_any g (value_keys column value)
over_one column value f g true e h = rw e refl
over_one column value f g false e h = rw e (ap (λ b. b || false) (h refl))

-- tests that agree on keys in some columns agree on the keys of a row
pub over_keys : (cs : List ℕ) (row : Row) (f g : UniqueKey → Bool) → ((key : UniqueKey) → list_any (λ column. column == key.column) cs ≡ true → is_null key.value ≡ false → f key ≡ g key) → list_any f (keys_at cs row) ≡ list_any g (keys_at cs row)
over_keys [] row f g h = refl
over_keys (c ∷ cs) row f g h =
    let here = over_one c (cell row c) f g (is_null (cell row c)) refl (λ e. h (record { column = c; value = cell row c }) (ap (λ b. b || list_any (λ column. column == c) cs) (same_here c)) e) in
    let rest = over_keys cs row f g (λ key u e. h key (or_right (c == key.column) (list_any (λ column. column == key.column) cs) u) e) in
    list_any-append f (value_keys c (cell row c)) (keys_at cs row)
    ∙ ap (λ b. b || list_any f (keys_at cs row)) here
    ∙ ap (λ b. list_any g (value_keys c (cell row c)) || b) rest
    ∙ sym (list_any-append g (value_keys c (cell row c)) (keys_at cs row))

one_alike : (rows : Rows) (cells : Row) (c : ℕ) (b : Bool) → is_null (cell cells c) ≡ b → list_any (λ key. list_any (has_value key) rows) (value_keys c (cell cells c)) ≡ list_any (λ row. alike_at cells row c) rows
one_alike rows cells c true e =
    let key : UniqueKey = record { column = c; value = cell cells c } in
    ap (λ b. list_any (λ key. list_any (has_value key) rows) (if b then [] else key ∷ [])) e
    ∙ sym (any_agree (λ row. alike_at cells row c) (λ row. false) rows (λ row. ap (λ b. not b && has_value key row) e) ∙ any_false rows)
one_alike rows cells c false e =
    let key : UniqueKey = record { column = c; value = cell cells c } in
    ap (λ b. list_any (λ key. list_any (has_value key) rows) (if b then [] else key ∷ [])) e
    ∙ or_none _
    ∙ any_agree (has_value key) (λ row. alike_at cells row c) rows (λ row. sym (ap (λ b. not b && has_value key row) e))

-- some row has the value of a key exactly where some row is alike
all_alike : (rows : Rows) (cells : Row) (cs : List ℕ) → list_any (λ key. list_any (has_value key) rows) (keys_at cs cells) ≡ list_any (λ row. list_any (alike_at cells row) cs) rows
all_alike rows cells [] = sym (any_false rows)
all_alike rows cells (c ∷ cs) =
    let test = λ (key : UniqueKey). list_any (has_value key) rows in
    list_any-append test (value_keys c (cell cells c)) (keys_at cs cells)
    ∙ ap (λ b. b || list_any test (keys_at cs cells)) (one_alike rows cells c (is_null (cell cells c)) refl)
    ∙ ap (λ b. list_any (λ row. alike_at cells row c) rows || b) (all_alike rows cells cs)
    ∙ sym (any_or (λ row. alike_at cells row c) (λ row. list_any (alike_at cells row) cs) rows)

pub standing : (t : TableDef) (rows : Rows) (cells : Row) → list_any (stands t.unique rows) (keys_at t.unique cells) ≡ list_any (clash t cells) rows
standing t rows cells =
    over_keys t.unique cells (stands t.unique rows) (λ key. list_any (has_value key) rows) (λ key u e. rw (u, e) refl)
    ∙ all_alike rows cells t.unique

-- a row of a table that fits clashes with no other
alone : (t : TableDef) (rows : Rows) (at : ℕ) (d : Row) → FitsTable t rows → at < length rows → list_any (clash t (get_or rows at d)) (remove rows at) ≡ false
alone t rows at d fits within =
    let r = get_or rows at d in
    let split : rows ≡ take at rows ++ r ∷ drop (suc at) rows = rw add-one at (held_parts rows at d within) in
    let apart = subst (λ rows. Pairwise (λ a b. clash t a b ≡ false) rows) split fits.unique in
    let before = all_in _ (take at rows) (pairwise_before (λ a b. clash t a b ≡ false) (take at rows) r (drop (suc at) rows) apart) in
    let after = all_in _ (drop (suc at) rows) (pairwise_after (λ a b. clash t a b ≡ false) (take at rows) r (drop (suc at) rows) apart) in
    list_any-append (clash t r) (take at rows) (drop (suc at) rows)
    ∙ rw (any_none (clash t r) (take at rows) (λ k e in'. clash_back t r _ ∙ before k e in'), any_none (clash t r) (drop (suc at) rows) after) refl

none_by : (f : UniqueKey → Bool) (x : UniqueKey) (xs : List UniqueKey) (key : UniqueKey) (b : Bool) → is_key key x ≡ b → (list_any f xs ≡ false → list_any (is_key key) xs ≡ true → f key ≡ false) → (f x || list_any f xs) ≡ false → (b || list_any (is_key key) xs) ≡ true → f key ≡ false
none_by f x xs key true e rest none h = subst (λ k. f k ≡ false) (key_exact x key e) (or_false (f x) (list_any f xs) none).0
none_by f x xs key false e rest none h = rest (or_false (f x) (list_any f xs) none).1 h

none_at : (f : UniqueKey → Bool) (keys : List UniqueKey) (key : UniqueKey) → list_any f keys ≡ false → list_any (is_key key) keys ≡ true → f key ≡ false
none_at f [] key none h = cc
none_at f (x ∷ xs) key none h = none_by f x xs key (is_key key x) refl (none_at f xs key) none h

-- the index without the keys of a row stands for the other rows
pub taken_out : (t : TableDef) (rows : Rows) (at : ℕ) (d : Row) (key : UniqueKey) → FitsTable t rows → at < length rows → (stands t.unique rows key && not (list_any (is_key key) (keys_at t.unique (get_or rows at d)))) ≡ stands t.unique (remove rows at) key
taken_out t rows at d key fits within =
    let r = get_or rows at d in
    let own = keys_at t.unique r in
    let whole : rows ≡ insert (remove rows at) at r = sym (set-get_or rows at d) ∙ set_as rows at r within in
    let parts : stands t.unique rows key ≡ (stands t.unique (remove rows at) key || list_any (is_key key) own) = ap (λ rows. stands t.unique rows key) whole ∙ stands_with t.unique (remove rows at) at r key in
    ap (λ b. b && not (list_any (is_key key) own)) parts
    ∙ without (stands t.unique (remove rows at) key) (list_any (is_key key) own)
    (none_at (stands t.unique (remove rows at)) own key (standing t (remove rows at) r ∙ alone t rows at d fits within))

-- a row with the same keys in the place of another
pub same_keys_stand : (columns : List ℕ) (rows : Rows) (at : ℕ) (row cells : Row) (key : UniqueKey) → at < length rows → row ≡ get_or rows at row → keys_at columns row ≡ keys_at columns cells → stands columns rows key ≡ stands columns (slice_set rows at cells) key
same_keys_stand columns rows at row cells key within is same =
    let whole : rows ≡ insert (remove rows at) at (get_or rows at row) = sym (set-get_or rows at row) ∙ set_as rows at (get_or rows at row) within in
    ap (λ rows. stands columns rows key) whole
    ∙ stands_with columns (remove rows at) at (get_or rows at row) key
    ∙ ap (λ keys. stands columns (remove rows at) key || list_any (is_key key) keys) (ap (keys_at columns) (sym is) ∙ same)
    ∙ sym (stands_with columns (remove rows at) at cells key)
    ∙ ap (λ rows. stands columns rows key) (sym (set_as rows at cells within))

pub same_keys_apart : (t : TableDef) (rows : Rows) (at : ℕ) (row cells : Row) → FitsTable t rows → at < length rows → row ≡ get_or rows at row → keys_at t.unique row ≡ keys_at t.unique cells → list_any (clash t cells) (remove rows at) ≡ false
same_keys_apart t rows at row cells fits within is same =
    sym (standing t (remove rows at) cells)
    ∙ ap (list_any (stands t.unique (remove rows at))) (sym same ∙ ap (keys_at t.unique) is)
    ∙ standing t (remove rows at) (get_or rows at row)
    ∙ alone t rows at row fits within

-- a key that is put into a set, and one that is taken out
put_one : (old y h : Bool) → cond h true (old || y) ≡ (old || (y || (h || false)))
put_one true y true = refl
put_one true y false = refl
put_one false true true = refl
put_one false true false = refl
put_one false false true = refl
put_one false false false = refl

pub put_step : (p : UniqueKey → Bool) (keys : List UniqueKey) (key : UniqueKey) (new now old : Bool) → new ≡ cond (p key) true now → now ≡ (old || list_any p keys) → new ≡ (old || list_any p (keys ++ key ∷ []))
put_step p keys key new now old e f =
    e ∙ ap (λ b. cond (p key) true b) f ∙ put_one old (list_any p keys) (p key) ∙ ap (λ b. old || b) (sym (list_any-append p keys (key ∷ [])))

take_one : (old y h : Bool) → cond h false (old && not y) ≡ (old && not (y || h))
take_one true true true = refl
take_one true true false = refl
take_one true false true = refl
take_one true false false = refl
take_one false y true = refl
take_one false y false = refl

pub take_step : (p : UniqueKey → Bool) (keys : List UniqueKey) (i : ℕ) (key : UniqueKey) (new now old : Bool) → i < length keys → key ≡ get_or keys i key → new ≡ cond (p key) false now → now ≡ (old && not (list_any p (take i keys))) → new ≡ (old && not (list_any p (take (i + 1) keys)))
take_step p keys i key new now old within is e f =
    e ∙ ap (λ b. cond (p key) false b) f ∙ take_one old (list_any p (take i keys)) (p key)
    ∙ ap (λ b. old && not b) (ap (λ k. list_any p (take i keys) || p k) is ∙ sym (list_any_more p keys i key within))

-- the index after a change
pub grow : (columns : List ℕ) (rows : Rows) (at : ℕ) (row : Row) (key : UniqueKey) (own : List UniqueKey) (new held : Bool) → held ≡ stands columns rows key → own ≡ keys_at columns row → new ≡ (held || list_any (is_key key) own) → new ≡ stands columns (insert rows at row) key
grow columns rows at row key own new held e f h =
    h ∙ ap (λ b. b || list_any (is_key key) own) e ∙ ap (λ keys. stands columns rows key || list_any (is_key key) keys) f
    ∙ sym (stands_with columns rows at row key)

pub grow_more : (columns : List ℕ) (rows : Rows) (i : ℕ) (row : Row) (key : UniqueKey) (own : List UniqueKey) (new held : Bool) → i < length rows → row ≡ get_or rows i row → held ≡ stands columns (take i rows) key → own ≡ keys_at columns row → new ≡ (held || list_any (is_key key) own) → new ≡ stands columns (take (i + 1) rows) key
grow_more columns rows i row key own new held within is e f h =
    h ∙ ap (λ b. b || list_any (is_key key) own) e
    ∙ ap (λ keys. stands columns (take i rows) key || list_any (is_key key) keys) (f ∙ ap (keys_at columns) is)
    ∙ sym (stands_more columns rows i row key within)

pub shrink : (t : TableDef) (rows : Rows) (at : ℕ) (row : Row) (key : UniqueKey) (columns : List ℕ) (own : List UniqueKey) (new held : Bool) → FitsTable t rows → at < length rows → columns ≡ t.unique → row ≡ get_or rows at row → held ≡ stands columns rows key → own ≡ keys_at columns row → new ≡ (held && not (list_any (is_key key) own)) → new ≡ stands columns (remove rows at) key
shrink t rows at row key columns own new held fits within same is e f h =
    h ∙ ap (λ b. b && not (list_any (is_key key) own)) (e ∙ ap (λ cs. stands cs rows key) same)
    ∙ ap (λ keys. stands t.unique rows key && not (list_any (is_key key) keys)) (f ∙ ap (keys_at columns) is ∙ ap (λ cs. keys_at cs (get_or rows at row)) same)
    ∙ taken_out t rows at row key fits within
    ∙ ap (λ cs. stands cs (remove rows at) key) (sym same)

-- what is asked of the index
pub looked_up : (t : TableDef) (rows : Rows) (cells : Row) (taken : Taken) → taken.columns ≡ t.unique → StandsFor rows taken → list_any (contains key_order taken.keys) (keys_at taken.columns cells) ≡ list_any (clash t cells) rows
looked_up t rows cells taken same holds =
    any_agree (contains key_order taken.keys) (stands taken.columns rows) (keys_at taken.columns cells) holds
    ∙ ap (λ cs. list_any (stands cs rows) (keys_at cs cells)) same
    ∙ standing t rows cells

other_row : (t : TableDef) (rows : Rows) (at : ℕ) (d : Row) (key : UniqueKey) (held : Bool) → FitsTable t rows → at < length rows → held ≡ stands t.unique rows key → list_any (λ column. column == key.column) t.unique ≡ true → is_null key.value ≡ false → (held && not (has_value key (get_or rows at d))) ≡ stands t.unique (remove rows at) key
other_row t rows at d key held fits within e u n =
    let own : list_any (is_key key) (keys_at t.unique (get_or rows at d)) ≡ has_value key (get_or rows at d) = among t.unique (get_or rows at d) key ∙ rw (u, n) refl in
    ap (λ b. b && not (has_value key (get_or rows at d))) e
    ∙ ap (λ b. stands t.unique rows key && not b) (sym own)
    ∙ taken_out t rows at d key fits within

pub looked_up_elsewhere : (t : TableDef) (rows : Rows) (at : ℕ) (d : Row) (cells : Row) (taken : Taken) → FitsTable t rows → at < length rows → taken.columns ≡ t.unique → StandsFor rows taken → list_any (λ key. contains key_order taken.keys key && not (has_value key (get_or rows at d))) (keys_at taken.columns cells) ≡ list_any (clash t cells) (remove rows at)
looked_up_elsewhere t rows at d cells taken fits within same holds =
    let test = λ (key : UniqueKey). contains key_order taken.keys key && not (has_value key (get_or rows at d)) in
    ap (λ cs. list_any test (keys_at cs cells)) same
    ∙ over_keys t.unique cells test (stands t.unique (remove rows at)) (λ key u n. other_row t rows at d key (contains key_order taken.keys key) fits within (holds key ∙ ap (λ cs. stands cs rows key) same) u n)
    ∙ standing t (remove rows at) cells
