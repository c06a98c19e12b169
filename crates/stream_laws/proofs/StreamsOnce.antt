-- The rows that a stream sends are the matching rows up to its cursor, each once and in order.
use Rattle.std.proofs.Common.{◌≡◌, ℕ, ◌+◌, ◌-◌, ◌≤◌, ◌==◌, zero, suc, Bool, true, false, not, ◌&&◌, ◌||◌, List, [], ◌∷◌, ◌++◌, length, map, take, drop, filter, unwrap_or, Option, Some, None, Result, Ok, Err, refl, ap, ap₂, sym, ◌∙◌, subst, ◌⊎◌, inl, inr, arith, take-append-drop}
use Rattle.std.proofs.lemmas.Bool.{eqb-true}
use Rattle.std.proofs.lemmas.List.{take_all}
use Rattle.std.specs.Prelude.{codes}
use Rattle.std.specs.Ordering.{is_eq, ordering_then, ordering_reverse}
use Rattle.std.specs.declared.cmp.Ordering.{Ordering}
use Rattle.std.specs.declared.cmp.Ordering.TheVariants.{Less, Equal, Greater}
use Rattle.std.specs.List.{AllByRecursion, list_any}
use Rattle.scalar_val.specs.declared.val.Val.{Val}
use Rattle.scalar_val.specs.declared.val.Val.TheVariants as val
use Rattle.scalar_val.specs.ValOrder.{val_cmp}
use Rattle.scalar_val.proofs.OrderLaws.{val_cmp-total}
use Rattle.data_model.specs.declared.catalog.TableDef.{TableDef}
use Rattle.data_model.specs.declared.catalog.Catalog.{Catalog}
use Rattle.data_model.specs.declared.transaction.Reason.{Reason}
use Rattle.data_model.specs.declared.transaction.TxFault.{TxFault}
use Rattle.data_model.specs.declared.transaction.TxChange.{TxChange}
use Rattle.scalar_val.specs.Values.{cell, is_null}
use Rattle.data_model.specs.Rows.{Row, Rows, Database, Pairwise, key_of, key_cmp, clash, alike_at, no_rows}
use Rattle.data_model.specs.Transactions.{rows_at, change, apply, apply_from, go_on, after_or_same, database_after, snapshot}
use Rattle.role_model.specs.declared.metadata.Metadata.{Metadata}
use Rattle.role_model.specs.Roles.{table_at, cap_seen}
use Rattle.request_model.specs.declared.document.GPair.{GPair}
use Rattle.request_model.specs.declared.flat.FlatField.{FlatField}
use Rattle.request_model.specs.declared.flat.FlatField.TheViews.{out-FlatField}
use Rattle.scalar_val.specs.Ordered.{ordered}
use Rattle.query_model.specs.Names.{Root, RowsOf, RowOf, StreamOf, NoRoot, argument, initial_column, descends}
use Rattle.query_model.specs.Variables.{number_read}
use Rattle.query_model.specs.Queries.{Query, root_of, view_of}
use Rattle.plan_model.specs.Taken.{directed, is_beyond, at_most}
use Rattle.plan_model.specs.Outcomes.{last_row}
use Rattle.query_model.specs.Results.{is_asked, is_permitted}
use Rattle.query_model.specs.StreamLaws.{Stream, stream_by, stream_in, stream_of, next_rows, cursor_after, streamed, cursor_at_end, is_passed, passed, NeverFall, is_whole_key, is_unique, transactions_append, Appended, StreamsSendOnce}
use Rattle.stream_laws.proofs.SortedRows.{same_filter, each_of, pairs_filter, keeps_none}
use Rattle.stream_laws.proofs.StreamOrder.{is_told, tells, direction_total}
use Rattle.stream_laws.proofs.SettledTables.{Settled, Orderly, settled_after}
use Rattle.stream_laws.proofs.StreamPieces.{passing, second, nowhere, by_column, goes, Apart, between, after, joined, waiting, batch_is, moves_on, last_present, prefix_of}
use Rattle.stream_laws.proofs.StreamGrowth.{transactions_grow}

-- ---- any snapshot is settled

module _ (catalog : Catalog) (place : ℕ) where
  abbrev SettledIn : Database → Type 0
  SettledIn db = Settled catalog.tables place (rows_at db place)

  changes_settle : (n : ℕ) (db after : Database) (cs : List TxChange) → SettledIn db → apply_from catalog n db cs ≡ Ok after → SettledIn after
  changes_settle n db after [] good e = subst SettledIn (let k : ◌≡◌ {A = Result Database TxFault} (Ok db) (Ok after) = e in let is : db ≡ after = cc in is) good
  changes_settle n db after (c ∷ cs) good e = go (change catalog db c) (λ d k. settled_after catalog db d c place good k) (λ d g k. changes_settle (n + 1) d after cs g k) e
    where
      go : (r : Result Database Reason) → ((d : Database) → r ≡ Ok d → SettledIn d) → ((d : Database) → SettledIn d → apply_from catalog (n + 1) d cs ≡ Ok after → SettledIn after) →
          go_on n r (λ d. apply_from catalog (n + 1) d cs) ≡ Ok after → SettledIn after
      go (Ok d) one more k = more d (one d refl) k
      go (Err r) one more k = absurd (let x : ◌≡◌ {A = Result Database TxFault} (Err _) (Ok after) = k in cc)

  all_settle : (db : Database) (txs : List (List TxChange)) → SettledIn db → SettledIn (database_after catalog txs db)
  all_settle db [] good = good
  all_settle db (tx ∷ txs) good = all_settle (after_or_same db (apply catalog db tx)) txs (go (apply catalog db tx) refl)
    where
      go : (r : Result Database TxFault) → apply catalog db tx ≡ r → SettledIn (after_or_same db r)
      go (Ok d) e = changes_settle 1 db d tx good e
      go (Err f) e = good

  empty_at : (ts : List TableDef) (n : ℕ) → rows_at (map (λ (t : TableDef). []) ts) n ≡ []
  empty_at [] n = refl
  empty_at (t ∷ ts) zero = refl
  empty_at (t ∷ ts) (suc n) = empty_at ts n

  pub snapshot_settled : (txs : List (List TxChange)) (version : ℕ) → SettledIn (snapshot catalog txs version)
  snapshot_settled txs version = all_settle (no_rows catalog) (take version txs) (λ t e. subst (Orderly t) (sym (empty_at catalog.tables place)) (tt, tt))

after_both : (catalog : Catalog) (xs ys : List (List TxChange)) (db : Database) → database_after catalog (xs ++ ys) db ≡ database_after catalog ys (database_after catalog xs db)
after_both catalog [] ys db = refl
after_both catalog (x ∷ xs) ys db = after_both catalog xs ys (after_or_same db (apply catalog db x))

grows_on : (m : Metadata) (q : Query) (s : Stream) (xs ys : List (List TxChange)) (db : Database) → transactions_append m q s db (xs ++ ys) ≡ true → transactions_append m q s (database_after m.catalog xs db) ys ≡ true
grows_on m q s [] ys db h = h
grows_on m q s (x ∷ xs) ys db h = grows_on m q s xs ys (after_or_same db (apply m.catalog db x)) (second _ _ h)

take_further : {X : Type 0} (n d k : ℕ) (xs : List X) → k ≡ n + d → take k xs ≡ take n xs ++ take d (drop n xs)
take_further zero d k xs e = let f : k ≡ d = omega (arith, e) in ap (λ j. take j xs) f
take_further (suc n) d zero xs e = absurd (omega (arith, e))
take_further (suc n) zero (suc k) [] e = refl
take_further (suc n) (suc d) (suc k) [] e = refl
take_further (suc n) d (suc k) (x ∷ xs) e = ap (λ ys. x ∷ ys) (take_further n d k xs (omega (arith, e)))

drop_further : {X : Type 0} (n d k : ℕ) (xs : List X) → k ≡ n + d → drop k xs ≡ drop d (drop n xs)
drop_further zero d k xs e = let f : k ≡ d = omega (arith, e) in ap (λ j. drop j xs) f
drop_further (suc n) d zero xs e = absurd (omega (arith, e))
drop_further (suc n) zero (suc k) [] e = refl
drop_further (suc n) (suc d) (suc k) [] e = refl
drop_further (suc n) d (suc k) (x ∷ xs) e = drop_further n d k xs (omega (arith, e))

-- ---- no two rows have one value

unequal : (o : Ordering) → o ≡ Equal → is_eq o ≡ false → ⊥
unequal o e f = let k : true ≡ false = sym (ap is_eq e) ∙ f in cc

values_equal : (descending : Bool) (x y : Val) → directed descending x y ≡ Equal → val_cmp x y ≡ Equal
values_equal true x y e = val_cmp-total.antisymm x y ∙ ap ordering_reverse e
values_equal false x y e = e

values_apart : (descending : Bool) (x y : Val) → is_null x ≡ false → is_null y ≡ false → is_eq (val_cmp x y) ≡ false → (is_beyond descending x y ≡ true) ⊎ (is_beyond descending y x ≡ true)
values_apart descending x y a b h = go (directed descending x y) refl
  where
    go : (o : Ordering) → directed descending x y ≡ o → (is_beyond descending x y ≡ true) ⊎ (is_beyond descending y x ≡ true)
    go Less e = inl (tells descending x y (record { there = b; cursor = a; less = e }))
    go Greater e = inr (tells descending y x (record { there = a; cursor = b; less = (direction_total descending).antisymm y x ∙ ap ordering_reverse e }))
    go Equal e = absurd (unequal (val_cmp x y) (values_equal descending x y e) h)

unalike : (a b : Row) (columns : List ℕ) (column : ℕ) → list_any (λ c. c == column) columns ≡ true → list_any (alike_at a b) columns ≡ false → alike_at a b column ≡ false
unalike a b [] column h k = absurd (let x : false ≡ true = h in cc)
unalike a b (c ∷ cs) column h k = go (c == column) refl h (unalike a b cs column)
  where
    parts : (x y : Bool) → (x || y) ≡ false → (x ≡ false) × (y ≡ false)
    parts true y h = absurd (let z : true ≡ false = h in cc)
    parts false y h = (refl, h)

    go : (x : Bool) → (c == column) ≡ x → (x || list_any (λ c. c == column) cs) ≡ true → (list_any (λ c. c == column) cs ≡ true → list_any (alike_at a b) cs ≡ false → alike_at a b column ≡ false) → alike_at a b column ≡ false
    go true e h more = ap (alike_at a b) (sym (eqb-true c column e)) ∙ (parts (alike_at a b c) _ k).0
    go false e h more = more h (parts (alike_at a b c) _ k).1

key_is : (column : ℕ) (key : List ℕ) → is_whole_key column key ≡ true → key ≡ column ∷ []
key_is column [] h = absurd (let x : false ≡ true = h in cc)
key_is column (c ∷ []) h = ap (λ k. k ∷ []) (eqb-true c column h)
key_is column (c ∷ d ∷ cs) h = absurd (let x : false ≡ true = h in cc)

one_less : (x y : Val) → key_cmp (x ∷ []) (y ∷ []) ≡ Less → is_eq (val_cmp x y) ≡ false
one_less x y h = go (val_cmp x y) h
  where
    go : (o : Ordering) → ordering_then o Equal ≡ Less → is_eq o ≡ false
    go Less h = refl
    go Greater h = refl
    go Equal h = absurd (let k : Equal ≡ Less = h in cc)

with_value : (a b : Bool) → a ≡ false → (not a && b) ≡ false → b ≡ false
with_value a b e h = sym (ap (λ x. not x && b) e) ∙ h

module _ (s : Stream) (t : TableDef) (unique : is_unique s (Some t) ≡ true) (p : Row → Bool) (c : Val) where
  abbrev Alone : Row → Row → Type 0
  Alone = Apart s.column s.descending

  each_apart : (R : Row → Row → Type 0) → ((x y : Row) → is_null (cell x s.column) ≡ false → R x y → is_eq (val_cmp (cell x s.column) (cell y s.column)) ≡ false) →
      (ys : Rows) → AllByRecursion (λ y. (p y && goes s.column s.descending c y) ≡ true) ys → Pairwise R ys → Pairwise Alone ys
  each_apart R f [] all h = tt
  each_apart R f (y ∷ ys) all h = (each ys all.1 h.0, each_apart R f ys all.1 h.1)
    where
      there : (z : Row) → (p z && goes s.column s.descending c z) ≡ true → is_null (cell z s.column) ≡ false
      there z k = (is_told s.descending c (cell z s.column) (second (p z) _ k)).there

      each : (zs : Rows) → AllByRecursion (λ z. (p z && goes s.column s.descending c z) ≡ true) zs → AllByRecursion (R y) zs → AllByRecursion (Alone y) zs
      each [] a k = tt
      each (z ∷ zs) a k = (values_apart s.descending (cell y s.column) (cell z s.column) (there y all.0) (there z a.0) (f y z (there y all.0) k.0), each zs a.1 k.1)

  pub rows_apart : (rows : Rows) → Orderly t rows → Pairwise Alone (waiting s.column s.descending p c rows)
  rows_apart rows o = go (list_any (λ column. column == s.column) t.unique) refl unique
    where
      test : Row → Bool
      test r = p r && goes s.column s.descending c r

      go : (b : Bool) → list_any (λ column. column == s.column) t.unique ≡ b → (b || is_whole_key s.column t.key) ≡ true → Pairwise Alone (waiting s.column s.descending p c rows)
      go true e h =
          each_apart (λ a b. clash t a b ≡ false) (λ x y n k. with_value (is_null (cell x s.column)) _ n (unalike x y t.unique s.column e k))
          (filter test rows) (passing test rows) (pairs_filter (λ a b. clash t a b ≡ false) test rows o.1)
      go false e h =
          let key = key_is s.column t.key h in
          each_apart (λ a b. key_cmp (key_of t a) (key_of t b) ≡ Less) (λ x y n k. one_less (cell x s.column) (cell y s.column) (ap (λ ks. key_cmp (map (cell x) ks) (map (cell y) ks)) (sym key) ∙ k))
          (filter test rows) (passing test rows) (pairs_filter (λ a b. key_cmp (key_of t a) (key_of t b) ≡ Less) test rows o.0)

-- ---- the stream

three_same : (a b c : Bool) → (a && b && c) ≡ ((a && b) && c)
three_same true b c = refl
three_same false b c = refl

four_same : (a b c d : Bool) → (a && b && c && d) ≡ ((a && b) && (c && d))
four_same true true c d = refl
four_same true false c d = refl
four_same false b c d = refl

module _ (m : Metadata) (q : Query) (table : ℕ) (args : List GPair) where
  abbrev pub the_stream : Stream
  the_stream = record { table = table; column = initial_column (view_of m q) table args; descending = descends args; args = args }

  abbrev column : ℕ
  column = initial_column (view_of m q) table args

  abbrev matching : Row → Bool
  matching r = is_asked m q table args r && is_permitted m q table r

  same_cursor : (c : Val) (zs : Rows) → cursor_after the_stream c zs ≡ after column (descends args) c zs
  same_cursor c [] = refl
  same_cursor c (r ∷ rs) = refl

  module _ (txs : List (List TxChange)) (since : ℕ) (appended : Appended m q the_stream txs since) where
    abbrev at_version : ℕ → Rows
    at_version v = rows_at (snapshot m.catalog txs v) table

    abbrev last_rows : Rows
    last_rows = at_version (length txs)

    abbrev piece : Val → Val → Rows
    piece a b = ordered (by_column column (descends args)) (filter (between column (descends args) matching a b) last_rows)

    later_grows : (d : ℕ) → transactions_append m q the_stream (snapshot m.catalog txs (since + d)) (drop (since + d) txs) ≡ true
    later_grows d =
        let start = snapshot m.catalog txs since in
        let whole : transactions_append m q the_stream start (take d (drop since txs) ++ drop d (drop since txs)) ≡ true =
        ap (transactions_append m q the_stream start) (take-append-drop d (drop since txs)) ∙ appended.grows in
        let moved = grows_on m q the_stream (take d (drop since txs)) (drop d (drop since txs)) start whole in
        ap₂ (λ db more. transactions_append m q the_stream db more)
        (ap (λ xs. database_after m.catalog xs (no_rows m.catalog)) (take_further since d (since + d) txs refl) ∙ after_both m.catalog (take since txs) (take d (drop since txs)) (no_rows m.catalog)) (drop_further since d (since + d) txs refl)
        ∙ moved

    grows_at : (v : ℕ) → since ≤ v → transactions_append m q the_stream (snapshot m.catalog txs v) (drop v txs) ≡ true
    grows_at v h = let e : since + (v - since) ≡ v = omega (arith, h) in subst (λ n. transactions_append m q the_stream (snapshot m.catalog txs n) (drop n txs) ≡ true) e (later_grows (v - since))

    last_is : (v : ℕ) → snapshot m.catalog txs (length txs) ≡ database_after m.catalog (drop v txs) (snapshot m.catalog txs v)
    last_is v = ap (λ xs. database_after m.catalog xs (no_rows m.catalog)) (take_all (length txs) txs (omega arith) ∙ sym (take-append-drop v txs)) ∙ after_both m.catalog (take v txs) (drop v txs) (no_rows m.catalog)

    defined : (o : Option TableDef) → is_unique the_stream o ≡ true → (t : TableDef) × (o ≡ Some t) × (is_unique the_stream (Some t) ≡ true)
    defined (Some t) h = (t, refl, h)
    defined None h = absurd (let k : false ≡ true = h in cc)

    record Sent (v : ℕ) (c : Val) : Type 0 where
      is : next_rows m q the_stream c (snapshot m.catalog txs v) ≡ piece c (cursor_after the_stream c (next_rows m q the_stream c (snapshot m.catalog txs v)))
      on : (x : Val) → is_beyond (descends args) (cursor_after the_stream c (next_rows m q the_stream c (snapshot m.catalog txs v))) x ≡ true → is_beyond (descends args) c x ≡ true

    sent : (v : ℕ) (c : Val) → since ≤ v → Sent v c
    sent v c from =
        let rows = at_version v in
        let t = defined (table_at (view_of m q) table) appended.unique in
        let settled = snapshot_settled m.catalog table txs v in
        let apart = rows_apart the_stream t.0 t.2 matching c rows (settled t.0 t.1) in
        let cap = cap_seen (view_of m q) table in
        let batch = unwrap_or (number_read q.variables (argument (codes "batch_size") args)) 0 in
        let zs = at_most cap (take batch (ordered (by_column column (descends args)) (waiting column (descends args) matching c rows))) in
        let shown : next_rows m q the_stream c (snapshot m.catalog txs v) ≡ zs =
        ap (λ ys. at_most cap (take batch (ordered (by_column column (descends args)) ys)))
        (same_filter _ (λ r. matching r && goes column (descends args) c r) rows (each_of _ (λ r. three_same (is_asked m q table args r) (is_permitted m q table r) (goes column (descends args) c r)) rows)) in
        let rest = prefix_of cap batch (ordered (by_column column (descends args)) (waiting column (descends args) matching c rows)) in
        let cursor : cursor_after the_stream c (next_rows m q the_stream c (snapshot m.catalog txs v)) ≡ after column (descends args) c zs = ap (cursor_after the_stream c) shown ∙ same_cursor c zs in
        record {
          is = shown ∙ batch_is column (descends args) matching c rows apart zs rest.0 rest.1 ∙ ap (ordered (by_column column (descends args))) (stays zs rest.0 rest.1 settled)
              ∙ ap (piece c) (sym cursor);
          on = λ x h. moves_on column (descends args) matching c rows zs rest.0 rest.1 x (sym (ap (λ y. is_beyond (descends args) y x) cursor) ∙ h);
        }
      where
        stays : (zs rest : Rows) → zs ++ rest ≡ ordered (by_column column (descends args)) (waiting column (descends args) matching c (at_version v)) → Settled m.catalog.tables table (at_version v) →
            filter (between column (descends args) matching c (after column (descends args) c zs)) (at_version v) ≡ filter (between column (descends args) matching c (after column (descends args) c zs)) last_rows
        stays [] rest e settled =
            keeps_none _ (at_version v) (each_of _ (λ r. nowhere (matching r) (goes column (descends args) c r)) (at_version v))
            ∙ sym (keeps_none _ last_rows (each_of _ (λ r. nowhere (matching r) (goes column (descends args) c r)) last_rows))
        stays (r ∷ rs) rest e settled =
            let l = last_row (r ∷ rs) in
            let grown = transactions_grow m q the_stream l matching c (snapshot m.catalog txs v) (drop v txs) (settled, last_present column (descends args) matching c (at_version v) r rs rest e) (grows_at v from) in
            sym (ap (λ db. filter (between column (descends args) matching c (cell l column)) (rows_at db table)) (last_is v) ∙ grown.same)

    abbrev end_of : List ℕ → Val → Val
    end_of = cursor_at_end m q the_stream txs

    all_sent : (versions : List ℕ) (least : ℕ) (c : Val) → since ≤ least → NeverFall least versions →
        (streamed m q the_stream txs versions c ≡ piece c (end_of versions c)) × ((x : Val) → is_beyond (descends args) (end_of versions c) x ≡ true → is_beyond (descends args) c x ≡ true)
    all_sent [] least c from rise = (sym (ap (ordered (by_column column (descends args))) (keeps_none _ last_rows (each_of _ (λ r. nowhere (matching r) (goes column (descends args) c r)) last_rows))), λ x h. h)
    all_sent (v ∷ vs) least c from rise =
        let here : since ≤ v = omega (arith, from, rise.0) in
        let one = sent v c here in
        let next = cursor_after the_stream c (next_rows m q the_stream c (snapshot m.catalog txs v)) in
        let more = all_sent vs v next here rise.1 in
        (ap₂ (λ xs ys. xs ++ ys) one.is more.0 ∙ joined column (descends args) matching c next (end_of vs next) one.on more.1 last_rows, λ x h. one.on x (more.1 x h))

    pub sends_once : (versions : List ℕ) (c : Val) → NeverFall since versions → streamed m q the_stream txs versions c ≡ passed m q the_stream txs c (end_of versions c)
    sends_once versions c rise =
        (all_sent versions since c (omega arith) rise).0
        ∙ ap (ordered (by_column column (descends args))) (sym (same_filter (is_passed m q the_stream txs c (end_of versions c)) _ last_rows
        (each_of _ (λ r. four_same (is_asked m q table args r) (is_permitted m q table r) (goes column (descends args) c r) (not (goes column (descends args) (end_of versions c) r))) last_rows)))

found_by : (m : Metadata) (q : Query) (root : Root) (args : List GPair) (s : Stream) → stream_by (view_of m q) root args ≡ Some s → (table : ℕ) × (the_stream m q table args ≡ s)
found_by m q (StreamOf table) args s h = (table, let k : Some (the_stream m q table args) ≡ Some s = h in let is : the_stream m q table args ≡ s = cc in is)
found_by m q (RowsOf table) args s h = absurd (let k : ◌≡◌ {A = Option Stream} None (Some s) = h in cc)
found_by m q (RowOf table) args s h = absurd (let k : ◌≡◌ {A = Option Stream} None (Some s) = h in cc)
found_by m q NoRoot args s h = absurd (let k : ◌≡◌ {A = Option Stream} None (Some s) = h in cc)

found_in : (m : Metadata) (q : Query) (fs : List FlatField) (s : Stream) → stream_in m q fs ≡ Some s → (table : ℕ) × (args : List GPair) × (the_stream m q table args ≡ s)
found_in m q (f ∷ []) s h = let r = found_by m q (root_of (view_of m q) q.selection.kind f) (out-FlatField f).args s h in (r.0, (out-FlatField f).args, r.1)
found_in m q [] s h = absurd (let k : ◌≡◌ {A = Option Stream} None (Some s) = h in cc)
found_in m q (f ∷ g ∷ fs) s h = absurd (let k : ◌≡◌ {A = Option Stream} None (Some s) = h in cc)

-- from any cursor on
pub any_streams_send_once : (m : Metadata) (q : Query) (s : Stream) → stream_of m q ≡ Some s → (txs : List (List TxChange)) (since : ℕ) (versions : List ℕ) (c : Val) → NeverFall since versions → Appended m q s txs since →
    streamed m q s txs versions c ≡ passed m q s txs c (cursor_at_end m q s txs versions c)
any_streams_send_once m q s found txs since versions c rise appended =
    let r = found_in m q q.selection.fields s found in
    subst (λ z. Appended m q z txs since → streamed m q z txs versions c ≡ passed m q z txs c (cursor_at_end m q z txs versions c)) r.2
    (λ app. sends_once m q r.0 r.1 txs since app versions c rise) appended

pub streams_send_once : StreamsSendOnce
streams_send_once m a _ s found txs since versions _ rise _ appended = any_streams_send_once m a.query s found txs since versions a.cursor rise appended
