-- What the rows of a stream's table are later, beside those that a stream has passed.
use Rattle.std.proofs.Common.{◌≡◌, ℕ, ◌+◌, Bool, true, false, not, ◌&&◌, ◌||◌, cond, List, [], ◌∷◌, ◌++◌, filter, slice_get, Option, Some, Result, Ok, Err, refl, ap, sym, ◌∙◌, subst, ◌⊎◌, inl, inr}
use Rattle.std.proofs.lemmas.Slice.Eq.{bytes_eq-Decides}
use Rattle.std.specs.Str.{bytes_eq}
use Rattle.std.specs.List.{AllByRecursion, list_all, list_any}
use Rattle.scalar_val.specs.declared.val.Val.{Val}
use Rattle.data_model.specs.declared.catalog.TableDef.{TableDef}
use Rattle.data_model.specs.declared.transaction.Reason.{Reason}
use Rattle.data_model.specs.declared.transaction.TxFault.{TxFault}
use Rattle.data_model.specs.declared.transaction.TxChange.{TxChange}
use Rattle.data_model.specs.declared.transaction.TxChange.TheVariants.{Insert, Update, Delete}
use Rattle.scalar_val.specs.Values.{cell}
use Rattle.data_model.specs.Rows.{Row, Rows, Database, Ascends, key_of, has_key, is_below, is_above, inserted}
use Rattle.data_model.specs.Transactions.{rows_at, row_given, change, apply, apply_from, go_on, after_or_same, database_after}
use Rattle.role_model.specs.declared.metadata.Metadata.{Metadata}
use Rattle.query_model.specs.Queries.{Query}
use Rattle.plan_model.specs.Taken.{is_beyond}
use Rattle.query_model.specs.Names.{name_in}
use Rattle.query_model.specs.StreamLaws.{Stream, appends, all_append, transactions_append, after_change, is_refused, stream_table, inserted_value}
use Rattle.stream_laws.proofs.StreamTables.{Changed, change_at, parted}
use Rattle.stream_laws.proofs.StreamPieces.{between}
use Rattle.stream_laws.proofs.SettledTables.{Settled, settled_after, key_free}

pub splitting : (a b : Bool) → (a && b) ≡ true → (a ≡ true) × (b ≡ true)
splitting true b h = (refl, h)
splitting false b h = absurd (let k : false ≡ true = h in cc)

nothing_true : (b : Bool) → b ≡ true → not b ≡ true → ⊥
nothing_true b h k = cc

all_told : (f : Row → Bool) (rows : Rows) → list_all f rows ≡ true → AllByRecursion (λ r. f r ≡ true) rows
all_told f [] h = tt
all_told f (r ∷ rows) h = let parts = splitting (f r) (list_all f rows) h in (parts.0, all_told f rows parts.1)

all_but : (P : Row → Type 0) (xs : Rows) (y : Row) (zs : Rows) → AllByRecursion P (xs ++ y ∷ zs) → AllByRecursion P (xs ++ zs)
all_but P [] y zs h = h.1
all_but P (x ∷ xs) y zs h = (h.0, all_but P xs y zs h.1)

none_but : (g : Row → Bool) (xs : Rows) (y : Row) (zs : Rows) → g y ≡ false → filter g (xs ++ y ∷ zs) ≡ filter g (xs ++ zs)
none_but g [] y zs h = ap (λ b. cond b (y ∷ filter g zs) (filter g zs)) h
none_but g (x ∷ xs) y zs h = ap (λ ys. cond (g x) (x ∷ ys) ys) (none_but g xs y zs h)

not_between : (p a b : Bool) → b ≡ true → (p && (a && not b)) ≡ false
not_between false a b h = refl
not_between true false b h = refl
not_between true true b h = ap not h

module _ (m : Metadata) (q : Query) (s : Stream) (l : Row) (p : Row → Bool) (from : Val) where
  abbrev tables : List TableDef
  tables = m.catalog.tables

  abbrev pub Present : Rows → Type 0
  Present rows = (f : Row → Bool) → AllByRecursion (λ r. f r ≡ true) rows → f l ≡ true

  abbrev pub kept : Row → Bool
  kept = between s.column s.descending p from (cell l s.column)

  pub record Grown (before after : Rows) : Type 0 where
    pub settled : Settled tables s.table after
    pub present : Present after
    pub same : filter kept after ≡ filter kept before

  by_insert : (t : TableDef) (row : Row) (rows : Rows) → Ascends t rows → list_any (has_key t (key_of t row)) rows ≡ false → Present rows → AllByRecursion (λ r. is_beyond s.descending (cell r s.column) (cell row s.column) ≡ true) rows →
      (Present (inserted t row rows)) × (filter kept (inserted t row rows) ≡ filter kept rows)
  by_insert t row rows up free there beyond =
      let front = filter (is_below t (key_of t row)) rows in
      let back = filter (is_above t (key_of t row)) rows in
      let whole : front ++ back ≡ rows = parted t (key_of t row) rows up free in (
        λ f all. there f (subst (λ ys. AllByRecursion (λ r. f r ≡ true) ys) whole (all_but (λ r. f r ≡ true) front row back all)),
        none_but kept front row back (not_between (p row) _ _ (there (λ r. is_beyond s.descending (cell r s.column) (cell row s.column)) beyond)) ∙ ap (filter kept) whole,
      )

  or_left : (a b : Bool) → a ≡ true → (not a || b) ≡ true → b ≡ true
  or_left true b e h = h
  or_left false b e h = absurd (let k : false ≡ true = e in cc)

  named_so : (o : Option TableDef) (t : TableDef) (name : List ℕ) → o ≡ Some t → bytes_eq t.name name ≡ true → bytes_eq name (name_in o) ≡ true
  named_so o t name e h = (bytes_eq-Decides name (name_in o)).1 (sym ((bytes_eq-Decides t.name name).0 h) ∙ ap name_in (sym e))

  by_change : (db : Database) (after : Rows) (c : TxChange) → Settled tables s.table (rows_at db s.table) → Present (rows_at db s.table) → appends m q s db c ≡ true →
      Changed tables s.table c (rows_at db s.table) after → (Present after) × (filter kept after ≡ filter kept (rows_at db s.table))
  by_change db after (Insert name row) settled there grows ch =
      let t = ch.table in
      let rows = rows_at db s.table in
      let told = or_left (bytes_eq name (stream_table m q s)) _ (named_so (slice_get tables s.table) t name ch.there ch.named) grows in
      let value : inserted_value m q s (slice_get tables s.table) row ≡ cell (row_given t row) s.column = ap (λ o. inserted_value m q s o row) ch.there in
      let beyond : list_all (λ r. is_beyond s.descending (cell r s.column) (cell (row_given t row) s.column)) rows ≡ true =
      ap (λ v. list_all (λ r. is_beyond s.descending (cell r s.column) v) rows) (sym value) ∙ told in
      let made = by_insert t (row_given t row) rows (settled t ch.there).0 (key_free t row rows ch.allowed) there (all_told _ rows beyond) in
      (subst Present (sym ch.made) made.0, ap (filter kept) ch.made ∙ made.1)
  by_change db after (Update name key set) settled there grows ch = absurd (nothing_true (bytes_eq name (stream_table m q s)) (named_so (slice_get tables s.table) ch.table name ch.there ch.named) grows)
  by_change db after (Delete name key) settled there grows ch = absurd (nothing_true (bytes_eq name (stream_table m q s)) (named_so (slice_get tables s.table) ch.table name ch.there ch.named) grows)

  abbrev rows_of : Database → Rows
  rows_of db = rows_at db s.table

  abbrev pub Good : Database → Type 0
  Good db = Settled tables s.table (rows_of db) × Present (rows_of db)

  one_change : (db after : Database) (c : TxChange) → Good db → appends m q s db c ≡ true → change m.catalog db c ≡ Ok after → Grown (rows_of db) (rows_of after)
  one_change db after c good grows e = go (change_at m.catalog db after c s.table e)
    where
      go : (rows_of after ≡ rows_of db) ⊎ (Changed tables s.table c (rows_of db) (rows_of after)) → Grown (rows_of db) (rows_of after)
      go (inl same) = subst (λ rows. Grown (rows_of db) rows) (sym same) (record { settled = good.0; present = good.1; same = refl })
      go (inr ch) = let made = by_change db (rows_of after) c good.0 good.1 grows ch in
          record { settled = settled_after m.catalog db after c s.table good.0 e; present = made.0; same = made.1 }

  and_then : (a b c : Rows) → Grown a b → Grown b c → Grown a c
  and_then a b c g h = record { settled = h.settled; present = h.present; same = h.same ∙ g.same }

  changes_grow : (n : ℕ) (db after : Database) (cs : List TxChange) → Good db → all_append m q s db cs ≡ true → apply_from m.catalog n db cs ≡ Ok after → Grown (rows_of db) (rows_of after)
  changes_grow n db after [] good grows e =
      let is : db ≡ after = let k : ◌≡◌ {A = Result Database TxFault} (Ok db) (Ok after) = e in cc in
      subst (λ d. Grown (rows_of db) (rows_of d)) is (record { settled = good.0; present = good.1; same = refl })
  changes_grow n db after (c ∷ cs) good grows e =
      let parts = splitting (appends m q s db c) _ grows in
      go (change m.catalog db c) (λ d k. one_change db d c good parts.0 k) (λ d g h k. changes_grow (n + 1) d after cs g h k) parts.1 e
    where
      go : (r : Result Database Reason) → ((d : Database) → r ≡ Ok d → Grown (rows_of db) (rows_of d)) →
          ((d : Database) → Good d → all_append m q s d cs ≡ true → apply_from m.catalog (n + 1) d cs ≡ Ok after → Grown (rows_of d) (rows_of after)) →
          all_append m q s (after_change db r) cs ≡ true → go_on n r (λ d. apply_from m.catalog (n + 1) d cs) ≡ Ok after → Grown (rows_of db) (rows_of after)
      go (Ok d) one more h k = let g = one d refl in and_then (rows_of db) (rows_of d) (rows_of after) g (more d (g.settled, g.present) h k)
      go (Err r) one more h k = absurd (let x : ◌≡◌ {A = Result Database TxFault} (Err _) (Ok after) = k in cc)

  pub transactions_grow : (db : Database) (txs : List (List TxChange)) → Good db → transactions_append m q s db txs ≡ true → Grown (rows_of db) (rows_of (database_after m.catalog txs db))
  transactions_grow db [] good grows = record { settled = good.0; present = good.1; same = refl }
  transactions_grow db (tx ∷ txs) good grows =
      let parts = splitting (is_refused (apply m.catalog db tx) || all_append m q s db tx) _ grows in
      let one = go (apply m.catalog db tx) refl parts.0 in
      and_then _ _ _ one (transactions_grow (after_or_same db (apply m.catalog db tx)) txs (one.settled, one.present) parts.1)
    where
      go : (r : Result Database TxFault) → apply m.catalog db tx ≡ r → (is_refused r || all_append m q s db tx) ≡ true → Grown (rows_of db) (rows_of (after_or_same db r))
      go (Ok d) e h = changes_grow 1 db d tx good h e
      go (Err f) e h = record { settled = good.0; present = good.1; same = refl }
