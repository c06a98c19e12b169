-- One change of a database by what its table's rows answer.
use Rattle.std.proofs.Common.{◌≡◌, ℕ, ◌<◌, Option, Some, None, length, refl, sym, ◌∙◌, ap, unwrap_or, arith}
use Rattle.std.specs.Prelude.{Result, Ok, Err, IfOk}
use Rattle.std.specs.List.{find, position_or_len, slice_get}
use Rattle.std.proofs.lemmas.List.Folds.{find_at}
use Rattle.std.proofs.lemmas.Option.{slice_get_within}
use Rattle.data_model.specs.declared.catalog.Catalog.{Catalog}
use Rattle.data_model.specs.declared.catalog.TableDef.{TableDef}
use Rattle.data_model.specs.declared.transaction.Reason.{Reason}
use Rattle.data_model.specs.declared.transaction.Reason.TheVariants as reason
use Rattle.data_model.specs.declared.transaction.TxChange.{TxChange}
use Rattle.data_model.specs.Rows.{Database, Fits, first_reason}
use Rattle.data_model.specs.Transactions.{change, change_in, is_table, rows_after, table_of, tests_of, unless}
use Rattle.data_model.proofs.Fitting.{as_many}
use Rattle.row_store.specs.declared.stored.Stored.{Stored}
use Rattle.row_store.specs.declared.stored.Stored.TheVariants.{Done, NoRow, KeyTaken, UniqueTaken, TableFull}
use Rattle.row_store.specs.Held.{Held, no_table, def_at, table_at, rows_at, with_rows}
use Rattle.row_store.specs.Stored.{reason_of, after}

-- what no reason is against, is done
pub done_by : {A : Type 0} (stored : Stored) (old made new : A) → new ≡ after (Ok stored) old made → reason_of stored ≡ None → new ≡ made
done_by Done old made new is e = is
done_by NoRow old made new is e = cc
done_by KeyTaken old made new is e = cc
done_by UniqueTaken old made new is e = cc
done_by TableFull old made new is e = cc

answered : (reasons r : Option Reason) (made after : Database) → r ≡ reasons → (r ≡ None → after ≡ made) → unless reasons made ≡ unless r after
answered None None made after is state = ap Ok (sym (state refl))
answered None (Some a) made after is state = cc
answered (Some b) None made after is state = cc
answered (Some b) (Some a) made after is state = ap (λ (o : Option Reason). unless o made) (sym is)

pub change_answers : (catalog : Catalog) (held new : Held) (c : TxChange) (table : TableDef) (at : ℕ) (r : Option Reason) → at ≡ position_or_len (is_table (table_of c)) catalog.tables → Some table ≡ slice_get catalog.tables at → r ≡ first_reason (tests_of c table (rows_at held at)) → (r ≡ None → new ≡ with_rows held at (rows_after c table (rows_at held at))) → change catalog held.tables c ≡ unless r new.tables
change_answers catalog held new c table at r place here answer state =
    let found : find (is_table (table_of c)) catalog.tables ≡ Some table = find_at (is_table (table_of c)) catalog.tables ∙ ap (slice_get catalog.tables) (sym place) ∙ sym here in
    ap (λ (o : Option TableDef). change_in o (position_or_len (is_table (table_of c)) catalog.tables) held.tables c) found
    ∙ ap (λ (n : ℕ). change_in (Some table) n held.tables c) (sym place)
    ∙ answered (first_reason (tests_of c table (rows_at held at))) r (with_rows held at (rows_after c table (rows_at held at))).tables new.tables answer (λ e. ap (λ (h : Held). h.tables) (state e))

pub no_table_answers : (catalog : Catalog) (held new : Held) (c : TxChange) (at : ℕ) → at ≡ position_or_len (is_table (table_of c)) catalog.tables → None ≡ slice_get catalog.tables at → change catalog held.tables c ≡ unless (Some reason.NoTable) new.tables
no_table_answers catalog held new c at place here =
    let found : find (is_table (table_of c)) catalog.tables ≡ None = find_at (is_table (table_of c)) catalog.tables ∙ ap (slice_get catalog.tables) (sym place) ∙ sym here in
    ap (λ (o : Option TableDef). change_in o (position_or_len (is_table (table_of c)) catalog.tables) held.tables c) found

-- the definition of a table that is there
pub table_is : (catalog : Catalog) (held : Held) (table : TableDef) (at : ℕ) → held.catalog ≡ catalog → Some table ≡ slice_get catalog.tables at → table_at held at ≡ table
table_is catalog held table at same here =
    ap (λ (k : Catalog). def_at k.tables at) same ∙ ap (λ (o : Option TableDef). unwrap_or o no_table) (sym here)

pub table_within : (catalog : Catalog) (held : Held) (table : TableDef) (place at : ℕ) → held.catalog ≡ catalog → Fits held.catalog held.tables → Some table ≡ slice_get catalog.tables place → at ≡ place → at < length held.tables
table_within catalog held table place at same fits here is =
    let within = slice_get_within catalog.tables place table (sym here) in
    let many = as_many held.catalog.tables held.tables fits in
    omega (arith, within, many, is, ap (λ (k : Catalog). length k.tables) same)

pub both_ok : {A E : Type 0} (r : Result A E) (P Q R : A → Type 0) → ((x : A) → P x → Q x → R x) → IfOk r P → IfOk r Q → IfOk r R
both_ok (Ok x) P Q R f p q = f x p q
both_ok (Err e) P Q R f p q = tt
