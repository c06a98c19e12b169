-- How many steps a transaction may take: for each change the rows of its table, and one. This project's own.
use Rattle.std.specs.Prelude.{ℕ, ◌+◌, List, [], ◌∷◌, length, Result, Ok, Err}
use Rattle.std.specs.List.{position_or_len}
use Rattle.data_model.specs.declared.catalog.Catalog.{Catalog}
use Rattle.data_model.specs.declared.transaction.Reason.{Reason}
use Rattle.data_model.specs.declared.transaction.TxChange.{TxChange}
use Rattle.data_model.specs.Rows.{Database}
use Rattle.data_model.specs.Transactions.{change, is_table, table_of, rows_at}

abbrev pub change_cost : Catalog → Database → TxChange → ℕ
change_cost catalog db c = length (rows_at db (position_or_len (is_table (table_of c)) catalog.tables)) + 1

abbrev pub cost_on : Result Database Reason → (Database → ℕ) → ℕ
cost_on (Ok after) more = more after
cost_on (Err r) more = 0

abbrev pub cost : Catalog → Database → List TxChange → ℕ
cost catalog db [] = 0
cost catalog db (c ∷ cs) = change_cost catalog db c + cost_on (change catalog db c) (λ after. cost catalog after cs)
