-- The reasons of a change that look at no row: its names, its kinds and its nulls. This project's own.
use Rattle.std.specs.Prelude.{Bool, not, ◌&&◌, Option, Some, None, List, [], ◌∷◌, ◌++◌}
use Rattle.std.specs.List.{list_any, list_all}
use Rattle.scalar_val.specs.declared.val.Val.{Val}
use Rattle.data_model.specs.declared.catalog.Column.{Column}
use Rattle.data_model.specs.declared.catalog.TableDef.{TableDef}
use Rattle.data_model.specs.declared.transaction.Reason.{Reason}
use Rattle.data_model.specs.declared.transaction.Reason.TheVariants as reason
use Rattle.data_model.specs.declared.transaction.TxCell.{TxCell}
use Rattle.data_model.specs.Rows.{Test, test, first_reason}
use Rattle.data_model.specs.Transactions.{given, key_columns, names_one, name_exactly, may_set, is_wrong, is_null_wrongly, lacks}

-- the value that cells give a column, where there is one
abbrev pub given_at : List TxCell → Option Column → List Val
given_at cells (Some column) = given cells column ∷ []
given_at cells None = []

abbrev pub naming_tests : Bool → Bool → Bool → List Test
naming_tests no_column wrong_kind null = test reason.NoColumn no_column ∷ test reason.WrongKind wrong_kind ∷ test reason.NullGiven null ∷ []

abbrev pub insert_naming : TableDef → List TxCell → Option Reason
insert_naming table row =
    first_reason (naming_tests (not (list_all (names_one table.columns) row)) (list_any (is_wrong table.columns) row) (list_any (lacks row) table.columns))

abbrev pub update_naming : TableDef → List TxCell → List TxCell → Option Reason
update_naming table key set =
    first_reason
    (naming_tests (not (name_exactly (key_columns table) key && list_all (may_set table) set)) (list_any (is_wrong table.columns) (key ++ set)) (list_any (is_null_wrongly table.columns) (key ++ set)))

abbrev pub delete_naming : TableDef → List TxCell → Option Reason
delete_naming table key =
    first_reason (naming_tests (not (name_exactly (key_columns table) key)) (list_any (is_wrong table.columns) key) (list_any (is_null_wrongly table.columns) key))
