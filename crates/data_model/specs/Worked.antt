-- Worked examples of changes and transactions, which compute.
use Rattle.std.specs.Prelude.{◌≡◌, ℕ, pos, true, false, List, [], ◌∷◌, map, Result, Ok, Err, refl, codes}
use Rattle.scalar_val.specs.declared.val.Val.{Val}
use Rattle.scalar_val.specs.declared.val.Val.TheVariants as val
use Rattle.scalar_val.specs.declared.val.Kind.TheVariants as kind
use Rattle.data_model.specs.declared.catalog.Column.{Column}
use Rattle.data_model.specs.declared.catalog.Catalog.{Catalog}
use Rattle.data_model.specs.declared.transaction.Reason.{Reason}
use Rattle.data_model.specs.declared.transaction.Reason.TheVariants.{NoTable, NoColumn, WrongKind, NullGiven, NoRow, KeyTaken, UniqueTaken, TableFull}
use Rattle.data_model.specs.declared.transaction.TxFault.{TxFault}
use Rattle.data_model.specs.declared.transaction.TxCell.{TxCell}
use Rattle.data_model.specs.declared.transaction.TxChange.{TxChange}
use Rattle.data_model.specs.declared.transaction.TxChange.TheVariants.{Insert, Update, Delete}
use Rattle.data_model.specs.Rows.{Database, no_rows}
use Rattle.data_model.specs.Transactions.{apply, snapshot}

abbrev id_and_name : List Column
id_and_name =
    record { name = codes "id"; kind = kind.Int; nullable = false }
    ∷ record { name = codes "name"; kind = kind.Text; nullable = true }
    ∷ []

-- users have an id, which is the key, and a name or none
abbrev users : Catalog
users = record { tables = record { name = codes "user"; columns = id_and_name; key = 0 ∷ []; unique = []; max_rows = 1048576 } ∷ [] }

-- the same, where names are unique and there may be one user
abbrev one_user : Catalog
one_user = record { tables = record { name = codes "user"; columns = id_and_name; key = 0 ∷ []; unique = 1 ∷ []; max_rows = 1 } ∷ [] }

abbrev id : ℕ → TxCell
id n = record { column = codes "id"; value = val.Big (pos n) }

abbrev name : List ℕ → TxCell
name text = record { column = codes "name"; value = val.Text text }

abbrev user : List TxCell → TxChange
user cells = Insert (codes "user") cells

abbrev rename : List ℕ → TxChange
rename text = Update (codes "user") (id 1 ∷ []) (name text ∷ [])

abbrev refused : ℕ → Reason → Result Database TxFault
refused number r = Err (record { change = number; reason = r })

abbrev one_row : ℕ → Val → Database
one_row n text = ((val.Int (pos n) ∷ text ∷ []) ∷ []) ∷ []

abbrev ann : Val
ann = val.Text (codes "Ann")

-- a change, and a change back
pub changed : map (snapshot users ((user (id 1 ∷ name (codes "Ann") ∷ []) ∷ []) ∷ (rename (codes "Bo") ∷ []) ∷ (rename (codes "Ann") ∷ []) ∷ [])) (0 ∷ 1 ∷ 2 ∷ 3 ∷ []) ≡
    ([] ∷ []) ∷ one_row 1 ann ∷ one_row 1 (val.Text (codes "Bo")) ∷ one_row 1 ann ∷ []
changed = refl

-- the third change takes the key of the first
pub refused_third : apply users (no_rows users) (user (id 1 ∷ []) ∷ user (id 2 ∷ []) ∷ user (id 1 ∷ []) ∷ []) ≡ refused 3 KeyTaken
refused_third = refl

-- each reason, after a user named Ann
abbrev after_ann : TxChange → Result Database TxFault
after_ann c = apply one_user (one_row 1 ann) (c ∷ [])

pub first_user : apply one_user (no_rows one_user) (user (id 1 ∷ name (codes "Ann") ∷ []) ∷ []) ≡ Ok (one_row 1 ann)
first_user = refl

pub each_reason : map after_ann
    (user (id 2 ∷ name (codes "Ann") ∷ [])
    ∷ user (id 2 ∷ [])
    ∷ Update (codes "user") (id 3 ∷ []) []
    ∷ Insert (codes "x") []
    ∷ user (record { column = codes "age"; value = val.Big (pos 1) } ∷ id 2 ∷ [])
    ∷ user (record { column = codes "id"; value = val.Text (codes "a") } ∷ [])
    ∷ user (name (codes "B") ∷ [])
    ∷ user (id 1 ∷ name (codes "Ann") ∷ [])
    ∷ Delete (codes "user") []
    ∷ [])
    ≡ refused 1 UniqueTaken ∷ refused 1 TableFull ∷ refused 1 NoRow ∷ refused 1 NoTable ∷ refused 1 NoColumn ∷ refused 1 WrongKind ∷ refused 1 NullGiven ∷ refused 1 KeyTaken ∷ refused 1 NoColumn ∷ []
each_reason = refl

-- a delete and an update that sets nothing
pub deleted_user : map after_ann (Delete (codes "user") (id 1 ∷ []) ∷ Update (codes "user") (id 1 ∷ []) [] ∷ []) ≡ Ok ([] ∷ []) ∷ Ok (one_row 1 ann) ∷ []
deleted_user = refl
