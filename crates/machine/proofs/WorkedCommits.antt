-- Worked runs of transactions: those refused, and each reason.
use Rattle.std.proofs.Common.{ℕ, List, [], ◌∷◌, ◌++◌, pos, refl}
use Rattle.std.specs.Prelude.{codes}
use Rattle.std.specs.Fmt.{digits}
use Rattle.scalar_val.specs.declared.val.Val.TheVariants as val
use Rattle.data_model.specs.declared.transaction.TxChange.{TxChange}
use Rattle.data_model.specs.declared.transaction.TxChange.TheVariants.{Insert, Update}
use Rattle.role_model.specs.declared.metadata.Metadata.{Metadata}
use Rattle.request_model.specs.Strings.{Text}
use Rattle.machine.specs.State.{opening, Commit, Report}
use Rattle.machine.proofs.Samples.{users, user_table, cell, at_rest, Leads}

abbrev user_of : ℕ → List TxChange
user_of id = Insert (codes "user") (cell (codes "id") (val.Big (pos id)) ∷ []) ∷ []

-- a transaction with a change at fault changes nothing, and an empty one counts
refused_transaction : Leads users opening (Commit (user_of 1 ++ user_of 2 ++ user_of 1) ∷ Report ∷ Commit []
    ∷ Commit (user_of 1) ∷ Report ∷ [])
    (at_rest ([] ∷ user_of 1 ∷ []) [] [] 0)
    (codes "refused 3 KeyTaken\nreport connections 0 live 0 due 0 jobs 0 version 0\n"
    ++ codes "commit 1\ncommit 2\nreport connections 0 live 0 due 0 jobs 0 version 2\n")
unfolding digits
refused_transaction = record { is = refl }

-- users of whom there may be one, and whose names are unique
abbrev one_user : Metadata
one_user = record users { catalog = record { tables = record user_table { unique = 1 ∷ []; max_rows = 1 } ∷ [] } }

abbrev named : ℕ → Text → TxChange
named id name = Insert (codes "user") (cell (codes "id") (val.Big (pos id)) ∷ cell (codes "name") (val.Text name) ∷ [])

-- each reason for which a change is refused
each_reason : Leads one_user opening
    (Commit (named 1 (codes "Ann") ∷ []) ∷ Commit (named 2 (codes "Ann") ∷ []) ∷ Commit (user_of 2)
    ∷ Commit (Update (codes "user") (cell (codes "id") (val.Big (pos 3)) ∷ []) [] ∷ [])
    ∷ Commit (Insert (codes "x") [] ∷ [])
    ∷ Commit (Insert (codes "user") (cell (codes "age") (val.Big (pos 1)) ∷ cell (codes "id") (val.Big (pos 2)) ∷ [])
    ∷ [])
    ∷ Commit (Insert (codes "user") (cell (codes "id") (val.Text (codes "a")) ∷ []) ∷ [])
    ∷ Commit (Insert (codes "user") (cell (codes "name") (val.Text (codes "B")) ∷ []) ∷ []) ∷ Commit (user_of 1) ∷ [])
    (at_rest ((named 1 (codes "Ann") ∷ []) ∷ []) [] [] 0)
    (codes "commit 1\nrefused 1 UniqueTaken\nrefused 1 TableFull\nrefused 1 NoRow\nrefused 1 NoTable\n"
    ++ codes "refused 1 NoColumn\n"
    ++ codes "refused 1 WrongKind\nrefused 1 NullGiven\nrefused 1 KeyTaken\n")
unfolding digits
each_reason = record { is = refl }
