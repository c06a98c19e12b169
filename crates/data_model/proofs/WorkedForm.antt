-- Worked examples of the JSON form of a transaction, which compute.
use Rattle.std.specs.Prelude.{◌≡◌, ℕ, pos, List, [], ◌∷◌, Some, None, refl, codes}
use Rattle.serde_json.proofs.OnLiterals.{serde_json_on_literals}
use Rattle.scalar_val.specs.declared.val.Val.TheVariants as val
use Rattle.data_model.specs.declared.transaction.TxChange.TheVariants.{Insert, Update, Delete}
use Rattle.data_model.specs.Form.{cell_of, transaction}

pub empty_list : transaction (codes "[]") ≡ Some []
unfolding serde_json_on_literals
empty_list = refl

pub no_list : transaction (codes "{}") ≡ None
unfolding serde_json_on_literals
no_list = refl

pub one_insert : transaction (codes "[{\"row\":{\"name\":\"Ann\",\"id\":1},\"insert\":\"user\"}]")
    ≡ Some (Insert (codes "user") (cell_of (codes "id") (val.Big (pos 1)) ∷ cell_of (codes "name") (val.Text (codes "Ann")) ∷ []) ∷ [])
unfolding serde_json_on_literals
one_insert = refl

pub other_key : transaction (codes "[{\"insert\":\"user\",\"row\":{},\"set\":{}}]") ≡ None
unfolding serde_json_on_literals
other_key = refl
