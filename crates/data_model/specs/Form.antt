-- The JSON form of a transaction, over what `serde_json` reads of a text: an object has each key once, with the value of
-- its last pair. This project's own.
use Rattle.std.specs.Prelude.{ℕ, ◌+◌, ◌&&◌, ◌==◌, Bool, if◌then◌else◌, List, [], ◌∷◌, length, is_some, Option, Some, None, option_map, option_and_then, codes}
use Rattle.std.specs.List.{list_all}
use Rattle.serde_json.specs.Data.{Data, null, boolean, number, string, array, object, Items, no_items, item, Members, no_members, member}
use Rattle.serde_json.specs.Find.{as_i64, as_str, get_member}
use Rattle.serde_json.specs.Read.{read}
use Rattle.scalar_val.specs.declared.val.Val.{Val}
use Rattle.scalar_val.specs.declared.val.Val.TheVariants as val
use Rattle.data_model.specs.JsonParts.{required, scalar_or_null}
use Rattle.data_model.specs.declared.transaction.TxCell.{TxCell}
use Rattle.data_model.specs.declared.transaction.TxChange.{TxChange}
use Rattle.data_model.specs.declared.transaction.TxChange.TheVariants.{Insert, Update, Delete}

abbrev pub cell_of : List ℕ → Val → TxCell
cell_of name value = record { column = name; value = value }

abbrev pub cells_from : Members → Option (List TxCell)
cells_from no_members = Some []
cells_from (member name d ms) = option_and_then (λ v. option_map (λ rest. cell_of name v ∷ rest) (cells_from ms)) (scalar_or_null d)

-- an object whose values are scalars
abbrev pub cells_of : Data → Option (List TxCell)
cells_of null = None
cells_of (boolean b) = None
cells_of (number n) = None
cells_of (string s) = None
cells_of (array ds) = None
cells_of (object ms) = cells_from ms

abbrev pub count : Members → ℕ
count no_members = 0
count (member name d ms) = count ms + 1

-- the object has these keys and no other
abbrev pub has_exactly : List (List ℕ) → Members → Bool
has_exactly names ms = (count ms == length names) && list_all (λ name. is_some (get_member name ms)) names

abbrev pub text_at : List ℕ → Members → Option (List ℕ)
text_at = required as_str

abbrev pub cells_at : List ℕ → Members → Option (List TxCell)
cells_at = required cells_of

abbrev pub insert_form : Members → Option TxChange
insert_form ms = option_and_then (λ table. option_map (Insert table) (cells_at (codes "row") ms)) (text_at (codes "insert") ms)

abbrev pub update_form : Members → Option TxChange
update_form ms =
    option_and_then (λ table. option_and_then (λ key. option_map (Update table key) (cells_at (codes "set") ms)) (cells_at (codes "key") ms)) (text_at (codes "update") ms)

abbrev pub delete_form : Members → Option TxChange
delete_form ms = option_and_then (λ table. option_map (Delete table) (cells_at (codes "key") ms)) (text_at (codes "delete") ms)

-- an object with exactly the keys of one form
abbrev pub change_from : Members → Option TxChange
change_from ms =
    if has_exactly (codes "insert" ∷ codes "row" ∷ []) ms then insert_form ms
    else if has_exactly (codes "update" ∷ codes "key" ∷ codes "set" ∷ []) ms then update_form ms
    else if has_exactly (codes "delete" ∷ codes "key" ∷ []) ms then delete_form ms
    else None

abbrev pub change_of : Data → Option TxChange
change_of null = None
change_of (boolean b) = None
change_of (number n) = None
change_of (string s) = None
change_of (array ds) = None
change_of (object ms) = change_from ms

abbrev pub changes_from : Items → Option (List TxChange)
changes_from no_items = Some []
changes_from (item d ds) = option_and_then (λ c. option_map (λ rest. c ∷ rest) (changes_from ds)) (change_of d)

-- a list of changes
abbrev pub transaction_of : Data → Option (List TxChange)
transaction_of null = None
transaction_of (boolean b) = None
transaction_of (number n) = None
transaction_of (string s) = None
transaction_of (array ds) = changes_from ds
transaction_of (object ms) = None

-- the transaction that a text is, if it is one
abbrev pub transaction : List ℕ → Option (List TxChange)
transaction text = option_and_then transaction_of (read text)
