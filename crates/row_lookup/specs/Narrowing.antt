-- Some of the rows, among which are all that are wanted. This project's own.
use Rattle.std.specs.Prelude.{◌≡◌, Bool, true, IsTrue, filter}
use Rattle.std.specs.List.{list_all}
use Rattle.data_model.specs.Rows.{Row, Rows}

-- Whatever is shown, if only what is wanted is, these rows show what all show; and they are rows of these.
pub record Narrowed (Wanted : Row → Type 0) (all some : Rows) : Type 0 where
  pub told : (shown : Row → Bool) → ((row : Row) → shown row ≡ true → Wanted row) → filter shown some ≡ filter shown all
  pub of : (p : Row → Bool) → IsTrue (list_all p all) → IsTrue (list_all p some)
