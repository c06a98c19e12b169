-- What rows give: their objects in compact JSON (RFC 8259), in the payload of a result of GraphQL (October 2021,
-- section 7.1), with the number of rows, and where a stream stands after them.
use Rattle.std.specs.Prelude.{ℕ, List, [], length, map, ◌∷◌, codes}
use Rattle.scalar_val.specs.declared.val.Val.{Val}
use Rattle.scalar_val.specs.declared.val.Val.TheVariants as val
use Rattle.scalar_val.specs.ValText.{val_text}
use Rattle.scalar_val.specs.Joined.{Text, in_brackets, in_braces, named_text}
pub use Rattle.json_out.specs.declared.data.Outcome.{Outcome}
use Rattle.scalar_val.specs.Values.{cell}
use Rattle.data_model.specs.Rows.{Row, Rows, Database}
use Rattle.plan_model.specs.Taken.{Extent, All, First, Next, Wanted, taken}

-- ---- texts in compact JSON (RFC 8259)

abbrev pub quoted_text : Text → Text
quoted_text t = val_text (val.Text t)

abbrev pub null_text : Text
null_text = val_text val.Null

-- the first object or null, or the list of all
abbrev pub answer_text : Extent → List Text → Text
answer_text First [] = null_text
answer_text First (t ∷ ts) = t
answer_text (All orders offset limit) ts = in_brackets ts
answer_text (Next column descending batch) ts = in_brackets ts

-- what a field gives in the object of a row of a table: its key and its value
abbrev pub Pair : Type 0
Pair = ℕ → Row → Text

abbrev pub object_text : List Pair → ℕ → Row → Text
object_text pairs table row = in_braces (map (λ (p : Pair). p table row) pairs)

abbrev pub wanted_text : Database → Wanted → List Pair → Text
wanted_text db w pairs = answer_text w.extent (map (object_text pairs w.table) (taken db w))

abbrev pub payload_text : Text → Text → Text
payload_text key text =
    in_braces (named_text (quoted_text (codes "data")) (in_braces (named_text (quoted_text key) text ∷ [])) ∷ [])

-- ---- results

abbrev pub last_row : Rows → Row
last_row [] = []
last_row (r ∷ []) = r
last_row (r ∷ s ∷ rs) = last_row (s ∷ rs)

abbrev pub last_value : Extent → Rows → Val
last_value (Next column descending batch) rows = cell (last_row rows) column
last_value (All orders offset limit) rows = val.Null
last_value First rows = val.Null

-- the payload's text, the number of root rows, and for a stream the cursor column's value in the last of them, else
-- null
abbrev pub result_of : Database → Text → Wanted → List Pair → Outcome
result_of db key w pairs = record {
  text = payload_text key (wanted_text db w pairs);
  rows = length (taken db w);
  last = last_value w.extent (taken db w);
}
