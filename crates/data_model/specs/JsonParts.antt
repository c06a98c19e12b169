-- What stands in a JSON value (RFC 8259), over what `serde_json` reads of a text: scalars, and the members of an object.
use Rattle.std.specs.Prelude.{ℕ, List, Option, Some, None, option_map, option_and_then}
use Rattle.serde_json.specs.Data.{Data, null, boolean, number, string, array, object, Members}
use Rattle.serde_json.specs.Find.{as_i64, get_member}
use Rattle.scalar_val.specs.declared.val.Val.{Val}
use Rattle.scalar_val.specs.declared.val.Val.TheVariants as val

-- a boolean, an integer of 64 bits, or a string
abbrev pub scalar_of : Data → Option Val
scalar_of (boolean b) = Some (val.Bool b)
scalar_of (number n) = option_map val.Big (as_i64 n)
scalar_of (string s) = Some (val.Text s)
scalar_of _ = None

abbrev pub scalar_or_null : Data → Option Val
scalar_or_null null = Some val.Null
scalar_or_null d = scalar_of d

-- the value of a required key, in its form
abbrev pub required : {A : Type 0} → (Data → Option A) → List ℕ → Members → Option A
required form key ms = option_and_then form (get_member key ms)
