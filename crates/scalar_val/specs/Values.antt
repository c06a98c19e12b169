-- Facts about a value and its kind: null, the value at a place, the kinds in their order. This project's own.
use Rattle.std.specs.Prelude.{ℕ, Bool, true, false, ◌==◌, List, Option, slice_get, unwrap_or}
use Rattle.scalar_val.specs.declared.val.Val.{Val}
use Rattle.scalar_val.specs.declared.val.Val.TheVariants as val
use Rattle.scalar_val.specs.declared.val.Kind.{Kind}
use Rattle.scalar_val.specs.declared.val.Kind.TheVariants as kind

abbrev pub is_null : Val → Bool
is_null val.Null = true
is_null _ = false

-- the value, and null where there is none
abbrev pub value_or_null : Option Val → Val
value_or_null value = unwrap_or value val.Null

-- the value at a place, and null past the end
abbrev pub cell : List Val → ℕ → Val
cell values place = value_or_null (slice_get values place)

-- a value of the kind, and not null
abbrev pub has_kind : Kind → Val → Bool
has_kind kind.Bool (val.Bool b) = true
has_kind kind.Int (val.Int z) = true
has_kind kind.Big (val.Big z) = true
has_kind kind.Text (val.Text t) = true
has_kind kind.Uuid (val.Uuid n) = true
has_kind _ _ = false

-- the place of a kind in the order of kinds
abbrev pub kind_rank : Kind → ℕ
kind_rank kind.Bool = 0
kind_rank kind.Int = 1
kind_rank kind.Big = 2
kind_rank kind.Text = 3
kind_rank kind.Uuid = 4

abbrev pub same_kind : Kind → Kind → Bool
same_kind a b = kind_rank a == kind_rank b
