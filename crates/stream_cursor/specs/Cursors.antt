-- Where a stream stands after its rows are sent (Hasura's streaming subscriptions).
use Rattle.std.specs.Prelude.{ℕ, zero, suc, Option, Some, None}
use Rattle.scalar_val.specs.declared.val.Val.{Val}

-- by the number of rows, and the cursor value of the last of them
abbrev pub cursor_after : ℕ → Val → Option Val
cursor_after zero last = None
cursor_after (suc rows) last = Some last
