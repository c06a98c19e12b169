-- What one call of a source or a sink may do, by its answer. The rules are this project's own.
use Rattle.std.specs.Prelude.{◌≡◌, ℕ, ◌+◌, ◌-◌, ◌^◌, ◌<◌, ◌≤◌, min, Option, Some, None, List, [], ◌++◌, length, take, drop}
use Rattle.outside.specs.declared.source.Got.{Got}
use Rattle.outside.specs.declared.source.Got.TheVariants as got
use Rattle.outside.specs.declared.sink.Put.{Put}
use Rattle.outside.specs.declared.sink.Put.TheVariants as put

-- a count in 64 bits, one further; it stands still at its end
abbrev pub next_count : ℕ → ℕ
next_count n = min (n + 1) (2 ^ 64 - 1)

-- a count of faults has risen; one at its end is taken to rise
abbrev pub Rose : ℕ → ℕ → Type 0
Rose before now = min (before + 1) (2 ^ 64 - 1) ≤ now

-- how many bytes a read gives, into a buffer of so many
abbrev pub IsCounted : Got → ℕ → Type 0
IsCounted (got.Bytes n) len = (0 < n) × (n ≤ len)
IsCounted got.End len = Unit {0}
IsCounted got.Failed len = Unit {0}

-- what was left and what is left then, where the source tells it; the bytes stand at the front of the buffer
abbrev pub Takes : Option (List ℕ) → Option (List ℕ) → Got → List ℕ → Type 0
Takes None after r buf = Unit {0}
Takes (Some left) after (got.Bytes n) buf = (take n buf ≡ take n left) × (n ≤ length left) × (after ≡ Some (drop n left))
Takes (Some left) after got.End buf = (left ≡ []) × (after ≡ Some left)
Takes (Some left) after got.Failed buf = after ≡ Some left

-- the count of faults never falls, and rose where the source failed
pub record HasCause (before now : ℕ) (r : Got) : Type 0 where
  pub later : before ≤ now
  pub failed : r ≡ got.Failed → Rose before now

-- how many of so many bytes a write takes
abbrev pub IsPutCounted : Put → ℕ → Type 0
IsPutCounted (put.Bytes n) len = (0 < n) × (n ≤ len)
IsPutCounted put.Failed len = Unit {0}
IsPutCounted put.NoMemory len = Unit {0}

-- what was written before and is written then, where the sink tells it
abbrev pub Adds : Option (List ℕ) → Option (List ℕ) → Put → List ℕ → Type 0
Adds None after r bytes = Unit {0}
Adds (Some written) after (put.Bytes n) bytes = after ≡ Some (written ++ take n bytes)
Adds (Some written) after put.Failed bytes = after ≡ Some written
Adds (Some written) after put.NoMemory bytes = after ≡ Some written

-- the count of faults never falls, and rose where the sink failed
pub record PutHasCause (before now : ℕ) (r : Put) : Type 0 where
  pub later : before ≤ now
  pub failed : r ≡ put.Failed → Rose before now
