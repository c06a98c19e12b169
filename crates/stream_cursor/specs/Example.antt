-- Maps of the tests: the numbers below a bound are those of streams, and nothing is ready to be moved. This project's own.
use Rattle.std.specs.Prelude.{◌≡◌, ◌≤◌, ◌<◌, ℕ, true, []}
use Rattle.std.specs.List.{AllByRecursion}
use Rattle.cohort_map.specs.Entries.{Held, has_stream}

pub record HasStreams (next : ℕ) (held : Held) : Type 0 where
  pub below : AllByRecursion (λ e. e.number < next) held.entries
  pub unready : held.ready ≡ []
  pub there : (number : ℕ) → 1 ≤ number → number < next → has_stream number held.entries ≡ true
