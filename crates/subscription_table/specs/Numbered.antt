-- How a table holds its subscriptions: each under its number.
use Rattle.std.specs.Prelude.{◌≡◌, ℕ, List}
use Rattle.std.specs.List.{AllByRecursion}
use Rattle.subscription_table.specs.declared.held.Held.{Held}

abbrev pub AreNumbered : List (ℕ × Held) → Type 0
AreNumbered es = AllByRecursion (λ (e : ℕ × Held). e.1.number ≡ e.0) es
