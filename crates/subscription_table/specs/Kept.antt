-- What a table of subscriptions holds after each of its calls.
use Rattle.std.specs.Prelude.{ℕ, ◌==◌, not, if◌then◌else◌, Option, Some, List, map, filter, find}
use Rattle.subscription_table.specs.declared.held.Held.{Held}

-- the subscription of a number
abbrev pub held_at : ℕ → List Held → Option Held
held_at number hs = find (λ (h : Held). h.number == number) hs

-- all others
abbrev pub without : ℕ → List Held → List Held
without number hs = filter (λ (h : Held). not (h.number == number)) hs

-- its last result has this text
abbrev pub remembers : List ℕ → Held → Held
remembers text h = record h { last = Some text }

abbrev pub with_last : ℕ → List ℕ → List Held → List Held
with_last number text hs = map (λ (h : Held). if h.number == number then remembers text h else h) hs
