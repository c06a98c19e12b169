-- How the table holds its connections: each under its number, with a count of the texts that are promised for it.
use Rattle.std.specs.Prelude.{◌≡◌, ◌≤◌, ℕ, ◌==◌, Option, Some, None, IfSome, List, length, map}
use Rattle.std.specs.List.{filter}
use Rattle.std.specs.Ordering.{nat_cmp}
use Rattle.std.specs.BTreeMap.{BTreeMap, IsOrdered, get}
use Rattle.connection_table.specs.declared.connection.Connection.{Connection}
use Rattle.connection_table.specs.Connected.{Connected, Table}

-- what contracts see of the connection of a number
abbrev pub seen : ℕ → Connection → Connected
seen number c = record { number = number; phase = c.phase; queue = c.queue.texts; live = c.live.items }

abbrev pub seen_entry : ℕ × Connection → Connected
seen_entry e = seen e.0 e.1

abbrev pub seen_table : BTreeMap ℕ Connection → List ℕ → Table
seen_table connections promised = record { connections = map seen_entry connections.entries; promised = promised }

-- the queue takes as many texts without new memory as are promised
abbrev pub HasRoom : Connection → Type 0
HasRoom c = c.promises ≤ c.queue.spare

abbrev pub promises_of : Option Connection → ℕ
promises_of None = 0
promises_of (Some c) = c.promises

-- how many texts are promised for a number
abbrev pub count_of : ℕ → List ℕ → ℕ
count_of number promised = length (filter (λ n. n == number) promised)

pub record IsKept (connections : BTreeMap ℕ Connection) (promised : List ℕ) : Type 0 where
  pub ordered : IsOrdered nat_cmp connections
  pub counted : (n : ℕ) → promises_of (get nat_cmp connections n) ≡ count_of n promised
  pub room : (n : ℕ) → IfSome (get nat_cmp connections n) HasRoom

-- a connection is after a call what f makes of it, and has room for as many promised texts
pub record Becomes (f : Connected → Connected) (before after : Connection) : Type 0 where
  pub is : (n : ℕ) → seen n after ≡ f (seen n before)
  pub promises : after.promises ≡ before.promises
  pub room : HasRoom before → HasRoom after
