use Rattle.std.proofs.Common.{◌≡◌, map, length}
use Rattle.connection_table.specs.Seen.{IsKept, seen_entry}
use Rattle.connection_table.proofs.table.ConnectionTable.drop_promises.Given as goal

abbrev pub invariant-loop-conn : goal.invariant-loop-conn
invariant-loop-conn l = record {
  keeps : IsKept l.self-inside.connections l.self-inside.promised.items;
  same : map seen_entry l.self-inside.connections.entries ≡ map seen_entry l.initial.self-inside.connections.entries;
}

abbrev pub decreases-loop-conn : goal.decreases-loop-conn
decreases-loop-conn l = length l.self-inside.promised.items
