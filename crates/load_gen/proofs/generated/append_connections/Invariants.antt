use Rattle.std.proofs.Common.{◌≡◌, ◌-◌, ◌++◌}
use Rattle.std.specs.List.{flat_map, range_with_len}
use Rattle.wire_model.specs.Generated.{ended, connection_lines}
use Rattle.load_gen.proofs.generated.append_connections.Given as goal

-- what is written so far, and then the connections that are left
abbrev pub invariant-loop-conn : goal.invariant-loop-conn
invariant-loop-conn l =
    l.out.items ++ flat_map (λ c. flat_map ended (connection_lines l.n c)) (range_with_len l.conn (l.conn-end - l.conn))
    ≡ l.fn.out.items ++ flat_map (λ c. flat_map ended (connection_lines l.n c)) (range_with_len 1 l.n)
