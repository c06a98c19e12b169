use Rattle.std.proofs.Common.{◌+◌, ◌++◌}
use Rattle.std.specs.List.{flat_map, range_with_len}
use Rattle.wire_model.specs.Generated.{ended, connection_lines}
use Rattle.load_gen.proofs.Scripts.{one_more}
use Rattle.load_gen.proofs.generated.append_connections.Goals as goal

pub loop-conn-preserved : goal.loop-conn-preserved
loop-conn-preserved c =
    one_more (λ k. flat_map ended (connection_lines c.args.n k)) c.loop-conn.out.items c.append_connection.new.out.items
    (c.args.out.now.items ++ flat_map (λ k. flat_map ended (connection_lines c.args.n k)) (range_with_len 1 c.args.n)) c.loop-conn.conn (c.args.n + 1) c.loop-conn-test.true
    c.loop-conn.invariant c.in_ok-append_connection.ensures
