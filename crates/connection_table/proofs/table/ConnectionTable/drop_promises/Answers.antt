use Rattle.std.proofs.Common.{ap, sym}
use Rattle.std.specs.Option.{is_some}
use Rattle.connection_table.proofs.Entries.{kept}
use Rattle.connection_table.proofs.Promises.{one_done}
use Rattle.connection_table.proofs.table.ConnectionTable.drop_promises.Goals as goal

pub loop-conn-preserved : goal.loop-conn-preserved
loop-conn-preserved c =
    let m = c.loop-conn.self-inside.connections in
    let after = c.get_mut.follows.lender c.release.new.self in
    let holds = c.get_mut.follows.holds c.release.new.self in
    let before = c.in-Some-get_mut.connection.now in record {
      keeps = one_done c.in-Some.conn m after c.loop-conn.self-inside.promised.items c.pop_front.new.self.items before
          c.release.new.self c.loop-conn.invariant.keeps c.in-Some.ensures.items c.in-Some-get_mut.ensures.value
          (holds.3 (ap is_some (sym c.in-Some-get_mut.ensures.value))).0 c.release.ensures.promises
          c.release.ensures.room holds.4;
      same = kept c.in-Some.conn m after before c.release.new.self _ c.loop-conn.invariant.keeps.ordered
          c.in-Some-get_mut.ensures.value holds.0 (c.release.ensures.same c.in-Some.conn) c.loop-conn.invariant.same;
    }
