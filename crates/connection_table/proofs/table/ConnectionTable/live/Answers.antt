use Rattle.std.proofs.Common.{ap, refl}
use Rattle.connection_table.specs.Connected.{Table}
use Rattle.connection_table.proofs.Entries.{found_is}
use Rattle.connection_table.proofs.table.ConnectionTable.live.Goals as goal

pub returns-in-Some : goal.returns-in-Some
returns-in-Some c =
    rw (
      found_is c.args.conn c.self.inside.connections _ (ap (λ (t : Table). t.connections) c.self.view_is),
      ←
          c.in-Some.ensures.value,
    ) c.deref.ensures.value

pub returns-in-None : goal.returns-in-None
returns-in-None c =
    rw (
      found_is c.args.conn c.self.inside.connections _ (ap (λ (t : Table). t.connections) c.self.view_is),
      ←
          c.in-None.ensures.value,
    ) refl
