use Rattle.std.proofs.Common.{ap, arith, sym, ◌∙◌, true, false, ◌≡◌}
use Rattle.connection_table.specs.Connected.{Table}
use Rattle.connection_table.proofs.Entries.{found_is, kept}
use Rattle.connection_table.proofs.Promises.{few, known}
use Rattle.connection_table.proofs.table.ConnectionTable.promise.Goals as goal

pub promise-requires-clause-few : goal.promise-requires-clause-few
promise-requires-clause-few c =
    few c.args.conn c.self.inside.connections c.self.inside.promised.items c.in-Some.connection.now c.self.invariant
    c.in-Some.ensures.value (omega (arith, c.self.inside.promised.ok, c.self.inside.promised.small))

pub returns-in_err-promise-in-Some-clause-connections : goal.returns-in_err-promise-in-Some-clause-connections
returns-in_err-promise-in-Some-clause-connections c =
    kept c.args.conn c.self.inside.connections (c.get_mut.follows.lender c.promise.new.self) c.in-Some.connection.now
    c.promise.new.self _ c.self.invariant.ordered c.in-Some.ensures.value
    (c.get_mut.follows.holds c.promise.new.self).0 (c.promise.ensures.same c.args.conn)
    (ap (λ (t : Table). t.connections) c.self.view_is)

pub unreachable-requires : goal.unreachable-requires
unreachable-requires c =
    let is = found_is c.args.conn c.self.inside.connections _ (ap (λ (t : Table). t.connections) c.self.view_is) in
    let none = known c.args.conn _ _ is c.in-None.ensures.value in
    let both : true ≡ false = sym c.requires ∙ none in
    absurd (cc)

pub returns-clause-connections : goal.returns-clause-connections
returns-clause-connections c =
    kept c.args.conn c.self.inside.connections (c.get_mut.follows.lender c.promise.new.self) c.in-Some.connection.now
    c.promise.new.self _ c.self.invariant.ordered c.in-Some.ensures.value
    (c.get_mut.follows.holds c.promise.new.self).0 (c.promise.ensures.same c.args.conn)
    (ap (λ (t : Table). t.connections) c.self.view_is)
