use Rattle.std.proofs.Common.{rules, ◌≡◌, ◌<◌, length, drop, get_or, sym, subst}
use Rattle.row_lookup.specs.Finding.{Left, OnChain, OnWay, Stepped, left}
use Rattle.row_lookup.proofs.Steps.{chain_step}
use Rattle.row_lookup.proofs.found.Found.next.Goals as goal

pub returns-in-Some-clause-row : goal.returns-in-Some-clause-row
returns-in-Some-clause-row c =
    let place = c.in-Chain.place in
    let row = c.in-Some.row.now in
    let to = c.index-at.result.now in
    let after = drop to place.rows.now in
    let on : OnChain c.self.inside.comparisons place = subst (OnWay c.self.inside.comparisons) c.in-Chain.is c.self.invariant in
    let within : place.at < length place.rows.now = search rules in
    let item : row ≡ get_or place.rows.now place.at row = c.in-Some.ensures.lookup.3.1 row in
    let step = chain_step c.self.inside.comparisons place on to row within c.index-at.ensures item in
    subst (λ (l : Left). Stepped l.comparisons l.rows row after) c.self.view_is
    (subst (λ w. Stepped c.self.inside.comparisons (left w) row after) (sym c.in-Chain.is) step)
