use Rattle.std.proofs.Common.{◌≡◌, true, drop, sym, subst}
use Rattle.std.specs.Option.{IfSome}
use Rattle.std.proofs.lemmas.Option.{IfSome_then}
use Rattle.row_lookup.specs.Chaining.{Chained}
use Rattle.row_lookup.specs.Comparing.{meets_both}
use Rattle.row_lookup.specs.Narrowing.{Narrowed}
use Rattle.row_lookup.proofs.Steps.{chain_starts, chain_narrows}
use Rattle.row_lookup.proofs.lookup.Lookup.chain.Goals as goal

pub returns-in-Eq-clause-on : goal.returns-in-Eq-clause-on
returns-in-Eq-clause-on c =
    let rows = c.self.inside.rows.now in
    let chains = c.in-Some-chains.chains in
    let chained : Chained chains.column rows chains.heads.items chains.next.items =
    subst (λ o. IfSome o (λ ch. Chained ch.column rows ch.heads.items ch.next.items)) c.in-Some-chains.is c.self.invariant.1 in
    IfSome_then c.chain_of.result c.chain_of.ensures
    (λ p starts. chain_starts c.args.comparisons.now c.in-Some.comparison rows chains p c.in-Some.is c.in-Eq.is
    c.if-comparison-chains.false chained starts)

pub returns-in-Eq-clause-rows : goal.returns-in-Eq-clause-rows
returns-in-Eq-clause-rows c =
    let rows = c.self.inside.rows.now in
    let chains = c.in-Some-chains.chains in
    let chained : Chained chains.column rows chains.heads.items chains.next.items =
    subst (λ o. IfSome o (λ ch. Chained ch.column rows ch.heads.items ch.next.items)) c.in-Some-chains.is c.self.invariant.1 in
    IfSome_then c.chain_of.result c.chain_of.ensures
    (λ p starts. subst
    (λ rs. Narrowed (λ row. meets_both c.args.comparisons.now row ≡ true) rs (drop p.at p.rows.now)) c.self.view_is
    (chain_narrows c.args.comparisons.now c.in-Some.comparison rows chains p c.in-Some.is c.in-Eq.is
    c.if-comparison-chains.false chained starts))
