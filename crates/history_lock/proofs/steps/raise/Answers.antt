use Rattle.std.proofs.Common.{rules, refl, sym, ap, ◌∙◌, subst}
use Rattle.history_lock.specs.Rule.{AtHome}
use Rattle.history_lock.proofs.Homes.{stands_more}
use Rattle.history_lock.proofs.Keeps.{raises}
use Rattle.history_lock.proofs.steps.raise.Goals as goal

pub fetch_add-requires : goal.fetch_add-requires
fetch_add-requires g c = let t = c.requires.turn in
    (search rules, search rules, raises _ _ _ _ _ _ _ g.M.Made.event _ c.requires.table.1 t.1 t.2 refl)

pub bring_home-requires-clause-table : goal.bring_home-requires-clause-table
bring_home-requires-clause-table g c =
    let view = c.fetch_add.ensures.2.1 c.requires.turn.0 c.requires.turn.1 in
    let table = c.requires.table.0 in
    ((c.fetch_add.ensures.0 ∙ table.0, table.1, table.2), ap (λ v. v.spent) view ∙ c.requires.table.1)

pub bring_home-requires-clause-state : goal.bring_home-requires-clause-state
bring_home-requires-clause-state g c =
    let view = c.fetch_add.ensures.2.1 c.requires.turn.0 c.requires.turn.1 in
    subst (λ v. AtHome g.S.Stands.stands g.S.Stands.basis v.basis v.seen c.args.state) (sym view)
    (stands_more _ _ _ c.args.seat.now.me.0.seen c.requires.turn.0 g.M.Made.event c.args.state c.requires.state.1 c.requires.state.0)
