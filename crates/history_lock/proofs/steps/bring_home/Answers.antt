use Rattle.std.proofs.Common.{rules, ◌∷◌, Some, sym, ap, ◌∙◌, subst}
use Rattle.atomic_table.specs.Table.{rest}
use Rattle.history_lock.specs.Rule.{AtHome}
use Rattle.history_lock.proofs.Keeps.{puts}
use Rattle.history_lock.proofs.steps.bring_home.Goals as goal

pub store-requires : goal.store-requires
store-requires g c =
    let put = c.exchange-before.ensures in (
      put.0 ∙ c.requires.table.0.0,
      search rules,
      puts _ _ _ _ _ _ c.args.state
          (ap (λ m. m.1) put.3 ∙ ap (λ cs. (0, Some c.args.state) ∷ rest cs) c.requires.slot)
          (ap (λ m. m.0.spent) put.3 ∙ c.requires.table.1)
          (subst (λ v. AtHome g.S.Stands.stands g.S.Stands.basis v.basis v.seen c.args.state) (sym (ap (λ m. m.0) put.3)) c.requires.state),
    )
