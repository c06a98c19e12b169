use Rattle.std.proofs.Common.{◌≡◌, ◌∙◌, ap, rules, ◌++◌, ◌∷◌, [], List}
use Rattle.connection_table.specs.Connected.{Connected, changed, without_live}
use Rattle.subscription_table.specs.Kept.{without}
use Rattle.hub.proofs.Entered.{all_forgotten, held_no_more}
use Rattle.hub.proofs.conversation.enter.Goals as goal

pub returns-then-is_err-clause-not_live : goal.returns-then-is_err-clause-not_live
returns-then-is_err-clause-not_live c =
    c.forget.ensures.connections
    ∙ ap (λ (cs : List Connected). changed c.args.held.connection (without_live c.args.held.number) cs)
    c.in_ok-add_live.ensures.ok
    ∙ all_forgotten c.args.held.connection c.args.held.number c.args.connections.now.connections c.requires.live

pub returns-then-is_err-2-clause-not_live : goal.returns-then-is_err-2-clause-not_live
returns-then-is_err-2-clause-not_live c =
    c.forget-then-is_err-2.ensures.connections
    ∙ ap (λ (cs : List Connected). changed c.args.held.connection (without_live c.args.held.number) cs)
    c.in_ok-add_live.ensures.ok
    ∙ all_forgotten c.args.held.connection c.args.held.number c.args.connections.now.connections c.requires.live

pub returns-then-is_err-2-clause-not_held : goal.returns-then-is_err-2-clause-not_held
returns-then-is_err-2-clause-not_held c =
    let pushed : c.push.new.self ≡ c.args.table.now ++ c.args.held ∷ [] = search rules in
    c.remove.ensures
    ∙ ap (without c.args.held.number) pushed
    ∙ held_no_more c.args.held c.args.table.now c.requires.held
