use Rattle.std.proofs.Common.{ℕ, ◌∙◌, ap, refl, sym, subst, List, [], ◌∷◌, ◌++◌}
use Rattle.history_lock.specs.History.{events}
use Rattle.machine.specs.State.{Event, Publish, Skip, Skipped}
use Rattle.hub_model.specs.Kept.{Kept}
use Rattle.hub_model.specs.Stands.{StandsFor}
use Rattle.subs_engine.specs.Calls.{plain}
use Rattle.subs_engine.proofs.Engines.{Gives, at_turn, did_one, gave, its_answers, published_one, spent_at}
use Rattle.subs_engine.proofs.Jobs.{publish_meta, publish_stands}
use Rattle.subs_engine.proofs.engine.Engine.publish.Goals as goal

pub returns-in_default-clause-fails : goal.returns-in_default-clause-fails
returns-in_default-clause-fails g c = (
  refl,
  let e = c.in_default.ensures in spent_at c.args.pass.now c.turn.new.pass c.requires.pass.1 e.same e.seen e.spent,
)

pub publish-requires-clause-answers : goal.publish-requires-clause-answers
publish-requires-clause-answers g c =
    let p = c.args.pass.now in
    let t = c.turn.new.pass in
    let k = c.state.result.now in
    let e = c.in-Ok.ensures in
    let h = at_turn p t k c.in-Ok.turn c.state.ensures.value e.same e.state in
    (events t.seen, h.stands, its_answers p t k c.args.answers h c.requires.answers e.seen)

pub give_other-requires-clause-state : goal.give_other-requires-clause-state
give_other-requires-clause-state g c =
    let p = c.args.pass.now in
    let t = c.turn.new.pass in
    let k = c.state.result.now in
    let k' = c.publish.new.self in
    let e = c.in-Ok.ensures in
    let h = at_turn p t k c.in-Ok.turn c.state.ensures.value e.same e.state in
    let a = its_answers p t k c.args.answers h c.requires.answers e.seen in
    let d = c.in-Ok-publish.ensures.reply in (
      subst (λ (n : ℕ). StandsFor k' (events t.seen ++ Publish n ∷ [])) (sym c.number-number.ensures)
          (publish_stands k k' c.args.answers (events t.seen) h.stands a c.in-Ok-publish.reply d),
      publish_meta k k' c.args.answers c.in-Ok-publish.reply d ∙ h.meta ∙ sym e.same.2,
    )

pub returns-in-Ok-publish-clause-ok : goal.returns-in-Ok-publish-clause-ok
returns-in-Ok-publish-clause-ok g c =
    let p = c.args.pass.now in
    let t = c.turn.new.pass in
    let q = c.give_other.new.pass in
    let k = c.state.result.now in
    let e = c.in-Ok.ensures in
    let h = at_turn p t k c.in-Ok.turn c.state.ensures.value e.same e.state in
    published_one p t q k c.publish.new.self c.args.answers c.in-Ok-publish.reply
    (subst (λ (n : ℕ). Gives p t q (Publish n)) c.number-number.ensures
    (gave p t q (Publish c.number-number.result) c.requires.pass.1 e.same e.seen e.turn c.give_other.ensures)) h
    (its_answers p t k c.args.answers h c.requires.answers e.seen) c.in-Ok-publish.ensures.reply

pub returns-in-Err-clause-fails : goal.returns-in-Err-clause-fails
returns-in-Err-clause-fails g c =
    let p = c.args.pass.now in
    let t = c.turn.new.pass in
    let q = c.give_other-in-Err.new.pass in
    let k = c.state-in-Err.result.now in
    let e = c.in-Ok.ensures in (
      c.in-Err.ensures.handed_back,
      did_one p t q k c.skip.new.self Skip (plain Skipped)
          (gave p t q Skip c.requires.pass.1 e.same e.seen e.turn c.give_other-in-Err.ensures)
          (at_turn p t k c.in-Ok.turn (c.state-in-Err.ensures.value ∙ c.in-Err.ensures.err ∙ c.state.ensures.value)
          e.same e.state)
          c.skip.ensures,
    )
