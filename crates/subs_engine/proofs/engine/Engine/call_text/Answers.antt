use Rattle.std.proofs.Common.{ℕ, ◌∙◌, refl, subst, inl, List}
use Rattle.machine.specs.Messages.{Says}
use Rattle.machine.specs.State.{Receive, Skip, Skipped}
use Rattle.subs_engine.specs.Calls.{plain}
use Rattle.subs_engine.specs.Events.{conn_answer}
use Rattle.subs_engine.proofs.Made.{conn_does}
use Rattle.subs_engine.proofs.Engines.{at_turn, did_one, gave, spent_at}
use Rattle.subs_engine.proofs.engine.Engine.call_text.Goals as goal

pub returns-in_default-turn-clause-fails : goal.returns-in_default-turn-clause-fails
returns-in_default-turn-clause-fails g c = (
  refl,
  let e = c.in_default-turn.ensures in spent_at c.args.pass.now c.turn.new.pass c.requires.1 e.same e.seen e.spent,
)

pub returns-in-Ok-hear-clause-ok : goal.returns-in-Ok-hear-clause-ok
returns-in-Ok-hear-clause-ok g c =
    let p = c.args.pass.now in
    let t = c.turn.new.pass in
    let q = c.give_said.new.pass in
    let k = c.state.result.now in
    let said = c.in-Ok.said in
    let conn = c.args.conn in
    let reply = c.in-Ok-hear.reply in
    let e = c.in-Ok-turn.ensures in (
      said,
      subst (λ (text : List ℕ). Says text said) c.as_str.ensures c.in-Ok.ensures,
      did_one p t q k c.hear.new.self (Receive conn said) (conn_answer conn reply)
          (gave p t q (Receive conn said) c.requires.1 e.same e.seen e.turn c.give_said.ensures)
          (at_turn p t k c.in-Ok-turn.turn c.state.ensures.value e.same e.state)
          (conn_does k c.hear.new.self conn (Receive conn said) reply c.in-Ok-hear.ensures.reply),
    )

pub returns-in-Err-clause-fails : goal.returns-in-Err-clause-fails
returns-in-Err-clause-fails g c =
    let p = c.args.pass.now in
    let t = c.turn.new.pass in
    let q = c.give_other.new.pass in
    let k = c.state-in-Err.result.now in
    let e = c.in-Ok-turn.ensures in (
      refl,
      inl
          (did_one p t q k c.skip.new.self Skip (plain Skipped)
          (gave p t q Skip c.requires.1 e.same e.seen e.turn c.give_other.ensures)
          (at_turn p t k c.in-Ok-turn.turn (c.state-in-Err.ensures.value ∙ c.in-Err.ensures.err ∙ c.state.ensures.value)
          e.same e.state)
          c.skip.ensures),
    )
