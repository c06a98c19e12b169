use Rattle.std.proofs.Common.{◌∙◌, refl, sym}
use Rattle.history_lock.specs.History.{events}
use Rattle.machine.specs.State.{Skip, Skipped}
use Rattle.subs_engine.specs.Calls.{plain}
use Rattle.subs_engine.specs.Events.{answer_to, event_of}
use Rattle.subs_engine.proofs.Engines.{at_turn, called_one, did_one, gave, holds_meta, holds_stands, lacks_so, spent_at}
use Rattle.subs_engine.proofs.engine.Engine.call_other.Goals as goal

pub returns-in_default-clause-fails : goal.returns-in_default-clause-fails
returns-in_default-clause-fails g c = (
  refl,
  let e = c.in_default.ensures in spent_at c.args.pass.now c.turn.new.pass c.requires.pass.1 e.same e.seen e.spent,
)

pub give_event-requires-clause-state : goal.give_event-requires-clause-state
give_event-requires-clause-state g c =
    let p = c.args.pass.now in
    let t = c.turn.new.pass in
    let k = c.state.result.now in
    let e = c.in-Ok.ensures in
    let h = at_turn p t k c.in-Ok.turn c.state.ensures.value e.same e.state in
    let a = answer_to c.args.event c.in-Ok-make.reply in
    let d = c.in-Ok-make.ensures.ok in (
      holds_stands k c.make.new.hub (events t.seen) (event_of c.args.event) a h.stands d,
      holds_meta k c.make.new.hub (event_of c.args.event) a d ∙ h.meta ∙ sym e.same.2,
    )

pub returns-in-Ok-make-clause-ok : goal.returns-in-Ok-make-clause-ok
returns-in-Ok-make-clause-ok g c =
    let p = c.args.pass.now in
    let t = c.turn.new.pass in
    let q = c.give_event.new.pass in
    let k = c.state.result.now in
    let e = c.in-Ok.ensures in
    called_one p t q k c.make.new.hub c.args.event c.in-Ok-make.reply c.requires.other
    (gave p t q (event_of c.args.event) c.requires.pass.1 e.same e.seen e.turn c.give_event.ensures)
    (at_turn p t k c.in-Ok.turn c.state.ensures.value e.same e.state) c.in-Ok-make.ensures.ok

pub returns-in-Err-clause-fails : goal.returns-in-Err-clause-fails
returns-in-Err-clause-fails g c =
    let p = c.args.pass.now in
    let t = c.turn.new.pass in
    let q = c.give_other.new.pass in
    let k = c.state-in-Err.result.now in
    let e = c.in-Ok.ensures in (
      refl,
      lacks_so p q c.args.event (c.in-Err.ensures.lacks refl)
          (did_one p t q k c.skip.new.self Skip (plain Skipped)
          (gave p t q Skip c.requires.pass.1 e.same e.seen e.turn c.give_other.ensures)
          (at_turn p t k c.in-Ok.turn (c.state-in-Err.ensures.value ∙ c.in-Err.ensures.err ∙ c.state.ensures.value)
          e.same e.state)
          c.skip.ensures),
    )
