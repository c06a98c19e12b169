use Rattle.std.proofs.Common.{◌∙◌}
use Rattle.machine.specs.State.{Take, Skip, Skipped}
use Rattle.subs_engine.specs.Calls.{plain}
use Rattle.subs_engine.proofs.Engines.{at_turn, did_one, gave, spent_at, took_job, took_one}
use Rattle.subs_engine.proofs.engine.Engine.take.Goals as goal

pub returns-in_default-clause-fails : goal.returns-in_default-clause-fails
returns-in_default-clause-fails g c =
    let e = c.in_default.ensures in spent_at c.args.pass.now c.turn.new.pass c.requires.1 e.same e.seen e.spent

pub returns-in-Ok-take-clause-ok : goal.returns-in-Ok-take-clause-ok
returns-in-Ok-take-clause-ok g c =
    let p = c.args.pass.now in
    let t = c.turn.new.pass in
    let q = c.give_other.new.pass in
    let e = c.in-Ok.ensures in
    took_one p t q c.state.result.now c.take.new.self c.in-Ok-take.job
    (gave p t q Take c.requires.1 e.same e.seen e.turn c.give_other.ensures)
    (at_turn p t c.state.result.now c.in-Ok.turn c.state.ensures.value e.same e.state) c.in-Ok-take.ensures.reply

pub returns-in-Ok-take-clause-job : goal.returns-in-Ok-take-clause-job
returns-in-Ok-take-clause-job g c =
    let p = c.args.pass.now in
    let t = c.turn.new.pass in
    let q = c.give_other.new.pass in
    let e = c.in-Ok.ensures in
    took_job p t q c.state.result.now c.take.new.self c.in-Ok-take.job
    (gave p t q Take c.requires.1 e.same e.seen e.turn c.give_other.ensures)
    (at_turn p t c.state.result.now c.in-Ok.turn c.state.ensures.value e.same e.state) c.in-Ok-take.ensures.reply

pub returns-in-Err-clause-fails : goal.returns-in-Err-clause-fails
returns-in-Err-clause-fails g c =
    let p = c.args.pass.now in
    let t = c.turn.new.pass in
    let q = c.give_other-in-Err.new.pass in
    let k = c.state-in-Err.result.now in
    let e = c.in-Ok.ensures in
    did_one p t q k c.skip.new.self Skip (plain Skipped)
    (gave p t q Skip c.requires.1 e.same e.seen e.turn c.give_other-in-Err.ensures)
    (at_turn p t k c.in-Ok.turn (c.state-in-Err.ensures.value ∙ c.in-Err.ensures.err ∙ c.state.ensures.value) e.same
    e.state)
    c.skip.ensures
