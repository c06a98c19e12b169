use Rattle.std.proofs.Common.{◌∙◌, sym, ap, refl}
use Rattle.connection_table.specs.Connected.{others}
use Rattle.hub_model.specs.Steps.{knows}
use Rattle.hub_model.proofs.Conversations.{gone_unknown}
use Rattle.hub.specs.Seen.{seen}
use Rattle.hub.proofs.Calls.{goes_by}
use Rattle.hub.proofs.Sound.{sound_next}
use Rattle.hub.proofs.center.Hub.gone.Goals as goal

pub invariant_of-self : goal.invariant_of-self
invariant_of-self c =
    sound_next c.self.inside _ _ _ _ _ c.self.invariant (refl, refl, refl, refl, refl, refl) c.self.invariant.promised
    c.self.invariant.ready
    (gone_unknown c.args.conn (seen c.self.inside)
    (ap (knows c.args.conn) c.self.view_is ∙ sym c.knows.ensures ∙ c.if-not-knows.true))

pub returns-then-not-knows : goal.returns-then-not-knows
returns-then-not-knows c =
    rw (← c.self.view_is)
    (gone_unknown c.args.conn (seen c.self.inside)
    (ap (knows c.args.conn) c.self.view_is ∙ sym c.knows.ensures ∙ c.if-not-knows.true))

pub invariant_of-self-2 : goal.invariant_of-self-2
invariant_of-self-2 c =
    sound_next c.self.inside _ _ _ _ _ c.self.invariant (refl, refl, refl, refl, refl, refl)
    (c.remove.ensures.promised ∙ ap (others c.args.conn) c.self.invariant.promised)
    (c.end_all.ensures.ready ∙ c.self.invariant.ready)
    (goes_by c.args.conn (seen c.self.inside) c.live-live.result.now c.end_all.new.cohorts.entries c.end_all.new.held
    c.remove.new.self.connections
    (ap (knows c.args.conn) c.self.view_is ∙ sym c.knows.ensures ∙ c.if-not-knows.false) c.live-live.ensures
    c.end_all.ensures.ends c.remove.ensures.connections)

pub returns : goal.returns
returns c =
    rw (← c.self.view_is, c.nothing.ensures)
    (goes_by c.args.conn (seen c.self.inside) c.live-live.result.now c.end_all.new.cohorts.entries c.end_all.new.held
    c.remove.new.self.connections
    (ap (knows c.args.conn) c.self.view_is ∙ sym c.knows.ensures ∙ c.if-not-knows.false) c.live-live.ensures
    c.end_all.ensures.ends c.remove.ensures.connections)
