use Rattle.std.proofs.Common.{◌∙◌, sym, ap, refl, List}
use Rattle.std.specs.Option.{option_copied}
use Rattle.connection_table.specs.Connected.{Connected}
use Rattle.hub_model.specs.Steps.{counted}
use Rattle.hub.specs.Seen.{seen}
use Rattle.hub.proofs.Calls.{does_as, drains, drain_answers, drains_empty, drains_unknown, nothing_leaves}
use Rattle.hub.proofs.Sound.{sound_next}
use Rattle.hub.proofs.center.Hub.drain_one.Goals as goal

pub invariant_of-self : goal.invariant_of-self
invariant_of-self c =
    let k = seen c.self.inside in
    sound_next c.self.inside _ _ _ _ _ c.self.invariant (refl, refl, refl, refl, refl, refl)
    (c.pop.ensures.promised ∙ c.self.invariant.promised) c.self.invariant.ready
    (does_as k _ _ _ _ _ _
    (ap (λ (l : List Connected). counted (record k { connections = l })) c.pop.ensures.connections)
    (drains c.args.conn k c.in-Some.text (sym c.in-Some.ensures.first)))

pub returns-in-Some : goal.returns-in-Some
returns-in-Some c =
    let k = seen c.self.inside in
    rw (← c.self.view_is)
    (does_as k _ _ _ _ _ _
    (ap (λ (l : List Connected). counted (record k { connections = l })) c.pop.ensures.connections)
    (drains c.args.conn k c.in-Some.text (sym c.in-Some.ensures.first)))

pub invariant_of-self-in_default-phase : goal.invariant_of-self-in_default-phase
invariant_of-self-in_default-phase c =
    let k = seen c.self.inside in
    let none = sym c.pop.ensures.first ∙ c.in_default.is in
    sound_next c.self.inside _ _ _ _ _ c.self.invariant (refl, refl, refl, refl, refl, refl)
    (c.pop.ensures.promised ∙ c.self.invariant.promised) c.self.invariant.ready
    (drains_unknown c.args.conn k c.pop.new.self.connections
    (c.pop.ensures.connections
    ∙ nothing_leaves c.args.conn k c.self.invariant.history c.self.invariant.stands none)
    (sym c.phase.ensures ∙ ap option_copied c.in_default-phase.is))

pub returns-in_default-phase : goal.returns-in_default-phase
returns-in_default-phase c =
    let k = seen c.self.inside in
    let none = sym c.pop.ensures.first ∙ c.in_default.is in
    rw (← c.self.view_is)
    (drains_unknown c.args.conn k c.pop.new.self.connections
    (c.pop.ensures.connections
    ∙ nothing_leaves c.args.conn k c.self.invariant.history c.self.invariant.stands none)
    (sym c.phase.ensures ∙ ap option_copied c.in_default-phase.is))

pub invariant_of-self-2 : goal.invariant_of-self-2
invariant_of-self-2 c =
    let k = seen c.self.inside in
    let none = sym c.pop.ensures.first ∙ c.in_default.is in
    sound_next c.self.inside _ _ _ _ _ c.self.invariant (refl, refl, refl, refl, refl, refl)
    (c.pop.ensures.promised ∙ c.self.invariant.promised) c.self.invariant.ready
    (drains_empty c.args.conn k c.pop.new.self.connections c.in-Some-phase.phase.now
    (c.pop.ensures.connections
    ∙ nothing_leaves c.args.conn k c.self.invariant.history c.self.invariant.stands none)
    (sym c.phase.ensures ∙ ap option_copied c.in-Some-phase.is) none)

pub returns : goal.returns
returns c =
    let k = seen c.self.inside in
    let none = sym c.pop.ensures.first ∙ c.in_default.is in
    rw (← c.self.view_is, c.emptied.ensures)
    (drain_answers c.args.conn k _ c.in-Some-phase.phase.now
    (drains_empty c.args.conn k c.pop.new.self.connections c.in-Some-phase.phase.now
    (c.pop.ensures.connections
    ∙ nothing_leaves c.args.conn k c.self.invariant.history c.self.invariant.stands none)
    (sym c.phase.ensures ∙ ap option_copied c.in-Some-phase.is) none))
