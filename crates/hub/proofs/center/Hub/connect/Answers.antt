use Rattle.std.proofs.Common.{◌∙◌, ◌≡◌, sym, ap, refl, false, List}
use Rattle.connection_table.specs.Connected.{Connected}
use Rattle.hub_model.specs.Steps.{counted, knows, opens}
use Rattle.hub_model.proofs.Conversations.{connects}
use Rattle.hub.specs.Seen.{seen}
use Rattle.hub.proofs.Calls.{connects_known, does_as}
use Rattle.hub.proofs.Runs.{is_run}
use Rattle.hub.proofs.Sound.{sound_next}
use Rattle.hub.proofs.center.Hub.connect.Goals as goal

pub invariant_of-self : goal.invariant_of-self
invariant_of-self c =
    sound_next c.self.inside _ _ _ _ _ c.self.invariant (refl, refl, refl, refl, refl, refl) c.self.invariant.promised
    c.self.invariant.ready
    (connects_known c.args.conn (seen c.self.inside)
    (ap (knows c.args.conn) c.self.view_is ∙ sym c.knows.ensures ∙ c.if-knows.true))

pub returns-then-knows-clause-reply : goal.returns-then-knows-clause-reply
returns-then-knows-clause-reply c =
    rw (← c.self.view_is)
    (connects_known c.args.conn (seen c.self.inside)
    (ap (knows c.args.conn) c.self.view_is ∙ sym c.knows.ensures ∙ c.if-knows.true))

pub invariant_of-self-2 : goal.invariant_of-self-2
invariant_of-self-2 c =
    let k = seen c.self.inside in
    let unknown : knows c.args.conn k ≡ false =
    ap (knows c.args.conn) c.self.view_is ∙ sym c.knows.ensures ∙ c.if-knows.false in
    sound_next c.self.inside _ _ _ _ _ c.self.invariant (refl, refl, refl, refl, refl, refl)
    (c.insert.ensures.promised ∙ c.self.invariant.promised) c.self.invariant.ready
    (does_as k (counted (opens c.args.conn k)) _ _ _ _ _
    (ap (λ (l : List Connected). counted (record k { connections = l })) c.in_ok-insert.ensures.ok)
    (connects c.args.conn k unknown (is_run k.meta)))

pub returns-clause-reply : goal.returns-clause-reply
returns-clause-reply c =
    let k = seen c.self.inside in
    let unknown : knows c.args.conn k ≡ false =
    ap (knows c.args.conn) c.self.view_is ∙ sym c.knows.ensures ∙ c.if-knows.false in
    rw (← c.self.view_is, c.nothing.ensures)
    (does_as k (counted (opens c.args.conn k)) _ _ _ _ _
    (ap (λ (l : List Connected). counted (record k { connections = l })) c.in_ok-insert.ensures.ok)
    (connects c.args.conn k unknown (is_run k.meta)))
