use Rattle.hub.proofs.Entered.{is_next}
use Rattle.hub.proofs.center.Hub.join.Goals as goal

pub enter-requires-clause-live : goal.enter-requires-clause-live
enter-requires-clause-live c = (is_next c.self.inside c.self.invariant).lives

pub enter-requires-clause-held : goal.enter-requires-clause-held
enter-requires-clause-held c = (is_next c.self.inside c.self.invariant).held

pub enter-requires-clause-entries : goal.enter-requires-clause-entries
enter-requires-clause-entries c = (is_next c.self.inside c.self.invariant).entries
