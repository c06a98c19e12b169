use Rattle.std.proofs.Common.{rules}
use Rattle.history_lock.proofs.Keeps.{rings}
use Rattle.history_lock.proofs.steps.ring.Goals as goal

pub fetch_add-requires : goal.fetch_add-requires
fetch_add-requires g c = (search rules, search rules, rings _ _ _ _ _ _ _ (search rules))
