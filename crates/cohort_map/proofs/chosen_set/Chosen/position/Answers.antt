use Rattle.std.proofs.Common.{rules}
use Rattle.cohort_map.proofs.Placing.{place_within}
use Rattle.cohort_map.proofs.chosen_set.Chosen.position.Goals as goal

pub returns-clause-within : goal.returns-clause-within
returns-clause-within c = place_within c.args.cohort _ c.args.self.now (search rules)
