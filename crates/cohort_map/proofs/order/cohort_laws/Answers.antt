use Rattle.cohort_map.proofs.Exact.{same_poller-is, same_binding-is}
use Rattle.cohort_map.proofs.order.cohort_laws.Goals as goal

pub returns-clause-pollers : goal.returns-clause-pollers
returns-clause-pollers c = same_poller-is

pub returns-clause-bindings : goal.returns-clause-bindings
returns-clause-bindings c = same_binding-is
