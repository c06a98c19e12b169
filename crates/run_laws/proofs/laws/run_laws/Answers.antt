use Rattle.run_laws.proofs.AdmittedQueries.{subscriptions_are_admitted}
use Rattle.run_laws.proofs.AdmittedSubscribes.{admits_subscribes}
use Rattle.run_laws.proofs.Changes.{tells_changes}
use Rattle.run_laws.proofs.Cursors.{moves_along}
use Rattle.run_laws.proofs.EndedSubscriptions.{ends_for_good, answers_once, closes_end, gone_ends}
use Rattle.run_laws.proofs.LinkedRuns.{live_are_acknowledged}
use Rattle.run_laws.proofs.Numbers.{are_numbered_in_order}
use Rattle.run_laws.proofs.Order.{never_returns, begins_at_its_subscribe}
use Rattle.run_laws.proofs.OwnResults.{tells_own_results}
use Rattle.run_laws.proofs.SoundRuns.{keeps_batches_apart}
use Rattle.run_laws.proofs.ToldResults.{results_are_of_turns}
use Rattle.run_laws.proofs.laws.run_laws.Goals as goal

pub returns-clause-numbers : goal.returns-clause-numbers
returns-clause-numbers c = are_numbered_in_order

pub returns-clause-results : goal.returns-clause-results
returns-clause-results c = results_are_of_turns

pub returns-clause-own : goal.returns-clause-own
returns-clause-own c = tells_own_results

pub returns-clause-order : goal.returns-clause-order
returns-clause-order c = never_returns

pub returns-clause-beginning : goal.returns-clause-beginning
returns-clause-beginning c = begins_at_its_subscribe

pub returns-clause-change : goal.returns-clause-change
returns-clause-change c = tells_changes

pub returns-clause-cursors : goal.returns-clause-cursors
returns-clause-cursors c = moves_along

pub returns-clause-completion : goal.returns-clause-completion
returns-clause-completion c = ends_for_good

pub returns-clause-once : goal.returns-clause-once
returns-clause-once c = answers_once

pub returns-clause-closes : goal.returns-clause-closes
returns-clause-closes c = closes_end

pub returns-clause-gone : goal.returns-clause-gone
returns-clause-gone c = gone_ends

pub returns-clause-live : goal.returns-clause-live
returns-clause-live c = live_are_acknowledged

pub returns-clause-admission : goal.returns-clause-admission
returns-clause-admission c = admits_subscribes

pub returns-clause-batches : goal.returns-clause-batches
returns-clause-batches c = keeps_batches_apart

pub returns-clause-queries : goal.returns-clause-queries
returns-clause-queries c = subscriptions_are_admitted
