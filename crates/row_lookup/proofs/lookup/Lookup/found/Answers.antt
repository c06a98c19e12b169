use Rattle.std.proofs.Common.{refl}
use Rattle.row_lookup.proofs.lookup.Lookup.found.Goals as goal

pub returns-then-run-le-FEW-clause-comparisons : goal.returns-then-run-le-FEW-clause-comparisons
returns-then-run-le-FEW-clause-comparisons c = refl

pub returns-then-run-le-FEW-clause-rows : goal.returns-then-run-le-FEW-clause-rows
returns-then-run-le-FEW-clause-rows c = c.run-run.ensures

pub invariant_of-t-13 : goal.invariant_of-t-13
invariant_of-t-13 c = c.in-Some.ensures.on

pub returns-in-Some-clause-comparisons : goal.returns-in-Some-clause-comparisons
returns-in-Some-clause-comparisons c = refl

pub returns-in-Some-clause-rows : goal.returns-in-Some-clause-rows
returns-in-Some-clause-rows c = c.in-Some.ensures.rows

pub returns-in-None-clause-comparisons : goal.returns-in-None-clause-comparisons
returns-in-None-clause-comparisons c = refl

pub returns-in-None-clause-rows : goal.returns-in-None-clause-rows
returns-in-None-clause-rows c = c.run-run.ensures
