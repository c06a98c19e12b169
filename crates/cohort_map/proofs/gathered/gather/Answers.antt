use Rattle.std.proofs.lemmas.List.{take_all}
use Rattle.std.proofs.Common.{ℕ, List, subst}
use Rattle.cohort_map.specs.Listed.{Gathers}
use Rattle.cohort_map.proofs.Due.{gathers_none, gathers_more}
use Rattle.cohort_map.proofs.gathered.gather.Goals as goal

pub loop-cohort-init : goal.loop-cohort-init
loop-cohort-init c = gathers_none c.args.lists.now c.new-all.result.items

pub loop-cohort-preserved : goal.loop-cohort-preserved
loop-cohort-preserved c =
    gathers_more c.args.lists.now c.args.cohorts.now c.loop-cohort.cohort-index 0 c.loop-cohort.all.items c.append.new.all.items
    c.in-Some.places.now c.loop-cohort-test.true c.in-Some.ensures c.in_ok-append-in-Some.ensures c.loop-cohort.invariant

pub returns : goal.returns
returns c =
    subst (λ (cs : List ℕ). Gathers c.args.lists.now cs c.loop-cohort.all.items)
    (take_all c.loop-cohort.cohort-index c.args.cohorts.now c.loop-cohort-test.false) c.loop-cohort.invariant
