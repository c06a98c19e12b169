use Rattle.plan_model.proofs.Truths.{truth_of-And, truth_of-Or, truth_of-Cmp, truth_of-Among, truth_of-IsNull}
use Rattle.plan_core.proofs.condition.+truth.Goals as goal

pub truth-returns-in-And : goal.truth-returns-in-And
truth-returns-in-And t c = rw (c.in-And.is, truth_of-And) (cc)

pub truth-returns-in-Or : goal.truth-returns-in-Or
truth-returns-in-Or t c = rw (c.in-Or.is, truth_of-Or) (cc)

pub truth-returns-in-Cmp : goal.truth-returns-in-Cmp
truth-returns-in-Cmp t c = rw (c.in-Cmp.is, truth_of-Cmp) (cc)

pub truth-returns-in-Among : goal.truth-returns-in-Among
truth-returns-in-Among t c = rw (c.in-Among.is, truth_of-Among) (rw (← c.cell_at-in-Among.ensures) c.among_test.ensures)

pub truth-returns-in-IsNull : goal.truth-returns-in-IsNull
truth-returns-in-IsNull t c = rw (c.in-IsNull.is, truth_of-IsNull) (cc)
