use Rattle.polling_worker.proofs.Polling.{polls_last, polls_published, polls_not_open, polls_fault}
use Rattle.polling_worker.proofs.poll.poll_all.Goals as goal

pub returns-in-Ok-Nothing : goal.returns-in-Ok-Nothing
returns-in-Ok-Nothing g c = polls_last _ _ _ _ _ _ _ c.in-Ok-Nothing.field-0-is c.loop.invariant c.in-Ok-Nothing.ensures

pub loop-preserved-in-Ok-Published : goal.loop-preserved-in-Ok-Published
loop-preserved-in-Ok-Published g c =
    polls_published _ _ _ _ _ _ _ _ c.in-Ok-Published.field-0-is c.loop.invariant c.in-Ok-Published.ensures

pub loop-preserved : goal.loop-preserved
loop-preserved g c = polls_not_open _ _ _ _ _ _ _ _ c.in-Ok-NotOpen.field-0-is c.loop.invariant c.in-Ok-NotOpen.ensures

pub returns-in-Err : goal.returns-in-Err
returns-in-Err g c = polls_fault _ _ _ _ _ _ _ c.loop.invariant c.in-Err.ensures
