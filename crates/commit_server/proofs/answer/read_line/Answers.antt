use Rattle.commit_server.proofs.Answering.{reads_none, reads_some}
use Rattle.commit_server.proofs.answer.read_line.Goals as goal

pub returns-in_default : goal.returns-in_default
returns-in_default c = reads_none c.args.line.now c.in_default.ensures.cases.0

pub returns-in-Ok-read_tx : goal.returns-in-Ok-read_tx
returns-in-Ok-read_tx c =
    let arm = c.in-Ok.ensures.cases in
    reads_some c.args.line.now c.in-Ok.text.now c.in-Ok-read_tx.tx arm.0 arm.1 c.in-Ok-read_tx.ensures.transaction
