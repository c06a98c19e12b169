use Rattle.commit_server.proofs.Answering.{replies_no_fault}
use Rattle.commit_server.proofs.answer.answer_line.Goals as goal

pub returns-in-Err-clause-steady : goal.returns-in-Err-clause-steady
returns-in-Err-clause-steady g c = λ never. (never, replies_no_fault _ _ _ c.in-Err.end c.in-Err.ensures)
