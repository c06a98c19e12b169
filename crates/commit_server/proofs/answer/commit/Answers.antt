use Rattle.commit_server.proofs.Answering.{commits_accepted, commits_refused}
use Rattle.commit_server.proofs.answer.commit.Goals as goal

pub returns-in-Ok-write_commit : goal.returns-in-Ok-write_commit
returns-in-Ok-write_commit g c =
    let arm = c.in-Ok-Commit-Committed in
    commits_accepted c.args.pass.now c.call.new.pass c.args.tx _ c.args.out.now.items _ c.requires.out
    (rw (arm.field-0-is, arm.field-0-0-is) at arm.ensures.ok) c.in-Ok-write_commit.ensures

pub returns-in-Ok-write_refused : goal.returns-in-Ok-write_refused
returns-in-Ok-write_refused g c =
    let arm = c.in-Ok-Commit-Refused in
    commits_refused c.args.pass.now c.call.new.pass c.args.tx _ c.args.out.now.items _ c.requires.out
    (rw (arm.field-0-is, arm.field-0-0-is) at arm.ensures.ok) c.in-Ok-write_refused.ensures
