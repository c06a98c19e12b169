use Rattle.commit_server.proofs.Feeding.{rest_after}
use Rattle.commit_server.proofs.Serving.{commits_all}
use Rattle.commit_server.proofs.serve.serve_commits.Goals as goal

pub take_piece-requires-clause-line : goal.take_piece-requires-clause-line
take_piece-requires-clause-line g c =
    let feeds = c.loop.invariant.goes.feeds in (rest_after _ _ _ _ _ _ _ feeds, feeds.short_line)

pub returns-in-Err-clause-commits : goal.returns-in-Err-clause-commits
returns-in-Err-clause-commits g c =
    commits_all _ _ _ _ _ _ _ _ _ _ c.in-Err.end c.loop.invariant.goes c.in-Err.ensures.takes
