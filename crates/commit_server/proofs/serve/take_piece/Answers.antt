use Rattle.std.proofs.Common.{refl}
use Rattle.commit_server.proofs.Serving.{ends_ended, ends_failed}
use Rattle.commit_server.proofs.serve.take_piece.Goals as goal

pub returns-in-End-clause-takes : goal.returns-in-End-clause-takes
returns-in-End-clause-takes g c =
    let e = c.in-End.ensures in
    ends_ended c.args.pass.now _ _ _ c.args.line.now.items _ c.requires.line.0 c.requires.line.1 e.bytes e.cause.later

pub returns-in-Failed-clause-takes : goal.returns-in-Failed-clause-takes
returns-in-Failed-clause-takes g c =
    let e = c.in-Failed.ensures in
    ends_failed c.args.pass.now _ _ _ c.args.line.now.items _ c.requires.line.0 c.requires.line.1 e.bytes e.cause.later
    (e.cause.failed refl)
