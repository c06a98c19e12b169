use Rattle.subs_engine.proofs.Made.{reports}
use Rattle.subs_engine.proofs.making.report.Goals as goal

pub returns : goal.returns
returns c =
    reports c.args.hub.now c.skip.new.self c.report-counts.result c.skip.ensures c.report-counts.ensures
