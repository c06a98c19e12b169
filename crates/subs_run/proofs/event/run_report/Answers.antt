use Rattle.std.proofs.Common.{[]}
use Rattle.machine.specs.State.{Report, Reported}
use Rattle.script_text.specs.Told.{Tells}
use Rattle.subs_run.proofs.Events.{hub_written, when_ok, reported}
use Rattle.subs_run.proofs.event.run_report.Goals as goal

pub returns : goal.returns
returns c h st =
    let counts = c.report-counts.result in
    hub_written c.went.result c.write_report.result _ c.args.hub.now c.args.hub.now h c.args.out.now.items
    c.write_report.new.out.items c.went.ensures
    (λ ok. reported c.args.hub.now h counts c.args.out.now.items c.write_report.new.out.items
    (c.report-counts.ensures h st) st
    (when_ok c.write_report.result
    (Tells Report (Reported counts) [] [] c.args.out.now.items c.write_report.new.out.items) c.write_report.ensures ok))
