use Rattle.std.proofs.Common.{◌∙◌, ap}
use Rattle.machine.specs.declared.counts.Counts.{Counts}
use Rattle.machine.specs.State.{Reported, silent}
use Rattle.machine.specs.Run.{run}
use Rattle.hub_model.proofs.Counting.{same_counts}
use Rattle.hub.specs.Seen.{seen}
use Rattle.hub.proofs.Calls.{counted_as}
use Rattle.hub.proofs.Runs.{is_run}
use Rattle.hub.proofs.center.Hub.report.Goals as goal

pub returns : goal.returns
returns c =
    rw (← c.self.view_is)
    (λ h st.
    let k = seen c.self.inside in
    ap (λ (n : Counts). silent (run k.meta h) (Reported n))
    (same_counts k (run k.meta h) st.represents (is_run k.meta h)
    ∙ counted_as k c.len.result c.live_count.result c.due.result c.len-2.result c.len.ensures c.live_count.ensures
    c.due.ensures (c.len-2.ensures ∙ c.self.inside.jobs.ok.0)))
