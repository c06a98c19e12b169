use Rattle.metadata_read.proofs.Steps.{filters_lacked}
use Rattle.metadata_read.proofs.faults.table_lacks_filter.Goals as goal

pub returns : goal.returns
returns c = filters_lacked c.args.table.now c.as_slice-columns.result.now c.as_slice.result.now c.in_ok-lacks.lacks c.in_ok-lacks.ensures c.as_slice-columns.ensures c.as_slice.ensures
