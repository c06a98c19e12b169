use Rattle.nested_eval.proofs.Examples.{streamed_fits}
use Rattle.nested_eval.proofs.tests.streamed.Goals as goal

pub returns : goal.returns
returns c =
    streamed_fits c.new.result c.new-2.result c.args.descending c.number.result c.args.batch c.args.cap c.in_ok-fields.fields
    c.new.ensures c.new-2.ensures c.number.ensures c.requires c.in_ok-fields.ensures
