use Rattle.selection_check.proofs.arguments.missing_fault.Goals as goal

pub returns-in-OfStream : goal.returns-in-OfStream
returns-in-OfStream c = rw c.in-OfStream.is (c.missing_in_stream.ensures c.args.view.now)
