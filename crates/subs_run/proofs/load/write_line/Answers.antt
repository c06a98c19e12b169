use Rattle.std.proofs.Common.{refl}
use Rattle.subs_run.proofs.Written.{front_of_all}
use Rattle.subs_run.proofs.load.write_line.Goals as goal

pub returns-in-Done-clause-front : goal.returns-in-Done-clause-front
returns-in-Done-clause-front g c =
    front_of_all (g.K.Sink.written c.args.sink.now) (g.K.Sink.written c.write_all.new.sink) c.args.line.now
    (c.in-Done.ensures.done refl)
