use Rattle.std.proofs.Common.{refl}
use Rattle.subs_run.specs.Words.{usage_line}
use Rattle.subs_run.proofs.Written.{front_of_all}
use Rattle.subs_run.proofs.main_call.write_usage.Goals as goal

pub returns-in-Done-clause-front : goal.returns-in-Done-clause-front
returns-in-Done-clause-front g c =
    front_of_all (g.K.Sink.written c.args.sink.now) (g.K.Sink.written c.write_all.new.sink) usage_line
    (c.in-Done.ensures.done refl)
