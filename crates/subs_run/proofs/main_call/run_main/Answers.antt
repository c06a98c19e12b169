use Rattle.std.proofs.Common.{inl, inr, refl}
use Rattle.machine.specs.Script.{outcome}
use Rattle.subs_run.proofs.Outcomes.{none_some}
use Rattle.subs_run.proofs.main_call.run_main.Goals as goal

pub returns-in-Done-clause-whole : goal.returns-in-Done-clause-whole
returns-in-Done-clause-whole g c runs e all w told told_w meant reads =
    c.in-Done.ensures.whole tt all w told told_w meant reads

pub returns-in-SourceFault-clause-answered : goal.returns-in-SourceFault-clause-answered
returns-in-SourceFault-clause-answered g c s k runs all told meant reads none =
    absurd ((c.in-SourceFault.ensures.complete s k).0 refl)

pub returns-in-ScriptFault-clause-fault : goal.returns-in-ScriptFault-clause-fault
returns-in-ScriptFault-clause-fault g c e all told =
    (c.in-ScriptFault.line, (c.in-ScriptFault.reason, c.in-ScriptFault.ensures.fault all told))

pub returns-in-ScriptFault-clause-whole : goal.returns-in-ScriptFault-clause-whole
returns-in-ScriptFault-clause-whole g c runs e all w told told_w meant reads =
    c.in-ScriptFault.ensures.whole tt all w told told_w meant reads

pub returns-in-ScriptFault-clause-answered : goal.returns-in-ScriptFault-clause-answered
returns-in-ScriptFault-clause-answered g c s k runs all told meant reads none =
    absurd (none_some (outcome meant all).fault (c.in-ScriptFault.line, c.in-ScriptFault.reason) none
    (c.in-ScriptFault.ensures.fault all told meant reads))

pub returns-in-SinkFault-clause-front : goal.returns-in-SinkFault-clause-front
returns-in-SinkFault-clause-front g c runs e all w told told_w meant reads =
    c.in-SinkFault.ensures.front (inl refl) all w told told_w meant reads

pub returns-in-SinkFault-clause-answered : goal.returns-in-SinkFault-clause-answered
returns-in-SinkFault-clause-answered g c s k runs all told meant reads none =
    absurd ((c.in-SinkFault.ensures.complete s k).1 refl)

pub returns-in-NoMemory-clause-front : goal.returns-in-NoMemory-clause-front
returns-in-NoMemory-clause-front g c runs e all w told told_w meant reads =
    c.in-NoMemory.ensures.front (inr refl) all w told told_w meant reads

pub returns-then-not-is_run-clause-load_front : goal.returns-then-not-is_run-clause-load_front
returns-then-not-is_run-clause-load_front g c n e meant reads w told =
    let front = c.run_other.ensures.load_front n e meant reads w told in record { count = front.0; front = front.1 }
