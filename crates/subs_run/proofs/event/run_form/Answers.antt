use Rattle.std.proofs.Common.{sym, subst, List, ℕ, Some}
use Rattle.data_model.specs.Form.{transaction}
use Rattle.machine.specs.State as state
use Rattle.machine.specs.State.{State, Event}
use Rattle.machine.specs.Run.{run}
use Rattle.machine.specs.Transcript.{poll}
use Rattle.machine.specs.Script.{AllSay, acts, commits, opens, said_on, serves, serves_known, went}
use Rattle.script_text.specs.declared.line.Line.{Line}
use Rattle.script_text.specs.Said.{line_of}
use Rattle.subs_run.specs.Events.{HubRan, LineRan}
use Rattle.subs_run.proofs.Events.{line_ran, hub_steady, steady_by}
use Rattle.subs_run.proofs.event.run_form.Goals as goal

pub returns-in-Open-clause-ran : goal.returns-in-Open-clause-ran
returns-in-Open-clause-ran g c meant h r says =
    let k = c.args.runner.now.hub in
    let s : State = run k.meta h in
    subst
    (λ (l : Line). LineRan c.run_open.result
    (acts meant k.meta s (line_of l)) k c.run_open.new.hub c.args.runner.now.jobs.items c.args.out.now.items
    c.run_open.new.out.items)
    (sym c.in-Open.is)
    (line_ran c.run_open.result (opens k.meta s c.in-Open.conn) k c.run_open.new.hub c.args.runner.now.jobs.items h
    c.args.out.now.items c.run_open.new.out.items r (c.run_open.ensures h r.stands))

pub returns-in-Open-clause-steady : goal.returns-in-Open-clause-steady
returns-in-Open-clause-steady g c =
    let k = c.args.runner.now.hub in
    let h : List Event = c.requires.stands.0 in
    let r = c.requires.stands.1 in
    steady_by c.run_open.result
    (λ (s : State). opens k.meta s c.in-Open.conn) k c.run_open.new.hub c.args.runner.now.jobs.items
    c.args.out.now.items c.run_open.new.out.items h r (c.run_open.ensures h r.stands)

pub returns-in-Binary-clause-ran : goal.returns-in-Binary-clause-ran
returns-in-Binary-clause-ran g c meant h r says =
    let k = c.args.runner.now.hub in
    let s : State = run k.meta h in
    subst
    (λ (l : Line). LineRan c.run_binary.result
    (acts meant k.meta s (line_of l)) k c.run_binary.new.hub c.args.runner.now.jobs.items c.args.out.now.items
    c.run_binary.new.out.items)
    (sym c.in-Binary.is)
    (line_ran c.run_binary.result
    (serves_known k.meta s c.in-Binary.conn (state.Binary c.in-Binary.conn)) k c.run_binary.new.hub
    c.args.runner.now.jobs.items h c.args.out.now.items c.run_binary.new.out.items r (c.run_binary.ensures h r.stands))

pub returns-in-Binary-clause-steady : goal.returns-in-Binary-clause-steady
returns-in-Binary-clause-steady g c =
    let k = c.args.runner.now.hub in
    let h : List Event = c.requires.stands.0 in
    let r = c.requires.stands.1 in
    steady_by c.run_binary.result
    (λ (s : State). serves_known k.meta s c.in-Binary.conn (state.Binary c.in-Binary.conn)) k c.run_binary.new.hub
    c.args.runner.now.jobs.items c.args.out.now.items c.run_binary.new.out.items h r (c.run_binary.ensures h r.stands)

pub returns-in-Timeout-clause-ran : goal.returns-in-Timeout-clause-ran
returns-in-Timeout-clause-ran g c meant h r says =
    let k = c.args.runner.now.hub in
    let s : State = run k.meta h in
    subst
    (λ (l : Line). LineRan c.run_timeout.result
    (acts meant k.meta s (line_of l)) k c.run_timeout.new.hub c.args.runner.now.jobs.items c.args.out.now.items
    c.run_timeout.new.out.items)
    (sym c.in-Timeout.is)
    (line_ran c.run_timeout.result (serves_known k.meta s c.in-Timeout.conn (state.Timeout c.in-Timeout.conn)) k
    c.run_timeout.new.hub c.args.runner.now.jobs.items h c.args.out.now.items c.run_timeout.new.out.items r
    (c.run_timeout.ensures h r.stands))

pub returns-in-Timeout-clause-steady : goal.returns-in-Timeout-clause-steady
returns-in-Timeout-clause-steady g c =
    let k = c.args.runner.now.hub in
    let h : List Event = c.requires.stands.0 in
    let r = c.requires.stands.1 in
    steady_by c.run_timeout.result
    (λ (s : State). serves_known k.meta s c.in-Timeout.conn (state.Timeout c.in-Timeout.conn)) k c.run_timeout.new.hub
    c.args.runner.now.jobs.items c.args.out.now.items c.run_timeout.new.out.items h r (c.run_timeout.ensures h r.stands)

pub returns-in-Gone-clause-ran : goal.returns-in-Gone-clause-ran
returns-in-Gone-clause-ran g c meant h r says =
    let k = c.args.runner.now.hub in
    let s : State = run k.meta h in
    subst
    (λ (l : Line). LineRan c.run_gone.result
    (acts meant k.meta s (line_of l)) k c.run_gone.new.hub c.args.runner.now.jobs.items c.args.out.now.items
    c.run_gone.new.out.items)
    (sym c.in-Gone.is)
    (line_ran c.run_gone.result
    (serves_known k.meta s c.in-Gone.conn (state.Gone c.in-Gone.conn)) k c.run_gone.new.hub
    c.args.runner.now.jobs.items h c.args.out.now.items c.run_gone.new.out.items r (c.run_gone.ensures h r.stands))

pub returns-in-Gone-clause-steady : goal.returns-in-Gone-clause-steady
returns-in-Gone-clause-steady g c =
    let k = c.args.runner.now.hub in
    let h : List Event = c.requires.stands.0 in
    let r = c.requires.stands.1 in
    steady_by c.run_gone.result (λ (s : State). serves_known k.meta s c.in-Gone.conn (state.Gone c.in-Gone.conn)) k
    c.run_gone.new.hub c.args.runner.now.jobs.items c.args.out.now.items c.run_gone.new.out.items h r
    (c.run_gone.ensures h r.stands)

pub returns-in-Drain-clause-ran : goal.returns-in-Drain-clause-ran
returns-in-Drain-clause-ran g c meant h r says =
    let k = c.args.runner.now.hub in
    let s : State = run k.meta h in
    subst
    (λ (l : Line). LineRan c.run_drain.result
    (acts meant k.meta s (line_of l)) k c.run_drain.new.hub c.args.runner.now.jobs.items c.args.out.now.items
    c.run_drain.new.out.items)
    (sym c.in-Drain.is)
    (line_ran c.run_drain.result
    (serves_known k.meta s c.in-Drain.conn (state.Drain c.in-Drain.conn)) k c.run_drain.new.hub
    c.args.runner.now.jobs.items h c.args.out.now.items c.run_drain.new.out.items r (c.run_drain.ensures h r.stands))

pub returns-in-Drain-clause-steady : goal.returns-in-Drain-clause-steady
returns-in-Drain-clause-steady g c =
    let k = c.args.runner.now.hub in
    let h : List Event = c.requires.stands.0 in
    let r = c.requires.stands.1 in
    steady_by c.run_drain.result (λ (s : State). serves_known k.meta s c.in-Drain.conn (state.Drain c.in-Drain.conn))
    k c.run_drain.new.hub c.args.runner.now.jobs.items c.args.out.now.items c.run_drain.new.out.items h r
    (c.run_drain.ensures h r.stands)

pub returns-in-Commit-clause-ran : goal.returns-in-Commit-clause-ran
returns-in-Commit-clause-ran g c meant h r says =
    let k = c.args.runner.now.hub in
    let s : State = run k.meta h in
    subst
    (λ (l : Line). LineRan c.run_commit.result
    (acts meant k.meta s (line_of l)) k c.run_commit.new.hub c.args.runner.now.jobs.items c.args.out.now.items
    c.run_commit.new.out.items)
    (sym c.in-Commit.is)
    (line_ran c.run_commit.result
    (commits k.meta s (transaction c.in-Commit.text.now)) k c.run_commit.new.hub c.args.runner.now.jobs.items h
    c.args.out.now.items c.run_commit.new.out.items r (c.run_commit.ensures h r.stands))

pub returns-in-Commit-clause-steady : goal.returns-in-Commit-clause-steady
returns-in-Commit-clause-steady g c =
    let k = c.args.runner.now.hub in
    let h : List Event = c.requires.stands.0 in
    let r = c.requires.stands.1 in
    steady_by c.run_commit.result
    (λ (s : State). commits k.meta s (transaction c.in-Commit.text.now)) k c.run_commit.new.hub
    c.args.runner.now.jobs.items c.args.out.now.items c.run_commit.new.out.items h r (c.run_commit.ensures h r.stands)

pub returns-in-Tick-clause-ran : goal.returns-in-Tick-clause-ran
returns-in-Tick-clause-ran g c meant h r says =
    let k = c.args.runner.now.hub in
    let s : State = run k.meta h in
    subst
    (λ (l : Line). LineRan c.run_tick.result
    (acts meant k.meta s (line_of l)) k c.run_tick.new.hub c.args.runner.now.jobs.items c.args.out.now.items
    c.run_tick.new.out.items)
    (sym c.in-Tick.is)
    (line_ran c.run_tick.result (serves k.meta s state.Tick) k c.run_tick.new.hub c.args.runner.now.jobs.items h
    c.args.out.now.items c.run_tick.new.out.items r (c.run_tick.ensures h r.stands))

pub returns-in-Tick-clause-steady : goal.returns-in-Tick-clause-steady
returns-in-Tick-clause-steady g c =
    let k = c.args.runner.now.hub in
    let h : List Event = c.requires.stands.0 in
    let r = c.requires.stands.1 in
    steady_by c.run_tick.result
    (λ (s : State). serves k.meta s state.Tick) k c.run_tick.new.hub c.args.runner.now.jobs.items c.args.out.now.items
    c.run_tick.new.out.items h r (c.run_tick.ensures h r.stands)

pub returns-in-Report-clause-ran : goal.returns-in-Report-clause-ran
returns-in-Report-clause-ran g c meant h r says =
    let k = c.args.runner.now.hub in
    let s : State = run k.meta h in
    subst
    (λ (l : Line). LineRan c.run_report.result
    (acts meant k.meta s (line_of l)) k c.run_report.new.hub c.args.runner.now.jobs.items c.args.out.now.items
    c.run_report.new.out.items)
    (sym c.in-Report.is)
    (line_ran c.run_report.result (serves k.meta s state.Report) k c.run_report.new.hub c.args.runner.now.jobs.items h
    c.args.out.now.items c.run_report.new.out.items r (c.run_report.ensures h r.stands))

pub returns-in-Report-clause-steady : goal.returns-in-Report-clause-steady
returns-in-Report-clause-steady g c =
    let k = c.args.runner.now.hub in
    let h : List Event = c.requires.stands.0 in
    let r = c.requires.stands.1 in
    steady_by c.run_report.result
    (λ (s : State). serves k.meta s state.Report) k c.run_report.new.hub c.args.runner.now.jobs.items
    c.args.out.now.items c.run_report.new.out.items h r (c.run_report.ensures h r.stands)

pub returns-in-Poll-clause-ran : goal.returns-in-Poll-clause-ran
returns-in-Poll-clause-ran g c meant h r says =
    let k = c.args.runner.now.hub in
    let s : State = run k.meta h in
    subst
    (λ (l : Line). LineRan c.run_poll.result
    (acts meant k.meta s (line_of l)) k c.run_poll.new.hub c.args.runner.now.jobs.items c.args.out.now.items
    c.run_poll.new.out.items)
    (sym c.in-Poll.is)
    (line_ran c.run_poll.result (went k.meta (poll k.meta s)) k c.run_poll.new.hub c.args.runner.now.jobs.items h
    c.args.out.now.items c.run_poll.new.out.items r (c.run_poll.ensures h r.stands))

pub returns-in-Poll-clause-steady : goal.returns-in-Poll-clause-steady
returns-in-Poll-clause-steady g c =
    let k = c.args.runner.now.hub in
    let h : List Event = c.requires.stands.0 in
    let r = c.requires.stands.1 in
    steady_by c.run_poll.result
    (λ (s : State). went k.meta (poll k.meta s)) k c.run_poll.new.hub c.args.runner.now.jobs.items
    c.args.out.now.items c.run_poll.new.out.items h r (c.run_poll.ensures h r.stands)

pub returns-in-Receive-clause-ran : goal.returns-in-Receive-clause-ran
returns-in-Receive-clause-ran g c meant h r says =
    let k = c.args.runner.now.hub in
    let s : State = run k.meta h in
    let own = subst (λ (l : Line). AllSay meant (said_on s (Some (line_of l)))) c.in-Receive.is says in
    subst
    (λ (l : Line). LineRan c.run_recv.result
    (acts meant k.meta s (line_of l)) k c.run_recv.new.hub c.args.runner.now.jobs.items c.args.out.now.items
    c.run_recv.new.out.items)
    (sym c.in-Receive.is)
    (line_ran c.run_recv.result
    (serves_known k.meta s c.in-Receive.conn (state.Receive c.in-Receive.conn (meant c.in-Receive.text.now))) k
    c.run_recv.new.hub c.args.runner.now.jobs.items h c.args.out.now.items c.run_recv.new.out.items r
    (c.run_recv.ensures.ran meant h r.stands own))

pub returns-in-Receive-clause-steady : goal.returns-in-Receive-clause-steady
returns-in-Receive-clause-steady g c =
    hub_steady c.run_recv.result c.args.runner.now.hub c.run_recv.new.hub c.args.runner.now.jobs.items
    c.requires.stands.0 c.requires.stands.1 (c.run_recv.ensures.goes_on c.requires.stands.0 c.requires.stands.1.stands)
