use Rattle.std.proofs.Common.{◌≡◌, ◌+◌, arith, subst, sym, refl, ℕ, List, ◌++◌, length-append}
use Rattle.machine.specs.Messages.{Message}
use Rattle.subs_run.specs.Runs.{ran, Reads}
use Rattle.subs_run.specs.Standing.{AreRead}
use Rattle.subs_run.proofs.Outcomes.{outcome-fault, reads-front, ends_on, ends_then, front_of_output}
use Rattle.subs_run.proofs.Pieces.{neither}
use Rattle.subs_run.proofs.reader.Reader.take.Goals as goal

pub fault-requires : goal.fault-requires
fault-requires g c =
    let fed = c.in-Faulty.ensures.fed c.requires.seen c.requires.ran in
    omega (arith, fed.1, c.requires.within, length-append c.requires.seen c.args.piece.now)

pub returns-in-Done-clause-takes : goal.returns-in-Done-clause-takes
returns-in-Done-clause-takes g c seen r within =
    (c.in-Done.ensures.fed seen r, λ meant says. c.in-Done.ensures.all meant seen r says, refl)

pub returns-in-Faulty-clause-takes : goal.returns-in-Faulty-clause-takes
returns-in-Faulty-clause-takes g c seen r within =
    let read : List ℕ = seen ++ c.args.piece.now in
    let fed = c.in-Faulty.ensures.fed seen r in (
      neither c.fault.result (g.K.Sink.written c.feed.new.sink) (g.K.Sink.written c.fault.new.sink)
          (c.feed.new.self.lines_read + 1) c.in-Faulty.reason c.fault.ensures.closes,
      λ meant rest reads.
          let says : AreRead meant read =
          reads-front meant read rest (omega (arith, within, length-append seen c.args.piece.now)) reads in
          ends_then meant c.fault.result (g.K.Sink.written c.args.sink.now) (g.K.Sink.written c.feed.new.sink)
          (g.K.Sink.written c.fault.new.sink) (ran meant seen).text (ran meant read).text (read ++ rest)
          (c.in-Faulty.ensures.all meant seen r says)
          (ends_on meant c.fault.result (g.K.Sink.written c.feed.new.sink) (g.K.Sink.written c.fault.new.sink)
          (ran meant read).text (read ++ rest) _ c.fault.ensures.closes
          (outcome-fault meant read rest (c.feed.new.self.lines_read + 1) c.in-Faulty.reason
          (omega (arith, within, length-append seen c.args.piece.now)) (fed.0 meant says))),
    )

pub returns-in-SinkFailed-clause-takes : goal.returns-in-SinkFailed-clause-takes
returns-in-SinkFailed-clause-takes g c seen r within = (
  tt,
  λ meant rest reads.
      let read : List ℕ = seen ++ c.args.piece.now in
      let says : AreRead meant read =
      reads-front meant read rest (omega (arith, within, length-append seen c.args.piece.now)) reads in
      front_of_output meant (g.K.Sink.written c.args.sink.now) (g.K.Sink.written c.feed.new.sink)
      (ran meant seen).text read rest (omega (arith, within, length-append seen c.args.piece.now))
      (c.in-SinkFailed.ensures.all meant seen r says),
)

pub returns-in-NoMemory-clause-takes : goal.returns-in-NoMemory-clause-takes
returns-in-NoMemory-clause-takes g c seen r within = (
  tt,
  λ meant rest reads.
      let read : List ℕ = seen ++ c.args.piece.now in
      let says : AreRead meant read =
      reads-front meant read rest (omega (arith, within, length-append seen c.args.piece.now)) reads in
      front_of_output meant (g.K.Sink.written c.args.sink.now) (g.K.Sink.written c.feed.new.sink)
      (ran meant seen).text read rest (omega (arith, within, length-append seen c.args.piece.now))
      (c.in-NoMemory.ensures.all meant seen r says),
)
