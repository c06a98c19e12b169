use Rattle.std.proofs.Common.{arith}
use Rattle.machine.specs.Script.{limit}
use Rattle.subs_run.proofs.Readers.{taken_within}
use Rattle.subs_run.proofs.Pieces.{too_long, finished}
use Rattle.subs_run.proofs.script.run_last_piece.Goals as goal

pub fault-requires : goal.fault-requires
fault-requires g c =
    omega (arith, taken_within c.args.reader.now c.requires.room.seen c.requires.room.ran, c.requires.room.within)

pub finish-requires : goal.finish-requires
finish-requires g c =
    omega (arith, taken_within c.args.reader.now c.requires.room.seen c.requires.room.ran, c.requires.room.within)

pub returns-in-Bytes-clause-closed : goal.returns-in-Bytes-clause-closed
returns-in-Bytes-clause-closed g c start a =
    too_long c.fault.result start.left (g.S.Source.left c.args.source.now)
    (g.S.Source.left c.read_piece.new.source) start.written (g.K.Sink.written c.args.sink.now)
    (g.K.Sink.written c.fault.new.sink) c.args.reader.now c.read_piece.new.buf c.in-Bytes.field-0 a
    c.in-Bytes.ensures.bytes c.in-Bytes.ensures.count.0 c.in-Bytes.ensures.count.1
    (omega (arith, c.read_piece.auto.buf, c.requires.some, c.in-Bytes.ensures.count.1)) c.fault.ensures.closes

pub returns-in-End-clause-closed : goal.returns-in-End-clause-closed
returns-in-End-clause-closed g c start a =
    finished c.finish.result start.left (g.S.Source.left c.args.source.now)
    (g.S.Source.left c.read_piece.new.source) start.written (g.K.Sink.written c.args.sink.now)
    (g.K.Sink.written c.finish.new.sink) c.args.reader.now c.read_piece.new.buf limit a c.in-End.ensures.bytes
    c.finish.ensures.closes
