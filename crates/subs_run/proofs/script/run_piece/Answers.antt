use Rattle.std.proofs.Common.{◌≤◌, ◌+◌, ◌-◌, rules, arith, ℕ, length}
use Rattle.std.proofs.lemmas.List.{length-take-le}
use Rattle.machine.specs.Script.{limit}
use Rattle.subs_run.proofs.Readers.{taken_within}
use Rattle.subs_run.proofs.Pieces.{piece_came, finished}
use Rattle.subs_run.proofs.script.run_piece.Goals as goal

pub finish-requires : goal.finish-requires
finish-requires g c =
    omega (arith, taken_within c.args.reader.now c.requires.room.seen c.requires.room.ran, c.requires.room.within)

pub returns-in-Bytes-clause-leads : goal.returns-in-Bytes-clause-leads
returns-in-Bytes-clause-leads g c start a =
    let n : ℕ = c.in-Bytes.got in
    let most : c.min-most.result ≤ length c.args.buf.now = search rules in
    let most_left : c.min-most.result ≤ limit - c.args.count = search rules in
    let within : n ≤ length c.read_piece.new.buf =
    omega (arith, c.read_piece.auto.buf, c.in-Bytes.ensures.count.1, most) in
    let few : c.args.count + n ≤ limit = omega (arith, c.in-Bytes.ensures.count.1, most_left, c.requires.few) in
    piece_came c.take.result start.left (g.S.Source.left c.args.source.now)
    (g.S.Source.left c.read_piece.new.source) start.written (g.K.Sink.written c.args.sink.now)
    (g.K.Sink.written c.take.new.sink) c.args.reader.now c.take.new.self c.read_piece.new.buf c.args.count n a
    c.in-Bytes.ensures.bytes c.in-Bytes.ensures.count.0 within few
    (c.take.ensures.takes a.seen a.after (omega (arith, a.count_is, few, length-take-le n c.read_piece.new.buf within)))

pub returns-in-End-clause-leads : goal.returns-in-End-clause-leads
returns-in-End-clause-leads g c start a =
    finished c.finish.result start.left (g.S.Source.left c.args.source.now)
    (g.S.Source.left c.read_piece.new.source) start.written (g.K.Sink.written c.args.sink.now)
    (g.K.Sink.written c.finish.new.sink) c.args.reader.now c.read_piece.new.buf c.args.count a c.in-End.ensures.bytes
    c.finish.ensures.closes
