use Rattle.std.proofs.Common.{arith}
use Rattle.commit_server.proofs.Feeding.{feeds_more, rest_after, stops_within}
use Rattle.commit_server.proofs.reader.take_bytes.Goals as goal

pub take_byte-requires-clause-line : goal.take_byte-requires-clause-line
take_byte-requires-clause-line g c =
    let feeds = c.loop-byte.invariant.feeds in (rest_after _ _ _ _ _ _ _ feeds, feeds.short_line)

pub loop-byte-preserved : goal.loop-byte-preserved
loop-byte-preserved g c =
    let inv = c.loop-byte.invariant in
    record {
      feeds = feeds_more c.args.pass.now c.loop-byte.pass c.take_byte.new.pass _ _ _ c.args.line.now.items
          c.loop-byte.line.items c.take_byte.new.line.items c.args.piece.now c.loop-byte.byte-index (omega arith)
          inv.feeds c.in-Ok.ensures.fed;
      steady = λ never. (c.in-Ok.ensures.steady (inv.steady never)).0;
    }

pub returns-in-Err-clause-fed : goal.returns-in-Err-clause-fed
returns-in-Err-clause-fed g c =
    let inv = c.loop-byte.invariant in
    stops_within c.args.pass.now c.loop-byte.pass c.take_byte.new.pass _ _ _ c.args.line.now.items
    c.loop-byte.line.items c.args.piece.now c.loop-byte.byte-index c.in-Err.end (omega arith) inv.feeds
    c.in-Err.ensures.fed
