use Rattle.std.proofs.Common.{◌≡◌, drop}
use Rattle.stream_cursor.specs.Moves.{AreApart, rekeyed}
use Rattle.stream_cursor.specs.Steps.{AreThere, AreReady}
use Rattle.stream_cursor.proofs.moves.move_all.Given as goal

abbrev pub invariant-loop-one : goal.invariant-loop-one
invariant-loop-one l = record {
  there : AreThere (drop l.one-index l.moves) l.map.entries;
  ready : AreReady (drop l.one-index l.moves) l.map.ready;
  apart : AreApart (drop l.one-index l.moves);
  left : rekeyed (drop l.one-index l.moves) l.map.entries ≡ rekeyed l.moves l.fn.map.entries;
}
