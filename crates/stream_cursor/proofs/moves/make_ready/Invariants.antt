use Rattle.std.proofs.Common.{◌≡◌, ◌++◌, drop}
use Rattle.stream_cursor.specs.Moves.{AreStreams}
use Rattle.stream_cursor.specs.Steps.{pairs}
use Rattle.stream_cursor.proofs.moves.make_ready.Given as goal

abbrev pub invariant-loop-one : goal.invariant-loop-one
invariant-loop-one l = record {
  entries : l.map.entries ≡ l.fn.map.entries;
  left : AreStreams (drop l.one-index l.moves) l.map.entries;
  made : l.map.ready ++ pairs (drop l.one-index l.moves) ≡ l.fn.map.ready ++ pairs l.moves;
}
