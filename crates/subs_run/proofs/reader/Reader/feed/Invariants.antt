use Rattle.std.proofs.Common.{◌≤◌, ◌-◌, ◌++◌, List, ℕ, take, length}
use Rattle.machine.specs.Messages.{Message}
use Rattle.subs_run.specs.Runs.{ran}
use Rattle.subs_run.specs.Written.{WritesOn}
use Rattle.subs_run.specs.Standing.{AreRead, HasRun, HasRoom}
use Rattle.subs_run.proofs.reader.Reader.feed.Given as goal

abbrev pub invariant-loop-byte : goal.invariant-loop-byte
invariant-loop-byte g l =
    let front = take l.byte-index l.piece in
    record {
      room : HasRoom l.self (length l.piece - l.byte-index);
      after : (seen : List ℕ) → HasRun l.fn.self seen → HasRun l.self (seen ++ front);
      written : (meant : List ℕ → Message) (seen : List ℕ) → HasRun l.fn.self seen → AreRead meant (seen ++ front) →
          WritesOn (g.K.Sink.written l.fn.sink) (g.K.Sink.written l.sink) (ran meant seen).text
          (ran meant (seen ++ front)).text;
      later : g.K.Sink.faults l.fn.sink ≤ g.K.Sink.faults l.sink;
      steady : g.K.Sink.never_fails l.fn.sink → g.K.Sink.never_fails l.sink;
    }
