use Rattle.std.proofs.Common.{arith, refl}
use Rattle.std.proofs.lemmas.Grind.{common_steps}
use Rattle.std.proofs.lemmas.List.{take_rest}
use Rattle.commit_server.proofs.Writing.{writes_failed, writes_more, writes_refused}
use Rattle.commit_server.proofs.put.write_text.Goals as goal

pub loop-at-preserved : goal.loop-at-preserved
loop-at-preserved g c =
    let e = c.in-Bytes.ensures in
    record {
      within = grind (arith, common_steps, e.count.1, c.loop-at.invariant.within);
      writes = writes_more _ _ _ c.args.text.now _ c.loop-at.at c.in-Bytes.count c.loop-at.invariant.writes
          (take_rest c.args.text.now c.loop-at.at) e.bytes
          e.cause.later;
      steady = λ never. (e.steady (c.loop-at.invariant.steady never)).0;
    }

pub returns-in-Failed-clause-writes : goal.returns-in-Failed-clause-writes
returns-in-Failed-clause-writes g c =
    let e = c.in-Failed.ensures in
    writes_failed _ _ _ c.args.text.now _ c.loop-at.at c.loop-at.invariant.writes e.bytes e.cause.later
    (e.cause.failed refl)

pub returns-in-NoMemory-clause-writes : goal.returns-in-NoMemory-clause-writes
returns-in-NoMemory-clause-writes g c =
    let e = c.in-NoMemory.ensures in
    writes_refused _ _ _ c.args.text.now _ c.loop-at.at c.loop-at.invariant.writes e.bytes e.cause.later
