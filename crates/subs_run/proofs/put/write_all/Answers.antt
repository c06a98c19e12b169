use Rattle.std.proofs.Common.{◌≡◌, ◌-◌, length, take, drop, arith}
use Rattle.std.proofs.lemmas.Grind.{common_steps}
use Rattle.subs_run.proofs.Written.{writes_more}
use Rattle.subs_run.proofs.put.write_all.Goals as goal

pub loop-at-preserved : goal.loop-at-preserved
loop-at-preserved g c =
    let whole : take (length c.args.bytes.now - c.loop-at.at)
    (drop c.loop-at.at c.args.bytes.now) ≡ drop c.loop-at.at c.args.bytes.now = grind (arith, common_steps) in
    record {
      within = grind (arith, common_steps, c.in-Bytes.ensures.count.1);
      written = writes_more _ _ _ c.args.bytes.now _ c.loop-at.at c.in-Bytes.count c.loop-at.invariant.written whole
          c.in-Bytes.ensures.bytes;
      later = omega (arith, c.in-Bytes.ensures.cause.later);
      steady = λ s. (c.in-Bytes.ensures.steady (c.loop-at.invariant.steady s)).0;
    }
