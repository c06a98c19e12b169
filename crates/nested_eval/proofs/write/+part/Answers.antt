use Rattle.std.proofs.Common.{arith, ◌++◌, List, map, refl, Bor}
use Rattle.scalar_val.specs.Joined.{Text, parted}
use Rattle.data_model.specs.Rows.{Row}
use Rattle.nested_eval.specs.declared.node.Part.{Part}
use Rattle.nested_eval.specs.Seen.{seen}
use Rattle.nested_eval.specs.Nodes.{objects_of, texts_of, part_text}
use Rattle.nested_eval.proofs.Parts.{all_written}
use Rattle.nested_eval.proofs.write.+part.Goals as goal

pub put_parts-returns : goal.put_parts-returns
put_parts-returns t c =
    all_written (λ (parts : List Part). texts_of (map (part_text c.args.binding.now) parts) c.args.row.now)
    refl c.args.parts.now c.loop-part.part-index c.loop-part.out.items
    (c.args.out.now.items ++ parted 44 (texts_of (map (part_text c.args.binding.now) c.args.parts.now) c.args.row.now))
    c.loop-part.first (omega (arith, c.loop-part-test.false)) c.loop-part.invariant.told

pub put_objects-returns : goal.put_objects-returns
put_objects-returns t c =
    all_written (λ (rows : List (Bor Row)). objects_of c.args.binding.now c.args.parts.now (seen rows))
    refl c.args.rows.now c.loop-row.row-index c.loop-row.out.items
    (c.args.out.now.items ++ parted 44 (objects_of c.args.binding.now c.args.parts.now (seen c.args.rows.now)))
    c.loop-row.first (omega (arith, c.loop-row-test.false)) c.loop-row.invariant
