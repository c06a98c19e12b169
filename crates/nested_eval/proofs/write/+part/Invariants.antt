use Rattle.std.proofs.Common.{◌≡◌, ◌++◌, ◌∷◌, map, drop, if◌then◌else◌, IsTrue}
use Rattle.std.specs.List.{flat_map}
use Rattle.scalar_val.specs.Joined.{parted}
use Rattle.nested_eval.specs.Seen.{seen}
use Rattle.nested_eval.specs.Nodes.{objects_of, texts_of, part_text, parts_ready}
use Rattle.nested_eval.proofs.write.+part.Given as goal

-- what is written, and what is left to write
abbrev pub invariant-put_objects-loop-row : goal.invariant-put_objects-loop-row
invariant-put_objects-loop-row l =
    let rest = objects_of l.binding l.parts (seen (drop l.row-index l.rows)) in
    l.out.items ++ (if l.first then parted 44 rest else flat_map (λ u. 44 ∷ u) rest)
    ≡ l.fn.out.items ++ parted 44 (objects_of l.binding l.parts (seen l.rows))

abbrev pub invariant-put_parts-loop-part : goal.invariant-put_parts-loop-part
invariant-put_parts-loop-part l =
    let left = drop l.part-index l.parts in
    let rest = texts_of (map (part_text l.binding) left) l.row in
    record {
      told : l.out.items ++ (if l.first then parted 44 rest else flat_map (λ u. 44 ∷ u) rest)
          ≡ l.fn.out.items ++ parted 44 (texts_of (map (part_text l.binding) l.parts) l.row);
      ready : IsTrue (parts_ready l.binding left);
    }
