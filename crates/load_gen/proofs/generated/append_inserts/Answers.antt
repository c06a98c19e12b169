use Rattle.std.proofs.Common.{◌-◌, ◌∷◌, map, codes}
use Rattle.std.specs.List.{flat_map, join_with_byte, range_with_len}
use Rattle.std.proofs.lemmas.Result.{IfOk-weaker}
use Rattle.wire_model.specs.Generated.{insert_text}
use Rattle.load_gen.proofs.Scripts.{four_behind, joined_inserts}
use Rattle.load_gen.proofs.generated.append_inserts.Goals as goal

pub returns : goal.returns
returns c =
    IfOk-weaker c.append_line.result _ _
    (λ x last. four_behind c.args.out.now.items (codes "commit [") (insert_text 1)
    (flat_map (λ i. 44 ∷ insert_text i) (range_with_len 2 (c.args.n - 1))) (codes "]")
    (join_with_byte 44 (map insert_text (range_with_len 1 c.args.n))) c.append.new.out.items
    c.append_insert.new.out.items c.append_more_inserts.new.out.items c.append_line.new.out.items
    (joined_inserts c.args.n c.requires.some) c.in_ok-append.ensures c.in_ok-append_insert.ensures
    c.in_ok-append_more_inserts.ensures last) c.append_line.ensures
