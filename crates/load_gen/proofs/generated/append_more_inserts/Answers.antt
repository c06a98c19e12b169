use Rattle.std.proofs.Common.{◌+◌, ◌-◌, ◌++◌, ◌∷◌}
use Rattle.std.specs.List.{flat_map, range_with_len}
use Rattle.wire_model.specs.Generated.{insert_text}
use Rattle.load_gen.proofs.Scripts.{one_more}
use Rattle.load_gen.proofs.generated.append_more_inserts.Goals as goal

pub loop-user-preserved : goal.loop-user-preserved
loop-user-preserved c =
    one_more (λ i. 44 ∷ insert_text i) c.loop-user.out.items c.append_next_insert.new.out.items
    (c.args.out.now.items ++ flat_map (λ i. 44 ∷ insert_text i) (range_with_len 2 (c.args.n - 1))) c.loop-user.user (c.args.n + 1) c.loop-user-test.true
    c.loop-user.invariant c.in_ok-append_next_insert.ensures
