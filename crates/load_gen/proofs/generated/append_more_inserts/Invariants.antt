use Rattle.std.proofs.Common.{◌≡◌, ◌-◌, ◌++◌, ◌∷◌}
use Rattle.std.specs.List.{flat_map, range_with_len}
use Rattle.wire_model.specs.Generated.{insert_text}
use Rattle.load_gen.proofs.generated.append_more_inserts.Given as goal

-- what is written so far, and then the users that are left
abbrev pub invariant-loop-user : goal.invariant-loop-user
invariant-loop-user l =
    l.out.items ++ flat_map (λ i. 44 ∷ insert_text i) (range_with_len l.user (l.user-end - l.user))
    ≡ l.fn.out.items ++ flat_map (λ i. 44 ∷ insert_text i) (range_with_len 2 (l.n - 1))
