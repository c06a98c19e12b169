use Rattle.std.proofs.Common.{◌≡◌, List, ℕ, Option, Some, None, option_map, is_some, true, false, refl, ap}
use Rattle.std.specs.Int.{w128, from_be_bytes}
use Rattle.uuid.specs.Text.{parsed}
use Rattle.scalar_val.specs.declared.val.Val.TheVariants as val
use Rattle.selection_check.proofs.literals.spells_uuid.Goals as goal

none_of : {A : Type 0} (o : Option A) → ¬ ((x : A) × (o ≡ Some x)) → None ≡ o
none_of None h = refl
none_of (Some x) h = absurd (h (x, refl))

pub returns-in-Err : goal.returns-in-Err
returns-in-Err c =
    ap (λ (o : Option (List ℕ)). is_some (option_map (λ bytes. val.Uuid (from_be_bytes w128 bytes)) o))
    (none_of (parsed c.args.text.now) (λ h. let e : false ≡ true = c.in-Err.ensures.ok.1 h in cc))
