use Rattle.std.proofs.Common.{◌≡◌, List, ℕ, Bool, true, false, not, length, refl, arith}
use Rattle.std.specs.Bool.{OnTrue}
use Rattle.json.specs.Print.{escape}
use Rattle.json.specs.Written.{PlainBetween}
use Rattle.json.proofs.Printed.Plain.{escape_on_plain}
use Rattle.scalar_val.proofs.json_text.is_plain.Goals as goal

plain_text : (stops : Bool) (d : List ℕ) → (stops ≡ false → PlainBetween d 0 (length d)) → OnTrue (not stops) (escape d ≡ d)
plain_text true d h = tt
plain_text false d h = escape_on_plain true d (h refl)

pub returns : goal.returns
returns c = plain_text c.loop-byte.stops c.args.bytes.now (λ e k p q. c.loop-byte.invariant e k p (omega arith))
