-- The compact JSON text of a node (RFC 8259): no spaces, pairs in order.
use Rattle.std.specs.Prelude.{ℕ, List, [], ◌∷◌, ◌++◌}
use Rattle.json.specs.Print.{quoted}
use Rattle.scalar_val.specs.Joined.{parted}
use Rattle.scalar_val.specs.ValText.{val_text}
use Rattle.json_out.specs.declared.node.JNode.{JNode}
use Rattle.json_out.specs.declared.node.JPair.{JPair}
use Rattle.json_out.specs.declared.node.JNode.TheOpen.{JNode-F, JPair-F}
use Rattle.json_out.specs.declared.node.JNode.TheFolds.{fold-JNode, fold-JPair}

-- a scalar, an array or an object, with the text of each part in its place
abbrev pub node_step : JNode-F (List ℕ) (List ℕ) → List ℕ
node_step (JNode-F.Scalar v) = val_text v
node_step (JNode-F.List ts) = 91 ∷ parted 44 ts ++ 93 ∷ []
node_step (JNode-F.Object ts) = 123 ∷ parted 44 ts ++ 125 ∷ []

-- a pair, with the text of its value in its place
abbrev pub pair_step : JPair-F (List ℕ) (List ℕ) → List ℕ
pair_step p = quoted p.key ++ 58 ∷ p.value

abbrev pub text : JNode → List ℕ
text = fold-JNode (List ℕ) (List ℕ) node_step pair_step

abbrev pub pair_text : JPair → List ℕ
pair_text = fold-JPair (List ℕ) (List ℕ) node_step pair_step
