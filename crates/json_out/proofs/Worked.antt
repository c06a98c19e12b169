-- Worked rows of `text`.
use Rattle.std.proofs.Common.{◌≡◌, ◌∙◌, sym, ap, ℕ, pos, neg_ℤ, List, [], ◌∷◌, ◌++◌, map, codes, true}
use Rattle.std.specs.Fmt.{digits}
use Rattle.json.specs.Print.{quoted, escape_byte}
use Rattle.scalar_val.specs.ValText.{val_text}
use Rattle.scalar_val.specs.declared.val.Val.{Val}
use Rattle.scalar_val.specs.declared.val.Val.TheVariants as val
use Rattle.json_out.specs.declared.node.JNode.{JNode}
use Rattle.json_out.specs.declared.node.JNode.TheVariants as node
use Rattle.json_out.specs.declared.node.JNode.TheVariants.{rolls-Scalar, rolls-List, rolls-Object}
use Rattle.json_out.specs.declared.node.JPair.{JPair}
use Rattle.json_out.specs.declared.node.JNode.TheFolds.{fold-roll-JNode, fold_out-JPair}
use Rattle.scalar_val.specs.Joined.{parted}
use Rattle.json_out.specs.Text.{text, pair_text, node_step, pair_step}

pub text-Scalar : (v : Val) → text (node.Scalar v) ≡ val_text v
text-Scalar v = ap text (sym (rolls-Scalar v)) ∙ fold-roll-JNode (List ℕ) (List ℕ) node_step pair_step _

pub text-List : (xs : List JNode) → text (node.List xs) ≡ 91 ∷ parted 44 (map text xs) ++ 93 ∷ []
text-List xs = ap text (sym (rolls-List xs)) ∙ fold-roll-JNode (List ℕ) (List ℕ) node_step pair_step _

pub text-Object : (xs : List JPair) → text (node.Object xs) ≡ 123 ∷ parted 44 (map pair_text xs) ++ 125 ∷ []
text-Object xs = ap text (sym (rolls-Object xs)) ∙ fold-roll-JNode (List ℕ) (List ℕ) node_step pair_step _

pub pair_text-is : (p : JPair) → pair_text p ≡ quoted p.key ++ 58 ∷ text p.value
pair_text-is p = fold_out-JPair (List ℕ) (List ℕ) node_step pair_step p

abbrev control_and_quote : List ℕ
control_and_quote = 1 ∷ 34 ∷ []

-- {"a":[null,true,-5,"\u0001\""]}
pub every_kind_of_node :
    text (node.Object (record { key = codes "a"; value = node.List (node.Scalar val.Null ∷ node.Scalar (val.Bool true) ∷ node.Scalar (val.Int (neg_ℤ (pos 5))) ∷ node.Scalar (val.Text control_and_quote) ∷ []) } ∷ []))
    ≡ codes "{\"a\":[null,true,-5,\"\\u0001\\\"\"]}"
unfolding digits escape_byte
every_kind_of_node = simp (text-List, text-Object, pair_text-is, text-Scalar)

pub nothing_in_it : text (node.Object (record { key = codes "user"; value = node.List [] } ∷ record { key = []; value = node.Object [] } ∷ [])) ≡ codes "{\"user\":[],\"\":{}}"
unfolding digits escape_byte
nothing_in_it = simp (text-List, text-Object, pair_text-is, text-Scalar)
