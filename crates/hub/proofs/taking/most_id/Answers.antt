use Rattle.std.proofs.Common.{◌≡◌, ◌∙◌, sym, ap, ℕ, max, get_or, arith}
use Rattle.cohort_map.specs.declared.member.Member.{Member}
use Rattle.hub.proofs.Speakers.{most_more}
use Rattle.hub.proofs.taking.most_id.Goals as goal
use Rattle.hub.proofs.taking.most_id.Goals.{then-member-most, else-member-most}

pub loop-member-preserved : goal.loop-member-preserved
loop-member-preserved c =
    let zero : Member = record { sub = 0; id = 0 } in
    let members = c.args.members.now in
    let i = c.loop-member.member-index in
    let before = c.loop-member.invariant in
    let larger : c.if-member-most.most ≡ max c.loop-member.most (get_or members i zero).id =
    elim c.if-member-most.branch [
      | then-member-most w ↦ let a = w.most-is in let b = w.if-member-most.true in omega (arith, a, b)
      | else-member-most w ↦ let a = w.most-is in let b = w.if-member-most.false in omega (arith, a, b)
    ] in
    larger
    ∙ ap (λ (n : ℕ). max n (get_or members i zero).id) before
    ∙ sym (most_more members i zero c.loop-member-test.true)
