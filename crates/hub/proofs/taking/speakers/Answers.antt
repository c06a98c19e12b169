use Rattle.std.proofs.Common.{◌∙◌, sym, ap, subst, ◌+◌, ◌≤◌, ℕ, List, take, get_or, slice_get, length, length-set}
use Rattle.std.proofs.lemmas.List.{take_more}
use Rattle.std.proofs.lemmas.List.Elements.{All-get_or, All-from_recursion}
use Rattle.cohort_map.specs.declared.member.Member.{Member}
use Rattle.hub.specs.Taking.{IsSpeaker}
use Rattle.hub.proofs.Speakers.{speaks_more}
use Rattle.hub.proofs.taking.speakers.Goals as goal

pub loop-member-preserved : goal.loop-member-preserved
loop-member-preserved c =
    let members = c.args.members.now in
    let i = c.loop-member.member-index in
    let zero : Member = record { sub = 0; id = 0 } in
    let member = get_or members i zero in
    let P : Member → Type 0 = λ m. 1 ≤ m.id in
    let low = All-get_or P members i zero c.loop-member-test.true (All-from_recursion P members c.requires) in (
      ap length c.speak.ensures
          ∙ length-set c.loop-member.subs.items _ member.sub
          ∙ c.loop-member.invariant.0,
      λ j number got.
          subst (λ (ms : List Member). IsSpeaker ms c.args.first (j + 1) number)
          (sym (take_more members i zero c.loop-member-test.true))
          (speaks_more (take i members) member c.args.first c.loop-member.subs.items low c.loop-member.invariant.1
          j number
          (ap (λ (ns : List ℕ). slice_get ns j) (sym c.speak.ensures) ∙ got)),
    )
