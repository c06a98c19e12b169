use Rattle.std.proofs.Common.{◌∙◌, sym, ap, subst, get_or, List, ℕ, Option, [], ◌++◌, map, append-nil}
use Rattle.std.proofs.lemmas.List.{length-map, get_or_default}
use Rattle.std.specs.List.{cons_option}
use Rattle.cohort_map.specs.declared.member.Member.{Member}
use Rattle.hub_model.specs.declared.telling.Telling.{Telling}
use Rattle.hub.specs.Telling.{AreKept, text_of, told}
use Rattle.hub.proofs.Tellings.{none_are_kept, made_more}
use Rattle.hub.proofs.publication.tellings.Goals as goal
use Rattle.hub.proofs.publication.tellings.Goals.{in-Some+in_ok-add, in_default}

pub loop-member-init : goal.loop-member-init
loop-member-init c =
    let texts = map text_of c.args.outcomes.now in (
      subst (λ (kept : List (Option (List ℕ))). AreKept texts kept) (sym c.in_ok-kept.ensures)
          (none_are_kept texts _ (length-map c.args.outcomes.now text_of)),
      c.new-tellings.ensures,
    )

pub loop-member-preserved : goal.loop-member-preserved
loop-member-preserved c =
    let before = c.loop-member.tellings in
    let members = c.args.members.now in
    let zero : Member = record { sub = 0; id = 0 } in
    let member = get_or members c.loop-member.member-index zero in
    let step = made_more (told c.args.cohorts.now.entries c.args.held.now c.args.outcomes.now) members
    c.loop-member.member-index member c.in_ok-telling.field-0 before c.loop-member-test.true
    (get_or_default members c.loop-member.member-index zero member c.loop-member-test.true)
    c.in_ok-telling.ensures.ok c.loop-member.invariant.1 in (
      c.telling_of.ensures.kept,
      elim c.match-branch-3.branch [
        | in-Some+in_ok-add w ↦
            w.tellings-is ∙ w.in_ok-add.ensures.ok
            ∙ ap (λ (o : Option Telling). before ++ cons_option o []) (sym w.in-Some.is) ∙ step
        | in_default w ↦
            w.tellings-is ∙ sym (append-nil before)
            ∙ ap (λ (o : Option Telling). before ++ cons_option o []) (sym w.in_default.is) ∙ step
      ],
    )
