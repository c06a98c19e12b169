use Rattle.std.proofs.Common.{◌≡◌, ◌∙◌, sym, ap, subst, true, ◌+◌, ◌<◌, ℕ, Some, List, [], ◌∷◌, ◌++◌, take, get_or}
use Rattle.std.proofs.Common.{slice_get, length, arith}
use Rattle.std.specs.Option.{option_map}
use Rattle.std.specs.List.{AllZip}
use Rattle.std.proofs.lemmas.List.{take_more, length-take-le}
use Rattle.std.proofs.lemmas.Option.{slice_get-get_or}
use Rattle.std.proofs.lemmas.Slice.Zip.{AllZip-long, all_zipped_more}
use Rattle.cohort_map.specs.Entries.{Entry, has}
use Rattle.batch_rel.specs.declared.relation.RelRow.{RelRow}
use Rattle.hub.specs.Taking.{HasBinding}
use Rattle.hub.proofs.Speakers.{entry_of_number, speaker_has}
use Rattle.hub.proofs.taking.relation_of.Goals as goal
use Rattle.hub.proofs.taking.relation_of.Goals.{After-deref-sub-items}

-- each number is that of an entry
speakers_have : (c : After-deref-sub-items) (i : ℕ) → i < length c.deref-sub-items.result.now →
    has (get_or c.deref-sub-items.result.now i 0) c.args.cohorts.now.entries ≡ true
speakers_have c i within =
    let subs = c.deref-sub-items.result.now in
    let got : slice_get c.in_ok-subs.subs.items i ≡ Some (get_or subs i 0) =
    ap (λ (ns : List ℕ). slice_get ns i) (sym c.deref-sub-items.ensures.value) ∙ slice_get-get_or subs i 0 within in
    speaker_has c.args.cohorts.now.entries c.args.members.now c.args.first (i + 1) (get_or subs i 0) c.requires.entries
    c.requires.first (c.in_ok-subs.ensures.speakers.each i (get_or subs i 0) got)

pub add_binding-requires-clause-entry : goal.add_binding-requires-clause-entry
add_binding-requires-clause-entry c =
    speakers_have (goal.at.add_binding-requires-clause-entry c).After-deref-sub-items c.loop-sub.sub-index
    c.loop-sub-test.true

pub add_binding-requires-clause-room : goal.add_binding-requires-clause-room
add_binding-requires-clause-room c =
    let subs = c.deref-sub-items.result.now in
    let within = c.loop-sub-test.true in
    let same = AllZip-long (HasBinding c.args.cohorts.now.entries) (take c.loop-sub.sub-index subs) c.loop-sub.relation
    c.loop-sub.invariant in
    let few = c.in_ok-subs.ensures.few in
    omega (
      arith,
      within,
      same,
      few,
      length-take-le c.loop-sub.sub-index subs (omega arith),
      ap length c.deref-sub-items.ensures.value,
    )

pub loop-sub-preserved : goal.loop-sub-preserved
loop-sub-preserved c =
    let subs = c.deref-sub-items.result.now in
    let entries = c.args.cohorts.now.entries in
    let i = c.loop-sub.sub-index in
    let number = get_or subs i 0 in
    let e = entry_of_number number entries
    (speakers_have (goal.at.loop-sub-preserved c).After-deref-sub-items i c.loop-sub-test.true) in
    let row : RelRow = record { id = length c.loop-sub.relation + 1; binding = e.0.binding } in
    let binding = ap (option_map (λ (e : Entry). e.binding)) e.1 in
    let added = c.in_ok-add_binding.ensures e.0.binding binding in
    subst (λ (ns : List ℕ). AllZip (HasBinding entries) ns c.add_binding.new.relation)
    (sym (take_more subs i 0 c.loop-sub-test.true))
    (subst (λ (rows : List RelRow). AllZip (HasBinding entries) (take i subs ++ number ∷ []) rows) (sym added)
    (all_zipped_more (HasBinding entries) (take i subs) c.loop-sub.relation number row c.loop-sub.invariant binding))
