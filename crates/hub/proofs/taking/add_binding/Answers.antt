use Rattle.std.proofs.Common.{◌≡◌, ◌∙◌, ap, None, Some}
use Rattle.std.specs.Option.{option_map}
use Rattle.cohort_map.specs.Entries.{Entry}
use Rattle.hub.proofs.Speakers.{entry_of_number}
use Rattle.hub.proofs.taking.add_binding.Goals as goal

pub unreachable-requires : goal.unreachable-requires
unreachable-requires c =
    let e = entry_of_number c.args.sub c.args.cohorts.now.entries c.requires.entry in
    let none : None ≡ Some e.0.binding =
    c.in_default.ensures ∙ ap (option_map (λ (e : Entry). e.binding)) e.1 in
    absurd (cc)
