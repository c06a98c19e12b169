use Rattle.std.proofs.Common.{◌≡◌, map}
use Rattle.toml.specs.View.{members_view}
use Rattle.role_model.specs.MetadataForm.{has_only}
use Rattle.metadata_form.proofs.form.has_only.Given as goal

abbrev pub invariant-members : goal.invariant-members
invariant-members l =
    (goal.iterator-members).can_next l.name-iterator × (goal.iterator-members).is_finite l.name-iterator
    × (has_only (map (λ k. k.now) l.keys) (members_view l.name-iterator) ≡ has_only (map (λ k. k.now) l.keys) (members_view l.table.entries))
