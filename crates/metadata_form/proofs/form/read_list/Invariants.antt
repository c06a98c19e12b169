use Rattle.std.proofs.Common.{◌≡◌, ◌++◌, drop, option_map}
use Rattle.toml.specs.View.{items_view}
use Rattle.role_model.specs.MetadataForm.{of_items}
use Rattle.metadata_form.proofs.form.read_list.Given as goal

-- the items so far, before those that are left
abbrev pub invariant-loop-value : goal.invariant-loop-value
invariant-loop-value g l =
    option_map (λ rest. l.items ++ rest) (of_items g.T.FromToml.reads (items_view (drop l.value-index l.value-items))) ≡ of_items g.T.FromToml.reads (items_view l.value-items)
