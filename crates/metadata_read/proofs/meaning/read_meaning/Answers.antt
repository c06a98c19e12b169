use Rattle.std.proofs.Common.{ap, map, sym, ◌∙◌}
use Rattle.role_model.specs.declared.metadata.RoleDef.{RoleDef}
use Rattle.metadata_read.proofs.RoleNames.{names_of}
use Rattle.metadata_read.proofs.meaning.read_meaning.Goals as goal

pub returns-clause-names : goal.returns-clause-names
returns-clause-names c =
    sym c.names-2.ensures.value
    ∙ names_of c.as_slice-4.result.now c.names-2.result.now
    ∙ ap (map (λ (r : RoleDef). r.name)) (sym c.in_ok-roles.ensures)
