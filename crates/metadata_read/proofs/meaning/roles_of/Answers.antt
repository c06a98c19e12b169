use Rattle.std.proofs.Common.{◌≡◌, ap, ◌∙◌}
use Rattle.role_model.specs.MetadataMeaning.{role_def}
use Rattle.metadata_read.specs.Held.{role_held, kept_by}
use Rattle.metadata_read.proofs.Kept.{role_is}
use Rattle.metadata_read.proofs.Steps.{one_more_mapped}
use Rattle.metadata_read.proofs.meaning.roles_of.Goals as goal

pub loop-name-preserved : goal.loop-name-preserved
loop-name-preserved c =
    let ts = c.args.tables.now in
    let role = c.as_str.result.now in
    let made = role_held role (kept_by c.in_ok-kept.kept role) in
    let is : made ≡ role_def ts c.name-item.result = ap (role_held role) (c.in_ok-kept.ensures role) ∙ role_is role ts ∙ ap (role_def ts) c.as_str.ensures in
    one_more_mapped (role_def ts) c.loop-name.roles c.push_role.new.roles c.args.names.now c.loop-name.name-index c.name-item.result made c.loop-name.invariant c.loop-name-test.true c.name-item.is is c.in_ok-push_role.ensures
