use Rattle.std.proofs.Common.{sym}
use Rattle.role_model.specs.Roles.{sees_table}
use Rattle.role_schema.proofs.Uses.{link_sound}
use Rattle.role_schema.proofs.view.RoleView.link.Goals as goal

-- the relationship that is found
pub returns-in-Some-clause-sound : goal.returns-in-Some-clause-sound
returns-in-Some-clause-sound c =
    link_sound c.args.self.now c.args.table c.args.name.now c.in-Some.link.now c.link_if_seen.result (sees_table c.args.self.now c.in-Some.link.now.table) c.sound.ensures (sym c.in-Some.ensures) c.link_if_seen.ensures
