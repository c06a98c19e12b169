use Rattle.std.proofs.Common.{sym}
use Rattle.role_schema.proofs.Uses.{grant_fits}
use Rattle.role_schema.proofs.view.RoleView.filter.Goals as goal

-- the filter of the permission
pub returns-in-Some-clause-fits : goal.returns-in-Some-clause-fits
returns-in-Some-clause-fits c = grant_fits c.args.self.now c.args.table c.in-Some.grant.now c.sound.ensures (sym c.in-Some.ensures)
