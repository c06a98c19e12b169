use Rattle.std.proofs.Common.{subst}
use Rattle.role_schema.specs.Sound.{Sound}
use Rattle.role_schema.proofs.Soundness.{metadata_is_sound}
use Rattle.role_schema.proofs.meta.Meta.sound.Goals as goal

pub returns : goal.returns
returns c = subst Sound c.self.view_is (metadata_is_sound c.self.inside.said c.self.invariant.0)
