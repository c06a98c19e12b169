use Rattle.std.proofs.Common.{◌∙◌, ap}
use Rattle.metadata_read.specs.Held.{HeldPermission, with_held}
use Rattle.metadata_read.proofs.Kept.{kept_more}
use Rattle.metadata_read.proofs.held.keep.Goals as goal

pub returns-in-Ok : goal.returns-in-Ok
returns-in-Ok c =
    kept_more c.args.kept.now c.take_own-own.new.kept c.insert.new.self c.as_str-role.result.now c.add.new.own c.args.held
    c.take_own-own.ensures.updates c.in-Ok.ensures.updates (c.as_str-role.ensures ∙ ap (λ (h : HeldPermission). h.permission.role) c.held.view_is)
    (c.in_ok-add.ensures ∙ ap (λ hs. with_held hs c.args.held) c.take_own-own.ensures.own)
