use Rattle.std.proofs.Common.{◌∙◌, ap, map}
use Rattle.query_binding.proofs.AddedRules.{name_inserted}
use Rattle.query_binding.proofs.names.add_name.Goals as goal

pub returns : goal.returns
returns c = ap (map (λ k. k.now)) c.in_ok-_is_new.ensures.keys ∙ name_inserted c.args.names.now.keys c.args.name
