use Rattle.std.proofs.Common.{rules, ◌≡◌, ◌∙◌}
use Rattle.name_set.specs.Names.{first_at}
use Rattle.name_set.proofs.NameRules.{first_is_position}
use Rattle.name_set.proofs.set.NameSet.place.Goals as goal

pub returns-clause-position : goal.returns-clause-position
returns-clause-position c =
    let first : c.copied.result ≡ first_at c.args.self.now c.args.name.now = search rules in
    first ∙ first_is_position c.args.self.now c.args.name.now
