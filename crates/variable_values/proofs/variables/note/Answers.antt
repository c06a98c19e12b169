use Rattle.variable_values.proofs.PlaceRules.{noted}
use Rattle.variable_values.proofs.variables.note.Goals as goal

pub returns : goal.returns
returns c = noted c.args.places.now c.insert.new.self c.in_ok-name.name c.args.name.now c.args.place
    c.in_ok-name.ensures.ok c.in_ok-_before.ensures.updates
