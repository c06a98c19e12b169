use Rattle.std.proofs.Common.{◌+◌, ◌*◌, take}
use Rattle.gql_flat.specs.Fields.{AreFields}
use Rattle.gql_flat.proofs.fields.+field.Given as goal

-- the fields so far are those of the groups that are passed
abbrev pub invariant-fields-loop-group : goal.invariant-fields-loop-group
invariant-fields-loop-group l = AreFields l.scope l.levels (take l.group-index l.groups) l.fn.tally l.tally l.found

abbrev pub decreases-fields : goal.decreases-fields
decreases-fields l = 2 * l.levels

abbrev pub decreases-field : goal.decreases-field
decreases-field l = 2 * l.levels + 1
