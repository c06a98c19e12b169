use Rattle.metadata_bounds.proofs.FewNames.{names_are_few, roles_have_few_names}
use Rattle.metadata_bounds.proofs.JsonMentions.{mentions_are_few}
use Rattle.metadata_bounds.proofs.laws.names.Goals as goal

pub returns : goal.returns
returns c = record { mentions = mentions_are_few; few = names_are_few; roles = roles_have_few_names }
