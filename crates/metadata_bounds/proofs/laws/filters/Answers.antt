use Rattle.metadata_bounds.proofs.FilterTexts.{filters_are_short}
use Rattle.metadata_bounds.proofs.TomlDocuments.{strings_are_short}
use Rattle.metadata_bounds.proofs.laws.filters.Goals as goal

pub returns : goal.returns
returns c = record { strings = strings_are_short; short = filters_are_short }
