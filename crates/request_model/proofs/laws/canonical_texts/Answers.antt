use Rattle.request_model.proofs.ReadFields.{canonical_tells}
use Rattle.request_model.proofs.TextsOfEssences.{canonical_tells_no_more}
use Rattle.request_model.proofs.WrittenFlats.{flats_are_written}
use Rattle.request_model.proofs.laws.canonical_texts.Goals as goal

pub returns : goal.returns
returns c = record { tells = canonical_tells; no_more = canonical_tells_no_more; written = flats_are_written }
