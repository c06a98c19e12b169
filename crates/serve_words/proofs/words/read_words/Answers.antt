use Rattle.std.proofs.Common.{Ok, sym, ap, ◌∙◌}
use Rattle.std.proofs.lemmas.Option.{none-some}
use Rattle.serve_words.proofs.Numbers.{some_is}
use Rattle.serve_words.proofs.words.read_words.Goals as goal

pub returns-in-Some-clause-valid : goal.returns-in-Some-clause-valid
returns-in-Some-clause-valid c = λ asked valid.
    ap Ok (some_is c.in-Some.asked asked (sym c.in-Some.is ∙ c.read_valid.ensures.valid asked valid))

pub returns-in-None-clause-valid : goal.returns-in-None-clause-valid
returns-in-None-clause-valid c = λ asked valid.
    absurd (none-some asked (sym c.in-None.is ∙ c.read_valid.ensures.valid asked valid))
