use Rattle.std.proofs.Common.{◌+◌, ◌∙◌, ap, arith, take, drop, ◌++◌}
use Rattle.std.specs.List.{prefix_len}
use Rattle.std.proofs.lemmas.List.{take_rest}
use Rattle.request_model.specs.Strings.{is_plain, unescaped_from}
use Rattle.gql_lex.proofs.StringLemmas.{plain_run, plain_stops, plain_ascii}
use Rattle.gql_lex.proofs.chars.plain_end.Goals as goal

pub returns-clause-text : goal.returns-clause-text
returns-clause-text c =
    let n = c.plain_len.result in let at = c.args.at in let z = c.args.z.now in
    plain_run z at n (c.plain_len.ensures.value ∙ ap (prefix_len is_plain) (take_rest z at)) ∙ ap (λ k. take k (drop at z) ++ unescaped_from 0 (drop (at + n) z)) (omega arith)

pub returns-clause-stops : goal.returns-clause-stops
returns-clause-stops c = plain_stops c.args.z.now c.args.at c.plain_len.result (c.plain_len.ensures.value ∙ ap (prefix_len is_plain) (take_rest c.args.z.now c.args.at))

pub returns-clause-ascii : goal.returns-clause-ascii
returns-clause-ascii c = plain_ascii _ (plain_stops c.args.z.now c.args.at c.plain_len.result (c.plain_len.ensures.value ∙ ap (prefix_len is_plain) (take_rest c.args.z.now c.args.at)))
