use Rattle.nested_eval.proofs.Examples.{listed_fits}
use Rattle.nested_eval.proofs.tests.listed.Goals as goal

pub returns : goal.returns
returns c =
    let listing = c.args.listing in
    listed_fits listing.descending listing.nulls_first c.args.without c.in_ok-one.field-0 c.number.result c.number-2.result listing.limit listing.offset listing.cap c.args.fields
    c.in_ok-one.ensures c.number.ensures c.number-2.ensures c.requires
