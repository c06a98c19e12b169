use Rattle.std.proofs.Common.{◌∙◌, ap, sym, arith, slice_set}
use Rattle.std.proofs.lemmas.Result.{on_ok_weaker}
use Rattle.request_model.specs.Selection.{Selected}
use Rattle.gql_flat.proofs.GroupRules.{is_below, joins, begins, keys_stay}
use Rattle.gql_flat.proofs.groups.add_field.Goals as goal

pub index_mut-requires : goal.index_mut-requires
index_mut-requires c =
    let key = c.as_str.ensures ∙ ap (λ (f : Selected). f.key) c.field.view_is in
    let below = is_below c.args.field c.args.items.now.items c.args.keys.now c.as_str.result.now c.in-Some.place
    c.requires key c.in-Some.ensures.first in
    omega (arith, below, c.args.items.now.ok.0)

pub returns-in-Some-clause-keys : goal.returns-in-Some-clause-keys
returns-in-Some-clause-keys c = c.requires ∙ sym
    (keys_stay c.args.items.now.items c.in-Some.place c.index_mut.result.now c.join.new.group c.index_mut.ensures.value
    c.join.ensures.first)

pub returns-in-Some-clause-added : goal.returns-in-Some-clause-added
returns-in-Some-clause-added c =
    let key = c.as_str.ensures ∙ ap (λ (f : Selected). f.key) c.field.view_is in
    on_ok_weaker c.join.result
    (λ e. ap (slice_set c.args.items.now.items c.in-Some.place) e
    ∙ joins c.args.field c.args.items.now.items c.args.keys.now c.as_str.result.now c.in-Some.place
    c.index_mut.result.now c.requires key c.in-Some.ensures.first c.index_mut.ensures.value)
    c.join.ensures.joined

pub returns-in-None-clause-added : goal.returns-in-None-clause-added
returns-in-None-clause-added c =
    let key = c.as_str.ensures ∙ ap (λ (f : Selected). f.key) c.field.view_is in
    on_ok_weaker c.begin.result (λ e. e ∙ begins c.args.field c.args.items.now.items c.args.keys.now c.as_str.result.now
    c.requires key c.in-None.ensures.first) c.begin.ensures.begun
