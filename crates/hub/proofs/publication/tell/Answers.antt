use Rattle.std.proofs.Common.{◌≡◌, ◌∙◌, sym, ap, if◌then◌else◌, List}
use Rattle.cohort_map.specs.Entries.{Entry, has, left}
use Rattle.subscription_table.specs.Kept.{without}
use Rattle.hub_model.specs.declared.telling.Change.{Change}
use Rattle.hub_model.specs.Tellings.{changes}
use Rattle.hub.specs.Telling.{with_tables}
use Rattle.hub.proofs.publication.tell.Goals as goal

pub returns-in-Remembers-clause-tells : goal.returns-in-Remembers-clause-tells
returns-in-Remembers-clause-tells c =
    λ k.
    let t = c.args.telling in
    let entries = c.args.cohorts.now.entries in
    let connections = c.queue_all.new.connections.connections in
    let now = with_tables connections c.args.held.now entries k in
    (λ i. with_tables connections (c.remember.ensures i) entries k)
    ∙ sym (ap (λ (change : Change). changes t change now) c.in-Remembers.is)
    ∙ ap (changes t t.change)
    (c.queue_all.ensures.queued (with_tables c.args.connections.now.connections c.args.held.now entries k))

pub returns-in-Ends-clause-tells : goal.returns-in-Ends-clause-tells
returns-in-Ends-clause-tells c =
    λ k.
    let t = c.args.telling in
    let entries = c.args.cohorts.now.entries in
    let held = c.args.held.now in
    let now = with_tables c.queue_all.new.connections.connections held entries k in
    let left_held : c.end_one.new.held ≡ (if has t.sub (left t.sub entries) then held else without t.sub held) =
    c.end_one.ensures.held
    ∙ ap (λ (es : List Entry). if has t.sub es then held else without t.sub held) c.end_one.ensures.entries in
    (λ i. with_tables (c.forget.ensures.connections i) (left_held i) (c.end_one.ensures.entries i) k)
    ∙ sym (ap (λ (change : Change). changes t change now) c.in-Ends.is)
    ∙ ap (changes t t.change)
    (c.queue_all.ensures.queued (with_tables c.args.connections.now.connections held entries k))

pub returns-clause-tells : goal.returns-clause-tells
returns-clause-tells c =
    λ k.
    let t = c.args.telling in
    let entries = c.args.cohorts.now.entries in
    let held = c.args.held.now in
    let now = with_tables c.queue_all.new.connections.connections held entries k in
    sym (ap (λ (change : Change). changes t change now) c.in-Moves.is)
    ∙ ap (changes t t.change)
    (c.queue_all.ensures.queued (with_tables c.args.connections.now.connections held entries k))
