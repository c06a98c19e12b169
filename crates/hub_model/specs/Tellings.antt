-- What the publication of a job tells its members: each that is live the result of its cohort, by what becomes of its
-- subscription (Hasura's live query and streaming subscription documentation). This project's own.
use Rattle.std.specs.Prelude.{ℕ, ◌-◌, nat_lt, if◌then◌else◌, Option, Some, None, List, [], ◌∷◌, map, flat_map, slice_get}
use Rattle.std.specs.List.{filter_map}
use Rattle.plan_model.specs.Outcomes.{Outcome}
use Rattle.query_model.specs.declared.kind.SubKind.{SubKind}
use Rattle.query_model.specs.declared.kind.SubKind.TheVariants.{Live, Once, Stream}
use Rattle.wire_model.specs.ServerMessages.{next_text, complete_text}
use Rattle.cohort_map.specs.declared.member.Member.{Member}
use Rattle.cohort_map.specs.Entries.{has_live}
use Rattle.subscription_table.specs.declared.held.Held.{Held}
use Rattle.subscription_table.specs.Kept.{held_at, with_last}
use Rattle.stream_cursor.specs.declared.moves.Move.{Move}
use Rattle.stream_cursor.specs.Moves.{rekeyed}
use Rattle.machine.specs.declared.queued.Queued.{Queued}
use Rattle.machine.specs.Publication.{is_new}
pub use Rattle.hub_model.specs.declared.telling.Change.{Change}
pub use Rattle.hub_model.specs.declared.telling.Change.TheVariants.{Remembers, Ends, Moves}
pub use Rattle.hub_model.specs.declared.telling.Telling.{Telling}
use Rattle.hub_model.specs.Kept.{Kept}
use Rattle.hub_model.specs.Steps.{queued, ended}

abbrev pub telling : Held → List (List ℕ) → Change → Telling
telling h texts change = record { sub = h.number; conn = h.connection; texts = texts; change = change }

abbrev pub telling_by : SubKind → Held → Outcome → Option Telling
telling_by Live h o =
    if is_new h.last o.text then Some (telling h (next_text h.id o.text ∷ []) (Remembers o.text)) else None
telling_by Once h o = Some (telling h (next_text h.id o.text ∷ complete_text h.id ∷ []) Ends)
telling_by Stream h o =
    if nat_lt 0 o.rows then Some (telling h (next_text h.id o.text ∷ []) (Moves o.last)) else None

abbrev pub telling_with : Option Held → Option Outcome → Option Telling
telling_with (Some h) (Some o) = telling_by h.kind h o
telling_with (Some h) None = None
telling_with None o = None

-- a member that isn't live any more is told nothing
abbrev pub telling_of : Kept → List Outcome → Member → Option Telling
telling_of k outcomes m =
    if has_live m.sub k.entries then telling_with (held_at m.sub k.held) (slice_get outcomes (m.id - 1)) else None

abbrev pub tellings : Kept → List Outcome → List Member → List Telling
tellings k outcomes members = filter_map (telling_of k outcomes) members

-- ---- what they do

abbrev pub moved_by : ℕ → Change → Option Move
moved_by sub (Remembers text) = None
moved_by sub Ends = None
moved_by sub (Moves cursor) = Some (record { sub = sub; cursor = cursor })

abbrev pub move_of : Telling → Option Move
move_of t = moved_by t.sub t.change

-- all moves of streams
abbrev pub moves : List Telling → Kept → Kept
moves ts k = record k { entries = rekeyed (filter_map move_of ts) k.entries }

abbrev pub queues_all : ℕ → List (List ℕ) → Kept → Kept
queues_all conn [] k = k
queues_all conn (text ∷ texts) k = queues_all conn texts (queued conn text k)

abbrev pub changes : Telling → Change → Kept → Kept
changes t (Remembers text) k = record k { held = with_last t.sub text k.held }
changes t Ends k = ended t.conn t.sub k
changes t (Moves cursor) k = k

-- texts are queued, and then the subscription changes; it has moved before
abbrev pub tells_one : Telling → Kept → Kept
tells_one t k = changes t t.change (queues_all t.conn t.texts k)

abbrev pub tells : List Telling → Kept → Kept
tells [] k = k
tells (t ∷ ts) k = tells ts (tells_one t k)

abbrev pub queued_by : Telling → List Queued
queued_by t = map (λ text. record { conn = t.conn; text = text }) t.texts

abbrev pub queued_all : List Telling → List Queued
queued_all ts = flat_map queued_by ts
