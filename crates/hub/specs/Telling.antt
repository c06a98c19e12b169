-- Texts of results that are kept while members are told, and what members are told by what the hub's tables hold. This
-- project's own.
use Rattle.std.specs.Prelude.{◌≡◌, ⊤, ℕ, true, if◌then◌else◌, is_some, ◌-◌, Option, Some, None, List, map, flat_map}
use Rattle.std.specs.Prelude.{slice_get}
use Rattle.std.specs.List.{AllByRecursion, AllZip, filter_map}
use Rattle.plan_model.specs.Outcomes.{Outcome}
use Rattle.cohort_map.specs.declared.member.Member.{Member}
use Rattle.cohort_map.specs.Entries.{Entry, has_live}
use Rattle.connection_table.specs.Connected.{Connected, connected_at}
use Rattle.subscription_table.specs.declared.held.Held.{Held}
use Rattle.subscription_table.specs.Kept.{held_at}
use Rattle.hub_model.specs.Kept.{Kept}
use Rattle.hub_model.specs.declared.telling.Telling.{Telling}
use Rattle.hub_model.specs.Tellings.{telling_with}

-- what is kept for a text, if anything, is that text
abbrev pub IsText : List ℕ → Option (List ℕ) → Type 0
IsText text (Some kept) = kept ≡ text
IsText text None = ⊤

-- so it is at a place of the list
abbrev pub IsKeptOf : List ℕ → Option (Option (List ℕ)) → Type 0
IsKeptOf text (Some kept) = IsText text kept
IsKeptOf text None = ⊤

-- there is a place for each text, where it may be kept
abbrev pub AreKept : List (List ℕ) → List (Option (List ℕ)) → Type 0
AreKept texts kept = AllZip IsText texts kept

-- texts stay kept, where the one at this place is this one
abbrev pub KeepsTexts : ℕ → List ℕ → List (Option (List ℕ)) → List (Option (List ℕ)) → Type 0
KeepsTexts place text before after =
    (texts : List (List ℕ)) → slice_get texts place ≡ Some text → AreKept texts before → AreKept texts after

-- what a member is told: one that isn't live any more is told nothing
abbrev pub told : List Entry → List Held → List Outcome → Member → Option Telling
told entries held outcomes m =
    if has_live m.sub entries then telling_with (held_at m.sub held) (slice_get outcomes (m.id - 1)) else None

abbrev pub all_told : List Entry → List Held → List Outcome → List Member → List Telling
all_told entries held outcomes members = filter_map (told entries held outcomes) members

abbrev pub text_of : Outcome → List ℕ
text_of o = o.text

-- ---- room

-- a connection, once for each text
abbrev pub promised_by : Telling → List ℕ
promised_by t = map (λ text. t.conn) t.texts

abbrev pub promised_for : List Telling → List ℕ
promised_for ts = flat_map promised_by ts

-- what is told is told on a connection that is known
abbrev pub IsKnown : List Connected → Telling → Type 0
IsKnown connections t = is_some (connected_at t.conn connections) ≡ true

abbrev pub AreKnown : List Connected → List Telling → Type 0
AreKnown connections ts = AllByRecursion (IsKnown connections) ts

-- ---- what is kept with other tables

abbrev pub with_connected : List Connected → Kept → Kept
with_connected connections k = record k { connections = connections }

abbrev pub with_tables : List Connected → List Held → List Entry → Kept → Kept
with_tables connections held entries k =
    record k { connections = connections; held = held; entries = entries }
