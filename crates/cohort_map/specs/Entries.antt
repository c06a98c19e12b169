-- What a map of cohorts holds, and what each of its calls does to the list of its entries. Cohorts are Hasura's ("Live
-- queries"); numbers, jobs and the rules of due subscriptions are this project's own.
use Rattle.std.specs.Prelude.{ℕ, Bool, true, false, ◌&&◌, ◌||◌, not, ◌==◌, if◌then◌else◌, is_some, Option, Some, None, List, [], length, map, filter, filter_map, find}
use Rattle.std.specs.List.{list_any}
use Rattle.scalar_val.specs.declared.val.Val.{Val}
use Rattle.plan_model.specs.declared.filter.Binding.{Binding}
use Rattle.scalar_val.specs.Values.{is_null}
use Rattle.cohort_map.specs.declared.key.PollerKey.{PollerKey}
use Rattle.cohort_map.specs.Keys.{same_poller, same_binding, with_cursor}

-- A subscription: its number, its poller, the values that its plan is run with, whether it is live, whether it is due, and
-- the open job that it is a member of. An ended one is kept while its job is open.
pub record Entry : Type 0 where
  pub number : ℕ
  pub poller : PollerKey
  pub binding : Binding
  pub live : Bool
  pub due : Bool
  pub job : Option ℕ

-- a cursor to which the subscription of a number can be moved without memory
pub record Ready : Type 0 where
  pub number : ℕ
  pub cursor : Val

-- entries stand in ascending order of their numbers, and ready pairs in the order in which they were made
pub record Held : Type 0 where
  pub entries : List Entry
  pub ready : List Ready

abbrev pub is_entry : ℕ → Entry → Bool
is_entry number e = e.number == number

abbrev pub entry_at : ℕ → List Entry → Option Entry
entry_at number entries = find (is_entry number) entries

abbrev pub has : ℕ → List Entry → Bool
has number entries = list_any (is_entry number) entries

abbrev pub is_live : Entry → Bool
is_live e = e.live

abbrev pub is_live_entry : ℕ → Entry → Bool
is_live_entry number e = is_entry number e && is_live e

abbrev pub has_live : ℕ → List Entry → Bool
has_live number entries = list_any (is_live_entry number) entries

abbrev pub live_count : List Entry → ℕ
live_count entries = length (filter is_live entries)

-- a member of an open job
abbrev pub is_marked : Entry → Bool
is_marked e = is_some e.job

-- an entry stays while it is live or a member of an open job
abbrev pub if_kept : Entry → Option Entry
if_kept e = if e.live || is_marked e then Some e else None

-- a new subscription is live and not due
abbrev pub entered : ℕ → PollerKey → Binding → Entry
entered number poller binding =
    record { number = number; poller = poller; binding = binding; live = true; due = false; job = None }

-- a subscription ends
abbrev pub ended : ℕ → Entry → Option Entry
ended number e = if is_entry number e then if_kept (record e { live = false; due = false }) else Some e

abbrev pub left : ℕ → List Entry → List Entry
left number entries = filter_map (ended number) entries

-- ---- cohorts

abbrev pub are_polled_together : Entry → Entry → Bool
are_polled_together a b = same_poller a.poller b.poller

abbrev pub are_of_one_cohort : Entry → Entry → Bool
are_of_one_cohort a b = are_polled_together a b && same_binding a.binding b.binding

-- its cohort has a member, live or ended, in an open job
abbrev pub is_busy : List Entry → Entry → Bool
is_busy entries e = list_any (λ other. are_of_one_cohort e other && is_marked other) entries

abbrev pub is_busy_by : List Entry → Option Entry → Bool
is_busy_by entries (Some e) = is_busy entries e
is_busy_by entries None = false

abbrev pub numbers : List Entry → List ℕ
numbers = map (λ e. e.number)

abbrev pub is_live_in_cohort_of : Entry → Entry → Bool
is_live_in_cohort_of e other = other.live && are_of_one_cohort e other

abbrev pub members_by : List Entry → Option Entry → List ℕ
members_by entries (Some e) = numbers (filter (is_live_in_cohort_of e) entries)
members_by entries None = []

-- the live numbers in the cohort of a number
abbrev pub members_with : ℕ → List Entry → List ℕ
members_with number entries = members_by entries (entry_at number entries)

-- ---- due subscriptions

abbrev pub with_due : Bool → Entry → Entry
with_due due e = record e { due = due }

-- the live subscriptions whose cohorts aren't busy are due, and no others
abbrev pub ticked : List Entry → List Entry
ticked entries = map (λ e. with_due (e.live && not (is_busy entries e)) e) entries

abbrev pub is_due : Entry → Bool
is_due e = e.due

abbrev pub due_count : List Entry → ℕ
due_count entries = length (filter is_due entries)

-- ---- cursors

abbrev pub is_stream : Entry → Bool
is_stream e = not (is_null e.binding.cursor)

abbrev pub has_stream : ℕ → List Entry → Bool
has_stream number entries = list_any (λ e. is_entry number e && is_stream e) entries

abbrev pub moved : ℕ → Val → Entry → Entry
moved number cursor e = if is_entry number e then record e { binding = with_cursor cursor e.binding } else e

abbrev pub rehomed : ℕ → Val → List Entry → List Entry
rehomed number cursor entries = map (moved number cursor) entries
