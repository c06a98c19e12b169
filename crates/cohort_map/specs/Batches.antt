-- Batches and jobs (Hasura's live query architecture, "Multiplexing"). The numbering of jobs and the rules of these calls
-- are this project's own.
use Rattle.std.specs.Prelude.{ℕ, ◌+◌, Bool, false, ◌&&◌, ◌||◌, ◌==◌, if◌then◌else◌, Option, Some, None, List, [], ◌∷◌, take, map, filter, filter_map, find}
use Rattle.std.specs.List.{list_any, position_from}
use Rattle.cohort_map.specs.declared.member.Member.{Member}
use Rattle.cohort_map.specs.Entries.{Entry, is_due, are_polled_together, are_of_one_cohort}

-- the first entry of each cohort, without those of the cohorts of `earlier`
abbrev pub first_of_each : List Entry → List Entry → List Entry
first_of_each earlier [] = []
first_of_each earlier (e ∷ entries) =
    if list_any (are_of_one_cohort e) earlier then first_of_each earlier entries
    else e ∷ first_of_each (e ∷ earlier) entries

abbrev pub is_due_with : Entry → Entry → Bool
is_due_with first e = e.due && are_polled_together first e

-- For each cohort of a batch, its least due entry. The batch has the poller of `first`; its cohorts stand in the order of
-- their least due numbers, and are cut to the limit.
abbrev pub chosen : ℕ → List Entry → Entry → List Entry
chosen limit entries first = take limit (first_of_each [] (filter (is_due_with first) entries))

abbrev pub member_at : Entry → Option ℕ → Option Member
member_at e (Some place) = Some (record { sub = e.number; id = place + 1 })
member_at e None = None

-- a live entry of one of the batch's cohorts, with the place of its cohort, from 1
abbrev pub member_of : List Entry → Entry → Option Member
member_of cohorts e = if e.live then member_at e (position_from (are_of_one_cohort e) 0 cohorts) else None

abbrev pub members_of : List Entry → List Entry → List Member
members_of cohorts entries = filter_map (member_of cohorts) entries

abbrev pub batch_from : ℕ → List Entry → Option Entry → List Member
batch_from limit entries (Some first) = members_of (chosen limit entries first) entries
batch_from limit entries None = []

-- the poller is that of the least due number
abbrev pub batch_of : ℕ → List Entry → List Member
batch_of limit entries = batch_from limit entries (find is_due entries)

abbrev pub is_member : List Member → ℕ → Bool
is_member members number = list_any (λ (m : Member). m.sub == number) members

-- a member of a job is marked with it, and no longer due
abbrev pub marked : ℕ → List Member → Entry → Entry
marked job members e = if is_member members e.number then record e { due = false; job = Some job } else e

abbrev pub opened : ℕ → List Member → List Entry → List Entry
opened job members entries = map (marked job members) entries

abbrev pub is_job : ℕ → Option ℕ → Bool
is_job job (Some other) = other == job
is_job job None = false

-- a member of a closed job goes on where it is live, and is due where that is asked for; an ended one is dropped
abbrev pub unmarked : Bool → Entry → Option Entry
unmarked due e = if e.live then Some (record e { due = e.due || due; job = None }) else None

abbrev pub freed : ℕ → Bool → Entry → Option Entry
freed job due e = if is_job job e.job then unmarked due e else Some e

abbrev pub closed : ℕ → Bool → List Entry → List Entry
closed job due entries = filter_map (freed job due) entries
