-- What a job is made of: the plan of its first member, and for each of its cohorts the binding of one member. This
-- project's own.
use Rattle.std.specs.Prelude.{◌≡◌, ◌⊎◌, ◌≤◌, ◌+◌, ◌&&◌, ◌==◌, ℕ, max, Bool, true, false, Some, List, [], ◌∷◌, length}
use Rattle.std.specs.Prelude.{slice_get}
use Rattle.std.specs.Option.{option_map}
use Rattle.std.specs.List.{AllByRecursion, AllZip, list_any}
use Rattle.cohort_map.specs.declared.member.Member.{Member}
use Rattle.cohort_map.specs.Entries.{Entry, entry_at, has}
use Rattle.batch_rel.specs.declared.relation.RelRow.{RelRow}
use Rattle.subscription_table.specs.declared.held.Held.{Held}
use Rattle.subscription_table.specs.Kept.{held_at}
use Rattle.hub_model.specs.declared.job.Job.{Job}
use Rattle.hub_model.specs.Kept.{Kept}

-- the greatest result id
abbrev pub most : List Member → ℕ
most [] = 0
most (m ∷ ms) = max m.id (most ms)

-- result ids are from 1 on
abbrev pub ArePlaces : List Member → Type 0
ArePlaces members = AllByRecursion (λ (m : Member). 1 ≤ m.id) members

abbrev pub has_id : ℕ → Member → Bool
has_id id m = m.id == id

abbrev pub speaks : ℕ → ℕ → Member → Bool
speaks id number m = m.id == id && m.sub == number

-- the number is that of a member with the result id, or the other one where no member has it
abbrev pub IsSpeaker : List Member → ℕ → ℕ → ℕ → Type 0
IsSpeaker members other id number =
    (list_any (speaks id number) members ≡ true) ⊎ ((number ≡ other) × (list_any (has_id id) members ≡ false))

-- a number for each result id, in order
pub record AreSpeakers (members : List Member) (other : ℕ) (subs : List ℕ) : Type 0 where
  pub count : length subs ≡ most members
  pub each : (i number : ℕ) → slice_get subs i ≡ Some number → IsSpeaker members other (i + 1) number

abbrev pub HasEntry : List Entry → Member → Type 0
HasEntry entries m = has m.sub entries ≡ true

-- the row has the binding of a number's entry
abbrev pub HasBinding : List Entry → ℕ → RelRow → Type 0
HasBinding entries number row = option_map (λ (e : Entry). e.binding) (entry_at number entries) ≡ Some row.binding

-- the bindings of members, one for each result id
pub record AreBindings (entries : List Entry) (members : List Member) (other : ℕ) (relation : List RelRow) :
    Type 0 where
  pub subs : List ℕ
  pub speakers : AreSpeakers members other subs
  pub bindings : AllZip (HasBinding entries) subs relation

-- a job of what is kept
pub record IsJobFor (k : Kept) (members : List Member) (first : ℕ) (job : Job) : Type 0 where
  pub number : job.number ≡ k.jobs_made + 1
  pub version : job.version ≡ k.version
  pub tables : job.snapshot.tables ≡ k.tables
  pub catalog : job.snapshot.catalog ≡ k.meta.catalog
  pub plan : (h : Held) → held_at first k.held ≡ Some h → job.plan ≡ h.plan
  pub relation : AreBindings k.entries members first job.relation
  pub members_are : job.members ≡ members
