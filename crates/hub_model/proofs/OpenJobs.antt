-- Open jobs stay what their takes gave, by the laws of takings.
use Rattle.std.proofs.Common.{◌≡◌, ℕ, ◌-◌, Some, List, [], ◌∷◌, slice_get}
use Rattle.std.specs.List.{AllByRecursion}
use Rattle.role_model.specs.declared.metadata.Metadata.{Metadata}
use Rattle.machine.specs.State.{State, Member, Job, Event}
use Rattle.machine.specs.Publication.{database_of}
use Rattle.machine.specs.Run.{run}
use Rattle.run_laws.specs.Takings.{Taking, takings, StaysIn, OpenJobsWereTaken, MembersStay, DatabasesStay}
use Rattle.hub_model.proofs.Items.{all_among}
use Rattle.hub_model.proofs.Answered.{AsksAlike, OpenJobsStay}

asks_alike : (number : ℕ) (s t : State) → StaysIn number s t → AsksAlike number s t
asks_alike number s t same = record {
  before = same.before;
  after = same.after;
  was = same.was;
  is = same.is;
  query = same.stays.query;
  cursor = same.stays.cursor;
}

all_alike : (s t : State) (ms : List Member) → AllByRecursion (λ m. StaysIn m.subscription s t) ms →
    AllByRecursion (λ m. AsksAlike m.subscription s t) ms
all_alike s t [] all = tt
all_alike s t (m ∷ ms) all = (asks_alike m.subscription s t all.0, all_alike s t ms all.1)

pub open_jobs_stay : (meta : Metadata) → OpenJobsWereTaken meta → MembersStay meta → DatabasesStay meta →
    OpenJobsStay meta
open_jobs_stay meta were_taken members databases h job among =
    let t = all_among (λ (job : Job). (t : Taking) × (slice_get (takings meta h) (job.number - 1) ≡ Some t) × (t.job ≡ job))
    (run meta h).jobs job among (were_taken h) in
    record {
      taking = t.0;
      taken = t.1;
      is = t.2;
      database = all_among (λ (job : Job). (t : Taking) → slice_get (takings meta h) (job.number - 1) ≡ Some t →
          database_of meta t.state job ≡ database_of meta (run meta h) job) (run meta h).jobs job among (databases h) t.0
          t.1;
      members = all_alike t.0.state (run meta h) job.members
          (all_among (λ (job : Job). (t : Taking) → slice_get (takings meta h) (job.number - 1) ≡ Some t →
          AllByRecursion (λ m. StaysIn m.subscription t.state (run meta h)) job.members) (run meta h).jobs job among
          (members h) t.0 t.1);
    }
