-- The end of an open job, of its parts.
use Rattle.std.proofs.Common.{◌≡◌, ◌∙◌, sym, ap, ℕ, Bool, not, Some, List, filter}
use Rattle.cohort_map.specs.declared.member.Member.{Member}
use Rattle.cohort_map.specs.Entries.{Entry}
use Rattle.cohort_map.specs.Batches.{closed}
use Rattle.subscription_table.specs.declared.held.Held.{Held}
use Rattle.hub_model.specs.declared.job.OpenJob.{OpenJob}
use Rattle.hub_model.specs.Kept.{Kept}
use Rattle.hub_model.specs.Steps.{clears, closes_job, is_open_job}
use Rattle.hub.specs.Parts.{job_in, members_by, members_in, with_entries, with_jobs}

pub job_closed : (number : ℕ) (due : Bool) (es es' : List Entry) (hs hs' : List Held) (js js' : List OpenJob)
    (ms : List Member) → es' ≡ closed number due es → ms ≡ members_in number js →
    ((k : Kept) → clears ms (with_entries es' hs k) ≡ with_entries es' hs' k) →
    js' ≡ filter (λ job. not (is_open_job number job)) js →
    (k : Kept) (job : OpenJob) → job_in number js ≡ Some job →
    closes_job number due job.members (with_jobs es hs js k) ≡ with_jobs es' hs' js' k
job_closed number due es es' hs hs' js js' ms entries members clear jobs k job at =
    let left = filter (λ job. not (is_open_job number job)) js in
    ap (λ (l : List Member). closes_job number due l (with_jobs es hs js k)) (sym (members ∙ ap members_by at))
    ∙ ap (λ (l : List Entry). clears ms (with_entries l hs (record k { jobs = left }))) (sym entries)
    ∙ clear (record k { jobs = left })
    ∙ ap (λ (l : List OpenJob). with_jobs es' hs' l k) (sym jobs)
