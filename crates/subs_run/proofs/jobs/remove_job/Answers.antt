use Rattle.std.proofs.Common.{◌≡◌, ◌==◌, ◌∙◌, Some, None, List, length, sym, ap, refl, arith}
use Rattle.std.specs.List.{position}
use Rattle.hub_model.specs.declared.job.Job.{Job}
use Rattle.subs_run.proofs.TakenJobs.{SplitAt, found_split, none_found, split_within, without_at}
use Rattle.subs_run.proofs.jobs.remove_job.Goals as goal

pub remove-requires : goal.remove-requires
remove-requires c =
    let jobs : List Job = c.args.jobs.now.items in
    let found : position (λ (x : Job). x.number == c.args.number) jobs ≡ Some c.in-Some.place =
    sym (c.place_of.ensures ∙ ap
    (λ (xs : List Job). position (λ (x : Job). x.number == c.args.number) xs) c.as_slice.ensures.value)
    ∙ c.in-Some.is in
    let split = found_split (λ (x : Job). x.number == c.args.number) jobs c.in-Some.place found in
    omega (
      arith,
      split_within
          (λ (x : Job). x.number == c.args.number) jobs c.in-Some.place split,
      c.as_slice.ensures.len,
      ap
          (λ (xs : List Job). length xs) c.as_slice.ensures.value,
    )

pub returns-in-Some : goal.returns-in-Some
returns-in-Some c =
    let jobs : List Job = c.args.jobs.now.items in
    let found : position (λ (x : Job). x.number == c.args.number) jobs ≡ Some c.in-Some.place =
    sym (c.place_of.ensures ∙ ap
    (λ (xs : List Job). position (λ (x : Job). x.number == c.args.number) xs) c.as_slice.ensures.value)
    ∙ c.in-Some.is in
    without_at jobs c.remove.new.self.items c.remove.result c.args.number c.in-Some.place
    (found_split (λ (x : Job). x.number == c.args.number) jobs c.in-Some.place found) c.remove.ensures.value
    c.remove.ensures.by_index.2

pub returns-in-None : goal.returns-in-None
returns-in-None c =
    let jobs : List Job = c.args.jobs.now.items in
    let none : position (λ (x : Job). x.number == c.args.number) jobs ≡ None =
    sym (c.place_of.ensures ∙ ap
    (λ (xs : List Job). position (λ (x : Job). x.number == c.args.number) xs) c.as_slice.ensures.value)
    ∙ c.in-None.is in
    (refl, none_found (λ (x : Job). x.number == c.args.number) jobs none)
