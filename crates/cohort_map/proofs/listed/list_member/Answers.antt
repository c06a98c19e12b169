use Rattle.std.proofs.Common.{◌∙◌, sym}
use Rattle.cohort_map.proofs.Copying.{IsGrown, member_listed, member_known}
use Rattle.cohort_map.proofs.Listing.{IsPut, taken_lists, both_false, push_jobs, push_known}
use Rattle.cohort_map.proofs.listed.list_member.Goals as goal

pub returns-in-Some-clause-listed : goal.returns-in-Some-clause-listed
returns-in-Some-clause-listed c seats s of end listed known =
    let put : IsPut c.in-Some.job c.put_list-put.result c.add.new.self c.args.jobs.now c.put_list-put.new.jobs = record {
      others = λ k apart. c.put_list-put.ensures.others k apart ∙ c.take_list-list.ensures.others k apart;
      there = c.put_list-put.ensures.there;
      absent = c.put_list-put.ensures.absent;
    } in
    let grown : IsGrown c.args.place c.take_list-list.result c.add.new.self =
    record { keeps = c.add.ensures.keeps; added = c.add.ensures.added; complete = c.add.ensures.complete } in
    member_listed seats s c.in-Some.job c.args.place c.put_list-put.result c.take_list-list.result c.add.new.self
    c.args.jobs.now c.put_list-put.new.jobs (of ∙ c.in-Some.is) end put grown
    (taken_lists seats c.args.jobs.now c.in-Some.job c.args.unlisted c.take_list-list.result listed known c.take_list-list.ensures.list)
    listed

pub returns-in-Some-clause-known : goal.returns-in-Some-clause-known
returns-in-Some-clause-known c seats s of end known none =
    let put : IsPut c.in-Some.job c.put_list-put.result c.add.new.self c.args.jobs.now c.put_list-put.new.jobs = record {
      others = λ k apart. c.put_list-put.ensures.others k apart ∙ c.take_list-list.ensures.others k apart;
      there = c.put_list-put.ensures.there;
      absent = c.put_list-put.ensures.absent;
    } in
    let parts = both_false c.args.unlisted c.put_list-put.result (sym c.lacks.ensures ∙ none) in
    member_known seats s c.in-Some.job c.put_list-put.result c.add.new.self c.args.jobs.now c.put_list-put.new.jobs
    (of ∙ c.in-Some.is) put parts.1 (known parts.0)

pub returns-in-None-clause-listed : goal.returns-in-None-clause-listed
returns-in-None-clause-listed c seats s of end listed known = push_jobs seats s c.args.jobs.now (of ∙ c.in-None.is) listed

pub returns-in-None-clause-known : goal.returns-in-None-clause-known
returns-in-None-clause-known c seats s of end known none = push_known seats s c.args.jobs.now (of ∙ c.in-None.is) (known none)
