use Rattle.run_laws.proofs.Ascending.{due_ascend, members_ascend}
use Rattle.run_laws.proofs.BatchRoom.{batches_have_room}
use Rattle.run_laws.proofs.Histories.{takings_stay}
use Rattle.run_laws.proofs.Kept.{kept_are_enough}
use Rattle.run_laws.proofs.LiveIds.{live_ids_differ}
use Rattle.run_laws.proofs.OpenJobs.{jobs_are_counted, jobs_are_numbered, open_jobs_were_taken, members_stay, databases_stay, snapshots_stay}
use Rattle.run_laws.proofs.Polls.{polls_end_idle}
use Rattle.run_laws.proofs.takings.taking_laws.Goals as goal

pub returns-clause-counted : goal.returns-clause-counted
returns-clause-counted c = jobs_are_counted

pub returns-clause-numbered : goal.returns-clause-numbered
returns-clause-numbered c = jobs_are_numbered

pub returns-clause-taken : goal.returns-clause-taken
returns-clause-taken c = open_jobs_were_taken

pub returns-clause-takings : goal.returns-clause-takings
returns-clause-takings c = takings_stay

pub returns-clause-members : goal.returns-clause-members
returns-clause-members c = members_stay

pub returns-clause-databases : goal.returns-clause-databases
returns-clause-databases c = databases_stay

pub returns-clause-snapshots : goal.returns-clause-snapshots
returns-clause-snapshots c = snapshots_stay

pub returns-clause-due : goal.returns-clause-due
returns-clause-due c = due_ascend

pub returns-clause-order : goal.returns-clause-order
returns-clause-order c = members_ascend

pub returns-clause-ids : goal.returns-clause-ids
returns-clause-ids c = live_ids_differ

pub returns-clause-kept : goal.returns-clause-kept
returns-clause-kept c = kept_are_enough

pub returns-clause-polls : goal.returns-clause-polls
returns-clause-polls c = polls_end_idle

pub returns-clause-room : goal.returns-clause-room
returns-clause-room c = batches_have_room
