use Rattle.std.proofs.Common.{arith}
use Rattle.subs_server.proofs.Serving.{never_valid, main_none, main_all, main_part}
use Rattle.subs_server.proofs.main_call.serve_main.Goals as goal

pub returns-in-Err-Usage-clause-words : goal.returns-in-Err-Usage-clause-words
returns-in-Err-Usage-clause-words g c =
    λ five.
    never_valid _ c.read_words.result c.in-Err-Usage.field-0 c.in-Err-Usage.is c.read_words.ensures.valid

pub returns-in-Err-Fault-clause-works : goal.returns-in-Err-Fault-clause-works
returns-in-Err-Fault-clause-works g c =
    main_none _ _ _ _ _ _ _ _ _ c.args.commits.now 1 (λ e. absurd (omega (arith, e)))

pub returns-in-Err-NoMemory-read_text-clause-works : goal.returns-in-Err-NoMemory-read_text-clause-works
returns-in-Err-NoMemory-read_text-clause-works g c =
    main_none _ _ _ _ _ _ _ _ _ c.args.commits.now 4 (λ e. absurd (omega (arith, e)))

pub returns-in-Err-Refused-clause-works : goal.returns-in-Err-Refused-clause-works
returns-in-Err-Refused-clause-works g c =
    main_none _ _ _ _ _ _ _ _ _ c.args.commits.now 2 (λ e. absurd (omega (arith, e)))

pub returns-in-Ok-start_all-clause-works : goal.returns-in-Ok-start_all-clause-works
returns-in-Ok-start_all-clause-works g c =
    main_all _ _ _ _ _ _ _ _ _ _ c.in-Ok.asked c.in-Ok.ensures.valid c.in-Ok-read_text.text.items c.as_slice.result.now
    c.in-Ok-read_text.ensures.held c.as_slice.ensures.value c.in-Ok-read.said c.in-Ok-read.ensures.ok c.args.commits.now
    c.in-Ok-start_all.ensures.starts

pub returns-in-Err-NoMemory-start_all-clause-works : goal.returns-in-Err-NoMemory-start_all-clause-works
returns-in-Err-NoMemory-start_all-clause-works g c =
    main_part _ _ _ _ _ _ _ _ _ _ c.in-Ok.asked c.in-Ok.ensures.valid c.in-Ok-read_text.text.items c.as_slice.result.now
    c.in-Ok-read_text.ensures.held c.as_slice.ensures.value c.in-Ok-read.said c.in-Ok-read.ensures.ok c.args.commits.now
    4 c.in-Err-NoMemory-start_all.field-0 (λ e. absurd (omega (arith, e))) c.in-Err-NoMemory-start_all.ensures.starts

pub returns-in-Err-ListenFault-clause-works : goal.returns-in-Err-ListenFault-clause-works
returns-in-Err-ListenFault-clause-works g c =
    main_part _ _ _ _ _ _ _ _ _ _ c.in-Ok.asked c.in-Ok.ensures.valid c.in-Ok-read_text.text.items c.as_slice.result.now
    c.in-Ok-read_text.ensures.held c.as_slice.ensures.value c.in-Ok-read.said c.in-Ok-read.ensures.ok c.args.commits.now
    6 c.in-Err-ListenFault.field-0 (λ e. absurd (omega (arith, e))) c.in-Err-ListenFault.ensures.starts

pub returns-clause-works : goal.returns-clause-works
returns-clause-works g c =
    main_part _ _ _ _ _ _ _ _ _ _ c.in-Ok.asked c.in-Ok.ensures.valid c.in-Ok-read_text.text.items c.as_slice.result.now
    c.in-Ok-read_text.ensures.held c.as_slice.ensures.value c.in-Ok-read.said c.in-Ok-read.ensures.ok c.args.commits.now
    7 c.in-Err-SpawnFault.field-0 (λ e. absurd (omega (arith, e))) c.in-Err-SpawnFault.ensures.starts
