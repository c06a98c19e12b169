-- Worked lines of scripts: their forms, and their faults in order.
use Rattle.std.proofs.Common.{◌≡◌, List, [], ◌∷◌, ◌++◌, map, Some, None, true, false, refl}
use Rattle.std.specs.Prelude.{codes}
use Rattle.std.specs.Fmt.{digits}
use Rattle.std.specs.Str.{is_utf8, chars}
use lib.Utf8.{encode}
use Rattle.serde_json.proofs.OnLiterals.{serde_json_on_literals}
use Rattle.role_model.specs.declared.metadata.MetaFault.TheVariants.{BadKind}
use Rattle.request_model.specs.Strings.{Text}
use Rattle.machine.specs.declared.script.ScriptReason.TheVariants.{
  Cut,
  Size,
  Metadata as BadMetadata,
  NotEvent,
  Transaction,
  Known,
  Unknown,
}
use Rattle.machine.specs.Messages.{Message, Ping}
use Rattle.machine.specs.State.{opening}
use Rattle.machine.specs.Lines.{
  Passed,
  Open,
  Receive,
  Binary,
  Timeout,
  Gone,
  Commit,
  Tick,
  Take,
  Publish,
  Abandon,
  Drain,
  Report,
  Poll,
  lines,
  read_line,
}
use Rattle.machine.specs.Script.{Running, Heading, run_lines, outcome_of, fault_line, Ran, Standing, At, Fault}
use Rattle.machine.proofs.Samples.{users}

-- ---- the lines of a text

whole_lines : lines (codes "a\n\n b\r\n") ≡ (codes "a" ∷ [] ∷ codes " b\r" ∷ [], [])
whole_lines = refl

half_line : lines (codes "a\nb") ≡ (codes "a" ∷ [], codes "b")
half_line = refl

no_line : lines [] ≡ ([], [])
no_line = refl

-- ---- forms

forms : map read_line
    ([] ∷ codes "#" ∷ codes "# open" ∷ (35 ∷ 255 ∷ []) ∷ codes "open 0" ∷ codes "open 4294967295" ∷ codes "recv 1 {}"
    ∷ codes "recv 1 "
    ∷ codes "recv 1  a b " ∷ codes "binary 10" ∷ codes "timeout 2" ∷ codes "gone 3" ∷ codes "commit []"
    ∷ codes "commit "
    ∷ codes "tick" ∷ codes "take" ∷ codes "publish 18446744073709551615" ∷ codes "abandon 0" ∷ codes "drain 4"
    ∷ codes "report"
    ∷ codes "poll" ∷ []) ≡
    map (λ l. Some l)
    (Passed ∷ Passed ∷ Passed ∷ Passed ∷ Open 0 ∷ Open 4294967295 ∷ Receive 1 (codes "{}") ∷ Receive 1 []
    ∷ Receive 1 (codes " a b ") ∷ Binary 10 ∷ Timeout 2 ∷ Gone 3 ∷ Commit (codes "[]") ∷ Commit []
    ∷ Tick ∷ Take ∷ Publish 18446744073709551615 ∷ Abandon 0 ∷ Drain 4 ∷ Report
    ∷ Poll ∷ [])
unfolding digits is_utf8 chars encode
forms = refl

-- a text in UTF-8
letter : read_line (codes "recv 1 " ++ 195 ∷ 169 ∷ []) ≡ Some (Receive 1 (195 ∷ 169 ∷ []))
unfolding digits is_utf8 chars encode
letter = refl

-- Numbers have no leading zeros and are in their ranges; words are parted by one blank; a text has a blank before it; a
-- carriage return is part of its line; and a line with a byte that is no UTF-8 is no event.
no_forms : map read_line
    (codes "frob 1" ∷ codes "open" ∷ codes "open " ∷ codes "open 01" ∷ codes "open  2" ∷ codes "open 1 "
    ∷ codes "open -1" ∷ codes "open a"
    ∷ codes "open 4294967296" ∷ codes "Open 1" ∷ codes "recv 1" ∷ codes "recv  1 x" ∷ codes "recv x {}" ∷ codes "recv"
    ∷ codes "binary 1 x"
    ∷ codes "commit" ∷ codes "commits []" ∷ codes "tick " ∷ codes " poll" ∷ codes "poll\r" ∷ codes "publish"
    ∷ codes "publish 18446744073709551616" ∷ codes "abandon 01" ∷ codes "drain 1 " ∷ codes "---" ∷ codes " "
    ∷ codes " #"
    ∷ (codes "recv 1 " ++ 255 ∷ []) ∷ (codes "commit " ++ 195 ∷ []) ∷ []) ≡
    None ∷ None ∷ None ∷ None ∷ None ∷ None ∷ None ∷ None ∷ None ∷ None ∷ None ∷ None ∷ None ∷ None ∷ None ∷ None
    ∷ None ∷ None
    ∷ None ∷ None ∷ None ∷ None ∷ None ∷ None ∷ None ∷ None ∷ None ∷ None ∷ None ∷ []
unfolding digits is_utf8 chars encode
no_forms = refl

-- ---- faults of lines

abbrev meant : Text → Message
meant text = Ping

-- how a line after `open 1` ends the script
abbrev standing : Text → Standing
standing line = (run_lines meant 1 (Running users opening) (codes "open 1" ∷ line ∷ [])).standing

known : standing (codes "open 1") ≡ Fault 2 Known
unfolding digits is_utf8 chars encode
known = refl

-- a connection that isn't known, whatever else is wrong with the line
unknown : map standing
    (codes "recv 2 {}" ∷ codes "recv 2 " ∷ codes "binary 2" ∷ codes "timeout 2" ∷ codes "gone 2" ∷ codes "drain 2"
    ∷ []) ≡
    Fault 2 Unknown ∷ Fault 2 Unknown ∷ Fault 2 Unknown ∷ Fault 2 Unknown ∷ Fault 2 Unknown ∷ Fault 2 Unknown ∷ []
unfolding digits is_utf8 chars encode
unknown = refl

no_event : map standing (codes "frob" ∷ codes "open 01" ∷ codes "recv 2" ∷ codes "---" ∷ []) ≡
    Fault 2 NotEvent ∷ Fault 2 NotEvent ∷ Fault 2 NotEvent ∷ Fault 2 NotEvent ∷ []
unfolding digits is_utf8 chars encode
no_event = refl

no_transactions : map standing
    (codes "commit {}" ∷ codes "commit " ∷ codes "commit []x" ∷ codes "commit [{}]" ∷ codes "commit [[]]" ∷ []) ≡
    Fault 2 Transaction ∷ Fault 2 Transaction ∷ Fault 2 Transaction ∷ Fault 2 Transaction ∷ Fault 2 Transaction ∷ []
unfolding digits is_utf8 chars encode serde_json_on_literals
no_transactions = refl

-- Comments in any bytes and empty lines are counted. The first fault ends the script, whose transcript has what came
-- before, and the texts that connections which are known were brought.
first_fault : run_lines meant 7 (Running users opening)
    ((codes "# " ++ 255 ∷ []) ∷ [] ∷ codes "open 1" ∷ codes "recv 1 a" ∷ codes "recv 1 b" ∷ codes "open 1"
    ∷ codes "recv 2 c" ∷ codes "frob" ∷ [])
    ≡ record {
      text = codes "open 1\nrecv 1\n> 1 {\"type\":\"pong\"}\nrecv 1\n> 1 {\"type\":\"pong\"}\n";
      said = codes "a" ∷ codes "b" ∷ [];
      standing = Fault 12 Known;
    }
unfolding digits is_utf8 chars encode
first_fault = refl

-- a text that is brought to a connection which isn't known isn't said
unsaid : run_lines meant 7 (Running users opening) (codes "recv 2 c" ∷ [])
    ≡ record { text = []; said = []; standing = Fault 7 Unknown }
unfolding digits is_utf8 chars encode
unsaid = refl

-- ---- ends

abbrev ran : Standing → Ran
ran s = record { text = []; said = []; standing = s }

abbrev two_lines : Text → List Text × Text
two_lines rest = (codes "a" ∷ codes "b" ∷ [], rest)

-- a script that goes on past its limit is at fault in the line after its whole ones, but for a fault before
sizes : map (λ s. (outcome_of true (two_lines (codes "c")) (ran s)).fault)
    (At (Heading []) ∷ At (Running users opening) ∷ Fault 2 Known ∷ []) ≡ Some (3, Size) ∷ Some (3, Size)
    ∷ Some (2, Known) ∷ []
sizes = refl

size_at_line_end : (outcome_of true (two_lines []) (ran (At (Running users opening)))).fault ≡ Some (3, Size)
size_at_line_end = refl

cuts : map (λ s. (outcome_of false (two_lines (codes "c")) (ran s)).fault)
    (At (Heading []) ∷ At (Running users opening) ∷ Fault 2 Known ∷ []) ≡ Some (3, Cut) ∷ Some (3, Cut)
    ∷ Some (2, Known) ∷ []
cuts = refl

ends : map (λ s. (outcome_of false (two_lines []) (ran s)).fault)
    (At (Heading []) ∷ At (Running users opening) ∷ Fault 2 Known ∷ []) ≡ Some (3, Cut) ∷ None ∷ Some (2, Known) ∷ []
ends = refl

fault_lines : map (λ r. fault_line (Some (12, r)))
    (Cut ∷ Size ∷ BadMetadata BadKind ∷ NotEvent ∷ Transaction ∷ Known ∷ Unknown ∷ []) ≡
    codes "fault 12 cut\n" ∷ codes "fault 12 size\n" ∷ codes "fault 12 metadata BadKind\n" ∷ codes "fault 12 event\n"
    ∷ codes "fault 12 transaction\n" ∷ codes "fault 12 known\n" ∷ codes "fault 12 unknown\n" ∷ []
unfolding digits
fault_lines = refl
