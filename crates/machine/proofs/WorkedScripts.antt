-- Worked outputs of whole scripts: a subscription with a change and a change back; connections; refused transactions;
-- and faults.
use Rattle.std.proofs.Common.{◌≡◌, ◌∙◌, ap, ℕ, ◌+◌, List, [], ◌∷◌, ◌++◌, codes, refl, None, false, pos, if◌then◌else◌}
use Rattle.std.specs.Fmt.{digits}
use Rattle.std.specs.List.{flat_map}
use Rattle.std.specs.Str.{is_utf8, chars, bytes_eq}
use lib.Utf8.{encode}
use Rattle.json.specs.Print.{escape_byte}
use Rattle.serde_json.proofs.OnLiterals.{serde_json_on_literals}
use Rattle.toml.proofs.OnLiterals.{toml_on_literals}
use Rattle.scalar_val.specs.declared.val.Val.TheVariants as val
use Rattle.data_model.specs.declared.transaction.TxChange.{TxChange}
use Rattle.data_model.specs.declared.transaction.TxChange.TheVariants.{Insert, Update}
use Rattle.plan_model.proofs.Truths.{truths}
use Rattle.role_model.specs.MetadataFaults.{links_other_kinds, lacks_a_filter}
use Rattle.request_model.specs.Strings.{Text}
use Rattle.query_model.proofs.QueryRules.{queries}
use Rattle.machine.specs.Lines.{lines}
use Rattle.machine.specs.Messages.{Message, Init, Subscribe, Ping, Bad}
use Rattle.machine.specs.State.{Subscription, Fresh, opening}
use Rattle.machine.specs.Script.{
  Reading,
  Running,
  LineOutcome,
  Went,
  take_line,
  run_lines,
  said_by,
  Ran,
  At,
  ran_on,
  outcome_of,
  outcome,
  output,
  AllSay,
}
use Rattle.machine.proofs.Samples.{users, all_users, asks, cell, says, connection, last_told, at_rest, ack, next}
use Rattle.machine.proofs.Selections.{users_admitted, users_polled, first}
use Rattle.machine.proofs.WorkedMessages.{bare_init, subscribe_users}

abbrev columns : Text
columns = codes "columns = [{ name = \"id\", type = \"int\" }, { name = \"name\", type = \"text\", nullable = true }]\n"

abbrev heading : Text
heading = codes "version = 1\n[[tables]]\nname = \"user\"\nkey = [\"id\"]\n" ++ columns ++ codes "---\n"

abbrev init_text : Text
init_text = codes "{\"type\":\"connection_init\"}"

abbrev subscribe_text : Text
subscribe_text =
    codes "{\"type\":\"subscribe\",\"id\":\"a\",\"payload\":{\"query\":\"subscription { user { id name } }\"}}"

abbrev ping_text : Text
ping_text = codes "{\"type\":\"ping\"}"

-- what the texts of these scripts say
abbrev meant : Text → Message
meant text =
    if bytes_eq text init_text then Init None
    else (if bytes_eq text subscribe_text then Subscribe (codes "a") (asks all_users)
    else (if bytes_eq text ping_text then Ping
    else Bad))

-- ---- without a subscription

ping_and_gone : outcome meant (heading ++ codes "open 1\nrecv 1 {\"type\":\"ping\"}\ndrain 1\ndrain 1\ngone 1\n")
    ≡ record {
      text = codes "open 1\nrecv 1\n> 1 {\"type\":\"pong\"}\nsent 1 {\"type\":\"pong\"}\nempty 1\ngone 1\n";
      said = ping_text ∷ [];
      fault = None;
    }
unfolding digits escape_byte is_utf8 chars encode toml_on_literals serde_json_on_literals links_other_kinds
    lacks_a_filter
ping_and_gone = refl

closes : output meant
    (heading
    ++ codes "open 1\nrecv 1 hello\nrecv 1 {\"type\":\"ping\"}\ndrain 1\nopen 2\nbinary 2\n"
    ++ codes "open 3\ntimeout 3\ntick\ntake\npublish 1\nabandon 2\nreport\npoll\n")
    ≡ codes "open 1\nrecv 1\n! 1 4400 \"Invalid message\"\nrecv 1\ndone 1 4400 \"Invalid message\"\nopen 2\nrecv 2\n"
    ++ codes "! 2 4400 \"Invalid message\"\nopen 3\ntimeout 3\n! 3 4408 \"Connection initialisation timeout\"\n"
    ++ codes "tick 0\nnone\nnot open 1\nnot open 2\nreport connections 3 live 0 due 0 jobs 0 version 0\ntick 0\n"
unfolding digits escape_byte is_utf8 chars encode toml_on_literals serde_json_on_literals links_other_kinds
    lacks_a_filter
closes = refl

refused : output meant
    (heading
    ++ codes "commit [{\"insert\":\"user\",\"row\":{\"id\":1}},{\"insert\":\"user\",\"row\":{\"id\":2}},"
    ++ codes "{\"insert\":\"user\",\"row\":{\"id\":1}}]\nreport\n")
    ≡ codes "refused 3 KeyTaken\nreport connections 0 live 0 due 0 jobs 0 version 0\n"
unfolding digits escape_byte is_utf8 chars encode toml_on_literals serde_json_on_literals links_other_kinds
    lacks_a_filter
refused = refl

each_reason : output meant (codes "version = 1\n[[tables]]\nname = \"user\"\nkey = [\"id\"]\n" ++ columns
    ++ codes "unique = [\"name\"]\nmax_rows = 1\n---\n"
    ++ codes "commit [{\"insert\":\"user\",\"row\":{\"id\":1,\"name\":\"Ann\"}}]\n"
    ++ codes "commit [{\"insert\":\"user\",\"row\":{\"id\":2,\"name\":\"Ann\"}}]\n"
    ++ codes "commit [{\"insert\":\"user\",\"row\":{\"id\":2}}]\n"
    ++ codes "commit [{\"update\":\"user\",\"key\":{\"id\":3},\"set\":{}}]\ncommit [{\"insert\":\"x\",\"row\":{}}]\n"
    ++ codes "commit [{\"insert\":\"user\",\"row\":{\"id\":2,\"age\":1}}]\n"
    ++ codes "commit [{\"insert\":\"user\",\"row\":{\"id\":\"a\"}}]\n"
    ++ codes "commit [{\"insert\":\"user\",\"row\":{\"name\":\"B\"}}]\ncommit {}\n")
    ≡ codes "commit 1\nrefused 1 UniqueTaken\nrefused 1 TableFull\nrefused 1 NoRow\nrefused 1 NoTable\n"
    ++ codes "refused 1 NoColumn\nrefused 1 WrongKind\nrefused 1 NullGiven\nfault 17 transaction\n"
unfolding digits escape_byte is_utf8 chars encode toml_on_literals serde_json_on_literals links_other_kinds
    lacks_a_filter
each_reason = refl

-- ---- faults

cut : output meant (heading ++ codes "open 1\nrec") ≡ codes "open 1\nfault 8 cut\n"
unfolding digits escape_byte is_utf8 chars encode toml_on_literals serde_json_on_literals links_other_kinds
    lacks_a_filter
cut = refl

no_form : output meant (heading ++ codes "open 1\nfrob 1\n") ≡ codes "open 1\nfault 8 event\n"
unfolding digits escape_byte is_utf8 chars encode toml_on_literals serde_json_on_literals links_other_kinds
    lacks_a_filter
no_form = refl

known : output meant (heading ++ codes "open 1\nopen 1\n") ≡ codes "open 1\nfault 8 known\n"
unfolding digits escape_byte is_utf8 chars encode toml_on_literals serde_json_on_literals links_other_kinds
    lacks_a_filter
known = refl

unknown : output meant (heading ++ codes "open 1\nrecv 2 {}\n") ≡ codes "open 1\nfault 8 unknown\n"
unfolding digits escape_byte is_utf8 chars encode toml_on_literals serde_json_on_literals links_other_kinds
    lacks_a_filter
unknown = refl

of_no_bytes : output meant [] ≡ codes "fault 1 cut\n"
unfolding digits
of_no_bytes = refl

-- the metadata never ends
no_end : output meant (codes "version = 1\n--- \n") ≡ codes "fault 3 cut\n"
unfolding digits
no_end = refl

other_version : output meant (codes "version = 3\n[[tables]]\nname = \"user\"\nkey = [\"id\"]\n" ++ columns
    ++ codes "---\n") ≡ codes "fault 6 metadata BadVersion\n"
unfolding digits escape_byte is_utf8 chars encode toml_on_literals serde_json_on_literals links_other_kinds
    lacks_a_filter
other_version = refl

no_toml : output meant (codes "version = \n---\n") ≡ codes "fault 2 metadata Toml\n"
unfolding digits escape_byte is_utf8 chars encode toml_on_literals serde_json_on_literals links_other_kinds
    lacks_a_filter
no_toml = refl

no_key : output meant (codes "version = 1\n[[tables]]\nname = \"user\"\n" ++ columns ++ codes "---\n")
    ≡ codes "fault 5 metadata BadForm\n"
unfolding digits escape_byte is_utf8 chars encode toml_on_literals serde_json_on_literals links_other_kinds
    lacks_a_filter
no_key = refl

key_names_no_column : output meant (codes "version = 1\n[[tables]]\nname = \"user\"\nkey = [\"no\"]\n" ++ columns
    ++ codes "---\n") ≡ codes "fault 6 metadata NoColumn\n"
unfolding digits escape_byte is_utf8 chars encode toml_on_literals serde_json_on_literals links_other_kinds
    lacks_a_filter
key_names_no_column = refl

nullable_key : output meant (codes "version = 1\n[[tables]]\nname = \"user\"\nkey = [\"name\"]\n" ++ columns
    ++ codes "---\n") ≡ codes "fault 6 metadata BadKind\n"
unfolding digits escape_byte is_utf8 chars encode toml_on_literals serde_json_on_literals links_other_kinds
    lacks_a_filter
nullable_key = refl

-- ---- a subscription

-- a line leads from where reading stands to where it goes on, with this transcript
record Goes (from : Reading) (line : Text) (to : Reading) (text : Text) : Type 0 where
  pub is : take_line meant from line ≡ Went to text

-- lines, of which the first has this number, come to this
record Runs (number : ℕ) (from : Reading) (ls : List Text) (ran : Ran) : Type 0 where
  pub is : run_lines meant number from ls ≡ ran

no_more : {n : ℕ} {at : Reading} → Runs n at [] (record { text = []; said = []; standing = At at })
no_more = record { is = refl }

-- a line, and those after it
line_then : {n : ℕ} {from to : Reading} {l : Text} {ls : List Text} {text : Text} {more : Ran} → Goes from l to text →
    Runs (n + 1) to ls more →
    Runs n from (l ∷ ls)
    (record { text = text ++ more.text; said = said_by from l ++ more.said; standing = more.standing })
line_then {n} {from} {to} {l} {ls} {text} {more} goes runs = record {
  is = ap (λ (x : LineOutcome). ran_on n (said_by from l) x (λ r. run_lines meant (n + 1) r ls)) goes.is
      ∙ ap (λ (r : Ran). record { text = text ++ r.text; said = said_by from l ++ r.said; standing = r.standing })
      runs.is;
}

abbrev no_users : Text
no_users = codes "{\"user\":[]}"

abbrev ann : Text
ann = codes "{\"user\":[{\"id\":1,\"name\":\"Ann\"}]}"

abbrev payload : Text → Text
payload value = codes "{\"data\":" ++ value ++ codes "}"

abbrev inserted : List TxChange
inserted =
    Insert (codes "user") (cell (codes "id") (val.Big (pos 1)) ∷ cell (codes "name") (val.Text (codes "Ann")) ∷ []) ∷ []

abbrev renamed : Text → List TxChange
renamed name = Update (codes "user") (cell (codes "id") (val.Big (pos 1)) ∷ [])
    (cell (codes "name") (val.Text name) ∷ []) ∷ []

abbrev going : List (List TxChange) → List Text → Subscription → ℕ → Reading
going transactions queue sub jobs = Running users
    (at_rest transactions (connection 1 (ack ∷ queue) ∷ []) (sub ∷ []) jobs)

abbrev after_one : List Text
after_one = next (codes "a") no_users ∷ []

abbrev after_two : List Text
after_two = next (codes "a") no_users ∷ next (codes "a") ann ∷ []

abbrev told : Text → Subscription
told value = last_told (payload value) first

subscribes : Goes (Running users (at_rest [] (connection 1 (ack ∷ []) ∷ []) [] 0)) (codes "recv 1 " ++ subscribe_text)
    (going [] [] first 0) (codes "recv 1\n")
unfolding digits is_utf8 chars encode
subscribes = record { is = simp users_admitted }

first_poll : Goes (going [] [] first 0) (codes "poll")
    (going [] after_one (told no_users) 1)
    (codes "tick 1\njob 1 version 0 cohorts 1 members 1\npublished 1 version 0\n" ++ says 1 (next (codes "a") no_users))
unfolding digits escape_byte is_utf8 chars encode
first_poll = record { is = simp (users_polled, queries) }

abbrev insert_line : Text
insert_line = codes "commit [{\"insert\":\"user\",\"row\":{\"id\":1,\"name\":\"Ann\"}}]"

abbrev rename_line : Text → Text
rename_line name = codes "commit [{\"update\":\"user\",\"key\":{\"id\":1},\"set\":{\"name\":\"" ++ name ++ codes "\"}}]"

abbrev three : List (List TxChange)
three = inserted ∷ renamed (codes "Bo") ∷ renamed (codes "Ann") ∷ []

second_poll : Goes (going (inserted ∷ []) after_one (told no_users) 1) (codes "poll")
    (going (inserted ∷ []) after_two (told ann) 2)
    (codes "tick 1\njob 2 version 1 cohorts 1 members 1\npublished 2 version 1\n" ++ says 1 (next (codes "a") ann))
unfolding digits escape_byte is_utf8 chars encode
second_poll = record { is = simp (users_polled, queries, truths) }

third_poll : Goes (going three after_two (told ann) 2) (codes "poll")
    (going three after_two (told ann) 3)
    (codes "tick 1\njob 3 version 3 cohorts 1 members 1\npublished 3 version 3\n")
unfolding digits escape_byte is_utf8 chars encode
third_poll = record { is = simp (users_polled, queries, truths) }

abbrev event_lines : List Text
event_lines =
    codes "open 1" ∷ (codes "recv 1 " ++ init_text) ∷ (codes "recv 1 " ++ subscribe_text)
    ∷ codes "# nobody was told yet" ∷ []
    ∷ codes "poll" ∷ insert_line ∷ codes "poll" ∷ rename_line (codes "Bo") ∷ rename_line (codes "Ann") ∷ codes "poll"
    ∷ []

abbrev events_text : Text
events_text =
    codes "open 1\nrecv 1\n> 1 {\"type\":\"connection_ack\"}\nrecv 1\n"
    ++ codes "tick 1\njob 1 version 0 cohorts 1 members 1\npublished 1 version 0\n"
    ++ codes "> 1 {\"type\":\"next\",\"id\":\"a\",\"payload\":{\"data\":{\"user\":[]}}}\n"
    ++ codes "commit 1\ntick 1\njob 2 version 1 cohorts 1 members 1\npublished 2 version 1\n"
    ++ codes "> 1 {\"type\":\"next\",\"id\":\"a\",\"payload\":{\"data\":{\"user\":[{\"id\":1,\"name\":\"Ann\"}]}}}\n"
    ++ codes "commit 2\ncommit 3\ntick 1\njob 3 version 3 cohorts 1 members 1\npublished 3 version 3\n"

abbrev opened : Reading
opened = Running users (at_rest [] (record { number = 1; phase = Fresh; queue = [] } ∷ []) [] 0)

abbrev acknowledged : Reading
acknowledged = Running users (at_rest [] (connection 1 (ack ∷ []) ∷ []) [] 0)

opens : Goes (Running users opening) (codes "open 1") opened (codes "open 1\n")
unfolding digits is_utf8 chars encode
opens = record { is = refl }

initialises : Goes opened (codes "recv 1 " ++ init_text) acknowledged
    (codes "recv 1\n> 1 {\"type\":\"connection_ack\"}\n")
unfolding digits is_utf8 chars encode
initialises = record { is = refl }

comment : Goes (going [] [] first 0) (codes "# nobody was told yet") (going [] [] first 0) []
comment = record { is = refl }

blank : Goes (going [] [] first 0) [] (going [] [] first 0) []
blank = record { is = refl }

inserts : Goes (going [] after_one (told no_users) 1) insert_line (going (inserted ∷ []) after_one (told no_users) 1)
    (codes "commit 1\n")
unfolding digits is_utf8 chars encode serde_json_on_literals
inserts = record { is = refl }

renames : Goes (going (inserted ∷ []) after_two (told ann) 2) (rename_line (codes "Bo"))
    (going (inserted ∷ renamed (codes "Bo") ∷ []) after_two (told ann) 2) (codes "commit 2\n")
unfolding digits is_utf8 chars encode serde_json_on_literals
renames = record { is = refl }

renames_back : Goes (going (inserted ∷ renamed (codes "Bo") ∷ []) after_two (told ann) 2) (rename_line (codes "Ann"))
    (going three after_two (told ann) 2) (codes "commit 3\n")
unfolding digits is_utf8 chars encode serde_json_on_literals
renames_back = record { is = refl }

events_ran : Runs 7 (Running users opening) event_lines (record {
  text = events_text;
  said = init_text ∷ subscribe_text ∷ [];
  standing = At (going three after_two (told ann) 3);
})
unfolding digits is_utf8 chars encode
events_ran =
    line_then opens
    (line_then initialises (line_then subscribes (line_then comment (line_then blank (line_then first_poll
    (line_then inserts
    (line_then second_poll (line_then renames (line_then renames_back (line_then third_poll no_more))))))))))

abbrev script : Text
script = heading ++ flat_map (λ l. l ++ 10 ∷ []) event_lines

change_back : outcome meant script ≡ record { text = events_text; said = init_text ∷ subscribe_text ∷ []; fault = None }
unfolding digits escape_byte is_utf8 chars encode toml_on_literals serde_json_on_literals links_other_kinds
    lacks_a_filter
change_back = ap (λ (r : Ran). outcome_of false (lines script) r) events_ran.is

-- and the texts in it say what is meant
all_say : AllSay meant (init_text ∷ subscribe_text ∷ [])
all_say = (bare_init, (subscribe_users, tt))
