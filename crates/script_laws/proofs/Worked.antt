-- Texts with their meanings, and a script with its outcome.
use Rattle.std.proofs.Common.{◌≡◌, ◌∙◌, sym, subst, ℕ, List, [], ◌∷◌, ◌++◌, codes, refl, None}
use Rattle.std.specs.Fmt.{digits}
use Rattle.std.specs.Str.{is_utf8, chars}
use lib.Utf8.{encode}
use Rattle.json.specs.Print.{escape_byte}
use Rattle.serde_json.proofs.OnLiterals.{serde_json_on_literals}
use Rattle.toml.proofs.OnLiterals.{toml_on_literals}
use Rattle.role_model.specs.MetadataFaults.{links_other_kinds, lacks_a_filter}
use Rattle.machine.specs.Messages.{Message, Subscribe, Ping, Bad, Says, ping}
use Rattle.machine.specs.Script.{ScriptOutcome, outcome, AllSay}
use Rattle.machine.proofs.Samples.{all_users, asks}
use Rattle.machine.proofs.WorkedMessages.{subscribe_users}
use Rattle.script_laws.proofs.OneMeaning.{says_once}
use Rattle.script_laws.proofs.SameOutcome.{outcomes_agree}

abbrev ping_text : List ℕ
ping_text = codes "{\"type\":\"ping\"}"

a_ping : Says ping_text Ping
unfolding serde_json_on_literals
a_ping = ping

-- it says nothing else
no_more_than_a_ping : (m : Message) → Says ping_text m → m ≡ Ping
no_more_than_a_ping m says = says_once ping_text m Ping says a_ping

abbrev subscribe_text : List ℕ
subscribe_text =
    codes "{\"type\":\"subscribe\",\"id\":\"a\",\"payload\":{\"query\":\"subscription { user { id name } }\"}}"

-- and a subscribe asks for the selection of its query alone
no_more_than_users : (m : Message) → Says subscribe_text m → m ≡ Subscribe (codes "a") (asks all_users)
no_more_than_users m says = says_once subscribe_text m (Subscribe (codes "a") (asks all_users)) says subscribe_users

-- Scripts

abbrev script : List ℕ
script =
    codes "version = 1\n[[tables]]\nname = \"user\"\nkey = [\"id\"]\ncolumns = [{ name = \"id\", type = \"int\" }]\n"
    ++ codes "---\nopen 1\nrecv 1 {\"type\":\"ping\"}\n"

abbrev answered : ScriptOutcome
answered = record {
  text = codes "open 1\nrecv 1\n> 1 {\"type\":\"pong\"}\n";
  said = ping_text ∷ [];
  fault = None;
}

abbrev all_pings : List ℕ → Message
all_pings text = Ping

answers : outcome all_pings script ≡ answered
unfolding digits escape_byte is_utf8 chars encode toml_on_literals serde_json_on_literals links_other_kinds
    lacks_a_filter
answers = refl

-- what a text doesn't say comes to something else
closes_at_a_wrong_meaning : outcome (λ text. Bad) script
    ≡ record { text = codes "open 1\nrecv 1\n! 1 4400 \"Invalid message\"\n"; said = ping_text ∷ []; fault = None }
unfolding digits escape_byte is_utf8 chars encode toml_on_literals serde_json_on_literals links_other_kinds
    lacks_a_filter
closes_at_a_wrong_meaning = refl

-- it answers whatever other texts are said to mean
answers_in_any_case : (meant : List ℕ → Message) → AllSay meant (outcome meant script).said →
    outcome meant script ≡ answered
answers_in_any_case meant all =
    outcomes_agree meant all_pings script all
    (subst (λ (o : ScriptOutcome). AllSay all_pings o.said) (sym answers) (a_ping, tt))
    ∙ answers
