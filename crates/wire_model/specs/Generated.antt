-- The script that is generated from a number of subscribers, and the line that sums up its transcript. This project's own;
-- the digest is that of FIPS 180-4.
use Rattle.std.specs.Prelude.{ℕ, ◌+◌, ◌*◌, ◌%◌, ◌==◌, List, [], ◌∷◌, ◌++◌, length, map, filter, codes, decimal}
use Rattle.std.specs.List.{flat_map, join_with_byte, range_with_len}
use Rattle.hex.specs.Hex.{encode_lower}
use Rattle.sha2.specs.Sha256.{sha256}

abbrev pub Line : Type 0
Line = List ℕ

-- one table of users, with an id and a name
abbrev pub metadata_lines : List Line
metadata_lines =
    codes "version = 1"
    ∷ codes "[[tables]]"
    ∷ codes "name = \"user\""
    ∷ codes "key = [\"id\"]"
    ∷ codes "columns = [{ name = \"id\", type = \"int\" }, { name = \"name\", type = \"text\", nullable = true }]"
    ∷ codes "---"
    ∷ []

-- user i is called `u` and its number
abbrev pub insert_text : ℕ → List ℕ
insert_text i = codes "{\"insert\":\"user\",\"row\":{\"id\":" ++ decimal i ++ codes ",\"name\":\"u" ++ decimal i
    ++ codes "\"}}"

-- one transaction inserts users 1 to n, with a comma between two
abbrev pub insert_line : ℕ → Line
insert_line n = codes "commit [" ++ join_with_byte 44 (map insert_text (range_with_len 1 n)) ++ codes "]"

-- the user that subscriber c of n asks for
abbrev pub asked : ℕ → ℕ → ℕ
asked n c = 1 + (7 * c) % n

abbrev pub subscribe_line : ℕ → ℕ → Line
subscribe_line n c =
    codes "recv " ++ decimal c
    ++ codes " {\"type\":\"subscribe\",\"id\":\"s\",\"payload\":{\"query\":\"subscription($i: Int!) { user_by_pk(id: $i) { id name } }\",\"variables\":{\"i\":"
    ++ decimal (asked n c) ++ codes "}}}"

-- connection c opens, is acknowledged and subscribes
abbrev pub connection_lines : ℕ → ℕ → List Line
connection_lines n c =
    (codes "open " ++ decimal c) ∷ (codes "recv " ++ decimal c ++ codes " {\"type\":\"connection_init\"}")
    ∷ subscribe_line n c ∷ []

-- the user whose name round r changes
abbrev pub changed : ℕ → ℕ → ℕ
changed n r = 1 + (r * r) % n

abbrev pub update_line : ℕ → ℕ → Line
update_line n r =
    codes "commit [{\"update\":\"user\",\"key\":{\"id\":" ++ decimal (changed n r) ++ codes "},\"set\":{\"name\":\"r"
    ++ decimal r ++ codes "\"}}]"

-- a change of one name, and a poll
abbrev pub round_lines : ℕ → ℕ → List Line
round_lines n r = update_line n r ∷ codes "poll" ∷ []

-- the lines of the script of n subscribers
abbrev pub script_lines : ℕ → List Line
script_lines n =
    metadata_lines ++ insert_line n ∷ flat_map (connection_lines n) (range_with_len 1 n)
    ++ codes "poll" ∷ flat_map (round_lines n) (range_with_len 1 10)
    ++ codes "report" ∷ []

-- each line with its line feed
abbrev pub ended : Line → List ℕ
ended line = line ++ 10 ∷ []

abbrev pub script : ℕ → List ℕ
script n = flat_map ended (script_lines n)

-- the number of lines of a text whose lines are all ended
abbrev pub line_count : List ℕ → ℕ
line_count text = length (filter (λ b. b == 10) text)

-- what is written for the script of n subscribers, by the transcript that a run of it gives
abbrev pub summary_line : ℕ → List ℕ → List ℕ
summary_line n transcript =
    codes "load " ++ decimal n ++ codes " lines " ++ decimal (line_count transcript) ++ codes " sha256 "
    ++ encode_lower (sha256 transcript) ++ 10 ∷ []
