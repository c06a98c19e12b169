-- Worked rows of the generated script and of the line that sums up a transcript, which compute.
use Rattle.std.specs.Prelude.{◌≡◌, ℕ, List, [], ◌∷◌, ◌++◌, length, map, refl, codes}
use Rattle.std.specs.Fmt.{digits}
use Rattle.hex.specs.Hex.{encode_with}
use Rattle.sha2.specs.Sha256.{first_words, schedule, rounds, compress, hash_after, digest_bytes, sha256}
use Rattle.wire_model.specs.Generated.{Line, asked, changed, metadata_lines, script_lines, summary_line}

abbrev renames : List ℕ → List Line
renames r = (codes "commit [{\"update\":\"user\",\"key\":{\"id\":1},\"set\":{\"name\":\"r" ++ r ++ codes "\"}}]") ∷ codes "poll" ∷ []

-- the script of one subscriber, whose only user is changed in each round
pub one_subscriber :
    script_lines 1 ≡
    metadata_lines
    ++ codes "commit [{\"insert\":\"user\",\"row\":{\"id\":1,\"name\":\"u1\"}}]"
    ∷ codes "open 1"
    ∷ codes "recv 1 {\"type\":\"connection_init\"}"
    ∷ codes "recv 1 {\"type\":\"subscribe\",\"id\":\"s\",\"payload\":{\"query\":\"subscription($i: Int!) { user_by_pk(id: $i) { id name } }\",\"variables\":{\"i\":1}}}"
    ∷ codes "poll"
    ∷ renames (codes "1") ++ renames (codes "2") ++ renames (codes "3") ++ renames (codes "4") ++ renames (codes "5")
    ++ renames (codes "6") ++ renames (codes "7") ++ renames (codes "8") ++ renames (codes "9") ++ renames (codes "10")
    ++ codes "report" ∷ []
unfolding digits
one_subscriber = refl

pub lines_of_one : length (script_lines 1) ≡ 32
unfolding digits
lines_of_one = refl

pub lines_of_seven : length (script_lines 7) ≡ 50
unfolding digits
lines_of_seven = refl

-- all seven subscribers ask for user 1, whom only round 7 changes
pub asked_by_seven : map (asked 7) (1 ∷ 2 ∷ 3 ∷ 4 ∷ 5 ∷ 6 ∷ 7 ∷ []) ≡ 1 ∷ 1 ∷ 1 ∷ 1 ∷ 1 ∷ 1 ∷ 1 ∷ []
asked_by_seven = refl

pub changed_of_seven : map (changed 7) (1 ∷ 2 ∷ 3 ∷ 4 ∷ 5 ∷ 6 ∷ 7 ∷ 8 ∷ 9 ∷ 10 ∷ []) ≡ 2 ∷ 5 ∷ 3 ∷ 3 ∷ 5 ∷ 2 ∷ 1 ∷ 2 ∷ 5 ∷ 3 ∷ []
changed_of_seven = refl

-- the digest is that of other tools
pub one_line : summary_line 1 (codes "open 1\n") ≡ codes "load 1 lines 1 sha256 6f49e8c09ee4982e28aca1930ef2d1dd4f90698e869e29e4b466a42b06507dcc\n"
unfolding digits encode_with first_words schedule rounds compress hash_after digest_bytes sha256
one_line = refl

pub no_line : summary_line 7 [] ≡ codes "load 7 lines 0 sha256 e3b0c44298fc1c149afbf4c8996fb92427ae41e4649b934ca495991b7852b855\n"
unfolding digits encode_with first_words schedule rounds compress hash_after digest_bytes sha256
no_line = refl
