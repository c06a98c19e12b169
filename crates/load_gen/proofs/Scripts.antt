-- The parts of the generated script, as they are appended one behind another.
use Rattle.std.proofs.Common.{◌≡◌, ℕ, ◌+◌, ◌-◌, ◌<◌, ◌≤◌, List, [], ◌∷◌, ◌++◌, suc, map, codes, refl, ap, sym, ◌∙◌, append_assoc, append-nil, arith}
use Rattle.std.specs.List.{flat_map, join_with_byte, range_with_len}
use Rattle.std.proofs.lemmas.Grind.{flat_map-append}
use Rattle.wire_model.specs.Generated.{Line, ended, metadata_lines, insert_text, insert_line, connection_lines, round_lines}
use Rattle.load_gen.specs.Generated.{generated}

-- the numbers from a to below b, of which there are some
pub next_number : (a b : ℕ) → a < b → range_with_len a (b - a) ≡ a ∷ range_with_len (a + 1) (b - (a + 1))
next_number a b h = ap (range_with_len a) (let e : b - a ≡ suc (b - (a + 1)) = omega arith in e)

-- a loop over numbers has what the numbers so far give, and then what is left
pub one_more : (f : ℕ → List ℕ) (out now all : List ℕ) (a b : ℕ) → a < b → out ++ flat_map f (range_with_len a (b - a)) ≡ all → now ≡ out ++ f a → now ++ flat_map f (range_with_len (a + 1) (b - (a + 1))) ≡ all
one_more f out now all a b h e n =
    rw (n, append_assoc) (ap (λ (ns : List ℕ). out ++ flat_map f ns) (sym (next_number a b h)) ∙ e)

-- texts with a comma between two
joined_behind : (c : ℕ) (x : List ℕ) (f : ℕ → List ℕ) (ns : List ℕ) → join_with_byte c (x ∷ map f ns) ≡ x ++ flat_map (λ n. c ∷ f n) ns
joined_behind c x f [] = sym (append-nil x)
joined_behind c x f (n ∷ ns) = ap (λ (ys : List ℕ). x ++ c ∷ ys) (joined_behind c (f n) f ns)

pub joined_inserts : (n : ℕ) → 1 ≤ n → join_with_byte 44 (map insert_text (range_with_len 1 n)) ≡ insert_text 1 ++ flat_map (λ i. 44 ∷ insert_text i) (range_with_len 2 (n - 1))
joined_inserts n h =
    ap (λ (ns : List ℕ). join_with_byte 44 (map insert_text ns)) (ap (range_with_len 1) (let e : n ≡ suc (n - 1) = omega arith in e))
    ∙ joined_behind 44 (insert_text 1) insert_text (range_with_len 2 (n - 1))

-- the lines of several numbers, each ended
ended_each : (f : ℕ → List Line) (ns : List ℕ) → flat_map ended (flat_map f ns) ≡ flat_map (λ n. flat_map ended (f n)) ns
ended_each f [] = refl
ended_each f (n ∷ ns) = flat_map-append ended (f n) (flat_map f ns) ∙ ap (λ (ys : List ℕ). flat_map ended (f n) ++ ys) (ended_each f ns)

-- lines in three parts, and one behind each
parts : (front middle back : List Line) (a b c : Line) → flat_map ended (front ++ a ∷ middle ++ b ∷ back ++ c ∷ []) ≡ flat_map ended front ++ ended a ++ flat_map ended middle ++ ended b ++ flat_map ended back ++ ended c
parts front middle back a b c = simp (flat_map-append, append_assoc, append-nil)

pub script_parts : (n : ℕ) →
    generated n ≡ flat_map ended metadata_lines
    ++ ended (insert_line n)
    ++ flat_map (λ c. flat_map ended (connection_lines n c)) (range_with_len 1 n)
    ++ ended (codes "poll")
    ++ flat_map (λ r. flat_map ended (round_lines n r)) (range_with_len 1 10)
    ++ ended (codes "report")
unfolding generated
script_parts n =
    parts metadata_lines (flat_map (connection_lines n) (range_with_len 1 n)) (flat_map (round_lines n) (range_with_len 1 10)) (insert_line n) (codes "poll") (codes "report")
    ∙ ap (λ (cs : List ℕ). flat_map ended metadata_lines ++ ended (insert_line n) ++ cs ++ ended (codes "poll") ++ flat_map ended (flat_map (round_lines n) (range_with_len 1 10)) ++ ended (codes "report")) (ended_each (connection_lines n) (range_with_len 1 n))
    ∙ ap (λ (rs : List ℕ). flat_map ended metadata_lines ++ ended (insert_line n) ++ flat_map (λ c. flat_map ended (connection_lines n c)) (range_with_len 1 n) ++ ended (codes "poll") ++ rs ++ ended (codes "report")) (ended_each (round_lines n) (range_with_len 1 10))

-- texts that are appended one behind another; the last is the end of a line, or the lines' list ends

pub three_behind : (o a b c x y z : List ℕ) → x ≡ o ++ a → y ≡ x ++ b → z ≡ y ++ c → z ≡ o ++ (a ++ (b ++ (c ++ [])))
three_behind o a b c x y z h1 h2 h3 = rw (h3, h2, h1) (simp (append_assoc, append-nil))

pub four_behind : (o a b c d all w x y z : List ℕ) → all ≡ b ++ c → w ≡ o ++ a → x ≡ w ++ b → y ≡ x ++ c → z ≡ y ++ (d ++ 10 ∷ []) → z ≡ o ++ (((a ++ all) ++ d) ++ 10 ∷ [])
four_behind o a b c d all w x y z e h1 h2 h3 h4 = rw (h4, h3, h2, h1, e) (simp append_assoc)

pub five_behind : (o a b b' c d d' e v w x y z : List ℕ) → b ≡ b' → d ≡ d' → v ≡ o ++ a → w ≡ v ++ b → x ≡ w ++ c → y ≡ x ++ d → z ≡ y ++ (e ++ 10 ∷ []) → z ≡ o ++ (((((a ++ b') ++ c) ++ d') ++ e) ++ 10 ∷ [])
five_behind o a b b' c d d' e v w x y z eb ed h1 h2 h3 h4 h5 = rw (h5, h4, h3, h2, h1, eb, ed) (simp append_assoc)
