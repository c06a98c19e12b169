-- One character of a string and those that follow it.
use Rattle.std.proofs.Common.{◌≡◌, ℕ, zero, suc, ◌+◌, ◌-◌, ◌<◌, ◌≤◌, Bool, true, false, cond, [], ◌∷◌, ◌++◌, length, take, drop, get_or, inl, inr, Option, Some, None, refl, ap, sym, ◌∙◌, arith, length-drop, append_assoc, append-nil}
use Rattle.std.proofs.Math.ListN.{drop_of_length-le}
use Rattle.std.specs.Prelude.{◌==◌, slice_index, encode_utf8, IfSome}
use Rattle.std.specs.List.{prefix_len}
use Rattle.std.specs.Option.{option_map}
use Rattle.std.proofs.lemmas.Bool.{cases_lt}
use Rattle.std.proofs.lemmas.Bool.Decides.{nat_tests}
use Rattle.std.proofs.lemmas.List.{drop-drop, get_or-drop, get_or_past}
use Rattle.std.proofs.lemmas.List.Sums.{prefix_len-le-length, prefix_len_stops}
use Rattle.request_model.specs.Strings.{Text, is_plain, character, escape, closed_from, closed_after, unescaped_from, unescaped_after}

option_map-option_map : (m n k : ℕ) (o : Option ℕ) → m + n ≡ k → option_map (λ i. m + i) (option_map (λ i. n + i) o) ≡ option_map (λ i. k + i) o
option_map-option_map m n k None e = refl
option_map-option_map m n k (Some i) e = ap Some (omega arith)

option_map-one : (o : Option ℕ) → option_map (λ n. n + 1) o ≡ option_map (λ n. 1 + n) o
option_map-one None = refl
option_map-one (Some n) = ap Some (omega arith)

option_map-zero : (o : Option ℕ) → o ≡ option_map (λ n. 0 + n) o
option_map-zero None = refl
option_map-zero (Some n) = ap Some (omega arith)

pub character_of_len : (o : Option (Text × ℕ)) (n : ℕ) → Some n ≡ option_map (λ c. c.1) o → (w : Text) × (o ≡ Some (w, n))
character_of_len None n e = absurd cc
character_of_len (Some c) n e = let same : c.1 ≡ n = cc in (c.0, ap (λ k. Some (c.0, k)) same)

-- ---- up to the closing quote

closed_skip : (left : ℕ) (z : Text) → left ≤ length z → closed_from left z ≡ option_map (λ n. left + n) (closed_from 0 (drop left z))
closed_skip zero z h = option_map-zero (closed_from 0 z)
closed_skip (suc left) [] h = absurd (omega arith)
closed_skip (suc left) (b ∷ z) h =
    ap (option_map (λ n. n + 1)) (closed_skip left z (omega arith)) ∙ option_map-one _ ∙ option_map-option_map 1 left (suc left) (closed_from 0 (drop left z)) (omega arith)

closed_turn : (z : Text) (c : Option (Text × ℕ)) → 0 < length z → slice_index z 0 == 34 ≡ false → character z ≡ c → closed_from 0 z ≡ closed_after c (λ left. closed_from left (drop 1 z))
closed_turn [] c h q e = absurd (omega arith)
closed_turn (b ∷ z) c h q e =
    ap (λ u. cond u (Some 1) (closed_after (character (b ∷ z)) (λ left. closed_from left z))) q ∙ ap (λ u. closed_after u (λ left. closed_from left z)) e

closed_pass : (z : Text) (n : ℕ) → 1 ≤ n → n ≤ length z → option_map (λ k. k + 1) (closed_from (n - 1) (drop 1 z)) ≡ option_map (λ k. n + k) (closed_from 0 (drop n z))
closed_pass [] n a b = absurd (omega arith)
closed_pass (c ∷ z) zero a b = absurd (omega arith)
closed_pass (c ∷ z) (suc n) a b =
    let e : suc n - 1 ≡ n = omega arith in
    rw e (ap (option_map (λ k. k + 1)) (closed_skip n z (omega arith)) ∙ option_map-one _ ∙ option_map-option_map 1 n (suc n) (closed_from 0 (drop n z)) (omega arith))

pub other : (z : Text) (at : ℕ) → (slice_index z at ≡ 34 → ⊥) → slice_index (drop at z) 0 == 34 ≡ false
other z at ne = let e : slice_index (drop at z) 0 ≡ slice_index z at = get_or-drop at z 0 0 ∙ ap (slice_index z) (omega arith) in ap (λ b. b == 34) e ∙ not_equal (slice_index z at) 34 ne
  where
    not_equal : (a b : ℕ) → (a ≡ b → ⊥) → a == b ≡ false
    not_equal a b ne = grind (arith, nat_tests)

-- a character that isn't the closing quote is passed over
pub closed_character : (z : Text) (at n : ℕ) (w : Text) → at < length z → slice_index (drop at z) 0 == 34 ≡ false → character (drop at z) ≡ Some (w, n) → 1 ≤ n → n ≤ length (drop at z) →
    option_map (λ k. at + k) (closed_from 0 (drop at z)) ≡ option_map (λ k. (at + n) + k) (closed_from 0 (drop (at + n) z))
closed_character z at n w h q e a b =
    ap (option_map (λ k. at + k)) (closed_turn (drop at z) _ (omega (arith, length-drop at z)) q e ∙ closed_pass (drop at z) n a b) ∙ option_map-option_map at n (at + n) (closed_from 0 (drop n (drop at z))) refl
    ∙ ap (λ u. option_map (λ k. (at + n) + k) (closed_from 0 u)) (drop-drop n at z ∙ ap (λ k. drop k z) (omega arith))

pub closed_wrong : (z : Text) → 0 < length z → slice_index z 0 == 34 ≡ false → character z ≡ None → closed_from 0 z ≡ None
closed_wrong z h q e = closed_turn z None h q e

pub closed_quote : (z : Text) → 0 < length z → slice_index z 0 ≡ 34 → closed_from 0 z ≡ Some 1
closed_quote [] h e = absurd (omega arith)
closed_quote (b ∷ z) h e = rw e refl

pub closed_end : (z : Text) → length z ≡ 0 → closed_from 0 z ≡ None
closed_end [] h = refl
closed_end (b ∷ z) h = absurd (omega arith)

-- ---- the text for which they stand

unescaped_skip : (left : ℕ) (z : Text) → left ≤ length z → unescaped_from left z ≡ unescaped_from 0 (drop left z)
unescaped_skip zero z h = refl
unescaped_skip (suc left) [] h = absurd (omega arith)
unescaped_skip (suc left) (b ∷ z) h = unescaped_skip left z (omega arith)

pub unescaped_character : (z : Text) (n : ℕ) (w : Text) → character z ≡ Some (w, n) → 1 ≤ n → n ≤ length z → unescaped_from 0 z ≡ w ++ unescaped_from 0 (drop n z)
unescaped_character [] n w e a b = absurd (omega arith)
unescaped_character (c ∷ z) zero w e a b = absurd (omega arith)
unescaped_character (c ∷ z) (suc n) w e a b =
    let one : suc n - 1 ≡ n = omega arith in
    ap (λ u. unescaped_after u (λ left. unescaped_from left z)) e ∙ ap (λ k. w ++ unescaped_from k z) one ∙ ap (λ u. w ++ u) (unescaped_skip n z (omega arith))

pub unescaped_wrong : (z : Text) → character z ≡ None → unescaped_from 0 z ≡ []
unescaped_wrong [] e = refl
unescaped_wrong (b ∷ z) e = ap (λ u. unescaped_after u (λ left. unescaped_from left z)) e

character_plain : (b : ℕ) (z : Text) → is_plain b ≡ true → character (b ∷ z) ≡ Some (b ∷ [], 1)
character_plain b z e = ap (λ u. cond u (Some (b ∷ [], 1)) (cond (b == 92) (option_map (λ c. (encode_utf8 c.0, c.1)) (escape (b ∷ z))) None)) e

pub character_escape : (z : Text) (e : Option (ℕ × ℕ)) → slice_index z 0 ≡ 92 → escape z ≡ e → character z ≡ option_map (λ c. (encode_utf8 c.0, c.1)) e
character_escape z e h q =
    ap (λ b. cond (is_plain b) (Some (b ∷ [], 1)) (cond (b == 92) (written (escape z)) None)) h ∙ ap written q
  where
    written : Option (ℕ × ℕ) → Option (Text × ℕ)
    written o = option_map (λ c. (encode_utf8 c.0, c.1)) o

-- neither plain nor an escape
pub character_none : (z : Text) → is_plain (slice_index z 0) ≡ false → slice_index z 0 == 92 ≡ false → character z ≡ None
character_none z p q = rw p (rw q refl)

-- plain characters stand for themselves
pub unescaped_plain : (z : Text) → unescaped_from 0 z ≡ take (prefix_len is_plain z) z ++ unescaped_from 0 (drop (prefix_len is_plain z) z)
unescaped_plain [] = refl
unescaped_plain (b ∷ z) = go (is_plain b) refl (unescaped_plain z)
  where
    after : ℕ → Text
    after n = take n (b ∷ z) ++ unescaped_from 0 (drop n (b ∷ z))

    go : (p : Bool) → is_plain b ≡ p → unescaped_from 0 z ≡ take (prefix_len is_plain z) z ++ unescaped_from 0 (drop (prefix_len is_plain z) z) → unescaped_from 0 (b ∷ z) ≡ after (prefix_len is_plain (b ∷ z))
    go true e ih =
        let k : prefix_len is_plain (b ∷ z) ≡ suc (prefix_len is_plain z) = ap (λ u. cond u (1 + prefix_len is_plain z) 0) e ∙ omega arith in
        ap (λ u. unescaped_after u (λ left. unescaped_from left z)) (character_plain b z e) ∙ ap (λ u. b ∷ u) ih ∙ sym (ap after k)
    go false e ih = sym (ap after (ap (λ u. cond u (1 + prefix_len is_plain z) 0) e))

-- an escape that was read
pub escape_taken : (z : Text) (r : Option (ℕ × ℕ)) → slice_index z 0 ≡ 92 → r ≡ escape z → IfSome r (λ e. (2 ≤ e.1) × (e.1 ≤ length z)) →
    IfSome r (λ e. unescaped_from 0 z ≡ encode_utf8 e.0 ++ unescaped_from 0 (drop e.1 z))
escape_taken z None h q w = tt
escape_taken z (Some e) h q w = unescaped_character z e.1 (encode_utf8 e.0) (character_escape z (Some e) h (sym q)) (omega (arith, w.0)) w.1

-- ---- a run of plain characters within a text

pub plain_run : (z : Text) (at n : ℕ) → n ≡ prefix_len is_plain (drop at z) → unescaped_from 0 (drop at z) ≡ take n (drop at z) ++ unescaped_from 0 (drop (at + n) z)
plain_run z at n e =
    unescaped_plain (drop at z) ∙ ap (λ k. take k (drop at z) ++ unescaped_from 0 (drop k (drop at z))) (sym e)
    ∙ ap (λ u. take n (drop at z) ++ unescaped_from 0 u) (drop-drop n at z ∙ ap (λ k. drop k z) (omega arith))

pub plain_stops : (z : Text) (at n : ℕ) → n ≡ prefix_len is_plain (drop at z) → is_plain (slice_index z (at + n)) ≡ false
plain_stops z at n e = go (drop at z) refl
  where
    ends : (u : Text) → drop at z ≡ u → n ≡ length u → is_plain (slice_index z (at + n)) ≡ false
    ends u q k = ap is_plain (get_or_past z (at + n) 0 (omega (arith, length-drop at z, ap length q)))

    go : (u : Text) → drop at z ≡ u → is_plain (slice_index z (at + n)) ≡ false
    go u q =
        let few : n ≤ length u = rw e (rw q (prefix_len-le-length is_plain u)) in
        elim (cases_lt n (length u)) [
          | inl more ↦ ap is_plain (sym (get_or-drop at z n 0) ∙ ap (λ w. get_or w n 0) q) ∙ ap (λ k. is_plain (get_or u k 0)) (e ∙ ap (prefix_len is_plain) q) ∙ prefix_len_stops is_plain u 0 (let k : prefix_len is_plain u ≡ n = ap (prefix_len is_plain) (sym q) ∙ sym e in omega arith)
          | inr same ↦ ends u q (omega arith)
        ]

pub plain_ascii : (b : ℕ) → is_plain b ≡ false → b < 128
plain_ascii b e = grind (arith, nat_tests)

-- ---- what was read so far

module _ (z out : Text) (at : ℕ) (so_far : out ++ unescaped_from 0 (drop at z) ≡ unescaped_from 0 z) where
  pub unescaped_turn : (piece out1 code out2 : Text) (end next : ℕ) → unescaped_from 0 (drop at z) ≡ piece ++ unescaped_from 0 (drop end z) → unescaped_from 0 (drop end z) ≡ code ++ unescaped_from 0 (drop next z) →
      out1 ≡ out ++ piece → out2 ≡ out1 ++ code → out2 ++ unescaped_from 0 (drop next z) ≡ unescaped_from 0 z
  unescaped_turn piece out1 code out2 end next p q e f =
      ap (λ u. u ++ unescaped_from 0 (drop next z)) (f ∙ ap (λ u. u ++ code) e) ∙ append_assoc (out ++ piece) code _ ∙ append_assoc out piece _
      ∙ ap (λ u. out ++ u) (ap (λ u. piece ++ u) (sym q) ∙ sym p) ∙ so_far

  pub unescaped_last : (piece out1 : Text) (end : ℕ) → unescaped_from 0 (drop at z) ≡ piece ++ unescaped_from 0 (drop end z) → unescaped_from 0 (drop end z) ≡ [] → out1 ≡ out ++ piece → out1 ≡ unescaped_from 0 z
  unescaped_last piece out1 end p q e = e ∙ ap (λ u. out ++ u) (sym (append-nil piece) ∙ ap (λ u. piece ++ u) (sym q) ∙ sym p) ∙ so_far

  pub unescaped_end : length z ≤ at → out ≡ unescaped_from 0 z
  unescaped_end h = sym (append-nil out) ∙ ap (λ u. out ++ unescaped_from 0 u) (sym (drop_of_length-le z h)) ∙ so_far
