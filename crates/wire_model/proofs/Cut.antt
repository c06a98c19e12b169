-- The whole reason byte by byte, and where it may be cut.
use Rattle.std.proofs.Common.{◌≡◌, ℕ, zero, suc, ◌+◌, ◌-◌, ◌<◌, ◌≤◌, List, ◌++◌, length, take, slice_set, [], ◌∷◌, codes, true, false, cond, slice_index, refl, sym, ap, ◌∙◌, arith, length-append}
use Rattle.std.proofs.Math.Seq.{take-length}
use Rattle.std.proofs.lemmas.Bool.{le-leb, lt-leb}
use Rattle.std.proofs.lemmas.List.{get_or_append_left, get_or-append_right, take_more, take_more_set}
use Rattle.wire_model.specs.CloseReasons.{boundary, continues, exists_text, within}

pub exists_len : (id : List ℕ) → length (exists_text id) ≡ length id + 30
unfolding exists_text
exists_len id =
    let parts : length (codes "Subscriber for " ++ id ++ codes " already exists") ≡ length (codes "Subscriber for " ++ id) + 15 = length-append (codes "Subscriber for " ++ id) (codes " already exists") in
    let front : length (codes "Subscriber for " ++ id) ≡ 15 + length id = length-append (codes "Subscriber for ") id in
    omega arith

pub first_part : (id : List ℕ) (at : ℕ) → at < 15 → slice_index (codes "Subscriber for ") at ≡ slice_index (exists_text id) at
unfolding exists_text
first_part id at before =
    let front : length (codes "Subscriber for " ++ id) ≡ 15 + length id = length-append (codes "Subscriber for ") id in
    sym (get_or_append_left (codes "Subscriber for " ++ id) (codes " already exists") 0 at (omega arith) ∙ get_or_append_left (codes "Subscriber for ") id 0 at before)

pub middle_part : (id : List ℕ) (at : ℕ) → 15 ≤ at → at - 15 < length id → slice_index id (at - 15) ≡ slice_index (exists_text id) at
unfolding exists_text
middle_part id at behind before =
    let front : length (codes "Subscriber for " ++ id) ≡ 15 + length id = length-append (codes "Subscriber for ") id in
    sym (get_or_append_left (codes "Subscriber for " ++ id) (codes " already exists") 0 at (omega arith) ∙ get_or-append_right (codes "Subscriber for ") id 15 at 0 refl behind)

pub last_part : (id : List ℕ) (at : ℕ) → 15 ≤ at → length id ≤ at - 15 → slice_index (codes " already exists") (at - 15 - length id) ≡ slice_index (exists_text id) at
unfolding exists_text
last_part id at behind later =
    let len : length (codes "Subscriber for " ++ id) ≡ 15 + length id = length-append (codes "Subscriber for ") id in
    let place : at - 15 - length id ≡ at - (15 + length id) = omega arith in
    ap (slice_index (codes " already exists")) place ∙ sym (get_or-append_right (codes "Subscriber for " ++ id) (codes " already exists") (15 + length id) at 0 len (omega arith))

pub short_within : (n : ℕ) (text : List ℕ) → length text ≤ n → take (length text) text ≡ within n text
short_within n text short = take-length text ∙ sym (ap (λ b. cond b text (take (boundary text n) text)) (le-leb (length text) n short))

pub long_within : (n : ℕ) (text : List ℕ) → n < length text → take (boundary text n) text ≡ within n text
long_within n text long = sym (ap (λ b. cond b text (take (boundary text n) text)) (lt-leb (length text) n long))

pub steps_down : (text : List ℕ) (n : ℕ) → 0 < n → continues (slice_index text n) ≡ true → boundary text n ≡ boundary text (n - 1)
steps_down text zero above within = absurd (omega arith)
steps_down text (suc n) above within =
    let before : n ≡ suc n - 1 = omega arith in
    ap (λ b. cond b (boundary text n) (suc n)) within ∙ ap (boundary text) before

pub stays : (text : List ℕ) (n : ℕ) → continues (slice_index text n) ≡ false → boundary text n ≡ n
stays text zero starts = refl
stays text (suc n) starts = ap (λ b. cond b (boundary text n) (suc n)) starts

pub copies_one : (bytes text : List ℕ) (at byte : ℕ) → at < length bytes → at < length text → take at bytes ≡ take at text → byte ≡ slice_index text at
    → take (at + 1) (slice_set bytes at byte) ≡ take (at + 1) text
copies_one bytes text at byte in_bytes in_text so_far same =
    take_more_set bytes at byte in_bytes ∙ ap (λ xs. xs ++ byte ∷ []) so_far ∙ ap (λ b. take at text ++ b ∷ []) same ∙ sym (take_more text at 0 in_text)
