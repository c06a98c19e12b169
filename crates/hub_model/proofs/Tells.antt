-- Tellings each with its move at its turn, and all moves before the first turn, come to one thing.
use Rattle.std.proofs.Common.{
  ◌≡◌,
  ◌∙◌,
  sym,
  ap,
  refl,
  ℕ,
  ◌==◌,
  Bool,
  true,
  false,
  ◌||◌,
  if◌then◌else◌,
  is_some,
  Option,
  Some,
  None,
  List,
  [],
  ◌∷◌,
}
use Rattle.std.specs.List.{find, filter_map, cons_option}
use Rattle.cohort_map.specs.Entries.{Entry, is_entry, has, if_kept, left, rehomed}
use Rattle.stream_cursor.specs.declared.moves.Move.{Move}
use Rattle.stream_cursor.specs.Moves.{names, AreApart, moved_by as entry_moved, rekeyed}
use Rattle.stream_cursor.proofs.Moved.{rekeyed_first, unmoved}
use Rattle.subscription_table.specs.declared.held.Held.{Held}
use Rattle.subscription_table.specs.Kept.{without as without_held}
use Rattle.hub_model.specs.Kept.{Kept}
use Rattle.hub_model.specs.Steps.{with_connection, queued, forgets, ended}
use Rattle.hub_model.specs.Tellings.{
  Change,
  Remembers,
  Ends,
  Moves,
  Telling,
  moved_by,
  move_of,
  moves,
  queues_all,
  changes,
  tells_one,
  tells,
}

-- a stream moves
abbrev pub moves_one : ℕ → Change → Kept → Kept
moves_one sub (Remembers text) k = k
moves_one sub Ends k = k
moves_one sub (Moves cursor) k = record k { entries = rehomed sub cursor k.entries }

-- a turn: a stream moves, texts are queued, and the subscription changes
abbrev pub turns_one : Telling → Kept → Kept
turns_one t k = tells_one t (moves_one t.sub t.change k)

abbrev pub turns : List Telling → Kept → Kept
turns [] k = k
turns (t ∷ ts) k = turns ts (turns_one t k)

abbrev moved_with : List Move → Entry → Entry
moved_with ms e = entry_moved e (find (names e.number) ms)

abbrev rekeys : List Move → Kept → Kept
rekeys ms k = record k { entries = rekeyed ms k.entries }

-- ---- a move changes neither who is there nor how it ends

number_stays : (e : Entry) (o : Option Move) → (entry_moved e o).number ≡ e.number
number_stays e (Some m) = refl
number_stays e None = refl

pub has_rekeyed : (ms : List Move) (number : ℕ) (entries : List Entry) →
    has number (rekeyed ms entries) ≡ has number entries
has_rekeyed ms number [] = refl
has_rekeyed ms number (e ∷ entries) =
    let here : is_entry number (moved_with ms e) ≡ is_entry number e =
    ap (λ (n : ℕ). n == number) (number_stays e (find (names e.number) ms)) in
    let rest = has_rekeyed ms number entries in
    λ i. here i || rest i

-- the end of an entry, and of the same one moved
kept_moved : (ms : List Move) (e : Entry) (o : Option Move) (marked : Bool) (rest : List Entry) →
    find (names e.number) ms ≡ o →
    cons_option (if marked then Some (entry_moved e o) else None) (rekeyed ms rest)
    ≡ rekeyed ms (cons_option (if marked then Some e else None) rest)
kept_moved ms e o true rest is = ap (λ (o : Option Move). entry_moved e o ∷ rekeyed ms rest) (sym is)
kept_moved ms e o false rest is = refl

end_moved : (ms : List Move) (e : Entry) (o : Option Move) (here : Bool) (rest : List Entry) →
    find (names e.number) ms ≡ o →
    cons_option (if here
    then if_kept (record (entry_moved e o) { live = false; due = false })
    else Some (entry_moved e o)) (rekeyed ms rest)
    ≡ rekeyed ms (cons_option (if here then if_kept (record e { live = false; due = false }) else Some e) rest)
end_moved ms e (Some m) true rest is =
    kept_moved ms (record e { live = false; due = false }) (Some m) (is_some e.job) rest is
end_moved ms e None true rest is =
    kept_moved ms (record e { live = false; due = false }) None (is_some e.job) rest is
end_moved ms e o false rest is = kept_moved ms e o true rest is

pub left_rekeyed : (ms : List Move) (number : ℕ) (entries : List Entry) →
    left number (rekeyed ms entries) ≡ rekeyed ms (left number entries)
left_rekeyed ms number [] = refl
left_rekeyed ms number (e ∷ entries) =
    ap (λ (b : Bool). cons_option (if b
    then if_kept (record (moved_with ms e) { live = false; due = false })
    else Some (moved_with ms e)) (left number (rekeyed ms entries)))
    (ap (λ (n : ℕ). n == number) (number_stays e (find (names e.number) ms)))
    ∙ ap (λ (rest : List Entry). cons_option (if is_entry number e
    then if_kept (record (moved_with ms e) { live = false; due = false })
    else Some (moved_with ms e)) rest) (left_rekeyed ms number entries)
    ∙ end_moved ms e (find (names e.number) ms) (is_entry number e) (left number entries) refl

-- ---- moves and tellings change places

queues_rekeyed : (ms : List Move) (conn : ℕ) (texts : List (List ℕ)) (k : Kept) →
    queues_all conn texts (rekeys ms k) ≡ rekeys ms (queues_all conn texts k)
queues_rekeyed ms conn [] k = refl
queues_rekeyed ms conn (text ∷ texts) k = queues_rekeyed ms conn texts (queued conn text k)

abbrev ended_as : ℕ → ℕ → Kept → List Entry → List Held → Kept
ended_as conn number k entries held =
    with_connection conn (forgets number) (record k { entries = entries; held = held })

ended_rekeyed : (ms : List Move) (conn number : ℕ) (k : Kept) →
    ended conn number (rekeys ms k) ≡ rekeys ms (ended conn number k)
ended_rekeyed ms conn number k =
    let same = left_rekeyed ms number k.entries in
    let there : has number (left number (rekeyed ms k.entries)) ≡ has number (left number k.entries) =
    ap (has number) same ∙ has_rekeyed ms number (left number k.entries) in
    λ i. ended_as conn number k (same i) (if there i then k.held else without_held number k.held)

change_rekeyed : (ms : List Move) (t : Telling) (c : Change) (k : Kept) →
    changes t c (rekeys ms k) ≡ rekeys ms (changes t c k)
change_rekeyed ms t (Remembers text) k = refl
change_rekeyed ms t Ends k = ended_rekeyed ms t.conn t.sub k
change_rekeyed ms t (Moves cursor) k = refl

one_rekeyed : (ms : List Move) (t : Telling) (k : Kept) → tells_one t (rekeys ms k) ≡ rekeys ms (tells_one t k)
one_rekeyed ms t k =
    ap (changes t t.change) (queues_rekeyed ms t.conn t.texts k)
    ∙ change_rekeyed ms t t.change (queues_all t.conn t.texts k)

first_moves : (sub : ℕ) (c : Change) (ms : List Move) (k : Kept) → AreApart (cons_option (moved_by sub c) ms) →
    rekeys ms (moves_one sub c k) ≡ rekeys (cons_option (moved_by sub c) ms) k
first_moves sub (Remembers text) ms k apart = refl
first_moves sub Ends ms k apart = refl
first_moves sub (Moves cursor) ms k apart =
    ap (λ (entries : List Entry). record k { entries = entries })
    (rekeyed_first (record { sub = sub; cursor = cursor }) ms k.entries apart.0)

later_apart : (o : Option Move) (ms : List Move) → AreApart (cons_option o ms) → AreApart ms
later_apart (Some m) ms apart = apart.1
later_apart None ms apart = apart

-- all moves before the first turn, and each at its turn
pub turns_are_tells : (ts : List Telling) (k : Kept) → AreApart (filter_map move_of ts) →
    turns ts k ≡ tells ts (moves ts k)
turns_are_tells [] k apart = ap (λ (entries : List Entry). record k { entries = entries }) (sym (unmoved k.entries))
turns_are_tells (t ∷ ts) k apart =
    let ms = filter_map move_of ts in
    turns_are_tells ts (turns_one t k) (later_apart (move_of t) ms apart)
    ∙ ap (tells ts) (sym (one_rekeyed ms t (moves_one t.sub t.change k))
    ∙ ap (tells_one t) (first_moves t.sub t.change ms k apart))
