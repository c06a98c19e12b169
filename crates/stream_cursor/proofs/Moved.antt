-- What moves leave as it is.
use Rattle.std.proofs.Common.{if◌then◌else◌, ◌≡◌, ◌∙◌, ℕ, suc, Bool, true, false, ◌||◌, ◌&&◌, ◌==◌, List, [], ◌∷◌, refl, sym, ap, subst, arith}
use Rattle.std.specs.List.{AllByRecursion, Contains}
use Rattle.scalar_val.specs.declared.val.Val.{Val}
use Rattle.cohort_map.specs.Entries.{Entry, Ready, is_entry, is_stream, has, has_stream, moved, rehomed}
use Rattle.stream_cursor.specs.declared.moves.Move.{Move}
use Rattle.std.specs.List.{find}
use Rattle.std.specs.Prelude.{Some, None, Result, Ok, Err, OnOk}
use Rattle.std.specs.Result.{is_ok}
use Rattle.std.proofs.lemmas.Bool.{eqb-true}
use Rattle.cohort_map.specs.Keys.{with_cursor}
use Rattle.cohort_map.proofs.Alls.{all_weaker}
use Rattle.stream_cursor.specs.Moves.{names, IsStream, AreStreams, moved_by, rekeyed}
use Rattle.stream_cursor.specs.Steps.{IsThere, AreThere, pair, pairs, IsReady, AreReady}

number_by : (b : Bool) (e f : Entry) → f.number ≡ e.number → (if b then f else e).number ≡ e.number
number_by true e f same = same
number_by false e f same = refl

-- a move takes no number away
pub has_moved : (n : ℕ) (c : Val) (m : ℕ) (entries : List Entry) → has m (rehomed n c entries) ≡ has m entries
has_moved n c m [] = refl
has_moved n c m (e ∷ entries) =
    let here = number_by (is_entry n e) e _ refl in
    let same : is_entry m (moved n c e) ≡ is_entry m e = ap (λ (k : ℕ). k == m) here in
    let rest = has_moved n c m entries in
    λ i. same i || rest i

pub there_after : (n : ℕ) (c : Val) (moves : List Move) (entries : List Entry) → AreThere moves entries → AreThere moves (rehomed n c entries)
there_after n c moves entries = all_weaker (IsThere entries) (IsThere (rehomed n c entries)) (λ m there. has_moved n c m.sub entries ∙ there) moves

stream_cons : (a b s h : Bool) → (a && b || s) ≡ true → (s ≡ true → h ≡ true) → (a || h) ≡ true
stream_cons true b s h is more = refl
stream_cons false b s h is more = more is

has_of_stream : (n : ℕ) (entries : List Entry) → has_stream n entries ≡ true → has n entries ≡ true
has_of_stream n [] h = h
has_of_stream n (e ∷ entries) h = stream_cons (is_entry n e) (is_stream e) (has_stream n entries) (has n entries) h (has_of_stream n entries)

pub there_of : (moves : List Move) (entries : List Entry) → AreStreams moves entries → AreThere moves entries
there_of moves entries = all_weaker (IsStream entries) (IsThere entries) (λ m stream. has_of_stream m.sub entries stream) moves

pub contains_later : {X : Type 0} (x y : X) (xs : List X) → Contains xs y → Contains (x ∷ xs) y
contains_later x y xs (k, within, is) = (suc k, omega arith, is)

ready_later : (r : Ready) (moves : List Move) (ready : List Ready) → AreReady moves ready → AreReady moves (r ∷ ready)
ready_later r moves ready = all_weaker (IsReady ready) (IsReady (r ∷ ready)) (λ m is. contains_later r (pair m) ready is) moves

pub ready_of : (moves : List Move) → AreReady moves (pairs moves)
ready_of [] = tt
ready_of (m ∷ moves) = ((0, omega arith, refl), ready_later (pair m) moves (pairs moves) (ready_of moves))

pub where_ok : {A E : Type 0} (r : Result A E) (P : Type 0) → is_ok r ≡ true → OnOk r P → P
where_ok (Ok x) P ok h = h
where_ok (Err e) P ok h = cc

-- ---- one move after another is all of them at once

none_named : (number : ℕ) (moves : List Move) → AllByRecursion (λ m. names number m ≡ false) moves → find (names number) moves ≡ None
none_named number [] apart = refl
none_named number (m ∷ moves) apart = rw apart.0 (none_named number moves apart.1)

by_name : (m : Move) (moves : List Move) (e : Entry) (b : Bool) → (b ≡ true → find (names e.number) moves ≡ None) →
    moved_by (if b then record e { binding = with_cursor m.cursor e.binding } else e) (find (names (if b then record e { binding = with_cursor m.cursor e.binding } else e).number) moves)
    ≡ moved_by e (if b then Some m else find (names e.number) moves)
by_name m moves e true none = ap (moved_by (record e { binding = with_cursor m.cursor e.binding })) (none refl)
by_name m moves e false none = refl

entry_first : (m : Move) (moves : List Move) (e : Entry) → AllByRecursion (λ other. names m.sub other ≡ false) moves →
    moved_by (moved m.sub m.cursor e) (find (names (moved m.sub m.cursor e).number) moves) ≡ moved_by e (find (names e.number) (m ∷ moves))
entry_first m moves e apart =
    by_name m moves e (e.number == m.sub)
    (λ same. none_named e.number moves (subst (λ (n : ℕ). AllByRecursion (λ other. names n other ≡ false) moves) (sym (eqb-true e.number m.sub same)) apart))

pub rekeyed_first : (m : Move) (moves : List Move) (entries : List Entry) → AllByRecursion (λ other. names m.sub other ≡ false) moves →
    rekeyed moves (rehomed m.sub m.cursor entries) ≡ rekeyed (m ∷ moves) entries
rekeyed_first m moves [] apart = refl
rekeyed_first m moves (e ∷ entries) apart =
    let here = entry_first m moves e apart in
    let rest = rekeyed_first m moves entries apart in
    λ i. here i ∷ rest i

pub unmoved : (entries : List Entry) → rekeyed [] entries ≡ entries
unmoved [] = refl
unmoved (e ∷ entries) = ap (λ (rest : List Entry). e ∷ rest) (unmoved entries)
