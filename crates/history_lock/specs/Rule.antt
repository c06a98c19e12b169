-- The rule of the lock, which is this project's own.
-- Of the table's words, the first is how many tickets are drawn, the second which one is served, and the third is 1
-- while the state is in the slot. The others are bells, of which the rule says nothing.
use Rattle.std.specs.Prelude.{◌≡◌, ◌≢◌, ℕ, ◌^◌, ◌<◌, ◌≤◌, ◌⊎◌, List, [], ◌∷◌, length, take, Option, Some, None, true}
use Rattle.std.specs.Prelude.{false}
use mathlib.Core.Option.{some, none, Option as Maybe}
use lib.ListN.{get_elem?}
use Rattle.atomic_table.specs.Table.{State}
use Rattle.history_lock.specs.declared.known.Entry.{Entry}
use Rattle.history_lock.specs.declared.known.Known.{Known}
use Rattle.history_lock.specs.History.{events, own, Extends}

-- of the three words before the bells, and of 1,024 bells
abbrev pub word_count : ℕ
word_count = 1027

module _ {E G : Type 0} where
  -- The pass in the seat `id` has the lock's data and the seat's number, and has seen a beginning of the history with
  -- all its own entries. What a joined pass told it is as true.
  pub record Lives (log : List (Entry E)) (basis : G) (id : ℕ) (v : Known E G) : Type 0 where
    pub based : v.basis ≡ basis
    pub seen : Extends id v.seen log
    pub told : (m : ℕ) → v.teller ≡ Some m → Extends m v.told log
    pub told_based : (g : G) → v.told_basis ≡ Some g → g ≡ basis
    pub number : (n : ℕ) → v.number ≡ Some n → n ≡ id
    pub fresh : v.number ≡ None → own id log ≡ []

  -- A pass that wasn't joined to another lives. One that was split off another has another number than that one. A
  -- ticket that it holds is drawn and not yet served.
  pub record Fits (log : List (Entry E)) (tickets : ℕ) (basis : G) (id : ℕ) (v : Known E G) : Type 0 where
    pub lives : v.spent ≡ false → Lives log basis id v
    pub parent : (n : ℕ) → v.parent ≡ Some n → n ≢ id
    pub waits : (t : ℕ) → v.ticket ≡ Some t → (length log ≤ t) × (t < tickets)

  -- each pass fits, where `views` has what the pass in each seat knows
  abbrev pub AllFit : List (Entry E) → ℕ → G → List (Known E G) → Type 0
  AllFit log tickets basis views =
      (id : ℕ) (v : Known E G) → get_elem? views id ≡ some v → Fits log tickets basis id v

  -- each ticket is held once
  abbrev pub HeldOnce : List (Known E G) → Type 0
  HeldOnce views = (i j : ℕ) (v w : Known E G) (t : ℕ) → get_elem? views i ≡ some v → get_elem? views j ≡ some w
      → v.ticket ≡ Some t → w.ticket ≡ Some t → i ≡ j

  -- a pass that tells another what it saw is spent
  abbrev pub TellersGone : List (Known E G) → Type 0
  TellersGone views = (j m : ℕ) (v : Known E G) → get_elem? views j ≡ some v → v.teller ≡ Some m
      → (u : Known E G) × (get_elem? views m ≡ some u) × (u.spent ≡ true)

module _ {S E G : Type 0} (stands : S → List E → Type 0) (basis_of : S → G) where
  -- the state has the data, and stands for the beginning of the history that has as many entries as its count
  pub record AtHome (basis : G) (log : List (Entry E)) (x : S) : Type 0 where
    pub same : basis_of x ≡ basis
    pub count : ℕ
    pub within : count ≤ length log
    pub stands_for : stands x (take count (events log))

  -- the slot is out with a pass, and the third word is 0
  abbrev pub Away : ℕ → List (Maybe (Option S)) → Type 0
  Away home homes = (home ≡ 0) × (homes ≡ none ∷ [])

  -- the state is in the slot, and the third word is 1
  abbrev pub Home : G → List (Entry E) → ℕ → List (Maybe (Option S)) → Type 0
  Home basis log home homes = (home ≡ 1) × ((x : S) × (homes ≡ some (Some x) ∷ []) × AtHome basis log x)

  -- The rule. The history is as long as the ticket that is served, which is at most the number of tickets drawn, which
  -- is at most 2^62. No entry names a seat that isn't made yet.
  pub record Kept (first : S) (s : State (Option S) (Known E G)) : Type 0 where
    pub log : List (Entry E)
    pub tickets : ℕ
    pub home : ℕ
    pub bells : List ℕ
    pub words : s.words ≡ tickets ∷ length log ∷ home ∷ bells
    pub served : length log ≤ tickets
    pub most : tickets ≤ 2 ^ 62
    pub slot : Away home s.homes ⊎ Home (basis_of first) log home s.homes
    pub each : AllFit log tickets (basis_of first) s.views
    pub once : HeldOnce s.views
    pub unmade : (id : ℕ) → length s.views ≤ id → own id log ≡ []
    pub gone : TellersGone s.views
