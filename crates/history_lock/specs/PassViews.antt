-- A pass as contracts see it. This is this project's own.
use Rattle.std.specs.Prelude.{◌≡◌, ℕ, List, [], ◌∷◌, length, Option, Some, None, Bool, false, is_some, unwrap_or}
use Rattle.atomic_table.specs.Seated.{TableId}
pub use Rattle.atomic_table.specs.Seated.{table_id_coded}
use Rattle.atomic_table.specs.Table.{Me}
use Rattle.history_lock.specs.declared.known.Entry.{Entry}
use Rattle.history_lock.specs.declared.known.Known.{Known}

-- Which lock it is. No two locks that there are at one time have the same. A struct whose contracts see it as the
-- `LockId` of its lock has `table_id_coded` as its `coded`
abbrev pub LockId : Type 0
LockId = TableId

-- which lock it is of, its number, the data of the lock's first state, the entries that it has seen, and whether it
-- holds the turn
pub record PassView (E G : Type 0) : Type 0 where
  pub lock : LockId
  pub number : ℕ
  pub basis : G
  pub seen : List (Entry E)
  pub has_turn : Bool

-- a pass with a ticket has the empty slot, and the ticket is the number of entries that it has seen; one without has no
-- slot
abbrev pub Slots : {S E : Type 0} → Option ℕ → List (Entry E) → List (ℕ × Option S) → Type 0
Slots None seen slots = slots ≡ []
Slots (Some t) seen slots = (t ≡ length seen) × (slots ≡ (0, None) ∷ [])

module _ {S E G : Type 0} where
  abbrev pub pass_view : LockId → Me (Option S) (Known E G) → PassView E G
  pass_view lock me = record {
    lock = lock;
    number = unwrap_or me.0.number 0;
    basis = me.0.basis;
    seen = me.0.seen;
    has_turn = is_some me.0.ticket;
  }

  -- what holds of each pass between two calls
  pub record Whole (me : Me (Option S) (Known E G)) : Type 0 where
    pub number_is : me.0.number ≡ Some (unwrap_or me.0.number 0)
    pub living : me.0.spent ≡ false
    pub slots : Slots me.0.ticket me.0.seen me.1
