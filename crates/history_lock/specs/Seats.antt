-- What the steps of the lock say of a pass's seat at the table. This is this project's own.
use Rattle.std.specs.Prelude.{◌≡◌, ℕ, List, [], ◌∷◌, length, Option, Some, None}
use Rattle.atomic_table.specs.Seated.{TableId}
use Rattle.atomic_table.specs.declared.shared.Seat.{Seat}
use Rattle.history_lock.specs.declared.known.Entry.{Entry}
use Rattle.history_lock.specs.declared.known.Known.{Known}
use Rattle.history_lock.specs.History.{Extends}
use Rattle.history_lock.specs.Rule.{word_count}

module _ {S E G : Type 0} where
  abbrev pub seen : Seat (Option S) (Known E G) → List (Entry E)
  seen p = p.me.0.seen

  -- a seat of a lock's table, which has one slot
  abbrev pub IsOf : TableId → Seat (Option S) (Known E G) → Type 0
  IsOf id p = (p.table_id ≡ id) × (id.words ≡ word_count) × (id.slots ≡ 1)

  -- the pass has the ticket, has seen as many entries, and has no slot
  abbrev pub IsServed : Seat (Option S) (Known E G) → ℕ → Type 0
  IsServed p ticket = (p.me.0.ticket ≡ Some ticket) × (length (seen p) ≡ ticket) × (p.me.1 ≡ [])

  -- the pass has its number, the ticket that is served, and the empty slot
  abbrev pub HasTurn : Seat (Option S) (Known E G) → Type 0
  HasTurn p = (n : ℕ) × (p.me.0.number ≡ Some n) × (p.me.0.ticket ≡ Some (length (seen p))) × (p.me.1 ≡ (0, None) ∷ [])

  -- the pass has seen more, and nothing else has changed
  pub record Sees (p q : Seat (Option S) (Known E G)) : Type 0 where
    pub table : q.table_id ≡ p.table_id
    pub number : q.me.0.number ≡ p.me.0.number
    pub basis : q.me.0.basis ≡ p.me.0.basis
    pub spent : q.me.0.spent ≡ p.me.0.spent
    pub ticket : q.me.0.ticket ≡ p.me.0.ticket
    pub slots : q.me.1 ≡ p.me.1
    pub extends : (n : ℕ) → p.me.0.number ≡ Some n → Extends n (seen p) (seen q)
