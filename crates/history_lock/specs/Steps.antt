-- What each kind of step on the lock's table tells the pass that makes it. This is this project's own.
use Rattle.std.specs.Prelude.{◌≡◌, ◌≢◌, ℕ, List, [], ◌∷◌, length, Option, Some, None, false}
use Rattle.atomic_table.specs.Table.{Step, rest}
use Rattle.history_lock.specs.declared.known.Entry.{Entry}
use Rattle.history_lock.specs.declared.known.Known.{Known}
use Rattle.history_lock.specs.History.{own, longer, Extends}
use Rattle.history_lock.specs.Views.{Sat, with_ticket, with_seen, with_number, given}
use Rattle.history_lock.specs.Rule.{AtHome}

-- of a step: its word and operands, what the pass knew and had, the number found, and what it knows and has then
abbrev pub Tells : Type 0 → Type 0 → Type 0 → Type 1
Tells S E G = Step (Option S) → Sat S E G → ℕ → Sat S E G → Type 0

module _ {E : Type 0} where
  -- two passes had seen `seen` and `told`. Both lists begin `after`, which has no entry of either beyond its own list
  pub record Compared (n k : ℕ) (seen told after : List (Entry E)) : Type 0 where
    pub apart : n ≢ k
    pub first : Extends n seen after
    pub second : Extends k told after

module _ {S E G : Type 0} where
  -- the pass has its number, which no entry that it has seen names, and which isn't its parent's
  abbrev pub Numbered : Tells S E G
  Numbered st m r m' = (m'.1 ≡ m.1)
      × ((n : ℕ) × (m'.0 ≡ with_number m.0 n) × (own n m.0.seen ≡ []) × ((p : ℕ) → m.0.parent ≡ Some p → n ≢ p))

  -- the pass knows the longer of the two lists, which the other begins, and in which neither has an entry beyond its
  -- own list. Both passes had the same data
  abbrev pub Compares : Tells S E G
  Compares st m r m' = (m'.1 ≡ m.1) × (m'.0 ≡ with_seen m.0 (longer m.0.seen m.0.told))
      × ((n k : ℕ) → m.0.number ≡ Some n → m.0.teller ≡ Some k → Compared n k m.0.seen m.0.told m'.0.seen)
      × ((g : G) → m.0.told_basis ≡ Some g → m.0.basis ≡ g)

  -- the pass holds the ticket that it found, or nothing has changed
  abbrev pub Draws : Tells S E G
  Draws st m r m' = (m'.1 ≡ m.1) × (r ≡ st.first → m'.0 ≡ with_ticket m.0 (Some st.first)) × (r ≢ st.first → m'.0 ≡ m.0)

  -- the pass has seen the whole history, in which no new entry is its own
  abbrev pub Looks : Tells S E G
  Looks st m r m' = (m'.1 ≡ m.1) × (m'.0 ≡ with_seen m.0 m'.0.seen) × (length m'.0.seen ≡ r)
      × ((n : ℕ) → m.0.number ≡ Some n → Extends n m.0.seen m'.0.seen)

  -- the pass has given the slot back
  abbrev pub Puts : Tells S E G
  Puts st m r m' = (m'.0 ≡ m.0) × (m'.1 ≡ rest m.1)

  -- the event is one more entry, with the pass's number, and the ticket is gone
  abbrev pub Raises : E → Tells S E G
  Raises e st m r m' = (m'.1 ≡ m.1) × ((n : ℕ) → m.0.number ≡ Some n → m'.0 ≡ given m.0 n e)

  -- nothing has changed
  abbrev pub Rings : Tells S E G
  Rings st m r m' = m' ≡ m

module _ {S E G : Type 0} (stands : S → List E → Type 0) (basis_of : S → G) where
  -- a state that the pass took whose ticket is served, which has seen the whole history
  abbrev pub Out : Known E G → S → Type 0
  Out v x = (t : ℕ) → v.spent ≡ false → v.ticket ≡ Some t → length v.seen ≡ t → AtHome stands basis_of v.basis v.seen x

  -- the pass has the slot with the state, if it was home
  abbrev pub Takes : Tells S E G
  Takes st m r m' = (m'.0 ≡ m.0) × (r ≢ 1 → m'.1 ≡ m.1) × (r ≡ 1 → (x : S) × (m'.1 ≡ (0, Some x) ∷ m.1) × Out m.0 x)
