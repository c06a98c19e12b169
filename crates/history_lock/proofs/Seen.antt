-- A pass that sees more and more.
use Rattle.std.proofs.Common.{refl, ◌∙◌}
use Rattle.std.specs.Prelude.{Option}
use Rattle.atomic_table.specs.declared.shared.Seat.{Seat}
use Rattle.history_lock.specs.declared.known.Known.{Known}
use Rattle.history_lock.specs.Seats.{seen, Sees}
use Rattle.history_lock.proofs.Histories.{extends_same, extends_trans}

module _ {S E G : Type 0} where
  pub sees_same : (p : Seat (Option S) (Known E G)) → Sees p p
  sees_same p = record { table = refl; number = refl; basis = refl; spent = refl; ticket = refl; slots = refl; extends = λ n e. extends_same n (seen p) }

  pub sees_trans : (p q r : Seat (Option S) (Known E G)) → Sees p q → Sees q r → Sees p r
  sees_trans p q r a b = record {
    table = b.table ∙ a.table;
    number = b.number ∙ a.number;
    basis = b.basis ∙ a.basis;
    spent = b.spent ∙ a.spent;
    ticket = b.ticket ∙ a.ticket;
    slots = b.slots ∙ a.slots;
    extends = λ n e. extends_trans n (seen p) (seen q) (seen r) (a.extends n e) (b.extends n (a.number ∙ e));
  }
