-- Session variables that filters name, by borrowed names. This project's own.
use Rattle.std.specs.Prelude.{List, map}
use Rattle.std.specs.declared.cmp.Ordering.{Ordering}
use Rattle.std.specs.Ordering.{on}
use Rattle.std.specs.Cmp.{IsTotalOrder, nat_cmp_total, on_total, then_total}
use Rattle.std.specs.BTreeSet.{BTreeSet}
use Rattle.std.proofs.lemmas.Cmp.{nat_list_cmp_total}
use Rattle.scalar_val.specs.Values.{kind_rank}
use Rattle.query_model.specs.declared.session.SessionSlot.{SessionSlot}
use Rattle.query_model.specs.Queries.{slot_cmp}
use Rattle.selection_plan.specs.declared.slot_ref.SlotRef.{SlotRef}

abbrev pub slot_said : SlotRef → SessionSlot
slot_said s = record { name = s.name.now; kind = s.kind }

abbrev pub ref_cmp : SlotRef → SlotRef → Ordering
ref_cmp = on slot_said slot_cmp

pub slot_cmp-total : IsTotalOrder slot_cmp
slot_cmp-total = then_total (on_total (λ (s : SessionSlot). s.name) nat_list_cmp_total) (on_total (λ (s : SessionSlot). kind_rank s.kind) nat_cmp_total)

pub ref_cmp-total : IsTotalOrder ref_cmp
ref_cmp-total = on_total slot_said slot_cmp-total

-- the session variables of a set, in order
abbrev pub slots_in : BTreeSet SlotRef → List SessionSlot
slots_in s = map slot_said s.keys
