-- The order of keys is total.
use Rattle.std.specs.Cmp.{IsTotalOrder, nat_cmp_total, on_total, then_total}
use Rattle.std.proofs.lemmas.Cmp.{lists_total, nat_list_cmp_total}
use Rattle.scalar_val.proofs.OrderLaws.{val_cmp-total}
use Rattle.plan_model.specs.declared.filter.Binding.{Binding}
use Rattle.cohort_map.specs.declared.key.PollerKey.{PollerKey}
use Rattle.cohort_map.specs.declared.key.CohortKey.{CohortKey}
use Rattle.cohort_map.specs.Keys.{word_rank, poller_cmp, slot_rank, one_of, many_of, slot_cmp, binding_cmp, key_cmp}

pub poller_cmp-total : IsTotalOrder poller_cmp
poller_cmp-total =
    then_total (on_total (λ (k : PollerKey). word_rank k.word) nat_cmp_total)
    (then_total (on_total (λ (k : PollerKey). k.role) nat_list_cmp_total) (on_total (λ (k : PollerKey). k.canon) nat_list_cmp_total))

pub slot_cmp-total : IsTotalOrder slot_cmp
slot_cmp-total =
    then_total (on_total slot_rank nat_cmp_total) (then_total (on_total one_of val_cmp-total) (on_total many_of (lists_total val_cmp-total)))

pub binding_cmp-total : IsTotalOrder binding_cmp
binding_cmp-total =
    then_total (on_total (λ (b : Binding). b.cursor) val_cmp-total)
    (then_total (on_total (λ (b : Binding). b.vars) (lists_total slot_cmp-total)) (on_total (λ (b : Binding). b.session) (lists_total val_cmp-total)))

pub key_cmp-total : IsTotalOrder key_cmp
key_cmp-total = then_total (on_total (λ (k : CohortKey). k.binding) binding_cmp-total) (on_total (λ (k : CohortKey). k.poller) poller_cmp-total)
