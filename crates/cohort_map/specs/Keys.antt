-- The keys of pollers and cohorts, their order, and when they are equal. Pollers and cohorts are Hasura's ("Live queries");
-- what makes two subscriptions of one poller or cohort, and the order, is this project's own.
use Rattle.std.specs.Prelude.{ℕ, Bool, List, []}
use Rattle.std.specs.declared.cmp.Ordering.{Ordering}
use Rattle.std.specs.Ordering.{nat_cmp, is_eq, on, then_cmp}
use Rattle.std.specs.Cmp.Lexicographic.{slice_cmp}
use Rattle.scalar_val.specs.declared.val.Val.{Val}
use Rattle.scalar_val.specs.declared.val.Val.TheVariants as val
use Rattle.scalar_val.specs.ValOrder.{val_cmp}
use Rattle.scalar_val.specs.declared.word.Word.{Word}
use Rattle.scalar_val.specs.declared.word.Word.TheVariants as word
use Rattle.plan_model.specs.declared.filter.Binding.{Binding}
use Rattle.plan_model.specs.declared.filter.Slot.{Slot}
use Rattle.plan_model.specs.declared.filter.Slot.TheVariants.{One, Many}
use Rattle.cohort_map.specs.declared.key.PollerKey.{PollerKey}
use Rattle.cohort_map.specs.declared.key.CohortKey.{CohortKey}

abbrev pub word_rank : Word → ℕ
word_rank word.Query = 0
word_rank word.Subscription = 1

-- by the operation's word, the role and the canonical text
abbrev pub poller_cmp : PollerKey → PollerKey → Ordering
poller_cmp =
    then_cmp (on (λ (k : PollerKey). word_rank k.word) nat_cmp)
    (then_cmp (on (λ (k : PollerKey). k.role) (slice_cmp nat_cmp)) (on (λ (k : PollerKey). k.canon) (slice_cmp nat_cmp)))

-- a slot of one value comes before one of many
abbrev pub slot_rank : Slot → ℕ
slot_rank (One value) = 0
slot_rank (Many values) = 1

abbrev pub one_of : Slot → Val
one_of (One value) = value
one_of (Many values) = val.Null

abbrev pub many_of : Slot → List Val
many_of (One value) = []
many_of (Many values) = values

abbrev pub slot_cmp : Slot → Slot → Ordering
slot_cmp = then_cmp (on slot_rank nat_cmp) (then_cmp (on one_of val_cmp) (on many_of (slice_cmp val_cmp)))

-- by the cursor, the values of variables and the session values
abbrev pub binding_cmp : Binding → Binding → Ordering
binding_cmp =
    then_cmp (on (λ (b : Binding). b.cursor) val_cmp)
    (then_cmp (on (λ (b : Binding). b.vars) (slice_cmp slot_cmp)) (on (λ (b : Binding). b.session) (slice_cmp val_cmp)))

abbrev pub key_cmp : CohortKey → CohortKey → Ordering
key_cmp = then_cmp (on (λ (k : CohortKey). k.binding) binding_cmp) (on (λ (k : CohortKey). k.poller) poller_cmp)

-- equal word, role and canonical text
abbrev pub same_poller : PollerKey → PollerKey → Bool
same_poller a b = is_eq (poller_cmp a b)

-- equal values of variables, session values and cursor
abbrev pub same_binding : Binding → Binding → Bool
same_binding a b = is_eq (binding_cmp a b)

-- the same values with another cursor
abbrev pub with_cursor : Val → Binding → Binding
with_cursor cursor binding = record binding { cursor = cursor }
