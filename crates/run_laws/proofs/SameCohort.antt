-- To be of one cohort is an equivalence of subscriptions.
use Rattle.std.proofs.Common.{◌≡◌, ◌∙◌, ap, refl, Bool, true, ◌&&◌}
use lib.Pointwise.{pointwise}
use Rattle.std.specs.Str.{bytes_eq}
use Rattle.std.specs.Cmp.{IsEquivalence}
use Rattle.std.proofs.lemmas.Cmp.{nat_list_eq_equiv, lists_equiv, eq_by_cmp_equiv}
use Rattle.scalar_val.specs.declared.word.Word.{Word}
use Rattle.scalar_val.specs.declared.word.Word.TheVariants as word
use Rattle.scalar_val.proofs.OrderLaws.{val_cmp-total}
use Rattle.plan_model.specs.declared.filter.Binding.{Binding}
use Rattle.plan_model.specs.declared.filter.Slot.{Slot}
use Rattle.plan_model.specs.declared.filter.Slot.TheVariants.{One, Many}
use Rattle.request_model.specs.Canonical.{canonical}
use Rattle.query_model.specs.Queries.{Query, binding_of}
use Rattle.machine.specs.Cohorts.{same_word, same_value, same_slot, same_poller, same_binding}
use Rattle.machine.specs.State.{Subscription}
use Rattle.machine.specs.Batches.{are_of_one_cohort}
use Rattle.run_laws.proofs.Among.{and_true, and_both}

-- by a part of each, and by two tests
by_part : {X Y : Type 0} (E : Y → Y → Bool) (f : X → Y) → IsEquivalence E → IsEquivalence (λ (x y : X). E (f x) (f y))
by_part E f e = record { refl = λ x. e.refl (f x); symm = λ x y. e.symm (f x) (f y); congr = λ x y z h. e.congr (f x) (f y) (f z) h }

by_both : {X : Type 0} (E F : X → X → Bool) → IsEquivalence E → IsEquivalence F → IsEquivalence (λ (x y : X). E x y && F x y)
by_both E F e f = record {
  refl = λ x. and_both (E x x) (F x x) (e.refl x) (f.refl x);
  symm = λ x y. ap (λ (b : Bool). b && F x y) (e.symm x y) ∙ ap (λ (b : Bool). E y x && b) (f.symm x y);
  congr = λ x y z h.
      let both = and_true (E x y) (F x y) h in ap (λ (b : Bool). b && F x z) (e.congr x y z both.0) ∙ ap (λ (b : Bool). E y z && b) (f.congr x y z both.1);
}

word_own : (w : Word) → same_word w w ≡ true
word_own word.Query = refl
word_own word.Subscription = refl

word_symm : (v w : Word) → same_word v w ≡ same_word w v
word_symm word.Query word.Query = refl
word_symm word.Query word.Subscription = refl
word_symm word.Subscription word.Query = refl
word_symm word.Subscription word.Subscription = refl

word_congr : (u v w : Word) → same_word u v ≡ true → same_word u w ≡ same_word v w
word_congr word.Query word.Query w h = refl
word_congr word.Query word.Subscription w h = absurd (cc)
word_congr word.Subscription word.Query w h = absurd (cc)
word_congr word.Subscription word.Subscription w h = refl

words_equiv : IsEquivalence same_word
words_equiv = record { refl = word_own; symm = word_symm; congr = word_congr }

pub values_equiv : IsEquivalence same_value
values_equiv = eq_by_cmp_equiv val_cmp-total

value_lists_equiv : IsEquivalence (pointwise same_value)
value_lists_equiv = lists_equiv values_equiv

slot_own : (a : Slot) → same_slot a a ≡ true
slot_own (One x) = values_equiv.refl x
slot_own (Many xs) = value_lists_equiv.refl xs

slot_symm : (a b : Slot) → same_slot a b ≡ same_slot b a
slot_symm (One x) (One y) = values_equiv.symm x y
slot_symm (One x) (Many ys) = refl
slot_symm (Many xs) (One y) = refl
slot_symm (Many xs) (Many ys) = value_lists_equiv.symm xs ys

slot_congr : (a b c : Slot) → same_slot a b ≡ true → same_slot a c ≡ same_slot b c
slot_congr (One x) (One y) (One z) h = values_equiv.congr x y z h
slot_congr (One x) (One y) (Many zs) h = refl
slot_congr (One x) (Many ys) c h = absurd (cc)
slot_congr (Many xs) (One y) c h = absurd (cc)
slot_congr (Many xs) (Many ys) (One z) h = refl
slot_congr (Many xs) (Many ys) (Many zs) h = value_lists_equiv.congr xs ys zs h

slots_equiv : IsEquivalence same_slot
slots_equiv = record { refl = slot_own; symm = slot_symm; congr = slot_congr }

pub poller_equiv : IsEquivalence same_poller
poller_equiv =
    by_both (λ (p q : Query). same_word p.selection.kind q.selection.kind && bytes_eq p.role q.role) (λ (p q : Query). bytes_eq (canonical p.selection) (canonical q.selection))
    (by_both (λ (p q : Query). same_word p.selection.kind q.selection.kind) (λ (p q : Query). bytes_eq p.role q.role)
    (by_part same_word (λ (p : Query). p.selection.kind) words_equiv) (by_part bytes_eq (λ (p : Query). p.role) nat_list_eq_equiv))
    (by_part bytes_eq (λ (p : Query). canonical p.selection) nat_list_eq_equiv)

pub binding_equiv : IsEquivalence same_binding
binding_equiv =
    by_both (λ (a b : Binding). pointwise same_slot a.vars b.vars && pointwise same_value a.session b.session) (λ (a b : Binding). same_value a.cursor b.cursor)
    (by_both (λ (a b : Binding). pointwise same_slot a.vars b.vars) (λ (a b : Binding). pointwise same_value a.session b.session)
    (by_part (pointwise same_slot) (λ (a : Binding). a.vars) (lists_equiv slots_equiv)) (by_part (pointwise same_value) (λ (a : Binding). a.session) value_lists_equiv))
    (by_part same_value (λ (a : Binding). a.cursor) values_equiv)

pub cohort_equiv : IsEquivalence are_of_one_cohort
cohort_equiv =
    by_both (λ (a b : Subscription). same_poller a.query b.query) (λ (a b : Subscription). same_binding (binding_of a.query a.cursor) (binding_of b.query b.cursor))
    (by_part same_poller (λ (a : Subscription). a.query) poller_equiv) (by_part same_binding (λ (a : Subscription). binding_of a.query a.cursor) binding_equiv)
