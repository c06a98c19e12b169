-- The cohorts of what is kept are those of the machine.
use Rattle.std.proofs.Common.{◌≡◌, ◌∙◌, ap, refl, Bool, true, false, ◌&&◌, List, [], ◌∷◌}
use lib.Pointwise.{pointwise}
use Rattle.std.specs.declared.cmp.Ordering.{Ordering}
use Rattle.std.specs.declared.cmp.Ordering.TheVariants.{Less, Equal, Greater}
use Rattle.std.specs.Ordering.{ordering_then, nat_cmp, is_eq}
use Rattle.std.specs.Cmp.Lexicographic.{slice_cmp}
use Rattle.std.specs.Str.{bytes_eq}
use Rattle.std.proofs.lemmas.Map.Text.{is_eq-slice_cmp}
use Rattle.scalar_val.specs.declared.word.Word.{Word}
use Rattle.scalar_val.specs.declared.word.Word.TheVariants as word
use Rattle.scalar_val.specs.declared.val.Val.{Val}
use Rattle.scalar_val.specs.ValOrder.{val_cmp}
use Rattle.plan_model.specs.declared.filter.Binding.{Binding}
use Rattle.plan_model.specs.declared.filter.Slot.{Slot}
use Rattle.plan_model.specs.declared.filter.Slot.TheVariants.{One, Many}
use Rattle.request_model.specs.Canonical.{canonical}
use Rattle.query_model.specs.Queries.{Query, binding_of}
use Rattle.cohort_map.specs.Keys.{word_rank, slot_cmp}
use Rattle.cohort_map.specs.Keys as keys
use Rattle.cohort_map.specs.Entries as map
use Rattle.machine.specs.State.{State, Subscription}
use Rattle.machine.specs.Cohorts.{same_word, same_value, same_slot, same_poller, same_binding}
use Rattle.machine.specs.Batches.{are_polled_together, are_of_one_cohort}
use Rattle.hub_model.specs.Kept.{poller_of, entry_of}
use Rattle.hub_model.proofs.Items.{and_yes}

-- tests of orders

then_both : (a b : Ordering) → is_eq (ordering_then a b) ≡ (is_eq a && is_eq b)
then_both Less b = refl
then_both Equal b = refl
then_both Greater b = refl

lists_both : {X : Type 0} (R : X → X → Ordering) (E : X → X → Bool) → ((x y : X) → is_eq (R x y) ≡ E x y) →
    (xs ys : List X) → is_eq (slice_cmp R xs ys) ≡ pointwise E xs ys
lists_both R E h [] [] = refl
lists_both R E h [] (y ∷ ys) = refl
lists_both R E h (x ∷ xs) [] = refl
lists_both R E h (x ∷ xs) (y ∷ ys) = then_both (R x y) (slice_cmp R xs ys) ∙ rw (h x y, lists_both R E h xs ys) refl

and_assoc : (a b c : Bool) → (a && (b && c)) ≡ ((a && b) && c)
and_assoc true b c = refl
and_assoc false b c = refl

and_last : (a b c : Bool) → (c && (a && b)) ≡ ((a && b) && c)
and_last true true true = refl
and_last true true false = refl
and_last true false true = refl
and_last true false false = refl
and_last false b true = refl
and_last false b false = refl

-- keys

words_same : (a b : Word) → is_eq (nat_cmp (word_rank a) (word_rank b)) ≡ same_word a b
words_same word.Query word.Query = refl
words_same word.Query word.Subscription = refl
words_same word.Subscription word.Query = refl
words_same word.Subscription word.Subscription = refl

pub same_pollers : (p q : Query) → keys.same_poller (poller_of p) (poller_of q) ≡ same_poller p q
same_pollers p q =
    then_both (nat_cmp (word_rank p.selection.kind) (word_rank q.selection.kind)) _
    ∙ rw (
      then_both (slice_cmp nat_cmp p.role q.role) (slice_cmp nat_cmp (canonical p.selection) (canonical q.selection)),
      words_same p.selection.kind q.selection.kind,
      is_eq-slice_cmp p.role q.role,
      is_eq-slice_cmp (canonical p.selection) (canonical q.selection),
    )
    (and_assoc (same_word p.selection.kind q.selection.kind) (bytes_eq p.role q.role)
    (bytes_eq (canonical p.selection) (canonical q.selection)))

value_lists : (xs ys : List Val) → is_eq (slice_cmp val_cmp xs ys) ≡ pointwise same_value xs ys
value_lists = lists_both val_cmp same_value (λ x y. refl)

slots_same : (a b : Slot) → is_eq (slot_cmp a b) ≡ same_slot a b
slots_same (One x) (One y) = then_both (val_cmp x y) Equal ∙ and_yes (is_eq (val_cmp x y))
slots_same (Many xs) (Many ys) = value_lists xs ys
slots_same (One x) (Many ys) = refl
slots_same (Many xs) (One y) = refl

pub same_bindings : (a b : Binding) → keys.same_binding a b ≡ same_binding a b
same_bindings a b =
    then_both (val_cmp a.cursor b.cursor) _
    ∙ rw (
      then_both (slice_cmp slot_cmp a.vars b.vars) (slice_cmp val_cmp a.session b.session),
      lists_both slot_cmp same_slot slots_same a.vars b.vars,
      value_lists a.session b.session,
    )
    (and_last (pointwise same_slot a.vars b.vars) (pointwise same_value a.session b.session)
    (same_value a.cursor b.cursor))

-- subscriptions, at two times

pub polled_together : (s t : State) (a b : Subscription) →
    map.are_polled_together (entry_of s a) (entry_of t b) ≡ are_polled_together a b
polled_together s t a b = same_pollers a.query b.query

pub of_one_cohort : (s t : State) (a b : Subscription) →
    map.are_of_one_cohort (entry_of s a) (entry_of t b) ≡ are_of_one_cohort a b
of_one_cohort s t a b =
    ap (λ (c : Bool). c && keys.same_binding (binding_of a.query a.cursor) (binding_of b.query b.cursor))
    (same_pollers a.query b.query)
    ∙ ap (λ (c : Bool). are_polled_together a b && c)
    (same_bindings (binding_of a.query a.cursor) (binding_of b.query b.cursor))
