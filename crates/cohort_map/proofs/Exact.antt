-- Keys that the order takes for equal are equal.
use Rattle.std.proofs.Common.{◌≡◌, ◌↔◌, true, List, [], ◌∷◌, refl, ap, subst, arith}
use Rattle.std.specs.Ordering.{ordering_then, ordering_reverse, is_eq}
use Rattle.std.specs.Cmp.Lexicographic.{slice_cmp}
use Rattle.std.specs.declared.cmp.Ordering.{Ordering}
use Rattle.std.specs.declared.cmp.Ordering.TheVariants.{Less, Equal, Greater}
use Rattle.std.proofs.lemmas.Map.Lookups.{CmpEqualImpliesEq, exact_unsigned, exact_bytes}
use Rattle.scalar_val.specs.declared.word.Word.{Word}
use Rattle.scalar_val.specs.declared.word.Word.TheVariants as word
use Rattle.plan_model.specs.declared.filter.Binding.{Binding}
use Rattle.plan_model.specs.declared.filter.Slot.{Slot}
use Rattle.plan_model.specs.declared.filter.Slot.TheVariants.{One, Many}
use Rattle.scalar_val.specs.declared.val.Val.{Val}
use Rattle.scalar_val.specs.ValOrder.{val_cmp}
use Rattle.scalar_val.proofs.OrderLaws.{val_cmp-exact}
use Rattle.cohort_map.specs.declared.key.PollerKey.{PollerKey}
use Rattle.cohort_map.specs.declared.key.CohortKey.{CohortKey}
use Rattle.cohort_map.specs.Keys.{word_rank, poller_cmp, slot_rank, one_of, many_of, slot_cmp, binding_cmp, key_cmp, same_poller, same_binding}
use Rattle.cohort_map.specs.KeyOrder.{poller_cmp-total, binding_cmp-total}
use Rattle.std.specs.Cmp.{IsTotalOrder}

both_equal : (o p : Ordering) → ordering_then o p ≡ Equal → (o ≡ Equal) × (p ≡ Equal)
both_equal Less p h = cc
both_equal Equal p h = (refl, h)
both_equal Greater p h = cc

pub eq_is : (o : Ordering) → is_eq o ≡ true → o ≡ Equal
eq_is Less h = cc
eq_is Equal h = refl
eq_is Greater h = cc

pub lists_exact : {X : Type 0} (R : X → X → Ordering) → CmpEqualImpliesEq R → CmpEqualImpliesEq (slice_cmp R)
lists_exact R exact [] [] h = refl
lists_exact R exact [] (y ∷ ys) h = cc
lists_exact R exact (x ∷ xs) [] h = cc
lists_exact R exact (x ∷ xs) (y ∷ ys) h =
    let both = both_equal _ _ h in
    let head : x ≡ y = exact x y both.0 in
    let tail : xs ≡ ys = lists_exact R exact xs ys both.1 in
    cc

same_word : (a b : Word) → word_rank a ≡ word_rank b → a ≡ b
same_word word.Query word.Query h = refl
same_word word.Subscription word.Subscription h = refl
same_word word.Query word.Subscription h = absurd (omega arith)
same_word word.Subscription word.Query h = absurd (omega arith)

poller_is : (a b : PollerKey) → a.word ≡ b.word → a.role ≡ b.role → a.canon ≡ b.canon → a ≡ b
poller_is a b w r c = λ i. record { word = w i; role = r i; canon = c i }

pub poller_cmp-exact : CmpEqualImpliesEq poller_cmp
poller_cmp-exact a b h =
    let first = both_equal _ _ h in
    let rest = both_equal _ _ first.1 in
    poller_is a b (same_word a.word b.word (exact_unsigned _ _ first.0)) (exact_bytes _ _ rest.0) (exact_bytes _ _ rest.1)

slot_is : (a b : Slot) → slot_rank a ≡ slot_rank b → one_of a ≡ one_of b → many_of a ≡ many_of b → a ≡ b
slot_is (One x) (One y) r o m = ap (λ (v : Val). One v) o
slot_is (Many x) (Many y) r o m = ap (λ (vs : List Val). Many vs) m
slot_is (One x) (Many y) r o m = absurd (omega arith)
slot_is (Many x) (One y) r o m = absurd (omega arith)

pub slot_cmp-exact : CmpEqualImpliesEq slot_cmp
slot_cmp-exact a b h =
    let first = both_equal _ _ h in
    let rest = both_equal _ _ first.1 in
    slot_is a b (exact_unsigned _ _ first.0) (val_cmp-exact _ _ rest.0) (lists_exact val_cmp val_cmp-exact _ _ rest.1)

binding_is : (a b : Binding) → a.cursor ≡ b.cursor → a.vars ≡ b.vars → a.session ≡ b.session → a ≡ b
binding_is a b c v s = λ i. record { vars = v i; session = s i; cursor = c i }

pub binding_cmp-exact : CmpEqualImpliesEq binding_cmp
binding_cmp-exact a b h =
    let first = both_equal _ _ h in
    let rest = both_equal _ _ first.1 in
    binding_is a b (val_cmp-exact _ _ first.0) (lists_exact slot_cmp slot_cmp-exact _ _ rest.0) (lists_exact val_cmp val_cmp-exact _ _ rest.1)

key_is : (a b : CohortKey) → a.poller ≡ b.poller → a.binding ≡ b.binding → a ≡ b
key_is a b p k = λ i. record { poller = p i; binding = k i }

pub key_cmp-exact : CmpEqualImpliesEq key_cmp
key_cmp-exact a b h =
    let both = both_equal _ _ h in
    key_is a b (poller_cmp-exact _ _ both.1) (binding_cmp-exact _ _ both.0)

reverse_self : (o : Ordering) → o ≡ ordering_reverse o → o ≡ Equal
reverse_self Less h = cc
reverse_self Equal h = refl
reverse_self Greater h = cc

pub equal_itself : {K : Type 0} (R : K → K → Ordering) → IsTotalOrder R → (x : K) → R x x ≡ Equal
equal_itself R total x = reverse_self (R x x) (total.antisymm x x)

pub is_equal : {K : Type 0} (R : K → K → Ordering) → IsTotalOrder R → (x y : K) → x ≡ y → is_eq (R x y) ≡ true
is_equal R total x y e = subst (λ z. is_eq (R x z) ≡ true) e (rw (equal_itself R total x) refl)

pub same_poller-is : (a b : PollerKey) → (same_poller a b ≡ true) ↔ (a ≡ b)
same_poller-is a b = (λ h. poller_cmp-exact a b (eq_is _ h), is_equal poller_cmp poller_cmp-total a b)

pub same_binding-is : (a b : Binding) → (same_binding a b ≡ true) ↔ (a ≡ b)
same_binding-is a b = (λ h. binding_cmp-exact a b (eq_is _ h), is_equal binding_cmp binding_cmp-total a b)
