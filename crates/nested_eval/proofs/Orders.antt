-- The order of rows by entries is total.
use Rattle.std.proofs.Common.{◌≡◌, ◌∙◌, ℕ, Bool, true, false, true≢false, List, [], ◌∷◌, refl, sym, ap}
use denote.Param.Members.{Mut}
use Rattle.std.specs.Borrow.{Bor}
use Rattle.std.specs.Cmp.{IsTotalOrder, IsStrictWeakOrder}
use Rattle.std.specs.Fn.{Called, ComparesAs}
use Rattle.std.specs.List.Sorted.{IsSortedByClosure, IsStableByClosure}
use Rattle.std.proofs.lemmas.Fn.{always_returns_same}
use Rattle.std.proofs.lemmas.List.Sorted.{ranks_by}
use Rattle.scalar_val.specs.Ordered.{ordered}
use Rattle.scalar_val.proofs.StableRules.{sorted_by_placing}
use Rattle.nested_eval.specs.Seen.{seen}
use Rattle.std.specs.Ordering.{is_lt, nat_cmp, ordering_then, ordering_reverse, on, then_cmp}
use Rattle.std.specs.declared.cmp.Ordering.{Ordering}
use Rattle.std.specs.declared.cmp.Ordering.TheVariants.{Equal}
use Rattle.std.proofs.lemmas.Cmp.{nat_cmp_total, on_total, then_total, back_total}
use Rattle.scalar_val.specs.declared.val.Val.{Val}
use Rattle.scalar_val.specs.declared.val.Val.TheVariants as val
use Rattle.scalar_val.proofs.OrderLaws.{val_cmp-total}
use Rattle.scalar_val.specs.Values.{cell, is_null}
use Rattle.data_model.specs.Rows.{Row}
use Rattle.plan_model.specs.declared.plan.Order.{Order}
use Rattle.plan_model.specs.Taken.{directed, null_cmp, rows_cmp}

total_from : {X : Type 0} (R S : X → X → Ordering) → ((x y : X) → R x y ≡ S x y) → IsTotalOrder S → IsTotalOrder R
total_from R S e total = record {
  antisymm = λ x y. e x y ∙ total.antisymm x y ∙ ap ordering_reverse (sym (e y x));
  trans = λ x y z a b. e x z ∙ total.trans x y z (sym (e x y) ∙ a) (sym (e y z) ∙ b);
  congr = λ x y z a. e x z ∙ total.congr x y z (sym (e x y) ∙ a) ∙ sym (e y z);
}

directed_total : (descending : Bool) → IsTotalOrder (directed descending)
directed_total true = back_total val_cmp-total
directed_total false = val_cmp-total

null_alone : (x : Val) → is_null x ≡ true → x ≡ val.Null
null_alone val.Null h = refl
null_alone (val.Bool b) h = absurd (true≢false (sym h))
null_alone (val.Int z) h = absurd (true≢false (sym h))
null_alone (val.Big z) h = absurd (true≢false (sym h))
null_alone (val.Text t) h = absurd (true≢false (sym h))
null_alone (val.Uuid n) h = absurd (true≢false (sym h))

nulls_tie : (descending : Bool) → directed descending val.Null val.Null ≡ Equal
nulls_tie true = refl
nulls_tie false = refl

both_null : (descending : Bool) (x y : Val) → is_null x ≡ true → is_null y ≡ true → directed descending x y ≡ Equal
both_null descending x y p q = rw (null_alone x p, null_alone y q) (nulls_tie descending)

-- where null stands, and where a value does
abbrev rank : Bool → Bool → ℕ
rank true true = 0
rank true false = 1
rank false true = 1
rank false false = 0

by_rank : (first p q : Bool) (o : Ordering) → (p ≡ true → q ≡ true → o ≡ Equal)
    → null_cmp first p q o ≡ ordering_then (nat_cmp (rank first p) (rank first q)) o
by_rank true true true o h = sym (h refl refl)
by_rank true true false o h = refl
by_rank true false true o h = refl
by_rank true false false o h = refl
by_rank false true true o h = sym (h refl refl)
by_rank false true false o h = refl
by_rank false false true o h = refl
by_rank false false false o h = refl

abbrev values_cmp : Bool → Bool → Val → Val → Ordering
values_cmp first descending x y = null_cmp first (is_null x) (is_null y) (directed descending x y)

values_total : (first descending : Bool) → IsTotalOrder (values_cmp first descending)
values_total first descending =
    total_from (values_cmp first descending) (then_cmp (on (λ x. rank first (is_null x)) nat_cmp) (directed descending))
    (λ x y. by_rank first (is_null x) (is_null y) (directed descending x y) (both_null descending x y))
    (then_total (on_total (λ x. rank first (is_null x)) nat_cmp_total) (directed_total descending))

pub rows_total : (orders : List Order) → IsTotalOrder (rows_cmp orders)
rows_total [] = record { antisymm = λ x y. refl; trans = λ x y z a b. a; congr = λ x y z a. refl }
rows_total (o ∷ os) =
    then_total (on_total (λ (row : Row). cell row o.column) (values_total o.nulls_first o.descending)) (rows_total os)

-- what a stable sort leaves whose closure compares rows by the entries
pub sorted_seen : {F : Type 0} {g : Mut F (Bor (Bor Row) × (Bor (Bor Row) × Unit {0})) Ordering} {f : F}
    (orders : List Order) (xs ys : List (Bor Row)) → IsSortedByClosure g f ys → IsStableByClosure g f xs ys
    → ((a : Bor (Bor Row) × (Bor (Bor Row) × Unit {0})) (r : Ordering) (f' : F) → Called g f a r f'
    → (r ≡ rows_cmp orders a.0.now.now a.1.0.now.now) × (f' ≡ f)) → seen ys ≡ ordered (rows_cmp orders) (seen xs)
sorted_seen {g = g} {f = f} orders xs ys sorted stable calls =
    let total = rows_total orders in
    let lt : Bor Row → Bor Row → Bool = λ a b. is_lt (rows_cmp orders a.now b.now) in
    let weak : IsStrictWeakOrder lt = ranks_by total (λ row. row.now) in
    let compares : ComparesAs g lt f = always_returns_same g (λ a r. is_lt r ≡ lt a.0.now a.1.0.now) f
    (λ a r f' k. (ap is_lt (calls a r f' k).0, (calls a r f' k).1)) in
    sorted_by_placing (λ row. row.now) (rows_cmp orders) total xs ys (sorted lt weak compares) (stable lt weak compares)
