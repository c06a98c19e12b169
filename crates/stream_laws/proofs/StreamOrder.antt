-- The order of a stream's rows, and what lies beyond a cursor.
use Rattle.std.proofs.Common.{◌≡◌, Bool, true, false, if◌then◌else◌, refl, ap, sym, ◌∙◌}
use Rattle.std.specs.Cmp.{IsTotalOrder}
use Rattle.std.proofs.lemmas.Cmp.{back_total, alike_right}
use Rattle.std.specs.Ordering.{is_le, is_lt, is_gt, ordering_then, ordering_reverse}
use Rattle.std.specs.declared.cmp.Ordering.{Ordering}
use Rattle.std.specs.declared.cmp.Ordering.TheVariants.{Less, Equal, Greater}
use Rattle.scalar_val.specs.declared.val.Val.{Val}
use Rattle.scalar_val.specs.ValOrder.{val_cmp}
use Rattle.scalar_val.proofs.OrderLaws.{val_cmp-total}
use Rattle.scalar_val.specs.Values.{is_null}
use Rattle.plan_model.specs.Truth.{is_yes, known}
use Rattle.plan_model.specs.declared.filter.TruthValue.TheVariants.{Unknown}
use Rattle.plan_model.specs.Taken.{directed, null_cmp, is_beyond}

-- ---- values

abbrev pub le_by : Bool → Bool → Ordering → Bool
le_by a b o = is_le (ordering_then (null_cmp false a b o) Equal)

chain_by : (a b c : Bool) (o p q : Ordering) → (is_le o ≡ true → is_le p ≡ true → is_le q ≡ true) → le_by a b o ≡ true → le_by b c p ≡ true → le_by a c q ≡ true
chain_by true b true o p q f g h = refl
chain_by false b true o p q f g h = refl
chain_by a true false o p q f g h = absurd (let k : false ≡ true = h in cc)
chain_by true false false o p q f g h = absurd (let k : false ≡ true = g in cc)
chain_by false false false o p q f g h = known_le q (f (le_known o g) (le_known p h))
  where
    le_known : (o : Ordering) → le_by false false o ≡ true → is_le o ≡ true
    le_known Less h = refl
    le_known Equal h = refl
    le_known Greater h = h

    known_le : (o : Ordering) → is_le o ≡ true → le_by false false o ≡ true
    known_le Less h = refl
    known_le Equal h = refl
    known_le Greater h = h

turn_by : (a b : Bool) (o p : Ordering) → (o ≡ Greater → p ≡ Less) → le_by a b o ≡ false → le_by b a p ≡ true
turn_by true true o p f h = refl
turn_by true false o p f h = refl
turn_by false true o p f h = absurd (let k : true ≡ false = h in cc)
turn_by false false Greater p f h = ap (λ q. le_by false false q) (f refl)
turn_by false false Less p f h = absurd (let k : true ≡ false = h in cc)
turn_by false false Equal p f h = absurd (let k : true ≡ false = h in cc)

pub record Beyond (descending : Bool) (c v : Val) : Type 0 where
  pub there : is_null v ≡ false
  pub cursor : is_null c ≡ false
  pub less : directed descending c v ≡ Less

pub direction_total : (descending : Bool) → IsTotalOrder (directed descending)
direction_total true = back_total val_cmp-total
direction_total false = val_cmp-total

told_by : (descending : Bool) (c v : Val) (a b : Bool) → is_null v ≡ a → is_null c ≡ b → is_yes (if a then Unknown else if b then Unknown else known (if descending then is_lt (val_cmp v c) else is_gt (val_cmp v c))) ≡ true → Beyond descending c v
told_by descending c v true b e f h = absurd (let k : false ≡ true = h in cc)
told_by descending c v false true e f h = absurd (let k : false ≡ true = h in cc)
told_by true c v false false e f h = record { there = e; cursor = f; less = go (val_cmp v c) h }
  where
    go : (o : Ordering) → is_yes (known (is_lt o)) ≡ true → o ≡ Less
    go Less h = refl
    go Equal h = absurd (let k : false ≡ true = h in cc)
    go Greater h = absurd (let k : false ≡ true = h in cc)
told_by false c v false false e f h = record { there = e; cursor = f; less = val_cmp-total.antisymm c v ∙ go (val_cmp v c) h }
  where
    go : (o : Ordering) → is_yes (known (is_gt o)) ≡ true → ordering_reverse o ≡ Less
    go Greater h = refl
    go Equal h = absurd (let k : false ≡ true = h in cc)
    go Less h = absurd (let k : false ≡ true = h in cc)

pub is_told : (descending : Bool) (c v : Val) → is_beyond descending c v ≡ true → Beyond descending c v
is_told true c v h = told_by true c v (is_null v) (is_null c) refl refl h
is_told false c v h = told_by false c v (is_null v) (is_null c) refl refl h

pub tells : (descending : Bool) (c v : Val) → Beyond descending c v → is_beyond descending c v ≡ true
tells true c v b = rw (b.there, b.cursor) (ap (λ o. is_yes (known (is_lt o))) b.less)
tells false c v b = rw (b.there, b.cursor) (ap (λ o. is_yes (known (is_gt o))) (val_cmp-total.antisymm v c ∙ ap ordering_reverse b.less))

unlike : (b : Bool) → b ≡ true → b ≡ false → ⊥
unlike b e f = cc

decided : (b : Bool) → (b ≡ true → ⊥) → b ≡ false
decided true h = absurd (h refl)
decided false h = refl

module _ (descending : Bool) where
  abbrev pub dir : Val → Val → Ordering
  dir = directed descending

  abbrev pub le_value : Val → Val → Bool
  le_value x y = le_by (is_null x) (is_null y) (dir x y)

  abbrev pub beyond : Val → Val → Bool
  beyond = is_beyond descending

  total : IsTotalOrder dir
  total = direction_total descending

  dir_chain : (x y z : Val) (o p : Ordering) → dir x y ≡ o → dir y z ≡ p → is_le o ≡ true → is_le p ≡ true → is_le (dir x z) ≡ true
  dir_chain x y z Less Less e f g h = ap is_le (total.trans x y z e f)
  dir_chain x y z Less Equal e f g h = ap is_le (sym (alike_right total y z x f) ∙ e)
  dir_chain x y z Equal p e f g h = ap is_le (total.congr x y z e ∙ f) ∙ h
  dir_chain x y z Greater p e f g h = absurd (let k : false ≡ true = g in cc)
  dir_chain x y z o Greater e f g h = absurd (let k : false ≡ true = h in cc)

  pub value_chain : (x y z : Val) → le_value x y ≡ true → le_value y z ≡ true → le_value x z ≡ true
  value_chain x y z = chain_by (is_null x) (is_null y) (is_null z) (dir x y) (dir y z) (dir x z) (λ g h. dir_chain x y z (dir x y) (dir y z) refl refl g h)

  pub value_turn : (x y : Val) → le_value x y ≡ false → le_value y x ≡ true
  value_turn x y = turn_by (is_null x) (is_null y) (dir x y) (dir y x) (λ e. total.antisymm y x ∙ ap ordering_reverse e)

  pub value_below : (x y : Val) → beyond x y ≡ true → le_value x y ≡ true
  value_below x y h = let b = is_told descending x y h in rw (b.there, b.cursor, b.less) refl

  pub value_above : (x y : Val) → beyond y x ≡ true → le_value x y ≡ false
  value_above x y h = let b = is_told descending y x h in rw (b.there, b.cursor) (ap (λ o. le_by false false o) (total.antisymm x y ∙ ap ordering_reverse b.less))

  pub further : (x y z : Val) → beyond x y ≡ true → beyond y z ≡ true → beyond x z ≡ true
  further x y z g h =
      let a = is_told descending x y g in
      let b = is_told descending y z h in
      tells descending x z (record { there = b.there; cursor = a.cursor; less = total.trans x y z a.less b.less })

  pub never_itself : (x : Val) → beyond x x ≡ false
  never_itself x = decided (beyond x x) (λ h. unlike (le_value x x) (value_below x x h) (value_above x x h))

  pub one_way : (x y : Val) → beyond x y ≡ true → beyond y x ≡ false
  one_way x y h = decided (beyond y x) (λ g. unlike (le_value x y) (value_below x y h) (value_above x y g))

  -- what isn't below a value beyond the cursor is beyond it
  pub not_below : (c x y : Val) → beyond c x ≡ true → le_value x y ≡ true → is_null y ≡ false → beyond c y ≡ true
  not_below c x y h l n = let b = is_told descending c x h in tells descending c y (record { there = n; cursor = b.cursor; less = go b (dir x y) refl (at_once b) })
    where
      at_once : Beyond descending c x → is_le (ordering_then (null_cmp false false false (dir x y)) Equal) ≡ true
      at_once b = rw (b.there, n) at l

      go : Beyond descending c x → (o : Ordering) → dir x y ≡ o → is_le (ordering_then (null_cmp false false false o) Equal) ≡ true → dir c y ≡ Less
      go b Less e k = total.trans c x y b.less e
      go b Equal e k = sym (alike_right total x y c e) ∙ b.less
      go b Greater e k = absurd (let m : false ≡ true = k in cc)
