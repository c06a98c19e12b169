-- What is known of a row that is shown.
use Rattle.std.proofs.Common.{◌≡◌, ◌∙◌, ◌<◌, ◌+◌, ℕ, Bool, true, false, ◌&&◌, true≢false, if◌then◌else◌, List, [], ◌∷◌, length, map, drop, get_or, refl, sym, ap, subst, arith, Option, Some, None, slice_index_or}
use Rattle.std.specs.List.{list_any}
use Rattle.std.specs.Option.{IfSome}
use Rattle.std.proofs.lemmas.Bool.{and_parts}
use Rattle.std.proofs.lemmas.List.{drop_more}
use Rattle.scalar_val.specs.Values.{cell}
use Rattle.data_model.specs.Rows.{Row}
use Rattle.plan_model.specs.declared.filter.Binding.{Binding}
use Rattle.plan_model.specs.declared.filter.Filter.{Filter}
use Rattle.plan_model.specs.declared.filter.Op.TheVariants.{Eq}
use Rattle.plan_model.specs.declared.filter.TruthValue.{TruthValue}
use Rattle.plan_model.specs.declared.filter.TruthValue.TheVariants.{Yes, No, Unknown}
use Rattle.plan_model.specs.declared.plan.Select.{Select}
use Rattle.plan_model.specs.Planned.{passes}
use Rattle.plan_model.specs.Taken.{joins}
use Rattle.plan_model.specs.Truth.{is_yes, is_no, compared, all_of, truth_of}
use Rattle.nested_eval.specs.declared.pin.Pin.{Pin}
use Rattle.nested_eval.specs.Pins.{parts_say, meets_pin, meets_pin_if, shows, Pinned}

-- the first columns that are joined are equal
pub joined_at : (from to : List ℕ) (parent row : Row) → 0 < length from → 0 < length to → joins from to parent row ≡ true
    → is_yes (compared Eq (cell row (slice_index_or to 0 0)) (cell parent (slice_index_or from 0 0))) ≡ true
joined_at [] to parent row a b h = absurd (omega arith)
joined_at (f ∷ fs) [] parent row a b h = absurd (omega arith)
joined_at (f ∷ fs) (t ∷ ts) parent row a b h =
    (and_parts (is_yes (compared Eq (cell row t) (cell parent f))) (joins fs ts parent row) h).0

never : (b : Bool) → is_yes (if b then No else Unknown) ≡ true → ⊥
never true h = true≢false (sym h)
never false h = true≢false (sym h)

-- all are yes: the first is, and all others are
all_yes : (t : TruthValue) (ts : List TruthValue) → is_yes (all_of (t ∷ ts)) ≡ true
    → (is_yes t ≡ true) × (is_yes (all_of ts) ≡ true)
all_yes Yes ts h = (refl, h)
all_yes No ts h = absurd (true≢false (sym h))
all_yes Unknown ts h = absurd (never (list_any is_no ts) h)

-- where all parts that are left are yes, the next is, and all after it are
pub parts_more : (b : Binding) (row : Row) (parts : List Filter) (i : ℕ) (d : Filter) → i < length parts
    → is_yes (parts_say b row (drop i parts)) ≡ true
    → (is_yes (truth_of b (get_or parts i d) row) ≡ true) × (is_yes (parts_say b row (drop (i + 1) parts)) ≡ true)
parts_more b row parts i d within h =
    all_yes (truth_of b (get_or parts i d) row)
    (map (λ (part : Row → TruthValue). part row) (map (truth_of b) (drop (i + 1) parts)))
    (subst (λ ps. is_yes (parts_say b row ps) ≡ true) (drop_more parts i d within) h)

-- the parts of what is shown

module _ (s : Select) (from to : List ℕ) (b : Binding) (parent row : Row) (h : shows s from to b parent row ≡ true) where
  abbrev joined : Bool
  joined = joins from to parent row

  abbrev met : Bool
  met = is_yes (truth_of b s.filter row)

  first_two : joined && met ≡ true
  first_two = (and_parts (joined && met) (passes b s.shape row) h).0

  pub shown_joins : joins from to parent row ≡ true
  shown_joins = (and_parts joined met first_two).0

  pub shown_meets : is_yes (truth_of b s.filter row) ≡ true
  shown_meets = (and_parts joined met first_two).1

  pub shown_passes : passes b s.shape row ≡ true
  shown_passes = (and_parts (joined && met) (passes b s.shape row) h).1

  pub pinned_if : (pin : Option Pin) → IfSome pin (Pinned s from to) → meets_pin_if b parent pin row ≡ true
  pinned_if (Some pin) pinned = pinned b parent row h
  pinned_if None pinned = refl
