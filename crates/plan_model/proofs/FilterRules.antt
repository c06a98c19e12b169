-- Conditions by their forms: induction, and folds whose step gives a function.
use Rattle.std.proofs.Common.{◌≡◌, ◌∙◌, ℕ, List, [], ◌∷◌, map, ap, sym, subst}
use Rattle.std.specs.List.{AllByRecursion}
use Rattle.plan_model.specs.declared.filter.Filter.{Filter}
use Rattle.plan_model.specs.declared.filter.Filter.TheVariants as filter
use Rattle.plan_model.specs.declared.filter.Filter.TheVariants.{rolls-And, rolls-Or, rolls-Cmp}
use Rattle.plan_model.specs.declared.filter.Filter.TheOpen.{Filter-F}
use Rattle.plan_model.specs.declared.filter.Filter.TheViews.{roll-Filter}
use Rattle.plan_model.specs.declared.filter.Filter.TheFolds.{fold-Filter, fold-roll-Filter, map-Filter, ind-Filter}
use Rattle.plan_model.specs.declared.filter.Op.{Op}
use Rattle.plan_model.specs.declared.filter.Operand.{Operand}

module _ {B : Type 0} (step : Filter-F (ℕ → B) → ℕ → B) where
  abbrev folded : Filter → ℕ → B
  folded = fold-Filter (ℕ → B) step

  pub filter-And : (parts : List Filter) (n : ℕ)
      → fold-Filter (ℕ → B) step (filter.And parts) n ≡ step (Filter-F.And (map (fold-Filter (ℕ → B) step) parts)) n
  filter-And parts n = ap (λ (f : Filter). folded f n) (sym (rolls-And parts))
      ∙ ap (λ (g : ℕ → B). g n) (fold-roll-Filter (ℕ → B) step _)

  pub filter-Or : (parts : List Filter) (n : ℕ)
      → fold-Filter (ℕ → B) step (filter.Or parts) n ≡ step (Filter-F.Or (map (fold-Filter (ℕ → B) step) parts)) n
  filter-Or parts n = ap (λ (f : Filter). folded f n) (sym (rolls-Or parts))
      ∙ ap (λ (g : ℕ → B). g n) (fold-roll-Filter (ℕ → B) step _)

  pub filter-Cmp : (column : ℕ) (op : Op) (operand : Operand) (n : ℕ)
      → fold-Filter (ℕ → B) step (filter.Cmp column op operand) n ≡ step (Filter-F.Cmp column op operand) n
  filter-Cmp column op operand n =
      ap (λ (f : Filter). folded f n) (sym (rolls-Cmp column op operand))
      ∙ ap (λ (g : ℕ → B). g n) (fold-roll-Filter (ℕ → B) step _)

-- ---- induction: what holds of a condition where it holds of its parts, holds of all

pub firsts : {X : Type 0} (P : X → Type 0) (es : List ((x : X) × P x)) → AllByRecursion P (map (λ e. e.0) es)
firsts P [] = tt
firsts P (e ∷ es) = (e.1, firsts P es)

module _ (P : Filter → Type 0) where
  -- it holds of each part of a form
  abbrev pub OfParts : Filter-F Filter → Type 0
  OfParts (Filter-F.And parts) = AllByRecursion P parts
  OfParts (Filter-F.Or parts) = AllByRecursion P parts
  OfParts (Filter-F.Not part) = P part
  OfParts (Filter-F.Cmp column op operand) = Unit {0}
  OfParts (Filter-F.Among column negated items) = Unit {0}
  OfParts (Filter-F.IsNull column want) = Unit {0}

  of_parts : (y : Filter-F ((x : Filter) × P x)) → OfParts (map-Filter ((x : Filter) × P x) Filter (λ e. e.0) y)
  of_parts (Filter-F.And parts) = firsts P parts
  of_parts (Filter-F.Or parts) = firsts P parts
  of_parts (Filter-F.Not part) = part.1
  of_parts (Filter-F.Cmp column op operand) = tt
  of_parts (Filter-F.Among column negated items) = tt
  of_parts (Filter-F.IsNull column want) = tt

  pub of_all : ((f : Filter-F Filter) → OfParts f → P (roll-Filter f)) → (f : Filter) → P f
  of_all step = ind-Filter P (λ f y is. step f (subst OfParts is (of_parts y)))
