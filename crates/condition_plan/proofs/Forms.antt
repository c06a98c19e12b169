-- Conditions, an equation for each form of value.
use Rattle.std.proofs.Common.{◌≡◌, ◌∙◌, ℕ, Bool, true, false, true≢false, if◌then◌else◌, List, [], ◌∷◌, map, refl}
use Rattle.std.proofs.Common.{ap, sym, codes}
use Rattle.std.specs.Str.{bytes_eq}
use Rattle.std.proofs.lemmas.Slice.Eq.{bytes_eq-Decides}
use Rattle.plan_model.specs.declared.filter.Filter.{Filter}
use Rattle.plan_model.specs.declared.filter.Filter.TheVariants as filter
use Rattle.role_model.specs.Roles.{View, column_seen}
use Rattle.request_model.specs.declared.document.GValue.{GValue}
use Rattle.request_model.specs.declared.document.GValue.TheOpen.{GValue-F}
use Rattle.request_model.specs.declared.document.GValue.TheVariants as v
use Rattle.request_model.specs.declared.document.GValue.TheVariants.{rolls-Many, rolls-Object}
use Rattle.request_model.specs.declared.document.GValue.TheViews.{out-GValue, roll-GValue, roll-out-GValue}
use Rattle.request_model.specs.declared.document.GValue.TheFolds.{map-GValue}
use Rattle.request_model.specs.declared.document.GPair.{GPair}
use Rattle.request_model.specs.Strings.{Text}
use Rattle.query_model.specs.Names.{pair_name, pair_value}
use Rattle.query_model.specs.Conditions.{Reader, Conditions, always, column_filter, conditions_in, condition_at}
use Rattle.query_model.specs.Conditions.{conditions_step}
use Rattle.query_model.proofs.QueryRules.{object-one, object-many, items-many, key-is, conditions-is}

-- what each gives, without what it was made of
with_second : {X Y Z : Type 0} (f : X → Y) (g : Y → Z) (xs : List X) →
    map (λ (e : X × Y). g e.1) (map (λ x. (x, f x)) xs) ≡ map (λ x. g (f x)) xs
with_second f g [] = refl
with_second f g (x ∷ xs) = ap (λ zs. g (f x) ∷ zs) (with_second f g xs)

module _ (w : View) (r : Reader) where
  -- an object: its keys
  pub one-Object : (pairs : List GPair) (table : ℕ) →
      (conditions_in w r (v.Object pairs)).one table ≡ filter.And (map (λ p. condition_at w r p table) pairs)
  one-Object pairs table =
      object-one w r pairs table ∙ ap filter.And (with_second (condition_at w r) (λ (f : ℕ → Filter). f table) pairs)

  pub many-Object : (pairs : List GPair) (table : ℕ) →
      (conditions_in w r (v.Object pairs)).many table
      ≡ filter.And (map (λ p. condition_at w r p table) pairs) ∷ []
  many-Object pairs table =
      object-many w r pairs table
      ∙ ap (λ fs. filter.And fs ∷ []) (with_second (condition_at w r) (λ (f : ℕ → Filter). f table) pairs)

  -- a list: its items
  pub many-Many : (items : List GValue) (table : ℕ) →
      (conditions_in w r (v.Many items)).many table ≡ map (λ x. (conditions_in w r x).one table) items
  many-Many items table =
      items-many w r items table ∙ with_second (conditions_in w r) (λ (c : Conditions). c.one table) items

  -- another value
  abbrev layer : GValue-F GValue GPair → Conditions
  layer f =
      conditions_step w r
      (map-GValue GValue GPair (GValue × Conditions) (GPair × (ℕ → Filter)) (λ y. (y, conditions_in w r y))
      (λ p. (p, condition_at w r p)) f)

  pub one_of_other : (x : GValue) (table : ℕ) → ((pairs : List GPair) → x ≡ v.Object pairs → ⊥) →
      (conditions_in w r x).one table ≡ always
  one_of_other x table none =
      ap (λ (c : Conditions). c.one table) (conditions-is w r x) ∙ go (out-GValue x) (sym (roll-out-GValue x))
    where
      go : (f : GValue-F GValue GPair) → x ≡ roll-GValue f → (layer f).one table ≡ always
      go (GValue-F.Var name) e = refl
      go (GValue-F.Int digits) e = refl
      go (GValue-F.Text text) e = refl
      go (GValue-F.Bool told) e = refl
      go GValue-F.Null e = refl
      go (GValue-F.Enum name) e = refl
      go (GValue-F.Many items) e = refl
      go (GValue-F.Object pairs) e = absurd (none pairs (e ∙ rolls-Object pairs))

  pub many_of_other : (x : GValue) (table : ℕ) → ((items : List GValue) → x ≡ v.Many items → ⊥) →
      ((pairs : List GPair) → x ≡ v.Object pairs → ⊥) → (conditions_in w r x).many table ≡ always ∷ []
  many_of_other x table no_list no_object =
      ap (λ (c : Conditions). c.many table) (conditions-is w r x) ∙ go (out-GValue x) (sym (roll-out-GValue x))
    where
      go : (f : GValue-F GValue GPair) → x ≡ roll-GValue f → (layer f).many table ≡ always ∷ []
      go (GValue-F.Var name) e = refl
      go (GValue-F.Int digits) e = refl
      go (GValue-F.Text text) e = refl
      go (GValue-F.Bool told) e = refl
      go GValue-F.Null e = refl
      go (GValue-F.Enum name) e = refl
      go (GValue-F.Many items) e = absurd (no_list items (e ∙ rolls-Many items))
      go (GValue-F.Object pairs) e = absurd (no_object pairs (e ∙ rolls-Object pairs))

-- ---- keys

other_text : (a b : Text) → (a ≡ b → ⊥) → bytes_eq a b ≡ false
other_text a b differ = go (bytes_eq a b) ((bytes_eq-Decides a b).0)
  where
    go : (t : Bool) → (t ≡ true → a ≡ b) → t ≡ false
    go true h = absurd (differ (h refl))
    go false h = refl

abbrev chosen : Conditions → ℕ → Filter → Bool → Bool → Bool → Filter
chosen c table other is_and is_or is_not =
    if is_and then filter.And (c.many table)
    else if is_or then filter.Or (c.many table)
    else if is_not then filter.Not (c.one table)
    else other

none_chosen : (c : Conditions) (table : ℕ) (other : Filter) (x y z : Bool) → x ≡ false → y ≡ false → z ≡ false →
    chosen c table other x y z ≡ other
none_chosen c table other true y z e g h = absurd (true≢false e)
none_chosen c table other false true z e g h = absurd (true≢false g)
none_chosen c table other false false true e g h = absurd (true≢false h)
none_chosen c table other false false false e g h = refl

-- a key that joins nothing and turns nothing round is a column
pub key_of_other : (w : View) (r : Reader) (p : GPair) (table : ℕ) → (pair_name p ≡ codes "_and" → ⊥) →
    (pair_name p ≡ codes "_or" → ⊥) → (pair_name p ≡ codes "_not" → ⊥) →
    condition_at w r p table ≡ column_filter w r table (pair_value p) (column_seen w table (pair_name p))
key_of_other w r p table no_and no_or no_not =
    key-is w r p table
    ∙ none_chosen (conditions_in w r (pair_value p)) table
    (column_filter w r table (pair_value p) (column_seen w table (pair_name p)))
    (bytes_eq (pair_name p) (codes "_and")) (bytes_eq (pair_name p) (codes "_or"))
    (bytes_eq (pair_name p) (codes "_not")) (other_text (pair_name p) (codes "_and") no_and)
    (other_text (pair_name p) (codes "_or") no_or) (other_text (pair_name p) (codes "_not") no_not)

pub ruleset forms = (one-Object, many-Object, many-Many, key-is)
