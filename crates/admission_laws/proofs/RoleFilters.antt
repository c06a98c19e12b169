-- The filters that metadata says have columns of their table, constants and session variables alone, and booleans where
-- null is asked for.
use Rattle.std.proofs.Common.{◌≡◌, ℕ, Bool, true, false, ◌&&◌, if◌then◌else◌, List, [], ◌∷◌, nat_lt, length, slice_get, is_some, Option, Some, None, option_map, option_and_then, refl, ap, sym, ◌∙◌, subst}
use Rattle.std.proofs.lemmas.Bool.{and_from}
use Rattle.std.proofs.lemmas.List.Folds.{list_all-map}
use Rattle.std.specs.Prelude.{codes}
use Rattle.std.specs.Str.{bytes_eq}
use Rattle.std.specs.List.{list_all}
use Rattle.serde_json.specs.Data as json
use Rattle.serde_json.specs.Find.{as_bool}
use Rattle.scalar_val.specs.declared.val.Kind.{Kind}
use Rattle.scalar_val.specs.declared.val.Val.{Val}
use Rattle.scalar_val.specs.declared.val.Val.TheVariants as val
use Rattle.scalar_val.specs.Spellings.{fitted}
use Rattle.data_model.specs.declared.catalog.Column.{Column}
use Rattle.plan_model.specs.declared.filter.Filter.{Filter}
use Rattle.plan_model.specs.declared.filter.Filter.TheVariants.{And, Or, Not, Cmp, Among, IsNull, rolls-And, rolls-Or, rolls-Not, rolls-Cmp, rolls-Among, rolls-IsNull}
use Rattle.plan_model.specs.declared.filter.Filter.TheOpen.{Filter-F}
use Rattle.plan_model.specs.declared.filter.Filter.TheFolds.{fold-Filter, fold-roll-Filter}
use Rattle.plan_model.specs.declared.filter.Items.{Items}
use Rattle.plan_model.specs.declared.filter.Items.TheVariants as items
use Rattle.plan_model.specs.declared.filter.Op.{Op}
use Rattle.plan_model.specs.declared.filter.Operand.{Operand}
use Rattle.plan_model.specs.declared.filter.Operand.TheVariants.{Const, Var, Sess}
use Rattle.data_model.specs.JsonParts.{scalar_of}
use Rattle.role_model.specs.JsonFilters.{with_first, of_each, of_each_member, session_variable, constant, operand_by, operand_of, item_of, items_of, op_named, operator_of, operators_of, column_number, condition_on, column_condition, pair_of, filter_of, filters_of, filters_of_items, pairs_of}
use Rattle.plan_model.specs.FilterFits.{itself}
use Rattle.role_model.specs.Texts.{Text}
use Rattle.query_model.proofs.Positions.{placed_at}

abbrev pub is_constant : Operand → Bool
is_constant (Const x) = true
is_constant (Var slot) = false
is_constant (Sess slot) = false

abbrev pub is_own : Operand → Bool
is_own (Const x) = true
is_own (Var slot) = false
is_own (Sess slot) = true

abbrev pub are_constant : Items → Bool
are_constant (items.Each operands) = list_all is_constant operands
are_constant (items.Var slot) = false

abbrev pub is_boolean : Val → Bool
is_boolean (val.Bool b) = true
is_boolean _ = false

abbrev pub is_wanted : Operand → Bool
is_wanted (Const x) = is_boolean x
is_wanted (Var slot) = false
is_wanted (Sess slot) = false

module _ (n : ℕ) where
  abbrev pub good_step : Filter-F Bool → Bool
  good_step (Filter-F.And parts) = list_all itself parts
  good_step (Filter-F.Or parts) = list_all itself parts
  good_step (Filter-F.Not part) = part
  good_step (Filter-F.Cmp column op operand) = nat_lt column n && is_own operand
  good_step (Filter-F.Among column negated xs) = nat_lt column n && are_constant xs
  good_step (Filter-F.IsNull column want) = nat_lt column n && is_wanted want

  -- over a table of so many columns
  abbrev pub is_good : Filter → Bool
  is_good = fold-Filter Bool good_step

  good-And : (parts : List Filter) → list_all is_good parts ≡ true → is_good (And parts) ≡ true
  good-And parts h = ap is_good (sym (rolls-And parts)) ∙ fold-roll-Filter Bool good_step _ ∙ list_all-map itself is_good parts ∙ h

  good-Or : (parts : List Filter) → list_all is_good parts ≡ true → is_good (Or parts) ≡ true
  good-Or parts h = ap is_good (sym (rolls-Or parts)) ∙ fold-roll-Filter Bool good_step _ ∙ list_all-map itself is_good parts ∙ h

  good-Not : (part : Filter) → is_good part ≡ true → is_good (Not part) ≡ true
  good-Not part h = ap is_good (sym (rolls-Not part)) ∙ fold-roll-Filter Bool good_step _ ∙ h

  good-Cmp : (column : ℕ) (op : Op) (operand : Operand) → nat_lt column n ≡ true → is_own operand ≡ true → is_good (Cmp column op operand) ≡ true
  good-Cmp column op operand h k = ap is_good (sym (rolls-Cmp column op operand)) ∙ fold-roll-Filter Bool good_step _ ∙ and_from (nat_lt column n) (is_own operand) h k

  good-Among : (column : ℕ) (negated : Bool) (xs : Items) → nat_lt column n ≡ true → are_constant xs ≡ true → is_good (Among column negated xs) ≡ true
  good-Among column negated xs h k = ap is_good (sym (rolls-Among column negated xs)) ∙ fold-roll-Filter Bool good_step _ ∙ and_from (nat_lt column n) (are_constant xs) h k

  good-IsNull : (column : ℕ) (want : Operand) → nat_lt column n ≡ true → is_wanted want ≡ true → is_good (IsNull column want) ≡ true
  good-IsNull column want h k = ap is_good (sym (rolls-IsNull column want)) ∙ fold-roll-Filter Bool good_step _ ∙ and_from (nat_lt column n) (is_wanted want) h k

-- ---- what options hold

never : {A : Type 0} (x : A) → ◌≡◌ {A = Option A} None (Some x) → ⊥
never x h = cc

the_same : {A : Type 0} (x y : A) → ◌≡◌ {A = Option A} (Some x) (Some y) → x ≡ y
the_same x y h = cc

-- what holds of all that f makes holds of what it makes of o
made_of : {A B : Type 0} (f : A → B) (P : B → Type 0) (o : Option A) (y : B) → option_map f o ≡ Some y → ((x : A) → o ≡ Some x → P (f x)) → P y
made_of f P None y h s = absurd (never y h)
made_of f P (Some x) y h s = subst P (the_same (f x) y h) (s x refl)

chained : {A B : Type 0} (f : A → Option B) (P : B → Type 0) (o : Option A) (y : B) → option_and_then f o ≡ Some y → ((x : A) → o ≡ Some x → f x ≡ Some y → P y) → P y
chained f P None y h s = absurd (never y h)
chained f P (Some x) y h s = s x refl h

firsts_of : {A : Type 0} (p : A → Bool) (first : Option A) (others : Option (List A)) (ys : List A) → with_first first others ≡ Some ys →
    ((x : A) → first ≡ Some x → p x ≡ true) → ((xs : List A) → others ≡ Some xs → list_all p xs ≡ true) → list_all p ys ≡ true
firsts_of p None others ys h a b = absurd (never ys h)
firsts_of p (Some x) None ys h a b = absurd (never ys h)
firsts_of p (Some x) (Some xs) ys h a b = ap (list_all p) (sym (the_same (x ∷ xs) ys h)) ∙ and_from (p x) (list_all p xs) (a x refl) (b xs refl)

-- ---- conditions on columns

module _ (kind : Kind) where
  constant_good : (p : Operand → Bool) → ((x : Val) → p (Const x) ≡ true) → (d : json.Data) (o : Operand) → constant kind d ≡ Some o → p o ≡ true
  constant_good p c d o h = made_of Const (λ z. p z ≡ true) (option_and_then (fitted kind) (scalar_of d)) o h (λ x e. c x)

  item_good : (d : json.Data) (o : Operand) → item_of kind d ≡ Some o → is_constant o ≡ true
  unfolding item_of
  item_good d o h = go (is_some (session_variable d)) h
    where
      go : (b : Bool) → (if b then None else constant kind d) ≡ Some o → is_constant o ≡ true
      go true k = absurd (never o k)
      go false k = constant_good is_constant (λ x. refl) d o k

  each_good : (ds : json.Items) (xs : List Operand) → of_each (item_of kind) ds ≡ Some xs → list_all is_constant xs ≡ true
  each_good json.no_items xs h = ap (list_all is_constant) (sym (the_same [] xs h))
  each_good (json.item d ds) xs h = firsts_of is_constant (item_of kind d) (of_each (item_of kind) ds) xs h (item_good d) (each_good ds)

  items_good : (d : json.Data) (xs : List Operand) → items_of kind d ≡ Some xs → list_all is_constant xs ≡ true
  items_good (json.array ds) xs h = each_good ds xs h
  items_good json.null xs h = absurd (never xs h)
  items_good (json.boolean b) xs h = absurd (never xs h)
  items_good (json.number n) xs h = absurd (never xs h)
  items_good (json.string s) xs h = absurd (never xs h)
  items_good (json.object ms) xs h = absurd (never xs h)

  operand_good : (names : List Text) (d : json.Data) (o : Operand) → operand_of names kind d ≡ Some o → is_own o ≡ true
  operand_good names d o h = go (session_variable d) h
    where
      go : (t : Option Text) → operand_by names kind d t ≡ Some o → is_own o ≡ true
      go (Some name) k = ap is_own (sym (the_same _ o k))
      go None k = constant_good is_own (λ x. refl) d o k

  module _ (n column : ℕ) (names : List Text) (within : nat_lt column n ≡ true) where
    operator_good : (name : Text) (d : json.Data) (f : Filter) → operator_of names column kind name d ≡ Some f → is_good n f ≡ true
    unfolding operator_of
    operator_good name d f h = go (bytes_eq name (codes "_in")) (bytes_eq name (codes "_nin")) (bytes_eq name (codes "_is_null")) h
      where
        go : (a b c : Bool) →
            (if a then option_map (λ xs. Among column false (items.Each xs)) (items_of kind d) else if b then option_map (λ xs. Among column true (items.Each xs)) (items_of kind d)
            else if c then option_map (λ b. IsNull column (Const (val.Bool b))) (as_bool d) else option_and_then (λ op. option_map (Cmp column op) (operand_of names kind d)) (op_named name)) ≡ Some f → is_good n f ≡ true
        go true b c k = made_of (λ xs. Among column false (items.Each xs)) (λ z. is_good n z ≡ true) (items_of kind d) f k (λ xs e. good-Among n column false (items.Each xs) within (items_good d xs e))
        go false true c k = made_of (λ xs. Among column true (items.Each xs)) (λ z. is_good n z ≡ true) (items_of kind d) f k (λ xs e. good-Among n column true (items.Each xs) within (items_good d xs e))
        go false false true k = made_of (λ b. IsNull column (Const (val.Bool b))) (λ z. is_good n z ≡ true) (as_bool d) f k (λ b e. good-IsNull n column (Const (val.Bool b)) within refl)
        go false false false k =
            chained (λ op. option_map (Cmp column op) (operand_of names kind d)) (λ z. is_good n z ≡ true) (op_named name) f k
            (λ op e g. made_of (Cmp column op) (λ z. is_good n z ≡ true) (operand_of names kind d) f g (λ o i. good-Cmp n column op o within (operand_good names d o i)))

    members_good : (ms : json.Members) (fs : List Filter) → of_each_member (operator_of names column kind) ms ≡ Some fs → list_all (is_good n) fs ≡ true
    members_good json.no_members fs h = ap (list_all (is_good n)) (sym (the_same [] fs h))
    members_good (json.member k d ms) fs h = firsts_of (is_good n) (operator_of names column kind k d) (of_each_member (operator_of names column kind) ms) fs h (operator_good k d) (members_good ms)

    operators_good : (d : json.Data) (f : Filter) → operators_of names column kind d ≡ Some f → is_good n f ≡ true
    operators_good (json.object ms) f h = made_of And (λ z. is_good n z ≡ true) (of_each_member (operator_of names column kind) ms) f h (λ fs e. good-And n fs (members_good ms fs e))
    operators_good json.null f h = absurd (never f h)
    operators_good (json.boolean b) f h = absurd (never f h)
    operators_good (json.number z) f h = absurd (never f h)
    operators_good (json.string s) f h = absurd (never f h)
    operators_good (json.array ds) f h = absurd (never f h)

-- ---- filters

module _ (columns : List Column) (names : List Text) where
  abbrev size : ℕ
  size = length columns

  column_good : (name : Text) (d : json.Data) (f : Filter) → column_condition columns names name d ≡ Some f → is_good size f ≡ true
  unfolding column_condition
  column_good name d f h =
      chained (λ number. condition_on names d number (slice_get columns number)) (λ z. is_good size z ≡ true) (column_number columns name) f h
      (λ number e k. go number (placed_at (λ (c : Column). bytes_eq name c.name) columns number e).within (slice_get columns number) k)
    where
      go : (number : ℕ) → nat_lt number size ≡ true → (o : Option Column) → condition_on names d number o ≡ Some f → is_good size f ≡ true
      go number within None k = absurd (never f k)
      go number within (Some c) k = operators_good c.kind size number names within d f k

  pair_good : (k : Text) (one : Option Filter) (many : Option (List Filter)) (other : Option Filter) (f : Filter) → pair_of k one many other ≡ Some f →
      ((g : Filter) → one ≡ Some g → is_good size g ≡ true) → ((gs : List Filter) → many ≡ Some gs → list_all (is_good size) gs ≡ true) → ((g : Filter) → other ≡ Some g → is_good size g ≡ true) → is_good size f ≡ true
  unfolding pair_of
  pair_good k one many other f h a b c = go (bytes_eq k (codes "_and")) (bytes_eq k (codes "_or")) (bytes_eq k (codes "_not")) h
    where
      go : (x y z : Bool) → (if x then option_map And many else if y then option_map Or many else if z then option_map Not one else other) ≡ Some f → is_good size f ≡ true
      go true y z e = made_of And (λ g. is_good size g ≡ true) many f e (λ gs i. good-And size gs (b gs i))
      go false true z e = made_of Or (λ g. is_good size g ≡ true) many f e (λ gs i. good-Or size gs (b gs i))
      go false false true e = made_of Not (λ g. is_good size g ≡ true) one f e (λ g i. good-Not size g (a g i))
      go false false false e = c f e

  mutual
    pub filter_good : (d : json.Data) (f : Filter) → filter_of columns names d ≡ Some f → is_good size f ≡ true
    filter_good (json.object ms) f h = made_of And (λ z. is_good size z ≡ true) (pairs_of columns names ms) f h (λ fs e. good-And size fs (pairs_good ms fs e))
    filter_good json.null f h = absurd (never f h)
    filter_good (json.boolean b) f h = absurd (never f h)
    filter_good (json.number z) f h = absurd (never f h)
    filter_good (json.string s) f h = absurd (never f h)
    filter_good (json.array ds) f h = absurd (never f h)

    filters_good : (d : json.Data) (fs : List Filter) → filters_of columns names d ≡ Some fs → list_all (is_good size) fs ≡ true
    filters_good (json.array ds) fs h = filter_items_good ds fs h
    filters_good json.null f h = absurd (never f h)
    filters_good (json.boolean b) f h = absurd (never f h)
    filters_good (json.number z) f h = absurd (never f h)
    filters_good (json.string s) f h = absurd (never f h)
    filters_good (json.object ms) f h = absurd (never f h)

    filter_items_good : (ds : json.Items) (fs : List Filter) → filters_of_items columns names ds ≡ Some fs → list_all (is_good size) fs ≡ true
    filter_items_good json.no_items fs h = ap (list_all (is_good size)) (sym (the_same [] fs h))
    filter_items_good (json.item d ds) fs h = firsts_of (is_good size) (filter_of columns names d) (filters_of_items columns names ds) fs h (filter_good d) (filter_items_good ds)

    pairs_good : (ms : json.Members) (fs : List Filter) → pairs_of columns names ms ≡ Some fs → list_all (is_good size) fs ≡ true
    pairs_good json.no_members fs h = ap (list_all (is_good size)) (sym (the_same [] fs h))
    pairs_good (json.member k d ms) fs h =
        firsts_of (is_good size) (pair_of k (filter_of columns names d) (filters_of columns names d) (column_condition columns names k d)) (pairs_of columns names ms) fs h
        (λ g e. pair_good k (filter_of columns names d) (filters_of columns names d) (column_condition columns names k d) g e (filter_good d) (filters_good d) (column_good k d)) (pairs_good ms)
