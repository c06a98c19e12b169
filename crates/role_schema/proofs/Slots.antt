-- A filter that is read fits the rows of its table, where each session variable that it names has a slot.
use Rattle.std.proofs.Common.{◌≡◌, ℕ, ◌<◌, ◌≤◌, suc, Bool, true, false, ◌&&◌, ◌||◌, Option, Some, None, List, [], ◌∷◌, length, map, nat_lt, is_none, is_some, unwrap_or, option_map, option_and_then, if◌then◌else◌, refl, subst, sym, ap, ◌∙◌, position, find, codes, arith}
use Rattle.std.specs.List.{list_any, list_all, AllByRecursion, slice_get}
use Rattle.std.specs.Str.{bytes_eq, str_to_ascii_lowercase}
use Rattle.std.proofs.lemmas.Bool.Decides.{nat_tests}
use Rattle.std.proofs.lemmas.Option.{slice_get_within}
use Rattle.serde_json.specs.Data as json
use Rattle.serde_json.specs.Find.{as_bool}
use Rattle.scalar_val.specs.declared.val.Kind.{Kind}
use Rattle.scalar_val.specs.declared.val.Val.{Val}
use Rattle.scalar_val.specs.declared.val.Val.TheVariants as val
use Rattle.scalar_val.specs.Spellings.{fitted}
use Rattle.data_model.proofs.Lists.{out_parts}
use Rattle.data_model.specs.declared.catalog.Column.{Column}
use Rattle.name_set.proofs.Positions.{placed, position_here, position_past}
use Rattle.plan_model.specs.declared.filter.Binding.{Binding}
use Rattle.plan_model.specs.declared.filter.Filter.{Filter}
use Rattle.plan_model.specs.declared.filter.Filter.TheVariants as filter
use Rattle.plan_model.specs.declared.filter.Filter.TheVariants.{rolls-And, rolls-Or, rolls-Not, rolls-Cmp, rolls-Among, rolls-IsNull}
use Rattle.plan_model.specs.declared.filter.Filter.TheFolds.{fold-roll-Filter}
use Rattle.plan_model.specs.declared.filter.Items.{Items}
use Rattle.plan_model.specs.declared.filter.Items.TheVariants.{Each}
use Rattle.plan_model.specs.declared.filter.Op.{Op}
use Rattle.plan_model.specs.declared.filter.Operand.{Operand}
use Rattle.plan_model.specs.declared.filter.Operand.TheVariants.{Const}
use Rattle.data_model.specs.JsonParts.{scalar_of}
use Rattle.role_model.specs.JsonFilters.{with_first, of_each, of_each_member, names_session, session_variable, mentions, mentions_of_items, mentions_of_members, slot_of, operand_by, operand_of, item_of, items_of, op_named, operator_of, operators_of, column_number, condition_on, column_condition, pair_of, filter_of, filters_of, filters_of_items, pairs_of}
use Rattle.role_model.specs.Texts.{Text}
use Rattle.plan_model.specs.FilterFits.{fits, fits_step, itself, operand_fits, items_fit}
use Rattle.plan_model.specs.Values.{operand_value, is_bool}

-- each of these is among the names
abbrev pub Known : List Text → List Text → Type 0
Known names xs = AllByRecursion (λ x. list_any (bytes_eq x) names ≡ true) xs

-- the fit of each form

fits-And : (n : ℕ) (b : Binding) (parts : List Filter) → fits n b (filter.And parts) ≡ list_all itself (map (fits n b) parts)
fits-And n b parts = ap (fits n b) (sym (rolls-And parts)) ∙ fold-roll-Filter Bool (fits_step n b) _

fits-Or : (n : ℕ) (b : Binding) (parts : List Filter) → fits n b (filter.Or parts) ≡ list_all itself (map (fits n b) parts)
fits-Or n b parts = ap (fits n b) (sym (rolls-Or parts)) ∙ fold-roll-Filter Bool (fits_step n b) _

fits-Not : (n : ℕ) (b : Binding) (part : Filter) → fits n b (filter.Not part) ≡ fits n b part
fits-Not n b part = ap (fits n b) (sym (rolls-Not part)) ∙ fold-roll-Filter Bool (fits_step n b) _

fits-Cmp : (n : ℕ) (b : Binding) (column : ℕ) (op : Op) (operand : Operand) → fits n b (filter.Cmp column op operand) ≡ (nat_lt column n && operand_fits b operand)
fits-Cmp n b column op operand = ap (fits n b) (sym (rolls-Cmp column op operand)) ∙ fold-roll-Filter Bool (fits_step n b) _

fits-Among : (n : ℕ) (b : Binding) (column : ℕ) (negated : Bool) (items : Items) → fits n b (filter.Among column negated items) ≡ (nat_lt column n && items_fit b items)
fits-Among n b column negated items = ap (fits n b) (sym (rolls-Among column negated items)) ∙ fold-roll-Filter Bool (fits_step n b) _

fits-IsNull : (n : ℕ) (b : Binding) (column : ℕ) (want : Operand) → fits n b (filter.IsNull column want) ≡ (nat_lt column n && (operand_fits b want && is_bool (operand_value b want)))
fits-IsNull n b column want = ap (fits n b) (sym (rolls-IsNull column want)) ∙ fold-roll-Filter Bool (fits_step n b) _

both_hold : (a b : Bool) → a ≡ true → b ≡ true → (a && b) ≡ true
both_hold a b h k = rw (h, k) refl

-- slots

below : (n m : ℕ) → n < m → nat_lt n m ≡ true
below n m h = grind (arith, nat_tests)

-- where one passes, its place, found from the front
pub record First {X : Type 0} (p : X → Bool) (xs : List X) : Type 0 where
  pub place : ℕ
  pub item : X
  pub placed : position p xs ≡ Some place
  pub found : find p xs ≡ Some item
  pub stands : slice_get xs place ≡ Some item
  pub passes : p item ≡ true
  pub within : place < length xs

more_within : (place n : ℕ) → place < n → suc place < suc n
more_within place n h = omega arith

first_by : {X : Type 0} (p : X → Bool) (x : X) (xs : List X) → (b : Bool) → p x ≡ b → (list_any p xs ≡ true → First p xs) → (b || list_any p xs) ≡ true → First p (x ∷ xs)
first_by p x xs true here rest h = record { place = 0; item = x; placed = position_here p x xs here; found = rw here refl; stands = refl; passes = here; within = omega arith }
first_by p x xs false here rest h =
    let r = rest h in
    record { place = suc r.place; item = r.item; placed = position_past p x xs here ∙ ap (option_map suc) r.placed; found = rw here r.found; stands = r.stands; passes = r.passes; within = more_within r.place (length xs) r.within }

pub first : {X : Type 0} (p : X → Bool) (xs : List X) → list_any p xs ≡ true → First p xs
first p [] h = cc
first p (x ∷ xs) h = first_by p x xs (p x) refl (first p xs) h

is_there : (o : Option ℕ) → is_none o ≡ false → is_some o ≡ true
is_there (Some n) h = refl
is_there None h = cc

pub first_placed : {X : Type 0} (p : X → Bool) (xs : List X) → is_none (position p xs) ≡ false → First p xs
first_placed p xs h = first p xs (sym (placed p xs) ∙ is_there (position p xs) h)

slot_within : (names : List Text) (name : Text) → list_any (bytes_eq name) names ≡ true → slot_of names name < length names
slot_within names name h = let f = first (bytes_eq name) names h in rw f.placed f.within

module _ (columns : List Column) (names : List Text) (b : Binding) (enough : length names ≤ length b.session) where
  -- nothing is asked of what isn't there

  abbrev OperandFits : Option Operand → Type 0
  OperandFits (Some o) = operand_fits b o ≡ true
  OperandFits None = Unit {0}

  abbrev OperandsFit : Option (List Operand) → Type 0
  OperandsFit (Some os) = list_all (operand_fits b) os ≡ true
  OperandsFit None = Unit {0}

  abbrev Fits : Option Filter → Type 0
  Fits (Some f) = fits (length columns) b f ≡ true
  Fits None = Unit {0}

  abbrev AllFit : Option (List Filter) → Type 0
  AllFit (Some fs) = list_all itself (map (fits (length columns) b) fs) ≡ true
  AllFit None = Unit {0}

  -- operands

  constant_fits : (o : Option Val) → OperandFits (option_map Const o)
  constant_fits (Some v) = refl
  constant_fits None = tt

  item_by : (t : Bool) (o : Option Val) → OperandFits (if t then None else option_map Const o)
  item_by true o = tt
  item_by false o = constant_fits o

  item_fits : (kind : Kind) (d : json.Data) → OperandFits (item_of kind d)
  unfolding item_of
  item_fits kind d = item_by (is_some (session_variable d)) (option_and_then (fitted kind) (scalar_of d))

  one_more_operand : (o : Option Operand) (os : Option (List Operand)) → OperandFits o → OperandsFit os → OperandsFit (with_first o os)
  one_more_operand (Some o) (Some os) h k = both_hold (operand_fits b o) (list_all (operand_fits b) os) h k
  one_more_operand (Some o) None h k = tt
  one_more_operand None os h k = tt

  items_each : (kind : Kind) (ds : json.Items) → OperandsFit (of_each (item_of kind) ds)
  items_each kind json.no_items = refl
  items_each kind (json.item d ds) = one_more_operand (item_of kind d) (of_each (item_of kind) ds) (item_fits kind d) (items_each kind ds)

  items_of_fit : (kind : Kind) (d : json.Data) → OperandsFit (items_of kind d)
  items_of_fit kind json.null = tt
  items_of_fit kind (json.boolean t) = tt
  items_of_fit kind (json.number n) = tt
  items_of_fit kind (json.string s) = tt
  items_of_fit kind (json.array ds) = items_each kind ds
  items_of_fit kind (json.object ms) = tt

  slot_fits : (t : Bool) (kind : Kind) (d : json.Data) (name : Text) → Known names (if t then name ∷ [] else []) → OperandFits (operand_by names kind d (if t then Some name else None))
  slot_fits true kind d name h = let within = slot_within names name h.0 in below (slot_of names name) (length b.session) (omega arith)
  slot_fits false kind d name h = constant_fits (option_and_then (fitted kind) (scalar_of d))

  operand_of_fits : (kind : Kind) (d : json.Data) → Known names (mentions d) → OperandFits (operand_of names kind d)
  operand_of_fits kind json.null h = tt
  operand_of_fits kind (json.boolean t) h = constant_fits (option_and_then (fitted kind) (scalar_of (json.boolean t)))
  operand_of_fits kind (json.number n) h = constant_fits (option_and_then (fitted kind) (scalar_of (json.number n)))
  operand_of_fits kind (json.string s) h = slot_fits (names_session s) kind (json.string s) (str_to_ascii_lowercase s) h
  operand_of_fits kind (json.array ds) h = tt
  operand_of_fits kind (json.object ms) h = tt

  -- operators on one column

  among_fits : (column : ℕ) (negated : Bool) (os : Option (List Operand)) → nat_lt column (length columns) ≡ true → OperandsFit os → Fits (option_map (λ xs. filter.Among column negated (Each xs)) os)
  among_fits column negated (Some os) h k = fits-Among (length columns) b column negated (Each os) ∙ both_hold (nat_lt column (length columns)) (list_all (operand_fits b) os) h k
  among_fits column negated None h k = tt

  null_fits : (column : ℕ) (o : Option Bool) → nat_lt column (length columns) ≡ true → Fits (option_map (λ t. filter.IsNull column (Const (val.Bool t))) o)
  null_fits column (Some t) h = fits-IsNull (length columns) b column (Const (val.Bool t)) ∙ both_hold (nat_lt column (length columns)) true h refl
  null_fits column None h = tt

  compare_fits : (column : ℕ) (op : Op) (o : Option Operand) → nat_lt column (length columns) ≡ true → OperandFits o → Fits (option_map (filter.Cmp column op) o)
  compare_fits column op (Some o) h k = fits-Cmp (length columns) b column op o ∙ both_hold (nat_lt column (length columns)) (operand_fits b o) h k
  compare_fits column op None h k = tt

  comparison_fits : (column : ℕ) (op : Option Op) (o : Option Operand) → nat_lt column (length columns) ≡ true → OperandFits o → Fits (option_and_then (λ op. option_map (filter.Cmp column op) o) op)
  comparison_fits column (Some op) o h k = compare_fits column op o h k
  comparison_fits column None o h k = tt

  choose : (t : Bool) (x y : Option Filter) → Fits x → Fits y → Fits (if t then x else y)
  choose true x y h k = h
  choose false x y h k = k

  operator_fits : (column : ℕ) (kind : Kind) (name : Text) (d : json.Data) → nat_lt column (length columns) ≡ true → Known names (mentions d) → Fits (operator_of names column kind name d)
  unfolding operator_of
  operator_fits column kind name d h k =
      choose (bytes_eq name (codes "_in")) _ _ (among_fits column false (items_of kind d) h (items_of_fit kind d))
      (choose (bytes_eq name (codes "_nin")) _ _ (among_fits column true (items_of kind d) h (items_of_fit kind d))
      (choose (bytes_eq name (codes "_is_null")) _ _ (null_fits column (as_bool d) h)
      (comparison_fits column (op_named name) (operand_of names kind d) h (operand_of_fits kind d k))))

  one_more : (o : Option Filter) (os : Option (List Filter)) → Fits o → AllFit os → AllFit (with_first o os)
  one_more (Some f) (Some fs) h k = both_hold (fits (length columns) b f) (list_all itself (map (fits (length columns) b) fs)) h k
  one_more (Some f) None h k = tt
  one_more None os h k = tt

  and_fits : (o : Option (List Filter)) → AllFit o → Fits (option_map filter.And o)
  and_fits (Some fs) h = fits-And (length columns) b fs ∙ h
  and_fits None h = tt

  or_fits : (o : Option (List Filter)) → AllFit o → Fits (option_map filter.Or o)
  or_fits (Some fs) h = fits-Or (length columns) b fs ∙ h
  or_fits None h = tt

  not_fits : (o : Option Filter) → Fits o → Fits (option_map filter.Not o)
  not_fits (Some f) h = fits-Not (length columns) b f ∙ h
  not_fits None h = tt

  operators_each : (column : ℕ) (kind : Kind) (ms : json.Members) → nat_lt column (length columns) ≡ true → Known names (mentions_of_members ms) → AllFit (of_each_member (operator_of names column kind) ms)
  operators_each column kind json.no_members h k = refl
  operators_each column kind (json.member name d ms) h k =
      let parts = out_parts (λ x. list_any (bytes_eq x) names ≡ true) (mentions d) (mentions_of_members ms) k in
      one_more (operator_of names column kind name d) (of_each_member (operator_of names column kind) ms) (operator_fits column kind name d h parts.0) (operators_each column kind ms h parts.1)

  operators_fit : (column : ℕ) (kind : Kind) (d : json.Data) → nat_lt column (length columns) ≡ true → Known names (mentions d) → Fits (operators_of names column kind d)
  operators_fit column kind json.null h k = tt
  operators_fit column kind (json.boolean t) h k = tt
  operators_fit column kind (json.number n) h k = tt
  operators_fit column kind (json.string s) h k = tt
  operators_fit column kind (json.array ds) h k = tt
  operators_fit column kind (json.object ms) h k = and_fits (of_each_member (operator_of names column kind) ms) (operators_each column kind ms h k)

  condition_at : (d : json.Data) (number : ℕ) (o : Option Column) → slice_get columns number ≡ o → Known names (mentions d) → Fits (condition_on names d number o)
  condition_at d number (Some column) e k = operators_fit number column.kind d (below number (length columns) (slice_get_within columns number column e)) k
  condition_at d number None e k = tt

  condition_by : (d : json.Data) (o : Option ℕ) → Known names (mentions d) → Fits (option_and_then (λ number. condition_on names d number (slice_get columns number)) o)
  condition_by d (Some number) k = condition_at d number (slice_get columns number) refl k
  condition_by d None k = tt

  condition_fits : (name : Text) (d : json.Data) → Known names (mentions d) → Fits (column_condition columns names name d)
  unfolding column_condition
  condition_fits name d k = condition_by d (column_number columns name) k

  -- filters

  pair_fits : (name : Text) (one : Option Filter) (many : Option (List Filter)) (other : Option Filter) → Fits one → AllFit many → Fits other → Fits (pair_of name one many other)
  unfolding pair_of
  pair_fits name one many other h k l =
      choose (bytes_eq name (codes "_and")) _ _ (and_fits many k)
      (choose (bytes_eq name (codes "_or")) _ _ (or_fits many k)
      (choose (bytes_eq name (codes "_not")) _ _ (not_fits one h) l))

  mutual
    filter_fits : (d : json.Data) → Known names (mentions d) → Fits (filter_of columns names d)
    filter_fits json.null k = tt
    filter_fits (json.boolean t) k = tt
    filter_fits (json.number n) k = tt
    filter_fits (json.string s) k = tt
    filter_fits (json.array ds) k = tt
    filter_fits (json.object ms) k = and_fits (pairs_of columns names ms) (pairs_fit ms k)

    filters_fit : (d : json.Data) → Known names (mentions d) → AllFit (filters_of columns names d)
    filters_fit json.null k = tt
    filters_fit (json.boolean t) k = tt
    filters_fit (json.number n) k = tt
    filters_fit (json.string s) k = tt
    filters_fit (json.array ds) k = filters_each ds k
    filters_fit (json.object ms) k = tt

    filters_each : (ds : json.Items) → Known names (mentions_of_items ds) → AllFit (filters_of_items columns names ds)
    filters_each json.no_items k = refl
    filters_each (json.item d ds) k =
        let parts = out_parts (λ x. list_any (bytes_eq x) names ≡ true) (mentions d) (mentions_of_items ds) k in
        one_more (filter_of columns names d) (filters_of_items columns names ds) (filter_fits d parts.0) (filters_each ds parts.1)

    pairs_fit : (ms : json.Members) → Known names (mentions_of_members ms) → AllFit (pairs_of columns names ms)
    pairs_fit json.no_members k = refl
    pairs_fit (json.member name d ms) k =
        let parts = out_parts (λ x. list_any (bytes_eq x) names ≡ true) (mentions d) (mentions_of_members ms) k in
        one_more (pair_of name (filter_of columns names d) (filters_of columns names d) (column_condition columns names name d)) (pairs_of columns names ms)
        (pair_fits name (filter_of columns names d) (filters_of columns names d) (column_condition columns names name d) (filter_fits d parts.0) (filters_fit d parts.0) (condition_fits name d parts.0)) (pairs_fit ms parts.1)

  fits_from : (o : Option Filter) (f : Filter) → Fits o → o ≡ Some f → fits (length columns) b f ≡ true
  fits_from (Some g) f h e = subst (λ (g : Filter). fits (length columns) b g ≡ true) (ap (λ o. unwrap_or o g) e) h
  fits_from None f h e = cc

  pub read_fits : (d : json.Data) (f : Filter) → Known names (mentions d) → filter_of columns names d ≡ Some f → fits (length columns) b f ≡ true
  read_fits d f k e = fits_from (filter_of columns names d) f (filter_fits d k) e
