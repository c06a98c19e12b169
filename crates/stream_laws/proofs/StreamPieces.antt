-- What a stream sends piece by piece is what it sends as a whole.
use Rattle.std.proofs.Common.{◌≡◌, ℕ, Bool, true, false, not, ◌&&◌, cond, List, [], ◌∷◌, ◌++◌, take, drop, filter, Option, Some, None, refl, ap, ap₂, sym, ◌∙◌, subst, take-append-drop, append_assoc, ◌⊎◌}
use Rattle.std.specs.declared.cmp.Ordering.{Ordering}
use Rattle.std.specs.List.{AllByRecursion}
use Rattle.scalar_val.specs.declared.val.Val.{Val}
use Rattle.scalar_val.specs.Values.{cell}
use Rattle.data_model.specs.Rows.{Row, Rows, Pairwise}
use Rattle.scalar_val.specs.Ordered.{ordered}
use Rattle.plan_model.specs.Taken.{rows_cmp, along, is_beyond, at_most}
use Rattle.plan_model.specs.Outcomes.{last_row}
use Rattle.stream_laws.proofs.SortedRows.{le, all_filter, all_weaker, keeps_none, same_filter, each_of, parts_of, all_ordered, ordered_up, filter_ordered, ordered_strict}
use Rattle.stream_laws.proofs.StreamOrder.{is_told, further, never_itself, one_way, not_below, value_chain, value_turn, value_below, value_above}

twice : {Y : Type 0} (p q : Y → Bool) (ys : List Y) → filter q (filter p ys) ≡ filter (λ y. p y && q y) ys
twice p q [] = refl
twice p q (y ∷ ys) = go (p y) (twice p q ys)
  where
    go : (b : Bool) → filter q (filter p ys) ≡ filter (λ z. p z && q z) ys → filter q (cond b (y ∷ filter p ys) (filter p ys)) ≡ cond (b && q y) (y ∷ filter (λ z. p z && q z) ys) (filter (λ z. p z && q z) ys)
    go true e = ap (λ zs. cond (q y) (y ∷ zs) zs) e
    go false e = e

pub passing : {Y : Type 0} (p : Y → Bool) (ys : List Y) → AllByRecursion (λ y. p y ≡ true) (filter p ys)
passing p [] = tt
passing p (y ∷ ys) = go (p y) refl (passing p ys)
  where
    go : (b : Bool) → p y ≡ b → AllByRecursion (λ z. p z ≡ true) (filter p ys) → AllByRecursion (λ z. p z ≡ true) (cond b (y ∷ filter p ys) (filter p ys))
    go true e more = (e, more)
    go false e more = more

pub second : (a b : Bool) → (a && b) ≡ true → b ≡ true
second true b h = h
second false b h = absurd (let k : false ≡ true = h in cc)

low_part : (p a b c : Bool) → (b ≡ true → a ≡ true) → (c ≡ true → b ≡ true) → ((p && (a && not c)) && not b) ≡ (p && (a && not b))
low_part false a b c f g = refl
low_part true false b c f g = refl
low_part true true b false f g = refl
low_part true true true true f g = refl
low_part true true false true f g = absurd (let k = g refl in cc)

high_part : (p a b c : Bool) → (b ≡ true → a ≡ true) → (c ≡ true → b ≡ true) → ((p && (a && not c)) && b) ≡ (p && (b && not c))
high_part false a b c f g = refl
high_part true false false c f g = refl
high_part true false true c f g = absurd (let k = f refl in cc)
high_part true true true true f g = refl
high_part true true true false f g = refl
high_part true true false true f g = refl
high_part true true false false f g = refl

three : (a b c : Bool) → ((a && b) && c) ≡ (a && (b && c))
three true b c = refl
three false b c = refl

pub nowhere : (p a : Bool) → (p && (a && not a)) ≡ false
nowhere false a = refl
nowhere true true = refl
nowhere true false = refl

last_of : (P : Row → Type 0) (r : Row) (rs rest : Rows) → AllByRecursion P ((r ∷ rs) ++ rest) → P (last_row (r ∷ rs))
last_of P r [] rest h = h.0
last_of P r (s ∷ rs) rest h = last_of P s rs rest h.1

pub prefix_of : (cap : Option ℕ) (n : ℕ) (ys : Rows) → (rest : Rows) × (at_most cap (take n ys) ++ rest ≡ ys)
prefix_of None n ys = (drop n ys, take-append-drop n ys)
prefix_of (Some m) n ys =
    (drop m (take n ys) ++ drop n ys, sym (append_assoc (take m (take n ys)) (drop m (take n ys)) (drop n ys)) ∙ ap (λ zs. zs ++ drop n ys) (take-append-drop m (take n ys)) ∙ take-append-drop n ys)

module _ (column : ℕ) (descending : Bool) where
  abbrev pub by_column : Row → Row → Ordering
  by_column = rows_cmp (along column descending)

  abbrev pub goes : Val → Row → Bool
  goes c r = is_beyond descending c (cell r column)

  abbrev lt : Row → Row → Bool
  lt x y = is_beyond descending (cell x column) (cell y column)

  abbrev pub Apart : Row → Row → Type 0
  Apart x y = (lt x y ≡ true) ⊎ (lt y x ≡ true)

  abbrev pub between : (Row → Bool) → Val → Val → Row → Bool
  between p a b r = p r && (goes a r && not (goes b r))

  abbrev pub after : Val → Rows → Val
  after c [] = c
  after c (r ∷ rs) = cell (last_row (r ∷ rs)) column

  chain : (x y z : Row) → le by_column x y ≡ true → le by_column y z ≡ true → le by_column x z ≡ true
  chain x y z = value_chain descending (cell x column) (cell y column) (cell z column)

  turn : (x y : Row) → le by_column x y ≡ false → le by_column y x ≡ true
  turn x y = value_turn descending (cell x column) (cell y column)

  onward : (a b : Val) (ys : Rows) → AllByRecursion (λ r. goes a r ≡ true) ys → Pairwise (λ x y. le by_column x y ≡ true) ys → Pairwise (λ x y. goes b x ≡ true → goes b y ≡ true) ys
  onward a b [] h k = tt
  onward a b (y ∷ ys) h k = (each ys h.1 k.0, onward a b ys h.1 k.1)
    where
      each : (zs : Rows) → AllByRecursion (λ r. goes a r ≡ true) zs → AllByRecursion (λ z. le by_column y z ≡ true) zs → AllByRecursion (λ z. goes b y ≡ true → goes b z ≡ true) zs
      each [] h k = tt
      each (z ∷ zs) h k = (λ g. not_below descending b (cell y column) (cell z column) g k.0 (is_told descending a (cell z column) h.0).there, each zs h.1 k.1)

  -- two pieces one after the other
  pub joined : (p : Row → Bool) (a b c : Val) → ((v : Val) → is_beyond descending b v ≡ true → is_beyond descending a v ≡ true) → ((v : Val) → is_beyond descending c v ≡ true → is_beyond descending b v ≡ true) →
      (rows : Rows) → ordered by_column (filter (between p a b) rows) ++ ordered by_column (filter (between p b c) rows) ≡ ordered by_column (filter (between p a c) rows)
  joined p a b c f g rows =
      let whole = filter (between p a c) rows in
      let sorted = ordered by_column whole in
      let far : AllByRecursion (λ r. goes a r ≡ true) sorted =
      all_ordered by_column (λ r. goes a r ≡ true) whole (all_weaker (λ r. between p a c r ≡ true) (λ r. goes a r ≡ true) (λ r h. first (goes a r) (not (goes c r)) (second (p r) _ h)) whole (passing (between p a c) rows)) in
      let low : filter (λ r. not (goes b r)) sorted ≡ ordered by_column (filter (between p a b) rows) =
      filter_ordered by_column chain turn (λ r. not (goes b r)) whole
      ∙ ap (ordered by_column) (twice (between p a c) (λ r. not (goes b r)) rows ∙ same_filter _ (between p a b) rows (each_of _ (λ r. low_part (p r) (goes a r) (goes b r) (goes c r) (f (cell r column)) (g (cell r column))) rows)) in
      let high : filter (goes b) sorted ≡ ordered by_column (filter (between p b c) rows) =
      filter_ordered by_column chain turn (goes b) whole
      ∙ ap (ordered by_column) (twice (between p a c) (goes b) rows ∙ same_filter _ (between p b c) rows (each_of _ (λ r. high_part (p r) (goes a r) (goes b r) (goes c r) (f (cell r column)) (g (cell r column))) rows)) in
      ap₂ (λ xs ys. xs ++ ys) (sym low) (sym high) ∙ parts_of (goes b) sorted (onward a b sorted far (ordered_up by_column chain turn whole))
    where
      first : (a b : Bool) → (a && b) ≡ true → a ≡ true
      first true b h = refl
      first false b h = absurd (let k : false ≡ true = h in cc)

  lasts : (r : Row) (rs rest : Rows) → Pairwise (λ x y. lt x y ≡ true) ((r ∷ rs) ++ rest) → filter (λ y. not (goes (after (cell r column) (r ∷ rs)) y)) ((r ∷ rs) ++ rest) ≡ r ∷ rs
  lasts r [] rest h =
      ap (λ b. cond (not b) (r ∷ filter (λ y. not (lt r y)) rest) (filter (λ y. not (lt r y)) rest)) (never_itself descending (cell r column))
      ∙ ap (λ ys. r ∷ ys) (keeps_none (λ y. not (lt r y)) rest (all_weaker (λ y. lt r y ≡ true) (λ y. not (lt r y) ≡ false) (λ y e. ap not e) rest h.0))
  lasts r (s ∷ rs) rest h =
      let end = cell (last_row (s ∷ rs)) column in
      let kept = filter (λ y. not (goes end y)) ((s ∷ rs) ++ rest) in
      ap (λ b. cond (not b) (r ∷ kept) kept) (one_way descending (cell r column) end (last_of (λ y. lt r y ≡ true) s rs rest h.0))
      ∙ ap (λ ys. r ∷ ys) (lasts s rs rest h.1)

  module _ (p : Row → Bool) (c : Val) (rows : Rows) where
    abbrev pub waiting : Rows
    waiting = filter (λ r. p r && goes c r) rows

    -- a batch has all rows up to its last
    pub batch_is : Pairwise Apart waiting → (zs rest : Rows) → zs ++ rest ≡ ordered by_column waiting → zs ≡ ordered by_column (filter (between p c (after c zs)) rows)
    batch_is apart [] rest e = sym (ap (ordered by_column) (keeps_none (between p c c) rows (each_of _ (λ r. nowhere (p r) (goes c r)) rows)))
    batch_is apart (r ∷ rs) rest e =
        let end = cell (last_row (r ∷ rs)) column in
        let up : Pairwise (λ x y. lt x y ≡ true) ((r ∷ rs) ++ rest) = subst (λ ys. Pairwise (λ x y. lt x y ≡ true) ys) (sym e)
        (ordered_strict by_column lt (λ x y. value_below descending (cell x column) (cell y column)) (λ x y. value_above descending (cell x column) (cell y column)) (λ x y z. further descending (cell x column) (cell y column) (cell z column)) waiting apart) in
        sym (lasts r rs rest up) ∙ ap (filter (λ y. not (goes end y))) e ∙ filter_ordered by_column chain turn (λ y. not (goes end y)) waiting
        ∙ ap (ordered by_column) (twice (λ r. p r && goes c r) (λ y. not (goes end y)) rows ∙ same_filter _ (between p c end) rows (each_of _ (λ y. three (p y) (goes c y) (not (goes end y))) rows))

    -- the cursor only moves on
    pub moves_on : (zs rest : Rows) → zs ++ rest ≡ ordered by_column waiting → (v : Val) → is_beyond descending (after c zs) v ≡ true → is_beyond descending c v ≡ true
    moves_on [] rest e v h = h
    moves_on (r ∷ rs) rest e v h =
        let all : AllByRecursion (λ y. goes c y ≡ true) ((r ∷ rs) ++ rest) = subst (λ ys. AllByRecursion (λ y. goes c y ≡ true) ys) (sym e)
        (all_ordered by_column (λ y. goes c y ≡ true) waiting (all_weaker (λ y. (p y && goes c y) ≡ true) (λ y. goes c y ≡ true) (λ y k. second (p y) (goes c y) k) waiting (passing (λ y. p y && goes c y) rows))) in
        further descending c (cell (last_row (r ∷ rs)) column) v (last_of (λ y. goes c y ≡ true) r rs rest all) h

    -- a row of a batch is one of the table
    pub last_present : (r : Row) (rs rest : Rows) → (r ∷ rs) ++ rest ≡ ordered by_column waiting → (f : Row → Bool) → AllByRecursion (λ y. f y ≡ true) rows → f (last_row (r ∷ rs)) ≡ true
    last_present r rs rest e f h =
        last_of (λ y. f y ≡ true) r rs rest (subst (λ ys. AllByRecursion (λ y. f y ≡ true) ys) (sym e) (all_ordered by_column (λ y. f y ≡ true) waiting (all_filter (λ y. f y ≡ true) (λ y. p y && goes c y) rows h)))
