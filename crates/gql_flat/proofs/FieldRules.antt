-- The fields of groups.
use Rattle.std.proofs.Common.{◌≡◌, ◌∙◌, ◌⊎◌, inl, inr, ◌<◌, ◌≤◌, ◌+◌, ◌-◌, ◌↔◌, max, sym, ap, refl, subst, arith, ℕ, zero, suc, nat_eq, Bool, true, false, List, [], ◌∷◌, ◌++◌, length, map, take, drop, get_or, IsTrue, IfOk, Result, Ok, Err}
use Rattle.std.proofs.lemmas.List.{map-append, take-append-drop, take_all, length-drop}
use Rattle.request_model.specs.declared.flat.FlatFault.{FlatFault}
use Rattle.request_model.specs.declared.flat.FlatField.{FlatField}
use Rattle.request_model.specs.declared.flat.FlatField.TheViews.{roll-FlatField}
use Rattle.request_model.specs.declared.flat.FlatField.TheFolds.{fold-FlatField}
use Rattle.request_model.specs.Strings.{Text}
use Rattle.request_model.specs.Selection.{Scope, Group, collected, inner_set, fields_of, has_inner, fields_down, size, size_step, sum_of, levels, levels_step, max_of, most_fields, Some_of, Differ, FieldsConflict}
use Rattle.request_model.proofs.SelectionRules.{fold-field}
use Rattle.std.specs.List.{list_any}
use Rattle.gql_flat.specs.declared.fields.Tally.{Tally}
use Rattle.gql_flat.specs.Fields.{field_down, GroupConflicts, Conflicts, AreFields, AreTooLarge, FailsSo, IsCounted}
use Rattle.gql_canon.proofs.OrderRules.{from_place, up_to_place}

-- ---- some of a list

pub some_here : {X : Type 0} (P : X → Type 0) (xs : List X) (i : ℕ) (x : X) → i < length xs → x ≡ get_or xs i x → Some_of P xs ↔ Some_of P (drop i xs) → P x → Some_of P xs
some_here P xs i x lt e h p = h.1 (subst (λ ys. Some_of P ys) (sym (from_place xs i (i + 1) x lt refl e)) (inl p))

not_first : {X : Type 0} (P : X → Type 0) (x : X) (xs : List X) → (P x → ⊥) → Some_of P (x ∷ xs) → Some_of P xs
not_first P x xs none (inl p) = absurd (none p)
not_first P x xs none (inr s) = s

pub some_later : {X : Type 0} (P : X → Type 0) (xs : List X) (i : ℕ) (x : X) → i < length xs → x ≡ get_or xs i x → (P x → ⊥) → Some_of P xs ↔ Some_of P (drop i xs) → Some_of P xs ↔ Some_of P (drop (i + 1) xs)
some_later P xs i x lt e none h =
    let here = from_place xs i (i + 1) x lt refl e in
    (λ s. not_first P x (drop (i + 1) xs) none (subst (λ ys. Some_of P ys) here (h.0 s)), λ s. h.1 (subst (λ ys. Some_of P ys) (sym here) (inr s)))

-- an answer of those that are left is one of all
some_of_rest : {X E : Type 0} (P : X → Type 0) (xs ys : List X) (r : Result Bool E) → Some_of P xs ↔ Some_of P ys → IfOk r (λ found. IsTrue found ↔ Some_of P ys) → IfOk r (λ found. IsTrue found ↔ Some_of P xs)
some_of_rest P xs ys (Ok found) h e = (λ t. h.1 (e.0 t), λ s. e.1 (h.0 s))
some_of_rest P xs ys (Err fault) h e = tt

pub some_left_over : {X E : Type 0} (P : X → Type 0) (xs : List X) (i : ℕ) (r : Result Bool E) → Some_of P xs ↔ Some_of P (drop i xs) →
    IfOk r (λ found. IsTrue found ↔ Some_of P (take (length xs - i) (drop i xs))) → IfOk r (λ found. IsTrue found ↔ Some_of P xs)
some_left_over P xs i r h e =
    let rest : take (length xs - i) (drop i xs) ≡ drop i xs = take_all (length xs - i) (drop i xs) (omega (arith, length-drop i xs)) in
    some_of_rest P xs (drop i xs) r h (subst (λ ys. IfOk r (λ found. IsTrue found ↔ Some_of P ys)) rest e)

some_left : {X : Type 0} (P : X → Type 0) (xs ys : List X) → Some_of P xs → Some_of P (xs ++ ys)
some_left P [] ys s = absurd s
some_left P (x ∷ xs) ys (inl p) = inl p
some_left P (x ∷ xs) ys (inr s) = inr (some_left P xs ys s)

some_right : {X : Type 0} (P : X → Type 0) (xs ys : List X) → Some_of P ys → Some_of P (xs ++ ys)
some_right P [] ys s = s
some_right P (x ∷ xs) ys s = inr (some_right P xs ys s)

in_first : {A B C : Type 0} → B ⊎ C → (A ⊎ B) ⊎ C
in_first (inl b) = inl (inr b)
in_first (inr c) = inr c

some_either : {X : Type 0} (P : X → Type 0) (xs ys : List X) → Some_of P (xs ++ ys) → Some_of P xs ⊎ Some_of P ys
some_either P [] ys s = inr s
some_either P (x ∷ xs) ys (inl p) = inl (inl p)
some_either P (x ∷ xs) ys (inr s) = in_first (some_either P xs ys s)

-- ---- sizes

sums : (ms ns : List ℕ) → sum_of (ms ++ ns) ≡ sum_of ms + sum_of ns
sums [] ns = omega arith
sums (m ∷ ms) ns = omega (arith, sums ms ns)

greatest : (ms ns : List ℕ) → max_of (ms ++ ns) ≡ max (max_of ms) (max_of ns)
greatest [] ns = omega arith
greatest (m ∷ ms) ns = omega (arith, greatest ms ns)

size_both : (xs ys : List FlatField) → size (xs ++ ys) ≡ size xs + size ys
size_both xs ys = ap sum_of (map-append (fold-FlatField ℕ size_step) xs ys) ∙ sums (map (fold-FlatField ℕ size_step) xs) (map (fold-FlatField ℕ size_step) ys)

levels_both : (xs ys : List FlatField) → levels (xs ++ ys) ≡ max (levels xs) (levels ys)
levels_both xs ys = ap max_of (map-append (fold-FlatField ℕ levels_step) xs ys) ∙ greatest (map (fold-FlatField ℕ levels_step) xs) (map (fold-FlatField ℕ levels_step) ys)

size_one : (x : FlatField) (n : ℕ) → fold-FlatField ℕ size_step x ≡ n → size (x ∷ []) ≡ n
size_one x n e = omega (arith, e)

levels_one : (x : FlatField) (n : ℕ) → fold-FlatField ℕ levels_step x ≡ n → levels (x ∷ []) ≡ n
levels_one x n e = omega (arith, e)

module _ (s : Scope) where
  inside : Group → List Group
  inside g = (collected s (inner_set g)).groups

  size_of : (down : ℕ) (g : Group) → size (field_down s down g ∷ []) ≡ 1 + size (fields_down s down (inner_set g))
  size_of down g = size_one (field_down s down g) (1 + size (fields_down s down (inner_set g))) (fold-field size_step g.first.key g.first.name g.first.args (list_any has_inner (fields_of g)) (collected s (inner_set g)).conditions (fields_down s down (inner_set g)))

  levels_of : (down : ℕ) (g : Group) → levels (field_down s down g ∷ []) ≡ 1 + levels (fields_down s down (inner_set g))
  levels_of down g = levels_one (field_down s down g) (1 + levels (fields_down s down (inner_set g))) (fold-field levels_step g.first.key g.first.name g.first.args (list_any has_inner (fields_of g)) (collected s (inner_set g)).conditions (fields_down s down (inner_set g)))

  -- ---- conflicts

  conflicts_none : (down : ℕ) → Conflicts s down [] → ⊥
  conflicts_none zero h = h
  conflicts_none (suc down) h = h

  conflicts_left : (down : ℕ) (xs ys : List Group) → Conflicts s down xs → Conflicts s down (xs ++ ys)
  conflicts_left zero xs ys h = h
  conflicts_left (suc down) xs ys h = some_left (GroupConflicts s down) xs ys h

  conflicts_right : (down : ℕ) (xs ys : List Group) → Conflicts s down ys → Conflicts s down (xs ++ ys)
  conflicts_right zero xs ys h = h
  conflicts_right (suc down) xs ys h = some_right (GroupConflicts s down) xs ys h

  conflicts_either : (down : ℕ) (xs ys : List Group) → Conflicts s down (xs ++ ys) → Conflicts s down xs ⊎ Conflicts s down ys
  conflicts_either zero xs ys h = inl h
  conflicts_either (suc down) xs ys h = some_either (GroupConflicts s down) xs ys h

  pub conflicts_are : (down : ℕ) (set : _) → FieldsConflict s down set ↔ Conflicts s down (collected s set).groups
  conflicts_are zero set = (λ h. h, λ h. h)
  conflicts_are (suc down) set = (λ h. h, λ h. h)

  -- ---- fields of groups side by side

  pub none : (down : ℕ) (t : Tally) → t.fields ≤ most_fields → AreFields s down [] t t []
  none down t few = record {
    are = refl;
    counted = omega arith;
    few = few;
    high = omega arith;
    conflict = (λ h. inl h, λ h. only_left h);
  }
    where
      only_left : IsTrue t.conflict ⊎ Conflicts s down [] → IsTrue t.conflict
      only_left (inl h) = h
      only_left (inr h) = absurd (conflicts_none down h)

  module _ (down : ℕ) (xs ys : List Group) (b m a : Tally) (fs gs : List FlatField) (x : AreFields s down xs b m fs) (y : AreFields s down ys m a gs) where
    to_both : IsTrue m.conflict ⊎ Conflicts s down ys → IsTrue b.conflict ⊎ Conflicts s down (xs ++ ys)
    to_both (inl h) = to_first (x.conflict.0 h)
      where
        to_first : IsTrue b.conflict ⊎ Conflicts s down xs → IsTrue b.conflict ⊎ Conflicts s down (xs ++ ys)
        to_first (inl h) = inl h
        to_first (inr c) = inr (conflicts_left down xs ys c)
    to_both (inr c) = inr (conflicts_right down xs ys c)

    of_either : Conflicts s down xs ⊎ Conflicts s down ys → IsTrue a.conflict
    of_either (inl c) = y.conflict.1 (inl (x.conflict.1 (inr c)))
    of_either (inr c) = y.conflict.1 (inr c)

    of_both : IsTrue b.conflict ⊎ Conflicts s down (xs ++ ys) → IsTrue a.conflict
    of_both (inl h) = y.conflict.1 (inl (x.conflict.1 (inl h)))
    of_both (inr c) = of_either (conflicts_either down xs ys c)

    pub both : AreFields s down (xs ++ ys) b a (fs ++ gs)
    both = record {
      are = ap (λ hs. hs ++ gs) x.are ∙ ap (λ hs. map (field_down s down) xs ++ hs) y.are ∙ sym (map-append (field_down s down) xs ys);
      counted = omega (arith, x.counted, y.counted, size_both fs gs);
      few = y.few;
      high = omega (arith, x.high, y.high, levels_both fs gs);
      conflict = (λ h. to_both (y.conflict.0 h), of_both);
    }

  -- one more group
  pub more : (down : ℕ) (groups : List Group) (i : ℕ) (g : Group) (b m a : Tally) (fs new : List FlatField) (f : FlatField) → i < length groups → g ≡ get_or groups i g → new ≡ fs ++ f ∷ [] →
      AreFields s down (take i groups) b m fs → AreFields s down (g ∷ []) m a (f ∷ []) → AreFields s down (take (i + 1) groups) b a new
  more down groups i g b m a fs new f lt e en x y =
      subst (λ hs. AreFields s down (take (i + 1) groups) b a hs) (sym en)
      (subst (λ gs. AreFields s down gs b a (fs ++ f ∷ [])) (sym (up_to_place groups i (i + 1) g lt refl e)) (both down (take i groups) (g ∷ []) b m a fs (f ∷ []) x y))

  split_at : (groups : List Group) (i : ℕ) (g : Group) → i < length groups → g ≡ get_or groups i g → take i groups ++ ((g ∷ []) ++ drop (i + 1) groups) ≡ groups
  split_at groups i g lt e = ap (λ gs. take i groups ++ gs) (sym (from_place groups i (i + 1) g lt refl e)) ∙ take-append-drop i groups

  mapped_parts : (down : ℕ) (xs ys zs : List Group) → map (field_down s down) (xs ++ (ys ++ zs)) ≡ map (field_down s down) xs ++ (map (field_down s down) ys ++ map (field_down s down) zs)
  mapped_parts down xs ys zs = map-append (field_down s down) xs (ys ++ zs) ∙ ap (λ hs. map (field_down s down) xs ++ hs) (map-append (field_down s down) ys zs)

  large_parts : (down : ℕ) (xs ys zs : List Group) (b m : ℕ) → m ≡ b + size (map (field_down s down) xs) → AreTooLarge s down ys m → AreTooLarge s down (xs ++ (ys ++ zs)) b
  large_parts down xs ys zs b m e (inl deep) =
      let f = map (field_down s down) in
      inl (omega (arith, deep, ap levels (mapped_parts down xs ys zs), levels_both (f xs) (f ys ++ f zs), levels_both (f ys) (f zs)))
  large_parts down xs ys zs b m e (inr many) =
      let f = map (field_down s down) in
      inr (omega (arith, many, e, ap size (mapped_parts down xs ys zs), size_both (f xs) (f ys ++ f zs), size_both (f ys) (f zs)))

  -- a group that is too large
  pub large : (down : ℕ) (groups : List Group) (i : ℕ) (g : Group) (b m : Tally) (fs : List FlatField) → i < length groups → g ≡ get_or groups i g →
      AreFields s down (take i groups) b m fs → AreTooLarge s down (g ∷ []) m.fields → AreTooLarge s down groups b.fields
  large down groups i g b m fs lt e x h =
      subst (λ gs. AreTooLarge s down gs b.fields) (split_at groups i g lt e)
      (large_parts down (take i groups) (g ∷ []) (drop (i + 1) groups) b.fields m.fields (x.counted ∙ ap (λ hs. b.fields + size hs) x.are) h)

  -- no level is left
  pub no_level : (groups : List Group) (b : ℕ) → (groups ≡ [] → ⊥) → AreTooLarge s 0 groups b
  no_level [] b h = absurd (h refl)
  no_level (g ∷ gs) b h = inl (omega (arith, levels_both (field_down s 0 g ∷ []) (map (field_down s 0) gs), levels_of 0 g))

  -- ---- one field

  pub one : (low down : ℕ) (g : Group) (b m a : Tally) (fs : List FlatField) (f : FlatField) (cs : List Text) → down ≡ suc low → IsCounted g b m → AreFields s low (collected s (inner_set g)).groups m a fs →
      f ≡ roll-FlatField (record { key = g.first.key; name = g.first.name; args = g.first.args; nested = list_any has_inner (fields_of g); conditions = cs; fields = fs }) → cs ≡ (collected s (inner_set g)).conditions →
      AreFields s down (g ∷ []) b a (f ∷ [])
  one low down g b m a fs f cs e c x ef ec = subst (λ n. AreFields s n (g ∷ []) b a (f ∷ [])) (sym e) (record {
    are = ap (λ h. h ∷ []) is;
    counted = omega (arith, c.counted, x.counted, ap (λ h. size (h ∷ [])) is, size_of (suc low) g, ap size x.are);
    few = x.few;
    high = omega (arith, x.high, ap (λ h. levels (h ∷ [])) is, levels_of (suc low) g, ap levels x.are);
    conflict = (λ h. up (x.conflict.0 h), down_to);
  })
    where
      is : f ≡ field_down s (suc low) g
      is = ef ∙ ap (λ ts. roll-FlatField (record { key = g.first.key; name = g.first.name; args = g.first.args; nested = list_any has_inner (fields_of g); conditions = ts; fields = fs })) ec ∙ ap (λ hs. roll-FlatField (record { key = g.first.key; name = g.first.name; args = g.first.args; nested = list_any has_inner (fields_of g); conditions = (collected s (inner_set g)).conditions; fields = hs })) x.are

      counted_up : IsTrue b.conflict ⊎ Some_of (Differ g.first) g.others → IsTrue b.conflict ⊎ Conflicts s (suc low) (g ∷ [])
      counted_up (inl h) = inl h
      counted_up (inr d) = inr (inl (inl d))

      up : IsTrue m.conflict ⊎ Conflicts s low (collected s (inner_set g)).groups → IsTrue b.conflict ⊎ Conflicts s (suc low) (g ∷ [])
      up (inl h) = counted_up (c.conflict.0 h)
      up (inr d) = inr (inl (inr ((conflicts_are low (inner_set g)).1 d)))

      of_group : GroupConflicts s low g → IsTrue a.conflict
      of_group (inl d) = x.conflict.1 (inl (c.conflict.1 (inr d)))
      of_group (inr d) = x.conflict.1 (inr ((conflicts_are low (inner_set g)).0 d))

      down_to : IsTrue b.conflict ⊎ Conflicts s (suc low) (g ∷ []) → IsTrue a.conflict
      down_to (inl h) = x.conflict.1 (inl (c.conflict.1 (inl h)))
      down_to (inr (inl d)) = of_group d
      down_to (inr (inr d)) = absurd d

  -- a field too many
  pub full : (down : ℕ) (g : Group) (b : ℕ) → most_fields ≤ b → AreTooLarge s down (g ∷ []) b
  full down g b h = inr (omega (arith, h, size_of down g))

  -- the fields in it are too many or too deep
  pub large_inside : (low down : ℕ) (g : Group) (b m : Tally) → down ≡ suc low → IsCounted g b m → AreTooLarge s low (collected s (inner_set g)).groups m.fields → AreTooLarge s down (g ∷ []) b.fields
  large_inside low down g b m e c (inl deep) = inl (omega (arith, deep, e, ap (λ n. levels (field_down s n g ∷ [])) e, levels_of (suc low) g))
  large_inside low down g b m e c (inr many) = inr (omega (arith, many, c.counted, ap (λ n. size (field_down s n g ∷ [])) e, size_of (suc low) g))

-- ---- faults

pub fails_weaker : (e : FlatFault) (P Q : Type 0) → (P → Q) → FailsSo e P → FailsSo e Q
fails_weaker e P Q f (inl h) = inl h
fails_weaker e P Q f (inr h) = inr (h.0, f h.1)

pub not_nil : {X : Type 0} (xs : List X) (b : Bool) → b ≡ nat_eq (length xs) 0 → b ≡ false → xs ≡ [] → ⊥
not_nil [] b e f h = let none : true ≡ false = sym e ∙ f in cc
not_nil (x ∷ xs) b e f h = cc
