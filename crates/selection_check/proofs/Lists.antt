-- The first fault of a list and of pairs, from one item to the next.
use Rattle.std.proofs.Common.{◌≡◌, ◌∙◌, ℕ, ◌+◌, ◌<◌, Bool, true, false, ◌||◌, if◌then◌else◌, List, [], ◌∷◌, ◌++◌, map, take, drop, length, get_or, Option, Some, None, refl, ap, sym}
use Rattle.std.specs.List.{list_any}
use Rattle.std.specs.Str.{bytes_eq}
use Rattle.std.proofs.lemmas.List.{drop_more, take_more, map-append}
use Rattle.request_model.specs.declared.document.GPair.{GPair}
use Rattle.request_model.specs.Strings.{Text}
use Rattle.query_model.specs.declared.fault.QueryFault.{QueryFault}
use Rattle.query_model.specs.Names.{pair_name}
use Rattle.query_model.specs.Refusals.{or_then, distinct_fault, pairs_fault}

or_last : (a b c : Bool) → ((a || b) || c) ≡ (a || (b || c))
or_last true b c = refl
or_last false b c = refl

or_moved : (a b : Bool) → (a || b) ≡ (b || a)
or_moved true true = refl
or_moved true false = refl
or_moved false true = refl
or_moved false false = refl

last_first : {X : Type 0} (p : X → Bool) (xs : List X) (x : X)
    → list_any p (xs ++ x ∷ []) ≡ (p x || list_any p xs)
last_first p [] x = refl
last_first p (y ∷ ys) x =
    ap (λ b. p y || b) (last_first p ys x)
    ∙ sym (or_last (p y) (p x) (list_any p ys))
    ∙ ap (λ b. b || list_any p ys) (or_moved (p y) (p x))
    ∙ or_last (p x) (p y) (list_any p ys)

-- of what came before the names alone count
same_before : (strange : Text → QueryFault) (b c : List Text) (xs : List (Text × Option QueryFault))
    → ((n : Text) → list_any (bytes_eq n) b ≡ list_any (bytes_eq n) c)
    → distinct_fault strange b xs ≡ distinct_fault strange c xs
same_before strange b c [] agree = refl
same_before strange b c (x ∷ xs) agree =
    ap (λ (t : Bool). or_then (if t then Some (strange x.0) else x.1) (distinct_fault strange (x.0 ∷ b) xs)) (agree x.0)
    ∙ ap (λ (o : Option QueryFault). or_then (if list_any (bytes_eq x.0) c then Some (strange x.0) else x.1) o)
    (same_before strange (x.0 ∷ b) (x.0 ∷ c) xs (λ n. ap (λ t. bytes_eq n x.0 || t) (agree n)))

-- the names of the first pairs
abbrev pub names_to : ℕ → List GPair → List Text
names_to n ps = map pair_name (take n ps)

module _ (strange : Text → QueryFault) (judge : GPair → Option QueryFault) (ps : List GPair) (n : ℕ) (p : GPair) where
  -- the fault of the pairs from the place on
  abbrev pub from_place : ℕ → Option QueryFault
  from_place i = pairs_fault strange judge (names_to i ps) (drop i ps)

  abbrev pub is_before : Bool
  is_before = list_any (bytes_eq (pair_name p)) (names_to n ps)

  step : n < length ps → p ≡ get_or ps n p
      → from_place n ≡ or_then (if is_before then Some (strange (pair_name p)) else judge p) (from_place (n + 1))
  step h is =
      let here : drop n ps ≡ p ∷ drop (n + 1) ps = drop_more ps n p h ∙ ap (λ x. x ∷ drop (n + 1) ps) (sym is) in
      let more : names_to (n + 1) ps ≡ names_to n ps ++ pair_name p ∷ [] =
      ap (map pair_name) (take_more ps n p h ∙ ap (λ x. take n ps ++ x ∷ []) (sym is))
      ∙ map-append pair_name (take n ps) (p ∷ []) in
      ap (pairs_fault strange judge (names_to n ps)) here
      ∙ ap (λ (o : Option QueryFault). or_then (if is_before then Some (strange (pair_name p)) else judge p) o)
      (same_before strange (pair_name p ∷ names_to n ps) (names_to (n + 1) ps)
      (map (λ q. (pair_name q, judge q)) (drop (n + 1) ps))
      (λ m. sym (last_first (bytes_eq m) (names_to n ps) (pair_name p)) ∙ ap (list_any (bytes_eq m)) (sym more)))

  -- the pair is strange, at fault, or neither
  pub pair_strange : (whole : Option QueryFault) → n < length ps → p ≡ get_or ps n p → true ≡ is_before
      → from_place n ≡ whole → Some (strange (pair_name p)) ≡ whole
  pair_strange whole h is b told =
      ap (λ (t : Bool). or_then (if t then Some (strange (pair_name p)) else judge p) (from_place (n + 1))) b
      ∙ sym (step h is) ∙ told

  other : (whole : Option QueryFault) → n < length ps → p ≡ get_or ps n p → false ≡ is_before
      → from_place n ≡ whole → or_then (judge p) (from_place (n + 1)) ≡ whole
  other whole h is b told =
      ap (λ (t : Bool). or_then (if t then Some (strange (pair_name p)) else judge p) (from_place (n + 1))) b
      ∙ sym (step h is) ∙ told

  pub pair_at_fault : (whole : Option QueryFault) (e : QueryFault) → n < length ps → p ≡ get_or ps n p
      → false ≡ is_before → Some e ≡ judge p → from_place n ≡ whole → Some e ≡ whole
  pair_at_fault whole e h is b fails told =
      ap (λ (o : Option QueryFault). or_then o (from_place (n + 1))) fails ∙ other whole h is b told

  pub pair_passes : (whole : Option QueryFault) → n < length ps → p ≡ get_or ps n p
      → false ≡ is_before → None ≡ judge p → from_place n ≡ whole → from_place (n + 1) ≡ whole
  pair_passes whole h is b passes told =
      ap (λ (o : Option QueryFault). or_then o (from_place (n + 1))) passes ∙ other whole h is b told
