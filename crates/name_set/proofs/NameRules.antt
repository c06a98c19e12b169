-- Names that are looked up and added.
use denote.Ref.{Bor}
use Rattle.std.proofs.Common.{
  ◌≡◌,
  ◌∙◌,
  sym,
  ap,
  refl,
  subst,
  ◌-◌,
  ◌+◌,
  ℕ,
  zero,
  suc,
  Bool,
  true,
  false,
  if◌then◌else◌,
  ◌||◌,
  List,
  [],
  ◌∷◌,
  ◌++◌,
  length,
  map,
  Option,
  Some,
  None,
  String,
  Global,
  string_bytes,
  is_some,
  option_map,
  position,
}
use Rattle.std.specs.Prelude.{unwrap_or}
use Rattle.std.specs.List.{list_any}
use Rattle.std.specs.Str.{bytes_eq}
use Rattle.std.specs.String.{string_cmp}
use Rattle.std.specs.BTreeMap.{BTreeMap, Updates}
use Rattle.std.proofs.lemmas.Bool.{or_parts, or_from}
use Rattle.std.proofs.lemmas.List.{map-append, length-map}
use Rattle.std.proofs.lemmas.List.Folds.{list_any-append}
use Rattle.std.proofs.lemmas.Map.Text.{btree_map_updates_str, btree_map_updates_text}
use Rattle.std.proofs.lemmas.Slice.Eq.{bytes_eq-Decides}
use Rattle.name_set.specs.Names.{Text, first_at, inserted, repeats}
use Rattle.name_set.specs.Places.{Finds, place_in, ArePlaces, Learns}
use Rattle.name_set.proofs.Positions.{position_here, position_past}

pub same_text : (s t : Text) → bytes_eq s t ≡ true → s ≡ t
same_text s t h = (bytes_eq-Decides s t).0 h

own_text : (t : Text) → bytes_eq t t ≡ true
own_text t = (bytes_eq-Decides t t).1 refl

same_truth : (b c : Bool) → (b ≡ true → c ≡ true) → (c ≡ true → b ≡ true) → b ≡ c
same_truth true c f g = sym (f refl)
same_truth false true f g = g refl
same_truth false false f g = refl

pub turned : (s t : Text) → bytes_eq s t ≡ bytes_eq t s
turned s t =
    same_truth (bytes_eq s t) (bytes_eq t s)
    (λ h. ap (λ u. bytes_eq t u) (same_text s t h) ∙ own_text t)
    (λ h. ap (λ u. bytes_eq s u) (same_text t s h) ∙ own_text s)

-- ---- a name is looked up

among_or : (b : Bool) (o : Option ℕ) (c : Bool) → is_some o ≡ c →
    is_some (if b then Some zero else option_map suc o) ≡ (b || c)
among_or true o c h = refl
among_or false (Some k) c h = h
among_or false None c h = h

pub among : (ns : List Text) (t : Text) → is_some (first_at ns t) ≡ list_any (bytes_eq t) ns
among [] t = refl
among (n ∷ ns) t = among_or (bytes_eq t n) (first_at ns t) (list_any (bytes_eq t) ns) (among ns t)

position_by : (b : Bool) (n : Text) (ns : List Text) (t : Text) → bytes_eq t n ≡ b →
    first_at ns t ≡ position (bytes_eq t) ns → first_at (n ∷ ns) t ≡ position (bytes_eq t) (n ∷ ns)
position_by true n ns t e later =
    ap (λ (b : Bool). if b then Some zero else option_map suc (first_at ns t)) e
    ∙ sym (position_here (bytes_eq t) n ns e)
position_by false n ns t e later =
    ap (λ (b : Bool). if b then Some zero else option_map suc (first_at ns t)) e
    ∙ ap (option_map suc) later
    ∙ sym (position_past (bytes_eq t) n ns e)

pub first_is_position : (ns : List Text) (t : Text) → first_at ns t ≡ position (bytes_eq t) ns
first_is_position [] t = refl
first_is_position (n ∷ ns) t = position_by (bytes_eq t n) n ns t refl (first_is_position ns t)

-- ---- a name is added

pub kept : (names : List Text) (name : Text) → list_any (bytes_eq name) names ≡ true → names ≡ inserted names name
kept names name h = rw h refl

pub grown : (names : List Text) (name : Text) → list_any (bytes_eq name) names ≡ false →
    names ++ name ∷ [] ≡ inserted names name
grown names name h = rw h refl

other_after : (ns : List Text) (n t : Text) → bytes_eq t n ≡ false → first_at (ns ++ n ∷ []) t ≡ first_at ns t
other_after [] n t h = ap (λ (b : Bool). if b then Some zero else None) h
other_after (m ∷ ns) n t h = ap (λ o. if bytes_eq t m then Some zero else option_map suc o) (other_after ns n t h)

known_or : (b : Bool) (o p : Option ℕ) → (is_some p ≡ true → o ≡ p) →
    is_some (if b then Some zero else option_map suc p) ≡ true →
    (if b then Some zero else option_map suc o) ≡ (if b then Some zero else option_map suc p)
known_or true o p later h = refl
known_or false o (Some k) later h = ap (option_map suc) (later refl)
known_or false o None later h = cc

known_after : (ns : List Text) (n : Text) → is_some (first_at ns n) ≡ true → first_at (ns ++ n ∷ []) n ≡ first_at ns n
known_after [] n h = cc
known_after (m ∷ ns) n h = known_or (bytes_eq n m) (first_at (ns ++ n ∷ []) n) (first_at ns n) (known_after ns n) h

new_or : (b : Bool) (o p : Option ℕ) (k : ℕ) → (is_some p ≡ false → o ≡ Some k) →
    is_some (if b then Some zero else option_map suc p) ≡ false →
    (if b then Some zero else option_map suc o) ≡ Some (suc k)
new_or true o p k later h = cc
new_or false o (Some i) k later h = cc
new_or false o None k later h = ap (option_map suc) (later refl)

new_after : (ns : List Text) (n : Text) → is_some (first_at ns n) ≡ false →
    first_at (ns ++ n ∷ []) n ≡ Some (length ns)
new_after [] n h = ap (λ (b : Bool). if b then Some zero else None) (own_text n)
new_after (m ∷ ns) n h =
    new_or (bytes_eq n m) (first_at (ns ++ n ∷ []) n) (first_at ns n) (length ns) (new_after ns n) h

known_by : (b : Bool) (ns : List Text) (n t : Text) → bytes_eq t n ≡ b → is_some (first_at ns n) ≡ true →
    first_at (ns ++ n ∷ []) t ≡ first_at ns t
known_by true ns n t e h =
    subst (λ s. first_at (ns ++ n ∷ []) s ≡ first_at ns s) (sym (same_text t n e)) (known_after ns n h)
known_by false ns n t e h = other_after ns n t e

new_by : (b : Bool) (ns : List Text) (n t : Text) → bytes_eq t n ≡ b → is_some (first_at ns n) ≡ false →
    first_at (ns ++ n ∷ []) t ≡ (if b then Some (length ns) else first_at ns t)
new_by true ns n t e h =
    subst (λ s. first_at (ns ++ n ∷ []) s ≡ Some (length ns)) (sym (same_text t n e)) (new_after ns n h)
new_by false ns n t e h = other_after ns n t e

-- ---- a map of owned names

pub finds_more : (m n : BTreeMap (String Global) ℕ) (names : List Text) (key : String Global) → Finds m names →
    list_any (bytes_eq (string_bytes key)) names ≡ false → Updates string_cmp m n key (Some (length names)) →
    Finds n (names ++ string_bytes key ∷ [])
finds_more m n names key finds none updates t =
    let x = string_bytes key in
    btree_map_updates_text x m n (Some (length names)) updates t
    ∙ ap (λ o. if bytes_eq x t then Some (length names) else o) (finds t)
    ∙ ap (λ (b : Bool). if b then Some (length names) else first_at names t) (turned x t)
    ∙ sym (new_by (bytes_eq t x) names x t refl (among names x ∙ none))

pub once_more : (names : List Text) (name : Text) → repeats names ≡ false → list_any (bytes_eq name) names ≡ false →
    repeats (names ++ name ∷ []) ≡ false
once_more [] name once none = refl
once_more (n ∷ ns) name once none =
    let before = or_parts (list_any (bytes_eq n) ns) (repeats ns) once in
    let other = or_parts (bytes_eq name n) (list_any (bytes_eq name) ns) none in
    or_from (list_any (bytes_eq n) (ns ++ name ∷ [])) (repeats (ns ++ name ∷ []))
    (list_any-append (bytes_eq n) ns (name ∷ [])
    ∙ or_from (list_any (bytes_eq n) ns) (bytes_eq n name || false) before.0
    (or_from (bytes_eq n name) false (turned n name ∙ other.0) refl))
    (once_more ns name before.1 other.1)

-- ---- a map of borrowed names

-- the names with one more, and the map with the place that it was found at or was given
module _ (ns : List Text) (name : Text) (m n : BTreeMap (Bor Text) ℕ) (found : ℕ) (are : ArePlaces ns m)
    (is : found ≡ unwrap_or (place_in m name) (length ns)) (learnt : Learns m n name found) where
  after : (t : Text) → place_in n t ≡ (if bytes_eq t name then Some found else first_at ns t)
  after t =
      btree_map_updates_str name m n (Some found) learnt t
      ∙ ap (λ (b : Bool). if b then Some found else place_in m t) (turned name t)
      ∙ ap (λ o. if bytes_eq t name then Some found else o) (are t)

  kept_at : (o : Option ℕ) → first_at ns name ≡ o → is_some o ≡ true → Some found ≡ first_at ns name
  kept_at None e h = cc
  kept_at (Some k) e h = ap Some (is ∙ ap (λ p. unwrap_or p (length ns)) (are name ∙ e)) ∙ sym e

  here_or : (b : Bool) (t : Text) → bytes_eq t name ≡ b → Some found ≡ first_at ns name →
      (if b then Some found else first_at ns t) ≡ first_at ns t
  here_or true t e h = h ∙ ap (first_at ns) (sym (same_text t name e))
  here_or false t e h = refl

  new_at : (o : Option ℕ) → first_at ns name ≡ o → is_some o ≡ false → found ≡ length ns
  new_at None e h = is ∙ ap (λ p. unwrap_or p (length ns)) (are name ∙ e)
  new_at (Some k) e h = cc

  added_or : (b : Bool) → is_some (first_at ns name) ≡ b → ArePlaces (ns ++ name ∷ []) n
  added_or true h t =
      after t ∙ here_or (bytes_eq t name) t refl (kept_at (first_at ns name) refl h)
      ∙ sym (known_by (bytes_eq t name) ns name t refl h)
  added_or false h t =
      after t ∙ ap (λ k. if bytes_eq t name then Some k else first_at ns t) (new_at (first_at ns name) refl h)
      ∙ sym (new_by (bytes_eq t name) ns name t refl h)

  added_places : ArePlaces (ns ++ name ∷ []) n
  added_places = added_or (is_some (first_at ns name)) refl

-- the same of a list of borrowed names, and of a map that was asked for another copy of the name
module _ (ns : List (Bor Text)) (name : Bor Text) (key : Text) (m n : BTreeMap (Bor Text) ℕ) (found place : ℕ)
    (are : ArePlaces (map (λ t. t.now) ns) m) (ek : key ≡ name.now) (ep : place ≡ length ns)
    (is : found ≡ unwrap_or (place_in m key) place) (learnt : Learns m n key found) where
  count : place ≡ length (map (λ t. t.now) ns)
  count = ep ∙ sym (length-map ns (λ t. t.now))

  found_is : found ≡ unwrap_or (place_in m name.now) (length (map (λ t. t.now) ns))
  found_is = is ∙ ap (λ t. unwrap_or (place_in m t) place) ek ∙ ap (unwrap_or (place_in m name.now)) count

  pub places_put : (after : List (Bor Text)) → after ≡ ns ++ name ∷ [] → ArePlaces (map (λ t. t.now) after) n
  places_put after e =
      subst (λ xs. ArePlaces xs n) (sym (ap (map (λ t. t.now)) e ∙ map-append (λ t. t.now) ns (name ∷ [])))
      (added_places (map (λ t. t.now) ns) name.now m n found are found_is (subst (λ t. Learns m n t found) ek learnt))
