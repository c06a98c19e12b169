-- The fragments that are reached are those at the places that are reached.
use Rattle.std.proofs.Common.{
  ◌≡◌,
  ◌∙◌,
  ◌⊎◌,
  inl,
  inr,
  ◌<◌,
  ◌||◌,
  ◌&&◌,
  ◌↔◌,
  nat_eq,
  nat_lt,
  sym,
  ap,
  refl,
  subst,
  ℕ,
  zero,
  suc,
  Bool,
  true,
  false,
  if◌then◌else◌,
  List,
  [],
  ◌∷◌,
  length,
  map,
  Option,
  Some,
  None,
  IsTrue,
}
use Rattle.std.specs.Prelude.{filter, unwrap_or}
use Rattle.std.specs.List.{list_any, list_all, slice_get, find}
use Rattle.std.specs.Option.{option_map}
use Rattle.std.specs.Str.{bytes_eq}
use Rattle.std.proofs.lemmas.List.Folds.{find_at}
use Rattle.std.proofs.lemmas.Option.{slice_get-map, slice_get_within, get_or_from_slice_get, unwrap_or-slice_get}
use Rattle.request_model.specs.declared.document.Selection.{Selection}
use Rattle.request_model.specs.Strings.{Text}
use Rattle.std.proofs.lemmas.List.{length-map}
use Rattle.request_model.specs.declared.document.Directive.{Directive}
use Rattle.request_model.specs.Selection.{
  Fragment,
  Operation,
  InReach,
  fragment_named,
  spreads,
  has_spread,
  IsReached,
  spread_there,
  spread_further,
}
use Rattle.gql_scope.specs.Graph.{is_in, is_marked, targets_at, AreBelow, AllBelow, Reaches, starts, goes, HasCycle}
use Rattle.std.proofs.lemmas.Bool.{or_cases, or_left, or_right, and_parts, and_from}
use Rattle.gql_scope.proofs.TruthRules.{same_number, itself, below, is_below, same_text, own_text}
use Rattle.gql_scope.specs.Walks.{place_of, targets_of, edges_of, some_marked_fails, AreReached}

-- ---- places of names

-- some name has this place
record AtName (p : Text → ℕ) (n : ℕ) (names : List Text) (k : ℕ) : Type 0 where
  name : Text
  among : list_any (bytes_eq name) names ≡ true
  place : k ≡ p name
  known : k < n

later : (p : Text → ℕ) (n : ℕ) (t : Text) (ts : List Text) (k : ℕ) → AtName p n ts k → AtName p n (t ∷ ts) k
later p n t ts k a = record {
  name = a.name;
  among = or_right (bytes_eq a.name t) _
      a.among;
  place = a.place;
  known = a.known;
}

first_or : (p : Text → ℕ) (n : ℕ) (t : Text) (ts : List Text) (k : ℕ) → nat_lt (p t) n ≡ true →
    (is_in k (filter (λ j. nat_lt j n) (map p ts)) ≡ true → AtName p n ts k) →
    (nat_eq k (p t) ≡ true) ⊎ (is_in k (filter (λ j. nat_lt j n) (map p ts)) ≡ true) → AtName p n (t ∷ ts) k
first_or p n t ts k lt rest (inl e) = record {
  name = t;
  among = or_left (bytes_eq t t) _
      (own_text t);
  place = same_number k (p t) e;
  known = subst (λ j. j < n) (sym (same_number k (p t) e))
      (below (p t) n lt);
}
first_or p n t ts k lt rest (inr h) = later p n t ts k (rest h)

kept_or : (p : Text → ℕ) (n : ℕ) (t : Text) (ts : List Text) (k : ℕ) (b : Bool) → nat_lt (p t) n ≡ b →
    (is_in k (filter (λ j. nat_lt j n) (map p ts)) ≡ true → AtName p n ts k) →
    is_in k (if b then p t ∷ filter (λ j. nat_lt j n) (map p ts) else filter (λ j. nat_lt j n) (map p ts)) ≡ true →
    AtName p n (t ∷ ts) k
kept_or p n t ts k true e rest h = first_or p n t ts k e rest (or_cases _ _ h)
kept_or p n t ts k false e rest h = later p n t ts k (rest h)

at_name : (p : Text → ℕ) (n : ℕ) (names : List Text) (k : ℕ) → is_in k (filter (λ j. nat_lt j n) (map p names)) ≡ true →
    AtName p n names k
at_name p n [] k h = cc
at_name p n (t ∷ ts) k h = kept_or p n t ts k (nat_lt (p t) n) refl (at_name p n ts k) h

put : (p : Text → ℕ) (n : ℕ) (t : Text) (xs : List ℕ) (k : ℕ) (b : Bool) → is_in k xs ≡ true →
    is_in k (if b then p t ∷ xs else xs) ≡ true
put p n t xs k true h = or_right (nat_eq k (p t)) _ h
put p n t xs k false h = h

put_here : (p : Text → ℕ) (n : ℕ) (t : Text) (xs : List ℕ) (b : Bool) → b ≡ true →
    is_in (p t) (if b then p t ∷ xs else xs) ≡ true
put_here p n t xs true h = or_left (nat_eq (p t) (p t)) _ (itself (p t))
put_here p n t xs false h = cc

named_or : (p : Text → ℕ) (n : ℕ) (name t : Text) (ts : List Text) → p name < n →
    (list_any (bytes_eq name) ts ≡ true → is_in (p name) (filter (λ j. nat_lt j n) (map p ts)) ≡ true) →
    (bytes_eq name t ≡ true) ⊎ (list_any (bytes_eq name) ts ≡ true) →
    is_in (p name) (filter (λ j. nat_lt j n) (map p (t ∷ ts))) ≡ true
named_or p n name t ts lt rest (inl e) = rw (same_text name t e)
    (put_here p n t _ (nat_lt (p t) n) (is_below (p t) n (subst (λ u. p u < n) (same_text name t e) lt)))
named_or p n name t ts lt rest (inr h) = put p n t _ (p name) (nat_lt (p t) n) (rest h)

of_name : (p : Text → ℕ) (n : ℕ) (name : Text) (names : List Text) → p name < n →
    list_any (bytes_eq name) names ≡ true → is_in (p name) (filter (λ j. nat_lt j n) (map p names)) ≡ true
of_name p n name [] lt h = cc
of_name p n name (t ∷ ts) lt h = named_or p n name t ts lt (of_name p n name ts lt) (or_cases _ _ h)

all_below : (p : Text → ℕ) (n : ℕ) (names : List Text) →
    list_all (λ j. nat_lt j n) (filter (λ j. nat_lt j n) (map p names)) ≡ true
all_below p n [] = refl
all_below p n (t ∷ ts) = kept p n t (filter (λ j. nat_lt j n) (map p ts)) (nat_lt (p t) n) refl (all_below p n ts)
  where
    kept : (p : Text → ℕ) (n : ℕ) (t : Text) (xs : List ℕ) (b : Bool) → nat_lt (p t) n ≡ b →
        list_all (λ j. nat_lt j n) xs ≡ true → list_all (λ j. nat_lt j n) (if b then p t ∷ xs else xs) ≡ true
    kept p n t xs true e h = and_from _ _ e h
    kept p n t xs false e h = h

found_passes : {X : Type 0} (p : X → Bool) (x y : X) (rest : Option X) (b : Bool) → p y ≡ b →
    (rest ≡ Some x → p x ≡ true) → (if b then Some y else rest) ≡ Some x → p x ≡ true
found_passes p x y rest true e later h = let same : y ≡ x = cc in subst (λ z. p z ≡ true) same e
found_passes p x y rest false e later h = later h

find_passes : {X : Type 0} (p : X → Bool) (xs : List X) (x : X) → find p xs ≡ Some x → p x ≡ true
find_passes p [] x h = cc
find_passes p (y ∷ ys) x h = found_passes p x y (find p ys) (p y) refl (find_passes p ys x) h

-- ---- fragments at places

module _ (fs : List Fragment) where
  named_at : (name : Text) → fragment_named fs name ≡ slice_get fs (place_of fs name)
  named_at name = find_at (λ (f : Fragment). bytes_eq name f.name) fs

  pub targets_below : (set : List Selection) → AreBelow (length fs) (targets_of fs set)
  targets_below set = all_below (place_of fs) (length fs) (spreads set)

  edges_below_in : (gs : List Fragment) → list_all (list_all (λ k. nat_lt k (length fs)))
      (map (λ (f : Fragment). targets_of fs f.select) gs) ≡ true
  edges_below_in [] = refl
  edges_below_in (g ∷ gs) = and_from _ _ (targets_below g.select) (edges_below_in gs)

  pub edges_below : AllBelow (length fs) (edges_of fs)
  edges_below = edges_below_in fs

  targets_of_place : (j : ℕ) (f : Fragment) → slice_get fs j ≡ Some f →
      targets_at (edges_of fs) j ≡ targets_of fs f.select
  targets_of_place j f e = get_or_from_slice_get (edges_of fs) j (targets_of fs f.select) []
      (slice_get-map (λ (g : Fragment). targets_of fs g.select) fs j
      ∙ ap (option_map (λ (g : Fragment). targets_of fs g.select)) e)

  -- a spread of the name leads to its place
  spread_leads : (set : List Selection) (name : Text) (f : Fragment) → IsTrue (has_spread set name) →
      fragment_named fs name ≡ Some f → IsTrue (is_in (place_of fs name) (targets_of fs set))
  spread_leads set name f h e = of_name (place_of fs) (length fs) name (spreads set)
      (slice_get_within fs (place_of fs name) f (sym (named_at name) ∙ e)) h

  -- f stands at a place that is reached
  pub record Placed (set : List Selection) (f : Fragment) : Type 0 where
    pub place : ℕ
    pub reached : Reaches (edges_of fs) (targets_of fs set) place
    pub here : slice_get fs place ≡ Some f

  pub placed : (set : List Selection) (f : Fragment) → IsReached fs set f → Placed set f
  placed set f (spread_there name h e) = record {
    place = place_of fs name;
    reached = starts (place_of fs name)
        (spread_leads set name f h e);
    here = sym (named_at name) ∙ e;
  }
  placed set g (spread_further {f} name r h e) = placed_further set f g name (placed set f r) h e
    where
      placed_further : (set : List Selection) (f g : Fragment) (name : Text) → Placed set f →
          IsTrue (has_spread f.select name) → fragment_named fs name ≡ Some g → Placed set g
      placed_further set f g name p h e = record {
        place = place_of fs name;
        reached = goes p.place (place_of fs name) p.reached
            (subst (λ ts. IsTrue (is_in (place_of fs name) ts)) (sym (targets_of_place p.place f p.here))
            (spread_leads f.select name g h e));
        here = sym (named_at name) ∙ e;
      }

  -- there is no edge where there is no fragment
  past_edges : (j : ℕ) → slice_get fs j ≡ None → targets_at (edges_of fs) j ≡ []
  past_edges j e = sym (unwrap_or-slice_get (edges_of fs) j [])
      ∙ ap (λ o. unwrap_or o []) (slice_get-map (λ (g : Fragment). targets_of fs g.select) fs j
      ∙ ap (option_map (λ (g : Fragment). targets_of fs g.select)) e)

  begins_at : (j k : ℕ) (o : Option Fragment) → slice_get fs j ≡ o → IsTrue (is_in k (targets_at (edges_of fs) j)) →
      (g : Fragment) × (slice_get fs j ≡ Some g)
  begins_at j k (Some g) e h = (g, e)
  begins_at j k None e h = let no : is_in k [] ≡ true = subst (λ ts. IsTrue (is_in k ts)) (past_edges j e) h in cc

  leads_to : (set : List Selection) (k : ℕ) (f : Fragment) → IsTrue (is_in k (targets_of fs set)) →
      slice_get fs k ≡ Some f → AtName (place_of fs) (length fs) (spreads set) k
  leads_to set k f h here = at_name (place_of fs) (length fs) (spreads set) k h

  by_name_at : (set : List Selection) (k : ℕ) (f : Fragment) (a : AtName (place_of fs) (length fs) (spreads set) k) →
      slice_get fs k ≡ Some f → fragment_named fs a.name ≡ Some f
  by_name_at set k f a here = named_at a.name ∙ ap (slice_get fs) (sym a.place) ∙ here

  further : (set : List Selection) (j k : ℕ) (f : Fragment) → (g : Fragment) × (slice_get fs j ≡ Some g) →
      ((g : Fragment) → slice_get fs j ≡ Some g → IsReached fs set g) →
      IsTrue (is_in k (targets_at (edges_of fs) j)) → slice_get fs k ≡ Some f → IsReached fs set f
  further set j k f g reached h here =
      let a = leads_to g.0.select k f (subst (λ ts. IsTrue (is_in k ts)) (targets_of_place j g.0 g.1) h) here in
      spread_further a.name (reached g.0 g.1) a.among (by_name_at g.0.select k f a here)

  pub from_place : (set : List Selection) {k : ℕ} → Reaches (edges_of fs) (targets_of fs set) k → (f : Fragment) →
      slice_get fs k ≡ Some f → IsReached fs set f
  from_place set (starts k h) f here = let a = leads_to set k f h here in
      spread_there a.name a.among (by_name_at set k f a here)
  from_place set (goes j k r h) f here = further set j k f (begins_at j k (slice_get fs j) refl h)
      (λ g e. from_place set r g e) h here

  -- a fragment that is reached is the first of its name
  first_of_name : (k : ℕ) (set : List Selection) (f : Fragment) → AtName (place_of fs) (length fs) (spreads set) k →
      slice_get fs k ≡ Some f → place_of fs f.name ≡ k
  first_of_name k set f a here = ap (place_of fs)
      (sym (same_text a.name f.name (find_passes (λ (g : Fragment). bytes_eq a.name g.name) fs f
      (by_name_at set k f a here)))) ∙ sym a.place

  pub own_place : (set : List Selection) {k : ℕ} → Reaches (edges_of fs) (targets_of fs set) k → (f : Fragment) →
      slice_get fs k ≡ Some f → place_of fs f.name ≡ k
  own_place set (starts k h) f here = first_of_name k set f (leads_to set k f h here) here
  own_place set (goes j k r h) f here =
      let g = begins_at j k (slice_get fs j) refl h in
      first_of_name k g.0.select f (leads_to g.0.select k f
      (subst (λ ts. IsTrue (is_in k ts)) (targets_of_place j g.0 g.1) h) here) here

-- ---- what is looked for in those that are reached

-- a marked fragment fails
pub record MarkedFails (test : Fragment → Bool) (marks : List Bool) (fs : List Fragment) : Type 0 where
  pub at : ℕ
  pub marked : IsTrue (is_marked marks at)
  pub fragment : Fragment
  pub here : slice_get fs at ≡ Some fragment
  pub fails : IsTrue (test fragment)

fails_later : (test : Fragment → Bool) (m : Bool) (ms : List Bool) (f : Fragment) (fs : List Fragment) →
    MarkedFails test ms fs → MarkedFails test (m ∷ ms) (f ∷ fs)
fails_later test m ms f fs x = record {
  at = suc
      x.at;
  marked = x.marked;
  fragment = x.fragment;
  here = x.here;
  fails = x.fails;
}

fails_or : (test : Fragment → Bool) (m : Bool) (ms : List Bool) (f : Fragment) (fs : List Fragment) →
    (IsTrue (some_marked_fails test ms fs) → MarkedFails test ms fs) →
    ((m && test f) ≡ true) ⊎ (some_marked_fails test ms fs ≡ true) → MarkedFails test (m ∷ ms) (f ∷ fs)
fails_or test m ms f fs rest
    (inl h) = record {
      at = zero;
      marked = (and_parts m (test f) h).0;
      fragment = f;
      here = refl;
      fails = (and_parts m
          (test f) h).1;
    }
fails_or test m ms f fs rest (inr h) = fails_later test m ms f fs (rest h)

pub fails_at : (test : Fragment → Bool) (marks : List Bool) (fs : List Fragment) →
    IsTrue (some_marked_fails test marks fs) → MarkedFails test marks fs
fails_at test [] fs h = cc
fails_at test (m ∷ ms) [] h = cc
fails_at test (m ∷ ms) (f ∷ fs) h = fails_or test m ms f fs (fails_at test ms fs) (or_cases _ _ h)

pub of_failing : (test : Fragment → Bool) (marks : List Bool) (fs : List Fragment) (k : ℕ) (f : Fragment) →
    IsTrue (is_marked marks k) → slice_get fs k ≡ Some f → IsTrue (test f) → IsTrue (some_marked_fails test marks fs)
of_failing test [] fs k f m e t = cc
of_failing test (b ∷ ms) [] k f m e t = cc
of_failing test (b ∷ ms) (g ∷ fs) zero f m e t = let same : g ≡ f = cc in
    or_left _ _ (and_from b (test g) m (subst (λ z. test z ≡ true) (sym same) t))
of_failing test (b ∷ ms) (g ∷ fs) (suc k) f m e t = or_right (b && test g) _ (of_failing test ms fs k f m e t)

module _ (fs : List Fragment) (set : List Selection) (marks : List Bool) (are : AreReached fs set marks) where
  pub reached_fails : (test : Fragment → Bool) → IsTrue (some_marked_fails test marks fs)
      ↔ ((f : Fragment) × IsReached fs set f × IsTrue (test f))
  reached_fails test = (
    λ h. let x = fails_at test marks fs h in (
      x.fragment,
      from_place fs set ((are x.at).0 x.marked) x.fragment
          x.here,
      x.fails,
    ),
    λ r. let p = placed fs set r.0 r.1 in of_failing test marks fs p.place r.0 ((are p.place).1 p.reached) p.here r.2,
  )

  to_cycle : (k : ℕ) (o : Option Fragment) → slice_get fs k ≡ o → Reaches (edges_of fs) (targets_of fs set) k →
      Reaches (edges_of fs) (targets_at (edges_of fs) k) k → (f : Fragment) × IsReached fs set f
      × IsReached fs f.select f
  to_cycle k (Some f) here r c = (
    f,
    from_place fs set r f here,
    from_place fs f.select
        (subst (λ ts. Reaches (edges_of fs) ts k) (targets_of_place fs k f here) c) f here,
  )
  to_cycle k None here r c = absurd (nowhere k here c)
    where
      none_in : (k : ℕ) → is_in k [] ≡ true → ⊥
      none_in k h = cc

      stuck : {k : ℕ} → Reaches (edges_of fs) [] k → ⊥
      stuck (starts k h) = none_in k h
      stuck (goes j k r h) = stuck r

      nowhere : (k : ℕ) → slice_get fs k ≡ None → Reaches (edges_of fs) (targets_at (edges_of fs) k) k → ⊥
      nowhere k here c = stuck (subst (λ ts. Reaches (edges_of fs) ts k) (past_edges fs k here) c)

  of_cycle : (f : Fragment) → IsReached fs set f → IsReached fs f.select f → HasCycle (edges_of fs) marks
  of_cycle f r c =
      let p = placed fs set f r in
      let q = placed fs f.select f c in
      let same : q.place ≡ p.place = sym (own_place fs f.select q.reached f q.here)
      ∙ own_place fs set p.reached f p.here in
      record {
        at = p.place;
        marked = (are p.place).1 p.reached;
        cycle = subst (λ ts. Reaches (edges_of fs) ts p.place) (sym (targets_of_place fs p.place f p.here))
            (subst (λ k. Reaches (edges_of fs) (targets_of fs f.select) k) same q.reached);
      }

  pub cycles : HasCycle (edges_of fs) marks ↔ ((f : Fragment) × IsReached fs set f × IsReached fs f.select f)
  cycles = (λ h. to_cycle h.at (slice_get fs h.at) refl ((are h.at).0 h.marked) h.cycle, λ r. of_cycle r.0 r.1 r.2)

-- ---- answers of the walks

pub edges_all_below : (fs : List Fragment) (edges : List (List ℕ)) → edges ≡ edges_of fs → AllBelow (length edges) edges
edges_all_below fs edges e =
    subst (λ es. AllBelow (length es) es) (sym e)
    (subst (λ n. AllBelow n (edges_of fs)) (sym (length-map fs (λ (g : Fragment). targets_of fs g.select)))
    (edges_below fs))

pub start_below : (fs : List Fragment) (set : List Selection) (edges : List (List ℕ)) (start : List ℕ) →
    edges ≡ edges_of fs → start ≡ targets_of fs set → AreBelow (length edges) start
start_below fs set edges start e s =
    let len : length fs ≡ length edges = sym (ap length e ∙ length-map fs (λ (g : Fragment). targets_of fs g.select)) in
    subst (λ n. AreBelow n start) len (subst (λ ts. AreBelow (length fs) ts) (sym s) (targets_below fs set))

pub cycle_is : (fs : List Fragment) (set : List Selection) (marks ms : List Bool) (edges : List (List ℕ)) (b : Bool) →
    AreReached fs set marks → edges ≡ edges_of fs → ms ≡ marks → IsTrue b ↔ HasCycle edges ms →
    IsTrue b ↔ ((f : Fragment) × IsReached fs set f × IsReached fs f.select f)
cycle_is fs set marks ms edges b are e m h =
    let there : HasCycle edges ms ↔ HasCycle (edges_of fs)
    marks = (
      λ x. subst (λ l. HasCycle (edges_of fs) l) m (subst (λ es. HasCycle es ms) e x),
      λ x. subst
          (λ es. HasCycle es ms) (sym e) (subst (λ l. HasCycle (edges_of fs) l) (sym m) x),
    ) in
    let c = cycles fs set marks are in
    (λ t. c.0 (there.0 (h.0 t)), λ f. h.1 (there.1 (c.1 f)))

in_reach_by : (fs : List Fragment) (marks : List Bool) (o : Operation) (test : List Directive → List Selection → Bool) →
    AreReached fs o.select marks →
    (test o.directives o.select ≡ true) ⊎ (some_marked_fails (λ (f : Fragment). test f.directives f.select) marks fs
    ≡ true) → InReach fs o test
in_reach_by fs marks o test are (inl h) = inl h
in_reach_by fs marks o test are (inr h) = inr
    ((reached_fails fs o.select marks are (λ (f : Fragment). test f.directives f.select)).0 h)

of_in_reach : (fs : List Fragment) (marks : List Bool) (o : Operation) (test : List Directive → List Selection → Bool) →
    AreReached fs o.select marks →
    InReach fs o test → (test o.directives o.select
    || some_marked_fails (λ (f : Fragment). test f.directives f.select) marks fs) ≡ true
of_in_reach fs marks o test are (inl h) = or_left _ _ h
of_in_reach fs marks o test are (inr r) = or_right (test o.directives o.select) _
    ((reached_fails fs o.select marks are (λ (f : Fragment). test f.directives f.select)).1 r)

pub in_reach_is : (fs : List Fragment) (marks : List Bool) (o : Operation)
    (test : List Directive → List Selection → Bool) (b : Bool) → AreReached fs o.select marks →
    b ≡ (test o.directives o.select || some_marked_fails (λ (f : Fragment). test f.directives f.select) marks fs) →
    IsTrue b ↔ InReach fs o test
in_reach_is fs marks o test b are e = (
  λ h. in_reach_by fs marks o test are (or_cases _ _ (sym e ∙ h)),
  λ r. e
      ∙ of_in_reach fs marks o test are r,
)

pub not_so : (b : Bool) (P : Type 0) → IsTrue b ↔ P → b ≡ false → P → ⊥
not_so b P h e p = let no : true ≡ false = sym (h.1 p) ∙ e in cc
