-- Lists of places for pollers, kept by each change of seats.
use Rattle.std.proofs.Common.{if◌then◌else◌, ◌≡◌, ◌∙◌, ℕ, ◌<◌, ◌≤◌, Bool, true, false, ◌&&◌, Option, Some, None}
use Rattle.std.proofs.Common.{is_some, List, [], ◌∷◌, ◌++◌, length, map, refl, sym, ap, subst, ◌⊎◌, inl, inr}
use Rattle.std.specs.BTreeMap.{BTreeMap, get, Updates, WritesThrough}
use Rattle.std.specs.List.{AllByRecursion, Contains, slice_get}
use Rattle.place_list.specs.Places.{Places, Ascends}
use Rattle.cohort_map.specs.declared.key.CohortKey.{CohortKey}
use Rattle.cohort_map.specs.declared.key.PollerKey.{PollerKey}
use Rattle.cohort_map.specs.declared.seat.Seat.{Seat}
use Rattle.cohort_map.specs.declared.seat.ReadySeat.{ReadySeat}
use Rattle.scalar_val.specs.declared.val.Val.{Val}
use Rattle.cohort_map.specs.Keys.{poller_cmp, same_poller}
use Rattle.cohort_map.specs.KeyOrder.{poller_cmp-total}
use Rattle.cohort_map.specs.Seats.{is_kept, is_at, at, seat_moved, IsSound, IsSeated, IsReadyTo}
use Rattle.cohort_map.specs.Listed.{Lists, IsAdded}
use Rattle.cohort_map.specs.Polled.{is_polled, is_of, is_of_by, IsKept, ArePolled, AreMade, IsChangedAt}
use Rattle.cohort_map.specs.Polled.{IsSwept, HasRest, no_places}
use Rattle.cohort_map.proofs.Exact.{eq_is, poller_cmp-exact, equal_itself}
use Rattle.cohort_map.proofs.Listing.{KeepsKept, IsFront, from_map, from_push, all_got}
use Rattle.cohort_map.proofs.Rehoming.{Reaches, all_reach, moved_key}
use Rattle.cohort_map.proofs.Rising.{number_of}
use Rattle.cohort_map.proofs.Seated.{Stay}
use Rattle.cohort_map.proofs.Views.{has_key}

some_same : {X : Type 0} (x y : X) → Some x ≡ Some y → x ≡ y
some_same x y e = cc

both_true : (a b : Bool) → (a && b) ≡ true → (a ≡ true) × (b ≡ true)
both_true true b h = (refl, h)
both_true false b h = absurd (cc)

both : (a b : Bool) → a ≡ true → b ≡ true → (a && b) ≡ true
both true b h k = k
both false b h k = absurd (cc)

same_is : (p q : PollerKey) → same_poller p q ≡ true → p ≡ q
same_is p q h = poller_cmp-exact p q (eq_is _ h)

itself : (p : PollerKey) → same_poller p p ≡ true
itself p = rw (equal_itself poller_cmp poller_cmp-total p) refl

-- ---- seats as they were, or fewer, or with more keys

pub polled_none : (keys : List CohortKey) (pollers : BTreeMap PollerKey Places) → ArePolled keys [] pollers
polled_none keys pollers = record {
  listed = λ p l is complete i s at holds. absurd (cc);
  known = λ p i s at holds. absurd (cc);
}

pub polled_front : (keys : List CohortKey) (before after : List Seat) (pollers : BTreeMap PollerKey Places)
    → IsFront before after → ArePolled keys before pollers → ArePolled keys after pollers
polled_front keys before after pollers front polled = record {
  listed = λ p l is complete i s at holds. polled.listed p l is complete i s (front i s at) holds;
  known = λ p i s at holds. polled.known p i s (front i s at) holds;
}

of_more : (keys more : List CohortKey) (p : PollerKey) (s : Seat) → Stay keys more → s.cohort < length keys
    → is_of more p s ≡ true → is_of keys p s ≡ true
of_more keys more p s stay within holds =
    let key = has_key keys s.cohort within in
    let same : slice_get more s.cohort ≡ slice_get keys s.cohort = stay s.cohort key.0 key.1 ∙ sym key.1 in
    subst (λ (o : Option CohortKey). (is_kept s && is_polled p o) ≡ true) same holds

pub polled_more : (keys more : List CohortKey) (seats : List Seat) (pollers : BTreeMap PollerKey Places)
    → Stay keys more
    → AllByRecursion (IsSound (length keys)) seats → ArePolled keys seats pollers → ArePolled more seats pollers
polled_more keys more seats pollers stay sound polled = record {
  listed = λ p l is complete i s at holds.
      let within = (all_got (IsSound (length keys)) seats i s sound at).within in
      polled.listed p l is complete i s at (of_more keys more p s stay within holds);
  known = λ p i s at holds.
      let within = (all_got (IsSound (length keys)) seats i s sound at).within in
      polled.known p i s at (of_more keys more p s stay within holds);
}

-- ---- a change of each seat by itself

polled_over : (g : Seat → Seat) (keys : List CohortKey) (seats : List Seat) (pollers : BTreeMap PollerKey Places) →
    ((p : PollerKey) (i : ℕ) (s : Seat) → slice_get seats i ≡ Some s → is_of keys p (g s) ≡ true
    → is_of keys p s ≡ true) → ArePolled keys seats pollers → ArePolled keys (map g seats) pollers
polled_over g keys seats pollers only polled = record {
  listed = λ p l is complete i t at holds.
      let from = from_map g seats i t at in
      let before = only p i from.0 from.1 (subst (λ (s : Seat). is_of keys p s ≡ true) (sym from.2) holds) in
      polled.listed p l is complete i from.0 from.1 before;
  known = λ p i t at holds.
      let from = from_map g seats i t at in
      let before = only p i from.0 from.1 (subst (λ (s : Seat). is_of keys p s ≡ true) (sym from.2) holds) in
      polled.known p i from.0 from.1 before;
}

of_kept : (g : Seat → Seat) (keys : List CohortKey) (p : PollerKey) (s : Seat) → KeepsKept g
    → is_of keys p (g s) ≡ true → is_of keys p s ≡ true
of_kept g keys p s keeps holds =
    let parts = both_true (is_kept (g s)) (is_polled p (slice_get keys (g s).cohort)) holds in
    both (is_kept s) (is_polled p (slice_get keys s.cohort)) ((keeps s).0 parts.0)
    (subst (λ (c : ℕ). is_polled p (slice_get keys c) ≡ true) (keeps s).1 parts.1)

pub polled_kept : (g : Seat → Seat) (keys : List CohortKey) (seats : List Seat) (pollers : BTreeMap PollerKey Places)
    → KeepsKept g → ArePolled keys seats pollers → ArePolled keys (map g seats) pollers
polled_kept g keys seats pollers keeps =
    polled_over g keys seats pollers (λ p i s at holds. of_kept g keys p s keeps holds)

moved_of : (b : Bool) (keys : List CohortKey) (c : ℕ) (cursor : Val) (p : PollerKey) (s : Seat) (k : CohortKey)
    → slice_get keys s.cohort ≡ Some k → (b ≡ true → slice_get keys c ≡ Some (moved_key k cursor))
    → is_of keys p (if b then seat_moved c s else s) ≡ true → is_of keys p s ≡ true
moved_of true keys c cursor p s k at_s at_c holds =
    let same : is_polled p (slice_get keys c) ≡ is_polled p (slice_get keys s.cohort) =
    ap (is_polled p) (at_c refl) ∙ ap (is_polled p) (sym at_s) in
    subst (λ (b : Bool). (is_kept s && b) ≡ true) same holds
moved_of false keys c cursor p s k at_s at_c holds = holds

pub polled_moved : (keys : List CohortKey) (seats : List Seat) (ready : List ReadySeat) (n c : ℕ) (cursor : Val)
    (pollers : BTreeMap PollerKey Places) → IsSeated keys seats ready → IsReadyTo keys ready n cursor c
    → ArePolled keys seats pollers → ArePolled keys (map (at n (seat_moved c)) seats) pollers
polled_moved keys seats ready n c cursor pollers seated pair =
    polled_over (at n (seat_moved c)) keys seats pollers
    (λ p i s is holds.
    let reaches = all_got (Reaches keys n c cursor) seats i s (all_reach keys seats ready n c cursor seated pair) is in
    let sound = all_got (IsSound (length keys)) seats i s seated.sound is in
    let key = has_key keys s.cohort sound.within in
    moved_of (is_at n s) keys c cursor p s key.0 key.1 (λ here. reaches.to key.0 (number_of n s here) key.1) holds)

-- ---- a list for a poller that had none

made_listed : (keys : List CohortKey) (seats : List Seat) (before after : BTreeMap PollerKey Places) (p : PollerKey)
    (l : Places) → AreMade before after → ArePolled keys seats before → get poller_cmp after p ≡ Some l
    → Lists (is_of keys p) seats l
made_listed keys seats before after p l made polled is complete i s at holds =
    elim (made p) [
      | inl same ↦ polled.listed p l (sym same ∙ is) complete i s at holds
      | inr new ↦ (let some = polled.known p i s at holds in
          let none : is_some (get poller_cmp before p) ≡ false = ap (λ (o : Option Places). is_some o) new.0 in
          absurd (cc))
    ]

made_known : (before after : BTreeMap PollerKey Places) (p : PollerKey) → AreMade before after → IsKept p before
    → IsKept p after
made_known before after p made kept =
    elim (made p) [
      | inl same ↦ ap (λ (o : Option Places). is_some o) same ∙ kept
      | inr new ↦ ap (λ (o : Option Places). is_some o) new.1
    ]

pub polled_made : (keys : List CohortKey) (seats : List Seat) (before after : BTreeMap PollerKey Places)
    → AreMade before after → ArePolled keys seats before → ArePolled keys seats after
polled_made keys seats before after made polled = record {
  listed = λ p l is. made_listed keys seats before after p l made polled is;
  known = λ p i s at holds. made_known before after p made (polled.known p i s at holds);
}

none_is : (o : Option Places) → is_some o ≡ false → o ≡ None
none_is None none = refl
none_is (Some l) none = absurd (cc)

made_on : (before after : BTreeMap PollerKey Places) (new p : PollerKey) (b : Bool) → same_poller new p ≡ b
    → get poller_cmp before new ≡ None → Updates poller_cmp before after new (Some no_places)
    → (get poller_cmp after p ≡ get poller_cmp before p)
    ⊎ ((get poller_cmp before p ≡ None) × (get poller_cmp after p ≡ Some no_places))
made_on before after new p true test none updates =
    let same : new ≡ p = same_is new p test in
    inr (
      subst (λ (q : PollerKey). get poller_cmp before q ≡ None) same none,
      subst (λ (q : PollerKey). get poller_cmp after q ≡ Some no_places) same updates.1,
    )
made_on before after new p false test none updates = inl (updates.2 p test)

pub made_new : (before after : BTreeMap PollerKey Places) (poller new : PollerKey) (l : Places) → new ≡ poller
    → is_some (get poller_cmp before poller) ≡ false → l.places ≡ [] → l.complete ≡ true
    → Updates poller_cmp before after new (Some l) → AreMade before after
made_new before after poller new l is absent empty complete updates p =
    let none = none_is (get poller_cmp before new)
    (subst (λ (q : PollerKey). is_some (get poller_cmp before q) ≡ false) (sym is) absent) in
    let list : l ≡ no_places = λ i. record { places = empty i; complete = complete i } in
    made_on before after new p (same_poller new p) refl none
    (subst (λ (m : Places). Updates poller_cmp before after new (Some m)) list updates)

-- ---- a seat at the end

mine : (keys : List CohortKey) (p : PollerKey) (s t : Seat) (k : CohortKey) → slice_get keys s.cohort ≡ Some k → s ≡ t
    → is_of keys p t ≡ true → same_poller k.poller p ≡ false → ⊥
mine keys p s t k at same holds apart =
    let here : is_of keys p s ≡ true = subst (λ (u : Seat). is_of keys p u ≡ true) (sym same) holds in
    let of : same_poller p k.poller ≡ true =
    ap (is_polled p) (sym at) ∙ (both_true (is_kept s) (is_polled p (slice_get keys s.cohort)) here).1 in
    let is : p ≡ k.poller = same_is p k.poller of in
    let equal : same_poller k.poller p ≡ true = subst (λ (q : PollerKey). same_poller q p ≡ true) is (itself p) in
    absurd (cc)

pushed_listed : (keys : List CohortKey) (seats : List Seat) (s : Seat) (k : CohortKey) (place : ℕ)
    (before after : BTreeMap PollerKey Places) (p : PollerKey) (m : Places) (b : Bool) → same_poller k.poller p ≡ b
    → slice_get keys s.cohort ≡ Some k → place ≡ length seats → IsChangedAt (IsAdded place) k.poller before after
    → ArePolled keys seats before → get poller_cmp after p ≡ Some m → Lists (is_of keys p) (seats ++ s ∷ []) m
pushed_listed keys seats s k place before after p m true test at_k end changed polled is complete i t at holds =
    let same : k.poller ≡ p = same_is k.poller p test in
    let here = changed.here m (subst (λ (q : PollerKey). get poller_cmp after q ≡ Some m) (sym same) is) in
    let there = subst (λ (q : PollerKey). get poller_cmp before q ≡ Some here.0) same here.1 in
    elim (from_push seats s i t at) [
      | inl old ↦ here.2.keeps i (polled.listed p here.0 there (here.2.complete complete) i t old holds)
      | inr new ↦ subst (λ (q : ℕ). Contains m.places q) (end ∙ sym new.0) (here.2.added complete)
    ]
pushed_listed keys seats s k place before after p m false test at_k end changed polled is complete i t at holds =
    elim (from_push seats s i t at) [
      | inl old ↦ polled.listed p m (sym (changed.others p test) ∙ is) complete i t old holds
      | inr new ↦ absurd (mine keys p s t k at_k new.1 holds test)
    ]

pushed_known : (keys : List CohortKey) (seats : List Seat) (s : Seat) (k : CohortKey) (place : ℕ)
    (before after : BTreeMap PollerKey Places) (p : PollerKey) (i : ℕ) (t : Seat) (b : Bool)
    → same_poller k.poller p ≡ b
    → slice_get keys s.cohort ≡ Some k → IsKept k.poller before → IsChangedAt (IsAdded place) k.poller before after
    → ArePolled keys seats before → slice_get (seats ++ s ∷ []) i ≡ Some t → is_of keys p t ≡ true → IsKept p after
pushed_known keys seats s k place before after p i t true test at_k kept changed polled at holds =
    subst (λ (q : PollerKey). IsKept q after) (same_is k.poller p test) (changed.stays kept)
pushed_known keys seats s k place before after p i t false test at_k kept changed polled at holds =
    elim (from_push seats s i t at) [
      | inl old ↦ ap (λ (o : Option Places). is_some o) (changed.others p test) ∙ polled.known p i t old holds
      | inr new ↦ absurd (mine keys p s t k at_k new.1 holds test)
    ]

pub polled_pushed : (keys : List CohortKey) (seats : List Seat) (s : Seat) (k : CohortKey) (place : ℕ)
    (before after : BTreeMap PollerKey Places) → slice_get keys s.cohort ≡ Some k → place ≡ length seats
    → IsKept k.poller before → IsChangedAt (IsAdded place) k.poller before after → ArePolled keys seats before
    → ArePolled keys (seats ++ s ∷ []) after
polled_pushed keys seats s k place before after at_k end kept changed polled = record {
  listed = λ p m is. pushed_listed keys seats s k place before after p m (same_poller k.poller p) refl at_k end changed
      polled is;
  known = λ p i t at holds. pushed_known keys seats s k place before after p i t (same_poller k.poller p) refl at_k kept
      changed polled at holds;
}

-- ---- a sweep

swept_listed : (keys : List CohortKey) (seats : List Seat) (p : PollerKey) (before after : BTreeMap PollerKey Places)
    (q : PollerKey) (m : Places) (b : Bool) → same_poller p q ≡ b → IsChangedAt (IsSwept keys p seats) p before after
    → ArePolled keys seats before → get poller_cmp after q ≡ Some m → Lists (is_of keys q) seats m
swept_listed keys seats p before after q m true test changed polled is complete i s at holds =
    let same : p ≡ q = same_is p q test in
    let here = changed.here m (subst (λ (r : PollerKey). get poller_cmp after r ≡ Some m) (sym same) is) in
    let list = subst (λ (r : PollerKey). get poller_cmp before r ≡ Some here.0) same here.1 in
    let there = polled.listed q here.0 list (sym here.2.complete ∙ complete) i s at holds in
    let mine : is_of keys p s ≡ true = subst (λ (r : PollerKey). is_of keys r s ≡ true) (sym same) holds in
    here.2.keeps i there (ap (is_of_by keys p) at ∙ mine)
swept_listed keys seats p before after q m false test changed polled is complete i s at holds =
    polled.listed q m (sym (changed.others q test) ∙ is) complete i s at holds

swept_known : (keys : List CohortKey) (seats : List Seat) (p : PollerKey) (before after : BTreeMap PollerKey Places)
    (q : PollerKey) (b : Bool) → same_poller p q ≡ b → IsChangedAt (IsSwept keys p seats) p before after
    → IsKept q before
    → IsKept q after
swept_known keys seats p before after q true test changed kept =
    let same : p ≡ q = same_is p q test in
    subst (λ (r : PollerKey). IsKept r after) same
    (changed.stays (subst (λ (r : PollerKey). IsKept r before) (sym same) kept))
swept_known keys seats p before after q false test changed kept =
    ap (λ (o : Option Places). is_some o) (changed.others q test) ∙ kept

pub polled_swept : (keys : List CohortKey) (seats : List Seat) (p : PollerKey)
    (before after : BTreeMap PollerKey Places)
    → IsChangedAt (IsSwept keys p seats) p before after → ArePolled keys seats before → ArePolled keys seats after
polled_swept keys seats p before after changed polled = record {
  listed = λ q m is. swept_listed keys seats p before after q m (same_poller p q) refl changed polled is;
  known = λ q i s at holds. swept_known keys seats p before after q (same_poller p q) refl changed
      (polled.known q i s at holds);
}

-- ---- a list that is written in its place

pub written : (R : Places → Places → Type 0) (p : PollerKey) (m n : BTreeMap PollerKey Places) (l new : Places)
    → Some l ≡ get poller_cmp m p → WritesThrough poller_cmp (poller_cmp p) m new n → R l new → IsChangedAt R p m n
written R p m n l new found through holds =
    let there : is_some (get poller_cmp m p) ≡ true = ap (λ (o : Option Places). is_some o) (sym found) in
    let updates = through.3 there in
    record {
      others = λ q apart. updates.2 q apart;
      here = λ k is. let same : new ≡ k = some_same new k (sym updates.1 ∙ is) in
          (l, sym found, subst (R l) same holds);
      stays = λ kept. ap (λ (o : Option Places). is_some o) updates.1;
    }

pub unwritten : (R : Places → Places → Type 0) (p : PollerKey) (m n : BTreeMap PollerKey Places)
    → None ≡ get poller_cmp m p → n ≡ m → IsChangedAt R p m n
unwritten R p m n none same = record {
  others = λ q apart. ap (λ (t : BTreeMap PollerKey Places). get poller_cmp t q) same;
  here = λ k is.
      let some : None ≡ Some k = none ∙ ap (λ (t : BTreeMap PollerKey Places). get poller_cmp t p) (sym same) ∙ is in
      absurd (cc);
  stays = λ kept. ap (λ (t : BTreeMap PollerKey Places). is_some (get poller_cmp t p)) same ∙ kept;
}

-- ---- what is read by a list

pub has_rest : (keys : List CohortKey) (seats : List Seat) (pollers : BTreeMap PollerKey Places) (p : PollerKey)
    (l : Places) (first : ℕ) (rest : List ℕ) → Some l ≡ get poller_cmp pollers p → l.complete ≡ true → Ascends rest
    → ((i : ℕ) → Contains l.places i → first ≤ i → Contains rest i) → ArePolled keys seats pollers
    → HasRest keys p seats first rest
has_rest keys seats pollers p l first rest found complete up keeps polled = record {
  ascend = up;
  covers = λ i s at holds past. keeps i (polled.listed p l (sym found) complete i s at holds) past;
}
