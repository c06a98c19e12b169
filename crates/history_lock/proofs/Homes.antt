-- States that stand for a history, and what a pass takes out of the slot.
use Rattle.std.proofs.Common.{◌≡◌, ℕ, ◌≤◌, List, [], ◌∷◌, ◌++◌, take, length, Some, false, sym, ap, ◌∙◌, subst, arith, le_refl}
use Rattle.std.specs.Prelude.{Option}
use Rattle.std.proofs.lemmas.List.{length-take-le}
use Rattle.history_lock.specs.declared.known.Entry.{Entry}
use Rattle.history_lock.specs.declared.known.Known.{Known}
use Rattle.history_lock.specs.History.{entry, events, Extends}
use Rattle.history_lock.specs.Rule.{AtHome}
use Rattle.history_lock.specs.Steps.{Out}
use Rattle.history_lock.proofs.Histories.{extends_long, take_events, take_all, events_more, length_events}

-- a slot that is named twice
pub same_slot : {S : Type 0} (me cs ds : List (ℕ × Option S)) (x y : S) (o : Option S) → me ≡ (0, Some x) ∷ cs → me ≡ (0, o) ∷ ds → o ≡ Some y → x ≡ y
same_slot {S = S} me cs ds x y o a b e =
    let p : ℕ × Option S = (0, Some x) in
    let q : ℕ × Option S = (0, o) in
    let heads : p ≡ q = cc in
    let found : Some x ≡ Some y = ap (λ (z : ℕ × Option S). z.1) heads ∙ e in
    cc found

module _ {S E G : Type 0} (stands : S → List E → Type 0) (basis_of : S → G) where
  -- a state that stands for the beginning of what a pass has seen stands for the beginning of the history
  pub at_home : (id : ℕ) (g : G) (xs log : List (Entry E)) (x : S) → Extends id xs log → AtHome stands basis_of g xs x → AtHome stands basis_of g log x
  at_home id g xs log x go h = record {
    same = h.same;
    count = h.count;
    within = (let a = h.within in let b = extends_long id xs log go in omega arith);
    stands_for = subst (λ (l : List E). stands x l) (sym (take_events h.count xs log id go h.within)) h.stands_for;
  }

  -- a state that stands for all that was seen, or for one more event
  pub stands_whole : (g : G) (xs : List (Entry E)) (x : S) → basis_of x ≡ g → stands x (events xs) → AtHome stands basis_of g xs x
  stands_whole g xs x same h = record { same = same; count = length xs; within = le_refl (length xs); stands_for = subst (stands x) (sym (take_all xs)) h }

  pub stands_more : (g : G) (xs : List (Entry E)) (n : ℕ) (e : E) (x : S) → basis_of x ≡ g → stands x (events xs ++ e ∷ []) → AtHome stands basis_of g (xs ++ entry n e ∷ []) x
  stands_more g xs n e x same h = stands_whole g (xs ++ entry n e ∷ []) x same (subst (stands x) (sym (events_more xs n e)) h)

  -- the state whose count is the length of what was seen stands for all of it
  pub stands_all : (g : G) (xs : List (Entry E)) (x : S) (n : ℕ) → AtHome stands basis_of g xs x → ((es : List E) → stands x es → n ≡ length es) → n ≡ length xs → stands x (events xs)
  stands_all g xs x n h counts long =
      let e : n ≡ length (take h.count (events xs)) = counts _ h.stands_for in
      let within = h.within in
      let f : length (take h.count (events xs)) ≡ h.count = length-take-le h.count (events xs) (subst (λ (k : ℕ). h.count ≤ k) (sym (length_events xs)) within) in
      let all : h.count ≡ length xs = sym f ∙ sym e ∙ long in
      subst (stands x) (ap (λ (k : ℕ). take k (events xs)) all ∙ take_all xs) h.stands_for

  -- what a pass took out of the slot
  pub taken : (v : Known E G) (t : ℕ) (x y : S) → v.spent ≡ false → v.ticket ≡ Some t → length v.seen ≡ t → Out stands basis_of v x → x ≡ y → AtHome stands basis_of v.basis v.seen y
  taken v t x y living ticket long out is = subst (λ (z : S). AtHome stands basis_of v.basis v.seen z) is (out t living ticket long)
