-- Each step keeps the rule of the lock.
use Rattle.std.proofs.Common.{◌≡◌, ◌≢◌, inl, inr, ⊎_elim, ℕ, zero, suc, eqb, ◌+◌, ◌%◌, ◌^◌, ◌<◌, ◌≤◌, List, [], ◌∷◌, ◌++◌, length, set, get_or, Some, None, true, false, true≢false, refl, sym, ap, ◌∙◌, subst, arith, length-append, length-set, eq-eqb, ne_eqb}
use Rattle.std.specs.Prelude.{Option}
use mathlib.Core.Option.{some, none, some-injective, some-ne-none, Option as Maybe}
use mathlib.Core.Logic.{dite}
use native.Mathlib.Decide.{ℕ_discrete}
use lib.ListN.{get_elem?}
use lib.Seq.{set-get_or}
use prog.Atomic.{either}
use Rattle.atomic_table.specs.Table.{State, step, keeps, takes, gives, stepped, Allows, Splits, Joins, opening}
use Rattle.atomic_table.proofs.Lists.{at_set, set_again, set_here, set_else, at_longer}
use Rattle.history_lock.specs.declared.known.Entry.{Entry}
use Rattle.history_lock.specs.declared.known.Known.{Known}
use Rattle.history_lock.specs.History.{entry, own, longer, Extends}
use Rattle.history_lock.specs.Views.{Sat, knows, with_ticket, with_seen, with_number, given, copy, informed, spent}
use Rattle.history_lock.specs.Rule.{Lives, Fits, AtHome, Away, Home, HeldOnce, TellersGone, Kept}
use Rattle.history_lock.specs.Steps.{Compared, Numbered, Compares, Draws, Looks, Takes, Out, Puts, Raises, Rings}
use Rattle.history_lock.proofs.Histories.{own-append, own_other, extends_same, extends_on, extends_whole, extends_none, tail_none, longer_of, at_end, at_within}
use Rattle.history_lock.proofs.Homes.{at_home}

exchanged_hit : (n old new : ℕ) → n ≡ old → either (eqb n old) new n ≡ new
exchanged_hit n old new e = ap (λ b. either b new n) (eq-eqb n old e)

exchanged_miss : (n old new : ℕ) → n ≢ old → either (eqb n old) new n ≡ n
exchanged_miss n old new ne = ap (λ b. either b new n) (ne_eqb n old ne)

module _ {S E G : Type 0} (stands : S → List E → Type 0) (basis_of : S → G) (first : S) where
  abbrev V : Type 0
  V = Known E G

  abbrev St : Type 0
  St = State (Option S) V

  abbrev Rule : St → Type 0
  Rule = Kept stands basis_of first

  abbrev Basis : G
  Basis = basis_of first

  each_set : (K : ℕ → V → Type 0) (vs : List V) (id : ℕ) (w : V) → K id w → ((j : ℕ) (u : V) → j ≢ id → get_elem? vs j ≡ some u → K j u) → (j : ℕ) (u : V) → get_elem? (set vs id w) j ≡ some u → K j u
  each_set K vs id w mine others j u e = ⊎_elim
      (λ (t : (j ≡ id) × (w ≡ u)). subst (λ (x : ℕ × V). K x.0 x.1) (λ i. (sym t.0 i, t.1 i)) mine)
      (λ (t : (j ≢ id) × (get_elem? vs j ≡ some u)). others j u t.0 t.1)
      (at_set vs id j w u e)

  -- each ticket is still held once, where no other seat holds the ticket of the new view
  once_set : (vs : List V) (id : ℕ) (w : V) → HeldOnce vs
      → ((t j : ℕ) (u : V) → w.ticket ≡ Some t → get_elem? vs j ≡ some u → u.ticket ≡ Some t → j ≡ id)
      → HeldOnce (set vs id w)
  once_set vs id w once alone i j v u t a b p q = ⊎_elim
      (λ (x : (i ≡ id) × (w ≡ v)). ⊎_elim
      (λ (y : (j ≡ id) × (w ≡ u)). x.0 ∙ sym y.0)
      (λ (y : (j ≢ id) × (get_elem? vs j ≡ some u)). absurd (y.0 (alone t j u (ap (λ (z : V). z.ticket) x.1 ∙ p) y.1 q)))
      (at_set vs id j w u b))
      (λ (x : (i ≢ id) × (get_elem? vs i ≡ some v)). ⊎_elim
      (λ (y : (j ≡ id) × (w ≡ u)). absurd (x.0 (alone t i v (ap (λ (z : V). z.ticket) y.1 ∙ q) x.1 p)))
      (λ (y : (j ≢ id) × (get_elem? vs j ≡ some u)). once i j v u t x.1 y.1 p q)
      (at_set vs id j w u b))
      (at_set vs id i w v a)

  same_ticket : (vs : List V) (id : ℕ) (v w : V) → HeldOnce vs → get_elem? vs id ≡ some v → w.ticket ≡ v.ticket
      → (t j : ℕ) (u : V) → w.ticket ≡ Some t → get_elem? vs j ≡ some u → u.ticket ≡ Some t → j ≡ id
  same_ticket vs id v w once at same t j u p b q = once j id u v t b at q (sym same ∙ p)

  no_ticket : (vs : List V) (id : ℕ) (w : V) → w.ticket ≡ None → (t j : ℕ) (u : V) → w.ticket ≡ Some t → get_elem? vs j ≡ some u → u.ticket ≡ Some t → j ≡ id
  no_ticket vs id w empty t j u p b q = absurd (cc)

  -- a view that is spent stays so, where no pass comes back
  spent_set : (vs : List V) (id m : ℕ) (v w : V) → get_elem? vs id ≡ some v → (v.spent ≡ true → w.spent ≡ true) → ((u : V) × (get_elem? vs m ≡ some u) × (u.spent ≡ true)) → (u : V) × (get_elem? (set vs id w) m ≡ some u) × (u.spent ≡ true)
  spent_set vs id m v w at stays u = dite (ℕ_discrete m id)
      (λ e. (w, subst (λ (k : ℕ). get_elem? (set vs id w) k ≡ some w) (sym e) (set_here vs id w (at_within vs id v at)), stays (ap (λ (z : V). z.spent) (some-injective v u.0 (sym at ∙ ap (get_elem? vs) (sym e) ∙ u.1)) ∙ u.2)))
      (λ ne. (u.0, set_else vs id m w ne ∙ u.1, u.2))

  gone_set : (vs : List V) (id : ℕ) (v w : V) → TellersGone vs → get_elem? vs id ≡ some v → w.spent ≡ v.spent
      → ((m : ℕ) → w.teller ≡ Some m → v.teller ≡ Some m) → TellersGone (set vs id w)
  gone_set vs id v w gone at same still = λ j m u b p. spent_set vs id m v w at (λ e. same ∙ e) (⊎_elim
      (λ (x : (j ≡ id) × (w ≡ u)). gone id m v at (still m (ap (λ (z : V). z.teller) x.1 ∙ p)))
      (λ (x : (j ≢ id) × (get_elem? vs j ≡ some u)). gone j m u x.1 p)
      (at_set vs id j w u b))

  no_teller : (v : V) → None ≡ v.teller → (m : ℕ) → None ≡ Some m → v.teller ≡ Some m
  no_teller v e m p = absurd (cc)

  off : (m : ℕ) → None ≡ Some m → ⊥
  off m e = cc

  some_same : (g g' : G) → Some g ≡ Some g' → g ≡ g'
  some_same g g' e = cc

  no_basis : (g : G) → None ≡ Some g → ⊥
  no_basis g e = cc

  not_spent : (v : V) → v.spent ≡ false → v.spent ≡ true → ⊥
  not_spent v a b = true≢false (sym b ∙ a)

  -- a step that changes no word and no slot
  unmoved : (s : St) (r : Rule s) (i id : ℕ) (cs : List (ℕ × Option S)) (v w : V) → get_elem? s.views id ≡ some v → w.ticket ≡ v.ticket → w.spent ≡ v.spent → ((m : ℕ) → w.teller ≡ Some m → v.teller ≡ Some m) → Fits r.log r.tickets Basis id w
      → Rule (stepped s i (get_or s.words i 0) id cs w keeps)
  unmoved s r i id cs v w at same living still mine = subst (λ (ws : List ℕ). Rule record { words = ws; homes = s.homes; views = set s.views id w }) (sym (set-get_or s.words i 0)) record {
    log = r.log;
    tickets = r.tickets;
    home = r.home;
    bells = r.bells;
    words = r.words;
    served = r.served;
    most = r.most;
    slot = r.slot;
    each = each_set (Fits r.log r.tickets Basis) s.views id w mine (λ j u _. r.each j u);
    once = once_set s.views id w r.once (same_ticket s.views id v w r.once at same);
    unmade = λ j l. r.unmade j (subst (λ (k : ℕ). k ≤ j) (length-set s.views id w) l);
    gone = gone_set s.views id v w r.gone at living still;
  }

  -- the history at a word
  words_at : (s : St) (r : Rule s) → (get_or s.words 0 0 ≡ r.tickets) × (get_or s.words 1 0 ≡ length r.log) × (get_or s.words 2 0 ≡ r.home)
  words_at s r = (ap (λ (ws : List ℕ). get_or ws 0 0) r.words, ap (λ (ws : List ℕ). get_or ws 1 0) r.words, ap (λ (ws : List ℕ). get_or ws 2 0) r.words)

  -- a pass whose ticket is the number of entries that it has seen has seen the whole history
  pub whole_at_turn : (s : St) (r : Rule s) (id : ℕ) (v : V) (t : ℕ) → get_elem? s.views id ≡ some v → v.spent ≡ false → v.ticket ≡ Some t → length v.seen ≡ t → r.log ≡ v.seen
  whole_at_turn s r id v t at living ticket long = let f = r.each id v at in let k = (f.waits t ticket).0 in extends_whole id v.seen r.log (f.lives living).seen (omega arith)

  -- a pass that is not spent sees the whole history
  fits_seen : (s : St) (r : Rule s) (id : ℕ) (v : V) → Fits r.log r.tickets Basis id v → Fits r.log r.tickets Basis id (with_seen v r.log)
  fits_seen s r id v f = record {
    lives = λ a. let h = f.lives a in record {
      based = h.based;
      seen = extends_same id r.log;
      told = λ m p. absurd (off m p);
      told_based = λ g p. absurd (no_basis g p);
      number = h.number;
      fresh = h.fresh;
    };
    parent = f.parent;
    waits = f.waits;
  }

  pub looks : (slots id : ℕ) (me : Sat S E G) → me.0.spent ≡ false → Allows Rule slots id me 1 (λ x. x) (Looks (step slots 1 0 0 none) me)
  looks slots id me living s r _ at _ = let v : V = me.0 in let f = r.each id v at in let w : V = with_seen v r.log in (
    w,
    keeps,
    tt,
    unmoved s r 1 id me.1 v w at refl refl (λ m p. absurd (off m p)) (fits_seen s r id v f),
    (
      refl,
      refl,
      sym (words_at s r).1,
      λ n e. let h = f.lives living in subst (λ (k : ℕ). Extends k v.seen r.log) (sym (h.number n e)) h.seen,
    ),
  )

  -- a load of word 0 by which a pass gets its number
  pub numbers : (slots id : ℕ) (me : Sat S E G) → me.0.spent ≡ false → me.0.number ≡ None → Allows Rule slots id me 0 (λ x. x) (Numbered (step slots 0 0 0 none) me)
  numbers slots id me living fresh s r _ at _ = let v : V = me.0 in let f = r.each id v at in let w : V = with_number v id in (
    w,
    keeps,
    tt,
    unmoved s r 0 id me.1 v w at refl refl (λ m p. p) record {
      lives = λ a. let h = f.lives a in record {
        based = h.based;
        seen = h.seen;
        told = h.told;
        told_based = h.told_based;
        number = λ n p. sym (cc);
        fresh = λ p. absurd (cc);
      };
      parent = λ n p. absurd (off n p);
      waits = f.waits;
    },
    let h = f.lives living in
        (refl, (id, refl, extends_none id v.seen r.log h.seen (h.fresh fresh), λ n p o. f.parent n p (sym o))),
  )

  draw_rule : (s : St) (r : Rule s) (id : ℕ) (cs : List (ℕ × Option S)) (v : V) → get_elem? s.views id ≡ some v → r.tickets < 2 ^ 62 → Rule (stepped s 0 (r.tickets + 1) id cs (with_ticket v (Some r.tickets)) keeps)
  draw_rule s r id cs v at room = let w : V = with_ticket v (Some r.tickets) in let f = r.each id v at in let served = r.served in record {
    log = r.log;
    tickets = r.tickets + 1;
    home = r.home;
    bells = r.bells;
    words = ap (λ (ws : List ℕ). set ws 0 (r.tickets + 1)) r.words;
    served = omega arith;
    most = omega arith;
    slot = r.slot;
    each = each_set (Fits r.log (r.tickets + 1) Basis) s.views id w
        record {
          lives = λ a. let h = f.lives a in record { based = h.based; seen = h.seen; told = h.told; told_based = h.told_based; number = h.number; fresh = h.fresh };
          parent = f.parent;
          waits = λ t p. let e : r.tickets ≡ t = cc in (omega arith, omega arith);
        }
        (λ j u _ b. let h = r.each j u b in record {
          lives = h.lives;
          parent = h.parent;
          waits = λ t p. let k = h.waits t p in (k.0, omega arith);
        });
    once = once_set s.views id w r.once (λ t j u p b q. let e : r.tickets ≡ t = cc in let k = (r.each j u b).waits t q in absurd (omega arith));
    unmade = λ j l. r.unmade j (subst (λ (k : ℕ). k ≤ j) (length-set s.views id w) l);
    gone = gone_set s.views id v w r.gone at refl (λ m p. p);
  }

  pub draws : (slots id : ℕ) (me : Sat S E G) (old new : ℕ) → new ≡ old + 1 → old < 2 ^ 62 → me.0.ticket ≡ None → Allows Rule slots id me 0 (λ x. either (eqb x old) new x) (Draws (step slots 0 old new none) me)
  draws slots id me old new up room idle s r _ at _ = let x : ℕ = get_or s.words 0 0 in let v : V = me.0 in let here = (words_at s r).0 in dite (ℕ_discrete x old)
      (λ hit. let now : r.tickets ≡ old = sym here ∙ hit in let w : V = with_ticket v (Some old) in (
        w,
        keeps,
        tt,
        subst (λ (b : ℕ). Rule (stepped s 0 b id me.1 w keeps)) (sym (exchanged_hit x old new hit))
            (subst (λ (z : ℕ × ℕ). Rule (stepped s 0 z.1 id me.1 (with_ticket v (Some z.0)) keeps)) (λ i. (now i, (ap (λ (k : ℕ). k + 1) now ∙ sym up) i)) (draw_rule s r id me.1 v at (omega arith))),
        (refl, (λ _. refl), (λ miss. absurd (miss hit))),
      ))
      (λ miss. (
        v,
        keeps,
        tt,
        subst (λ (b : ℕ). Rule (stepped s 0 b id me.1 v keeps)) (sym (exchanged_miss x old new miss)) (unmoved s r 0 id me.1 v v at refl refl (λ m p. p) (r.each id v at)),
        (refl, (λ hit. absurd (miss hit)), (λ _. refl)),
      ))

  take_rule : (s : St) (r : Rule s) (id : ℕ) (cs : List (ℕ × Option S)) (v : V) (x : S) → get_elem? s.views id ≡ some v → s.homes ≡ some (Some x) ∷ [] → Rule (stepped s 2 0 id cs v (takes 0 (Some x)))
  take_rule s r id cs v x at homes = record {
    log = r.log;
    tickets = r.tickets;
    home = 0;
    bells = r.bells;
    words = ap (λ (ws : List ℕ). set ws 2 0) r.words;
    served = r.served;
    most = r.most;
    slot = inl (refl, ap (λ (hs : List (Maybe (Option S))). set hs 0 none) homes);
    each = each_set (Fits r.log r.tickets Basis) s.views id v (r.each id v at) (λ j u _. r.each j u);
    once = once_set s.views id v r.once (same_ticket s.views id v v r.once at refl);
    unmade = λ j l. r.unmade j (subst (λ (k : ℕ). k ≤ j) (length-set s.views id v) l);
    gone = gone_set s.views id v v r.gone at refl (λ m p. p);
  }

  out_of : (s : St) (r : Rule s) (id : ℕ) (v : V) (x : S) → get_elem? s.views id ≡ some v → AtHome stands basis_of Basis r.log x → Out stands basis_of v x
  out_of s r id v x at h t living q long = let f = r.each id v at in let same = whole_at_turn s r id v t at living q long in
      subst (λ (z : G × List (Entry E)). AtHome stands basis_of z.0 z.1 x) (λ i. (sym (f.lives living).based i, same i)) h

  pub takes_out : (slots id : ℕ) (me : Sat S E G) → Allows Rule slots id me 2 (λ x. either (eqb x 1) 0 x) (Takes stands basis_of (step slots 2 1 0 none) me)
  takes_out slots id me s r _ at _ = let n : ℕ = get_or s.words 2 0 in let v : V = me.0 in let here = (words_at s r).2 in dite (ℕ_discrete n 1)
      (λ hit. ⊎_elim
      (λ (away : Away stands basis_of r.home s.homes). absurd (omega (arith, away.0)))
      (λ (in_ : Home stands basis_of Basis r.log r.home s.homes). let x = in_.1.0 in (
        v,
        takes 0 (Some x),
        ap (λ (hs : List (Maybe (Option S))). get_elem? hs 0) in_.1.1,
        subst (λ (b : ℕ). Rule (stepped s 2 b id me.1 v (takes 0 (Some x)))) (sym (exchanged_hit n 1 0 hit)) (take_rule s r id me.1 v x at in_.1.1),
        (refl, (λ miss. absurd (miss hit)), (λ _. (x, refl, out_of s r id v x at in_.1.2))),
      ))
      r.slot)
      (λ miss. (
        v,
        keeps,
        tt,
        subst (λ (b : ℕ). Rule (stepped s 2 b id me.1 v keeps)) (sym (exchanged_miss n 1 0 miss)) (unmoved s r 2 id me.1 v v at refl refl (λ m p. p) (r.each id v at)),
        (refl, (λ _. refl), (λ hit. absurd (miss hit))),
      ))

  put_homes : (s : St) (r : Rule s) (x : S) → set s.homes 0 (some (Some x)) ≡ some (Some x) ∷ []
  put_homes s r x = ⊎_elim
      (λ (away : Away stands basis_of r.home s.homes). ap (λ (hs : List (Maybe (Option S))). set hs 0 (some (Some x))) away.1)
      (λ (in_ : Home stands basis_of Basis r.log r.home s.homes). ap (λ (hs : List (Maybe (Option S))). set hs 0 (some (Some x))) in_.1.1)
      r.slot

  -- the slot goes home, with a state that stands for a beginning of what the pass has seen
  pub puts_in : (slots id : ℕ) (v : V) (x : S) → v.spent ≡ false → AtHome stands basis_of v.basis v.seen x → Allows Rule slots id (v, (0, Some x) ∷ []) 2 (λ _. 1) (λ _. Puts (step slots 2 1 0 none) (v, (0, Some x) ∷ []) 1)
  puts_in slots id v x living h s r _ at _ = let f = r.each id v at in let l = f.lives living in (
    v,
    gives,
    tt,
    record {
      log = r.log;
      tickets = r.tickets;
      home = 1;
      bells = r.bells;
      words = ap (λ (ws : List ℕ). set ws 2 1) r.words;
      served = r.served;
      most = r.most;
      slot = inr (refl, (x, put_homes s r x, at_home stands basis_of id Basis v.seen r.log x l.seen (subst (λ (z : G). AtHome stands basis_of z v.seen x) l.based h)));
      each = each_set (Fits r.log r.tickets Basis) s.views id v f (λ j u _. r.each j u);
      once = once_set s.views id v r.once (same_ticket s.views id v v r.once at refl);
      unmade = λ j l. r.unmade j (subst (λ (k : ℕ). k ≤ j) (length-set s.views id v) l);
      gone = gone_set s.views id v v r.gone at refl (λ m p. p);
    },
    (refl, refl),
  )

  -- the one event: the holder of the ticket that is served raises the word
  raise_rule : (s : St) (r : Rule s) (id : ℕ) (cs : List (ℕ × Option S)) (v : V) (e : E) (t new : ℕ) → get_elem? s.views id ≡ some v → v.spent ≡ false → v.number ≡ Some id → v.ticket ≡ Some t → length v.seen ≡ t → new ≡ t + 1
      → Rule (stepped s 1 new id cs (given v id e) keeps)
  raise_rule s r id cs v e t new at living number ticket long up =
      let f = r.each id v at in
      let k = f.waits t ticket in
      let same : r.log ≡ v.seen = whole_at_turn s r id v t at living ticket long in
      let one : List (Entry E) = entry id e ∷ [] in
      let log : List (Entry E) = r.log ++ one in
      let whole : log ≡ v.seen ++ one = ap (λ l. l ++ one) same in
      let w : V = given v id e in
      let longer_by : length log ≡ length r.log + 1 = length-append r.log one in
      let is : new ≡ length log = omega (arith, ap length same) in
      record {
        log = log;
        tickets = r.tickets;
        home = r.home;
        bells = r.bells;
        words = ap (λ (ws : List ℕ). set ws 1 new) r.words ∙ ap (λ (n : ℕ). r.tickets ∷ n ∷ r.home ∷ r.bells) is;
        served = omega arith;
        most = r.most;
        slot = ⊎_elim (λ h. inl h) (λ h. inr (h.0, (h.1.0, h.1.1, at_home stands basis_of (suc id) Basis r.log log h.1.0 (record { rest = one; whole = refl; others = own_other (suc id) id e (λ o. omega arith) }) h.1.2))) r.slot;
        each = each_set (Fits log r.tickets Basis) s.views id w
            record {
              lives = λ a. let h = f.lives a in record {
                based = h.based;
                seen = subst (λ (l : List (Entry E)). Extends id (v.seen ++ one) l) (sym whole)
                    (extends_same id (v.seen ++ one));
                told = λ m q. absurd (off m q);
                told_based = λ g q. absurd (no_basis g q);
                number = h.number;
                fresh = λ q. absurd (cc);
              };
              parent = f.parent;
              waits = λ t' p. absurd (cc);
            }
            (λ j u apart b. let h = r.each j u b in record {
              lives = λ a. let l = h.lives a in record {
                based = l.based;
                seen = extends_on j u.seen r.log one l.seen (own_other j id e (λ q. apart (sym q)));
                told = λ m q. extends_on m u.told r.log one (l.told m q)
                    (own_other m id e (λ o. let x = r.gone j m u b q in not_spent v living
                    (ap (λ (z : V). z.spent) (some-injective v x.0 (sym at ∙ ap (get_elem? s.views) o ∙ x.1)) ∙ x.2)));
                told_based = l.told_based;
                number = l.number;
                fresh = λ q. own-append j r.log one ∙ (λ i. l.fresh q i ++ own_other j id e (λ o. apart (sym o)) i);
              };
              parent = h.parent;
              waits = λ t' q. let m = h.waits t' q in let other : t' ≢ t = (λ o. apart (r.once j id u v t' b at q (ticket ∙ ap Some (sym o)))) in (omega arith, m.1);
            });
        once = once_set s.views id w r.once (no_ticket s.views id w refl);
        unmade = λ j l. let inside = at_within s.views id v at in let l' : length s.views ≤ j = subst (λ (n : ℕ). n ≤ j) (length-set s.views id w) l in
            own-append j r.log one ∙ (λ i. r.unmade j l' i ++ own_other j id e (λ o. omega arith) i);
        gone = gone_set s.views id v w r.gone at refl (λ m p. absurd (off m p));
      }

  pub raises : (slots id : ℕ) (me : Sat S E G) (n : ℕ) (e : E) (t : ℕ) → me.0.spent ≡ false → me.0.number ≡ Some n → me.0.ticket ≡ Some t → length me.0.seen ≡ t
      → Allows Rule slots id me 1 (λ x. (x + 1) % 2 ^ 64) (Raises e (step slots 1 1 0 none) me)
  raises slots id me n e t living number ticket long s r _ at _ =
      let v : V = me.0 in let f = r.each id v at in let is : n ≡ id = (f.lives living).number n number in
      let w : V = given v n e in
      let x : ℕ = get_or s.words 1 0 in
      let here : x ≡ length r.log = (words_at s r).1 in
      let same : r.log ≡ v.seen = whole_at_turn s r id v t at living ticket long in
      let few = (f.waits t ticket).1 in let most = r.most in
      let up : (x + 1) % 2 ^ 64 ≡ t + 1 = omega (arith, ap length same) in (
        w,
        keeps,
        tt,
        subst (λ (k : ℕ). Rule (stepped s 1 ((x + 1) % 2 ^ 64) id me.1 (given v k e) keeps)) (sym is)
            (raise_rule s r id me.1 v e t ((x + 1) % 2 ^ 64) at living (number ∙ ap Some is) ticket long up),
        (refl, (λ n' p. let a : n ≡ n' = cc in (λ i. given v (a i) e))),
      )

  pub splits : (id : ℕ) (v : V) → v.spent ≡ false → v.ticket ≡ None → Splits Rule id v v (copy v)
  splits id v living idle s r at = let vs : List V = set s.views id v in let back : vs ≡ s.views = set_again s.views id v at in record {
    log = r.log;
    tickets = r.tickets;
    home = r.home;
    bells = r.bells;
    words = r.words;
    served = r.served;
    most = r.most;
    slot = r.slot;
    each = λ j u b. ⊎_elim
        (λ (h : get_elem? vs j ≡ some u). r.each j u (subst (λ (l : List V). get_elem? l j ≡ some u) back h))
        (λ (h : (copy v ≡ u) × (j ≡ length vs)). subst (λ (z : V). Fits r.log r.tickets Basis j z) h.0 (copied r.log r.tickets id j v living (let inside = at_within s.views id v at in let same : length vs ≡ length s.views = ap length back in omega (arith, h.1)) (r.each id v at) (r.unmade j (subst (λ (l : List V). length l ≤ j) back (omega arith)))))
        (at_end vs (copy v) u j b);
    once = λ i j u w t a b p q. ⊎_elim
        (λ (x : get_elem? vs i ≡ some u). ⊎_elim
        (λ (y : get_elem? vs j ≡ some w). r.once i j u w t (subst (λ (l : List V). get_elem? l i ≡ some u) back x) (subst (λ (l : List V). get_elem? l j ≡ some w) back y) p q)
        (λ (y : (copy v ≡ w) × (j ≡ length vs)). absurd (off t (ap (λ (z : V). z.ticket) y.0 ∙ q)))
        (at_end vs (copy v) w j b))
        (λ (x : (copy v ≡ u) × (i ≡ length vs)). absurd (off t (ap (λ (z : V). z.ticket) x.0 ∙ p)))
        (at_end vs (copy v) u i a);
    unmade = λ j l. r.unmade j (subst (λ (k : List V). length k ≤ j) back (omega (arith, length-append vs (copy v ∷ []))));
    gone = λ j m u b p. ⊎_elim
        (λ (x : get_elem? vs j ≡ some u). let old = r.gone j m u (subst (λ (l : List V). get_elem? l j ≡ some u) back x) p in
        (old.0, at_longer vs (copy v ∷ []) m old.0 (subst (λ (l : List V). get_elem? l m ≡ some old.0) (sym back) old.1), old.2))
        (λ (x : (copy v ≡ u) × (j ≡ length vs)). absurd (off m (ap (λ (z : V). z.teller) x.0 ∙ p)))
        (at_end vs (copy v) u j b);
  }
    where
      copied : (log : List (Entry E)) (tickets id j : ℕ) (v : V) → v.spent ≡ false → id < j → Fits log tickets Basis id v → own j log ≡ [] → Fits log tickets Basis j (copy v)
      copied log tickets id j v living later f empty = let h = f.lives living in let go = h.seen in record {
        lives = λ _. record {
          based = h.based;
          seen = record {
            rest = go.rest;
            whole = go.whole;
            others = tail_none j v.seen go.rest
                (sym (own-append j v.seen go.rest) ∙ sym (ap (own j) go.whole) ∙ empty);
          };
          told = λ m q. absurd (off m q);
          told_based = λ g q. absurd (no_basis g q);
          number = λ n q. absurd (cc);
          fresh = λ q. empty;
        };
        parent = λ n q o. let is = h.number n q in omega arith;
        waits = λ t p. absurd (cc);
      }

  pub joins : (id : ℕ) (v : V) (other : ℕ) (w : V) (g : G) → w.spent ≡ false → Joins Rule id v other w (informed v w) (spent g)
  joins id v other w g living s r at apart there =
      let x : V = informed v w in let left : V = spent g in let vs : List V = set s.views id x in
      let theirs : get_elem? s.views other ≡ some w = ⊎_elim (λ (t : (other ≡ id) × (x ≡ w)). absurd (apart t.0)) (λ (t : (other ≢ id) × (get_elem? s.views other ≡ some w)). t.1) (at_set s.views id other x w there) in
      let f = r.each id v at in let h = r.each other w theirs in let l = h.lives living in record {
        log = r.log;
        tickets = r.tickets;
        home = r.home;
        bells = r.bells;
        words = r.words;
        served = r.served;
        most = r.most;
        slot = r.slot;
        each = each_set (Fits r.log r.tickets Basis) vs other left
            record {
              lives = λ p. absurd (true≢false p);
              parent = λ n p. absurd (off n p);
              waits = λ t p. absurd (cc);
            }
            (λ j u _ b. each_set (Fits r.log r.tickets Basis) s.views id x
            record {
              lives = λ a. let mine = f.lives a in record {
                based = mine.based;
                seen = mine.seen;
                told = λ m q. subst (λ (k : ℕ). Extends k w.seen r.log) (sym (l.number m q)) l.seen;
                told_based = λ g' q. sym (some_same w.basis g' q) ∙ l.based;
                number = mine.number;
                fresh = mine.fresh;
              };
              parent = f.parent;
              waits = f.waits;
            }
            (λ i y _ c. r.each i y c) j u b);
        once = once_set vs other left (once_set s.views id x r.once (same_ticket s.views id v x r.once at refl)) (no_ticket vs other left refl);
        unmade = λ j l. r.unmade j (subst (λ (k : ℕ). k ≤ j) (length-set vs other left ∙ length-set s.views id x) l);
        gone = λ j m u b p. ⊎_elim
            (λ (y : (j ≡ other) × (left ≡ u)). absurd (off m (ap (λ (z : V). z.teller) y.1 ∙ p)))
            (λ (y : (j ≢ other) × (get_elem? vs j ≡ some u)). ⊎_elim
            (λ (z : (j ≡ id) × (x ≡ u)). let is : m ≡ other = l.number m (ap (λ (a : V). a.teller) z.1 ∙ p) in
            (left, subst (λ (k : ℕ). get_elem? (set vs other left) k ≡ some left) (sym is) (set_here vs other left (at_within vs other w there)), refl))
            (λ (z : (j ≢ id) × (get_elem? s.views j ≡ some u)). spent_set vs other m w left there (λ _. refl) (spent_set s.views id m v x at (λ e. e) (r.gone j m u z.1 p)))
            (at_set s.views id j x u y.1))
            (at_set vs other j left u b);
      }

  pub compares : (slots id : ℕ) (me : Sat S E G) (n m : ℕ) → me.0.spent ≡ false → me.0.number ≡ Some n
      → me.0.teller ≡ Some m → Allows Rule slots id me 0 (λ x. x) (Compares (step slots 0 0 0 none) me)
  compares slots id me n m living number teller s r _ at _ =
      let v : V = me.0 in let f = r.each id v at in let h = f.lives living in let told = h.told m teller in
      let c = longer_of id m v.seen v.told r.log h.seen told in
      let w : V = with_seen v (longer v.seen v.told) in
      let mine : n ≡ id = h.number n number in
      let x = r.gone id m v at teller in
      let apart : n ≢ m = λ o. not_spent v living
      (ap (λ (z : V). z.spent) (some-injective v x.0 (sym at ∙ ap (get_elem? s.views) (sym mine ∙ o) ∙ x.1)) ∙ x.2) in
      let both : Compared n m v.seen v.told w.seen = record {
        apart = apart;
        first = subst (λ (k : ℕ). Extends k v.seen w.seen) (sym mine) c.1;
        second = c.2;
      } in (
        w,
        keeps,
        tt,
        unmoved s r 0 id me.1 v w at refl refl (λ k p. absurd (off k p)) record {
          lives = λ _. record {
            based = h.based;
            seen = c.0;
            told = λ k p. absurd (off k p);
            told_based = λ g p. absurd (no_basis g p);
            number = h.number;
            fresh = h.fresh;
          };
          parent = f.parent;
          waits = f.waits;
        },
        (
          refl,
          refl,
          (λ n' m' p q. let a : n ≡ n' = cc in let b : m ≡ m' = cc in
              subst (λ (z : ℕ × ℕ). Compared z.0 z.1 v.seen v.told w.seen) (λ i. (a i, b i)) both),
          λ g p. h.based ∙ sym (h.told_based g p),
        ),
      )

  bell_rings : (slots id k : ℕ) (me : Sat S E G)
      → Allows Rule slots id me (suc (suc (suc k))) (λ x. (x + 1) % 2 ^ 64) (Rings (step slots (suc (suc (suc k))) 1 0 none) me)
  bell_rings slots id k me s r _ at _ = let v : V = me.0 in let new : ℕ = (get_or s.words (suc (suc (suc k))) 0 + 1) % 2 ^ 64 in (
    v,
    keeps,
    tt,
    record {
      log = r.log;
      tickets = r.tickets;
      home = r.home;
      bells = set r.bells k new;
      words = ap (λ (ws : List ℕ). set ws (suc (suc (suc k))) new) r.words;
      served = r.served;
      most = r.most;
      slot = r.slot;
      each = each_set (Fits r.log r.tickets Basis) s.views id v (r.each id v at) (λ j u _. r.each j u);
      once = once_set s.views id v r.once (same_ticket s.views id v v r.once at refl);
      unmade = λ j l. r.unmade j (subst (λ (k' : ℕ). k' ≤ j) (length-set s.views id v) l);
      gone = gone_set s.views id v v r.gone at refl (λ m p. p);
    },
    refl,
  )

  -- a bell changes nothing that the rule speaks of
  pub rings : (slots id i : ℕ) (me : Sat S E G) → 3 ≤ i
      → Allows Rule slots id me i (λ x. (x + 1) % 2 ^ 64) (Rings (step slots i 1 0 none) me)
  rings slots id zero me h = absurd (omega arith)
  rings slots id (suc zero) me h = absurd (omega arith)
  rings slots id (suc (suc zero)) me h = absurd (omega arith)
  rings slots id (suc (suc (suc k))) me h = bell_rings slots id k me

  -- the table at the start
  pub opens : (bells : List ℕ) → stands first []
      → Rule (opening (0 ∷ 0 ∷ 1 ∷ bells) (Some first ∷ []) (knows (Some 0) None [] Basis))
  opens bells empty = record {
    log = [];
    tickets = 0;
    home = 1;
    bells = bells;
    words = refl;
    served = omega arith;
    most = omega arith;
    slot = inr (refl, (first, refl, record { same = refl; count = 0; within = omega arith; stands_for = empty }));
    each = only;
    once = λ i j v w t a b p q. sym (zero_at i v a) ∙ zero_at j w b;
    unmade = λ j l. refl;
    gone = λ j m v a p. absurd (first_view j m v a p);
  }
    where
      first_view : (j m : ℕ) (v : V) → get_elem? (knows (Some 0) None [] Basis ∷ []) j ≡ some v → v.teller ≡ Some m → ⊥
      first_view zero m v a p = off m (ap (λ (z : V). z.teller) (some-injective _ v a) ∙ p)
      first_view (suc j) m v a p = some-ne-none v (sym a)

      only : (id : ℕ) (v : V) → get_elem? (knows (Some 0) None [] Basis ∷ []) id ≡ some v → Fits [] 0 Basis id v
      only zero v e = subst (Fits [] 0 Basis 0) (some-injective _ _ e) record {
        lives = λ _. record {
          based = refl;
          seen = extends_same 0 [];
          told = λ m q. absurd (off m q);
          told_based = λ g q. absurd (no_basis g q);
          number = λ n q. cc;
          fresh = λ q. refl;
        };
        parent = λ n q. absurd (off n q);
        waits = λ t p. absurd (cc);
      }
      only (suc id) v e = absurd (some-ne-none v (sym e))

      zero_at : (i : ℕ) (v : V) → get_elem? (knows (Some 0) None [] Basis ∷ []) i ≡ some v → 0 ≡ i
      zero_at zero v e = refl
      zero_at (suc i) v e = absurd (some-ne-none v (sym e))

  -- the slot goes home, at a seat that has it
  pub puts : (slots id : ℕ) (me : Sat S E G) (x : S) → me.1 ≡ (0, Some x) ∷ [] → me.0.spent ≡ false → AtHome stands basis_of me.0.basis me.0.seen x → Allows Rule slots id me 2 (λ _. 1) (λ _. Puts (step slots 2 1 0 none) me 1)
  puts slots id me x e living h = subst (λ (cs : List (ℕ × Option S)). Allows Rule slots id (me.0, cs) 2 (λ _. 1) (λ _. Puts (step slots 2 1 0 none) (me.0, cs) 1)) (sym e) (puts_in slots id me.0 x living h)

  -- the table at the start, by other names
  pub opens_as : (about : S) (slots : List (Option S)) (words bells : List ℕ) → about ≡ first → slots ≡ Some first ∷ []
      → words ≡ 0 ∷ 0 ∷ 1 ∷ bells → stands first []
      → Kept stands basis_of about (opening words slots (knows (Some 0) None [] (basis_of about)))
  opens_as about slots words bells same is are empty = subst
      (λ (z : S × List (Option S) × List ℕ).
      Kept stands basis_of z.0 (opening z.2 z.1 (knows (Some 0) None [] (basis_of z.0))))
      (λ i. (sym same i, sym is i, sym are i)) (opens bells empty)
