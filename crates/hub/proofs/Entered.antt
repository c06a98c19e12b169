-- What is added and taken out again leaves all as it was.
use Rattle.std.proofs.Common.{◌≡◌, ◌∙◌, sym, ap, refl, subst, ℕ, ◌+◌, ◌<◌, ◌==◌, not, cond, Bool, true, false, List, []}
use Rattle.std.proofs.Common.{◌∷◌, ◌++◌, map, filter, arith}
use Rattle.std.specs.List.{AllByRecursion}
use Rattle.std.proofs.lemmas.Bool.{eqb-true, eq-eqb}
use Rattle.connection_table.specs.Connected.{Connected, at, changed, with_live, without_live}
use Rattle.subscription_table.specs.declared.held.Held.{Held}
use Rattle.subscription_table.specs.Kept.{without}
use Rattle.cohort_map.specs.Entries.{Entry}
use Rattle.machine.specs.State.{State, Subscription}
use Rattle.machine.specs.Run.{run}
use Rattle.hub_model.specs.Kept.{Kept, Represents, Holds, is_kept, kept_of, entry_of, connected, live_of, is_live_on}
use Rattle.hub_model.proofs.Items.{Among, among_filter, among_map, all_from_among, not_true}
use Rattle.hub_model.proofs.Reached.{IsRun}
use Rattle.hub_model.proofs.Numbered.{number_low}
use Rattle.hub_model.proofs.Zipped.{zip_beside}
use Rattle.hub.specs.declared.center.Hub.TheInside.{Inside}
use Rattle.hub.specs.Seen.{seen, IsSound}
use Rattle.hub.proofs.Runs.{is_run}

-- numbers are all below this one
abbrev pub AreBelow : ℕ → List ℕ → Type 0
AreBelow n ns = AllByRecursion (λ m. m < n) ns

-- so are those of the live subscriptions of each connection
abbrev pub LivesAreBelow : ℕ → List Connected → Type 0
LivesAreBelow n cs = AllByRecursion (λ (c : Connected). AreBelow n c.live) cs

pub without_last : {X : Type 0} (f : X → ℕ) (n : ℕ) (x : X) → f x ≡ n → (xs : List X) →
    AllByRecursion (λ y. f y < n) xs → filter (λ y. not (f y == n)) (xs ++ x ∷ []) ≡ xs
without_last {X} f n x e [] all = ap (λ (b : Bool). cond (not b) (x ∷ []) []) (eq-eqb (f x) n e)
without_last {X} f n x e (y ∷ ys) all =
    let low = all.0 in
    let apart : (f y == n) ≡ false =
    not_true (f y == n) (λ h. let same = eqb-true (f y) n h in absurd (omega (arith, low, same))) in
    let rest = filter (λ z. not (f z == n)) (ys ++ x ∷ []) in
    ap (λ (b : Bool). cond (not b) (y ∷ rest) rest) apart
    ∙ ap (λ (l : List X). y ∷ l) (without_last f n x e ys all.1)

forgotten : (n : ℕ) (c : Connected) → AreBelow n c.live → without_live n (with_live n c) ≡ c
forgotten n c all =
    ap (λ (l : List ℕ). record c { live = l }) (without_last (λ (m : ℕ). m) n n refl c.live all)

forgotten_at : (conn n : ℕ) (c : Connected) (b : Bool) → (c.number == conn) ≡ b → AreBelow n c.live →
    at conn (without_live n) (cond b (with_live n c) c) ≡ c
forgotten_at conn n c true e all =
    ap (λ (b : Bool). cond b (without_live n (with_live n c)) (with_live n c)) e ∙ forgotten n c all
forgotten_at conn n c false e all = ap (λ (b : Bool). cond b (without_live n c) c) e

pub all_forgotten : (conn n : ℕ) (cs : List Connected) → LivesAreBelow n cs →
    changed conn (without_live n) (changed conn (with_live n) cs) ≡ cs
all_forgotten conn n [] all = refl
all_forgotten conn n (c ∷ cs) all =
    let one = forgotten_at conn n c (c.number == conn) refl all.0 in
    let more = all_forgotten conn n cs all.1 in cc

pub held_no_more : (h : Held) (hs : List Held) → AllByRecursion (λ (g : Held). g.number < h.number) hs →
    without h.number (hs ++ h ∷ []) ≡ hs
held_no_more h hs all = without_last (λ (g : Held). g.number) h.number h refl hs all

-- ---- the next number is above all others

module _ (k : Kept) (s : State) (r : Represents k s) (w : IsRun s) where
  number_below : (x : Subscription) → Among x s.subscriptions → x.number < k.subscribed + 1
  number_below x a =
      let low = number_low s w x a in
      let count = r.subscribed in omega (arith, low, count)

  kept_below : (x : Subscription) → Among x (kept_of s) → x.number < k.subscribed + 1
  kept_below x a = number_below x (among_filter (is_kept s.jobs) x s.subscriptions a).0

  held_below : AllByRecursion (λ (h : Held). h.number < k.subscribed + 1) k.held
  held_below =
      all_from_among (λ (h : Held). h.number < k.subscribed + 1) k.held (λ h a.
      let y = zip_beside (Holds k.meta) (kept_of s) k.held r.held h a in
      subst (λ (n : ℕ). n < k.subscribed + 1) (sym y.related.number) (kept_below y.left y.among))

  entries_below : AllByRecursion (λ (e : Entry). e.number < k.subscribed + 1) k.entries
  entries_below =
      subst (AllByRecursion (λ (e : Entry). e.number < k.subscribed + 1)) (sym r.entries)
      (all_from_among (λ (e : Entry). e.number < k.subscribed + 1) (map (entry_of s) (kept_of s)) (λ e a.
      let y = among_map (entry_of s) (kept_of s) e a in
      subst (λ (f : Entry). f.number < k.subscribed + 1) (sym y.2) (kept_below y.0 y.1)))

  live_below : (number n : ℕ) → Among n (live_of s.subscriptions number) → n < k.subscribed + 1
  live_below number n a =
      let y = among_map (λ (x : Subscription). x.number) (filter (is_live_on number) s.subscriptions) n a in
      subst (λ (m : ℕ). m < k.subscribed + 1) (sym y.2)
      (number_below y.0 (among_filter (is_live_on number) y.0 s.subscriptions y.1).0)

  lives_below : LivesAreBelow (k.subscribed + 1) k.connections
  lives_below =
      subst (LivesAreBelow (k.subscribed + 1)) (sym r.connections)
      (all_from_among (λ (c : Connected). AreBelow (k.subscribed + 1) c.live)
      (map (connected s.subscriptions) s.connections)
      (λ c a.
      let y = among_map (connected s.subscriptions) s.connections c a in
      all_from_among (λ m. m < k.subscribed + 1) c.live (λ n b.
      live_below y.0.number n (subst (λ (d : Connected). Among n d.live) y.2 b))))

-- what is so of each hub
pub record IsNext (x : Inside) : Type 0 where
  pub lives : LivesAreBelow (x.subscribed + 1) x.connections.connections
  pub held : AllByRecursion (λ (h : Held). h.number < x.subscribed + 1) x.held
  pub entries : AllByRecursion (λ (e : Entry). e.number < x.subscribed + 1) x.cohorts.entries

pub is_next : (x : Inside) → IsSound x → IsNext x
is_next x sound =
    let s = run x.meta sound.history in
    let r = sound.stands.represents in
    let w = is_run x.meta sound.history in
    record {
      lives = lives_below (seen x) s r w;
      held = held_below (seen x) s r w;
      entries = entries_below (seen x) s r w;
    }
