-- What holds of every state that a run reaches: open jobs have no cohort in common, and who is due is in none.
use Rattle.std.proofs.Common.{◌≡◌, ◌≢◌, inl, inr, ◌∙◌, sym, ap, refl, subst, ℕ, ◌≤◌, ◌==◌, true, false, ◌&&◌, List, [], ◌∷◌, ◌++◌, length, append-nil, map, arith}
use Rattle.std.specs.List.{list_any}
use Rattle.std.proofs.lemmas.Bool.{eqb-true, eq-eqb, true≢false}
use Rattle.std.proofs.lemmas.List.{length-map, length-append}
use Rattle.machine.specs.State.{State, Subscription, Job}
use Rattle.machine.specs.Batches.{are_of_one_cohort, is_member, is_busy, is_due}
use Rattle.run_laws.specs.Laws.{EachPair, version_of}
use Rattle.run_laws.proofs.Among.{Among, among_append, among_map, and_true, and_both, not_true, any_among, among_any}
use Rattle.run_laws.proofs.SameCohort.{cohort_equiv}
use Rattle.run_laws.proofs.Following.{Alike, IsNewer}

-- there is a subscription of this number
abbrev pub IsKnown : List Subscription → ℕ → Type 0
IsKnown subs number = (sub : Subscription) × Among sub subs × (sub.number ≡ number)

abbrev pub HaveOtherNumbers : Job → Job → Type 0
HaveOtherNumbers i j = i.number ≢ j.number

-- the subscriptions have numbers of their own, up to their count
pub record AreNumbered (subs : List Subscription) : Type 0 where
  pub bounded : (x : Subscription) → Among x subs → x.number ≤ length subs
  pub unique : (x y : Subscription) → Among x subs → Among y subs → x.number ≡ y.number → x ≡ y

pub record Sound (s : State) : Type 0 where
  pub numbered : AreNumbered s.subscriptions
  pub members_known : (job : Job) → Among job s.jobs → (number : ℕ) → is_member number job ≡ true → IsKnown s.subscriptions number
  pub due_known : (number : ℕ) → Among number s.due → IsKnown s.subscriptions number
  pub idle : (x : Subscription) → Among x s.subscriptions → is_due s.due x ≡ true → (x.live ≡ true) × (is_busy s.subscriptions s.jobs x ≡ false)
  pub apart : (i j : Job) → Among i s.jobs → Among j s.jobs → (a b : Subscription) → Among a s.subscriptions → Among b s.subscriptions → are_of_one_cohort a b ≡ true → is_member a.number i ≡ true → is_member b.number j ≡ true → i.number ≡ j.number
  pub distinct : EachPair HaveOtherNumbers s.jobs
  pub counted : (job : Job) → Among job s.jobs → job.number ≤ s.jobs_made
  pub versions : (job : Job) → Among job s.jobs → job.version ≤ version_of s

-- cohorts

pub cohort_own : (a : Subscription) → are_of_one_cohort a a ≡ true
cohort_own a = cohort_equiv.refl a

pub cohort_symm : (a b : Subscription) → are_of_one_cohort a b ≡ true → are_of_one_cohort b a ≡ true
cohort_symm a b h = cohort_equiv.symm b a ∙ h

pub cohort_then : (a b c : Subscription) → are_of_one_cohort a b ≡ true → are_of_one_cohort b c ≡ true → are_of_one_cohort a c ≡ true
cohort_then a b c h i = cohort_equiv.congr a b c h ∙ i

-- a member of an open job makes its cohort busy
pub busy_by : (subs : List Subscription) (jobs : List Job) (x o : Subscription) (i : Job) → Among o subs → Among i jobs → are_of_one_cohort x o ≡ true → is_member o.number i ≡ true → is_busy subs jobs x ≡ true
busy_by subs jobs x o i a b c m =
    among_any (λ (other : Subscription). are_of_one_cohort x other && list_any (is_member other.number) jobs) o subs a
    (and_both (are_of_one_cohort x o) (list_any (is_member o.number) jobs) c (among_any (is_member o.number) i jobs b m))

-- the subscription and the job by which a cohort is busy
pub record Occupied (subs : List Subscription) (jobs : List Job) (x : Subscription) : Type 0 where
  pub other : Subscription
  pub job : Job
  pub other_in : Among other subs
  pub job_in : Among job jobs
  pub cohort : are_of_one_cohort x other ≡ true
  pub member : is_member other.number job ≡ true

pub occupied : (subs : List Subscription) (jobs : List Job) (x : Subscription) → is_busy subs jobs x ≡ true → Occupied subs jobs x
occupied subs jobs x h =
    let o = any_among (λ (other : Subscription). are_of_one_cohort x other && list_any (is_member other.number) jobs) subs h in
    let both = and_true (are_of_one_cohort x o.0) (list_any (is_member o.0.number) jobs) o.2 in
    let j = any_among (is_member o.0.number) jobs both.1 in
    record { other = o.0; job = j.0; other_in = o.1; job_in = j.1; cohort = both.0; member = j.2 }

pub not_busy : (subs : List Subscription) (jobs : List Job) (x : Subscription) → (Occupied subs jobs x → ⊥) → is_busy subs jobs x ≡ false
not_busy subs jobs x h = not_true (is_busy subs jobs x) (λ b. h (occupied subs jobs x b))

-- due numbers
pub due_among : (due : List ℕ) (x : Subscription) → is_due due x ≡ true → Among x.number due
due_among due x h = let r = any_among (λ n. n == x.number) due h in subst (λ (n : ℕ). Among n due) (eqb-true r.0 x.number r.2) r.1

pub among_due : (due : List ℕ) (x : Subscription) → Among x.number due → is_due due x ≡ true
among_due due x a = among_any (λ n. n == x.number) x.number due a (eq-eqb x.number x.number refl)

-- A due number and an open job: no member of the job is of the due cohort.
pub due_apart : (s : State) → Sound s → (x o : Subscription) (i : Job) → Among x s.subscriptions → is_due s.due x ≡ true → Among o s.subscriptions → Among i s.jobs → are_of_one_cohort x o ≡ true → is_member o.number i ≡ true → ⊥
due_apart s w x o i a d b c h m = true≢false (sym (busy_by s.subscriptions s.jobs x o i b c h m) ∙ (w.idle x a d).1)

-- Subscriptions that change and perhaps one more

pub numbered_mapped : (f : Subscription → Subscription) → Alike f → (subs : List Subscription) → AreNumbered subs → AreNumbered (map f subs)
numbered_mapped f a subs w = record {
  bounded = λ y b.
      let r = among_map f subs y b in
      let number = ap (λ (z : Subscription). z.number) r.2 ∙ a.number r.0 in
      let low = w.bounded r.0 r.1 in
      let count = length-map subs f in
      omega (arith, number, low, count);
  unique = λ y z b c e.
      let p = among_map f subs y b in
      let q = among_map f subs z c in
      let first = ap (λ (u : Subscription). u.number) p.2 ∙ a.number p.0 in
      let second = ap (λ (u : Subscription). u.number) q.2 ∙ a.number q.0 in
      p.2 ∙ ap f (w.unique p.0 q.0 p.1 q.1 (sym first ∙ e ∙ second)) ∙ sym q.2;
}

pub numbered_newer : (subs more : List Subscription) → AreNumbered subs → IsNewer (length subs) more → AreNumbered (subs ++ more)
numbered_newer subs [] w new = subst AreNumbered (sym (append-nil subs)) w
numbered_newer subs (n ∷ []) w new = record {
  bounded = λ y b.
      let count = length-append subs (n ∷ []) in
      elim (among_append y subs (n ∷ []) b) [ inl c ↦ (let low = w.bounded y c in omega (arith, low, count)) | inr c ↦ (let e = ap (λ (u : Subscription). u.number) (only y n c) in let number = new.0 in omega (arith, e, number, count)) ];
  unique = λ y z b c e.
      elim (among_append y subs (n ∷ []) b) [
        | inl p ↦ elim (among_append z subs (n ∷ []) c) [ inl q ↦ w.unique y z p q e | inr q ↦ absurd (apart y z p q e) ]
        | inr p ↦ elim (among_append z subs (n ∷ []) c) [ inl q ↦ absurd (apart z y q p (sym e)) | inr q ↦ only y n p ∙ sym (only z n q) ]
      ];
}
  where
    only : (y n : Subscription) → Among y (n ∷ []) → y ≡ n
    only y n (inl e) = e
    only y n (inr a) = absurd a

    apart : (y z : Subscription) → Among y subs → Among z (n ∷ []) → y.number ≡ z.number → ⊥
    apart y z p q e = let low = w.bounded y p in let same = ap (λ (u : Subscription). u.number) (only z n q) in let number = new.0 in omega (arith, low, same, number, e)
numbered_newer subs (a ∷ b ∷ more) w new = absurd new
