-- Changes that keep jobs apart: subscriptions change and perhaps one comes, jobs may close, and who moved to another cohort
-- is in no open job.
use Rattle.std.proofs.Common.{◌≡◌, ◌⊎◌, inl, inr, ◌∙◌, sym, ap, refl, subst, ℕ, ◌≤◌, ◌==◌, Bool, true, false, ◌&&◌, not, if◌then◌else◌, List, [], ◌∷◌, ◌++◌, append-nil, length, map, filter, arith}
use Rattle.std.specs.List.{list_any}
use Rattle.std.proofs.lemmas.Bool.{eq-eqb, true≢false, not-true}
use Rattle.std.proofs.lemmas.List.{length-map}
use Rattle.scalar_val.specs.declared.val.Val.{Val}
use Rattle.machine.specs.Cohorts.{same_poller, same_binding}
use Rattle.query_model.specs.Queries.{Query, binding_of}
use Rattle.machine.specs.State.{State, Subscription, Job}
use Rattle.machine.specs.Connections.{ended_if}
use Rattle.machine.specs.Batches.{are_of_one_cohort, is_member, is_busy, is_due}
use Rattle.run_laws.specs.Laws.{EachPair, version_of}
use Rattle.run_laws.proofs.Among.{Among, among_left, among_append, among_map, among_filter, and_both, not_true, among_any}
use Rattle.run_laws.proofs.Tests.{map_same}
use Rattle.run_laws.proofs.Following.{Alike, same_alike, ended_alike, ended_unmoved, IsNewer}
use Rattle.run_laws.proofs.Apart.{IsKnown, HaveOtherNumbers, AreNumbered, Sound, not_busy, due_among, among_due, due_apart, numbered_mapped, numbered_newer}

pub record Moves (s t : State) : Type 0 where
  pub change : Subscription → Subscription
  pub alike : Alike change
  pub more : List Subscription
  pub newer : IsNewer (length s.subscriptions) more
  pub subs : t.subscriptions ≡ map change s.subscriptions ++ more
  pub jobs_in : (job : Job) → Among job t.jobs → Among job s.jobs
  pub distinct : EachPair HaveOtherNumbers t.jobs
  pub due_in : (number : ℕ) → Among number t.due → Among number s.due
  pub due_live : (x : Subscription) → Among x s.subscriptions → is_due t.due x ≡ true → (change x).live ≡ true
  pub moved : (x : Subscription) → Among x s.subscriptions → ((change x).cursor ≡ x.cursor) ⊎ (((job : Job) → Among job t.jobs → is_member x.number job ≡ false) × (is_due s.due x ≡ false))
  pub jobs_made : t.jobs_made ≡ s.jobs_made
  pub later : version_of s ≤ version_of t

pub among_mapped : {X Y : Type 0} (f : X → Y) (x : X) (xs : List X) → Among x xs → Among (f x) (map f xs)
among_mapped f x [] a = absurd a
among_mapped f x (z ∷ xs) (inl e) = inl (ap f e)
among_mapped f x (z ∷ xs) (inr a) = inr (among_mapped f x xs a)

pub same_due : (due : List ℕ) (x y : Subscription) → x.number ≡ y.number → is_due due x ≡ is_due due y
same_due due x y e = ap (λ (n : ℕ). list_any (λ k. k == n) due) e

pub same_member : (job : Job) (x y : Subscription) → x.number ≡ y.number → is_member x.number job ≡ is_member y.number job
same_member job x y e = ap (λ (n : ℕ). is_member n job) e

abbrev cohort_by : Query → Val → Query → Val → Bool
cohort_by p c q d = same_poller p q && same_binding (binding_of p c) (binding_of q d)

-- changes that leave query and cursor leave cohorts
cohort_back : (f : Subscription → Subscription) → Alike f → (a b : Subscription) → (f a).cursor ≡ a.cursor → (f b).cursor ≡ b.cursor → are_of_one_cohort a b ≡ are_of_one_cohort (f a) (f b)
cohort_back f k a b c d =
    ap (λ (q : Query). cohort_by q a.cursor b.query b.cursor) (sym (k.query a))
    ∙ ap (λ (v : Val). cohort_by (f a).query v b.query b.cursor) (sym c)
    ∙ ap (λ (q : Query). cohort_by (f a).query (f a).cursor q b.cursor) (sym (k.query b))
    ∙ ap (λ (v : Val). cohort_by (f a).query (f a).cursor (f b).query v) (sym d)

-- where a subscription of the later state comes from, if it is of the same cohort as before
record Origin (s : State) (f : Subscription → Subscription) (z : Subscription) : Type 0 where
  from : Subscription
  within : Among from s.subscriptions
  is : z ≡ f from
  cursor : (f from).cursor ≡ from.cursor

new_unknown : (subs more : List Subscription) → AreNumbered subs → IsNewer (length subs) more → (z : Subscription) → Among z more → IsKnown subs z.number → ⊥
new_unknown subs [] w new z a k = a
new_unknown subs (n ∷ []) w new z (inl e) k =
    let low = w.bounded k.0 k.1 in
    let same = k.2 in
    let is = ap (λ (u : Subscription). u.number) e in
    let number = new.0 in
    omega (arith, low, same, is, number)
new_unknown subs (n ∷ []) w new z (inr a) k = a
new_unknown subs (a ∷ b ∷ more) w new z i k = new

origin : (s t : State) → Sound s → (m : Moves s t) → (z : Subscription) → Among z t.subscriptions → IsKnown s.subscriptions z.number →
    ((x : Subscription) → Among x s.subscriptions → x.number ≡ z.number → (m.change x).cursor ≡ x.cursor) → Origin s m.change z
origin s t w m z a k h =
    elim (among_append z (map m.change s.subscriptions) m.more (subst (λ (l : List Subscription). Among z l) m.subs a)) [
      | inl b ↦ (let r = among_map m.change s.subscriptions z b in
          let number = sym (m.alike.number r.0) ∙ sym (ap (λ (u : Subscription). u.number) r.2) in
          record { from = r.0; within = r.1; is = r.2; cursor = h r.0 r.1 number })
      | inr b ↦ absurd (new_unknown s.subscriptions m.more w.numbered m.newer z b k)
    ]

origin_member : (s t : State) → Sound s → (m : Moves s t) → (z : Subscription) (job : Job) → Among z t.subscriptions → Among job t.jobs → is_member z.number job ≡ true → Origin s m.change z
origin_member s t w m z job a b h =
    origin s t w m z a (w.members_known job (m.jobs_in job b) z.number h)
    (λ x c e. elim (m.moved x c) [ inl same ↦ same | inr free ↦ absurd (true≢false (sym (ap (λ (n : ℕ). is_member n job) e ∙ h) ∙ free.0 job b)) ])

origin_due : (s t : State) → Sound s → (m : Moves s t) → (z : Subscription) → Among z t.subscriptions → is_due t.due z ≡ true → Origin s m.change z
origin_due s t w m z a h =
    let known = m.due_in z.number (due_among t.due z h) in
    origin s t w m z a (w.due_known z.number known)
    (λ x c e. elim (m.moved x c) [ inl same ↦ same | inr free ↦ absurd (true≢false (sym (same_due s.due x z e ∙ among_due s.due z known) ∙ free.1)) ])

known_after : (s t : State) → (m : Moves s t) → (number : ℕ) → IsKnown s.subscriptions number → IsKnown t.subscriptions number
known_after s t m number k = (
  m.change k.0,
  subst (λ (l : List Subscription). Among (m.change k.0) l) (sym m.subs) (among_left (m.change k.0) (map m.change s.subscriptions) m.more (among_mapped m.change k.0 s.subscriptions k.1)),
  m.alike.number k.0 ∙ k.2,
)

number_of_origin : (s : State) (f : Subscription → Subscription) → Alike f → (z : Subscription) (o : Origin s f z) → z.number ≡ o.from.number
number_of_origin s f k z o = ap (λ (u : Subscription). u.number) o.is ∙ k.number o.from

-- one cohort later is one cohort before
cohort_before : (s : State) (f : Subscription → Subscription) → Alike f → (a b : Subscription) (p : Origin s f a) (q : Origin s f b) → are_of_one_cohort a b ≡ true → are_of_one_cohort p.from q.from ≡ true
cohort_before s f k a b p q h =
    cohort_back f k p.from q.from p.cursor q.cursor
    ∙ ap (λ (x : Subscription). are_of_one_cohort x (f q.from)) (sym p.is) ∙ ap (λ (y : Subscription). are_of_one_cohort a y) (sym q.is) ∙ h

idle_after : (s t : State) → Sound s → (m : Moves s t) → (x : Subscription) → Among x t.subscriptions → is_due t.due x ≡ true → (x.live ≡ true) × (is_busy t.subscriptions t.jobs x ≡ false)
idle_after s t w m x a d =
    let o = origin_due s t w m x a d in
    let number = number_of_origin s m.change m.alike x o in
    let due : is_due t.due o.from ≡ true = sym (same_due t.due x o.from number) ∙ d in (
      ap (λ (u : Subscription). u.live) o.is ∙ m.due_live o.from o.within due,
      not_busy t.subscriptions t.jobs x (λ busy.
          let p = origin_member s t w m busy.other busy.job busy.other_in busy.job_in busy.member in
          due_apart s w o.from p.from busy.job o.within (among_due s.due o.from (m.due_in o.from.number (due_among t.due o.from due))) p.within (m.jobs_in busy.job busy.job_in)
          (cohort_before s m.change m.alike x busy.other o p busy.cohort)
          (sym (same_member busy.job busy.other p.from (number_of_origin s m.change m.alike busy.other p)) ∙ busy.member)),
    )

apart_after : (s t : State) → Sound s → (m : Moves s t) → (i j : Job) → Among i t.jobs → Among j t.jobs → (a b : Subscription) → Among a t.subscriptions → Among b t.subscriptions →
    are_of_one_cohort a b ≡ true → is_member a.number i ≡ true → is_member b.number j ≡ true → i.number ≡ j.number
apart_after s t w m i j k l a b c d h e f =
    let p = origin_member s t w m a i c k e in
    let q = origin_member s t w m b j d l f in
    w.apart i j (m.jobs_in i k) (m.jobs_in j l) p.from q.from p.within q.within (cohort_before s m.change m.alike a b p q h)
    (sym (same_member i a p.from (number_of_origin s m.change m.alike a p)) ∙ e) (sym (same_member j b q.from (number_of_origin s m.change m.alike b q)) ∙ f)

pub moves_sound : (s t : State) → Sound s → Moves s t → Sound t
moves_sound s t w m = record {
  numbered =
      subst AreNumbered (sym m.subs)
      (numbered_newer (map m.change s.subscriptions) m.more (numbered_mapped m.change m.alike s.subscriptions w.numbered)
      (subst (λ (n : ℕ). IsNewer n m.more) (sym (length-map s.subscriptions m.change)) m.newer));
  members_known = λ job a number h. known_after s t m number (w.members_known job (m.jobs_in job a) number h);
  due_known = λ number a. known_after s t m number (w.due_known number (m.due_in number a));
  idle = idle_after s t w m;
  apart = apart_after s t w m;
  distinct = m.distinct;
  counted = λ job a. (let low = w.counted job (m.jobs_in job a) in let same = m.jobs_made in omega (arith, low, same));
  versions = λ job a. (let low = w.versions job (m.jobs_in job a) in let later = m.later in omega (arith, low, later));
}

-- Who is due is live

abbrev pub DueLive : List Subscription → List ℕ → Type 0
DueLive subs due = (x : Subscription) → Among x subs → is_due due x ≡ true → x.live ≡ true

pub sound_live : (s : State) → Sound s → DueLive s.subscriptions s.due
sound_live s w x a d = (w.idle x a d).0

pub due_live_mapped : (f : Subscription → Subscription) → Alike f → ((x : Subscription) → (f x).live ≡ x.live) → (subs : List Subscription) (due : List ℕ) → DueLive subs due → DueLive (map f subs) due
due_live_mapped f k live subs due h x a d =
    let r = among_map f subs x a in
    let number = ap (λ (u : Subscription). u.number) r.2 ∙ k.number r.0 in
    ap (λ (u : Subscription). u.live) r.2 ∙ live r.0 ∙ h r.0 r.1 (sym (same_due due x r.0 number) ∙ d)

abbrev pub due_without : (Subscription → Bool) → List Subscription → List ℕ → List ℕ
due_without p subs due = filter (λ n. not (list_any (λ sub. sub.number == n && p sub) subs)) due

kept_when : (p : Subscription → Bool) (x : Subscription) (b : Bool) → p x ≡ b → b ≡ false → (if b then record x { live = false } else x).live ≡ x.live
kept_when p x true e h = absurd (cc)
kept_when p x false e h = refl

-- one that is still due didn't end
pub still_due : (p : Subscription → Bool) (subs : List Subscription) (due : List ℕ) (x : Subscription) → Among x subs → is_due (due_without p subs due) x ≡ true → (ended_if p x).live ≡ x.live
still_due p subs due x a d =
    let left = among_filter (λ n. not (list_any (λ sub. sub.number == n && p sub) subs)) x.number due (due_among (due_without p subs due) x d) in
    let none = not-true (list_any (λ sub. sub.number == x.number && p sub) subs) left.1 in
    kept_when p x (p x) refl
    (not_true (p x) (λ ends. true≢false (sym (among_any (λ (sub : Subscription). sub.number == x.number && p sub) x subs a (and_both (x.number == x.number) (p x) (eq-eqb x.number x.number refl) ends)) ∙ none)))

pub due_live_ended : (p : Subscription → Bool) (subs : List Subscription) (due : List ℕ) → DueLive subs due → DueLive (map (ended_if p) subs) (due_without p subs due)
due_live_ended p subs due h x a d =
    let r = among_map (ended_if p) subs x a in
    let number = ap (λ (u : Subscription). u.number) r.2 ∙ (ended_alike p).number r.0 in
    let still : is_due (due_without p subs due) r.0 ≡ true = sym (same_due (due_without p subs due) x r.0 number) ∙ d in
    let left = among_filter (λ n. not (list_any (λ sub. sub.number == n && p sub) subs)) r.0.number due (due_among (due_without p subs due) r.0 still) in
    ap (λ (u : Subscription). u.live) r.2 ∙ still_due p subs due r.0 r.1 still ∙ h r.0 r.1 (among_due due r.0 left.0)

-- Nothing moves

pub still_moves : (s t : State) → Sound s → (more : List Subscription) → IsNewer (length s.subscriptions) more → t.subscriptions ≡ s.subscriptions ++ more → t.jobs ≡ s.jobs → t.due ≡ s.due → t.jobs_made ≡ s.jobs_made →
    version_of s ≤ version_of t → Moves s t
still_moves s t w more new subs jobs due jobs_made later = record {
  change = λ x. x;
  alike = same_alike;
  more = more;
  newer = new;
  subs = subs ∙ ap (λ (l : List Subscription). l ++ more) (sym (map_same s.subscriptions));
  jobs_in = λ job a. subst (λ (l : List Job). Among job l) jobs a;
  distinct = subst (λ (l : List Job). EachPair HaveOtherNumbers l) (sym jobs) w.distinct;
  due_in = λ number a. subst (λ (l : List ℕ). Among number l) due a;
  due_live = λ x a d. sound_live s w x a (ap (λ (l : List ℕ). is_due l x) (sym due) ∙ d);
  moved = λ x a. inl refl;
  jobs_made = jobs_made;
  later = later;
}

-- subscriptions end

pub ending_moves : (p : Subscription → Bool) (s t : State) → Sound s → t.subscriptions ≡ map (ended_if p) s.subscriptions → t.due ≡ due_without p s.subscriptions s.due → t.jobs ≡ s.jobs → t.jobs_made ≡ s.jobs_made →
    version_of s ≤ version_of t → Moves s t
ending_moves p s t w subs due jobs jobs_made later = record {
  change = ended_if p;
  alike = ended_alike p;
  more = [];
  newer = tt;
  subs = subs ∙ sym (append-nil (map (ended_if p) s.subscriptions));
  jobs_in = λ job a. subst (λ (l : List Job). Among job l) jobs a;
  distinct = subst (λ (l : List Job). EachPair HaveOtherNumbers l) (sym jobs) w.distinct;
  due_in = λ number a. (among_filter (λ n. not (list_any (λ sub. sub.number == n && p sub) s.subscriptions)) number s.due (subst (λ (l : List ℕ). Among number l) due a)).0;
  due_live = λ x a d.
      let still : is_due (due_without p s.subscriptions s.due) x ≡ true = ap (λ (l : List ℕ). is_due l x) (sym due) ∙ d in
      let left = among_filter (λ n. not (list_any (λ sub. sub.number == n && p sub) s.subscriptions)) x.number s.due (due_among (due_without p s.subscriptions s.due) x still) in
      still_due p s.subscriptions s.due x a still ∙ sound_live s w x a (among_due s.due x left.0);
  moved = λ x a. inl ((ended_unmoved p).cursor x);
  jobs_made = jobs_made;
  later = later;
}
