-- Ticks, takes and abandoned jobs keep jobs apart.
use Rattle.std.proofs.Common.{◌≡◌, ◌⊎◌, inl, inr, ◌∙◌, sym, ap, refl, ℕ, ◌+◌, ◌==◌, Bool, true, false, ◌&&◌, ◌||◌, not, cond, if◌then◌else◌, Some, None, Option, List, [], ◌∷◌, ◌++◌, filter, arith}
use Rattle.std.specs.Option.{is_some}
use Rattle.std.specs.List.{list_any, position_from, cons_option}
use Rattle.std.proofs.lemmas.Bool.{eqb-true, eq-eqb, eqb-false, true≢false, not-true}
use Rattle.role_model.specs.declared.metadata.Metadata.{Metadata}
use Rattle.machine.specs.State.{State, Subscription, Member, Job}
use Rattle.machine.specs.Batches.{are_polled_together, are_of_one_cohort, is_member, is_busy, numbers, is_due, first_of_each, batch, member_at, members_of, next_job, taken_with, take_from, tick, is_job, job_at, without_job, abandon}
use Rattle.run_laws.proofs.Among.{Among, among_append, among_map, among_filter, among_take, or_true, and_true, and_both, any_among, among_any, found_among, pairs_filter, pairs_push}
use Rattle.run_laws.proofs.Apart.{IsKnown, HaveOtherNumbers, Sound, cohort_symm, cohort_then, not_busy, due_among, among_due, due_apart}

-- the subscription of a number in a list of numbers of subscriptions
numbered_among : (p : Subscription → Bool) (subs : List Subscription) (number : ℕ) → Among number (numbers (filter p subs)) → (y : Subscription) × Among y subs × (p y ≡ true) × (number ≡ y.number)
numbered_among p subs number a =
    let r = among_map (λ (sub : Subscription). sub.number) (filter p subs) number a in
    let f = among_filter p r.0 subs r.1 in
    (r.0, f.0, f.1, r.2)

-- it is the one that is due
due_of : (s : State) → Sound s → (p : Subscription → Bool) (x : Subscription) → Among x s.subscriptions → is_due (numbers (filter p s.subscriptions)) x ≡ true → p x ≡ true
due_of s w p x a d =
    let r = numbered_among p s.subscriptions x.number (due_among (numbers (filter p s.subscriptions)) x d) in
    ap p (w.numbered.unique x r.0 a r.1 r.3) ∙ r.2

known_numbers : (p : Subscription → Bool) (subs : List Subscription) (number : ℕ) → Among number (numbers (filter p subs)) → IsKnown subs number
known_numbers p subs number a = let r = numbered_among p subs number a in (r.0, r.1, sym r.3)

-- A tick

pub tick_sound : (s : State) → Sound s → Sound (tick s).state
tick_sound s w =
    let p : Subscription → Bool = λ sub. sub.live && not (is_busy s.subscriptions s.jobs sub) in
    record {
      numbered = w.numbered;
      members_known = w.members_known;
      due_known = λ number a. known_numbers p s.subscriptions number a;
      idle = λ x a d. (let both = and_true x.live (not (is_busy s.subscriptions s.jobs x)) (due_of s w p x a d) in (both.0, not-true (is_busy s.subscriptions s.jobs x) both.1));
      apart = w.apart;
      distinct = w.distinct;
      counted = w.counted;
      versions = w.versions;
    }

-- An abandoned job

abandoned : (number : ℕ) (s : State) (job : Job) → Sound s → job_at number s.jobs ≡ Some job → Sound (abandon number s (Some job)).state
abandoned number s job w at =
    let p : Subscription → Bool = λ sub. is_due s.due sub || sub.live && is_member sub.number job in
    let found = found_among (is_job number) s.jobs job at in
    let is = eqb-true job.number number found.1 in
    let left : (other : Job) → Among other (without_job number s.jobs) → Among other s.jobs × ((other.number == number) ≡ false) =
    (λ other a. (let r = among_filter (λ j. not (is_job number j)) other s.jobs a in (r.0, not-true (is_job number other) r.1))) in
    record {
      numbered = w.numbered;
      members_known = λ other a. w.members_known other (left other a).0;
      due_known = λ n a. known_numbers p s.subscriptions n a;
      idle = λ x a d.
          elim (or_true (is_due s.due x) (x.live && is_member x.number job) (due_of s w p x a d)) [
            | inl due ↦
                ((w.idle x a due).0, not_busy s.subscriptions (without_job number s.jobs) x (λ o. due_apart s w x o.other o.job a due o.other_in (left o.job o.job_in).0 o.cohort o.member))
            | inr both ↦
                (let parts = and_true x.live (is_member x.number job) both in (
                  parts.0,
                  not_busy s.subscriptions (without_job number s.jobs) x
                      (λ o. eqb-false o.job.number number (left o.job o.job_in).1 (sym (w.apart job o.job found.0 (left o.job o.job_in).0 x o.other a o.other_in o.cohort parts.1 o.member) ∙ is)),
                ))
          ];
      apart = λ i j k l. w.apart i j (left i k).0 (left j l).0;
      distinct = pairs_filter HaveOtherNumbers (λ j. not (is_job number j)) s.jobs w.distinct;
      counted = λ other a. w.counted other (left other a).0;
      versions = λ other a. w.versions other (left other a).0;
    }

pub abandon_sound : (number : ℕ) (s : State) (o : Option Job) → Sound s → job_at number s.jobs ≡ o → Sound (abandon number s o).state
abandon_sound number s (Some job) w at = abandoned number s job w at
abandon_sound number s None w at = w

-- The members of a batch

among_first : (x : Subscription) (earlier subs : List Subscription) → Among x (first_of_each earlier subs) → Among x subs
among_first x earlier [] a = absurd a
among_first x earlier (z ∷ zs) a = first_by (list_any (are_of_one_cohort z) earlier) (λ b. among_first x earlier zs b) (λ b. among_first x (z ∷ earlier) zs b) a
  where
    first_by : (b : Bool) → (Among x (first_of_each earlier zs) → Among x zs) → (Among x (first_of_each (z ∷ earlier) zs) → Among x zs) →
        Among x (if b then first_of_each earlier zs else z ∷ first_of_each (z ∷ earlier) zs) → Among x (z ∷ zs)
    first_by true h i a = inr (h a)
    first_by false h i (inl e) = inl e
    first_by false h i (inr a) = inr (i a)

-- each cohort of a batch is named by one who is due
pub named_due : (size : ℕ) (s : State) (first x : Subscription) → Among x (batch size s.due s.subscriptions first) → Among x s.subscriptions × (is_due s.due x ≡ true)
named_due size s first x a =
    let p : Subscription → Bool = λ sub. is_due s.due sub && are_polled_together first sub in
    let r = among_filter p x s.subscriptions (among_first x [] (filter p s.subscriptions) (among_take x size (first_of_each [] (filter p s.subscriptions)) a)) in
    (r.0, (and_true (is_due s.due x) (are_polled_together first x) r.1).0)

-- the place of the first that passes
place_any : (t : Subscription → Bool) (n : ℕ) (xs : List Subscription) → is_some (position_from t n xs) ≡ list_any t xs
place_any t n [] = refl
place_any t n (x ∷ xs) = place_by (t x) (place_any t (n + 1) xs)
  where
    place_by : (b : Bool) → is_some (position_from t (n + 1) xs) ≡ list_any t xs → is_some (cond b (Some n) (position_from t (n + 1) xs)) ≡ (b || list_any t xs)
    place_by true h = refl
    place_by false h = h

-- who is a member: a live subscription of one of the cohorts
abbrev pub joins : List Subscription → Subscription → Bool
joins cohorts x = x.live && list_any (are_of_one_cohort x) cohorts

member_by : (number : ℕ) (x : Subscription) (o : Option ℕ) (ms : List Member) →
    list_any (λ (m : Member). m.subscription == number) (cons_option (member_at x o) ms) ≡ (is_some o && (x.number == number) || list_any (λ (m : Member). m.subscription == number) ms)
member_by number x (Some place) ms = refl
member_by number x None ms = refl

member_when : (number : ℕ) (cohorts : List Subscription) (x : Subscription) (live : Bool) (ms : List Member) →
    list_any (λ (m : Member). m.subscription == number) (cons_option (if live then member_at x (position_from (are_of_one_cohort x) 0 cohorts) else None) ms)
    ≡ ((live && list_any (are_of_one_cohort x) cohorts) && (x.number == number) || list_any (λ (m : Member). m.subscription == number) ms)
member_when number cohorts x true ms =
    member_by number x (position_from (are_of_one_cohort x) 0 cohorts) ms
    ∙ ap (λ (b : Bool). b && (x.number == number) || list_any (λ (m : Member). m.subscription == number) ms) (place_any (are_of_one_cohort x) 0 cohorts)
member_when number cohorts x false ms = refl

members_any : (number : ℕ) (cohorts subs : List Subscription) →
    list_any (λ (m : Member). m.subscription == number) (members_of cohorts subs) ≡ list_any (λ (x : Subscription). joins cohorts x && (x.number == number)) subs
members_any number cohorts [] = refl
members_any number cohorts (x ∷ xs) =
    member_when number cohorts x x.live (members_of cohorts xs) ∙ ap (λ (b : Bool). joins cohorts x && (x.number == number) || b) (members_any number cohorts xs)

-- a member is a subscription that joins
pub joined_by : (s : State) → Sound s → (cohorts : List Subscription) (x : Subscription) → Among x s.subscriptions → is_member x.number (next_job s (members_of cohorts s.subscriptions)) ≡ true → joins cohorts x ≡ true
joined_by s w cohorts x a h =
    let r = any_among (λ (y : Subscription). joins cohorts y && (y.number == x.number)) s.subscriptions (sym (members_any x.number cohorts s.subscriptions) ∙ h) in
    let both = and_true (joins cohorts r.0) (r.0.number == x.number) r.2 in
    ap (joins cohorts) (w.numbered.unique x r.0 a r.1 (sym (eqb-true r.0.number x.number both.1))) ∙ both.0

pub joiner_member : (s : State) (cohorts : List Subscription) (x : Subscription) → Among x s.subscriptions → joins cohorts x ≡ true → is_member x.number (next_job s (members_of cohorts s.subscriptions)) ≡ true
joiner_member s cohorts x a h =
    members_any x.number cohorts s.subscriptions
    ∙ among_any (λ (y : Subscription). joins cohorts y && (y.number == x.number)) x s.subscriptions a (and_both (joins cohorts x) (x.number == x.number) h (eq-eqb x.number x.number refl))

member_known : (s : State) (cohorts : List Subscription) (number : ℕ) → is_member number (next_job s (members_of cohorts s.subscriptions)) ≡ true → IsKnown s.subscriptions number
member_known s cohorts number h =
    let r = any_among (λ (y : Subscription). joins cohorts y && (y.number == number)) s.subscriptions (sym (members_any number cohorts s.subscriptions) ∙ h) in
    (r.0, r.1, eqb-true r.0.number number (and_true (joins cohorts r.0) (r.0.number == number) r.2).1)

-- A take, whose cohorts are named by some that are due

abbrev AreDue : State → List Subscription → Type 0
AreDue s cohorts = (c : Subscription) → Among c cohorts → Among c s.subscriptions × (is_due s.due c ≡ true)

-- who joins is of no cohort that is in flight
joiner_apart : (s : State) → Sound s → (cohorts : List Subscription) → AreDue s cohorts → (x o : Subscription) (i : Job) → joins cohorts x ≡ true → Among o s.subscriptions → Among i s.jobs → are_of_one_cohort x o ≡ true → is_member o.number i ≡ true → ⊥
joiner_apart s w cohorts due x o i j a b c m =
    let both = and_true x.live (list_any (are_of_one_cohort x) cohorts) j in
    let named = any_among (are_of_one_cohort x) cohorts both.1 in
    let is = due named.0 named.1 in
    due_apart s w named.0 o i is.0 is.1 a b (cohort_then named.0 x o (cohort_symm x named.0 named.2) c) m

-- who is of the cohort of one who joins, and live, joins
joins_too : (cohorts : List Subscription) (x y : Subscription) → x.live ≡ true → are_of_one_cohort x y ≡ true → joins cohorts y ≡ true → joins cohorts x ≡ true
joins_too cohorts x y live c j =
    let both = and_true y.live (list_any (are_of_one_cohort y) cohorts) j in
    let named = any_among (are_of_one_cohort y) cohorts both.1 in
    and_both x.live (list_any (are_of_one_cohort x) cohorts) live (among_any (are_of_one_cohort x) named.0 cohorts named.1 (cohort_then x y named.0 c named.2))

pub job_cases : (s : State) (new job : Job) → Among job (s.jobs ++ new ∷ []) → Among job s.jobs ⊎ (job ≡ new)
job_cases s new job a = elim (among_append job s.jobs (new ∷ []) a) [ inl b ↦ inl b | inr b ↦ inr (only_new b) ]
  where
    only_new : Among job (new ∷ []) → job ≡ new
    only_new (inl e) = e
    only_new (inr b) = absurd b

is_member_of : (n : ℕ) (i j : Job) → i ≡ j → is_member n i ≡ true → is_member n j ≡ true
is_member_of n i j e h = sym (ap (λ (k : Job). is_member n k) e) ∙ h

apart_taken : (s : State) → Sound s → (cohorts : List Subscription) → AreDue s cohorts → (i j : Job) → Among i (s.jobs ++ next_job s (members_of cohorts s.subscriptions) ∷ []) → Among j (s.jobs ++ next_job s (members_of cohorts s.subscriptions) ∷ []) →
    (a b : Subscription) → Among a s.subscriptions → Among b s.subscriptions → are_of_one_cohort a b ≡ true → is_member a.number i ≡ true → is_member b.number j ≡ true → i.number ≡ j.number
apart_taken s w cohorts due i j k l a b c d h e f =
    let new = next_job s (members_of cohorts s.subscriptions) in
    elim (job_cases s new i k) [
      | inl p ↦ elim (job_cases s new j l) [
        | inl q ↦ w.apart i j p q a b c d h e f
        | inr q ↦ absurd (joiner_apart s w cohorts due b a i (joined_by s w cohorts b d (is_member_of b.number j new q f)) c p (cohort_symm a b h) e)
      ]
      | inr p ↦ elim (job_cases s new j l) [
        | inl q ↦ absurd (joiner_apart s w cohorts due a b j (joined_by s w cohorts a c (is_member_of a.number i new p e)) d q h f)
        | inr q ↦ ap (λ (m : Job). m.number) (p ∙ sym q)
      ]
    ]

idle_taken : (s : State) → Sound s → (cohorts : List Subscription) → (x : Subscription) → Among x s.subscriptions →
    is_due (filter (λ n. not (is_member n (next_job s (members_of cohorts s.subscriptions)))) s.due) x ≡ true →
    (x.live ≡ true) × (is_busy s.subscriptions (s.jobs ++ next_job s (members_of cohorts s.subscriptions) ∷ []) x ≡ false)
idle_taken s w cohorts x a d =
    let new = next_job s (members_of cohorts s.subscriptions) in
    let r = among_filter (λ n. not (is_member n new)) x.number s.due (due_among (filter (λ n. not (is_member n new)) s.due) x d) in
    let due = among_due s.due x r.0 in
    let live = (w.idle x a due).0 in (
      live,
      not_busy s.subscriptions (s.jobs ++ new ∷ []) x
          (λ o. elim (job_cases s new o.job o.job_in) [
            | inl p ↦ due_apart s w x o.other o.job a due o.other_in p o.cohort o.member
            | inr p ↦ true≢false
                (sym (joiner_member s cohorts x a (joins_too cohorts x o.other live o.cohort (joined_by s w cohorts o.other o.other_in (is_member_of o.other.number o.job new p o.member))))
                ∙ not-true (is_member x.number new) r.1)
          ]),
    )

taken_sound : (s : State) → Sound s → (cohorts : List Subscription) → AreDue s cohorts → Sound (taken_with s (next_job s (members_of cohorts s.subscriptions))).state
taken_sound s w cohorts due =
    let new = next_job s (members_of cohorts s.subscriptions) in
    record {
      numbered = w.numbered;
      members_known = λ job a number h. elim (job_cases s new job a) [ inl p ↦ w.members_known job p number h | inr p ↦ member_known s cohorts number (is_member_of number job new p h) ];
      due_known = λ number a. w.due_known number (among_filter (λ n. not (is_member n new)) number s.due a).0;
      idle = idle_taken s w cohorts;
      apart = apart_taken s w cohorts due;
      distinct = pairs_push HaveOtherNumbers s.jobs new w.distinct (λ job a e. (let low = w.counted job a in omega (arith, low, e)));
      counted = λ job a. elim (job_cases s new job a) [ inl p ↦ (let low = w.counted job p in omega (arith, low)) | inr p ↦ (let e = ap (λ (m : Job). m.number) p in omega (arith, e)) ];
      versions = λ job a. elim (job_cases s new job a) [ inl p ↦ w.versions job p | inr p ↦ (let e = ap (λ (m : Job). m.version) p in omega (arith, e)) ];
    }

pub take_sound : (meta : Metadata) (s : State) (o : Option Subscription) → Sound s → Sound (take_from meta s o).state
take_sound meta s (Some first) w = taken_sound s w (batch meta.batch_size s.due s.subscriptions first) (λ c a. named_due meta.batch_size s first c a)
take_sound meta s None w = w
