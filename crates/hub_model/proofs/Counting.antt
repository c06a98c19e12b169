-- The counts of what is kept, and an accepted transaction.
use Rattle.std.proofs.Common.{◌≡◌, ◌⊎◌, inl, inr, ◌∙◌, sym, ap, refl, subst, ℕ, ◌<◌, ◌==◌, Bool, true, false, ◌&&◌, ◌||◌, cond, List, [], ◌∷◌, ◌++◌, length, map, filter, arith}
use Rattle.std.specs.List.{list_any}
use Rattle.std.proofs.Math.Seq.{take-length}
use Rattle.std.proofs.lemmas.Bool.{eqb-true, eq-eqb}
use Rattle.std.proofs.lemmas.List.{length-map, length-append}
use Rattle.data_model.specs.declared.catalog.Catalog.{Catalog}
use Rattle.data_model.specs.declared.transaction.TxChange.{TxChange}
use Rattle.data_model.specs.Rows.{Database, no_rows}
use Rattle.data_model.specs.Transactions.{apply, after_or_same, database_after, snapshot}
use Rattle.std.specs.Prelude.{Ok}
use Rattle.machine.specs.declared.counts.Counts.{Counts}
use Rattle.machine.specs.State.{State, Subscription}
use Rattle.machine.specs.Run.{counts}
use Rattle.cohort_map.specs.Entries.{Entry, is_due, due_count}
use Rattle.hub_model.specs.Kept.{Kept, Represents, is_kept, kept_of, entry_of, open_job, connected}
use Rattle.hub_model.specs.Steps.{committed}
use Rattle.hub_model.proofs.Items.{Among, Ascend, all_among, all_from_among, among_any, among_filter, among_map, any_among, filter_among, filter_both, filter_mapped, filter_same, map_among, or_true_left}
use Rattle.hub_model.proofs.Reached.{IsRun, IsLiveIn}
use Rattle.hub_model.proofs.Numbered.{range_ascends}

-- ---- numbers in ascending order

head_low : (x : ℕ) (xs : List ℕ) → Ascend (x ∷ xs) → (n : ℕ) → Among n xs → x < n
head_low x xs w n a = all_among (λ m. x < m) xs n a w.0

-- two ascending lists with the same numbers are one
pub ascend_same : (xs ys : List ℕ) → Ascend xs → Ascend ys → ((n : ℕ) → Among n xs → Among n ys) →
    ((n : ℕ) → Among n ys → Among n xs) → xs ≡ ys
ascend_same [] [] v w h i = refl
ascend_same [] (y ∷ ys) v w h i = absurd (i y (inl refl))
ascend_same (x ∷ xs) [] v w h i = absurd (h x (inl refl))
ascend_same (x ∷ xs) (y ∷ ys) v w h i =
    let same = heads (h x (inl refl)) (i y (inl refl)) in
    let rest = ascend_same xs ys v.1 w.1 (λ n a. tail_of n same (head_low x xs v n a) (h n (inr a)))
    (λ n a. tail_back n same (head_low y ys w n a) (i n (inr a))) in cc
  where
    heads : (x ≡ y) ⊎ Among x ys → (y ≡ x) ⊎ Among y xs → x ≡ y
    heads (inl e) b = e
    heads (inr a) (inl e) = sym e
    heads (inr a) (inr b) = let low = head_low x xs v y b in let high = head_low y ys w x a in absurd (omega (arith, low, high))

    tail_of : (n : ℕ) → x ≡ y → x < n → (n ≡ y) ⊎ Among n ys → Among n ys
    tail_of n same low (inl e) = absurd (omega (arith, same, low, e))
    tail_of n same low (inr a) = a

    tail_back : (n : ℕ) → x ≡ y → y < n → (n ≡ x) ⊎ Among n xs → Among n xs
    tail_back n same low (inl e) = absurd (omega (arith, same, low, e))
    tail_back n same low (inr a) = a

pub ascend_filter : {X : Type 0} (f : X → ℕ) (p : X → Bool) (xs : List X) → Ascend (map f xs) → Ascend (map f (filter p xs))
ascend_filter f p [] w = tt
ascend_filter {X} f p (x ∷ xs) w = by_test (p x) (ascend_filter f p xs w.1)
  where
    by_test : (b : Bool) → Ascend (map f (filter p xs)) → Ascend (map f (cond b (x ∷ filter p xs) (filter p xs)))
    by_test true h = (
      all_from_among (λ m. f x < m) (map f (filter p xs)) (λ m a.
          let y = among_map f (filter p xs) m a in
          let g = among_filter p y.0 xs y.1 in
          subst (λ (n : ℕ). f x < n) (sym y.2) (head_low (f x) (map f xs) w (f y.0) (map_among f xs y.0 g.0))),
      h,
    )
    by_test false h = h

-- ---- counts

-- live subscriptions are kept
pub live_count : (k : Kept) (s : State) → Represents k s →
    length (filter (λ (e : Entry). e.live) k.entries) ≡ length (filter (λ (sub : Subscription). sub.live) s.subscriptions)
live_count k s r =
    ap (λ (l : List Entry). length (filter (λ (e : Entry). e.live) l)) r.entries
    ∙ ap length (filter_mapped (λ (e : Entry). e.live) (entry_of s) (kept_of s))
    ∙ length-map (filter (λ (sub : Subscription). sub.live) (kept_of s)) (entry_of s)
    ∙ ap length (filter_both (λ (sub : Subscription). sub.live) (is_kept s.jobs) s.subscriptions
    ∙ filter_same (λ x. is_kept s.jobs x && x.live) (λ (sub : Subscription). sub.live) s.subscriptions
    (λ x a. both x.live _))
  where
    both : (a b : Bool) → ((a || b) && a) ≡ a
    both true b = refl
    both false true = refl
    both false false = refl

-- who is due is kept
pub due_numbers : (s : State) → IsRun s →
    map (λ (sub : Subscription). sub.number) (filter (λ x. list_any (λ n. n == x.number) s.due) (kept_of s)) ≡ s.due
due_numbers s w =
    let number = λ (sub : Subscription). sub.number in
    let due = λ (x : Subscription). list_any (λ n. n == x.number) s.due in
    let in_order : Ascend (map number s.subscriptions) =
    subst Ascend (sym w.numbered) (range_ascends 1 (length s.subscriptions)) in
    ascend_same (map number (filter due (kept_of s))) s.due
    (ascend_filter number due (kept_of s) (ascend_filter number (is_kept s.jobs) s.subscriptions in_order)) w.due_ascend
    (λ n a.
    let y = among_map number (filter due (kept_of s)) n a in
    let f = among_filter due y.0 (kept_of s) y.1 in
    let d = any_among (λ m. m == y.0.number) s.due f.1 in
    subst (λ (m : ℕ). Among m s.due) (eqb-true d.0 y.0.number d.2 ∙ sym y.2) d.1)
    (λ n a.
    let who : IsLiveIn s n = w.due n a in
    let kept = filter_among (is_kept s.jobs) who.sub s.subscriptions who.among (or_true_left who.sub.live _ who.live) in
    let there = filter_among due who.sub (kept_of s) kept
    (among_any (λ m. m == who.sub.number) n s.due a (eq-eqb n who.sub.number (sym who.number))) in
    subst (λ (m : ℕ). Among m (map number (filter due (kept_of s)))) who.number
    (map_among number (filter due (kept_of s)) who.sub there))

pub due_counted : (k : Kept) (s : State) → Represents k s → IsRun s → due_count k.entries ≡ length s.due
due_counted k s r w =
    let due = λ (x : Subscription). list_any (λ n. n == x.number) s.due in
    ap due_count r.entries
    ∙ ap length (filter_mapped is_due (entry_of s) (kept_of s))
    ∙ length-map (filter due (kept_of s)) (entry_of s)
    ∙ sym (length-map (filter due (kept_of s)) (λ (sub : Subscription). sub.number))
    ∙ ap length (due_numbers s w)

-- the counts of what is kept
abbrev pub counts_of : Kept → Counts
counts_of k = record {
  connections = length k.connections;
  live = length (filter (λ (e : Entry). e.live) k.entries);
  due = due_count k.entries;
  jobs = length k.jobs;
  version = k.version;
}

pub same_counts : (k : Kept) (s : State) → Represents k s → IsRun s → counts s ≡ counts_of k
same_counts k s r w =
    let connections : length s.connections ≡ length k.connections =
    sym (ap length r.connections ∙ length-map s.connections (connected s.subscriptions)) in
    let live = sym (live_count k s r) in
    let due = sym (due_counted k s r w) in
    let jobs : length s.jobs ≡ length k.jobs = sym (ap length r.jobs) ∙ length-map k.jobs open_job in
    let version = sym r.version in cc

-- ---- transactions

database_push : (catalog : Catalog) (txs : List (List TxChange)) (tx : List TxChange) (db : Database) →
    database_after catalog (txs ++ tx ∷ []) db
    ≡ after_or_same (database_after catalog txs db) (apply catalog (database_after catalog txs db) tx)
database_push catalog [] tx db = refl
database_push catalog (t ∷ txs) tx db = database_push catalog txs tx (after_or_same db (apply catalog db t))

whole : (catalog : Catalog) (txs : List (List TxChange)) →
    snapshot catalog txs (length txs) ≡ database_after catalog txs (no_rows catalog)
whole catalog txs = ap (λ (l : List (List TxChange)). database_after catalog l (no_rows catalog)) (take-length txs)

-- the next transaction is accepted
pub one_committed : (tx : List TxChange) (after : Database) (k : Kept) (s : State) → Represents k s →
    apply k.meta.catalog k.tables tx ≡ Ok after →
    Represents (committed after k) (record s { transactions = s.transactions ++ tx ∷ [] })
one_committed tx after k s r e =
    let now = r.tables ∙ whole k.meta.catalog s.transactions in
    record {
      version =
          let count = length-append s.transactions (tx ∷ []) in
          let before = r.version in omega (arith, count, before);
      tables =
          sym (whole k.meta.catalog (s.transactions ++ tx ∷ [])
          ∙ database_push k.meta.catalog s.transactions tx (no_rows k.meta.catalog)
          ∙ ap (λ (db : Database). after_or_same db (apply k.meta.catalog db tx)) (sym now)
          ∙ ap (after_or_same k.tables) e);
      connections = r.connections;
      entries = r.entries;
      held = r.held;
      jobs = r.jobs;
      subscribed = r.subscribed;
      jobs_made = r.jobs_made;
    }
