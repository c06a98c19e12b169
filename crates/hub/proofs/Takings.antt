-- A batch, and the job that is made of it.
use Rattle.std.proofs.Common.{◌≡◌, ◌∙◌, inl, inr, sym, ap, refl, subst, ℕ, zero, suc, ◌+◌, ◌<◌, ◌≤◌, max}
use Rattle.std.proofs.Common.{◌==◌, nat_lt, true, Some, None, Option, List, [], ◌∷◌, length, slice_get}
use Rattle.std.proofs.Common.{arith}
use Rattle.std.specs.Option.{is_some}
use Rattle.std.specs.List.{AllByRecursion, AllZip, list_any, find}
use Rattle.std.proofs.lemmas.Bool.{eqb-true, eq-eqb, ltb-true, ltb-false}
use Rattle.std.proofs.lemmas.Option.{slice_get_within, same_Some}
use Rattle.std.proofs.lemmas.Slice.Zip.{AllZip-long}
use Rattle.cohort_map.specs.declared.member.Member.{Member}
use Rattle.cohort_map.specs.Entries.{Entry, is_entry, is_due, is_live_entry, has}
use Rattle.cohort_map.specs.Batches.{chosen, batch_from, batch_of}
use Rattle.batch_rel.specs.declared.relation.RelRow.{RelRow}
use Rattle.subscription_table.specs.Kept.{held_at}
use Rattle.machine.specs.State.{State, Subscription}
use Rattle.machine.specs.Batches.{subscription_at}
use Rattle.hub_model.specs.declared.job.Job.{Job}
use Rattle.hub_model.specs.Kept.{Kept, Represents}
use Rattle.hub_model.proofs.Items.{Among, any_among, among_any, and_true, and_both, not_any, not_both, some_of}
use Rattle.hub_model.proofs.Items.{all_from_among}
use Rattle.hub_model.proofs.Filtered.{by_test}
use Rattle.hub_model.proofs.Reached.{IsRun}
use Rattle.hub_model.proofs.Chosen.{IsMemberIn, member_in, AreDueLive}
use Rattle.hub_model.proofs.Told.{is_live_at, has_live_is, held_for}
use Rattle.hub_model.proofs.Takes.{due_entries}
use Rattle.hub_model.proofs.TakenJobs.{AsksFor, binding_at}
use Rattle.hub_model.proofs.Relations.{IsRelation, ids_below, rows_for, rows_of, own_numbers}
use Rattle.hub.specs.Taking.{most, ArePlaces, has_id, speaks, IsSpeaker, HasEntry, HasBinding}
use Rattle.hub.specs.Taking.{AreBindings, IsJobFor}

-- ---- the members of a batch

batch_member : (limit : ℕ) (entries : List Entry) (o : Option Entry) (m : Member) →
    Among m (batch_from limit entries o) → (first : Entry) × IsMemberIn (chosen limit entries first) entries m
batch_member limit entries (Some first) m a = (first, member_in (chosen limit entries first) entries m a)
batch_member limit entries None m a = absurd a

in_batch : (limit : ℕ) (entries : List Entry) (members : List Member) → members ≡ batch_of limit entries →
    (m : Member) → Among m members → (first : Entry) × IsMemberIn (chosen limit entries first) entries m
in_batch limit entries members is m a =
    batch_member limit entries (find is_due entries) m (subst (λ (ms : List Member). Among m ms) is a)

pub places : (limit : ℕ) (entries : List Entry) (members : List Member) → members ≡ batch_of limit entries →
    ArePlaces members
places limit entries members is =
    all_from_among (λ (m : Member). 1 ≤ m.id) members (λ m a. (in_batch limit entries members is m a).1.id)

has_entry : (limit : ℕ) (entries : List Entry) (members : List Member) → members ≡ batch_of limit entries →
    (m : Member) → Among m members → HasEntry entries m
has_entry limit entries members is m a =
    let e = (in_batch limit entries members is m a).1 in
    among_any (is_entry m.sub) e.entry entries e.among (eq-eqb e.entry.number m.sub e.number)

pub have_entries : (limit : ℕ) (entries : List Entry) (members : List Member) → members ≡ batch_of limit entries →
    AllByRecursion (HasEntry entries) members
have_entries limit entries members is =
    all_from_among (HasEntry entries) members (has_entry limit entries members is)

held_live : (k : Kept) (s : State) (number : ℕ) (o : Option Subscription) → Represents k s →
    subscription_at number s.subscriptions ≡ o → is_live_at o ≡ true → is_some (held_at number k.held) ≡ true
held_live k s number (Some sub) r at live = ap is_some (held_for k s number sub r at live).is
held_live k s number None r at live = absurd (cc)

is_held : (k : Kept) (s : State) (members : List Member) → IsRun s → Represents k s →
    members ≡ batch_of k.meta.batch_size k.entries → (m : Member) → Among m members →
    is_some (held_at m.sub k.held) ≡ true
is_held k s members w r is m a =
    let e = (in_batch k.meta.batch_size k.entries members is m a).1 in
    let live = among_any (is_live_entry m.sub) e.entry k.entries e.among
    (and_both (e.entry.number == m.sub) e.entry.live (eq-eqb e.entry.number m.sub e.number) e.live) in
    held_live k s m.sub (subscription_at m.sub s.subscriptions) r refl (sym (has_live_is k s m.sub r w.numbered) ∙ live)

-- ---- its first member

pub first_among : (ms : List Member) (m : Member) → Some m ≡ slice_get ms 0 → Among m ms
first_among [] m e = absurd (cc)
first_among (n ∷ ms) m e = inl (same_Some m n e)

pub some_first : (ms : List Member) (m : Member) → Some m ≡ slice_get ms 0 → ms ≡ [] → ⊥
some_first ms m e none = let n : Some m ≡ None = e ∙ ap (λ (ms : List Member). slice_get ms 0) none in cc

pub no_first : (ms : List Member) → None ≡ slice_get ms 0 → ms ≡ []
no_first [] e = refl
no_first (n ∷ ms) e = absurd (cc)

pub first_has_entry : (limit : ℕ) (entries : List Entry) (members : List Member) (m : Member) →
    members ≡ batch_of limit entries → Some m ≡ slice_get members 0 → has m.sub entries ≡ true
first_has_entry limit entries members m is e = has_entry limit entries members is m (first_among members m e)

pub first_is_held : (k : Kept) (s : State) (members : List Member) (m : Member) → IsRun s → Represents k s →
    members ≡ batch_of k.meta.batch_size k.entries → Some m ≡ slice_get members 0 →
    is_some (held_at m.sub k.held) ≡ true
first_is_held k s members m w r is e = is_held k s members w r is m (first_among members m e)

-- ---- result ids

below_most : (ms : List Member) (m : Member) → Among m ms → m.id ≤ most ms
below_most [] m a = absurd a
below_most (n ∷ ms) m (inl e) = let same = ap (λ (m : Member). m.id) e in omega (arith, same)
below_most (n ∷ ms) m (inr a) = let low = below_most ms m a in omega (arith, low)

most_reached : (ms : List Member) → 0 < most ms → (m : Member) × Among m ms × (m.id ≡ most ms)
most_reached [] low = absurd (omega (arith, low))
most_reached (n ∷ ms) low =
    by_test ((m : Member) × Among m (n ∷ ms) × (m.id ≡ max n.id (most ms))) (nat_lt (most ms) n.id)
    (λ h. let more = ltb-true (most ms) n.id h in (n, inl refl, omega (arith, more)))
    (λ h.
    let less = ltb-false (most ms) n.id h in
    let r = most_reached ms (omega (arith, low, less)) in
    let same = r.2 in
    (r.0, inr r.1, omega (arith, less, same)))

-- ---- the relation

zip_got : (entries : List Entry) (subs : List ℕ) (relation : List RelRow) → AllZip (HasBinding entries) subs relation →
    (i : ℕ) (row : RelRow) → slice_get relation i ≡ Some row →
    (number : ℕ) × (slice_get subs i ≡ Some number) × HasBinding entries number row
zip_got entries [] [] all i row e = absurd (cc)
zip_got entries [] (r ∷ relation) all i row e = absurd all
zip_got entries (n ∷ subs) [] all i row e = absurd all
zip_got entries (n ∷ subs) (r ∷ relation) all zero row e =
    (n, refl, subst (HasBinding entries n) (same_Some r row e) all.0)
zip_got entries (n ∷ subs) (r ∷ relation) all (suc i) row e = zip_got entries subs relation all.1 i row e

speaks_some : (members : List Member) (other id number : ℕ) → list_any (has_id id) members ≡ true →
    IsSpeaker members other id number → list_any (speaks id number) members ≡ true
speaks_some members other id number some (inl a) = a
speaks_some members other id number some (inr a) = absurd (not_both (list_any (has_id id) members) some a.1)

relation_is : (limit : ℕ) (entries : List Entry) (members : List Member) (other : ℕ) (relation : List RelRow) →
    members ≡ batch_of limit entries → AreDueLive entries → AreBindings entries members other relation →
    IsRelation entries members relation
relation_is limit entries members other relation is live b =
    let count = AllZip-long (HasBinding entries) b.subs relation b.bindings ∙ b.speakers.count in
    record {
      each = λ i row got.
          let low = slice_get_within relation i row got in
          let greatest = most_reached members (omega (arith, low, count)) in
          let same = greatest.2 in
          let there = ids_below limit entries members is live greatest.0 greatest.1 (i + 1) (omega arith)
          (omega (arith, low, count, same)) in
          let some = among_any (has_id (i + 1)) there.member members there.among
          (eq-eqb there.member.id (i + 1) there.id_is) in
          let n = zip_got entries b.subs relation b.bindings i row got in
          let says = speaks_some members other (i + 1) n.0 some (b.speakers.each i n.0 n.1) in
          let m = any_among (speaks (i + 1) n.0) members says in
          let are = and_true (m.0.id == i + 1) (m.0.sub == n.0) m.2 in
          record {
            member = m.0;
            among = m.1;
            id_is = eqb-true m.0.id (i + 1) are.0;
            binding = ap (λ (number : ℕ). binding_at number entries) (eqb-true m.0.sub n.0 are.1) ∙ n.2;
          };
      whole = not_any (λ (m : Member). m.id == length relation + 1) members
          (λ m a h.
          let low = below_most members m a in
          let id = eqb-true m.id (length relation + 1) h in
          absurd (omega (arith, low, id, count)));
    }

pub asks_for : (k : Kept) (s : State) (members : List Member) (first : Member) (job : Job) → IsRun s → Represents k s →
    members ≡ batch_of k.meta.batch_size k.entries → Some first ≡ slice_get members 0 →
    IsJobFor k members first.sub job → AsksFor k members job
asks_for k s members first job w r is e j =
    let h = some_of (held_at first.sub k.held) (first_is_held k s members first w r is e) in
    let live = due_entries k s w r in
    let relation = relation_is k.meta.batch_size k.entries members first.sub job.relation is live j.relation in
    record {
      number = j.number;
      version = j.version;
      members_are = j.members_are;
      tables = j.tables;
      catalog = j.catalog;
      member = first;
      among = first_among members first e;
      held = h.0;
      at = h.1;
      plan = j.plan h.0 h.1;
      rows = rows_for k.meta.batch_size k.entries members job.relation is live (own_numbers k s w r) relation;
      own = rows_of k.entries members job.relation relation;
    }
