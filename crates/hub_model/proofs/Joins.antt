-- A subscription that is admitted joins.
use Rattle.std.proofs.Common.{◌≡◌, ◌∙◌, sym, ap, refl, subst, ℕ, ◌+◌, ◌==◌, Bool, true, false, cond, Some, None, Ok, List, [], ◌∷◌, ◌++◌, length, map, filter, append-nil, arith}
use Rattle.std.specs.List.{list_any, AllZip}
use Rattle.std.proofs.lemmas.Bool.{eqb-true, eq-eqb}
use Rattle.std.proofs.lemmas.List.{length-append, map-append}
use Rattle.std.proofs.lemmas.List.Elements.{filter-append}
use Rattle.role_model.specs.declared.metadata.Metadata.{Metadata}
use Rattle.query_model.specs.Queries.{binding_of, view_of}
use Rattle.query_model.specs.Admission.{Admitted}
use Rattle.query_model.specs.AdmissionLaws.{IsAdmitted}
use Rattle.query_model.specs.ResultLaws.{MayBeCursor}
use Rattle.query_model.specs.Plans.{plan_of}
use Rattle.machine.specs.State.{State, Subscription}
use Rattle.machine.specs.Connections.{subscription_of, subscribed}
use Rattle.machine.specs.Batches.{is_member}
use Rattle.cohort_map.specs.Entries.{Entry, entered}
use Rattle.connection_table.specs.Connected.{Connected, changed}
use Rattle.hub_model.specs.Kept.{Kept, Represents, Holds, is_kept, kept_of, entry_of, job_with, poller_of, connected, live_of, is_live_on}
use Rattle.hub_model.specs.Steps.{Joining, holding, joined}
use Rattle.hub_model.proofs.Items.{not_any, not_true, not_both, none_of}
use Rattle.hub_model.proofs.Reached.{IsRun, IsLiveIn}
use Rattle.hub_model.proofs.Numbered.{number_low}
use Rattle.hub_model.proofs.Ends.{some_job}
use Rattle.hub_model.proofs.Zipped.{zip_push}
use Rattle.hub_model.proofs.Closed.{turn_each, with_live}

-- what joins is what was admitted, under the id that it was asked for
pub record Asks (meta : Metadata) (asked : List ℕ) (a : Admitted) (j : Joining) : Type 0 where
  pub id : j.id ≡ asked
  pub kind : j.kind ≡ a.query.kind
  pub poller : j.poller ≡ poller_of a.query
  pub binding : j.binding ≡ binding_of a.query a.cursor
  pub plan : plan_of (view_of meta a.query) a.query.selection ≡ Some j.plan
  pub admitted : IsAdmitted meta a
  pub cursor : MayBeCursor a.query a.cursor

-- ---- the next number

pub next_no_member : (s : State) → IsRun s → list_any (is_member (length s.subscriptions + 1)) s.jobs ≡ false
next_no_member s w =
    not_any (is_member (length s.subscriptions + 1)) s.jobs (λ job a m.
    let who = w.members job a (length s.subscriptions + 1) m in
    let low = number_low s w who.0 who.1 in
    let is = who.2 in omega (arith, low, is))

pub next_not_due : (s : State) → IsRun s → list_any (λ d. d == length s.subscriptions + 1) s.due ≡ false
next_not_due s w =
    not_any (λ d. d == length s.subscriptions + 1) s.due (λ d a e.
    let who : IsLiveIn s d = w.due d a in
    let low = number_low s w who.sub who.among in
    let is = who.number in
    let same = eqb-true d (length s.subscriptions + 1) e in omega (arith, low, is, same))

-- ---- one more subscription

module _ (subs : List Subscription) (new : Subscription) (c : ℕ) where
  live_more : (b : Bool) → is_live_on c new ≡ b →
      live_of (subs ++ new ∷ []) c ≡ live_of subs c ++ map (λ (sub : Subscription). sub.number) (cond b (new ∷ []) [])
  live_more b e =
      ap (λ (l : List Subscription). map (λ (sub : Subscription). sub.number) l)
      (filter-append (is_live_on c) subs (new ∷ [])
      ∙ ap (λ (d : Bool). filter (is_live_on c) subs ++ cond d (new ∷ []) []) e)
      ∙ map-append (λ (sub : Subscription). sub.number) (filter (is_live_on c) subs) (cond b (new ∷ []) [])

  pub live_push : is_live_on c new ≡ true → live_of (subs ++ new ∷ []) c ≡ live_of subs c ++ new.number ∷ []
  live_push e = live_more true e

  pub live_same : is_live_on c new ≡ false → live_of (subs ++ new ∷ []) c ≡ live_of subs c
  live_same e = live_more false e ∙ append-nil (live_of subs c)

module _ (conn : ℕ) (id : List ℕ) (a : Admitted) (k : Kept) (s : State) where
  abbrev new : Subscription
  new = subscription_of conn id a.query a.cursor s

  abbrev after : State
  after = record s { subscriptions = s.subscriptions ++ new ∷ [] }

  kept_push : kept_of after ≡ kept_of s ++ new ∷ []
  kept_push = filter-append (is_kept s.jobs) s.subscriptions (new ∷ [])

  entry_is : Represents k s → IsRun s → (j : Joining) → Asks k.meta id a j →
      entered (k.subscribed + 1) j.poller j.binding ≡ entry_of s new
  entry_is r w j i =
      let number : k.subscribed + 1 ≡ length s.subscriptions + 1 = ap (λ (n : ℕ). n + 1) r.subscribed in
      let poller = i.poller in
      let binding = i.binding in
      let due = next_not_due s w in
      let job : job_with (length s.subscriptions + 1) s.jobs ≡ None =
      none_of (job_with (length s.subscriptions + 1) s.jobs)
      (some_job (length s.subscriptions + 1) s.jobs ∙ next_no_member s w) in
      cc

  held_is : Represents k s → (j : Joining) → Asks k.meta id a j →
      Holds k.meta new (holding (k.subscribed + 1) conn j)
  held_is r j i = record {
    number = ap (λ (n : ℕ). n + 1) r.subscribed;
    connection = refl;
    id = i.id;
    kind = i.kind;
    last = refl;
    plan = i.plan;
    initial = a.cursor;
    admitted = i.admitted;
    cursor = i.cursor;
  }

  -- what is kept when a subscription joins
  pub one_joined : Represents k s → IsRun s → (j : Joining) → Asks k.meta id a j →
      Represents (joined conn j k) (subscribed conn id s (Ok a)).state
  one_joined r w j i =
      let push = λ (c : Connected). record c { live = c.live ++ (k.subscribed + 1) ∷ [] } in
      record {
        version = r.version;
        tables = r.tables;
        connections =
            ap (changed conn push) r.connections
            ∙ turn_each s.subscriptions conn push (connected (s.subscriptions ++ new ∷ [])) s.connections
            (λ c e. ap (λ (n : ℕ). with_live c (live_of s.subscriptions c.number ++ n ∷ []))
            (ap (λ (n : ℕ). n + 1) r.subscribed)
            ∙ ap (with_live c) (sym (live_push s.subscriptions new c.number (eq-eqb conn c.number (sym e)))))
            (λ c e. ap (with_live c) (sym (live_same s.subscriptions new c.number (other c.number e))));
        entries =
            ap (λ (l : List Entry). l ++ entered (k.subscribed + 1) j.poller j.binding ∷ []) r.entries
            ∙ ap (λ (e : Entry). map (entry_of s) (kept_of s) ++ e ∷ []) (entry_is r w j i)
            ∙ sym (map-append (entry_of s) (kept_of s) (new ∷ []))
            ∙ ap (map (entry_of s)) (sym kept_push);
        held = subst (λ (l : List Subscription). AllZip (Holds k.meta) l (k.held ++ holding (k.subscribed + 1) conn j ∷ []))
            (sym kept_push)
            (zip_push (Holds k.meta) (kept_of s) k.held new (holding (k.subscribed + 1) conn j) r.held (held_is r j i));
        jobs = r.jobs;
        subscribed =
            let count = length-append s.subscriptions (new ∷ []) in
            let before = r.subscribed in omega (arith, count, before);
        jobs_made = r.jobs_made;
      }
    where
      other : (n : ℕ) → n == conn ≡ false → conn == n ≡ false
      other n e = not_true (conn == n) (λ h. not_both (n == conn) (eq-eqb n conn (sym (eqb-true conn n h))) e)
