-- A stream moves along its own results.
use Rattle.std.proofs.Common.{◌≡◌, inl, inr, ◌∙◌, sym, ap, refl, subst, ℕ, ◌==◌, nat_lt, Bool, true, false, cond, if◌then◌else◌, Some, None, Option, List, [], ◌∷◌, ◌++◌, map, filter}
use Rattle.std.specs.Option.{IfSome, option_map, option_or}
use Rattle.std.proofs.lemmas.Bool.{eqb-true, eqb-false, eq-eqb, ne_eqb}
use Rattle.std.proofs.lemmas.List.Elements.{filter-append}
use Rattle.scalar_val.specs.declared.val.Val.{Val}
use Rattle.data_model.specs.Rows.{Database}
use Rattle.data_model.specs.Transactions.{snapshot}
use Rattle.data_model.specs.declared.transaction.TxChange.{TxChange}
use Rattle.role_model.specs.declared.metadata.Metadata.{Metadata}
use Rattle.query_model.specs.Queries.{Query}
use Rattle.query_model.specs.declared.kind.SubKind.{SubKind}
use Rattle.query_model.specs.declared.kind.SubKind.TheVariants.{Live, Once, Stream}
use Rattle.plan_model.specs.Outcomes.{Outcome}
use Rattle.query_model.specs.Results.{result}
use Rattle.machine.specs.State.{State, Subscription, Member, Job, Event, Connect, Receive, Binary, Timeout, Gone, Commit, Tick, Take, Publish, Abandon, Drain, Report, Skip, Effect, opening, nothing}
use Rattle.machine.specs.Connections.{ended_if}
use Rattle.machine.specs.Batches.{is_subscription, subscription_at, job_at}
use Rattle.machine.specs.Publication.{at_subscription, remembers, moves_to, is_new, publish_kind, publish_member, publish_members, publish}
use Rattle.machine.specs.Run.{happens, after_all, run}
use Rattle.run_laws.specs.Laws.{Turn, turn_of, turns_in, turns_of_job, turns_at, turns_from, is_turn_of, cursor_after, Leads, MovesAlong}
use Rattle.run_laws.proofs.Tests.{found_passes}
use Rattle.run_laws.proofs.Among.{Among, among_filter}
use Rattle.run_laws.proofs.Runs.{after_all-append}
use Rattle.run_laws.proofs.Following.{Alike, at_alike, remembers_alike, moves_alike, ended_alike, ended_unmoved, event_proceeds}
use Rattle.run_laws.proofs.Cases.{IsOther, told_live, told_rows}
use Rattle.run_laws.proofs.Finding.{at_mapped, at_proceeded}
use Rattle.run_laws.proofs.Apart.{Sound}
use Rattle.run_laws.proofs.SoundRuns.{event_sound, run_sound}
use Rattle.run_laws.proofs.OwnResults.{IsOwnNow, own_at, snapshot_later, all_grow}

-- Lists of turns

leads_append : (f : Turn → Val) (ts us : List Turn) (a b c : Val) → Leads f a ts b → Leads f b us c → Leads f a (ts ++ us) c
leads_append f [] us a b c h i = subst (λ (v : Val). Leads f v us c) h i
leads_append f (t ∷ ts) us a b c h i = (h.0, leads_append f ts us (f t) b c h.1 i)

leads_same : (f g : Turn → Val) (ts : List Turn) (a b : Val) → ((t : Turn) → Among t ts → f t ≡ g t) → Leads f a ts b → Leads g a ts b
leads_same f g [] a b e h = h
leads_same f g (t ∷ ts) a b e h =
    (h.0, leads_same f g ts (g t) b (λ u k. e u (inr k)) (subst (λ (v : Val). Leads f v ts b) (e t (inl refl)) h.1))

-- the cursor of the subscription of a number, which there is
cursor_of : Option Subscription → Val → Type 0
cursor_of o v = IfSome o (λ x. x.cursor ≡ v)

-- The subscription of the number is there, is a stream, and has this cursor.
record IsAt (number : ℕ) (subs : List Subscription) (cursor : Val) : Type 0 where
  sub : Subscription
  at : subscription_at number subs ≡ Some sub
  stream : sub.query.kind ≡ Stream
  is : sub.cursor ≡ cursor

-- a change that leaves its cursor
stays_at : (number : ℕ) (f : Subscription → Subscription) → Alike f → (subs : List Subscription) (cursor : Val) → ((x : Subscription) → x.number ≡ number → (f x).cursor ≡ x.cursor) → IsAt number subs cursor → IsAt number (map f subs) cursor
stays_at number f a subs cursor h p = record {
  sub = f p.sub;
  at = at_mapped f a number subs ∙ ap (λ (o : Option Subscription). option_map f o) p.at;
  stream = ap (λ (q : Query). q.kind) (a.query p.sub) ∙ p.stream;
  is = h p.sub (number_at number subs p.sub p.at) ∙ p.is;
}
  where
    number_at : (number : ℕ) (subs : List Subscription) (x : Subscription) → subscription_at number subs ≡ Some x → x.number ≡ number
    number_at number subs x e = eqb-true x.number number (subst (λ (o : Option Subscription). IfSome o (λ y. (y.number == number) ≡ true)) e (found_passes (is_subscription number) subs))

kept_by : (g : Subscription → Subscription) (b : Bool) (x : Subscription) → (g x).cursor ≡ x.cursor → (if b then g x else x).cursor ≡ x.cursor
kept_by g true x h = h
kept_by g false x h = refl

kept_other : (g : Subscription → Subscription) (b : Bool) (x : Subscription) → b ≡ false → (if b then g x else x).cursor ≡ x.cursor
kept_other g true x h = absurd (cc)
kept_other g false x h = refl

if_at : (number : ℕ) (b : Bool) (e f : Effect) (cursor : Val) → IsAt number e.state.subscriptions cursor → IsAt number f.state.subscriptions cursor → IsAt number (if b then e else f).state.subscriptions cursor
if_at number true e f cursor h i = h
if_at number false e f cursor h i = i

-- another subscription's turn
other_at : (number : ℕ) (k : SubKind) (sub : Subscription) (r : Outcome) (s : State) (cursor : Val) → (sub.number == number) ≡ false → IsAt number s.subscriptions cursor → IsAt number (publish_kind k sub r s).state.subscriptions cursor
other_at number Live sub r s cursor e p =
    if_at number (is_new sub.last r.text) (told_live sub r s) (nothing s) cursor
    (stays_at number (at_subscription sub.number (remembers r.text)) (at_alike sub.number (remembers r.text) (remembers_alike r.text)) s.subscriptions cursor (λ x n. kept_by (remembers r.text) (x.number == sub.number) x refl) p) p
other_at number Once sub r s cursor e p =
    stays_at number (ended_if (is_subscription sub.number)) (ended_alike (is_subscription sub.number)) s.subscriptions cursor (λ x n. (ended_unmoved (is_subscription sub.number)).cursor x) p
other_at number Stream sub r s cursor e p =
    if_at number (nat_lt 0 r.rows) (told_rows sub r s) (nothing s) cursor
    (stays_at number (at_subscription sub.number (moves_to r.last)) (at_alike sub.number (moves_to r.last) (moves_alike r.last)) s.subscriptions cursor
    (λ x n. kept_other (moves_to r.last) (x.number == sub.number) x (ne_eqb x.number sub.number (λ same. eqb-false sub.number number e (sym same ∙ n)))) p) p

-- its own turn
moved_here : (cursor : Val) (sub : Subscription) (b : Bool) → b ≡ true → (if b then moves_to cursor sub else sub).cursor ≡ cursor
moved_here cursor sub true e = refl
moved_here cursor sub false e = absurd (cc)

own_at_by : (number : ℕ) (sub : Subscription) (r : Outcome) (s : State) (b : Bool) → subscription_at number s.subscriptions ≡ Some sub → sub.query.kind ≡ Stream →
    IsAt number (if b then told_rows sub r s else nothing s).state.subscriptions (if b then r.last else sub.cursor)
own_at_by number sub r s true at stream =
    let f = at_subscription sub.number (moves_to r.last) in
    let a = at_alike sub.number (moves_to r.last) (moves_alike r.last) in
    record {
      sub = f sub;
      at = at_mapped f a number s.subscriptions ∙ ap (λ (o : Option Subscription). option_map f o) at;
      stream = ap (λ (q : Query). q.kind) (a.query sub) ∙ stream;
      is = moved_here r.last sub (sub.number == sub.number) (eq-eqb sub.number sub.number refl);
    }
own_at_by number sub r s false at stream = record { sub = sub; at = at; stream = stream; is = refl }

own_kind : (number : ℕ) (k : SubKind) (sub : Subscription) (r : Outcome) (s : State) → subscription_at number s.subscriptions ≡ Some sub → sub.query.kind ≡ Stream → k ≡ Stream →
    IsAt number (publish_kind k sub r s).state.subscriptions (if nat_lt 0 r.rows then r.last else sub.cursor)
own_kind number Stream sub r s at stream e = own_at_by number sub r s (nat_lt 0 r.rows) at stream
own_kind number Live sub r s at stream e = absurd (cc)
own_kind number Once sub r s at stream e = absurd (cc)

-- from a cursor along turns to another one
record Goes (f : Turn → Val) (number : ℕ) (from : Val) (ts : List Turn) (after : List Subscription) : Type 0 where
  to : Val
  at : IsAt number after to
  leads : Leads f from (filter (is_turn_of number) ts) to

goes_nowhere : (f : Turn → Val) (number : ℕ) (from : Val) (after : List Subscription) → IsAt number after from → Goes f number from [] after
goes_nowhere f number from after p = record { to = from; at = p; leads = refl }

goes_then : (f : Turn → Val) (number : ℕ) (from : Val) (ts us : List Turn) (after last : List Subscription) → (g : Goes f number from ts after) → Goes f number g.to us last → Goes f number from (ts ++ us) last
goes_then f number from ts us after last g h = record {
  to = h.to;
  at = h.at;
  leads = subst (λ (l : List Turn). Leads f from l h.to) (sym (filter-append (is_turn_of number) ts us)) (leads_append f (filter (is_turn_of number) ts) (filter (is_turn_of number) us) from g.to h.to g.leads h.leads);
}

-- one turn
own_leads : (number : ℕ) (f : Turn → Val) (t : Turn) (from to : Val) → is_turn_of number t ≡ true → Leads f from (t ∷ []) to → Leads f from (filter (is_turn_of number) (t ∷ [])) to
own_leads number f t from to e h = subst (λ (b : Bool). Leads f from (cond b (t ∷ []) []) to) (sym e) h

other_leads : (number : ℕ) (f : Turn → Val) (t : Turn) (from : Val) → is_turn_of number t ≡ false → Leads f from (filter (is_turn_of number) (t ∷ [])) from
other_leads number f t from e = subst (λ (b : Bool). Leads f from (cond b (t ∷ []) []) from) (sym e) refl

turn_goes : (number : ℕ) (f : Turn → Val) (t : Turn) (k : SubKind) (r : Outcome) (s : State) (from : Val) (c : Bool) → is_turn_of number t ≡ c → k ≡ t.subscription.query.kind → f t ≡ (if nat_lt 0 r.rows then r.last else t.subscription.cursor) →
    IsAt number s.subscriptions from → (c ≡ true → subscription_at number s.subscriptions ≡ Some t.subscription) → Goes f number from (t ∷ []) (publish_kind k t.subscription r s).state.subscriptions
turn_goes number f t k r s from true e kind is p own =
    let found = own refl in
    let same = sym p.at ∙ found in
    let stream : t.subscription.query.kind ≡ Stream = subst (λ (o : Option Subscription). IfSome o (λ x. x.query.kind ≡ Stream)) same p.stream in
    let cursor : t.subscription.cursor ≡ from = subst (λ (o : Option Subscription). IfSome o (λ x. x.cursor ≡ from)) same p.is in
    record {
      to = if nat_lt 0 r.rows then r.last else t.subscription.cursor;
      at = own_kind number k t.subscription r s found stream (kind ∙ stream);
      leads = own_leads number f t from (if nat_lt 0 r.rows then r.last else t.subscription.cursor) e (cursor, sym is);
    }
turn_goes number f t k r s from false e kind is p own = record {
  to = from;
  at = other_at number k t.subscription r s from e p;
  leads = other_leads number f t from e;
}

-- turns over the databases of all versions
abbrev after_at : Metadata → (ℕ → Database) → Turn → Val
after_at meta at t =
    let r = result meta t.subscription.query t.subscription.cursor (at t.version) in if nat_lt 0 r.rows then r.last else t.subscription.cursor

turn_when : (meta : Metadata) (at : ℕ → Database) (version number : ℕ) (sub : Subscription) (s : State) (from : Val) (live : Bool) → IsAt number s.subscriptions from →
    (is_subscription number sub ≡ true → subscription_at number s.subscriptions ≡ Some sub) →
    Goes (after_at meta at) number from
    (if live then record { version = version; subscription = sub; queued = (if live then publish_kind sub.query.kind sub (result meta sub.query sub.cursor (at version)) s else nothing s).queued } ∷ [] else [])
    (if live then publish_kind sub.query.kind sub (result meta sub.query sub.cursor (at version)) s else nothing s).state.subscriptions
turn_when meta at version number sub s from true p own =
    let r = result meta sub.query sub.cursor (at version) in
    let t : Turn = record { version = version; subscription = sub; queued = (publish_kind sub.query.kind sub r s).queued } in
    turn_goes number (after_at meta at) t sub.query.kind r s from (is_subscription number sub) refl refl refl p own
turn_when meta at version number sub s from false p own = goes_nowhere (after_at meta at) number from s.subscriptions p

member_goes : (meta : Metadata) (at : ℕ → Database) (version number k : ℕ) (s : State) (from : Val) (o : Option Subscription) → subscription_at k s.subscriptions ≡ o → IsAt number s.subscriptions from →
    Goes (after_at meta at) number from (turn_of meta (at version) version s o) (publish_member meta (at version) s o).state.subscriptions
member_goes meta at version number k s from None e p = goes_nowhere (after_at meta at) number from s.subscriptions p
member_goes meta at version number k s from (Some sub) e p =
    turn_when meta at version number sub s from sub.live p
    (λ own.
    let passes : (sub.number == k) ≡ true = subst (λ (o : Option Subscription). IfSome o (λ x. (x.number == k) ≡ true)) e (found_passes (is_subscription k) s.subscriptions) in
    ap (λ (n : ℕ). subscription_at n s.subscriptions) (sym (eqb-true sub.number number own) ∙ eqb-true sub.number k passes) ∙ e)

members_go : (meta : Metadata) (at : ℕ → Database) (version number : ℕ) (ms : List Member) (s : State) (from : Val) → IsAt number s.subscriptions from →
    Goes (after_at meta at) number from (turns_in meta (at version) version ms s) (publish_members meta (at version) ms s).state.subscriptions
members_go meta at version number [] s from p = goes_nowhere (after_at meta at) number from s.subscriptions p
members_go meta at version number (m ∷ ms) s from p =
    let sub = subscription_at m.subscription s.subscriptions in
    let after = (publish_member meta (at version) s sub).state in
    let first = member_goes meta at version number m.subscription s from sub refl p in
    goes_then (after_at meta at) number from (turn_of meta (at version) version s sub) (turns_in meta (at version) version ms after) after.subscriptions (publish_members meta (at version) ms after).state.subscriptions
    first (members_go meta at version number ms after first.to first.at)

job_goes : (meta : Metadata) (j number : ℕ) (s : State) (from : Val) (o : Option Job) → IsAt number s.subscriptions from → Goes (cursor_after meta s) number from (turns_of_job meta s o) (publish meta j s o).state.subscriptions
job_goes meta j number s from (Some job) p = members_go meta (snapshot meta.catalog s.transactions) job.version number job.members s from p
job_goes meta j number s from None p = goes_nowhere (cursor_after meta s) number from s.subscriptions p

-- other events
still_at : (meta : Metadata) (number : ℕ) (s : State) (e : Event) (from : Val) → IsOther e → IsAt number s.subscriptions from → Goes (cursor_after meta s) number from [] (happens meta s e).state.subscriptions
still_at meta number s e from other p =
    let after = (happens meta s e).state.subscriptions in
    let q = event_proceeds meta s e in
    goes_nowhere (cursor_after meta s) number from after
    (record {
      sub = q.change p.sub;
      at = at_proceeded (IsOther e) s.subscriptions after q number ∙ ap (λ (o : Option Subscription). option_or (option_map q.change o) (subscription_at number q.more)) p.at;
      stream = ap (λ (k : Query). k.kind) (q.alike.query p.sub) ∙ p.stream;
      is = (q.unmoved other).cursor p.sub ∙ p.is;
    })

event_goes : (meta : Metadata) (number : ℕ) (s : State) (e : Event) (from : Val) → IsAt number s.subscriptions from → Goes (cursor_after meta s) number from (turns_at meta s e) (happens meta s e).state.subscriptions
event_goes meta number s (Publish j) from p = job_goes meta j number s from (job_at j s.jobs) p
event_goes meta number s (Connect c) from p = still_at meta number s (Connect c) from tt p
event_goes meta number s (Receive c m) from p = still_at meta number s (Receive c m) from tt p
event_goes meta number s (Binary c) from p = still_at meta number s (Binary c) from tt p
event_goes meta number s (Timeout c) from p = still_at meta number s (Timeout c) from tt p
event_goes meta number s (Gone c) from p = still_at meta number s (Gone c) from tt p
event_goes meta number s (Commit tx) from p = still_at meta number s (Commit tx) from tt p
event_goes meta number s Tick from p = still_at meta number s Tick from tt p
event_goes meta number s Take from p = still_at meta number s Take from tt p
event_goes meta number s (Abandon job) from p = still_at meta number s (Abandon job) from tt p
event_goes meta number s (Drain c) from p = still_at meta number s (Drain c) from tt p
event_goes meta number s Report from p = still_at meta number s Report from tt p
event_goes meta number s Skip from p = still_at meta number s Skip from tt p

-- runs
after_later : (meta : Metadata) (s u : State) (more : List (List TxChange)) → u.transactions ≡ s.transactions ++ more → (t : Turn) → IsOwnNow meta s t → cursor_after meta s t ≡ cursor_after meta u t
after_later meta s u more grows t own =
    ap (λ (db : Database). let r = result meta t.subscription.query t.subscription.cursor db in if nat_lt 0 r.rows then r.last else t.subscription.cursor)
    (sym (snapshot_later meta.catalog s.transactions more t.version own.1) ∙ ap (λ (txs : List (List TxChange)). snapshot meta.catalog txs t.version) (sym grows))

run_goes : (meta : Metadata) (number : ℕ) (h : List Event) (s : State) (from : Val) → Sound s → IsAt number s.subscriptions from → Goes (cursor_after meta (after_all meta s h)) number from (turns_from meta s h) (after_all meta s h).subscriptions
run_goes meta number [] s from w p = goes_nowhere (cursor_after meta s) number from s.subscriptions p
run_goes meta number (e ∷ h) s from w p =
    let after = (happens meta s e).state in
    let end = after_all meta after h in
    let grown = all_grow meta (e ∷ h) s in
    let first = event_goes meta number s e from p in
    let moved : Goes (cursor_after meta end) number from (turns_at meta s e) after.subscriptions =
    record {
      to = first.to;
      at = first.at;
      leads =
          leads_same (cursor_after meta s) (cursor_after meta end) (filter (is_turn_of number) (turns_at meta s e)) from first.to
          (λ t a. after_later meta s end grown.0 grown.1 t (own_at meta s e w t (among_filter (is_turn_of number) t (turns_at meta s e) a).0)) first.leads;
    } in
    goes_then (cursor_after meta end) number from (turns_at meta s e) (turns_from meta after h) after.subscriptions end.subscriptions moved (run_goes meta number h after first.to (event_sound meta s e w) first.at)

-- a subscription keeps its query
query_kept : (meta : Metadata) (number : ℕ) (h : List Event) (s : State) (x : Subscription) → subscription_at number s.subscriptions ≡ Some x →
    (z : Subscription) × (subscription_at number (after_all meta s h).subscriptions ≡ Some z) × (z.query ≡ x.query)
query_kept meta number [] s x e = (x, e, refl)
query_kept meta number (e ∷ h) s x at =
    let after = (happens meta s e).state in
    let q = event_proceeds meta s e in
    let next = at_proceeded (IsOther e) s.subscriptions after.subscriptions q number ∙ ap (λ (o : Option Subscription). option_or (option_map q.change o) (subscription_at number q.more)) at in
    let rest = query_kept meta number h after (q.change x) next in
    (rest.0, rest.1, rest.2 ∙ q.alike.query x)

same_found : (P : Subscription → Type 0) (o : Option Subscription) (x y : Subscription) → o ≡ Some x → o ≡ Some y → P x → P y
same_found P o x y e f h = subst (λ (p : Option Subscription). IfSome p P) (sym e ∙ f) h

pub reaches : (meta : Metadata) (s : State) (h : List Event) (number : ℕ) (first last : Subscription) → Sound s → subscription_at number s.subscriptions ≡ Some first →
    subscription_at number (after_all meta s h).subscriptions ≡ Some last → last.query.kind ≡ Stream → Leads (cursor_after meta (after_all meta s h)) first.cursor (filter (is_turn_of number) (turns_from meta s h)) last.cursor
reaches meta s h number first last w at end stream =
    let kept = query_kept meta number h s first at in
    let kind : kept.0.query.kind ≡ Stream = same_found (λ x. x.query.kind ≡ Stream) (subscription_at number (after_all meta s h).subscriptions) last kept.0 end kept.1 stream in
    let begin : IsAt number s.subscriptions first.cursor = record { sub = first; at = at; stream = sym (ap (λ (q : Query). q.kind) kept.2) ∙ kind; is = refl } in
    let g = run_goes meta number h s first.cursor w begin in
    let to : last.cursor ≡ g.to = same_found (λ x. x.cursor ≡ g.to) (subscription_at number (after_all meta s h).subscriptions) g.at.sub last g.at.at end g.at.is in
    subst (λ (v : Val). Leads (cursor_after meta (after_all meta s h)) first.cursor (filter (is_turn_of number) (turns_from meta s h)) v) (sym to) g.leads

pub moves_along : (meta : Metadata) → MovesAlong meta
moves_along meta before after number first last at end stream =
    let whole = after_all-append meta opening before after in
    let found = ap (λ (s : State). subscription_at number s.subscriptions) (sym whole) ∙ end in
    subst (λ (s : State). Leads (cursor_after meta s) first.cursor (filter (is_turn_of number) (turns_from meta (run meta before) after)) last.cursor) (sym whole)
    (reaches meta (run meta before) after number first last (run_sound meta before) at found stream)
