-- What a live query is told changes from text to text.
use Rattle.std.proofs.Common.{◌≡◌, ◌≢◌, ◌∙◌, sym, ap, refl, subst, ℕ, ◌==◌, nat_lt, Bool, true, false, not, cond, if◌then◌else◌, Some, None, Option, List, [], ◌∷◌, ◌++◌, append-nil, length, map, filter, codes}
use Rattle.std.specs.Bool.{⊤}
use Rattle.std.specs.Option.{IfSome, option_map, option_or, option_and_then}
use Rattle.std.specs.List.{flat_map}
use Rattle.std.proofs.lemmas.Bool.{eqb-true, eqb-false, eq-eqb, ne_eqb, true≢false}
use Rattle.std.proofs.lemmas.Cmp.{nat_list_eq_equiv}
use Rattle.std.proofs.lemmas.List.{append_cancel_left, append_cancel_right}
use Rattle.std.proofs.lemmas.List.Elements.{filter-append}
use Rattle.std.proofs.lemmas.Grind.{flat_map-append}
use Rattle.json.specs.Print.{quoted}
use Rattle.scalar_val.specs.declared.val.Val.{Val}
use Rattle.data_model.specs.Rows.{Database}
use Rattle.role_model.specs.declared.metadata.Metadata.{Metadata}
use Rattle.std.specs.Str.{bytes_eq}
use Rattle.query_model.specs.Queries.{Query}
use Rattle.query_model.specs.declared.kind.SubKind.{SubKind}
use Rattle.query_model.specs.declared.kind.SubKind.TheVariants.{Live, Once, Stream}
use Rattle.plan_model.specs.Outcomes.{Outcome}
use Rattle.query_model.specs.Results.{result}
use Rattle.wire_model.specs.ServerMessages.{next_text}
use Rattle.machine.specs.State.{State, Subscription, Member, Job, Event, Connect, Receive, Binary, Timeout, Gone, Commit, Tick, Take, Publish, Abandon, Drain, Report, Skip, Effect, opening, nothing}
use Rattle.machine.specs.Connections.{ended_if}
use Rattle.machine.specs.Batches.{is_subscription, subscription_at, job_at}
use Rattle.machine.specs.Publication.{at_subscription, remembers, moves_to, is_new, publish_kind, publish_member, publish_members, publish, database_of}
use Rattle.machine.specs.Run.{happens, after_all}
use Rattle.run_laws.specs.Laws.{Turn, turn_of, turns_in, turns_of_job, turns_at, turns_from, is_turn_of, texts, told, EachDiffersFromNext, TellsChanges}
use Rattle.run_laws.proofs.Tests.{found_passes}
use Rattle.run_laws.proofs.Following.{Alike, at_alike, remembers_alike, moves_alike, ended_alike, ended_unmoved, Follows, Proceeds, IsNewer, member_follows, event_proceeds}
use Rattle.run_laws.proofs.Cases.{IsOther, told_live, told_rows}
use Rattle.run_laws.proofs.Finding.{at_mapped, at_followed, at_proceeded}

-- Texts that change, each from the one before; `last` is the one before the first.
abbrev Changing : Option (List ℕ) → List (List ℕ) → Type 0
Changing last [] = ⊤
Changing None (t ∷ ts) = Changing (Some t) ts
Changing (Some u) (t ∷ ts) = (u ≢ t) × Changing (Some t) ts

abbrev last_of : Option (List ℕ) → List (List ℕ) → Option (List ℕ)
last_of last [] = last
last_of last (t ∷ ts) = last_of (Some t) ts

changing_append : (last : Option (List ℕ)) (ts us : List (List ℕ)) → Changing last ts → Changing (last_of last ts) us → Changing last (ts ++ us)
changing_append last [] us h i = i
changing_append None (t ∷ ts) us h i = changing_append (Some t) ts us h i
changing_append (Some u) (t ∷ ts) us h i = (h.0, changing_append (Some t) ts us h.1 i)

last_append : (last : Option (List ℕ)) (ts us : List (List ℕ)) → last_of (last_of last ts) us ≡ last_of last (ts ++ us)
last_append last [] us = refl
last_append last (t ∷ ts) us = last_append (Some t) ts us

differ_after : (t : List ℕ) (ts : List (List ℕ)) → Changing (Some t) ts → EachDiffersFromNext (t ∷ ts)
differ_after t [] h = tt
differ_after t (u ∷ ts) h = (h.0, differ_after u ts h.1)

differ : (ts : List (List ℕ)) → Changing None ts → EachDiffersFromNext ts
differ [] h = tt
differ (t ∷ ts) h = differ_after t ts h

-- one step from `last` to `now` by these texts
record Tells (last now : Option (List ℕ)) (ts : List (List ℕ)) : Type 0 where
  changing : Changing last ts
  reached : now ≡ last_of last ts

tells_nothing : (last now : Option (List ℕ)) → now ≡ last → Tells last now []
tells_nothing last now e = record { changing = tt; reached = e }

tells_append : (a b c : Option (List ℕ)) (ts us : List (List ℕ)) → Tells a b ts → Tells b c us → Tells a c (ts ++ us)
tells_append a b c ts us x y = record {
  changing = changing_append a ts us x.changing (subst (λ (o : Option (List ℕ)). Changing o us) x.reached y.changing);
  reached = y.reached ∙ ap (λ (o : Option (List ℕ)). last_of o us) x.reached ∙ last_append a ts us;
}

-- the text that a subscription was told last
abbrev last_text : Subscription → Option (List ℕ)
last_text sub = option_map (next_text sub.id) sub.last

abbrev heard : Option Subscription → Option (List ℕ)
heard o = option_and_then last_text o

abbrev heard_by : ℕ → List Subscription → Option (List ℕ)
heard_by number subs = heard (subscription_at number subs)

abbrev said_to : ℕ → List Turn → List (List ℕ)
said_to number ts = flat_map (λ t. texts t.queued) (filter (is_turn_of number) ts)

said_append : (number : ℕ) (ts us : List Turn) → said_to number (ts ++ us) ≡ said_to number ts ++ said_to number us
said_append number ts us =
    ap (λ (l : List Turn). flat_map (λ t. texts t.queued) l) (filter-append (is_turn_of number) ts us)
    ∙ flat_map-append (λ (t : Turn). texts t.queued) (filter (is_turn_of number) ts) (filter (is_turn_of number) us)

-- the subscription of the number, where there is one, is a live query
abbrev IsLiveQuery : Option Subscription → Type 0
IsLiveQuery o = IfSome o (λ sub. sub.query.kind ≡ Live)

-- One publication

next_same : (id p q : List ℕ) → next_text id p ≡ next_text id q → p ≡ q
next_same id p q h =
    let front = codes "{\"type\":\"next\",\"id\":" ++ quoted id ++ codes ",\"payload\":" in
    append_cancel_left front p q (append_cancel_right (front ++ p) (front ++ q) (codes "}") h)

new_differs : (id l t : List ℕ) → not (bytes_eq l t) ≡ true → next_text id l ≢ next_text id t
new_differs id l t h e =
    let same = next_same id l t e in
    let own = ap (λ (x : List ℕ). not (bytes_eq l x)) same in
    true≢false (sym h ∙ sym own ∙ ap (λ (b : Bool). not b) (nat_list_eq_equiv.refl l))

new_changing : (id : List ℕ) (last : Option (List ℕ)) (t : List ℕ) → is_new last t ≡ true → Changing (option_map (next_text id) last) (next_text id t ∷ [])
new_changing id None t h = tt
new_changing id (Some l) t h = (new_differs id l t h, tt)

-- what a live query is told at its own turn, by what it remembers after
heard_map : (f : Subscription → Subscription) (o : Option Subscription) → ((x : Subscription) → last_text (f x) ≡ last_text x) → heard (option_map f o) ≡ heard o
heard_map f (Some x) h = h x
heard_map f None h = refl

own_eq : (n : ℕ) → (n == n) ≡ true
own_eq n = eq-eqb n n refl

at_own : (text : List ℕ) (sub : Subscription) (b : Bool) → b ≡ true → last_text (if b then remembers text sub else sub) ≡ Some (next_text sub.id text)
at_own text sub true e = refl
at_own text sub false e = absurd (cc)

own_turn : (number : ℕ) (sub : Subscription) (text : List ℕ) (subs : List Subscription) → subscription_at number subs ≡ Some sub →
    heard_by number (map (at_subscription sub.number (remembers text)) subs) ≡ Some (next_text sub.id text)
own_turn number sub text subs at =
    let f = at_subscription sub.number (remembers text) in
    ap heard (at_mapped f (at_alike sub.number (remembers text) (remembers_alike text)) number subs)
    ∙ ap (λ (o : Option Subscription). heard (option_map f o)) at
    ∙ at_own text sub (sub.number == sub.number) (own_eq sub.number)

at_other : (text : List ℕ) (x : Subscription) (b : Bool) → b ≡ false → last_text (if b then remembers text x else x) ≡ last_text x
at_other text x true e = absurd (cc)
at_other text x false e = refl

heard_other : (number : ℕ) (sub : Subscription) (text : List ℕ) (o : Option Subscription) → (sub.number == number) ≡ false → IfSome o (λ x. (x.number == number) ≡ true) →
    heard (option_map (at_subscription sub.number (remembers text)) o) ≡ heard o
heard_other number sub text None e h = refl
heard_other number sub text (Some x) e h =
    at_other text x (x.number == sub.number) (ne_eqb x.number sub.number (λ same. eqb-false sub.number number e (sym same ∙ eqb-true x.number number h)))

other_turn : (number : ℕ) (sub : Subscription) (text : List ℕ) (subs : List Subscription) → (sub.number == number) ≡ false →
    heard_by number (map (at_subscription sub.number (remembers text)) subs) ≡ heard_by number subs
other_turn number sub text subs e =
    let f = at_subscription sub.number (remembers text) in
    ap heard (at_mapped f (at_alike sub.number (remembers text) (remembers_alike text)) number subs)
    ∙ heard_other number sub text (subscription_at number subs) e (found_passes (is_subscription number) subs)

-- a change that leaves last texts as they are
kept_last : (f : Subscription → Subscription) → Alike f → ((x : Subscription) → (f x).last ≡ x.last) → (number : ℕ) (subs : List Subscription) → heard_by number (map f subs) ≡ heard_by number subs
kept_last f a last number subs =
    ap heard (at_mapped f a number subs)
    ∙ heard_map f (subscription_at number subs) (λ x. ap (λ (id : List ℕ). option_map (next_text id) (f x).last) (a.id x) ∙ ap (λ (o : Option (List ℕ)). option_map (next_text x.id) o) (last x))

at_moved : (number : ℕ) (cursor : Val) (x : Subscription) → (at_subscription number (moves_to cursor) x).last ≡ x.last
at_moved number cursor x = at_moved_by (x.number == number)
  where
    at_moved_by : (b : Bool) → (if b then moves_to cursor x else x).last ≡ x.last
    at_moved_by true = refl
    at_moved_by false = refl

if_heard : (number : ℕ) (b : Bool) (e f : Effect) (last : Option (List ℕ)) → heard_by number e.state.subscriptions ≡ last → heard_by number f.state.subscriptions ≡ last → heard_by number (if b then e else f).state.subscriptions ≡ last
if_heard number true e f last h i = h
if_heard number false e f last h i = i

other_kind : (number : ℕ) (k : SubKind) (sub : Subscription) (r : Outcome) (s : State) → (sub.number == number) ≡ false →
    heard_by number (publish_kind k sub r s).state.subscriptions ≡ heard_by number s.subscriptions
other_kind number Live sub r s e =
    if_heard number (is_new sub.last r.text) (told_live sub r s) (nothing s) (heard_by number s.subscriptions)
    (other_turn number sub r.text s.subscriptions e) refl
other_kind number Once sub r s e =
    kept_last (ended_if (is_subscription sub.number)) (ended_alike (is_subscription sub.number)) (ended_unmoved (is_subscription sub.number)).last number s.subscriptions
other_kind number Stream sub r s e =
    if_heard number (nat_lt 0 r.rows) (told_rows sub r s) (nothing s) (heard_by number s.subscriptions)
    (kept_last (at_subscription sub.number (moves_to r.last)) (at_alike sub.number (moves_to r.last) (moves_alike r.last)) (at_moved sub.number r.last) number s.subscriptions) refl

-- the turn of the live query itself
own_live : (number : ℕ) (sub : Subscription) (r : Outcome) (s : State) (b : Bool) → subscription_at number s.subscriptions ≡ Some sub → is_new sub.last r.text ≡ b →
    Tells (heard_by number s.subscriptions)
    (heard_by number (if b then told_live sub r s else nothing s).state.subscriptions)
    (texts (if b then told_live sub r s else nothing s).queued)
own_live number sub r s true at new = record {
  changing = subst (λ (o : Option (List ℕ)). Changing o (next_text sub.id r.text ∷ [])) (sym (ap heard at)) (new_changing sub.id sub.last r.text new);
  reached = own_turn number sub r.text s.subscriptions at;
}
own_live number sub r s false at new = tells_nothing _ _ refl

own_kind : (number : ℕ) (k : SubKind) (sub : Subscription) (r : Outcome) (s : State) → subscription_at number s.subscriptions ≡ Some sub → k ≡ Live →
    Tells (heard_by number s.subscriptions) (heard_by number (publish_kind k sub r s).state.subscriptions) (texts (publish_kind k sub r s).queued)
own_kind number Live sub r s at e = own_live number sub r s (is_new sub.last r.text) at refl
own_kind number Once sub r s at e = absurd (cc)
own_kind number Stream sub r s at e = absurd (cc)

said_one : (number : ℕ) (t : Turn) (c : Bool) → is_turn_of number t ≡ c → said_to number (t ∷ []) ≡ (if c then texts t.queued else [])
said_one number t c e = ap (λ (b : Bool). flat_map (λ (u : Turn). texts u.queued) (cond b (t ∷ []) [])) e ∙ said_by c
  where
    said_by : (b : Bool) → flat_map (λ (u : Turn). texts u.queued) (cond b (t ∷ []) []) ≡ (if b then texts t.queued else [])
    said_by true = append-nil (texts t.queued)
    said_by false = refl

turn_by : (number version : ℕ) (sub : Subscription) (r : Outcome) (s : State) (c : Bool) → is_subscription number sub ≡ c →
    (c ≡ true → (subscription_at number s.subscriptions ≡ Some sub) × (sub.query.kind ≡ Live)) →
    Tells (heard_by number s.subscriptions) (heard_by number (publish_kind sub.query.kind sub r s).state.subscriptions) (if c then texts (publish_kind sub.query.kind sub r s).queued else [])
turn_by number version sub r s true e own = own_kind number sub.query.kind sub r s (own refl).0 (own refl).1
turn_by number version sub r s false e own = tells_nothing _ _ (other_kind number sub.query.kind sub r s e)

turn_when : (number version : ℕ) (sub : Subscription) (r : Outcome) (s : State) (live : Bool) →
    (is_subscription number sub ≡ true → (subscription_at number s.subscriptions ≡ Some sub) × (sub.query.kind ≡ Live)) →
    Tells (heard_by number s.subscriptions) (heard_by number (if live then publish_kind sub.query.kind sub r s else nothing s).state.subscriptions)
    (said_to number (if live then record { version = version; subscription = sub; queued = (if live then publish_kind sub.query.kind sub r s else nothing s).queued } ∷ [] else []))
turn_when number version sub r s true own =
    let t : Turn = record { version = version; subscription = sub; queued = (publish_kind sub.query.kind sub r s).queued } in
    subst (λ (ts : List (List ℕ)). Tells (heard_by number s.subscriptions) (heard_by number (publish_kind sub.query.kind sub r s).state.subscriptions) ts)
    (sym (said_one number t (is_subscription number sub) refl)) (turn_by number version sub r s (is_subscription number sub) refl own)
turn_when number version sub r s false own = tells_nothing _ _ refl

turn_tells : (meta : Metadata) (db : Database) (version number k : ℕ) (s : State) (o : Option Subscription) → subscription_at k s.subscriptions ≡ o → IsLiveQuery (subscription_at number s.subscriptions) →
    Tells (heard_by number s.subscriptions) (heard_by number (publish_member meta db s o).state.subscriptions) (said_to number (turn_of meta db version s o))
turn_tells meta db version number k s None at live = tells_nothing _ _ refl
turn_tells meta db version number k s (Some sub) at live =
    turn_when number version sub (result meta sub.query sub.cursor db) s sub.live
    (λ own.
    let passes : (sub.number == k) ≡ true = subst (λ (o : Option Subscription). IfSome o (λ x. (x.number == k) ≡ true)) at (found_passes (is_subscription k) s.subscriptions) in
    let same = sym (eqb-true sub.number k passes) ∙ eqb-true sub.number number own in
    let found = ap (λ (n : ℕ). subscription_at n s.subscriptions) (sym same) ∙ at in
    (found, subst (λ (o : Option Subscription). IsLiveQuery o) found live))

-- Members, events and runs

live_mapped : (f : Subscription → Subscription) → Alike f → (o : Option Subscription) → IsLiveQuery o → IsLiveQuery (option_map f o)
live_mapped f a (Some x) h = ap (λ (q : Query). q.kind) (a.query x) ∙ h
live_mapped f a None h = tt

live_followed : (number : ℕ) (subs after : List Subscription) → Follows subs after → IsLiveQuery (subscription_at number subs) → IsLiveQuery (subscription_at number after)
live_followed number subs after f h = subst IsLiveQuery (sym (at_followed subs after f number)) (live_mapped f.change f.alike (subscription_at number subs) h)

said_both : (number : ℕ) (a b c : Option (List ℕ)) (ts us : List Turn) → Tells a b (said_to number ts) → Tells b c (said_to number us) → Tells a c (said_to number (ts ++ us))
said_both number a b c ts us x y = subst (λ (l : List (List ℕ)). Tells a c l) (sym (said_append number ts us)) (tells_append a b c (said_to number ts) (said_to number us) x y)

members_tell : (meta : Metadata) (db : Database) (version number : ℕ) (ms : List Member) (s : State) → IsLiveQuery (subscription_at number s.subscriptions) →
    Tells (heard_by number s.subscriptions) (heard_by number (publish_members meta db ms s).state.subscriptions) (said_to number (turns_in meta db version ms s))
members_tell meta db version number [] s live = tells_nothing _ _ refl
members_tell meta db version number (m ∷ ms) s live =
    let sub = subscription_at m.subscription s.subscriptions in
    let after = (publish_member meta db s sub).state in
    said_both number (heard_by number s.subscriptions) (heard_by number after.subscriptions) (heard_by number (publish_members meta db ms after).state.subscriptions)
    (turn_of meta db version s sub) (turns_in meta db version ms after)
    (turn_tells meta db version number m.subscription s sub refl live)
    (members_tell meta db version number ms after (live_followed number s.subscriptions after.subscriptions (member_follows meta db s sub) live))

job_tells : (meta : Metadata) (job number : ℕ) (s : State) (o : Option Job) → IsLiveQuery (subscription_at number s.subscriptions) →
    Tells (heard_by number s.subscriptions) (heard_by number (publish meta job s o).state.subscriptions) (said_to number (turns_of_job meta s o))
job_tells meta job number s (Some j) live = members_tell meta (database_of meta s j) j.version number j.members s live
job_tells meta job number s None live = tells_nothing _ _ refl

newer_unheard : (count number : ℕ) (more : List Subscription) → IsNewer count more → heard_by number more ≡ None
newer_unheard count number [] new = refl
newer_unheard count number (sub ∷ []) new = unheard_by (sub.number == number)
  where
    unheard_by : (b : Bool) → heard (cond b (Some sub) None) ≡ None
    unheard_by true = ap (λ (o : Option (List ℕ)). option_map (next_text sub.id) o) new.1
    unheard_by false = refl
newer_unheard count number (sub ∷ other ∷ subs) new = absurd new

heard_or : (o p : Option Subscription) → heard p ≡ None → heard (option_or o p) ≡ heard o
heard_or (Some x) p h = refl
heard_or None p h = h

still_heard : (still : Type 0) (number : ℕ) (subs after : List Subscription) (p : Proceeds still subs after) → still → heard_by number after ≡ heard_by number subs
still_heard still number subs after p holds =
    ap heard (at_proceeded still subs after p number)
    ∙ heard_or (option_map p.change (subscription_at number subs)) (subscription_at number p.more) (newer_unheard (length subs) number p.more p.newer)
    ∙ heard_map p.change (subscription_at number subs)
    (λ x. ap (λ (id : List ℕ). option_map (next_text id) (p.change x).last) (p.alike.id x) ∙ ap (λ (o : Option (List ℕ)). option_map (next_text x.id) o) ((p.unmoved holds).last x))

quiet : (meta : Metadata) (number : ℕ) (s : State) (e : Event) → IsOther e → Tells (heard_by number s.subscriptions) (heard_by number (happens meta s e).state.subscriptions) []
quiet meta number s e other = tells_nothing _ _ (still_heard (IsOther e) number s.subscriptions (happens meta s e).state.subscriptions (event_proceeds meta s e) other)

event_tells : (meta : Metadata) (number : ℕ) (s : State) (e : Event) → IsLiveQuery (subscription_at number s.subscriptions) →
    Tells (heard_by number s.subscriptions) (heard_by number (happens meta s e).state.subscriptions) (said_to number (turns_at meta s e))
event_tells meta number s (Publish job) live = job_tells meta job number s (job_at job s.jobs) live
event_tells meta number s (Connect c) live = quiet meta number s (Connect c) tt
event_tells meta number s (Receive c m) live = quiet meta number s (Receive c m) tt
event_tells meta number s (Binary c) live = quiet meta number s (Binary c) tt
event_tells meta number s (Timeout c) live = quiet meta number s (Timeout c) tt
event_tells meta number s (Gone c) live = quiet meta number s (Gone c) tt
event_tells meta number s (Commit tx) live = quiet meta number s (Commit tx) tt
event_tells meta number s Tick live = quiet meta number s Tick tt
event_tells meta number s Take live = quiet meta number s Take tt
event_tells meta number s (Abandon job) live = quiet meta number s (Abandon job) tt
event_tells meta number s (Drain c) live = quiet meta number s (Drain c) tt
event_tells meta number s Report live = quiet meta number s Report tt
event_tells meta number s Skip live = quiet meta number s Skip tt

-- a query was of its kind from the first on
kind_before : (f : Subscription → Subscription) → Alike f → (o p : Option Subscription) → IsLiveQuery (option_or (option_map f o) p) → IsLiveQuery o
kind_before f a (Some x) p h = sym (ap (λ (q : Query). q.kind) (a.query x)) ∙ h
kind_before f a None p h = tt

live_before : (still : Type 0) (number : ℕ) (subs after : List Subscription) (p : Proceeds still subs after) → IsLiveQuery (subscription_at number after) → IsLiveQuery (subscription_at number subs)
live_before still number subs after p h =
    kind_before p.change p.alike (subscription_at number subs) (subscription_at number p.more) (subst IsLiveQuery (at_proceeded still subs after p number) h)

live_at_start : (meta : Metadata) (number : ℕ) (h : List Event) (s : State) → IsLiveQuery (subscription_at number (after_all meta s h).subscriptions) → IsLiveQuery (subscription_at number s.subscriptions)
live_at_start meta number [] s live = live
live_at_start meta number (e ∷ h) s live =
    let after = (happens meta s e).state in
    live_before (IsOther e) number s.subscriptions after.subscriptions (event_proceeds meta s e) (live_at_start meta number h after live)

run_tells : (meta : Metadata) (number : ℕ) (h : List Event) (s : State) → IsLiveQuery (subscription_at number (after_all meta s h).subscriptions) →
    Tells (heard_by number s.subscriptions) (heard_by number (after_all meta s h).subscriptions) (said_to number (turns_from meta s h))
run_tells meta number [] s live = tells_nothing _ _ refl
run_tells meta number (e ∷ h) s live =
    let after = (happens meta s e).state in
    said_both number (heard_by number s.subscriptions) (heard_by number after.subscriptions) (heard_by number (after_all meta after h).subscriptions) (turns_at meta s e) (turns_from meta after h)
    (event_tells meta number s e (live_at_start meta number (e ∷ h) s live)) (run_tells meta number h after live)

pub tells_changes : (meta : Metadata) → TellsChanges meta
tells_changes meta h number sub at live = differ (told meta h number) (run_tells meta number h opening (subst IsLiveQuery (sym at) live)).changing
