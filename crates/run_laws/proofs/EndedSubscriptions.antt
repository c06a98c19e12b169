-- Subscriptions end for good, and a close or the end of a connection ends them.
use Rattle.std.proofs.Common.{◌≡◌, ◌∙◌, sym, ap, refl, ℕ, ◌≤◌, ◌==◌, subst, Bool, true, false, ◌&&◌, not, cond, if◌then◌else◌, Some, None, Option, List, [], ◌∷◌, ◌++◌, append-nil, length, map, filter, arith}
use Rattle.std.specs.Option.{IfSome, is_some}
use Rattle.std.specs.List.{list_any, find, AllByRecursion}
use Rattle.std.proofs.lemmas.List.{length-map, length-append}
use Rattle.std.proofs.lemmas.List.Folds.{list_any-append}
use Rattle.std.proofs.lemmas.List.Elements.{filter-append}
use Rattle.std.proofs.lemmas.Bool.{ne_eqb}
use Rattle.data_model.specs.Rows.{Database}
use Rattle.role_model.specs.declared.metadata.Metadata.{Metadata}
use Rattle.query_model.specs.declared.kind.SubKind.{SubKind}
use Rattle.query_model.specs.declared.kind.SubKind.TheVariants.{Live, Once, Stream}
use Rattle.plan_model.specs.Outcomes.{Outcome}
use Rattle.query_model.specs.Results.{result}
use Rattle.wire_model.specs.ServerMessages.{next_text, complete_text}
use Rattle.machine.specs.State.{State, Connection, Subscription, Member, Job, Event, Publish, Effect, Step, Close, with_reply, nothing, Did}
use Rattle.machine.specs.Connections.{connection_at, is_connection, is_of, ended_if, on_known, gone}
use Rattle.machine.specs.Batches.{is_subscription, subscription_at, job_at}
use Rattle.machine.specs.Publication.{publish_kind, publish_member, publish_members, publish, database_of}
use Rattle.machine.specs.Run.{happens, run}
use Rattle.run_laws.specs.Laws.{Turn, turn_of, turns_in, turns_of_job, turns_at, turns_from, turns, turns_for, is_turn_of, HasNoneLive, EndsForGood, IsAnswered, AnswersOnce, ClosesEnd, GoneEnds, texts}
use Rattle.run_laws.proofs.Tests.{or_both, and_right, and_weaker, none_mapped, none_found, all_append}
use Rattle.run_laws.proofs.Runs.{turns-append}
use Rattle.run_laws.proofs.Following.{Alike, Follows, Proceeds, IsNewer, member_follows, members_follow, event_proceeds}
use Rattle.run_laws.proofs.Cases.{IsOther, by_event, member_case}

-- What ended stays so

abbrev pub lives : ℕ → Subscription → Bool
lives number sub = sub.live && sub.number == number

pub change_ended : (f : Subscription → Subscription) → Alike f → (number : ℕ) (x : Subscription) → lives number x ≡ false → lives number (f x) ≡ false
change_ended f a number x h =
    ap (λ (n : ℕ). (f x).live && n == number) (a.number x) ∙ and_weaker (f x).live x.live (x.number == number) (a.live x) h

pub follows_ended : (subs after : List Subscription) → Follows subs after → (number : ℕ) → list_any (lives number) subs ≡ false → list_any (lives number) after ≡ false
follows_ended subs after f number h =
    ap (λ (l : List Subscription). list_any (lives number) l) f.is ∙ none_mapped (lives number) f.change (change_ended f.change f.alike number) subs h

newer_ended : (count number : ℕ) → number ≤ count → (more : List Subscription) → IsNewer count more → list_any (lives number) more ≡ false
newer_ended count number le [] new = refl
newer_ended count number le (sub ∷ []) new =
    let e = new.0 in or_both (lives number sub) false (and_right sub.live (sub.number == number) (ne_eqb sub.number number (λ same. omega (arith, e, same, le)))) refl
newer_ended count number le (sub ∷ other ∷ subs) new = absurd new

proceeds_ended : (still : Type 0) (subs after : List Subscription) → Proceeds still subs after → (number : ℕ) → number ≤ length subs → list_any (lives number) subs ≡ false → list_any (lives number) after ≡ false
proceeds_ended still subs after p number le h =
    ap (λ (l : List Subscription). list_any (lives number) l) p.is
    ∙ list_any-append (lives number) (map p.change subs) p.more
    ∙ or_both (list_any (lives number) (map p.change subs)) (list_any (lives number) p.more)
    (none_mapped (lives number) p.change (change_ended p.change p.alike number) subs h) (newer_ended (length subs) number le p.more p.newer)

pub proceeds_longer : (still : Type 0) (subs after : List Subscription) → Proceeds still subs after → length subs ≤ length after
proceeds_longer still subs after p =
    let whole = ap (λ (l : List Subscription). length l) p.is in
    let both = length-append (map p.change subs) p.more in
    let mapped = length-map subs p.change in
    omega (arith, whole, both, mapped)

-- No turn of what ended

no_turn_when : (number : ℕ) (t : Turn) (b : Bool) → (b && is_turn_of number t) ≡ false → filter (is_turn_of number) (if b then t ∷ [] else []) ≡ []
no_turn_when number t true h = ap (λ (c : Bool). cond c (t ∷ []) []) h
no_turn_when number t false h = refl

no_turn_of : (meta : Metadata) (db : Database) (version : ℕ) (s : State) (number : ℕ) (o : Option Subscription) → IfSome o (λ sub. lives number sub ≡ false) → filter (is_turn_of number) (turn_of meta db version s o) ≡ []
no_turn_of meta db version s number (Some sub) h = no_turn_when number (record { version = version; subscription = sub; queued = (publish_member meta db s (Some sub)).queued }) sub.live h
no_turn_of meta db version s number None h = refl

no_turns_in : (meta : Metadata) (db : Database) (version number : ℕ) (ms : List Member) (s : State) → list_any (lives number) s.subscriptions ≡ false → filter (is_turn_of number) (turns_in meta db version ms s) ≡ []
no_turns_in meta db version number [] s h = refl
no_turns_in meta db version number (m ∷ ms) s h =
    let sub = subscription_at m.subscription s.subscriptions in
    let after = (publish_member meta db s sub).state in
    filter-append (is_turn_of number) (turn_of meta db version s sub) (turns_in meta db version ms after)
    ∙ ap (λ (ts : List Turn). ts ++ filter (is_turn_of number) (turns_in meta db version ms after))
    (no_turn_of meta db version s number sub (none_found (is_subscription m.subscription) (lives number) s.subscriptions h))
    ∙ no_turns_in meta db version number ms after (follows_ended s.subscriptions after.subscriptions (member_follows meta db s sub) number h)

no_turns_of_job : (meta : Metadata) (s : State) (number : ℕ) (o : Option Job) → list_any (lives number) s.subscriptions ≡ false → filter (is_turn_of number) (turns_of_job meta s o) ≡ []
no_turns_of_job meta s number (Some job) h = no_turns_in meta (database_of meta s job) job.version number job.members s h
no_turns_of_job meta s number None h = refl

no_turns_at : (meta : Metadata) (s : State) (e : Event) (number : ℕ) → list_any (lives number) s.subscriptions ≡ false → filter (is_turn_of number) (turns_at meta s e) ≡ []
no_turns_at meta s (Publish job) number h = no_turns_of_job meta s number (job_at job s.jobs) h
no_turns_at meta s _ number h = refl

no_turns_from : (meta : Metadata) (number : ℕ) (h : List Event) (s : State) → number ≤ length s.subscriptions → list_any (lives number) s.subscriptions ≡ false → filter (is_turn_of number) (turns_from meta s h) ≡ []
no_turns_from meta number [] s le ended = refl
no_turns_from meta number (e ∷ h) s le ended =
    let after = (happens meta s e).state in
    let p = event_proceeds meta s e in
    let longer = proceeds_longer (IsOther e) s.subscriptions after.subscriptions p in
    filter-append (is_turn_of number) (turns_at meta s e) (turns_from meta after h)
    ∙ ap (λ (ts : List Turn). ts ++ filter (is_turn_of number) (turns_from meta after h)) (no_turns_at meta s e number ended)
    ∙ no_turns_from meta number h after (omega (arith, le, longer)) (proceeds_ended (IsOther e) s.subscriptions after.subscriptions p number le ended)

pub ends_for_good : (meta : Metadata) → EndsForGood meta
ends_for_good meta before after number le ended =
    ap (λ (ts : List Turn). filter (is_turn_of number) ts) (turns-append meta before after)
    ∙ filter-append (is_turn_of number) (turns meta before) (turns_from meta (run meta before) after)
    ∙ ap (λ (ts : List Turn). turns_for meta before number ++ ts) (no_turns_from meta number after (run meta before) le ended)
    ∙ append-nil (turns_for meta before number)

-- Ends by a test

ended_one : (key : Subscription → Bool) (x : Subscription) (b : Bool) → key x ≡ b → ((if b then record x { live = false } else x).live && key (if b then record x { live = false } else x)) ≡ false
ended_one key x true e = refl
ended_one key x false e = and_right x.live (key x) e

pub ended_all : (key : Subscription → Bool) (subs : List Subscription) → list_any (λ x. x.live && key x) (map (ended_if key) subs) ≡ false
ended_all key [] = refl
ended_all key (x ∷ xs) = or_both _ _ (ended_one key x (key x) refl) (ended_all key xs)

-- A query that is answered once

answered_kind : (k : SubKind) (sub : Subscription) (r : Outcome) (s : State) → k ≡ Once →
    (texts (publish_kind k sub r s).queued ≡ next_text sub.id r.text ∷ complete_text sub.id ∷ []) × (list_any (lives sub.number) (publish_kind k sub r s).state.subscriptions ≡ false)
answered_kind Once sub r s e = (refl, ended_all (is_subscription sub.number) s.subscriptions)
answered_kind Live sub r s e = absurd (cc)
answered_kind Stream sub r s e = absurd (cc)

answered_when : (version : ℕ) (sub : Subscription) (r : Outcome) (s : State) (after : List Subscription) (live : Bool) → Follows (if live then publish_kind sub.query.kind sub r s else nothing s).state.subscriptions after →
    AllByRecursion (λ (t : Turn). t.subscription.query.kind ≡ Once → ((payload : List ℕ) × (texts t.queued ≡ next_text t.subscription.id payload ∷ complete_text t.subscription.id ∷ [])) × (list_any (lives t.subscription.number) after ≡ false))
    (if live then record { version = version; subscription = sub; queued = (if live then publish_kind sub.query.kind sub r s else nothing s).queued } ∷ [] else [])
answered_when version sub r s after true f =
    ((λ once. let both = answered_kind sub.query.kind sub r s once in ((r.text, both.0), follows_ended _ after f sub.number both.1)), tt)
answered_when version sub r s after false f = tt

answered_member : (meta : Metadata) (db : Database) (version : ℕ) (s : State) (after : List Subscription) (o : Option Subscription) → Follows (publish_member meta db s o).state.subscriptions after →
    AllByRecursion (λ (t : Turn). t.subscription.query.kind ≡ Once → ((payload : List ℕ) × (texts t.queued ≡ next_text t.subscription.id payload ∷ complete_text t.subscription.id ∷ [])) × (list_any (lives t.subscription.number) after ≡ false))
    (turn_of meta db version s o)
answered_member meta db version s after (Some sub) f = answered_when version sub (result meta sub.query sub.cursor db) s after sub.live f
answered_member meta db version s after None f = tt

answered_members : (meta : Metadata) (db : Database) (version : ℕ) (ms : List Member) (s : State) →
    AllByRecursion (λ (t : Turn). t.subscription.query.kind ≡ Once → ((payload : List ℕ) × (texts t.queued ≡ next_text t.subscription.id payload ∷ complete_text t.subscription.id ∷ [])) × (list_any (lives t.subscription.number) (publish_members meta db ms s).state.subscriptions ≡ false))
    (turns_in meta db version ms s)
answered_members meta db version [] s = tt
answered_members meta db version (m ∷ ms) s =
    let sub = subscription_at m.subscription s.subscriptions in
    let after = (publish_member meta db s sub).state in
    all_append _ (turn_of meta db version s sub) (turns_in meta db version ms after)
    (answered_member meta db version s (publish_members meta db ms after).state.subscriptions sub (members_follow meta db ms after)) (answered_members meta db version ms after)

answered_job : (meta : Metadata) (number : ℕ) (s : State) (o : Option Job) → AllByRecursion (IsAnswered (publish meta number s o).state) (turns_of_job meta s o)
answered_job meta number s (Some job) = answered_members meta (database_of meta s job) job.version job.members s
answered_job meta number s None = tt

answered_at : (meta : Metadata) (s : State) (e : Event) → AllByRecursion (IsAnswered (happens meta s e).state) (turns_at meta s e)
answered_at meta s (Publish job) = answered_job meta job s (job_at job s.jobs)
answered_at meta s _ = tt

pub answers_once : (meta : Metadata) → AnswersOnce meta
answers_once meta h e = answered_at meta (run meta h) e

-- Closes

abbrev Ends : Effect → Type 0
Ends e = AllByRecursion (λ (c : Close). HasNoneLive e.state c.connection) e.closed

abbrev StepEnds : Step → Type 0
StepEnds t = AllByRecursion (λ (c : Close). HasNoneLive t.state c.connection) t.closed

-- so far no publication closes a connection

member_closes_none : (meta : Metadata) (db : Database) (s : State) (o : Option Subscription) → (publish_member meta db s o).closed ≡ []
member_closes_none meta db s o = member_case meta db s (λ e. e.closed ≡ []) refl o (λ sub is live. record { live = refl; once = refl; stream = λ kind. refl })

members_close_none : (meta : Metadata) (db : Database) (ms : List Member) (s : State) → (publish_members meta db ms s).closed ≡ []
members_close_none meta db [] s = refl
members_close_none meta db (m ∷ ms) s =
    let sub = subscription_at m.subscription s.subscriptions in
    let after = (publish_member meta db s sub).state in
    ap (λ (cs : List Close). cs ++ (publish_members meta db ms after).closed) (member_closes_none meta db s sub) ∙ members_close_none meta db ms after

publish_ends : (meta : Metadata) (number : ℕ) (s : State) (o : Option Job) → StepEnds (publish meta number s o)
publish_ends meta number s (Some job) =
    subst (λ (cs : List Close). AllByRecursion (λ (c : Close). HasNoneLive (publish meta number s (Some job)).state c.connection) cs) (sym (members_close_none meta (database_of meta s job) job.members s)) tt
publish_ends meta number s None = tt

event_ends : (meta : Metadata) (s : State) (e : Event) → StepEnds (happens meta s e)
event_ends meta s e =
    by_event meta s e (λ t. StepEnds t)
    (record {
      still = λ reply none. tt;
      opens = λ number new. tt;
      closes = λ number reason. (ended_all (is_of number) s.subscriptions, tt);
      acknowledges = λ number session. tt;
      pongs = λ number. tt;
      refuses = λ number id fault. tt;
      joins = λ number id a j. tt;
      completes = λ number id. tt;
      goes = λ number. tt;
      commits = λ tx db e. tt;
      ticks = tt;
      takes = λ first e. tt;
      abandons = λ number job at. tt;
      drains = λ number rest text. tt;
    }) (λ number job at. publish_ends meta number s (Some job))

pub closes_end : (meta : Metadata) → ClosesEnd meta
closes_end meta h e = event_ends meta (run meta h) e

-- The end of a connection

not_found : (number : ℕ) (c : Connection) (b : Bool) (rest : List Connection) → is_connection number c ≡ b → is_some (find (is_connection number) rest) ≡ false →
    is_some (find (is_connection number) (cond (not b) (c ∷ rest) rest)) ≡ false
not_found number c true rest e h = h
not_found number c false rest e h = ap (λ (b : Bool). is_some (cond b (Some c) (find (is_connection number) rest))) e ∙ h

not_known : (number : ℕ) (cs : List Connection) → is_some (find (is_connection number) (filter (λ c. not (is_connection number c)) cs)) ≡ false
not_known number [] = refl
not_known number (c ∷ cs) = not_found number c (is_connection number c) (filter (λ x. not (is_connection number x)) cs) refl (not_known number cs)

gone_by : (number : ℕ) (s : State) (o : Option Connection) → is_some o ≡ true →
    HasNoneLive (on_known (λ known. with_reply Did (gone number s)) s o).state number × (is_some (connection_at number (on_known (λ known. with_reply Did (gone number s)) s o).state) ≡ false)
gone_by number s (Some c) h = (ended_all (is_of number) s.subscriptions, not_known number s.connections)
gone_by number s None h = absurd (cc)

pub gone_ends : (meta : Metadata) → GoneEnds meta
gone_ends meta h number known = gone_by number (run meta h) (connection_at number (run meta h)) known
