-- How the subscriptions of a state follow those of an earlier one: each keeps its number, connection, id and query, and
-- none that ended is live again; at most one is new.
use Rattle.std.proofs.Common.{◌≡◌, ◌∙◌, sym, ap, refl, ℕ, ◌+◌, ◌==◌, Bool, true, false, if◌then◌else◌, Some, None, Option, List, [], ◌∷◌, ◌++◌, append-nil, length, map}
use Rattle.std.specs.Bool.{⊤}
use Rattle.scalar_val.specs.declared.val.Val.{Val}
use Rattle.data_model.specs.Rows.{Database}
use Rattle.role_model.specs.declared.metadata.Metadata.{Metadata}
use Rattle.query_model.specs.Results.{result}
use Rattle.machine.specs.State.{State, Subscription, Member, Job, Event, Publish}
use Rattle.machine.specs.Connections.{is_of, is_live_id, ended_if, subscription_of}
use Rattle.machine.specs.Batches.{is_subscription, subscription_at, job_at}
use Rattle.machine.specs.Publication.{at_subscription, remembers, moves_to, publish_member, publish_members, publish, database_of}
use Rattle.machine.specs.Run.{happens}
use Rattle.query_model.specs.Admission.{Admitted}
use Rattle.run_laws.proofs.Tests.{map_map, map_same}
use Rattle.run_laws.proofs.Cases.{IsOther, joined, by_cases, member_case}

-- a change that a subscription may undergo
pub record Alike (f : Subscription → Subscription) : Type 0 where
  pub number : (x : Subscription) → (f x).number ≡ x.number
  pub connection : (x : Subscription) → (f x).connection ≡ x.connection
  pub id : (x : Subscription) → (f x).id ≡ x.id
  pub query : (x : Subscription) → (f x).query ≡ x.query
  pub live : (x : Subscription) → (f x).live ≡ true → x.live ≡ true

-- a change outside publications
pub record Unmoved (f : Subscription → Subscription) : Type 0 where
  pub cursor : (x : Subscription) → (f x).cursor ≡ x.cursor
  pub last : (x : Subscription) → (f x).last ≡ x.last

pub same_alike : Alike (λ x. x)
same_alike = record { number = λ x. refl; connection = λ x. refl; id = λ x. refl; query = λ x. refl; live = λ x h. h }

pub same_unmoved : Unmoved (λ x. x)
same_unmoved = record { cursor = λ x. refl; last = λ x. refl }

pub then_alike : (f g : Subscription → Subscription) → Alike f → Alike g → Alike (λ x. g (f x))
then_alike f g a b = record {
  number = λ x. b.number (f x) ∙ a.number x;
  connection = λ x. b.connection (f x) ∙ a.connection x;
  id = λ x. b.id (f x) ∙ a.id x;
  query = λ x. b.query (f x) ∙ a.query x;
  live = λ x h. a.live x (b.live (f x) h);
}

-- the changes of the machine

abbrev ends : Bool → Subscription → Subscription
ends b x = if b then record x { live = false } else x

ends_number : (b : Bool) (x : Subscription) → (ends b x).number ≡ x.number
ends_number true x = refl
ends_number false x = refl

ends_connection : (b : Bool) (x : Subscription) → (ends b x).connection ≡ x.connection
ends_connection true x = refl
ends_connection false x = refl

ends_id : (b : Bool) (x : Subscription) → (ends b x).id ≡ x.id
ends_id true x = refl
ends_id false x = refl

ends_query : (b : Bool) (x : Subscription) → (ends b x).query ≡ x.query
ends_query true x = refl
ends_query false x = refl

ends_cursor : (b : Bool) (x : Subscription) → (ends b x).cursor ≡ x.cursor
ends_cursor true x = refl
ends_cursor false x = refl

ends_last : (b : Bool) (x : Subscription) → (ends b x).last ≡ x.last
ends_last true x = refl
ends_last false x = refl

ends_live : (b : Bool) (x : Subscription) → (ends b x).live ≡ true → x.live ≡ true
ends_live true x h = absurd (cc)
ends_live false x h = h

pub ended_alike : (p : Subscription → Bool) → Alike (ended_if p)
ended_alike p = record {
  number = λ x. ends_number (p x) x;
  connection = λ x. ends_connection (p x) x;
  id = λ x. ends_id (p x) x;
  query = λ x. ends_query (p x) x;
  live = λ x h. ends_live (p x) x h;
}

pub ended_unmoved : (p : Subscription → Bool) → Unmoved (ended_if p)
ended_unmoved p = record { cursor = λ x. ends_cursor (p x) x; last = λ x. ends_last (p x) x }

-- a change of some subscriptions alone
chosen : {A : Type 0} (field : Subscription → A) (g : Subscription → Subscription) (b : Bool) (x : Subscription) → field (g x) ≡ field x → field (if b then g x else x) ≡ field x
chosen field g true x h = h
chosen field g false x h = refl

chosen_live : (g : Subscription → Subscription) (b : Bool) (x : Subscription) → ((g x).live ≡ true → x.live ≡ true) → (if b then g x else x).live ≡ true → x.live ≡ true
chosen_live g true x h e = h e
chosen_live g false x h e = e

pub at_alike : (number : ℕ) (g : Subscription → Subscription) → Alike g → Alike (at_subscription number g)
at_alike number g a = record {
  number = λ x. chosen (λ (y : Subscription). y.number) g (x.number == number) x (a.number x);
  connection = λ x. chosen (λ (y : Subscription). y.connection) g (x.number == number) x (a.connection x);
  id = λ x. chosen (λ (y : Subscription). y.id) g (x.number == number) x (a.id x);
  query = λ x. chosen (λ (y : Subscription). y.query) g (x.number == number) x (a.query x);
  live = λ x h. chosen_live g (x.number == number) x (a.live x) h;
}

pub remembers_alike : (text : List ℕ) → Alike (remembers text)
remembers_alike text = record { number = λ x. refl; connection = λ x. refl; id = λ x. refl; query = λ x. refl; live = λ x h. h }

pub moves_alike : (cursor : Val) → Alike (moves_to cursor)
moves_alike cursor = record { number = λ x. refl; connection = λ x. refl; id = λ x. refl; query = λ x. refl; live = λ x h. h }

-- subscriptions that follow others one by one
pub record Follows (subs after : List Subscription) : Type 0 where
  pub change : Subscription → Subscription
  pub alike : Alike change
  pub is : after ≡ map change subs

pub follows_same : (subs : List Subscription) → Follows subs subs
follows_same subs = record { change = λ x. x; alike = same_alike; is = sym (map_same subs) }

pub follows_then : {xs ys zs : List Subscription} → Follows xs ys → Follows ys zs → Follows xs zs
follows_then {xs} {ys} {zs} f g = record {
  change = λ x. g.change (f.change x);
  alike = then_alike f.change g.change f.alike g.alike;
  is = g.is ∙ ap (λ (l : List Subscription). map g.change l) f.is ∙ map_map f.change g.change xs;
}

pub follows_by : (f : Subscription → Subscription) → Alike f → (subs : List Subscription) → Follows subs (map f subs)
follows_by f a subs = record { change = f; alike = a; is = refl }

-- publications

pub member_follows : (meta : Metadata) (db : Database) (s : State) (o : Option Subscription) → Follows s.subscriptions (publish_member meta db s o).state.subscriptions
member_follows meta db s o =
    member_case meta db s (λ e. Follows s.subscriptions e.state.subscriptions) (follows_same s.subscriptions) o
    (λ sub is live.
    let r = result meta sub.query sub.cursor db in
    record {
      live = follows_by (at_subscription sub.number (remembers r.text)) (at_alike sub.number (remembers r.text) (remembers_alike r.text)) s.subscriptions;
      once = follows_by (ended_if (is_subscription sub.number)) (ended_alike (is_subscription sub.number)) s.subscriptions;
      stream = λ kind. follows_by (at_subscription sub.number (moves_to r.last)) (at_alike sub.number (moves_to r.last) (moves_alike r.last)) s.subscriptions;
    })

pub members_follow : (meta : Metadata) (db : Database) (ms : List Member) (s : State) → Follows s.subscriptions (publish_members meta db ms s).state.subscriptions
members_follow meta db [] s = follows_same s.subscriptions
members_follow meta db (m ∷ ms) s =
    let sub = subscription_at m.subscription s.subscriptions in
    follows_then (member_follows meta db s sub) (members_follow meta db ms (publish_member meta db s sub).state)

-- events

-- no subscription, or one with the next number and no last text
abbrev pub IsNewer : ℕ → List Subscription → Type 0
IsNewer count [] = ⊤
IsNewer count (sub ∷ []) = (sub.number ≡ count + 1) × (sub.last ≡ None)
IsNewer count (sub ∷ other ∷ subs) = ⊥

-- Subscriptions that follow others, and perhaps a new one. Where `still` holds, none moved.
pub record Proceeds (still : Type 0) (subs after : List Subscription) : Type 0 where
  pub change : Subscription → Subscription
  pub alike : Alike change
  pub unmoved : still → Unmoved change
  pub more : List Subscription
  pub newer : IsNewer (length subs) more
  pub is : after ≡ map change subs ++ more

from_follows : (subs after : List Subscription) → Follows subs after → Proceeds ⊥ subs after
from_follows subs after f = record { change = f.change; alike = f.alike; unmoved = λ h. absurd h; more = []; newer = tt; is = f.is ∙ sym (append-nil (map f.change subs)) }

proceeds_same : (subs : List Subscription) → Proceeds ⊤ subs subs
proceeds_same subs = record { change = λ x. x; alike = same_alike; unmoved = λ h. same_unmoved; more = []; newer = tt; is = sym (map_same subs) ∙ sym (append-nil (map (λ x. x) subs)) }

proceeds_ended : (p : Subscription → Bool) (subs : List Subscription) → Proceeds ⊤ subs (map (ended_if p) subs)
proceeds_ended p subs = record { change = ended_if p; alike = ended_alike p; unmoved = λ h. ended_unmoved p; more = []; newer = tt; is = sym (append-nil (map (ended_if p) subs)) }

joined_proceeds : (s : State) (number : ℕ) (id : List ℕ) (a : Admitted) → Proceeds ⊤ s.subscriptions (joined s number id a).subscriptions
joined_proceeds s number id a = record {
  change = λ x. x;
  alike = same_alike;
  unmoved = λ h. same_unmoved;
  more = subscription_of number id a.query a.cursor s ∷ [];
  newer = (refl, refl);
  is = ap (λ (l : List Subscription). l ++ subscription_of number id a.query a.cursor s ∷ []) (sym (map_same s.subscriptions));
}

publish_proceeds : (meta : Metadata) (number : ℕ) (s : State) (o : Option Job) → Proceeds ⊥ s.subscriptions (publish meta number s o).state.subscriptions
publish_proceeds meta number s (Some job) = from_follows _ _ (members_follow meta (database_of meta s job) job.members s)
publish_proceeds meta number s None = from_follows _ _ (follows_same s.subscriptions)

pub other_proceeds : (meta : Metadata) (s : State) (e : Event) → IsOther e → Proceeds ⊤ s.subscriptions (happens meta s e).state.subscriptions
other_proceeds meta s e other =
    let same = proceeds_same s.subscriptions in
    by_cases meta s e (λ t. Proceeds ⊤ s.subscriptions t.state.subscriptions)
    (record {
      still = λ reply none. same;
      opens = λ number new. same;
      closes = λ number reason. proceeds_ended (is_of number) s.subscriptions;
      acknowledges = λ number session. same;
      pongs = λ number. same;
      refuses = λ number id fault. same;
      joins = λ number id a j. joined_proceeds s number id a;
      completes = λ number id. proceeds_ended (is_live_id number id) s.subscriptions;
      goes = λ number. proceeds_ended (is_of number) s.subscriptions;
      commits = λ tx db e. same;
      ticks = same;
      takes = λ first e. same;
      abandons = λ number job e. same;
      drains = λ number rest text. same;
    }) other

pub event_proceeds : (meta : Metadata) (s : State) (e : Event) → Proceeds (IsOther e) s.subscriptions (happens meta s e).state.subscriptions
event_proceeds meta s (Publish job) = publish_proceeds meta job s (job_at job s.jobs)
event_proceeds meta s e = other_proceeds meta s e tt
