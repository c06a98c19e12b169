-- Each subscription of a run was admitted, and only streams have a cursor.
use Rattle.std.proofs.Common.{◌≡◌, inl, inr, ◌∙◌, sym, ap, refl, subst, ℕ, ◌==◌, Bool, true, false, if◌then◌else◌, Some, None, Option, List, [], ◌∷◌, ◌++◌, map, Result, Ok, Err}
use Rattle.std.specs.List.{AllByRecursion}
use Rattle.std.proofs.lemmas.Bool.{eqb-true}
use Rattle.scalar_val.specs.declared.val.Val.{Val}
use Rattle.scalar_val.specs.declared.val.Val.TheVariants as val
use Rattle.scalar_val.specs.declared.word.Word.{Word}
use Rattle.scalar_val.specs.declared.word.Word.TheVariants as word
use Rattle.serde_json.specs.Data.{Members}
use Rattle.role_model.specs.declared.metadata.Metadata.{Metadata}
use Rattle.role_model.specs.declared.session.Session.{Session}
use Rattle.role_model.specs.MetadataMeaning.{IsMetadata}
use Rattle.role_model.specs.Roles.{View, table_seen}
use Rattle.request_model.specs.declared.document.GPair.{GPair}
use Rattle.request_model.specs.declared.flat.Flat.{Flat}
use Rattle.request_model.specs.declared.flat.FlatField.{FlatField}
use Rattle.request_model.specs.declared.flat.FlatField.TheViews.{out-FlatField}
use Rattle.query_model.specs.declared.fault.QueryFault.{QueryFault}
use Rattle.query_model.specs.declared.kind.SubKind.TheVariants.{Stream}
use Rattle.query_model.specs.declared.session.SessionValue.{SessionValue}
use Rattle.query_model.specs.declared.variable.Variable.{Variable}
use Rattle.query_model.specs.Names.{Root, RowsOf, RowOf, StreamOf, NoRoot, root_or, table_by_key}
use Rattle.query_model.specs.Queries.{Query, root_of, kind_by, selection_slots}
use Rattle.query_model.specs.Walk.{walk_fault}
use Rattle.query_model.specs.Admission.{Admitted, admitted, and_next, unless_fault, one_root, variables_of, slots_given, initial_cursor, query_with, role_view}
use Rattle.query_model.specs.AdmissionLaws.{IsAdmitted}
use Rattle.query_model.specs.ResultLaws.{MayBeCursor}
use Rattle.machine.specs.State.{State, Subscription, Job, Event, opening}
use Rattle.machine.specs.Connections.{ended_if, is_of, is_live_id, subscription_of}
use Rattle.machine.specs.Batches.{is_subscription}
use Rattle.machine.specs.Publication.{at_subscription, remembers, moves_to, publish, database_of}
use Rattle.machine.specs.Run.{happens, after_all, run}
use Rattle.run_laws.specs.Admissions.{IsWritten, AsksWritten, WasAdmitted, SubscriptionsAreAdmitted}
use Rattle.run_laws.proofs.Among.{Among, among_append, found_among, all_from_among, among_map}
use Rattle.run_laws.proofs.Cases.{Joins, by_event, members_keep}
use Rattle.run_laws.proofs.Following.{Alike, at_alike, remembers_alike, moves_alike, ended_alike, ended_unmoved}
use Rattle.run_laws.proofs.Apart.{Sound, AreNumbered, numbered_mapped}
use Rattle.run_laws.proofs.SoundRuns.{event_sound, opening_sound}

-- What is admitted

-- an admitted query is one that is put together of its root, its variables and its session's values
pub record IsMade (m : Metadata) (session : Session) (values : Members) (s : Flat) (a : Admitted) : Type 0 where
  pub root : FlatField
  pub variables : List Variable
  pub slots : List SessionValue
  pub is : query_with m session values s root variables slots ≡ a

module _ (m : Metadata) (session : Session) (values : Members) (s : Flat) (a : Admitted) where
  by_slots : (f : FlatField) (vars : List Variable) (r : Result (List SessionValue) QueryFault) → and_next r (λ slots. Ok (query_with m session values s f vars slots)) ≡ Ok a → IsMade m session values s a
  by_slots f vars (Ok slots) e = record { root = f; variables = vars; slots = slots; is = cc }
  by_slots f vars (Err fault) e = absurd (let k : ◌≡◌ {A = Result Admitted QueryFault} (Err fault) (Ok a) = e in cc)

  by_walk : (f : FlatField) (vars : List Variable) (w : Option QueryFault) (r : Result (List SessionValue) QueryFault) →
      unless_fault w (and_next r (λ slots. Ok (query_with m session values s f vars slots))) ≡ Ok a → IsMade m session values s a
  by_walk f vars (Some fault) r e = absurd (let k : ◌≡◌ {A = Result Admitted QueryFault} (Err fault) (Ok a) = e in cc)
  by_walk f vars None r e = by_slots f vars r e

  by_variables : (f : FlatField) (r : Result (List Variable) QueryFault) →
      and_next r (λ vars. unless_fault (walk_fault vars (role_view m session values s) s f) (and_next (slots_given session (selection_slots (role_view m session values s) s)) (λ slots. Ok (query_with m session values s f vars slots)))) ≡ Ok a →
      IsMade m session values s a
  by_variables f (Ok vars) e = by_walk f vars (walk_fault vars (role_view m session values s) s f) (slots_given session (selection_slots (role_view m session values s) s)) e
  by_variables f (Err fault) e = absurd (let k : ◌≡◌ {A = Result Admitted QueryFault} (Err fault) (Ok a) = e in cc)

  by_root : (r : Result FlatField QueryFault) →
      and_next r (λ f. and_next (variables_of values s.vars) (λ vars. unless_fault (walk_fault vars (role_view m session values s) s f) (and_next (slots_given session (selection_slots (role_view m session values s) s)) (λ slots. Ok (query_with m session values s f vars slots))))) ≡ Ok a →
      IsMade m session values s a
  by_root (Ok f) e = by_variables f (variables_of values s.vars) e
  by_root (Err fault) e = absurd (let k : ◌≡◌ {A = Result Admitted QueryFault} (Err fault) (Ok a) = e in cc)

  pub is_made : admitted m session values s ≡ Ok a → IsMade m session values s a
  is_made e = by_root (one_root s.fields) e

-- a query operation has no stream at its root
no_stream : (table : ℕ) (o p : Option ℕ) → root_or RowsOf o (root_or RowOf p (root_or StreamOf None NoRoot)) ≡ StreamOf table → ⊥
no_stream table (Some t) p e = cc
no_stream table None (Some t) e = cc
no_stream table None None e = cc

cursor_by : (vars : List Variable) (v : View) (w : Word) (root : Root) (args : List GPair) → ((table : ℕ) → root ≡ StreamOf table → w ≡ word.Query → ⊥) → (kind_by w root ≡ Stream → ⊥) → initial_cursor vars v root args ≡ val.Null
cursor_by vars v w (RowsOf table) args h other = refl
cursor_by vars v w (RowOf table) args h other = refl
cursor_by vars v w NoRoot args h other = refl
cursor_by vars v word.Subscription (StreamOf table) args h other = absurd (other refl)
cursor_by vars v word.Query (StreamOf table) args h other = absurd (h table refl refl)

of_query : (v : View) (w : Word) (f : FlatField) (table : ℕ) → root_of v w f ≡ StreamOf table → w ≡ word.Query → ⊥
of_query v word.Query f table e is = no_stream table (table_seen v (out-FlatField f).name) (table_by_key v (out-FlatField f).name) e
of_query v word.Subscription f table e is = cc

-- only a stream begins with a cursor
pub begins_so : (m : Metadata) (session : Session) (values : Members) (s : Flat) (a : Admitted) → admitted m session values s ≡ Ok a → MayBeCursor a.query a.cursor
begins_so m session values s a e =
    let made = is_made m session values s a e in
    let v = role_view m session values s in
    let root = root_of v s.kind made.root in
    subst (λ (b : Admitted). MayBeCursor b.query b.cursor) made.is
    (λ other. cursor_by made.variables v s.kind root (out-FlatField made.root).args (λ table is w. of_query v s.kind made.root table is w) other)

answered_by : (m : Metadata) (session : Session) (values : Members) (r : Result Flat QueryFault) (a : Admitted) → IsMetadata m → IsWritten r → and_next r (admitted m session values) ≡ Ok a →
    IsAdmitted m a × MayBeCursor a.query a.cursor
answered_by m session values (Ok s) a is written e = (record { metadata = is; session = session; values = values; selection = s; written = written; gives = e }, begins_so m session values s a e)
answered_by m session values (Err fault) a is written e = absurd (let k : ◌≡◌ {A = Result Admitted QueryFault} (Err fault) (Ok a) = e in cc)

-- what a subscribe that is answered so makes a subscription
joined_admitted : (meta : Metadata) (s : State) (e : Event) (number : ℕ) (id : List ℕ) (a : Admitted) → IsMetadata meta → AsksWritten e → Joins meta s e number id a → WasAdmitted meta (subscription_of number id a.query a.cursor s)
joined_admitted meta s e number id a is written j =
    let own = answered_by meta j.session j.asked.values j.asked.selection a is (subst AsksWritten j.event written) j.admitted in
    record { admitted = a; is_admitted = own.0; query = refl; cursor = own.1 }

-- What stays so

still_admitted : (meta : Metadata) (f : Subscription → Subscription) → Alike f → (x : Subscription) → (f x).cursor ≡ x.cursor → WasAdmitted meta x → WasAdmitted meta (f x)
still_admitted meta f k x same w = record {
  admitted = w.admitted;
  is_admitted = w.is_admitted;
  query = w.query ∙ sym (k.query x);
  cursor = λ other. same ∙ w.cursor (λ stream. other (ap (λ (q : Query). q.kind) (k.query x) ∙ stream));
}

-- a stream that moves
moved_admitted : (meta : Metadata) (cursor : Val) (x : Subscription) → x.query.kind ≡ Stream → WasAdmitted meta x → WasAdmitted meta (moves_to cursor x)
moved_admitted meta cursor x stream w = record { admitted = w.admitted; is_admitted = w.is_admitted; query = w.query; cursor = λ other. absurd (other stream) }

abbrev AreAdmitted : Metadata → List Subscription → Type 0
AreAdmitted meta subs = (x : Subscription) → Among x subs → WasAdmitted meta x

mapped_admitted : (meta : Metadata) (f : Subscription → Subscription) → ((x : Subscription) → WasAdmitted meta x → WasAdmitted meta (f x)) → (subs : List Subscription) → AreAdmitted meta subs → AreAdmitted meta (map f subs)
mapped_admitted meta f h subs w y a = let r = among_map f subs y a in subst (WasAdmitted meta) (sym r.2) (h r.0 (w r.0 r.1))

ended_admitted : (meta : Metadata) (p : Subscription → Bool) (subs : List Subscription) → AreAdmitted meta subs → AreAdmitted meta (map (ended_if p) subs)
ended_admitted meta p subs w = mapped_admitted meta (ended_if p) (λ x k. still_admitted meta (ended_if p) (ended_alike p) x ((ended_unmoved p).cursor x) k) subs w

chosen_admitted : (meta : Metadata) (g : Subscription → Subscription) (x : Subscription) (b : Bool) → (b ≡ true → WasAdmitted meta (g x)) → WasAdmitted meta x → WasAdmitted meta (if b then g x else x)
chosen_admitted meta g x true h w = h refl
chosen_admitted meta g x false h w = w

remembering_admitted : (meta : Metadata) (number : ℕ) (text : List ℕ) (subs : List Subscription) → AreAdmitted meta subs → AreAdmitted meta (map (at_subscription number (remembers text)) subs)
remembering_admitted meta number text subs w =
    mapped_admitted meta (at_subscription number (remembers text))
    (λ x k. chosen_admitted meta (remembers text) x (x.number == number) (λ is. still_admitted meta (remembers text) (remembers_alike text) x refl k) k) subs w

-- only the one of that number moves, and it is a stream
moving_admitted : (meta : Metadata) (sub : Subscription) (cursor : Val) (subs : List Subscription) → AreNumbered subs → Among sub subs → sub.query.kind ≡ Stream → AreAdmitted meta subs →
    AreAdmitted meta (map (at_subscription sub.number (moves_to cursor)) subs)
moving_admitted meta sub cursor subs numbered within stream w y a =
    let r = among_map (at_subscription sub.number (moves_to cursor)) subs y a in
    let x = r.0 in
    subst (WasAdmitted meta) (sym r.2)
    (chosen_admitted meta (moves_to cursor) x (x.number == sub.number)
    (λ is.
    let same = numbered.unique x sub r.1 within (eqb-true x.number sub.number is) in
    moved_admitted meta cursor x (ap (λ (z : Subscription). z.query.kind) same ∙ stream) (w x r.1)) (w x r.1))

pushed_admitted : (meta : Metadata) (subs : List Subscription) (n : Subscription) → AreAdmitted meta subs → WasAdmitted meta n → AreAdmitted meta (subs ++ n ∷ [])
pushed_admitted meta subs n w k x a = elim (among_append x subs (n ∷ []) a) [ inl b ↦ w x b | inr b ↦ subst (WasAdmitted meta) (sym (only x n b)) k ]
  where
    only : (x n : Subscription) → Among x (n ∷ []) → x ≡ n
    only x n (inl e) = e
    only x n (inr b) = absurd b

-- Events

abbrev Stand : Metadata → State → Type 0
Stand meta s = AreNumbered s.subscriptions × AreAdmitted meta s.subscriptions

publish_admitted : (meta : Metadata) (number : ℕ) (s : State) (job : Job) → Stand meta s → Stand meta (publish meta number s (Some job)).state
publish_admitted meta number s job k =
    members_keep meta (database_of meta s job) (Stand meta)
    (λ t n sub at r k. record {
      live = (
        numbered_mapped (at_subscription sub.number (remembers r.text)) (at_alike sub.number (remembers r.text) (remembers_alike r.text)) t.subscriptions k.0,
        remembering_admitted meta sub.number r.text t.subscriptions k.1,
      );
      once = (
        numbered_mapped (ended_if (is_subscription sub.number)) (ended_alike (is_subscription sub.number)) t.subscriptions k.0,
        ended_admitted meta (is_subscription sub.number) t.subscriptions k.1,
      );
      stream = λ kind. (
        numbered_mapped (at_subscription sub.number (moves_to r.last)) (at_alike sub.number (moves_to r.last) (moves_alike r.last)) t.subscriptions k.0,
        moving_admitted meta sub r.last t.subscriptions k.0 (found_among (is_subscription n) t.subscriptions sub at).0 kind k.1,
      );
    }) job.members s k

event_admitted : (meta : Metadata) (s : State) (e : Event) → IsMetadata meta → AsksWritten e → Sound s → AreAdmitted meta s.subscriptions → AreAdmitted meta (happens meta s e).state.subscriptions
event_admitted meta s e is written w h =
    by_event meta s e (λ t. AreAdmitted meta t.state.subscriptions)
    (record {
      still = λ reply none. h;
      opens = λ number new. h;
      closes = λ number reason. ended_admitted meta (is_of number) s.subscriptions h;
      acknowledges = λ number session. h;
      pongs = λ number. h;
      refuses = λ number id fault. h;
      joins = λ number id a j. pushed_admitted meta s.subscriptions (subscription_of number id a.query a.cursor s) h (joined_admitted meta s e number id a is written j);
      completes = λ number id. ended_admitted meta (is_live_id number id) s.subscriptions h;
      goes = λ number. ended_admitted meta (is_of number) s.subscriptions h;
      commits = λ tx db e. h;
      ticks = h;
      takes = λ first e. h;
      abandons = λ number job at. h;
      drains = λ number rest text. h;
    }) (λ number job at. (publish_admitted meta number s job (w.numbered, h)).1)

admitted_from : (meta : Metadata) → IsMetadata meta → (h : List Event) (s : State) → AllByRecursion AsksWritten h → Sound s → AreAdmitted meta s.subscriptions → AreAdmitted meta (after_all meta s h).subscriptions
admitted_from meta is [] s written w k = k
admitted_from meta is (e ∷ h) s written w k =
    admitted_from meta is h (happens meta s e).state written.1 (event_sound meta s e w) (event_admitted meta s e is written.0 w k)

pub subscriptions_are_admitted : (meta : Metadata) → SubscriptionsAreAdmitted meta
subscriptions_are_admitted meta is h written =
    all_from_among (WasAdmitted meta) (run meta h).subscriptions (admitted_from meta is h opening written opening_sound (λ x a. absurd a))
