-- What a stream is sent in a run.
use Rattle.std.proofs.Common.{◌≡◌, inl, inr, ◌∙◌, sym, ap, refl, subst, ℕ, suc, ◌≤◌, ◌<◌, nat_lt, Bool, true, if◌then◌else◌, Some, List, [], ◌∷◌, ◌++◌, length, map, filter, arith}
use Rattle.std.specs.List.{flat_map, AllByRecursion}
use Rattle.std.proofs.lemmas.Bool.{lt-ltb}
use Rattle.std.proofs.lemmas.List.Elements.{filter-append}
use Rattle.scalar_val.specs.declared.val.Val.{Val}
use Rattle.data_model.specs.Rows.{Rows, Database}
use Rattle.data_model.specs.Transactions.{snapshot}
use Rattle.role_model.specs.declared.metadata.Metadata.{Metadata}
use Rattle.request_model.specs.declared.flat.FlatField.{FlatField}
use Rattle.request_model.specs.declared.flat.FlatField.TheOpen.{FlatField-F}
use Rattle.request_model.specs.declared.flat.FlatField.TheViews.{out-FlatField}
use Rattle.plan_model.specs.Outcomes.{Outcome}
use Rattle.wire_model.specs.ServerMessages.{next_text}
use Rattle.query_model.specs.declared.kind.SubKind.{SubKind}
use Rattle.query_model.specs.declared.kind.SubKind.TheVariants as kind
use Rattle.query_model.specs.Queries.{Query}
use Rattle.query_model.specs.Results.{result}
use Rattle.query_model.specs.StreamLaws.{Stream, stream_of, next_rows, rows_text, Sends, streamed, passed, cursor_at_end, NeverFall, AllUpTo, Appended}
use Rattle.query_model.specs.StreamLaws as law
use Rattle.stream_laws.proofs.StreamResults.{streams_send_next_rows}
use Rattle.stream_laws.proofs.StreamsOnce.{any_streams_send_once}
use Rattle.machine.specs.State.{State, Event, opening}
use Rattle.machine.specs.Batches.{subscription_at}
use Rattle.machine.specs.Run.{happens, after_all, run}
use Rattle.run_laws.specs.Laws.{Turn, turns_at, turns_from, turns, turns_for, is_turn_of, versions, texts, said, to_connection, own_result, IsOwnResult, EachPair, version_of, cursor_after, Leads}
use Rattle.run_laws.specs.Streams.{rows_told, streamed_texts, Course, StreamsAreToldNextRows, StreamsAreSentOnce}
use Rattle.run_laws.proofs.Among.{Among, among_filter, all_among}
use Rattle.run_laws.proofs.Moves.{among_mapped}
use Rattle.run_laws.proofs.Runs.{after_all-append, turns-append}
use Rattle.run_laws.proofs.Apart.{Sound}
use Rattle.run_laws.proofs.SoundRuns.{event_sound, run_sound}
use Rattle.run_laws.proofs.Order.{turned, turned_known, never_returns, begins_at_its_subscribe}
use Rattle.run_laws.proofs.OwnResults.{tells_own_results}
use Rattle.run_laws.proofs.Cursors.{reaches}
use Rattle.run_laws.proofs.AskedTurns.{Asks, turns_ask}

-- One turn

texts_to : (connection : ℕ) (ts : List (List ℕ)) → texts (map (to_connection connection) ts) ≡ ts
texts_to connection [] = refl
texts_to connection (t ∷ ts) = ap (λ (us : List (List ℕ)). t ∷ us) (texts_to connection ts)

any_rows : (rs : Rows) (n : ℕ) → n ≡ suc (length rs) → nat_lt 0 n ≡ true
any_rows rs n e = lt-ltb 0 n (omega (arith, e))

module _ (m : Metadata) (q : Query) (s : Stream) (f : FlatField-F FlatField) (db : Database) where
  -- an outcome that sends rows tells them, and moves the cursor to the last of them
  told_of : (id : List ℕ) (sent : Rows) (o : Outcome) → Sends m q s f db sent o → (if nat_lt 0 o.rows then next_text id o.text ∷ [] else []) ≡ rows_told id (rows_text m q s f db sent) sent
  told_of id [] o sends = ap (λ (n : ℕ). if nat_lt 0 n then next_text id o.text ∷ [] else []) sends.rows
  told_of id (r ∷ rs) o sends =
      ap (λ (b : Bool). if b then next_text id o.text ∷ [] else []) (any_rows rs o.rows sends.rows) ∙ ap (λ (t : List ℕ). next_text id t ∷ []) sends.text

  moved_of : (cursor : Val) (sent : Rows) (o : Outcome) → Sends m q s f db sent o → (if nat_lt 0 o.rows then o.last else cursor) ≡ law.cursor_after s cursor sent
  moved_of cursor [] o sends = ap (λ (n : ℕ). if nat_lt 0 n then o.last else cursor) sends.rows
  moved_of cursor (r ∷ rs) o sends = ap (λ (b : Bool). if b then o.last else cursor) (any_rows rs o.rows sends.rows) ∙ sends.last

-- a turn of this stream, which tells its own result
record IsTurn (m : Metadata) (u : State) (q : Query) (id : List ℕ) (t : Turn) : Type 0 where
  query : t.subscription.query ≡ q
  id_is : t.subscription.id ≡ id
  own : IsOwnResult m u t

module _ (m : Metadata) (u : State) (q : Query) (id : List ℕ) (s : Stream) (f : FlatField) (stream : q.kind ≡ kind.Stream) (root : q.selection.fields ≡ f ∷ []) (is : stream_of m q ≡ Some s) where
  abbrev sent_at : ℕ → Val → Rows
  sent_at version cursor = next_rows m q s cursor (snapshot m.catalog u.transactions version)

  sends : (t : Turn) → IsTurn m u q id t → Sends m q s (out-FlatField f) (snapshot m.catalog u.transactions t.version) (sent_at t.version t.subscription.cursor) (own_result m u t)
  sends t w =
      subst (λ (o : Outcome). Sends m q s (out-FlatField f) (snapshot m.catalog u.transactions t.version) (sent_at t.version t.subscription.cursor) o)
      (ap (λ (p : Query). result m p t.subscription.cursor (snapshot m.catalog u.transactions t.version)) (sym w.query))
      (streams_send_next_rows m q f root s is t.subscription.cursor (snapshot m.catalog u.transactions t.version))

  turn_told : (t : Turn) → IsTurn m u q id t →
      texts t.queued ≡ rows_told id (rows_text m q s (out-FlatField f) (snapshot m.catalog u.transactions t.version) (sent_at t.version t.subscription.cursor)) (sent_at t.version t.subscription.cursor)
  turn_told t w =
      ap texts w.own
      ∙ texts_to t.subscription.connection (said t.subscription.query.kind t.subscription (own_result m u t))
      ∙ ap (λ (k : SubKind). said k t.subscription (own_result m u t)) (ap (λ (p : Query). p.kind) w.query ∙ stream)
      ∙ ap (λ (i : List ℕ). if nat_lt 0 (own_result m u t).rows then next_text i (own_result m u t).text ∷ [] else []) w.id_is
      ∙ told_of m q s (out-FlatField f) (snapshot m.catalog u.transactions t.version) id (sent_at t.version t.subscription.cursor) (own_result m u t) (sends t w)

  turn_moves : (t : Turn) → IsTurn m u q id t → cursor_after m u t ≡ law.cursor_after s t.subscription.cursor (sent_at t.version t.subscription.cursor)
  turn_moves t w =
      moved_of m q s (out-FlatField f) (snapshot m.catalog u.transactions t.version) t.subscription.cursor (sent_at t.version t.subscription.cursor) (own_result m u t) (sends t w)

  -- turns that lead from one cursor to another
  record Along (ts : List Turn) (from to : Val) : Type 0 where
    told_is : flat_map (λ t. texts t.queued) ts ≡ streamed_texts m q s (out-FlatField f) u.transactions id (map (λ t. t.version) ts) from
    ends : to ≡ cursor_at_end m q s u.transactions (map (λ t. t.version) ts) from

  along : (ts : List Turn) (from to : Val) → ((t : Turn) → Among t ts → IsTurn m u q id t) → Leads (cursor_after m u) from ts to → Along ts from to
  along [] from to w leads = record { told_is = refl; ends = leads }
  along (t ∷ ts) from to w leads =
      let own = w t (inl refl) in
      let next = law.cursor_after s from (sent_at t.version from) in
      let moves : cursor_after m u t ≡ next = turn_moves t own ∙ ap (λ (c : Val). law.cursor_after s c (sent_at t.version c)) leads.0 in
      let rest = along ts next to (λ x a. w x (inr a)) (subst (λ (c : Val). Leads (cursor_after m u) c ts to) moves leads.1) in
      record {
        told_is =
            ap (λ (l : List (List ℕ)). l ++ flat_map (λ (x : Turn). texts x.queued) ts)
            (turn_told t own ∙ ap (λ (c : Val). rows_told id (rows_text m q s (out-FlatField f) (snapshot m.catalog u.transactions t.version) (sent_at t.version c)) (sent_at t.version c)) leads.0)
            ∙ ap (λ (l : List (List ℕ)). rows_told id (rows_text m q s (out-FlatField f) (snapshot m.catalog u.transactions t.version) (sent_at t.version from)) (sent_at t.version from) ++ l) rest.told_is;
        ends = rest.ends;
      }

-- No turn before the subscribe

empty_if : {X : Type 0} (xs : List X) → ((x : X) → Among x xs → ⊥) → xs ≡ []
empty_if [] h = refl
empty_if (x ∷ xs) h = absurd (h x (inl refl))

none_before : (meta : Metadata) (before : List Event) (number : ℕ) → length (run meta before).subscriptions < number → filter (is_turn_of number) (turns meta before) ≡ []
none_before meta before number new =
    empty_if (filter (is_turn_of number) (turns meta before))
    (λ t a.
    let known = turned_known meta before opening number t.version (run_sound meta []) (among_mapped (λ (x : Turn). x.version) t (filter (is_turn_of number) (turns meta before)) a) in
    omega (arith, known, new))

none_at : (meta : Metadata) (s : State) (e : Event) (number : ℕ) → Sound s → length s.subscriptions < number → filter (is_turn_of number) (turns_at meta s e) ≡ []
none_at meta s e number w new =
    empty_if (filter (is_turn_of number) (turns_at meta s e))
    (λ t a.
    let own = turned meta s e number t.version w (among_mapped (λ (x : Turn). x.version) t (filter (is_turn_of number) (turns_at meta s e)) a) in
    let known = w.members_known own.job own.within number own.member in
    let low = w.numbered.bounded known.0 known.1 in
    let is = known.2 in
    omega (arith, low, is, new))

turns_after : (meta : Metadata) (before : List Event) (e : Event) (after : List Event) (number : ℕ) → length (run meta before).subscriptions < number →
    turns_for meta (before ++ e ∷ after) number ≡ filter (is_turn_of number) (turns_from meta (happens meta (run meta before) e).state after)
turns_after meta before e after number new =
    let s = run meta before in
    let rest = turns_from meta (happens meta s e).state after in
    ap (λ (ts : List Turn). filter (is_turn_of number) ts) (turns-append meta before (e ∷ after))
    ∙ filter-append (is_turn_of number) (turns meta before) (turns_at meta s e ++ rest)
    ∙ ap (λ (ts : List Turn). ts ++ filter (is_turn_of number) (turns_at meta s e ++ rest)) (none_before meta before number new)
    ∙ filter-append (is_turn_of number) (turns_at meta s e) rest
    ∙ ap (λ (ts : List Turn). ts ++ filter (is_turn_of number) rest) (none_at meta s e number (run_sound meta before) new)

-- The course of a stream

course_along : (meta : Metadata) (before : List Event) (e : Event) (after : List Event) (number : ℕ) (c : Course meta before e after number) →
    Along meta (run meta (before ++ e ∷ after)) c.last.query c.last.id c.stream c.root c.is_stream c.root_is c.stream_is (turns_for meta (before ++ e ∷ after) number) c.first.cursor c.last.cursor
course_along meta before e after number c =
    let h = before ++ e ∷ after in
    let first = (happens meta (run meta before) e).state in
    let whole : run meta h ≡ after_all meta first after = after_all-append meta opening before (e ∷ after) in
    let sound = event_sound meta (run meta before) e (run_sound meta before) in
    let end = ap (λ (s : State). subscription_at number s.subscriptions) (sym whole) ∙ c.stands in
    let leads = reaches meta first after number c.first c.last sound c.began end c.is_stream in
    let own : (t : Turn) → Among t (turns_for meta h number) → IsTurn meta (run meta h) c.last.query c.last.id t = (λ t a.
    let passes = among_filter (is_turn_of number) t (turns meta h) a in
    let asks = turns_ask c.last.query c.last.id meta number h opening (subst (Asks c.last.query c.last.id) (sym c.stands) (refl, refl)) t passes.0 passes.1 in
    record { query = asks.0; id_is = asks.1; own = all_among (IsOwnResult meta (run meta h)) (turns meta h) t passes.0 (tells_own_results meta h) }) in
    along meta (run meta h) c.last.query c.last.id c.stream c.root c.is_stream c.root_is c.stream_is (turns_for meta h number) c.first.cursor c.last.cursor own
    (subst (λ (s : State). Leads (cursor_after meta s) c.first.cursor (turns_for meta h number) c.last.cursor) (sym whole)
    (subst (λ (ts : List Turn). Leads (cursor_after meta (after_all meta first after)) c.first.cursor ts c.last.cursor) (sym (turns_after meta before e after number c.new)) leads))

pub streams_are_told_next_rows : (meta : Metadata) → StreamsAreToldNextRows meta
streams_are_told_next_rows meta before e after number c = let a = course_along meta before e after number c in (a.told_is, a.ends)

never_fall : (least : ℕ) (vs : List ℕ) → AllByRecursion (λ v. least ≤ v) vs → EachPair ◌≤◌ vs → NeverFall least vs
never_fall least [] a p = tt
never_fall least (v ∷ vs) a p = (a.0, never_fall v vs p.0 p.1)

pub streams_are_sent_once : (meta : Metadata) → StreamsAreSentOnce meta
streams_are_sent_once meta before e after number c appended =
    let h = before ++ e ∷ after in
    let txs = (run meta h).transactions in
    let vs = versions meta h number in
    let rise = never_fall (version_of (run meta before)) vs (begins_at_its_subscribe meta before (e ∷ after) number c.new) (never_returns meta h number) in
    any_streams_send_once meta c.last.query c.stream c.stream_is txs (version_of (run meta before)) vs c.first.cursor rise appended
    ∙ ap (λ (v : Val). passed meta c.last.query c.stream txs c.first.cursor v) (sym (course_along meta before e after number c).ends)
