-- A stream that is told rows has a cursor, since only rows beyond one are shown. So the moves of a publication are
-- those of streams.
use Rattle.std.proofs.Common.{
  ◌≡◌,
  ◌∙◌,
  sym,
  ap,
  refl,
  subst,
  ℕ,
  zero,
  suc,
  ◌-◌,
  nat_lt,
  ◌==◌,
  Bool,
  true,
  false,
  not,
  ◌&&◌,
  if◌then◌else◌,
  Option,
  Some,
  None,
  List,
  [],
  ◌∷◌,
  length,
  take,
  map,
  slice_get,
  Result,
  Ok,
  Err,
  true≢false,
  codes,
  unwrap_or,
  eq-eqb,
}
use Rattle.std.proofs.lemmas.Bool.{and_right}
use Rattle.std.specs.Option.{IfSome, option_map}
use Rattle.std.specs.List.{filter_map, cons_option, list_any}
use Rattle.scalar_val.specs.declared.val.Val.{Val}
use Rattle.scalar_val.specs.declared.word.Word.{Word}
use Rattle.scalar_val.specs.declared.word.Word.TheVariants as word
use Rattle.scalar_val.specs.Values.{is_null, cell}
use Rattle.serde_json.specs.Data.{Members}
use Rattle.data_model.specs.Rows.{Row, Rows, Database}
use Rattle.data_model.specs.Transactions.{rows_at}
use Rattle.role_model.specs.declared.metadata.Metadata.{Metadata}
use Rattle.role_model.specs.declared.session.Session.{Session}
use Rattle.request_model.specs.declared.document.GPair.{GPair}
use Rattle.request_model.specs.declared.flat.Flat.{Flat}
use Rattle.request_model.specs.declared.flat.FlatField.{FlatField}
use Rattle.request_model.specs.declared.flat.FlatField.TheOpen.{FlatField-F}
use Rattle.request_model.specs.declared.flat.FlatField.TheViews.{out-FlatField}
use Rattle.plan_model.specs.declared.filter.TruthValue.{TruthValue}
use Rattle.plan_model.specs.declared.filter.TruthValue.TheVariants.{Unknown}
use Rattle.plan_model.specs.Truth.{is_yes}
use Rattle.plan_model.specs.Taken.{Next, cut, taken, is_beyond}
use Rattle.plan_model.specs.Outcomes.{Outcome}
use Rattle.query_model.specs.declared.fault.QueryFault.{QueryFault}
use Rattle.query_model.specs.declared.kind.SubKind.{SubKind}
use Rattle.query_model.specs.declared.kind.SubKind.TheVariants.{Live, Once, Stream}
use Rattle.query_model.specs.declared.session.SessionValue.{SessionValue}
use Rattle.query_model.specs.declared.variable.Variable.{Variable}
use Rattle.query_model.specs.Names.{Root, RowsOf, RowOf, StreamOf, NoRoot, initial_column, descends}
use Rattle.query_model.specs.Queries.{Query, root_of, view_of, kind_by, selection_slots}
use Rattle.query_model.specs.Walk.{walk_fault}
use Rattle.query_model.specs.Admission.{
  Admitted,
  admitted,
  and_next,
  unless_fault,
  one_root,
  variables_of,
  slots_given,
  query_with,
  role_view,
}
use Rattle.query_model.specs.AdmissionLaws.{IsAdmitted}
use Rattle.query_model.specs.Results.{
  is_asked,
  is_permitted,
  stream_wanted,
  root_wanted,
  result_by,
  root_result,
  result,
  number_given,
}
use Rattle.cohort_map.specs.declared.member.Member.{Member}
use Rattle.cohort_map.specs.Entries.{Entry, is_entry, is_stream, has_stream}
use Rattle.stream_cursor.specs.declared.moves.Move.{Move}
use Rattle.stream_cursor.specs.Moves.{IsStream, AreStreams}
use Rattle.machine.specs.State.{State, Subscription}
use Rattle.machine.specs.Batches.{is_subscription, subscription_at, is_member}
use Rattle.machine.specs.Publication.{is_new}
use Rattle.hub_model.specs.Kept.{Kept, is_kept, kept_of, entry_of, Represents, member_of}
use Rattle.hub_model.specs.Jobs.{AreResults}
use Rattle.hub_model.specs.Tellings.{Telling, telling_of, tellings, move_of}
use Rattle.hub_model.proofs.Items.{
  filter_none,
  filter_among,
  found_among,
  among_any,
  any_mapped,
  and_both,
  or_true_left,
  not_true,
}
use Rattle.hub_model.proofs.JobFacts.{AreNumbered}
use Rattle.hub_model.proofs.Told.{held_for, told_by, told_with, told_to, telling_is}

-- ---- nothing is beyond null

never_yes : (t : TruthValue) (b c : Bool) → c ≡ true →
    is_yes (if b then Unknown else if c then Unknown else t) ≡ false
never_yes t true c e = refl
never_yes t false true e = refl
never_yes t false false e = absurd (cc)

none_of_none : (n : ℕ) → ◌≡◌ {A = Rows} (take n []) []
none_of_none zero = refl
none_of_none (suc n) = refl

-- none are taken of none
none_cut : (column : ℕ) (descending : Bool) (batch : ℕ) (cap : Option ℕ) →
    cut (Next column descending batch) cap [] ≡ []
none_cut column descending batch (Some n) = ap (take n) (none_of_none batch) ∙ none_of_none n
none_cut column descending batch None = none_of_none batch

module _ (m : Metadata) (q : Query) (cursor : Val) (null : is_null cursor ≡ true) where
  none_shown : (table : ℕ) (args : List GPair) (row : Row) → (stream_wanted m q cursor table args).shown row ≡ false
  none_shown table args row =
      and_right (is_asked m q table args row && is_permitted m q table row)
      (is_beyond (descends args) cursor (cell row (initial_column (view_of m q) table args)))
      (never_yes _ (is_null (cell row (initial_column (view_of m q) table args))) (is_null cursor) null)

  none_taken : (db : Database) (table : ℕ) (args : List GPair) →
      length (taken db (stream_wanted m q cursor table args)) ≡ 0
  none_taken db table args =
      let w = stream_wanted m q cursor table args in
      ap (λ (rows : Rows). length (cut w.extent w.cap rows))
      (filter_none w.shown (rows_at db w.table) (λ row a. none_shown table args row))
      ∙ ap length (none_cut (initial_column (view_of m q) table args) (descends args)
      (unwrap_or (number_given m q (codes "batch_size") args) 0) w.cap)

  -- by what the query's root is
  by_root : (db : Database) (f : FlatField-F FlatField) (w : Word) (root : Root) → kind_by w root ≡ Stream →
      nat_lt 0 (result_by m q db f (root_wanted m q cursor root f.args)).rows ≡ true → ⊥
  by_root db f word.Query root kind some = cc
  by_root db f word.Subscription (RowsOf table) kind some = cc
  by_root db f word.Subscription (RowOf table) kind some = cc
  by_root db f word.Subscription NoRoot kind some = cc
  by_root db f word.Subscription (StreamOf table) kind some =
      true≢false (sym some ∙ ap (λ (n : ℕ). nat_lt 0 n) (none_taken db table f.args))

-- ---- an admitted query is put together of its root

record IsMade (m : Metadata) (session : Session) (values : Members) (s : Flat) (a : Admitted) : Type 0 where
  root : FlatField
  variables : List Variable
  slots : List SessionValue
  fields : s.fields ≡ root ∷ []
  is : query_with m session values s root variables slots ≡ a

module _ (m : Metadata) (session : Session) (values : Members) (s : Flat) (a : Admitted) where
  abbrev with_slots : FlatField → List Variable → Result (List SessionValue) QueryFault → Result Admitted QueryFault
  with_slots f vars r = and_next r (λ slots. Ok (query_with m session values s f vars slots))

  abbrev the_slots : Result (List SessionValue) QueryFault
  the_slots = slots_given session (selection_slots (role_view m session values s) s)

  abbrev with_walk : FlatField → List Variable → Result Admitted QueryFault
  with_walk f vars =
      unless_fault (walk_fault vars (role_view m session values s) s f) (with_slots f vars the_slots)

  by_slots : (f : FlatField) (vars : List Variable) (r : Result (List SessionValue) QueryFault) → s.fields ≡ f ∷ [] →
      with_slots f vars r ≡ Ok a → IsMade m session values s a
  by_slots f vars (Ok slots) fields e =
      record { root = f; variables = vars; slots = slots; fields = fields; is = cc }
  by_slots f vars (Err fault) fields e =
      absurd (let k : ◌≡◌ {A = Result Admitted QueryFault} (Err fault) (Ok a) = e in cc)

  by_walk : (f : FlatField) (vars : List Variable) (w : Option QueryFault) → s.fields ≡ f ∷ [] →
      unless_fault w (with_slots f vars the_slots) ≡ Ok a → IsMade m session values s a
  by_walk f vars (Some fault) fields e =
      absurd (let k : ◌≡◌ {A = Result Admitted QueryFault} (Err fault) (Ok a) = e in cc)
  by_walk f vars None fields e = by_slots f vars the_slots fields e

  by_variables : (f : FlatField) (r : Result (List Variable) QueryFault) → s.fields ≡ f ∷ [] →
      and_next r (with_walk f) ≡ Ok a → IsMade m session values s a
  by_variables f (Ok vars) fields e =
      by_walk f vars (walk_fault vars (role_view m session values s) s f) fields e
  by_variables f (Err fault) fields e =
      absurd (let k : ◌≡◌ {A = Result Admitted QueryFault} (Err fault) (Ok a) = e in cc)

  by_fields : (fs : List FlatField) → s.fields ≡ fs →
      and_next (one_root fs) (λ f. and_next (variables_of values s.vars) (with_walk f)) ≡ Ok a →
      IsMade m session values s a
  by_fields [] fields e = absurd (let k : ◌≡◌ {A = Result Admitted QueryFault} (Err _) (Ok a) = e in cc)
  by_fields (f ∷ []) fields e = by_variables f (variables_of values s.vars) fields e
  by_fields (f ∷ g ∷ fs) fields e = absurd (let k : ◌≡◌ {A = Result Admitted QueryFault} (Err _) (Ok a) = e in cc)

-- a stream that is told rows has a cursor
pub has_cursor : (m : Metadata) (a : Admitted) → IsAdmitted m a → a.query.kind ≡ Stream → (cursor : Val)
    (db : Database) → nat_lt 0 (result m a.query cursor db).rows ≡ true → is_null cursor ≡ false
has_cursor m a admitted kind cursor db some =
    let s = admitted.selection in
    let made = by_fields m admitted.session admitted.values s a s.fields refl admitted.gives in
    let q = (query_with m admitted.session admitted.values s made.root made.variables made.slots).query in
    let is = ap (λ (a : Admitted). a.query) (sym made.is) in
    not_true (is_null cursor) (λ null.
    by_root m q cursor null db (out-FlatField made.root) s.kind (root_of (view_of m q) s.kind made.root)
    (ap (λ (q : Query). q.kind) (sym is) ∙ kind)
    (subst (λ (fs : List FlatField). nat_lt 0 (root_result m q cursor db fs).rows ≡ true) made.fields
    (subst (λ (q : Query). nat_lt 0 (result m q cursor db).rows ≡ true) is some)))

-- ---- moves are of streams

-- a telling moves a stream, if anything
abbrev MovesStream : List Entry → Option Telling → Type 0
MovesStream entries o = IfSome o (λ t. IfSome (move_of t) (IsStream entries))

is_there : (k : Kept) (s : State) (number : ℕ) (sub : Subscription) → Represents k s →
    subscription_at number s.subscriptions ≡ Some sub → sub.live ≡ true → is_null sub.cursor ≡ false →
    has_stream sub.number k.entries ≡ true
is_there k s number sub r at live cursor =
    let found = found_among (is_subscription number) s.subscriptions sub at in
    let kept = filter_among (is_kept s.jobs) sub s.subscriptions found.0
    (or_true_left sub.live (list_any (is_member sub.number) s.jobs) live) in
    ap (has_stream sub.number) r.entries
    ∙ any_mapped (λ e. is_entry sub.number e && is_stream e) (entry_of s) (kept_of s)
    ∙ among_any (λ x. x.number == sub.number && not (is_null x.cursor)) sub (kept_of s) kept
    (and_both (sub.number == sub.number) (not (is_null sub.cursor)) (eq-eqb sub.number sub.number refl) (ap not cursor))

stream_if : (entries : List Entry) (b : Bool) (t : Telling) → (b ≡ true → IfSome (move_of t) (IsStream entries)) →
    MovesStream entries (if b then Some t else None)
stream_if entries true t h = h refl
stream_if entries false t h = tt

by_kind : (entries : List Entry) (kind : SubKind) (sub : Subscription) (o : Outcome) →
    (kind ≡ Stream → nat_lt 0 o.rows ≡ true → has_stream sub.number entries ≡ true) →
    MovesStream entries (told_by kind sub o)
by_kind entries Live sub o h = stream_if entries (is_new sub.last o.text) _ (λ new. tt)
by_kind entries Once sub o h = tt
by_kind entries Stream sub o h = stream_if entries (nat_lt 0 o.rows) _ (λ some. h refl some)

by_outcome : (k : Kept) (s : State) (number : ℕ) (db : Database) (sub : Subscription) → Represents k s →
    subscription_at number s.subscriptions ≡ Some sub → sub.live ≡ true →
    MovesStream k.entries (told_by sub.query.kind sub (result k.meta sub.query sub.cursor db))
by_outcome k s number db sub r at live =
    let held = held_for k s number sub r at live in
    by_kind k.entries sub.query.kind sub (result k.meta sub.query sub.cursor db) (λ kind some.
    is_there k s number sub r at live (has_cursor k.meta (record { query = sub.query; cursor = held.holds.initial })
    held.holds.admitted kind sub.cursor db some))

by_live : (k : Kept) (s : State) (number : ℕ) (db : Database) (sub : Subscription) (b : Bool) → Represents k s →
    subscription_at number s.subscriptions ≡ Some sub → sub.live ≡ b → (o : Option Outcome) →
    o ≡ Some (result k.meta sub.query sub.cursor db) →
    MovesStream k.entries (if b then told_with sub o else None)
by_live k s number db sub true r at live o is =
    subst (λ (o : Option Outcome). MovesStream k.entries (told_with sub o)) (sym is)
    (by_outcome k s number db sub r at live)
by_live k s number db sub false r at live o is = tt

by_member : (k : Kept) (s : State) (number : ℕ) (db : Database) (sub : Option Subscription) → Represents k s →
    subscription_at number s.subscriptions ≡ sub → (o : Option Outcome) →
    o ≡ option_map (λ (sub : Subscription). result k.meta sub.query sub.cursor db) sub →
    MovesStream k.entries (told_to sub o)
by_member k s number db (Some sub) r at o is = by_live k s number db sub sub.live r at refl o is
by_member k s number db None r at o is = tt

streams_cons : (entries : List Entry) (o : Option Telling) (ts : List Telling) → MovesStream entries o →
    AreStreams (filter_map move_of ts) entries → AreStreams (filter_map move_of (cons_option o ts)) entries
streams_cons entries (Some t) ts h all = moves_cons (move_of t) (filter_map move_of ts) h all
  where
    moves_cons : (o : Option Move) (ms : List Move) → IfSome o (IsStream entries) → AreStreams ms entries →
        AreStreams (cons_option o ms) entries
    moves_cons (Some m) ms h all = (h, all)
    moves_cons None ms h all = all
streams_cons entries None ts h all = all

-- Each move of the tellings of a job is that of a stream of the map, where its members' outcomes are their own results.
pub moves_are_streams : (k : Kept) (s : State) (db : Database) (outcomes : List Outcome) (ms : List Member) →
    Represents k s → AreNumbered s.subscriptions → AreResults k.meta db s.subscriptions outcomes (map member_of ms) →
    AreStreams (filter_map move_of (tellings k outcomes ms)) k.entries
moves_are_streams k s db outcomes [] r numbered results = tt
moves_are_streams k s db outcomes (m ∷ ms) r numbered results =
    streams_cons k.entries (telling_of k outcomes m) (tellings k outcomes ms)
    (subst (MovesStream k.entries) (sym (telling_is k s outcomes m r numbered))
    (by_member k s m.sub db (subscription_at m.sub s.subscriptions) r refl (slice_get outcomes (m.id - 1)) results.0))
    (moves_are_streams k s db outcomes ms r numbered results.1)
