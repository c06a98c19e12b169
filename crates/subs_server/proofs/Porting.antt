-- Connections to the commit port, one after the other.
use Rattle.std.proofs.Common.{◌≡◌, ◌≢◌, ◌∙◌, sym, ap, subst, refl, ℕ, ◌≤◌, ◌⊎◌, inl, inr, Option, Some, None, Ok, Err, List, [], ◌∷◌, ◌++◌, length, map, arith, append_assoc, append-nil}
use Rattle.std.specs.List.{AllByRecursion, flat_map}
use Rattle.std.proofs.lemmas.List.{map-append}
use Rattle.std.proofs.lemmas.Grind.{flat_map-append}
use Rattle.outside.specs.declared.listener.Accepted.TheVariants as accepted
use Rattle.outside.specs.Ends.{Rose}
use Rattle.outside.specs.Listeners.{Accepts}
use Rattle.outside.specs.Openings.{Tells}
use Rattle.role_model.specs.declared.metadata.Metadata.{Metadata}
use Rattle.machine.specs.State.{Event}
use Rattle.history_lock.specs.PassViews.{PassView}
use Rattle.subs_engine.specs.Calls.{Call, Did}
use Rattle.subs_engine.proofs.Owns.{did_nothing, did_then}
use Rattle.commit_server.specs.declared.end.CommitEnd.{CommitEnd}
use Rattle.commit_server.specs.declared.end.CommitEnd.TheVariants as ended
use Rattle.commit_server.specs.Answers.{calls_of}
use Rattle.commit_server.specs.Commits.{SourceView, SinkView, Commits}
use Rattle.subs_server.specs.declared.task.PortEnd.{PortEnd}
use Rattle.subs_server.specs.declared.task.PortEnd.TheVariants as port
use Rattle.subs_server.specs.Ports.{NotSplit, NoParts, ServedTo, Taken, conn_of, calls_by, GoesOn, MayGoOn, EndsBy, IsHandled, ServesPort, IsEndBy, TakesConn, ServesSome}

all_append : {Y : Type 0} (P : Y → Type 0) (xs ys : List Y) → AllByRecursion P xs → AllByRecursion P ys → AllByRecursion P (xs ++ ys)
all_append P [] ys a b = b
all_append P (x ∷ xs) ys a b = (a.0, all_append P xs ys a.1 b)

-- the connection that comes next
pub accepted_one : {X : Type 0} (coming coming' : Option (List X)) (c : X) → Accepts coming coming' (accepted.Conn c) → (all : List X) → coming ≡ Some all → (rest : List X) × (coming' ≡ Some rest) × (all ≡ c ∷ rest)
accepted_one None coming' c a all told = absurd (cc)
accepted_one (Some []) coming' c a all told = absurd a
accepted_one {X} (Some (d ∷ conns)) coming' c a all told = let same : d ∷ conns ≡ all = cc in (conns, a.1, sym same ∙ ap (λ (x : X). x ∷ conns) (sym a.0))

pub accepted_end : {X : Type 0} (coming coming' : Option (List X)) → Accepts coming coming' accepted.End → (all : List X) → coming ≡ Some all → coming' ≡ Some []
accepted_end None coming' a all told = absurd (cc)
accepted_end {X} (Some conns) coming' a all told = a.1 ∙ ap (λ (l : List X). Some l) a.0

pub accepted_same : {X : Type 0} (coming coming' : Option (List X)) → Accepts coming coming' accepted.Failed → (all : List X) → coming ≡ Some all → coming' ≡ Some all
accepted_same None coming' a all told = absurd (cc)
accepted_same (Some conns) coming' a all told = a ∙ told

-- after each other end the next one may be taken
pub may_go_on : (e : CommitEnd) → (e ≡ ended.Spent → ⊥) → (e ≡ ended.NoMemory → ⊥) → MayGoOn (ServedTo e)
may_go_on ended.Ended not_spent not_lacking = tt
may_go_on ended.SourceFault not_spent not_lacking = tt
may_go_on ended.SinkFault not_spent not_lacking = tt
may_go_on ended.TooLong not_spent not_lacking = tt
may_go_on ended.Spent not_spent not_lacking = absurd (not_spent refl)
may_go_on ended.NoMemory not_spent not_lacking = absurd (not_lacking refl)

module _ {X : Type 0} (left written : X → Option (List ℕ)) (never_fails : X → Type 0) where
  -- ---- one connection

  serves_by : (conn : X) (p q : PassView Event Metadata) (s s' : SourceView) (k k' : SinkView) (e : CommitEnd) → (c : Commits p q s s' k k' e) → Tells (left conn) s.left → Tells (written conn) k.written → (never_fails conn → (e ≢ ended.SourceFault) × (e ≢ ended.SinkFault))
      → IsHandled left written never_fails (record { conn = conn; before = p; after = q; calls = calls_of c.answered ++ c.over.calls; handled = ServedTo e })
  serves_by conn p q s s' k k' e c tl tw steady = record { source = s; source' = s'; sink = k; sink' = k'; tells_left = tl; tells_written = tw; commits = c; calls = refl; steady = steady }

  pub takes_served : (conn : X) (p q : PassView Event Metadata) (s s' : SourceView) (k k' : SinkView) (e : CommitEnd) → MayGoOn (ServedTo e) → Commits p q s s' k k' e → Tells (left conn) s.left → Tells (written conn) k.written
      → (never_fails conn → (e ≢ ended.SourceFault) × (e ≢ ended.SinkFault))
      → TakesConn left written never_fails conn p q (Ok tt)
  takes_served conn p q s s' k k' e goes_on c tl tw steady = record {
    taken = record { conn = conn; before = p; after = q; calls = calls_of c.answered ++ c.over.calls; handled = ServedTo e };
    conn_is = refl;
    before = refl;
    after = refl;
    did = c.did;
    handled = serves_by conn p q s s' k k' e c tl tw steady;
    goes_on = goes_on;
  }

  takes_spent : (conn : X) (p q : PassView Event Metadata) (s s' : SourceView) (k k' : SinkView) → Commits p q s s' k k' ended.Spent → Tells (left conn) s.left → Tells (written conn) k.written
      → TakesConn left written never_fails conn p q (Err port.Spent)
  takes_spent conn p q s s' k k' c tl tw = record {
    taken = record { conn = conn; before = p; after = q; calls = calls_of c.answered ++ c.over.calls; handled = ServedTo ended.Spent };
    conn_is = refl;
    did = c.did;
    handled = serves_by conn p q s s' k k' ended.Spent c tl tw (λ n. (λ e. absurd (cc), λ e. absurd (cc)));
    ends = (refl, c.ends.0);
  }

  takes_no_memory : (conn : X) (p q : PassView Event Metadata) (s s' : SourceView) (k k' : SinkView) → Commits p q s s' k k' ended.NoMemory → Tells (left conn) s.left → Tells (written conn) k.written
      → TakesConn left written never_fails conn p q (Err port.NoMemory)
  takes_no_memory conn p q s s' k k' c tl tw = record {
    taken = record { conn = conn; before = p; after = q; calls = calls_of c.answered ++ c.over.calls; handled = ServedTo ended.NoMemory };
    conn_is = refl;
    did = c.did;
    handled = serves_by conn p q s s' k k' ended.NoMemory c tl tw (λ n. (λ e. absurd (cc), λ e. absurd (cc)));
    ends = inr refl;
  }

  pub takes_last : (conn : X) (p q : PassView Event Metadata) (s s' : SourceView) (k k' : SinkView) (e : CommitEnd) (end : PortEnd) → ((e ≡ ended.Spent) × (end ≡ port.Spent)) ⊎ ((e ≡ ended.NoMemory) × (end ≡ port.NoMemory))
      → Commits p q s s' k k' e → Tells (left conn) s.left → Tells (written conn) k.written
      → TakesConn left written never_fails conn p q (Err end)
  takes_last conn p q s s' k k' e end (inl is) c tl tw =
      subst (λ (x : PortEnd). TakesConn left written never_fails conn p q (Err x)) (sym is.1)
      (takes_spent conn p q s s' k k' (subst (λ (x : CommitEnd). Commits p q s s' k k' x) is.0 c) tl tw)
  takes_last conn p q s s' k k' e end (inr is) c tl tw =
      subst (λ (x : PortEnd). TakesConn left written never_fails conn p q (Err x)) (sym is.1)
      (takes_no_memory conn p q s s' k k' (subst (λ (x : CommitEnd). Commits p q s s' k k' x) is.0 c) tl tw)

  pub takes_not_split : (conn : X) (p : PassView Event Metadata) → (left conn ≡ None) × (written conn ≡ None) → TakesConn left written never_fails conn p p (Ok tt)
  takes_not_split conn p untold = record {
    taken = record { conn = conn; before = p; after = p; calls = []; handled = NotSplit };
    conn_is = refl;
    before = refl;
    after = refl;
    did = did_nothing p;
    handled = (refl, untold.0, untold.1);
    goes_on = tt;
  }

  pub takes_no_parts : (conn : X) (p : PassView Event Metadata) → TakesConn left written never_fails conn p p (Err port.NoMemory)
  takes_no_parts conn p = record {
    taken = record { conn = conn; before = p; after = p; calls = []; handled = NoParts };
    conn_is = refl;
    did = did_nothing p;
    handled = refl;
    ends = inl refl;
  }

  -- ---- one after the other

  pub serves_nothing : (coming : Option (List X)) (faults : ℕ) (p : PassView Event Metadata) → ServesSome left written never_fails coming coming faults faults p p
  serves_nothing coming faults p = record { front = []; conns = λ all told. (all, told, refl); did = did_nothing p; each = tt; goes_on = tt; later = omega arith }

  module _ (coming coming' coming'' : Option (List X)) (faults faults' faults'' : ℕ) (p q r : PassView Event Metadata) where
    -- one more connection was taken
    more_conns : (some : ServesSome left written never_fails coming coming' faults faults' p q) (t : Taken X) → Accepts coming' coming'' (accepted.Conn t.conn)
        → (all : List X) → coming ≡ Some all → (rest : List X) × (coming'' ≡ Some rest) × (all ≡ map conn_of (some.front ++ t ∷ []) ++ rest)
    more_conns some t accepts all told =
        let before = some.conns all told in
        let one = accepted_one coming' coming'' t.conn accepts before.0 before.1 in (
          one.0,
          one.1,
          before.2 ∙ ap (λ (l : List X). map conn_of some.front ++ l) one.2
              ∙ sym (append_assoc (map conn_of some.front) (t.conn ∷ []) one.0) ∙ ap (λ (l : List X). l ++ one.0) (sym (map-append conn_of some.front (t ∷ []))),
        )

    more_did : (some : ServesSome left written never_fails coming coming' faults faults' p q) (t : Taken X) → Did q r t.calls → Did p r (flat_map calls_by (some.front ++ t ∷ []))
    more_did some t did = subst (Did p r) (ap (λ (l : List Call). flat_map calls_by some.front ++ l) (sym (append-nil t.calls)) ∙ sym (flat_map-append calls_by some.front (t ∷ []))) (did_then p q r (flat_map calls_by some.front) t.calls some.did did)

    pub serves_more : (conn : X) → ServesSome left written never_fails coming coming' faults faults' p q → Accepts coming' coming'' (accepted.Conn conn) → faults' ≤ faults'' → TakesConn left written never_fails conn q r (Ok tt)
        → ServesSome left written never_fails coming coming'' faults faults'' p r
    serves_more conn some accepts up takes = let t = takes.taken in record {
      front = some.front ++ t ∷ [];
      conns = more_conns some t (subst (λ (c : X). Accepts coming' coming'' (accepted.Conn c)) (sym takes.conn_is) accepts);
      did = more_did some t takes.did;
      each = all_append (IsHandled left written never_fails) some.front (t ∷ []) some.each (takes.handled, tt);
      goes_on = all_append GoesOn some.front (t ∷ []) some.goes_on (takes.goes_on, tt);
      later = omega (arith, some.later, up);
    }

    -- the port's end comes by the last connection
    ends_by : (e : PortEnd) (t : Taken X) → IsEndBy left written never_fails (length r.seen) t.handled e → EndsBy (length r.seen) coming coming'' faults faults'' e (t ∷ [])
    ends_by port.Ended t s = absurd s
    ends_by port.Fault t s = absurd s
    ends_by port.Spent t s = (t, refl, s.0, s.1)
    ends_by port.NoMemory t s = (t, refl, s)

    pub serves_last : (conn : X) (e : PortEnd) → ServesSome left written never_fails coming coming' faults faults' p q → Accepts coming' coming'' (accepted.Conn conn) → TakesConn left written never_fails conn q r (Err e)
        → ServesPort left written never_fails coming coming'' faults faults'' p r e
    serves_last conn e some accepts takes = let t = takes.taken in record {
      front = some.front;
      last = t ∷ [];
      conns = more_conns some t (subst (λ (c : X). Accepts coming' coming'' (accepted.Conn c)) (sym takes.conn_is) accepts);
      did = more_did some t takes.did;
      each = all_append (IsHandled left written never_fails) some.front (t ∷ []) some.each (takes.handled, tt);
      goes_on = some.goes_on;
      ends = ends_by e t takes.ends;
    }

  module _ (coming coming' coming'' : Option (List X)) (faults faults' faults'' : ℕ) (p q : PassView Event Metadata) where
    -- no connection more was taken
    same_conns : (some : ServesSome left written never_fails coming coming' faults faults' p q) → ((all : List X) → coming' ≡ Some all → coming'' ≡ Some all)
        → (all : List X) → coming ≡ Some all → (rest : List X) × (coming'' ≡ Some rest) × (all ≡ map conn_of (some.front ++ []) ++ rest)
    same_conns some same all told =
        let before = some.conns all told in
        (before.0, same before.0 before.1, before.2 ∙ ap (λ (l : List (Taken X)). map conn_of l ++ before.0) (sym (append-nil some.front)))

    pub serves_ended : ServesSome left written never_fails coming coming' faults faults' p q → Accepts coming' coming'' accepted.End → ServesPort left written never_fails coming coming'' faults faults'' p q port.Ended
    serves_ended some accepts = record {
      front = some.front;
      last = [];
      conns = same_conns some (λ all told. accepted_end coming' coming'' accepts all told ∙ sym (none all told));
      did = subst (λ (l : List (Taken X)). Did p q (flat_map calls_by l)) (sym (append-nil some.front)) some.did;
      each = subst (AllByRecursion (IsHandled left written never_fails)) (sym (append-nil some.front)) some.each;
      goes_on = some.goes_on;
      ends = (refl, λ conns told. let before = some.conns conns told in accepted_end coming' coming'' accepts before.0 before.1);
    }
      where
        none : (all : List X) → coming' ≡ Some all → Some all ≡ Some []
        none all told = sym told ∙ at_end coming' coming'' accepts all told
          where
            at_end : (o o' : Option (List X)) → Accepts o o' accepted.End → (all : List X) → o ≡ Some all → o ≡ Some []
            at_end None o' a all told = absurd (cc)
            at_end (Some conns) o' a all told = ap (λ (l : List X). Some l) a.0

    pub serves_fault : ServesSome left written never_fails coming coming' faults faults' p q → Accepts coming' coming'' accepted.Failed → Rose faults' faults'' → ServesPort left written never_fails coming coming'' faults faults'' p q port.Fault
    serves_fault some accepts rose = record {
      front = some.front;
      last = [];
      conns = same_conns some (accepted_same coming' coming'' accepts);
      did = subst (λ (l : List (Taken X)). Did p q (flat_map calls_by l)) (sym (append-nil some.front)) some.did;
      each = subst (AllByRecursion (IsHandled left written never_fails)) (sym (append-nil some.front)) some.each;
      goes_on = some.goes_on;
      ends = (refl, omega (arith, rose, some.later));
    }
