-- The call that starts the server's works.
use Rattle.std.proofs.Common.{◌≡◌, ◌≢◌, ◌∙◌, sym, subst, refl, ℕ, ◌≤◌, ◌⊎◌, inl, inr, Bool, true, Option, Some, None, Result, Ok, Err, List, [], arith}
use Rattle.std.specs.Prelude.{IsSome}
use Rattle.std.proofs.lemmas.Bool.{false≢true}
use Rattle.outside.specs.Ends.{Rose}
use Rattle.outside.specs.Listeners.{Listens}
use Rattle.role_model.specs.declared.metadata.Metadata.{Metadata}
use Rattle.role_model.specs.declared.metadata.MetaFault.{MetaFault}
use Rattle.role_model.specs.MetadataMeaning.{metadata_of}
use Rattle.serve_words.specs.declared.words.ServeWords.{ServeWords}
use Rattle.serve_words.specs.declared.words.WordsFault.{WordsFault}
use Rattle.serve_words.specs.Words.{IsValid}
use Rattle.subs_server.specs.declared.task.ServeWork.{ServeWork}
use Rattle.subs_server.specs.declared.start.StartEnd.{StartEnd}
use Rattle.subs_server.specs.declared.start.StartEnd.TheVariants as end
use Rattle.subs_server.specs.Mains.{Planned, ListenerView, ListensOn, Gives, Held, StartsSome, StartsWorks, IsAll, IfPort, LeftFailed, AreValid, HasFault}
use Rattle.subs_server.specs.Starting.{Listening, Gave, IsNone, IsWhole, IsCausedBy, HasCause, ArePlanned, WorksFrom, StartsPlanned, StartsAs}
use Rattle.subs_server.proofs.Starting.{told_nothing}

-- ---- listening

listens_true : {X : Type 0} (l l' : ListenerView X) (port : ℕ) → l'.coming ≡ l.coming → Listens l.last_port l'.last_port true port → ListensOn l l' port
listens_true l l' port same listens = record {
  told = λ before told. subst (λ (o : Option (Option ℕ)). Listens o l'.last_port true port) told listens;
  same = same;
}

pub listens_on : {X : Type 0} (l l' : ListenerView X) (port : ℕ) (r : Bool) → r ≡ true → l'.coming ≡ l.coming → Listens l.last_port l'.last_port r port → ListensOn l l' port
listens_on l l' port r is same listens = listens_true l l' port same (subst (λ (b : Bool). Listens l.last_port l'.last_port b port) is listens)

module _ {N Q X : Type 0} (port_seen : Q → ListenerView X) (asked : ServeWords) (s s' : ListenerView N) where
  pub sockets_failed : (commits commits' : Option Q) → IsSome commits → Rose s.faults s'.faults → Listening port_seen asked s s' commits commits' (Err end.ListenFault)
  sockets_failed None commits' some rose = absurd (false≢true some)
  sockets_failed (Some c) commits' some rose = inl rose

  pub port_failed : (commits commits' : Option Q) (c from : Q) → commits ≡ Some c → commits' ≡ Some from → Rose (port_seen c).faults (port_seen from).faults → Listening port_seen asked s s' commits commits' (Err end.ListenFault)
  port_failed commits commits' c from is is' rose =
      subst (λ (o : Option Q). Listening port_seen asked s s' o commits' (Err end.ListenFault)) (sym is)
      (inr (subst (λ (o : Option Q). LeftFailed (λ z. (port_seen z).faults) (Some c) o) (sym is') rose))

  pub both_listen : (commits commits' : Option Q) (c from : Q) → commits ≡ Some c → ListensOn s s' asked.port → ListensOn (port_seen c) (port_seen from) asked.commit_port → Listening port_seen asked s s' commits commits' (Ok from)
  both_listen commits commits' c from is one two =
      subst (λ (o : Option Q). Listening port_seen asked s s' o commits' (Ok from)) (sym is) (one, two)

  pub cause_listening : (commits commits' : Option Q) (faults : ℕ) (e : StartEnd) → Listening port_seen asked s s' commits commits' (Err e) → HasCause (λ z. (port_seen z).faults) commits commits' s.faults s'.faults faults faults (Err e)
  cause_listening None commits' faults e l = absurd l
  cause_listening (Some c) commits' faults end.NoMemory l = tt
  cause_listening (Some c) commits' faults end.ListenFault l = l
  cause_listening (Some c) commits' faults end.SpawnFault l = absurd l

-- ---- all works

-- a listener that listens has given these since
gives_since : {N : Type 0} (k l m : ListenerView N) (port : ℕ) (conns : List N) → ListensOn k l port → Gave l m conns → Gives k m port conns
gives_since k l m port conns on gave = record {
  told_port = λ before told. gave.port ∙ on.told before told;
  told = λ all told. gave.told all (on.same ∙ told);
}

all_since : {N : Type 0} (k l m : ListenerView N) (port : ℕ) (conns : List N) → ListensOn k l port → IsAll l m conns → IsAll k m conns
all_since k l m port conns on (inl count) = inl count
all_since k l m port conns on (inr left) = inr (λ all told. left all (on.same ∙ told))

module _ {N Q X C G : Type 0} (port_seen : Q → ListenerView X) (asked : ServeWords) (meta : Metadata) (commits : Q) (clock : C) (gate : G) (s t : Option (List (ServeWork N Q C G))) where
  -- no work was started
  starts_none : (k l : ListenerView N) (e : StartEnd) → StartsAs port_seen asked meta k l commits clock gate s s (Err e)
  starts_none k l e = record { works = []; told = told_nothing s; are = inl refl }

  starts_all : (k l m : ListenerView N) (from : Q) (faults faults' : ℕ) (r : Result (Unit {0}) StartEnd) → ListensOn k l asked.port → ListensOn (port_seen commits) (port_seen from) asked.commit_port
      → WorksFrom asked.workers from meta clock gate l m s t faults faults' r → StartsAs port_seen asked meta k m commits clock gate s t r
  starts_all k l m from faults faults' r on listens w = record { works = w.works; told = w.told; are = cases w.are }
    where
      whole : (r : Result (Unit {0}) StartEnd) (rest : List (Planned N Q)) (conns : List N) → IsWhole r rest l m conns → IsWhole r rest k m conns
      whole (Ok done) rest conns h = (h.0, all_since k l m asked.port conns on h.1)
      whole (Err e) rest conns h = tt

      cases : IsNone r w.works ⊎ ArePlanned asked.workers from meta clock gate l m r w.works → IsNone r w.works ⊎ StartsPlanned port_seen asked meta k m commits clock gate s t r w.works
      cases (inl none) = inl none
      cases (inr are) = inr (record {
        rest = are.rest;
        conns = are.conns;
        starts = record {
          gives = gives_since k l m asked.port are.conns on are.gave;
          from = from;
          listens = listens;
          begun = are.begun;
          plan = are.plan;
          lock = are.lock;
          fit = are.fit;
        };
        whole = whole r are.rest are.conns are.whole;
      })

module _ {N Q X C G : Type 0} (port_seen : Q → ListenerView X) (asked : ServeWords) (meta : Metadata) (clock : C) (gate : G) (s t : Option (List (ServeWork N Q C G))) where
  pub starts_unlistened : (commits : Option Q) (k l : ListenerView N) (e : StartEnd) → IfPort commits (λ port. StartsAs port_seen asked meta k l port clock gate s s (Err e))
  starts_unlistened None k l e = tt
  starts_unlistened (Some c) k l e = starts_none port_seen asked meta c clock gate s s k l e

  pub starts_listened : (commits commits' : Option Q) (k l m : ListenerView N) (from : Q) (faults faults' : ℕ) (r : Result (Unit {0}) StartEnd) → Listening port_seen asked k l commits commits' (Ok from)
      → WorksFrom asked.workers from meta clock gate l m s t faults faults' r → IfPort commits (λ port. StartsAs port_seen asked meta k m port clock gate s t r)
  starts_listened None commits' k l m from faults faults' r on w = absurd on
  starts_listened (Some c) commits' k l m from faults faults' r on w = starts_all port_seen asked meta c clock gate s t k l m from faults faults' r on.0 on.1 w

pub has_cause : {Q : Type 0} (faults_of : Q → ℕ) (commits commits' : Option Q) (a b c faults faults' : ℕ) (r : Result (Unit {0}) StartEnd) → a ≤ b → IsCausedBy b c faults faults' r → HasCause faults_of commits commits' a c faults faults' r
has_cause faults_of commits commits' a b c faults faults' (Ok done) le i = tt
has_cause faults_of commits commits' a b c faults faults' (Err end.NoMemory) le i = tt
has_cause faults_of commits commits' a b c faults faults' (Err end.ListenFault) le i = inl (omega (arith, i, le))
has_cause faults_of commits commits' a b c faults faults' (Err end.SpawnFault) le i = i

-- ---- the statuses

pub never_valid : (words : List (List ℕ)) (r : Result ServeWords WordsFault) (fault : WordsFault) → r ≡ Err fault
    → ((other : ServeWords) → IsValid words other → r ≡ Ok other) → AreValid words → ⊥
never_valid words r fault is every valid = refused (sym is ∙ every valid.0 valid.1)
  where
    refused : ◌≡◌ {A = Result ServeWords WordsFault} (Err fault) (Ok valid.0) → ⊥
    refused e = cc

pub has_fault : (left left' : Option (List ℕ)) (text : List ℕ) (fault : MetaFault) → Held left left' text → metadata_of text ≡ Err fault → HasFault left left'
has_fault left left' text fault held is = record { text = text; held = held; fault = fault; refused = is }

same_asked : (asked other : ServeWords) → ◌≡◌ {A = Result ServeWords WordsFault} (Ok asked) (Ok other) → other ≡ asked
same_asked asked other e = cc

module _ {N Q X C G : Type 0} (port_seen : Q → ListenerView X) (words : List (List ℕ)) (left left' : Option (List ℕ)) (sockets sockets' : ListenerView N) (commits : Q) (clock : C) (gate : G) (s t : Option (List (ServeWork N Q C G))) where
  module _ (asked : ServeWords) (valid : (other : ServeWords) → IsValid words other → ◌≡◌ {A = Result ServeWords WordsFault} (Ok asked) (Ok other)) (text : List ℕ) (held : Held left left' text) (meta : Metadata) (read : metadata_of text ≡ Ok meta) where
    started_some : (status : ℕ) (works : List (ServeWork N Q C G)) (r : Result (Unit {0}) StartEnd) (p : StartsPlanned port_seen asked meta sockets sockets' commits clock gate s t r works) → (status ≡ 0 → (p.rest ≡ []) × IsAll sockets sockets' p.conns)
        → StartsSome port_seen words left left' sockets sockets' commits clock gate status works
    started_some status works r p all = record {
      asked = asked;
      asked_for = λ other is. same_asked asked other (valid other is);
      text = text;
      held = held;
      meta = meta;
      read = read;
      rest = p.rest;
      conns = p.conns;
      starts = p.starts;
      all = all;
    }

    started_all : StartsAs port_seen asked meta sockets sockets' commits clock gate s t (Ok tt) → StartsWorks port_seen words left left' sockets sockets' commits clock gate s t 0
    started_all a = record { works = a.works; told = a.told; are = cases a.are }
      where
        cases : IsNone (Ok tt) a.works ⊎ StartsPlanned port_seen asked meta sockets sockets' commits clock gate s t (Ok tt) a.works → ((a.works ≡ []) × (◌≢◌ {A = ℕ} 0 0)) ⊎ StartsSome port_seen words left left' sockets sockets' commits clock gate 0 a.works
        cases (inl none) = absurd none
        cases (inr p) = inr (started_some 0 a.works (Ok tt) p (λ e. p.whole))

    started_part : (status : ℕ) (e : StartEnd) → status ≢ 0 → StartsAs port_seen asked meta sockets sockets' commits clock gate s t (Err e) → StartsWorks port_seen words left left' sockets sockets' commits clock gate s t status
    started_part status e not_zero a = record { works = a.works; told = a.told; are = cases a.are }
      where
        cases : IsNone (Err e) a.works ⊎ StartsPlanned port_seen asked meta sockets sockets' commits clock gate s t (Err e) a.works → ((a.works ≡ []) × (status ≢ 0)) ⊎ StartsSome port_seen words left left' sockets sockets' commits clock gate status a.works
        cases (inl none) = inl (none, not_zero)
        cases (inr p) = inr (started_some status a.works (Err e) p (λ is. absurd (not_zero is)))

pub main_none : {N Q X C G : Type 0} (port_seen : Q → ListenerView X) (words : List (List ℕ)) (left left' : Option (List ℕ)) (sockets sockets' : ListenerView N) (clock : C) (gate : G) (s : Option (List (ServeWork N Q C G))) (commits : Option Q) (status : ℕ) → status ≢ 0
    → IfPort commits (λ port. StartsWorks port_seen words left left' sockets sockets' port clock gate s s status)
main_none port_seen words left left' sockets sockets' clock gate s None status not_zero = tt
main_none port_seen words left left' sockets sockets' clock gate s (Some c) status not_zero = record { works = []; told = told_nothing s; are = inl (refl, not_zero) }

module _ {N Q X C G : Type 0} (port_seen : Q → ListenerView X) (words : List (List ℕ)) (left left' : Option (List ℕ)) (sockets sockets' : ListenerView N) (clock : C) (gate : G) (s t : Option (List (ServeWork N Q C G))) where
  module _ (asked : ServeWords) (valid : (other : ServeWords) → IsValid words other → ◌≡◌ {A = Result ServeWords WordsFault} (Ok asked) (Ok other)) (text slice : List ℕ) (held : Held left left' text) (same : slice ≡ text) (meta : Metadata) (read : metadata_of slice ≡ Ok meta) where
    read_text : metadata_of text ≡ Ok meta
    read_text = subst (λ (l : List ℕ). metadata_of l ≡ Ok meta) same read

    pub main_all : (commits : Option Q) → IfPort commits (λ port. StartsAs port_seen asked meta sockets sockets' port clock gate s t (Ok tt)) → IfPort commits (λ port. StartsWorks port_seen words left left' sockets sockets' port clock gate s t 0)
    main_all None a = tt
    main_all (Some c) a = started_all port_seen words left left' sockets sockets' c clock gate s t asked valid text held meta read_text a

    pub main_part : (commits : Option Q) (status : ℕ) (e : StartEnd) → status ≢ 0 → IfPort commits (λ port. StartsAs port_seen asked meta sockets sockets' port clock gate s t (Err e)) → IfPort commits (λ port. StartsWorks port_seen words left left' sockets sockets' port clock gate s t status)
    main_part None status e not_zero a = tt
    main_part (Some c) status e not_zero a = started_part port_seen words left left' sockets sockets' c clock gate s t asked valid text held meta read_text status e not_zero a
