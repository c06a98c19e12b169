-- The calls of a pass, as what it has seen grows.
use Rattle.std.proofs.Common.{◌≡◌, ℕ, Bool, true, false, eqb, ◌==◌, ◌^◌, ◌≤◌, eq-eqb, List, [], ◌∷◌, ◌++◌, length, cond}
use Rattle.std.proofs.Common.{if◌then◌else◌, refl, sym, ap, ◌∙◌, subst, append_assoc}
use Rattle.std.proofs.lemmas.List.{append-nil}
use Rattle.history_lock.specs.declared.known.Entry.{Entry}
use Rattle.history_lock.specs.PassViews.{PassView}
use Rattle.history_lock.specs.History.{entry, events, own, Extends}
use Rattle.role_model.specs.declared.metadata.Metadata.{Metadata}
use Rattle.machine.specs.State.{State, Event, Step, opening}
use Rattle.machine.specs.Run.{happens, after_all, run}
use Rattle.subs_engine.specs.Calls.{Answer, Adds, Call, Did, Makes, MakesOne, Stays, IsSpent, answer_of, call, call_at}
use Rattle.subs_engine.specs.Calls.{calls, calls_from}

calls-cons : (b : Bool) (c : Call) (xs ys : List Call) →
    (if b then (c ∷ (xs ++ ys)) else (xs ++ ys)) ≡ (if b then (c ∷ xs) else xs) ++ ys
calls-cons true c xs ys = refl
calls-cons false c xs ys = refl

calls-append : (meta : Metadata) (s : State) (n : ℕ) (xs ys : List (Entry Event)) → calls_from meta s n (xs ++ ys)
    ≡ calls_from meta s n xs ++ calls_from meta (after_all meta s (events xs)) n ys
calls-append meta s n [] ys = refl
calls-append meta s n (x ∷ xs) ys =
    let t = (happens meta s x.event).state in
    let c = call_at meta s x.event in
    ap (λ (zs : List Call). if x.pass == n then (c ∷ zs) else zs) (calls-append meta t n xs ys)
    ∙ calls-cons (x.pass == n) c (calls_from meta t n xs) (calls_from meta (after_all meta t (events xs)) n ys)

-- where the first is no own entry, it is no call either
none_first : (b : Bool) (x : Entry Event) (c : Call) (mine : List (Entry Event)) (rest : List Call) →
    (if b then (x ∷ mine) else mine) ≡ [] → (mine ≡ [] → rest ≡ []) → (if b then (c ∷ rest) else rest) ≡ []
none_first true x c mine rest e more = absurd (cc)
none_first false x c mine rest e more = more e

calls_none : (meta : Metadata) (s : State) (n : ℕ) (xs : List (Entry Event)) → own n xs ≡ [] →
    calls_from meta s n xs ≡ []
calls_none meta s n [] e = refl
calls_none meta s n (x ∷ xs) e =
    none_first (x.pass == n) x (call_at meta s x.event) (own n xs)
    (calls_from meta (happens meta s x.event).state n xs) e
    (λ none. calls_none meta (happens meta s x.event).state n xs none)

calls_mine : (meta : Metadata) (s : State) (n : ℕ) (e : Event) →
    calls_from meta s n (entry n e ∷ []) ≡ call_at meta s e ∷ []
calls_mine meta s n e = ap (λ (b : Bool). if b then (call_at meta s e ∷ []) else []) (eq-eqb n n refl)

-- where others' entries come, the calls stay the same
calls_others : (meta : Metadata) (n : ℕ) (before others : List (Entry Event)) → own n others ≡ [] →
    calls_from meta opening n (before ++ others) ≡ calls_from meta opening n before
calls_others meta n before others none =
    calls-append meta opening n before others
    ∙ ap (λ (l : List Call). calls_from meta opening n before ++ l)
    (calls_none meta (after_all meta opening (events before)) n others none)
    ∙ append-nil (calls_from meta opening n before)

calls_extends : (meta : Metadata) (n : ℕ) (before after : List (Entry Event)) → Extends n before after →
    calls meta n after ≡ calls meta n before
unfolding calls
calls_extends meta n before after g =
    ap (calls_from meta opening n) g.whole ∙ calls_others meta n before g.rest g.others

-- a call adds its one entry
calls_adds : (meta : Metadata) (n : ℕ) (c : Call) (before after : List (Entry Event)) → Adds meta n c before after →
    calls meta n after ≡ calls meta n before ++ c ∷ []
unfolding calls
calls_adds meta n c before after a =
    ap (calls_from meta opening n) a.whole
    ∙ calls-append meta opening n (before ++ a.others) (entry n c.event ∷ [])
    ∙ (λ i. calls_others meta n before a.others a.apart i
    ++ calls_mine meta (run meta (events (before ++ a.others))) n c.event i)
    ∙ ap (λ (z : Call). calls_from meta opening n before ++ z ∷ []) (sym a.place)

pub did_nothing : (p : PassView Event Metadata) → Did p p []
did_nothing p = record {
  lock = refl;
  number = refl;
  basis = refl;
  has_turn = refl;
  rest = [];
  whole = sym (append-nil p.seen);
  calls = sym (append-nil (calls p.basis p.number p.seen));
}

pub stays : (p : PassView Event Metadata) → Stays p p
stays p = (refl, did_nothing p)

-- a pass of which only what it has seen differs, which is more by entries of others
pub did_others : (p q : PassView Event Metadata) → q ≡ record p { seen = q.seen } → Extends p.number p.seen q.seen →
    Did p q []
did_others p q same g = record {
  lock = ap (λ (z : PassView Event Metadata). z.lock) same;
  number = ap (λ (z : PassView Event Metadata). z.number) same;
  basis = ap (λ (z : PassView Event Metadata). z.basis) same;
  has_turn = ap (λ (z : PassView Event Metadata). z.has_turn) same;
  rest = g.rest;
  whole = g.whole;
  calls = calls_extends p.basis p.number p.seen q.seen g ∙ sym (append-nil (calls p.basis p.number p.seen));
}

pub spent : (p q : PassView Event Metadata) → q ≡ record p { seen = q.seen } → Extends p.number p.seen q.seen →
    length q.seen ≡ 2 ^ 62 → IsSpent p q
spent p q same g whole = record { whole = whole; extends = g; did = did_others p q same g }

-- the same with one call
did_call : (p q : PassView Event Metadata) (c : Call) → q ≡ record p { seen = q.seen } →
    Adds p.basis p.number c p.seen q.seen → Did p q (c ∷ [])
did_call p q c same a = record {
  lock = ap (λ (z : PassView Event Metadata). z.lock) same;
  number = ap (λ (z : PassView Event Metadata). z.number) same;
  basis = ap (λ (z : PassView Event Metadata). z.basis) same;
  has_turn = ap (λ (z : PassView Event Metadata). z.has_turn) same;
  rest = a.others ++ entry p.number c.event ∷ [];
  whole = a.whole ∙ append_assoc p.seen a.others (entry p.number c.event ∷ []);
  calls = calls_adds p.basis p.number c p.seen q.seen a;
}

pub did_then : (p q r : PassView Event Metadata) (xs ys : List Call) → Did p q xs → Did q r ys → Did p r (xs ++ ys)
did_then p q r xs ys a b = record {
  lock = b.lock ∙ a.lock;
  number = b.number ∙ a.number;
  basis = b.basis ∙ a.basis;
  has_turn = b.has_turn ∙ a.has_turn;
  rest = a.rest ++ b.rest;
  whole = b.whole ∙ ap (λ (l : List (Entry Event)). l ++ b.rest) a.whole ∙ append_assoc p.seen a.rest b.rest;
  calls = (λ i. calls (sym a.basis i) (sym a.number i) r.seen)
      ∙ b.calls
      ∙ (λ i. calls (a.basis i) (a.number i) q.seen ++ ys)
      ∙ ap (λ (l : List Call). l ++ ys) a.calls
      ∙ append_assoc (calls p.basis p.number p.seen) xs ys;
}

-- a pass `t` that has the turn gives this event, which the machine answers so
pub made_one : (p t q : PassView Event Metadata) (e : Event) (a : Answer) → q ≡ record p { seen = q.seen } →
    Extends p.number p.seen t.seen → q.seen ≡ t.seen ++ entry p.number e ∷ [] → length q.seen ≤ 2 ^ 62 →
    answer_of (happens p.basis (run p.basis (events t.seen)) e) ≡ a → MakesOne p q e a
made_one p t q e a same g whole few is =
    let s = run p.basis (events t.seen) in
    let others = g.rest in
    let adds : Adds p.basis p.number (call s e a) p.seen q.seen = record {
      others = others;
      apart = g.others;
      whole = whole ∙ ap (λ (l : List (Entry Event)). l ++ entry p.number e ∷ []) g.whole;
      place = ap (λ (b : Answer). call s e b) (sym is)
          ∙ ap (λ (l : List (Entry Event)). call_at p.basis (run p.basis (events l)) e) g.whole;
    } in (s, record { adds = adds; did = did_call p q (call s e a) same adds; few = few })
