-- What a hub stands for after one more event.
use Rattle.std.proofs.Common.{◌≡◌, ◌∙◌, sym, ap, refl, subst, ◌+◌, List, [], ◌∷◌, ◌++◌, arith, length-append}
use Rattle.role_model.specs.declared.metadata.Metadata.{Metadata}
use Rattle.machine.specs.declared.queued.Queued.{Queued}
use Rattle.machine.specs.State.{State, Event, Reply, Close, Step, opening}
use Rattle.machine.specs.Run.{happens, after_all, run}
use Rattle.hub_model.specs.Kept.{Kept, Represents}
use Rattle.hub_model.specs.Stands.{StandsFor, Happened, Does}
use Rattle.hub_model.specs.Steps.{counted}

after_all-push : (meta : Metadata) (s : State) (h : List Event) (e : Event) →
    after_all meta s (h ++ e ∷ []) ≡ (happens meta (after_all meta s h) e).state
after_all-push meta s [] e = refl
after_all-push meta s (d ∷ h) e = after_all-push meta (happens meta s d).state h e

pub run-push : (meta : Metadata) (h : List Event) (e : Event) →
    run meta (h ++ e ∷ []) ≡ (happens meta (run meta h) e).state
run-push meta h e = after_all-push meta opening h e

-- a step of the machine, and what is kept after it
pub record Steps (k k' : Kept) (s : State) (e : Event) (reply : Reply) (queued : List Queued) (closed : List Close) : Type 0 where
  pub after : State
  pub step : happens k.meta s e ≡ record { state = after; reply = reply; queued = queued; closed = closed }
  pub represents : Represents k' after

pub happened : (k k' : Kept) (e : Event) (reply : Reply) (queued : List Queued) (closed : List Close) (h : List Event) →
    k'.meta ≡ k.meta → k'.events ≡ k.events + 1 → StandsFor k h →
    Steps k k' (run k.meta h) e reply queued closed → Happened k k' h e reply queued closed
happened k k' e reply queued closed h m n st p =
    let ran : run k.meta (h ++ e ∷ []) ≡ p.after = run-push k.meta h e ∙ ap (λ (s : Step). s.state) p.step in
    record {
      stands = record {
        represents = subst (λ (meta : Metadata). Represents k' (run meta (h ++ e ∷ []))) (sym m)
            (subst (Represents k') (sym ran) p.represents);
        events = omega (arith, length-append h (e ∷ []), st.events, n);
      };
      step = p.step
          ∙ ap (λ (s : State). record { state = s; reply = reply; queued = queued; closed = closed }) (sym ran);
    }

-- what an event does, by its step after each history
pub does : (k k' : Kept) (e : Event) (reply : Reply) (queued : List Queued) (closed : List Close) →
    k'.meta ≡ k.meta → k'.events ≡ k.events + 1 →
    ((h : List Event) → StandsFor k h → Steps k k' (run k.meta h) e reply queued closed) →
    Does k k' e reply queued closed
does k k' e reply queued closed m n f = record {
  meta = m;
  events = n;
  happened = λ h st. happened k k' e reply queued closed h m n st (f h st);
}

-- the count of events is no part of what stands for a state
pub counts : (k : Kept) (s : State) → Represents k s → Represents (counted k) s
counts k s r = record {
  version = r.version;
  tables = r.tables;
  connections = r.connections;
  entries = r.entries;
  held = r.held;
  jobs = r.jobs;
  subscribed = r.subscribed;
  jobs_made = r.jobs_made;
}
