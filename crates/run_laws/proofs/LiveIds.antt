-- No two live subscriptions of one connection have one id.
use Rattle.std.proofs.Common.{◌≡◌, ◌∙◌, sym, ap, subst, ℕ, ◌==◌, true, ◌&&◌, Some, List, map}
use Rattle.std.specs.Str.{bytes_eq}
use Rattle.std.proofs.lemmas.Bool.{eq-eqb, true≢false}
use Rattle.std.proofs.lemmas.Cmp.{nat_list_eq_equiv}
use Rattle.role_model.specs.declared.metadata.Metadata.{Metadata}
use Rattle.query_model.specs.Admission.{Admitted}
use Rattle.machine.specs.State.{State, Subscription, Event}
use Rattle.machine.specs.Connections.{is_of, is_live_id, ended_if, subscription_of}
use Rattle.machine.specs.Publication.{publish, database_of}
use Rattle.machine.specs.Run.{happens}
use Rattle.run_laws.specs.Laws.{EachPair}
use Rattle.run_laws.specs.Takings.{HaveOtherIds, LiveIdsDiffer}
use Rattle.run_laws.proofs.Among.{Among, among_any, and_both, pairs_mapped, pairs_push}
use Rattle.run_laws.proofs.Cases.{Joins, by_event}
use Rattle.run_laws.proofs.Following.{Alike, Follows, ended_alike, members_follow}
use Rattle.run_laws.proofs.Histories.{every_run}

abbrev pub IdsDiffer : List Subscription → Type 0
IdsDiffer subs = EachPair HaveOtherIds subs

still_other : (f : Subscription → Subscription) → Alike f → (x y : Subscription) → HaveOtherIds x y → HaveOtherIds (f x) (f y)
still_other f k x y h a b c same =
    h (k.live x a) (k.live y b) (sym (k.connection x) ∙ c ∙ k.connection y) (sym (k.id x) ∙ same ∙ k.id y)

mapped_differ : (f : Subscription → Subscription) → Alike f → (subs : List Subscription) → IdsDiffer subs → IdsDiffer (map f subs)
mapped_differ f k subs h = pairs_mapped HaveOtherIds HaveOtherIds f (λ x y r. still_other f k x y r) subs h

followed_differ : (subs after : List Subscription) → Follows subs after → IdsDiffer subs → IdsDiffer after
followed_differ subs after f h = subst IdsDiffer (sym f.is) (mapped_differ f.change f.alike subs h)

-- a new subscription has an id that isn't live on its connection
new_other : (meta : Metadata) (s : State) (e : Event) (number : ℕ) (id : List ℕ) (a : Admitted) → Joins meta s e number id a → (x : Subscription) → Among x s.subscriptions → HaveOtherIds x (subscription_of number id a.query a.cursor s)
new_other meta s e number id a j x b live other connection same =
    let is : is_live_id number id x ≡ true =
    and_both (x.live && x.connection == number) (bytes_eq x.id id)
    (and_both x.live (x.connection == number) live (eq-eqb x.connection number connection)) (ap (λ (i : List ℕ). bytes_eq x.id i) (sym same) ∙ nat_list_eq_equiv.refl x.id) in
    true≢false (sym (among_any (is_live_id number id) x s.subscriptions b is) ∙ j.free)

ids_differ : (meta : Metadata) (s : State) (e : Event) → IdsDiffer s.subscriptions → IdsDiffer (happens meta s e).state.subscriptions
ids_differ meta s e h =
    by_event meta s e (λ t. IdsDiffer t.state.subscriptions)
    (record {
      still = λ reply none. h;
      opens = λ number new. h;
      closes = λ number reason. mapped_differ (ended_if (is_of number)) (ended_alike (is_of number)) s.subscriptions h;
      acknowledges = λ number session. h;
      pongs = λ number. h;
      refuses = λ number id fault. h;
      joins = λ number id a j. pairs_push HaveOtherIds s.subscriptions (subscription_of number id a.query a.cursor s) h (λ x b. new_other meta s e number id a j x b);
      completes = λ number id. mapped_differ (ended_if (is_live_id number id)) (ended_alike (is_live_id number id)) s.subscriptions h;
      goes = λ number. mapped_differ (ended_if (is_of number)) (ended_alike (is_of number)) s.subscriptions h;
      commits = λ tx db e. h;
      ticks = h;
      takes = λ first e. h;
      abandons = λ number job at. h;
      drains = λ number rest text. h;
    })
    (λ number job at.
    followed_differ s.subscriptions (publish meta number s (Some job)).state.subscriptions (members_follow meta (database_of meta s job) job.members s) h)

pub live_ids_differ : (meta : Metadata) → LiveIdsDiffer meta
live_ids_differ meta h = every_run meta (λ s. IdsDiffer s.subscriptions) tt (λ s e w k. ids_differ meta s e k) h
