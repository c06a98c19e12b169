-- Runs and takes of longer histories, and what holds of every run.
use Rattle.std.proofs.Common.{◌≡◌, ◌∙◌, sym, ap, refl, subst, ℕ, zero, suc, Some, List, [], ◌∷◌, ◌++◌, length, append-nil, append_assoc}
use Rattle.std.specs.Prelude.{slice_get}
use Rattle.role_model.specs.declared.metadata.Metadata.{Metadata}
use Rattle.machine.specs.State.{State, Event, opening}
use Rattle.machine.specs.Run.{happens, after_all, run}
use Rattle.run_laws.specs.Takings.{Taking, taking_of, takings_from, takings, TakingsStay}
use Rattle.run_laws.proofs.Apart.{Sound}
use Rattle.run_laws.proofs.SoundRuns.{event_sound, opening_sound}

-- One more event

pub after_all-push : (meta : Metadata) (s : State) (h : List Event) (e : Event) → after_all meta s (h ++ e ∷ []) ≡ (happens meta (after_all meta s h) e).state
after_all-push meta s [] e = refl
after_all-push meta s (d ∷ h) e = after_all-push meta (happens meta s d).state h e

pub run-push : (meta : Metadata) (h : List Event) (e : Event) → run meta (h ++ e ∷ []) ≡ (happens meta (run meta h) e).state
run-push meta h e = after_all-push meta opening h e

pub takings_from-append : (meta : Metadata) (s : State) (h more : List Event) → takings_from meta s (h ++ more) ≡ takings_from meta s h ++ takings_from meta (after_all meta s h) more
takings_from-append meta s [] more = refl
takings_from-append meta s (d ∷ h) more =
    ap (λ (ts : List Taking). taking_of s (happens meta s d).reply ++ ts) (takings_from-append meta (happens meta s d).state h more)
    ∙ sym (append_assoc (taking_of s (happens meta s d).reply) (takings_from meta (happens meta s d).state h) (takings_from meta (after_all meta (happens meta s d).state h) more))

pub takings-append : (meta : Metadata) (h more : List Event) → takings meta (h ++ more) ≡ takings meta h ++ takings_from meta (run meta h) more
takings-append meta h more = takings_from-append meta opening h more

pub takings-push : (meta : Metadata) (h : List Event) (e : Event) → takings meta (h ++ e ∷ []) ≡ takings meta h ++ taking_of (run meta h) (happens meta (run meta h) e).reply
takings-push meta h e = takings-append meta h (e ∷ []) ∙ ap (λ (ts : List Taking). takings meta h ++ ts) (append-nil _)

-- the items of a list, by their place

pub slice_get-append : {X : Type 0} (xs ys : List X) (i : ℕ) (x : X) → slice_get xs i ≡ Some x → slice_get (xs ++ ys) i ≡ Some x
slice_get-append [] ys i x h = cc
slice_get-append (y ∷ xs) ys zero x h = h
slice_get-append (y ∷ xs) ys (suc i) x h = slice_get-append xs ys i x h

pub slice_get-push : {X : Type 0} (xs : List X) (x : X) → slice_get (xs ++ x ∷ []) (length xs) ≡ Some x
slice_get-push [] x = refl
slice_get-push (y ∷ xs) x = slice_get-push xs x

pub takings_stay : (meta : Metadata) → TakingsStay meta
takings_stay meta h more i t e = ap (λ (ts : List Taking). slice_get ts i) (takings-append meta h more) ∙ slice_get-append (takings meta h) _ i t e

-- What holds of every run, since it holds at first and each event keeps it

holds_from : (meta : Metadata) (P : List Taking → State → Type 0) →
    ((ts : List Taking) (s : State) (e : Event) → Sound s → P ts s → P (ts ++ taking_of s (happens meta s e).reply) (happens meta s e).state) →
    (h : List Event) (ts : List Taking) (s : State) → Sound s → P ts s → P (ts ++ takings_from meta s h) (after_all meta s h)
holds_from meta P keeps [] ts s w p = subst (λ (us : List Taking). P us s) (sym (append-nil ts)) p
holds_from meta P keeps (e ∷ h) ts s w p =
    let after = (happens meta s e).state in
    let own = taking_of s (happens meta s e).reply in
    subst (λ (us : List Taking). P us (after_all meta after h)) (append_assoc ts own (takings_from meta after h))
    (holds_from meta P keeps h (ts ++ own) after (event_sound meta s e w) (keeps ts s e w p))

pub run_holds : (meta : Metadata) (P : List Taking → State → Type 0) → P [] opening →
    ((ts : List Taking) (s : State) (e : Event) → Sound s → P ts s → P (ts ++ taking_of s (happens meta s e).reply) (happens meta s e).state) →
    (h : List Event) → P (takings meta h) (run meta h)
run_holds meta P first keeps h = holds_from meta P keeps h [] opening opening_sound first

pub every_run : (meta : Metadata) (P : State → Type 0) → P opening → ((s : State) (e : Event) → Sound s → P s → P (happens meta s e).state) → (h : List Event) → P (run meta h)
every_run meta P first keeps h = run_holds meta (λ ts s. P s) first (λ ts s e w p. keeps s e w p) h
