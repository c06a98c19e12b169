-- Runs and their turns, of lists of events that follow one another.
use Rattle.std.proofs.Common.{◌≡◌, ◌∙◌, sym, ap, refl, Some, Option, List, [], ◌∷◌, ◌++◌, append_assoc}
use Rattle.role_model.specs.declared.metadata.Metadata.{Metadata}
use Rattle.machine.specs.State.{State, Connection, Step, Event, opening}
use Rattle.machine.specs.Connections.{on_known}
use Rattle.machine.specs.Run.{happens, after_all, run}
use Rattle.run_laws.specs.Laws.{Turn, turns_at, turns_from, turns}

pub after_all-append : (meta : Metadata) (s : State) (h more : List Event) → after_all meta s (h ++ more) ≡ after_all meta (after_all meta s h) more
after_all-append meta s [] more = refl
after_all-append meta s (e ∷ h) more = after_all-append meta (happens meta s e).state h more

pub turns_from-append : (meta : Metadata) (s : State) (h more : List Event) → turns_from meta s (h ++ more) ≡ turns_from meta s h ++ turns_from meta (after_all meta s h) more
turns_from-append meta s [] more = refl
turns_from-append meta s (e ∷ h) more =
    ap (λ (ts : List Turn). turns_at meta s e ++ ts) (turns_from-append meta (happens meta s e).state h more)
    ∙ sym (append_assoc (turns_at meta s e) (turns_from meta (happens meta s e).state h) (turns_from meta (after_all meta (happens meta s e).state h) more))

pub turns-append : (meta : Metadata) (h more : List Event) → turns meta (h ++ more) ≡ turns meta h ++ turns_from meta (run meta h) more
turns-append meta h more = turns_from-append meta opening h more

-- an event on a connection that is known
pub at_known : (f : Connection → Step) (s : State) (o : Option Connection) (c : Connection) → o ≡ Some c → on_known f s o ≡ f c
at_known f s o c e = ap (on_known f s) e
