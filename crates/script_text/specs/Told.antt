-- What is appended for one event. This project's own.
use Rattle.std.specs.Prelude.{◌≡◌, ℕ, Option, Some, None, List, [], ◌∷◌, ◌++◌}
use Rattle.wire_model.specs.declared.close.CloseReason.{CloseReason}
use Rattle.machine.specs.State.{Event, Reply, Close, Step}
use Rattle.machine.specs.Transcript.{transcript}
use Rattle.machine.specs.declared.queued.Queued.{Queued}

-- the close that an event brings to its own connection, where it brings one
abbrev pub closes_of : ℕ → Option CloseReason → List Close
closes_of c (Some r) = record { connection = c; reason = r } ∷ []
closes_of c None = []

-- the transcript of an event whose step has this reply, these queued texts and these closes
abbrev pub Tells : Event → Reply → List Queued → List Close → List ℕ → List ℕ → Type 0
Tells e reply queued closed before now = (s : Step) → s.reply ≡ reply → s.queued ≡ queued → s.closed ≡ closed →
    now ≡ before ++ transcript e s
