-- The known connections, and what each call does to the list of them. Phases are those of the `graphql-transport-ws`
-- protocol; queues and promises are this project's own.
use Rattle.std.specs.Prelude.{ℕ, nat_lt, not, ◌==◌, if◌then◌else◌, Bool, Option, Some, None, List, [], ◌∷◌, ◌++◌, map, find, drop, slice_get}
use Rattle.std.specs.List.{filter}
use Rattle.role_model.specs.declared.session.Session.{Session}
use Rattle.wire_model.specs.declared.close.CloseReason.{CloseReason}
use Rattle.machine.specs.declared.phase.Phase.{Phase}
use Rattle.machine.specs.declared.phase.Phase.TheVariants.{Fresh, Acknowledged, Closed}

-- A known connection: its number, how far it has come, the texts that are queued for it, the first to leave first, and
-- the numbers of its live subscriptions, in the order in which they were added.
pub record Connected : Type 0 where
  pub number : ℕ
  pub phase : Phase
  pub queue : List (List ℕ)
  pub live : List ℕ

-- The known connections in ascending order of their numbers. Beside them stand the promised texts, in the order in
-- which they were promised: for each one the number of the connection for which it can be queued without new memory.
pub record Table : Type 0 where
  pub connections : List Connected
  pub promised : List ℕ

abbrev pub is_number : ℕ → Connected → Bool
is_number number c = c.number == number

abbrev pub connected_at : ℕ → List Connected → Option Connected
connected_at number cs = find (is_number number) cs

abbrev pub phase_of : Connected → Phase
phase_of c = c.phase

abbrev pub first_text : Option Connected → Option (List ℕ)
first_text (Some c) = slice_get c.queue 0
first_text None = None

abbrev pub live_of : Option Connected → List ℕ
live_of (Some c) = c.live
live_of None = []

-- ---- the list after a call

abbrev pub at : ℕ → (Connected → Connected) → Connected → Connected
at number f c = if c.number == number then f c else c

-- one connection, if it is known, becomes what f makes of it
abbrev pub changed : ℕ → (Connected → Connected) → List Connected → List Connected
changed number f cs = map (at number f) cs

-- one more connection, at its place in the order of numbers
abbrev pub with_new : Connected → List Connected → List Connected
with_new c [] = c ∷ []
with_new c (d ∷ ds) = if nat_lt c.number d.number then c ∷ d ∷ ds else d ∷ with_new c ds

abbrev pub without : ℕ → List Connected → List Connected
without number cs = filter (λ c. not (c.number == number)) cs

-- ---- one connection after a call

abbrev pub opened : ℕ → Connected
opened number = record { number = number; phase = Fresh; queue = []; live = [] }

abbrev pub same : Connected → Connected
same c = c

abbrev pub acknowledged : Session → Connected → Connected
acknowledged session c = record c { phase = Acknowledged session }

abbrev pub closed : CloseReason → Connected → Connected
closed reason c = record c { phase = Closed reason; live = [] }

abbrev pub with_text : List ℕ → Connected → Connected
with_text text c = record c { queue = c.queue ++ text ∷ [] }

abbrev pub without_first : Connected → Connected
without_first c = record c { queue = drop 1 c.queue }

abbrev pub with_live : ℕ → Connected → Connected
with_live number c = record c { live = c.live ++ number ∷ [] }

abbrev pub without_live : ℕ → Connected → Connected
without_live number c = record c { live = filter (λ n. not (n == number)) c.live }

-- ---- promises

abbrev pub others : ℕ → List ℕ → List ℕ
others number promised = filter (λ n. not (n == number)) promised
