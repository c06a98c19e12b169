-- A connection's queue of texts.
use Rattle.std.specs.Prelude.{ℕ, ◌-◌, List}
use Rattle.std.specs.VecDeque.{deque_capacity, deque_len}
use Rattle.outbox.specs.declared.queue.Outbox.TheInside.{Inside}

-- The texts that wait, the first to leave first. Beside them stands the spare: how many more fit without new memory.
pub record Queue : Type 0 where
  pub texts : List (List ℕ)
  pub spare : ℕ

-- the queue that the fields of an outbox are
abbrev pub seen : Inside → Queue
seen a = record { texts = a.texts.items; spare = deque_capacity a.texts - deque_len a.texts }
