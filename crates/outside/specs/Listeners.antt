-- What one call of a listener may do, by its answer. The rules are this project's own.
use Rattle.std.specs.Prelude.{◌≡◌, ℕ, Bool, true, false, Option, Some, None, List, [], ◌∷◌}
use Rattle.outside.specs.declared.listener.Accepted.{Accepted}
use Rattle.outside.specs.declared.listener.Accepted.TheVariants as accepted

-- the connections that were to come and those that are to come then, where the listener tells them
abbrev pub Accepts : {C : Type 0} → Option (List C) → Option (List C) → Accepted C → Type 0
Accepts None after r = Unit {0}
Accepts (Some conns) after accepted.Failed = after ≡ Some conns
Accepts (Some conns) after accepted.End = (conns ≡ []) × (after ≡ Some conns)
Accepts (Some []) after (accepted.Conn c) = ⊥
Accepts (Some (d ∷ conns)) after (accepted.Conn c) = (c ≡ d) × (after ≡ Some conns)

-- the last port, where the listener tells it, by the answer to listening on one
abbrev pub Listens : Option (Option ℕ) → Option (Option ℕ) → Bool → ℕ → Type 0
Listens None after r port = Unit {0}
Listens (Some before) after true port = after ≡ Some (Some port)
Listens (Some before) after false port = after ≡ Some before
