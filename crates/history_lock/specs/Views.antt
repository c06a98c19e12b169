-- What a pass knows, and how it changes. This is this project's own.
use Rattle.std.specs.Prelude.{ℕ, List, [], ◌∷◌, ◌++◌, Option, Some, None, true, false}
use Rattle.atomic_table.specs.Table.{Me}
use Rattle.history_lock.specs.declared.known.Entry.{Entry}
use Rattle.history_lock.specs.declared.known.Known.{Known}
use Rattle.history_lock.specs.History.{entry}

-- what a pass knows, and the slots that it has
abbrev pub Sat : Type 0 → Type 0 → Type 0 → Type 0
Sat S E G = Me (Option S) (Known E G)

module _ {E G : Type 0} where
  -- what a pass without a ticket knows
  abbrev pub knows : Option ℕ → Option ℕ → List (Entry E) → G → Known E G
  knows number parent seen basis = record {
    number = number;
    parent = parent;
    seen = seen;
    teller = None;
    told = [];
    told_basis = None;
    basis = basis;
    spent = false;
    ticket = None;
  }

  abbrev pub with_ticket : Known E G → Option ℕ → Known E G
  with_ticket v t = record v { ticket = t }

  abbrev pub with_seen : Known E G → List (Entry E) → Known E G
  with_seen v xs = record v { seen = xs; teller = None; told = []; told_basis = None }

  abbrev pub with_number : Known E G → ℕ → Known E G
  with_number v n = record v { number = Some n; parent = None }

  -- a pass that has given an event, as one more entry with the number `n`
  abbrev pub given : Known E G → ℕ → E → Known E G
  given v n e = with_ticket (with_seen v (v.seen ++ entry n e ∷ [])) None

  -- the second of two passes, which has no number yet
  abbrev pub copy : Known E G → Known E G
  copy v = knows None v.number v.seen v.basis

  -- a pass that is told what another has seen
  abbrev pub informed : Known E G → Known E G → Known E G
  informed v w = record v { teller = w.number; told = w.seen; told_basis = Some w.basis }

  -- what is left of a pass that was joined to another
  abbrev pub spent : G → Known E G
  spent basis = record (knows None None [] basis) { spent = true }
