-- What a pass is, by whether it holds the turn.
use Rattle.std.proofs.Common.{◌≡◌, ℕ, List, [], ◌∷◌, length, Some, None, true, false, refl, sym, ap, subst, true≢false}
use Rattle.std.specs.Prelude.{Option, is_some}
use Rattle.atomic_table.specs.Table.{Me}
use Rattle.history_lock.specs.declared.known.Entry.{Entry}
use Rattle.history_lock.specs.declared.known.Known.{Known}
use Rattle.history_lock.specs.Views.{given}
use Rattle.history_lock.specs.PassViews.{Slots, Whole}

pub idle : {S E : Type 0} (t : Option ℕ) (xs : List (Entry E)) (cs : List (ℕ × Option S)) → Slots t xs cs → is_some t ≡ false → (t ≡ None) × (cs ≡ [])
idle None xs cs h e = (refl, h)
idle (Some t) xs cs h e = absurd (true≢false e)

pub busy : {S E : Type 0} (t : Option ℕ) (xs : List (Entry E)) (cs : List (ℕ × Option S)) → Slots t xs cs → is_some t ≡ true → (t ≡ Some (length xs)) × (cs ≡ (0, None) ∷ [])
busy None xs cs h e = absurd (true≢false (sym e))
busy (Some t) xs cs h e = (ap Some h.0, h.1)

module _ {S E G : Type 0} where
  pub whole_after : (v : Known E G) (cs : List (ℕ × Option S)) (n : ℕ) (e : E) (me : Me (Option S) (Known E G))
      → Whole (v, cs) → me ≡ (given v n e, []) → Whole me
  whole_after v cs n e me h is = subst Whole (sym is)
      record { number_is = h.number_is; living = h.living; slots = refl }
