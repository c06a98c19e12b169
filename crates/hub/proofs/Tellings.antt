-- Texts that are kept while members are told, and what is told.
use Rattle.std.proofs.Common.{◌≡◌, ◌∙◌, sym, ap, ℕ, zero, suc, ◌-◌, true, if◌then◌else◌, Some, None, Option, List, []}
use Rattle.std.proofs.Common.{◌∷◌, length, map, slice_get, set, replicate, take, get_or, ◌++◌, ◌+◌, ◌<◌, arith}
use Rattle.std.proofs.lemmas.List.{take_more}
use Rattle.std.proofs.lemmas.List.Elements.{filter_map-append}
use Rattle.std.specs.List.{filter_map, cons_option}
use Rattle.std.proofs.lemmas.Option.{same_Some, slice_get-map}
use Rattle.std.specs.Option.{option_map}
use Rattle.plan_model.specs.Outcomes.{Outcome}
use Rattle.cohort_map.specs.declared.member.Member.{Member}
use Rattle.cohort_map.specs.Entries.{Entry, has_live}
use Rattle.subscription_table.specs.declared.held.Held.{Held}
use Rattle.subscription_table.specs.Kept.{held_at}
use Rattle.hub_model.specs.Tellings.{telling_by, telling_with}
use Rattle.hub.specs.Telling.{AreKept, IsKeptOf, told, text_of}

-- what is kept at a place may be its text
pub kept_set : (texts : List (List ℕ)) (kept : List (Option (List ℕ))) (place : ℕ) (text other : List ℕ) →
    other ≡ text → slice_get texts place ≡ Some text → AreKept texts kept → AreKept texts (set kept place (Some other))
kept_set [] [] place text other is at all = tt
kept_set [] (x ∷ kept) place text other is at all = absurd all
kept_set (t ∷ texts) [] place text other is at all = absurd all
kept_set (t ∷ texts) (x ∷ kept) zero text other is at all = (is ∙ sym (same_Some t text at), all.1)
kept_set (t ∷ texts) (x ∷ kept) (suc place) text other is at all =
    (all.0, kept_set texts kept place text other is at all.1)

pub kept_at : (texts : List (List ℕ)) (kept : List (Option (List ℕ))) (place : ℕ) (text : List ℕ) →
    slice_get texts place ≡ Some text → AreKept texts kept → IsKeptOf text (slice_get kept place)
kept_at [] [] place text at all = tt
kept_at [] (x ∷ kept) place text at all = absurd all
kept_at (t ∷ texts) [] place text at all = absurd all
kept_at (t ∷ texts) (None ∷ kept) zero text at all = tt
kept_at (t ∷ texts) (Some x ∷ kept) zero text at all = all.0 ∙ same_Some t text at
kept_at (t ∷ texts) (x ∷ kept) (suc place) text at all = kept_at texts kept place text at all.1

pub none_are_kept : (texts : List (List ℕ)) (n : ℕ) → length texts ≡ n → AreKept texts (replicate n None)
none_are_kept [] zero e = tt
none_are_kept [] (suc n) e = absurd (omega (arith, e))
none_are_kept (t ∷ texts) zero e = absurd (omega (arith, e))
none_are_kept (t ∷ texts) (suc n) e = (tt, none_are_kept texts n (omega (arith, e)))

pub text_at : (outcomes : List Outcome) (place : ℕ) (o : Outcome) → slice_get outcomes place ≡ Some o →
    slice_get (map text_of outcomes) place ≡ Some o.text
text_at outcomes place o at = slice_get-map text_of outcomes place ∙ ap (option_map text_of) at

-- what a live member is told
pub told_is : (entries : List Entry) (held : List Held) (outcomes : List Outcome) (m : Member) (h : Held)
    (o : Outcome) → has_live m.sub entries ≡ true → held_at m.sub held ≡ Some h →
    slice_get outcomes (m.id - 1) ≡ Some o →
    told entries held outcomes m ≡ telling_by h.kind h o
told_is entries held outcomes m h o live at of = λ i. if live i then telling_with (at i) (of i) else None

-- ---- the step of a loop that makes one thing, or none, of each item

pub made_more : {X Y : Type 0} (f : X → Option Y) (xs : List X) (i : ℕ) (x : X) (o : Option Y) (ys : List Y) →
    i < length xs → x ≡ get_or xs i x → o ≡ f x → ys ≡ filter_map f (take i xs) →
    ys ++ cons_option o [] ≡ filter_map f (take (i + 1) xs)
made_more f xs i x o ys within at is before =
    (λ j. before j ++ cons_option (is j) [])
    ∙ sym (filter_map-append f (take i xs) (x ∷ []))
    ∙ ap (λ y. filter_map f (take i xs ++ y ∷ [])) at
    ∙ ap (filter_map f) (sym (take_more xs i x within))
