-- The places of names.
use Rattle.std.proofs.Common.{◌≡◌, ◌∙◌, ap, refl, arith, ℕ, zero, suc, ◌+◌, Bool, true, false, if◌then◌else◌, List, [], ◌∷◌, map, Option, Some, None, String, Global, string_bytes, option_map}
use Rattle.std.specs.Prelude.{option_and_then}
use Rattle.std.specs.List.{slice_get}
use Rattle.std.specs.String.{string_cmp}
use Rattle.std.specs.Str.{bytes_eq}
use Rattle.std.specs.BTreeMap.{BTreeMap, Updates, get_by_text}
use Rattle.std.proofs.lemmas.Map.Text.{btree_map_updates_text}
use Rattle.name_set.specs.Names.{first_at}
use Rattle.name_set.specs.Places.{Finds}
use Rattle.name_set.proofs.NameRules.{turned}
use Rattle.request_model.specs.Strings.{Text}
use Rattle.query_model.specs.declared.variable.Variable.{Variable}
use Rattle.query_model.specs.Variables.{variable_named}
use Rattle.variable_values.specs.Places.{Notes, FindsFrom}

-- ---- a place is noted

pub noted : (before after : BTreeMap (String Global) ℕ) (key : String Global) (name : Text) (place : ℕ) →
    string_bytes key ≡ name → Updates string_cmp before after key (Some place) → Notes before after name place
noted before after key name place e updates t =
    btree_map_updates_text (string_bytes key) before after (Some place) updates t
    ∙ ap (λ x. if bytes_eq x t then Some place else get_by_text before t) e
    ∙ ap (λ (b : Bool). if b then Some place else get_by_text before t) (turned name t)

-- ---- the places from one place on, and then from the place before

further_or : (b : Bool) (start : ℕ) (o : Option ℕ) →
    (if b then Some start else option_map (λ k. suc start + k) o)
    ≡ option_map (λ k. start + k) (if b then Some zero else option_map suc o)
further_or true start o = ap Some (omega arith)
further_or false start (Some k) = ap Some (omega arith)
further_or false start None = refl

pub one_before : (start : ℕ) (before after : BTreeMap (String Global) ℕ) (name : Text) (names : List Text) →
    FindsFrom (suc start) before names → Notes before after name start → FindsFrom start after (name ∷ names)
one_before start before after name names finds notes t =
    notes t ∙ ap (λ o. if bytes_eq t name then Some start else o) (finds t)
    ∙ further_or (bytes_eq t name) start (first_at names t)

from_zero_or : (o : Option ℕ) → option_map (λ k. 0 + k) o ≡ o
from_zero_or (Some k) = ap Some (omega arith)
from_zero_or None = refl

pub from_zero : (places : BTreeMap (String Global) ℕ) (names : List Text) → FindsFrom 0 places names → Finds places names
from_zero places names finds t = finds t ∙ from_zero_or (first_at names t)

-- ---- a variable is looked up

variable_or : (b : Bool) (x : Variable) (xs : List Variable) (o : Option ℕ) (found : Option Variable) →
    option_and_then (slice_get xs) o ≡ found →
    option_and_then (slice_get (x ∷ xs)) (if b then Some zero else option_map suc o) ≡ (if b then Some x else found)
variable_or true x xs o found h = refl
variable_or false x xs (Some k) found h = h
variable_or false x xs None found h = h

pub found_at : (xs : List Variable) (t : Text) →
    option_and_then (slice_get xs) (first_at (map (λ (x : Variable). x.name) xs) t) ≡ variable_named xs t
found_at [] t = refl
found_at (x ∷ xs) t =
    variable_or (bytes_eq t x.name) x xs (first_at (map (λ (y : Variable). y.name) xs) t) (variable_named xs t)
    (found_at xs t)
