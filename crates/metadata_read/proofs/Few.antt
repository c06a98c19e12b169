-- A document without a fault has few tables, each of few columns.
use Rattle.std.proofs.Common.{◌≡◌, ℕ, ◌≤◌, ◌<◌, suc, Bool, true, false, Option, Some, None, IfSome, Bor}
use Rattle.std.proofs.Common.{List, [], ◌∷◌, length, nat_lt, if◌then◌else◌, find, cond, refl, subst, sym, ap}
use Rattle.std.proofs.Common.{unwrap_or, arith}
use Rattle.std.specs.List.{list_any}
use Rattle.std.specs.Option.{option_copied}
use Rattle.std.specs.Str.{bytes_eq}
use Rattle.std.proofs.lemmas.Bool.Decides.{nat_tests}
use Rattle.data_model.proofs.Lists.{or_false, none_from_any}
use Rattle.role_model.specs.declared.metadata.Document.{Document}
use Rattle.role_model.specs.declared.metadata.MetaFault.{MetaFault}
use Rattle.role_model.specs.declared.metadata.TableEntry.{TableEntry}
use Rattle.role_model.specs.MetadataFaults.{wrong_version, too_many, fault_of}
use Rattle.role_model.specs.Texts.{Text}
use Rattle.role_model.specs.MetadataMeaning.{session_names}
use Rattle.metadata_bounds.specs.Names.{ShortFilters, most_names}
use Rattle.metadata_bounds.proofs.FewNames.{names_are_few}
use Rattle.metadata_read.specs.Few.{IsNarrow, AreNarrow, AreFew}

-- lists of tables

not_above : (n limit : ℕ) → nat_lt limit n ≡ false → n ≤ limit
not_above n limit h = grind (arith, nat_tests)

one_more : (k n : ℕ) → k < n → suc k < suc n
one_more k n h = omega arith

above_zero : (n : ℕ) → 0 < suc n
above_zero n = omega arith

abbrev is_wide : TableEntry → Bool
is_wide t = nat_lt 64 (length t.columns)

none_wide : (ts : List TableEntry) → list_any is_wide ts ≡ false → AreNarrow ts
none_wide ts h k d within = not_above _ 64 (none_from_any is_wide ts h k d within)

pub few : (d : Document) → too_many d ≡ false → AreFew d.tables
few d h =
    let both = or_false (nat_lt 256 (length d.tables)) (list_any is_wide d.tables) h in
    record { few = not_above (length d.tables) 256 both.0; narrow = none_wide d.tables both.1 }

-- documents without a fault

rest_of : (b : Bool) (x : MetaFault) (o : Option MetaFault) → (if b then Some x else o) ≡ None
    → (b ≡ false) × (o ≡ None)
rest_of true x o h = cc
rest_of false x o h = (refl, h)

pub few_where_faultless : (d : Document) → fault_of d ≡ None → AreFew d.tables
few_where_faultless d h = few d (rest_of (too_many d) _ _ (rest_of (wrong_version d) _ _ h).1).0

-- the table that is found

others : (t : TableEntry) (ts : List TableEntry) → AreNarrow (t ∷ ts) → AreNarrow ts
others t ts h k d within = h (suc k) d (one_more k (length ts) within)

same : {X : Type 0} (x y : X) → Some x ≡ Some y → x ≡ y
same x y e = ap (λ o. unwrap_or o x) e

abbrev IsNarrowIf : Option TableEntry → TableEntry → Type 0
IsNarrowIf o x = o ≡ Some x → IsNarrow x

found_by : (t : TableEntry) (found : Option TableEntry) (x : TableEntry) (b : Bool) → IsNarrow t → IsNarrowIf found x
    → IsNarrowIf (cond b (Some t) found) x
found_by t found x true here rest e = subst IsNarrow (same t x e) here
found_by t found x false here rest e = rest e

found : (p : TableEntry → Bool) (ts : List TableEntry) (x : TableEntry) → AreNarrow ts → IsNarrowIf (find p ts) x
found p [] x h e = cc
found p (t ∷ ts) x h e =
    found_by t (find p ts) x (p t) (h 0 t (above_zero (length ts))) (found p ts x (others t ts h)) e

abbrev Finds : List TableEntry → Text → Option (Bor TableEntry) → Type 0
Finds ts name r = option_copied r ≡ find (λ (t : TableEntry). bytes_eq name t.name) ts

pub found_narrow : (ts : List TableEntry) (name : Text) (r : Option (Bor TableEntry)) → AreNarrow ts → Finds ts name r
    → IfSome r (λ t. IsNarrow t.now)
found_narrow ts name (Some t) h e = found (λ (t : TableEntry). bytes_eq name t.name) ts t.now h (sym e)
found_narrow ts name None h e = tt

-- the session variables of a role

pub names_few : (ts : List TableEntry) (role : Text) → AreFew ts → ShortFilters ts
    → length (session_names ts role) ≤ most_names
names_few ts role few short = names_are_few ts role few.few short
