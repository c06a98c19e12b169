-- Names that end in a suffix.
use denote.Ref.{Bor}
use Rattle.std.proofs.Common.{◌≡◌, ◌≢◌, ◌∙◌, sym, ap, refl, ℕ, suc, Bool, true, false, List, [], ◌∷◌, ◌++◌, Option, Some, None, MatchOption, option_map, position}
use std.Path.{fun_ext}
use Rattle.std.specs.Prelude.{option_and_then}
use Rattle.std.specs.Str.{bytes_eq}
use Rattle.std.specs.Str.Pattern.{FindsTextSuffix, StripsSuffix}
use Rattle.std.proofs.lemmas.List.{append_cancel_right}
use Rattle.std.proofs.lemmas.Slice.Eq.{bytes_eq-Decides}
use Rattle.data_model.specs.declared.catalog.TableDef.{TableDef}
use Rattle.role_model.specs.Roles.{View, only_if, sees_table, table_seen}
use Rattle.query_model.specs.Names.{table_called}
use Rattle.query_model.proofs.Positions.{position_past}

-- `strip_suffix` at a text, in the words of lists
pub stripped : (end text : List ℕ) (r : Option (Bor (List ℕ))) → MatchOption r (FindsTextSuffix end text None) (λ x. StripsSuffix (FindsTextSuffix end) text x.now) →
    MatchOption r ((front : List ℕ) → text ≢ front ++ end) (λ x. text ≡ x.now ++ end)
stripped end text None h = h
stripped end text (Some x) h =
    let found = h.1 in
    found.1 ∙ ap (λ f. f ++ end) (sym h.2)

same_answer : (b c : Bool) → (b ≡ true → c ≡ true) → (c ≡ true → b ≡ true) → b ≡ c
same_answer true c f g = sym (f refl)
same_answer false true f g = g refl
same_answer false false f g = refl

same_end : (a b end : List ℕ) → bytes_eq (a ++ end) (b ++ end) ≡ bytes_eq a b
same_end a b end =
    same_answer (bytes_eq (a ++ end) (b ++ end)) (bytes_eq a b)
    (λ h. (bytes_eq-Decides a b).1 (append_cancel_right a b end ((bytes_eq-Decides (a ++ end) (b ++ end)).0 h)))
    (λ h. (bytes_eq-Decides (a ++ end) (b ++ end)).1 (ap (λ f. f ++ end) ((bytes_eq-Decides a b).0 h)))

no_end : (name b end : List ℕ) → ((front : List ℕ) → name ≢ front ++ end) → bytes_eq name (b ++ end) ≡ false
no_end name b end none = same_answer (bytes_eq name (b ++ end)) false (λ h. absurd (none b ((bytes_eq-Decides name (b ++ end)).0 h))) (λ h. cc)

same_place : (front end : List ℕ) (ts : List TableDef) →
    position (λ (t : TableDef). bytes_eq front t.name) ts ≡ position (λ (t : TableDef). bytes_eq (front ++ end) (t.name ++ end)) ts
same_place front end ts = ap (λ p. position p ts) (fun_ext (λ (t : TableDef). sym (same_end front t.name end)))

nowhere : {X : Type 0} (xs : List X) → position (λ (x : X). false) xs ≡ None
nowhere [] = refl
nowhere (x ∷ xs) = position_past (λ x. false) x xs refl ∙ ap (option_map suc) (nowhere xs)

no_place : (name end : List ℕ) → ((front : List ℕ) → name ≢ front ++ end) → (ts : List TableDef) →
    position (λ (t : TableDef). bytes_eq name (t.name ++ end)) ts ≡ None
no_place name end none ts = ap (λ p. position p ts) (fun_ext (λ (t : TableDef). no_end name t.name end none)) ∙ nowhere ts

pub called_so : (v : View) (end name front : List ℕ) → name ≡ front ++ end → table_seen v front ≡ table_called v end name
called_so v end name front e =
    ap (option_and_then (λ table. only_if (sees_table v table) (Some table)))
    (same_place front end v.metadata.catalog.tables
    ∙ ap (λ n. position (λ (t : TableDef). bytes_eq n (t.name ++ end)) v.metadata.catalog.tables) (sym e))

pub called_nothing : (v : View) (end name : List ℕ) → ((front : List ℕ) → name ≢ front ++ end) → table_called v end name ≡ None
called_nothing v end name none =
    ap (option_and_then (λ table. only_if (sees_table v table) (Some table))) (no_place name end none v.metadata.catalog.tables)
