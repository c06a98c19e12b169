-- Worked rows of the limits of a selection, and of the order of its faults.
use Rattle.std.proofs.Common.{◌≡◌, ◌+◌, inl, inr, ℕ, zero, suc, Bool, true, false, List, [], ◌∷◌, map, Option, Some, None, Err, refl, ap, ap₂, subst, arith, append-nil}
use Rattle.std.specs.Prelude.{codes, ◌||◌, if◌then◌else◌, nat_lt, IsTrue}
use Rattle.std.specs.Str.{bytes_eq}
use Rattle.serde_json.specs.Data.{no_members}
use Rattle.request_model.specs.declared.document.Directive.{Directive}
use Rattle.request_model.specs.declared.document.Selection.{Selection}
use Rattle.request_model.specs.declared.document.Selection.TheVariants as s
use Rattle.request_model.specs.declared.document.OpWord.TheVariants as op
use Rattle.request_model.specs.declared.document.Definition.{Definition}
use Rattle.request_model.specs.declared.document.Definition.TheVariants as d
use Rattle.request_model.specs.declared.document.Document.{Document}
use Rattle.request_model.specs.declared.flat.FlatField.{FlatField}
use Rattle.request_model.specs.declared.flat.FlatFault.{FlatFault}
use Rattle.request_model.specs.declared.flat.FlatFault.TheVariants as fault
use Rattle.request_model.specs.Strings.{Text}
use Rattle.request_model.specs.Selection.{Operation, Fragment, Scope, IsReached, spread_there, spread_further, fragment_named, has_unknown, HasFault, Flattens, refused, fields_down, fields_seen, most_levels, levels, size, most_fields, is_large}
use Rattle.request_model.proofs.SelectionRules.{selections, canonical_texts}

abbrev leaf : Text → Selection
leaf name = s.Field None name [] [] []

abbrev node : Text → List Selection → Selection
node name set = s.Field None name [] [] set

abbrev aliased : Text → Text → Selection
aliased key name = s.Field (Some key) name [] [] []

abbrev query : List Selection → Operation
query set = record { word = op.Query; name = None; vars = []; directives = []; select = set }

abbrev document : Operation → List Definition → Document
document o others = record { definitions = d.Operation o.word o.name o.vars o.directives o.select ∷ others }

-- ---- the order of faults

-- { a @defer ...F }: the fragment is missing, and the directive isn't served
abbrev spread_F : Selection
spread_F = s.Spread (codes "F") []

abbrev deferred : Selection
deferred = s.Field None (codes "a") [] (record { name = codes "defer"; args = [] } ∷ []) []

abbrev defers : Operation
defers = query (deferred ∷ spread_F ∷ [])

fragment_before_directive : Flattens (document defers []) None no_members (Err fault.UnknownFragment)
fragment_before_directive = refused refl (inr ((λ e. cc), inl (inl (simp selections), refl)))

-- the same with fragment F on q { ...F }, which reaches itself
abbrev own_spread : Fragment
own_spread = record { name = codes "F"; on = codes "q"; directives = []; select = spread_F ∷ [] }

abbrev own_document : Document
own_document = document defers (d.Fragment (codes "F") (codes "q") [] (spread_F ∷ []) ∷ [])

its_only_fragment : (name : Text) (f : Fragment) → fragment_named (own_spread ∷ []) name ≡ Some f → f ≡ own_spread
its_only_fragment name f e =
    elim (bytes_eq name (codes "F")) as (λ b. (if b then Some own_spread else None) ≡ Some f → f ≡ own_spread) [
      | true ↦ (λ h. cc)
      | false ↦ (λ h. cc)
    ] e

reached_is_it : (set : List Selection) (f : Fragment) → IsReached (own_spread ∷ []) set f → f ≡ own_spread
reached_is_it set f (spread_there name h e) = its_only_fragment name f e
reached_is_it set f (spread_further name r h e) = its_only_fragment name f e

abbrev is_unknown_in : Fragment → Bool
is_unknown_in f = has_unknown own_document no_members defers f.directives f.select

no_unknown : HasFault own_document no_members defers fault.UnknownFragment → ⊥
no_unknown (inl e) = let h : false ≡ true = simp selections at e in cc
no_unknown (inr (f, r, e)) =
    let its : is_unknown_in own_spread ≡ true = subst (λ g. IsTrue (is_unknown_in g)) (reached_is_it _ f r) e in
    let h : false ≡ true = simp selections at its in cc

cycle : HasFault own_document no_members defers fault.FragmentCycle
cycle = (own_spread, spread_there (codes "F") (simp selections) refl, spread_there (codes "F") (simp selections) refl)

cycle_before_directive : Flattens own_document None no_members (Err fault.FragmentCycle)
cycle_before_directive = refused refl (inr ((λ e. cc), inr (no_unknown, inl (cycle, refl))))

-- a chain of 13 levels beside two fields of one key that differ: { k: b k: c a { .. } }
abbrev chain : ℕ → List Selection
chain ℕ.zero = []
chain (ℕ.suc n) = node (codes "a") (chain n) ∷ []

abbrev large : Operation
large = query (aliased (codes "k") (codes "b") ∷ aliased (codes "k") (codes "c") ∷ chain 13)

none_reached : (set : List Selection) (f : Fragment) → IsReached [] set f → ⊥
none_reached set f (spread_there name h e) = cc
none_reached set f (spread_further name r h e) = cc

is_large_too : HasFault (document large []) no_members large fault.TooLarge
is_large_too = simp (selections, canonical_texts)

-- it has no spread and no directive
abbrev IsWithout : FlatFault → Type 0
IsWithout x = HasFault (document large []) no_members large x → ⊥

spreads_none : IsWithout fault.UnknownFragment
spreads_none (inl e) = let h : false ≡ true = simp selections at e in cc
spreads_none (inr e) = none_reached _ _ e.1

has_no_cycle : IsWithout fault.FragmentCycle
has_no_cycle e = none_reached _ _ e.1

is_not_stray : IsWithout fault.NoDirective
is_not_stray (inl e) = cc
is_not_stray (inr (inl e)) = let h : false ≡ true = simp selections at e in cc
is_not_stray (inr (inr e)) = none_reached _ _ e.1

has_booleans : IsWithout fault.NotBoolean
has_booleans (inl e) = let h : false ≡ true = simp selections at e in cc
has_booleans (inr e) = none_reached _ _ e.1

size_before_conflict : Flattens (document large []) None no_members (Err fault.TooLarge)
size_before_conflict = refused refl
    (inr (
      (λ e. cc),
      inr (
        spreads_none,
        inr (
          has_no_cycle,
          inr (is_not_stray, inr (has_booleans, inl (is_large_too, refl))),
        ),
      ),
    ))

-- ---- 4,096 fields

-- a tree of two fields a level
tree : ℕ → List Selection
tree zero = []
tree (suc n) = node (codes "a") (tree n) ∷ node (codes "b") (tree n) ∷ []

-- its number of fields
abbrev counted : ℕ → ℕ
counted zero = 0
counted (suc n) = 2 + (counted n + counted n)

-- as many levels, and so many more
abbrev deep : ℕ → ℕ → ℕ
deep zero more = more
deep (suc n) more = suc (deep n more)

module _ (scope : Scope) where
  none_down : (m : ℕ) → fields_down scope m [] ≡ []
  none_down zero = refl
  none_down (suc m) = refl

  tree_size : (n more : ℕ) → size (fields_down scope (deep n more) (tree n)) ≡ counted n
  unfolding tree
  tree_size zero more = ap size (none_down more)
  tree_size (suc n) more = simp (selections, canonical_texts, append-nil, tree_size n more) (omega arith)

  tree_levels : (n more : ℕ) → levels (fields_down scope (deep n more) (tree n)) ≡ n
  unfolding tree
  tree_levels zero more = ap levels (none_down more)
  tree_levels (suc n) more = simp (selections, canonical_texts, append-nil, tree_levels n more) (omega arith)

  -- two trees and two leaves, or three
  abbrev wide : List Selection → List Selection
  wide more = node (codes "a") (tree 10) ∷ node (codes "b") (tree 10) ∷ leaf (codes "c") ∷ leaf (codes "d") ∷ more

  wide_size : size (fields_down scope 13 (wide [])) ≡ 4096
  wide_size = simp (selections, canonical_texts, append-nil, tree_size 10 2)

  wide_levels : levels (fields_down scope 13 (wide [])) ≡ 11
  wide_levels = simp (selections, canonical_texts, append-nil, tree_levels 10 2)

  wider_size : size (fields_down scope 13 (wide (leaf (codes "e") ∷ []))) ≡ 4097
  wider_size = simp (selections, canonical_texts, append-nil, tree_size 10 2)

  wider_levels : levels (fields_down scope 13 (wide (leaf (codes "e") ∷ []))) ≡ 11
  wider_levels = simp (selections, canonical_texts, append-nil, tree_levels 10 2)

  most : is_large (fields_seen scope (wide [])) ≡ false
  most = ap₂ (λ l n. nat_lt most_levels l || nat_lt most_fields n) wide_levels wide_size

  one_more : is_large (fields_seen scope (wide (leaf (codes "e") ∷ []))) ≡ true
  one_more = ap₂ (λ l n. nat_lt most_levels l || nat_lt most_fields n) wider_levels wider_size
