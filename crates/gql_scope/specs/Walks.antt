-- The fragments of a document as numbers, and what is looked for in those that are reached.
use Rattle.std.specs.Prelude.{
  ◌↔◌,
  IsTrue,
  ℕ,
  List,
  [],
  ◌∷◌,
  Bool,
  false,
  not,
  ◌&&◌,
  ◌||◌,
  nat_lt,
  length,
  map,
  filter,
  is_none,
}
use Rattle.std.specs.List.{list_any, position_or_len}
use Rattle.std.specs.Str.{bytes_eq}
use Rattle.request_model.specs.declared.document.Directive.{Directive}
use Rattle.request_model.specs.declared.document.Selection.{Selection}
use Rattle.request_model.specs.Strings.{Text}
use Rattle.request_model.specs.Selection.{
  Fragment,
  Scope,
  fragment_named,
  spreads,
  directives_in,
  has_some,
  is_served,
  condition,
}
use Rattle.gql_scope.specs.Graph.{is_marked, Reaches}
use Rattle.gql_scope.specs.declared.walks.Check.{Check}
use Rattle.gql_scope.specs.declared.walks.Check.TheVariants as check

-- the place of the first fragment of a name, or the number of fragments
abbrev pub place_of : List Fragment → Text → ℕ
place_of fs name = position_or_len (λ (f : Fragment). bytes_eq name f.name) fs

-- the places of the fragments that are spread
abbrev pub targets_of : List Fragment → List Selection → List ℕ
targets_of fs set = filter (λ k. nat_lt k (length fs)) (map (place_of fs) (spreads set))

abbrev pub edges_of : List Fragment → List (List ℕ)
edges_of fs = map (λ (f : Fragment). targets_of fs f.select) fs

-- whether the check refuses a definition with these directives and selections
abbrev pub fails : Check → Scope → List Directive → List Selection → Bool
fails check.Fragments s ds set = list_any (λ name. is_none (fragment_named s.fragments name)) (spreads set)
fails check.Served s ds set = has_some ds || list_any (λ x. not (is_served x)) (directives_in set)
fails check.Booleans s ds set = list_any (λ x. is_served x && is_none (condition s x)) (directives_in set)

abbrev pub some_marked_fails : (Fragment → Bool) → List Bool → List Fragment → Bool
some_marked_fails test [] fs = false
some_marked_fails test (m ∷ ms) [] = false
some_marked_fails test (m ∷ ms) (f ∷ fs) = m && test f || some_marked_fails test ms fs

-- the marks are those of the fragments that the selections reach
abbrev pub AreReached : List Fragment → List Selection → List Bool → Type 0
AreReached fs set marks = (k : ℕ) → IsTrue (is_marked marks k) ↔ Reaches (edges_of fs) (targets_of fs set) k
