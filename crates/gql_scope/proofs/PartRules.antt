-- What stands in a selection of each form.
use Rattle.std.proofs.Common.{◌≡◌, ◌∙◌, ap, refl, List, [], ◌∷◌, ◌++◌, map, Option}
use Rattle.std.specs.List.{flat_map}
use Rattle.request_model.specs.declared.document.Directive.{Directive}
use Rattle.request_model.specs.declared.document.GPair.{GPair}
use Rattle.request_model.specs.declared.document.Selection.{Selection}
use Rattle.request_model.specs.declared.document.Selection.TheVariants as s
use Rattle.request_model.specs.Strings.{Text}
use Rattle.std.specs.Prelude.{find, option_and_then}
use Rattle.std.specs.Str.{bytes_eq}
use Rattle.request_model.specs.declared.document.GValue.TheVariants as v
use Rattle.request_model.specs.declared.document.GValue.TheViews.{outs-Var}
use Rattle.request_model.specs.declared.document.VarDef.{VarDef}
use Rattle.request_model.specs.Selection.{Scope, bool_of, variable_bool, spreads, directives_in, concatenated}
use Rattle.request_model.proofs.SelectionRules.{
  spreads-Field,
  spreads-Spread,
  spreads-Inline,
  directives-Field,
  directives-Spread,
  directives-Inline,
}
use Rattle.gql_scope.specs.Parts.{spreads_of, directives_of}

concatenated_map : {X Y : Type 0} (f : X → List Y) (xs : List X) → concatenated (map f xs) ≡ flat_map f xs
concatenated_map f [] = refl
concatenated_map f (x ∷ xs) = ap (λ ys. f x ++ ys) (concatenated_map f xs)

pub spreads_of_field : (alias : Option Text) (name : Text) (args : List GPair) (ds : List Directive)
    (set : List Selection) → spreads_of (s.Field alias name args ds set) ≡ spreads set
spreads_of_field alias name args ds set = spreads-Field alias name args ds set ∙ concatenated_map spreads_of set

pub spreads_of_spread : (name : Text) (ds : List Directive) → spreads_of (s.Spread name ds) ≡ name ∷ []
spreads_of_spread name ds = spreads-Spread name ds

pub spreads_of_inline : (on : Option Text) (ds : List Directive) (set : List Selection) →
    spreads_of (s.Inline on ds set) ≡ spreads set
spreads_of_inline on ds set = spreads-Inline on ds set ∙ concatenated_map spreads_of set

pub directives_of_field : (alias : Option Text) (name : Text) (args : List GPair) (ds : List Directive)
    (set : List Selection) → directives_of (s.Field alias name args ds set) ≡ ds ++ directives_in set
directives_of_field alias name args ds set = directives-Field alias name args ds set
    ∙ ap (λ xs. ds ++ xs) (concatenated_map directives_of set)

pub directives_of_spread : (name : Text) (ds : List Directive) → directives_of (s.Spread name ds) ≡ ds
directives_of_spread name ds = directives-Spread name ds

pub directives_of_inline : (on : Option Text) (ds : List Directive) (set : List Selection) →
    directives_of (s.Inline on ds set) ≡ ds ++ directives_in set
directives_of_inline on ds set = directives-Inline on ds set ∙ ap (λ xs. ds ++ xs) (concatenated_map directives_of set)

pub bool_of_var : (scope : Scope) (name : Text) → bool_of scope (v.Var name)
    ≡ option_and_then (variable_bool scope.values) (find (λ (x : VarDef). bytes_eq name x.name) scope.vars)
bool_of_var scope name = rw (outs-Var name) refl
