-- What a scope keeps of its variables.
use Rattle.std.specs.Prelude.{◌≡◌, Bool, List, Option, map}
use Rattle.serde_json.specs.Data.{Members}
use Rattle.request_model.specs.Selection.{variable_bool}
use Rattle.request_model.specs.Strings.{Text}
use Rattle.request_model.specs.declared.document.VarDef.{VarDef}

-- these are the names of the variables, and their booleans
pub record AreVariables (values : Members) (vars : List VarDef) (names : List Text) (booleans : List (Option Bool))
    : Type 0 where
  pub names_are : names ≡ map (λ (v : VarDef). v.name) vars
  pub booleans_are : booleans ≡ map (variable_bool values) vars
