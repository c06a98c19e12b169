-- How many slots the plan of an admitted request has. This project's own.
use Rattle.std.specs.Prelude.{◌≡◌, ℕ, ◌≤◌, List, length, Option, None, Ok}
use Rattle.serde_json.specs.Data.{Members}
use Rattle.role_model.specs.MetadataMeaning.{IsMetadata}
use Rattle.role_model.specs.Roles.{View}
use Rattle.request_model.specs.declared.document.Document.{Document}
use Rattle.request_model.specs.declared.flat.FlatField.{FlatField}
use Rattle.request_model.specs.declared.flat.Flat.{Flat}
use Rattle.request_model.specs.Strings.{Text}
use Rattle.request_model.specs.Place.{Reads, length_limit}
use Rattle.request_model.specs.Selection.{Flattens}
use Rattle.query_model.specs.declared.variable.Variable.{Variable}
use Rattle.query_model.specs.Queries.{selection_slots, text_variables}
use Rattle.query_model.specs.Walk.{walk_fault}
use Rattle.query_model.specs.Admission.{variables_of, one_root}

-- no more variables stand in the canonical text of what the walk lets pass than a request's text may have bytes
abbrev pub VariablesAreFew : Type 0
VariablesAreFew = (v : View) (text : Text) (operation : Option Text) (given values : Members) (d : Document) (s : Flat)
    (f : FlatField) (vars : List Variable) →
    Reads text d → Flattens d operation given (Ok s) → variables_of values s.vars ≡ Ok vars →
    one_root s.fields ≡ Ok f → walk_fault vars v s f ≡ None → length (text_variables s) ≤ length_limit

-- the slots of session variables are few enough to be numbered with 32 bits
abbrev pub most_slots : ℕ
most_slots = 4294967296

abbrev pub SlotsAreFew : Type 0
SlotsAreFew = (v : View) (s : Flat) → IsMetadata v.metadata → length (selection_slots v s) ≤ most_slots
