-- The first fault of a selection's fields, for a role: GraphQL October 2021, section 5.3 ("Fields"), and Hasura's
-- schemas of roles. The codes, their order and the names that they give are this project's own.
use Rattle.std.specs.Prelude.{ℕ, not, List, [], ◌∷◌, map, Option, codes}
use Rattle.std.specs.Str.{bytes_eq}
use Rattle.role_model.specs.Roles.{View}
use Rattle.request_model.specs.declared.flat.FlatField.{FlatField}
use Rattle.request_model.specs.declared.flat.FlatField.TheOpen.{FlatField-F}
use Rattle.request_model.specs.declared.flat.FlatField.TheViews.{out-FlatField}
use Rattle.request_model.specs.declared.flat.FlatField.TheFolds.{fold-FlatField}
use Rattle.request_model.specs.declared.flat.Flat.{Flat}
use Rattle.request_model.specs.Strings.{Text}
use Rattle.query_model.specs.declared.fault.FaultKind.TheVariants as fault
use Rattle.query_model.specs.declared.fault.QueryFault.{QueryFault}
use Rattle.query_model.specs.Names.{Root, RowsOf, RowOf, StreamOf, NoRoot, Meant, Typename, AColumn, ALink, Unseen, meant, root_type, type_name}
use Rattle.query_model.specs.declared.variable.Variable.{Variable}
use Rattle.query_model.specs.Queries.{root_of}
use Rattle.query_model.specs.Refusals.{refused, refused_if, or_then, first_of}
use Rattle.query_model.specs.ArgumentFaults.{Known, no_arguments, list_arguments, stream_arguments, key_names, key_arguments, link_arguments, arguments_fault, missing_fault}

-- the first fault of a field in an object of a table
abbrev pub FieldJudged : Type 0
FieldJudged = ℕ → Option QueryFault

module _ (vars : List Variable) where
  module _ (v : View) where
    -- each type condition is the object's type
    abbrev pub conditions_fault : Text → List Text → Option QueryFault
    conditions_fault type on = first_of (map (λ name. refused_if (not (bytes_eq name type)) fault.NoField name) on)

    -- a field that gives objects of a table: it has a sub-selection; then come its arguments in written order, those
    -- that are missing, the type conditions of its objects, and their fields
    abbrev pub object_fault : Known → List Text → ℕ → FlatField-F FieldJudged → Option QueryFault
    object_fault known required table f =
        first_of (
        refused_if (not f.nested) fault.WrongType f.name
        ∷ arguments_fault vars v known f.args
        ∷ missing_fault vars v required f.args
        ∷ conditions_fault (type_name v table) f.conditions
        ∷ map (λ (g : FieldJudged). g table) f.fields)

    -- a field that gives a scalar has no sub-selection, and takes no arguments
    abbrev pub scalar_fault : FlatField-F FieldJudged → Option QueryFault
    scalar_fault f =
        or_then (refused_if f.nested fault.WrongType f.name)
        (arguments_fault vars v (no_arguments vars v) f.args)

    -- ---- a field in an object of a table

    abbrev pub meant_fault : FlatField-F FieldJudged → Meant → Option QueryFault
    meant_fault f Typename = scalar_fault f
    meant_fault f (AColumn column) = scalar_fault f
    meant_fault f (ALink l) = object_fault (link_arguments vars v l) [] l.table f
    meant_fault f Unseen = refused fault.NoField f.name

    abbrev pub field_fault_step : FlatField-F FieldJudged → FieldJudged
    field_fault_step f table = meant_fault f (meant v table f.name)

    abbrev pub field_fault : FlatField → FieldJudged
    field_fault = fold-FlatField FieldJudged field_fault_step

    -- ---- the field of the root

    -- with its fields judged
    abbrev pub judging : FlatField-F FlatField → FlatField-F FieldJudged
    judging f = record {
      key = f.key;
      name = f.name;
      args = f.args;
      nested = f.nested;
      conditions = f.conditions;
      fields = map field_fault f.fields;
    }

    abbrev pub stream_needs : List Text
    stream_needs = codes "batch_size" ∷ codes "cursor" ∷ []

    abbrev pub root_fault : Root → FlatField-F FlatField → Option QueryFault
    root_fault (RowsOf table) f = object_fault (list_arguments vars v table) [] table (judging f)
    root_fault (RowOf table) f = object_fault (key_arguments vars v table) (key_names vars v table) table (judging f)
    root_fault (StreamOf table) f = object_fault (stream_arguments vars v table) stream_needs table (judging f)
    root_fault NoRoot f = refused fault.NoField f.name

    -- the walk: the root's own conditions, and then its field
    abbrev pub walk_fault : Flat → FlatField → Option QueryFault
    walk_fault s f =
        or_then (conditions_fault (root_type s.kind) s.conditions)
        (root_fault (root_of v s.kind f) (out-FlatField f))
