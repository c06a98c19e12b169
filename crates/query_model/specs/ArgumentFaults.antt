-- The arguments that a field knows, and what is wrong with those that it is given: GraphQL October 2021, section 5.4
-- ("Arguments"), and the arguments of Hasura's schemas. The codes and the names that they give are this project's own.
use Rattle.std.specs.Prelude.{ℕ, ◌||◌, if◌then◌else◌, List, [], map, is_none, unwrap_or, Option, Some, None, option_map, codes}
use Rattle.std.specs.List.{list_any}
use Rattle.std.specs.Str.{bytes_eq}
use Rattle.scalar_val.specs.declared.val.Kind.{Kind}
use Rattle.scalar_val.specs.declared.val.Kind.TheVariants as kind
use Rattle.role_model.specs.declared.metadata.LinkDef.{LinkDef}
use Rattle.role_model.specs.Roles.{View, column_seen}
use Rattle.request_model.specs.declared.document.GValue.{GValue}
use Rattle.request_model.specs.declared.document.GPair.{GPair}
use Rattle.request_model.specs.Strings.{Text}
use Rattle.query_model.specs.declared.fault.FaultKind.TheVariants as fault
use Rattle.query_model.specs.declared.fault.QueryFault.{QueryFault}
use Rattle.query_model.specs.Names.{key_columns, kind_of, pair_name, pair_value, argument, column_name}
use Rattle.query_model.specs.declared.variable.Variable.{Variable}
use Rattle.query_model.specs.Refusals.{refusal, refused, refused_if, first_of, pairs_fault}
use Rattle.query_model.specs.ValueFaults.{single_fault}
use Rattle.query_model.specs.CountFaults.{count_fault, batch_fault}
use Rattle.query_model.specs.ConditionFaults.{where_fault}
use Rattle.query_model.specs.OrderFaults.{orders_fault}
use Rattle.query_model.specs.CursorFaults.{cursor_fault}

-- what judges the value of each argument that is known
abbrev pub Known : Type 0
Known = Text → Option (GValue → Option QueryFault)

module _ (vars : List Variable) where
  module _ (v : View) where
    -- ---- what is known

    abbrev pub no_arguments : Known
    no_arguments name = None

    abbrev pub list_arguments : ℕ → Known
    list_arguments table name =
        if bytes_eq name (codes "where") then Some (where_fault vars v table)
        else if bytes_eq name (codes "order_by") then Some (orders_fault vars v table)
        else if bytes_eq name (codes "limit") || bytes_eq name (codes "offset") then Some (count_fault vars name)
        else None

    abbrev pub stream_arguments : ℕ → Known
    stream_arguments table name =
        if bytes_eq name (codes "where") then Some (where_fault vars v table)
        else if bytes_eq name (codes "batch_size") then Some (batch_fault vars name)
        else if bytes_eq name (codes "cursor") then Some (cursor_fault vars v table)
        else None

    -- the key columns, in the order of the key
    abbrev pub key_names : ℕ → List Text
    key_names table = map (λ column. column_name v table column) (key_columns v table)

    abbrev pub key_kind : ℕ → Text → Kind
    key_kind table name = unwrap_or (option_map (kind_of v table) (column_seen v table name)) kind.Text

    abbrev pub key_arguments : ℕ → Known
    key_arguments table name =
        if list_any (bytes_eq name) (key_names table) then Some (single_fault vars name (key_kind table name)) else None

    -- a relationship to several rows has the arguments of a list, and one to a single row none
    abbrev pub link_arguments : LinkDef → Known
    link_arguments l = if l.many then list_arguments l.table else no_arguments

    -- ---- what is given

    abbrev pub known_fault : GPair → Option (GValue → Option QueryFault) → Option QueryFault
    known_fault p (Some judge) = judge (pair_value p)
    known_fault p None = refused fault.NoArgument (pair_name p)

    abbrev pub judged_by : Known → GPair → Option QueryFault
    judged_by known p = known_fault p (known (pair_name p))

    -- each is known and stands once
    abbrev pub arguments_fault : Known → List GPair → Option QueryFault
    arguments_fault known args = pairs_fault (refusal fault.NoArgument) (judged_by known) [] args

    -- the first that is required and isn't given
    abbrev pub missing_fault : List Text → List GPair → Option QueryFault
    missing_fault required args =
        first_of (map (λ name. refused_if (is_none (argument name args)) fault.NoArgument name) required)
