-- What is wrong with the argument `order_by`: Hasura's six orders. The codes and the names that they give are this
-- project's own.
use Rattle.std.specs.Prelude.{ℕ, if◌then◌else◌, List, map, is_none, Option, None, option_and_then, codes}
use Rattle.role_model.specs.Roles.{View, column_seen}
use Rattle.request_model.specs.declared.document.GValue.{GValue}
use Rattle.request_model.specs.declared.document.GPair.{GPair}
use Rattle.query_model.specs.declared.fault.FaultKind.TheVariants as fault
use Rattle.query_model.specs.declared.fault.QueryFault.{QueryFault}
use Rattle.query_model.specs.Names.{pair_name, pair_value, pairs_in, items_in, enum_in}
use Rattle.query_model.specs.declared.variable.Variable.{Variable}
use Rattle.query_model.specs.Conditions.{order_named}
use Rattle.query_model.specs.Refusals.{refused, refused_if, first_of}
use Rattle.query_model.specs.ValueFaults.{is_object, is_null_literal}

module _ (vars : List Variable) where
  module _ (v : View) where
    -- a visible column, and the name of an order
    abbrev pub order_key_fault : ℕ → GPair → Option QueryFault
    order_key_fault table p =
        if is_none (column_seen v table (pair_name p)) then refused fault.NoArgument (pair_name p)
        else refused_if (is_none (option_and_then order_named (enum_in (pair_value p)))) fault.WrongType (pair_name p)

    abbrev pub order_fault : ℕ → GValue → Option QueryFault
    order_fault table x =
        if is_object x then first_of (map (order_key_fault table) (pairs_in x))
        else refused fault.WrongType (codes "order_by")

    -- an object or a list of objects, in written order
    abbrev pub orders_fault : ℕ → GValue → Option QueryFault
    orders_fault table x = if is_null_literal x then None else first_of (map (order_fault table) (items_in x))
