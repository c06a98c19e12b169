-- What is wrong with the argument `cursor` of a stream: Hasura's streams. The codes and the names that they give are
-- this project's own.
use Rattle.std.specs.Prelude.{ℕ, Bool, true, false, ◌||◌, if◌then◌else◌, List, [], ◌∷◌, is_some, Option, Some, None, codes}
use Rattle.std.specs.Str.{bytes_eq}
use Rattle.data_model.specs.declared.catalog.Column.{Column}
use Rattle.role_model.specs.Roles.{View, column_seen}
use Rattle.request_model.specs.declared.document.GValue.{GValue}
use Rattle.request_model.specs.declared.document.GPair.{GPair}
use Rattle.request_model.specs.Strings.{Text}
use Rattle.query_model.specs.declared.fault.FaultKind.TheVariants as fault
use Rattle.query_model.specs.declared.fault.QueryFault.{QueryFault}
use Rattle.query_model.specs.Names.{column_at, kind_of, pair_name, pair_value, argument, pairs_in, items_in, enum_in}
use Rattle.query_model.specs.declared.variable.Variable.{Variable}
use Rattle.query_model.specs.Refusals.{refusal, refused, or_then, pairs_fault}
use Rattle.query_model.specs.ValueFaults.{is_object, is_null_literal, single_fault}

module _ (vars : List Variable) where
  module _ (v : View) where
    abbrev pub bad_cursor : Option QueryFault
    bad_cursor = refused fault.BadCursor (codes "cursor")

    -- ---- `initial_value`: an object of exactly one pair

    abbrev pub is_nullable : Option Column → Bool
    is_nullable (Some c) = c.nullable
    is_nullable None = true

    -- a visible column that isn't nullable, and a single value
    abbrev pub initial_pair_fault : ℕ → GPair → Option ℕ → Option QueryFault
    initial_pair_fault table p None = bad_cursor
    initial_pair_fault table p (Some column) =
        if is_nullable (column_at v table column) then bad_cursor
        else single_fault vars (pair_name p) (kind_of v table column) (pair_value p)

    abbrev pub one_pair_fault : ℕ → List GPair → Option QueryFault
    one_pair_fault table [] = bad_cursor
    one_pair_fault table (p ∷ []) = initial_pair_fault table p (column_seen v table (pair_name p))
    one_pair_fault table (p ∷ q ∷ ps) = bad_cursor

    -- ---- `ordering`

    abbrev pub is_direction : Option Text → Bool
    is_direction (Some name) = bytes_eq name (codes "ASC") || bytes_eq name (codes "DESC")
    is_direction None = false

    abbrev pub is_ordering : GValue → Bool
    is_ordering x = is_null_literal x || is_direction (enum_in x)

    -- ---- a cursor: an object, or a list of exactly one, with each key once

    abbrev pub cursor_key_fault : ℕ → GPair → Option QueryFault
    cursor_key_fault table p =
        if bytes_eq (pair_name p) (codes "initial_value") then
        (if is_object (pair_value p) then one_pair_fault table (pairs_in (pair_value p)) else bad_cursor)
        else if bytes_eq (pair_name p) (codes "ordering") then
        (if is_ordering (pair_value p) then None else bad_cursor)
        else bad_cursor

    abbrev pub cursor_object_fault : ℕ → List GPair → Option QueryFault
    cursor_object_fault table pairs =
        or_then (pairs_fault (λ other. refusal fault.BadCursor (codes "cursor")) (cursor_key_fault table) [] pairs)
        (if is_some (argument (codes "initial_value") pairs) then None else bad_cursor)

    abbrev pub only_object_fault : ℕ → List GValue → Option QueryFault
    only_object_fault table [] = bad_cursor
    only_object_fault table (x ∷ []) = if is_object x then cursor_object_fault table (pairs_in x) else bad_cursor
    only_object_fault table (x ∷ y ∷ xs) = bad_cursor

    abbrev pub cursor_fault : ℕ → GValue → Option QueryFault
    cursor_fault table x = only_object_fault table (items_in x)
