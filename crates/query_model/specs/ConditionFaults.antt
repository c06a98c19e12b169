-- What is wrong with a condition: Hasura's boolean expressions. The codes and the names that they give are this
-- project's own.
use Rattle.std.specs.Prelude.{ℕ, Bool, ◌||◌, if◌then◌else◌, List, [], map, is_some, Option, Some, None, codes}
use Rattle.std.specs.Str.{bytes_eq}
use Rattle.scalar_val.specs.declared.val.Kind.{Kind}
use Rattle.scalar_val.specs.declared.val.Kind.TheVariants as kind
use Rattle.role_model.specs.JsonFilters.{op_named}
use Rattle.role_model.specs.Roles.{View, column_seen}
use Rattle.request_model.specs.declared.document.GValue.{GValue}
use Rattle.request_model.specs.declared.document.GValue.TheOpen.{GValue-F, GPair-F}
use Rattle.request_model.specs.declared.document.GValue.TheFolds.{para-GValue, para-GPair}
use Rattle.request_model.specs.declared.document.GPair.{GPair}
use Rattle.request_model.specs.Strings.{Text}
use Rattle.query_model.specs.declared.fault.FaultKind.TheVariants as fault
use Rattle.query_model.specs.declared.fault.QueryFault.{QueryFault}
use Rattle.query_model.specs.Names.{kind_of, pair_name, pair_value, pairs_in}
use Rattle.query_model.specs.declared.variable.Variable.{Variable}
use Rattle.query_model.specs.Refusals.{refusal, refused, first_of, pairs_fault, distinct_fault}
use Rattle.query_model.specs.ValueFaults.{is_object, is_null_literal, single_fault, list_fault}

-- A value as one condition on a table, and as a list of conditions or one: its first fault, by the name that takes the
-- blame for its form.
pub record Judged : Type 0 where
  pub one : Text → ℕ → Option QueryFault
  pub many : Text → ℕ → Option QueryFault

-- the first fault of one key of an object of conditions on a table, with its value
abbrev pub KeyJudged : Type 0
KeyJudged = ℕ → Option QueryFault

module _ (vars : List Variable) where
  module _ (v : View) where
    -- ---- the operators of a column

    -- one operator of a column of this name and kind
    abbrev pub operator_fault : Text → Kind → GPair → Option QueryFault
    operator_fault column k p =
        if bytes_eq (pair_name p) (codes "_in") || bytes_eq (pair_name p) (codes "_nin") then
        list_fault vars column k (pair_value p)
        else if bytes_eq (pair_name p) (codes "_is_null") then single_fault vars column kind.Bool (pair_value p)
        else if is_some (op_named (pair_name p)) then single_fault vars column k (pair_value p)
        else refused fault.WrongType column

    -- an object of operators, each of them once
    abbrev pub column_fault : ℕ → Text → GValue → Option ℕ → Option QueryFault
    column_fault table name x None = refused fault.NoArgument name
    column_fault table name x (Some column) =
        if is_object x then
        pairs_fault (λ other. refusal fault.WrongType name) (operator_fault name (kind_of v table column)) []
        (pairs_in x)
        else refused fault.WrongType name

    -- ---- conditions

    -- `_and` and `_or` with several conditions or one, `_not` with one, or a column
    abbrev pub key_fault : GPair-F (GValue × Judged) (GPair × KeyJudged) → KeyJudged
    key_fault p table =
        if bytes_eq p.name (codes "_and") || bytes_eq p.name (codes "_or") then p.value.1.many p.name table
        else if bytes_eq p.name (codes "_not") then p.value.1.one p.name table
        else column_fault table p.name p.value.0 (column_seen v table p.name)

    -- a key that stands twice is as strange as one that isn't known
    abbrev pub keys_fault : ℕ → List Text → List (GPair × KeyJudged) → Option QueryFault
    keys_fault table before ps =
        distinct_fault (refusal fault.NoArgument) before (map (λ p. (pair_name p.0, p.1 table)) ps)

    abbrev pub alone_judged : (Text → ℕ → Option QueryFault) → Judged
    alone_judged f = record { one = f; many = f }

    -- an object is a condition, and a list is none, but takes the place of several
    abbrev pub condition_step : GValue-F (GValue × Judged) (GPair × KeyJudged) → Judged
    condition_step (GValue-F.Object pairs) = alone_judged (λ blamed table. keys_fault table [] pairs)
    condition_step (GValue-F.Many items) = record {
      one = λ blamed table. refused fault.WrongType blamed;
      many = λ blamed table. first_of (map (λ (x : GValue × Judged). x.1.one blamed table) items);
    }
    condition_step _ = alone_judged (λ blamed table. refused fault.WrongType blamed)

    unfoldable pub judged : GValue → Judged
    judged = para-GValue Judged KeyJudged condition_step key_fault

    -- one key of an object of conditions
    unfoldable pub judged_at : GPair → KeyJudged
    judged_at = para-GPair Judged KeyJudged condition_step key_fault

    -- the argument `where`
    abbrev pub where_fault : ℕ → GValue → Option QueryFault
    where_fault table x = if is_null_literal x then None else (judged x).one (codes "where") table
