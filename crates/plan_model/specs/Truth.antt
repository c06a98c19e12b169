-- When a row meets a condition, by the three truth values of SQL and the operators of Hasura's boolean expressions.
use Rattle.std.specs.Prelude.{Bool, true, false, not, if◌then◌else◌, List, map, slice_get}
use Rattle.std.specs.List.{list_any}
use Rattle.std.specs.Ordering.{is_eq, is_lt, is_gt, is_le, is_ge, is_ne}
use Rattle.scalar_val.specs.declared.val.Val.{Val}
use Rattle.scalar_val.specs.ValOrder.{val_cmp}
use Rattle.plan_model.specs.declared.filter.Filter.{Filter}
use Rattle.plan_model.specs.declared.filter.Filter.TheOpen.{Filter-F}
use Rattle.plan_model.specs.declared.filter.Filter.TheFolds.{fold-Filter}
use Rattle.plan_model.specs.declared.filter.Op.{Op}
use Rattle.plan_model.specs.declared.filter.Op.TheVariants.{Eq, Neq, Gt, Gte, Lt, Lte}
use Rattle.plan_model.specs.declared.filter.TruthValue.{TruthValue}
use Rattle.plan_model.specs.declared.filter.TruthValue.TheVariants.{Yes, No, Unknown}
use Rattle.plan_model.specs.declared.filter.Binding.{Binding}
use Rattle.scalar_val.specs.Values.{cell, is_null}
use Rattle.plan_model.specs.Values.{operand_value, is_true, item_values}

-- ---- the three values

abbrev pub is_yes : TruthValue → Bool
is_yes Yes = true
is_yes _ = false

abbrev pub is_no : TruthValue → Bool
is_no No = true
is_no _ = false

abbrev pub is_unknown : TruthValue → Bool
is_unknown Unknown = true
is_unknown _ = false

-- and: no where one part is no, else unknown where one part is unknown, else yes
abbrev pub all_of : List TruthValue → TruthValue
all_of parts = if list_any is_no parts then No else if list_any is_unknown parts then Unknown else Yes

-- or: yes where one part is yes, else unknown where one part is unknown, else no
abbrev pub any_of : List TruthValue → TruthValue
any_of parts = if list_any is_yes parts then Yes else if list_any is_unknown parts then Unknown else No

-- not: yes and no are swapped
abbrev pub negated : TruthValue → TruthValue
negated Yes = No
negated No = Yes
negated Unknown = Unknown

abbrev pub negated_if : Bool → TruthValue → TruthValue
negated_if true t = negated t
negated_if false t = t

abbrev pub known : Bool → TruthValue
known b = if b then Yes else No

-- ---- conditions

-- what an operator says of two values, neither of which is null
abbrev pub holds : Op → Val → Val → Bool
holds Eq a b = is_eq (val_cmp a b)
holds Neq a b = is_ne (val_cmp a b)
holds Gt a b = is_gt (val_cmp a b)
holds Gte a b = is_ge (val_cmp a b)
holds Lt a b = is_lt (val_cmp a b)
holds Lte a b = is_le (val_cmp a b)

-- a comparison with null is unknown
abbrev pub compared : Op → Val → Val → TruthValue
compared op cell v = if is_null cell then Unknown else if is_null v then Unknown else known (holds op cell v)

-- `_in` is the or of `_eq` over its values
abbrev pub among : Val → List Val → TruthValue
among cell vs = any_of (map (compared Eq cell) vs)

-- `_is_null` is never unknown
abbrev pub null_as_wanted : Val → Val → TruthValue
null_as_wanted cell want = known (if is_null cell then is_true want else not (is_true want))

-- what a condition says of a row
abbrev pub Meaning : Type 0
Meaning = List Val → TruthValue

abbrev pub truth_step : Binding → Filter-F Meaning → Meaning
truth_step b (Filter-F.And parts) row = all_of (map (λ part. part row) parts)
truth_step b (Filter-F.Or parts) row = any_of (map (λ part. part row) parts)
truth_step b (Filter-F.Not part) row = negated (part row)
truth_step b (Filter-F.Cmp column op operand) row =
    compared op (cell row column) (operand_value b operand)
truth_step b (Filter-F.Among column negated items) row =
    negated_if negated (among (cell row column) (item_values b items))
truth_step b (Filter-F.IsNull column want) row = null_as_wanted (cell row column) (operand_value b want)

-- the truth of a condition over a row, with the values of variables and of session variables
abbrev pub truth_of : Binding → Filter → List Val → TruthValue
truth_of b = fold-Filter Meaning (truth_step b)
