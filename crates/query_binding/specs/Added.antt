-- Names that are collected one after the other, in order and each once.
use Rattle.std.specs.Prelude.{List, [], ◌∷◌, map}
use Rattle.std.specs.Ordering.{nat_cmp}
use Rattle.std.specs.Cmp.Lexicographic.{slice_cmp}
use Rattle.std.specs.BTreeSet.{BTreeSet}
use denote.Ref.{Bor}
use Rattle.scalar_val.specs.Ordered.{included}
use Rattle.request_model.specs.declared.document.GValue.{GValue}
use Rattle.request_model.specs.declared.document.GValue.TheFolds.{fold-GPair}
use Rattle.request_model.specs.declared.document.GPair.{GPair}
use Rattle.request_model.specs.declared.flat.FlatField.{FlatField}
use Rattle.request_model.specs.declared.flat.FlatField.TheFolds.{fold-FlatField}
use Rattle.request_model.specs.Strings.{Text}
use Rattle.request_model.specs.SelectionLaws.{bare_pair, bare_object, bare_argument}
use Rattle.query_model.specs.Names.{pair_value}
use Rattle.query_model.specs.Queries.{value_names, value_names_step, pair_names_step, field_names_step}

-- the names of a set, in order
abbrev pub texts : BTreeSet (Bor Text) → List Text
texts names = map (λ k. k.now) names.keys

-- the names with one more in its place
abbrev pub with_name : Text → List Text → List Text
with_name = included (slice_cmp nat_cmp)

abbrev pub added : List Text → List Text → List Text
added [] names = names
added (x ∷ xs) names = added xs (with_name x names)

abbrev pub added_each : List (List Text) → List Text → List Text
added_each [] names = names
added_each (xs ∷ xss) names = added_each xss (added xs names)

-- ---- the names in pairs, arguments and fields

abbrev pub pair_names : GPair → List Text
pair_names = fold-GPair (List Text) (List Text) value_names_step pair_names_step

-- without those of a cursor's initial value
abbrev pub cursor_pair_names : GPair → List Text
cursor_pair_names p = pair_names (bare_pair p)

abbrev pub object_names : GValue → List Text
object_names x = value_names (bare_object x)

abbrev pub argument_names : GPair → List Text
argument_names p = value_names (pair_value (bare_argument p))

abbrev pub field_names : FlatField → List Text
field_names = fold-FlatField (List Text) field_names_step
