-- What holds of flat selections and their canonical texts. This project's own.
use Rattle.std.specs.Prelude.{
  ◌≡◌,
  Bool,
  true,
  false,
  not,
  ◌&&◌,
  ◌||◌,
  if◌then◌else◌,
  ◌==◌,
  nat_lt,
  List,
  [],
  ◌∷◌,
  length,
  map,
  slice_index,
  Option,
  Result,
  Ok,
  IsTrue,
  codes,
}
use Rattle.std.specs.List.{list_all, prefix_len}
use Rattle.std.specs.Str.{bytes_eq}
use Rattle.serde_json.specs.Data.{Members}
use Rattle.request_model.specs.declared.document.GValue.{GValue}
use Rattle.request_model.specs.declared.document.GValue.TheVariants as v
use Rattle.request_model.specs.declared.document.GValue.TheOpen.{GValue-F, GPair-F}
use Rattle.request_model.specs.declared.document.GValue.TheViews.{out-GValue, out-GPair}
use Rattle.request_model.specs.declared.document.GValue.TheFolds.{fold-GPair}
use Rattle.request_model.specs.declared.document.GPair.{GPair, roll-GPair}
use Rattle.request_model.specs.declared.document.Document.{Document}
use Rattle.scalar_val.specs.declared.word.Word.{Word}
use Rattle.request_model.specs.declared.flat.FlatField.{FlatField}
use Rattle.request_model.specs.declared.flat.FlatField.TheOpen.{FlatField-F}
use Rattle.request_model.specs.declared.flat.FlatField.TheViews.{roll-FlatField}
use Rattle.request_model.specs.declared.flat.FlatField.TheFolds.{fold-FlatField}
use Rattle.request_model.specs.declared.flat.Flat.{Flat}
use Rattle.request_model.specs.declared.flat.FlatFault.{FlatFault}
use Rattle.request_model.specs.Strings.{Text}
use Rattle.request_model.specs.Lexemes.{starts_name, is_in_name, int_len}
use Rattle.request_model.specs.Place.{Reads}
use Rattle.request_model.specs.Selection.{by_name, Flattens}
use Rattle.request_model.specs.Canonical.{canonical}

-- ---- what the canonical text tells of a selection: all but the declared variables, the type conditions, the order of
-- arguments and the value in a cursor's `initial_value`, in whose place null stands here

abbrev pub renamed : GPair → GValue → GPair
renamed p x = roll-GPair (record { name = (out-GPair p).name; value = x })

abbrev pub bare_initial_by : GValue → GValue-F GValue GPair → GValue
bare_initial_by x (GValue-F.Object pairs) = v.Object (map (λ p. renamed p v.Null) pairs)
bare_initial_by x _ = x

abbrev pub bare_initial : GValue → GValue
bare_initial x = bare_initial_by x (out-GValue x)

abbrev pub bare_pair : GPair → GPair
bare_pair p = if bytes_eq (out-GPair p).name (codes "initial_value") then renamed p (bare_initial (out-GPair p).value)
    else p

abbrev pub bare_object_by : GValue → GValue-F GValue GPair → GValue
bare_object_by x (GValue-F.Object pairs) = v.Object (map bare_pair pairs)
bare_object_by x _ = x

abbrev pub bare_object : GValue → GValue
bare_object x = bare_object_by x (out-GValue x)

abbrev pub bare_cursor_by : GValue → GValue-F GValue GPair → GValue
bare_cursor_by other (GValue-F.Many items) = v.Many (map bare_object items)
bare_cursor_by other _ = other

abbrev pub bare_cursor : GValue → GValue
bare_cursor x = bare_cursor_by (bare_object x) (out-GValue x)

abbrev pub bare_argument : GPair → GPair
bare_argument p = if bytes_eq (out-GPair p).name (codes "cursor") then renamed p (bare_cursor (out-GPair p).value)
    else p

abbrev pub bare_step : FlatField-F FlatField → FlatField
bare_step f = roll-FlatField
    (record {
      key = f.key;
      name = f.name;
      args = map bare_argument
          (by_name f.args);
      nested = f.nested;
      conditions = [];
      fields = f.fields;
    })

abbrev pub bare_field : FlatField → FlatField
bare_field = fold-FlatField FlatField bare_step

abbrev pub essence : Flat → Word × List FlatField
essence f = (f.kind, map bare_field f.fields)

-- ---- selections that come from a text: names are names and integers are integers, as lexemes have them

abbrev pub is_name : Text → Bool
is_name t = starts_name (slice_index t 0) && (prefix_len is_in_name t == length t)

abbrev pub is_int : Text → Bool
is_int t = nat_lt 0 (length t) && (int_len t == length t)

abbrev pub is_enum : Text → Bool
is_enum t = is_name t && not (bytes_eq t (codes "true") || bytes_eq t (codes "false") || bytes_eq t (codes "null"))

abbrev pub itself : Bool → Bool
itself b = b

abbrev pub written_value_step : GValue-F Bool Bool → Bool
written_value_step (GValue-F.Var name) = is_name name
written_value_step (GValue-F.Int digits) = is_int digits
written_value_step (GValue-F.Text s) = true
written_value_step (GValue-F.Bool b) = true
written_value_step GValue-F.Null = true
written_value_step (GValue-F.Enum name) = is_enum name
written_value_step (GValue-F.Many items) = list_all itself items
written_value_step (GValue-F.Object pairs) = list_all itself pairs

abbrev pub written_pair_step : GPair-F Bool Bool → Bool
written_pair_step p = is_name p.name && p.value

abbrev pub is_written_pair : GPair → Bool
is_written_pair = fold-GPair Bool Bool written_value_step written_pair_step

abbrev pub is_empty : {X : Type 0} → List X → Bool
is_empty [] = true
is_empty (x ∷ xs) = false

abbrev pub written_field_step : FlatField-F Bool → Bool
written_field_step f = is_name f.key && is_name f.name && list_all is_written_pair f.args
    && (f.nested || is_empty f.fields) && list_all itself f.fields

abbrev pub is_written : Flat → Bool
is_written f = list_all (fold-FlatField Bool written_field_step) f.fields

-- ---- the laws

-- an operation has one flat selection at most, or one first fault, and not both
abbrev pub FlattensOnce : Type 0
FlattensOnce = (d : Document) (wanted : Option Text) (values : Members) (a b : Result Flat FlatFault) →
    Flattens d wanted values a → Flattens d wanted values b → a ≡ b

-- a flat selection of a text is a written one
abbrev pub FlatsAreWritten : Type 0
FlatsAreWritten = (text : Text) (d : Document) (wanted : Option Text) (values : Members) (f : Flat) → Reads text d →
    Flattens d wanted values (Ok f) → IsTrue (is_written f)

-- equal canonical texts come from selections that are equal but for what the text doesn't tell
abbrev pub CanonicalTells : Type 0
CanonicalTells = (f g : Flat) → IsTrue (is_written f) → IsTrue (is_written g) → canonical f ≡ canonical g →
    essence f ≡ essence g

-- and the text depends on nothing else
abbrev pub CanonicalTellsNoMore : Type 0
CanonicalTellsNoMore = (f g : Flat) → essence f ≡ essence g → canonical f ≡ canonical g
