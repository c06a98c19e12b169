-- The text by which selections that differ in the values of their variables alone are known to be one. This project's
-- own.
use Rattle.std.specs.Prelude.{ℕ, Bool, true, false, if◌then◌else◌, List, [], ◌∷◌, ◌++◌, map, codes}
use Rattle.std.specs.Str.{bytes_eq}
use Rattle.scalar_val.specs.declared.val.Val.TheVariants as val
use Rattle.scalar_val.specs.Joined.{parted, in_brackets, in_braces, named_text}
use Rattle.scalar_val.specs.ValText.{val_text}
use Rattle.request_model.specs.declared.document.GValue.{GValue}
use Rattle.request_model.specs.declared.document.GValue.TheOpen.{GValue-F, GPair-F}
use Rattle.request_model.specs.declared.document.GValue.TheViews.{out-GValue, out-GPair}
use Rattle.request_model.specs.declared.document.GValue.TheFolds.{fold-GValue, fold-GPair}
use Rattle.request_model.specs.declared.document.GPair.{GPair}
use Rattle.scalar_val.specs.declared.word.Word.{Word}
use Rattle.scalar_val.specs.declared.word.Word.TheVariants as word
use Rattle.request_model.specs.declared.flat.FlatField.{FlatField}
use Rattle.request_model.specs.declared.flat.FlatField.TheOpen.{FlatField-F}
use Rattle.request_model.specs.declared.flat.FlatField.TheFolds.{fold-FlatField}
use Rattle.request_model.specs.declared.flat.Flat.{Flat}
use Rattle.request_model.specs.Strings.{Text}
use Rattle.request_model.specs.Selection.{by_name}

-- ---- values

abbrev pub value_step : GValue-F Text Text → Text
value_step (GValue-F.Var name) = 36 ∷ name
value_step (GValue-F.Int digits) = digits
value_step (GValue-F.Text s) = val_text (val.Text s)
value_step (GValue-F.Bool b) = val_text (val.Bool b)
value_step GValue-F.Null = val_text val.Null
value_step (GValue-F.Enum name) = name
value_step (GValue-F.Many items) = in_brackets items
value_step (GValue-F.Object pairs) = in_braces pairs

abbrev pub pair_step : GPair-F Text Text → Text
pair_step p = named_text p.name p.value

abbrev pub value_text : GValue → Text
value_text = fold-GValue Text Text value_step pair_step

abbrev pub pair_text : GPair → Text
pair_text = fold-GPair Text Text value_step pair_step

-- ---- the argument `cursor`: a cursor is an object or a list of one, and the value in its `initial_value` isn't told

abbrev pub initial_text_by : Text → GValue-F GValue GPair → Text
initial_text_by other (GValue-F.Object pairs) = in_braces (map (λ p. named_text (out-GPair p).name (codes "_")) pairs)
initial_text_by other _ = other

abbrev pub initial_text : GValue → Text
initial_text x = initial_text_by (value_text x) (out-GValue x)

abbrev pub cursor_pair : GPair → Text
cursor_pair p = if bytes_eq (out-GPair p).name (codes "initial_value")
    then named_text (out-GPair p).name (initial_text (out-GPair p).value) else pair_text p

abbrev pub cursor_object_by : Text → GValue-F GValue GPair → Text
cursor_object_by other (GValue-F.Object pairs) = in_braces (map cursor_pair pairs)
cursor_object_by other _ = other

abbrev pub cursor_object : GValue → Text
cursor_object x = cursor_object_by (value_text x) (out-GValue x)

abbrev pub cursor_text_by : Text → GValue-F GValue GPair → Text
cursor_text_by other (GValue-F.Many items) = in_brackets (map cursor_object items)
cursor_text_by other _ = other

abbrev pub cursor_text : GValue → Text
cursor_text x = cursor_text_by (cursor_object x) (out-GValue x)

abbrev pub argument_text : GPair → Text
argument_text p = if bytes_eq (out-GPair p).name (codes "cursor")
    then named_text (out-GPair p).name (cursor_text (out-GPair p).value) else pair_text p

-- ---- fields

abbrev pub in_parentheses : List Text → Text
in_parentheses [] = []
in_parentheses (t ∷ ts) = 40 ∷ parted 44 (t ∷ ts) ++ 41 ∷ []

-- the fields in a selection set; a set that has none is still there
abbrev pub set_text : Bool → List Text → Text
set_text true fields = 123 ∷ parted 32 fields ++ 125 ∷ []
set_text false fields = []

abbrev pub field_step : FlatField-F Text → Text
field_step f = named_text f.key f.name ++ in_parentheses (map argument_text (by_name f.args))
    ++ set_text f.nested f.fields

abbrev pub field_text : FlatField → Text
field_text = fold-FlatField Text field_step

abbrev pub word_text : Word → Text
word_text word.Query = codes "query"
word_text word.Subscription = codes "subscription"

abbrev pub canonical : Flat → Text
canonical f = word_text f.kind ++ 32 ∷ parted 32 (map field_text f.fields)
