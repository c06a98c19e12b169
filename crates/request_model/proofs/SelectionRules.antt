-- Field collection and canonical texts, an equation for each form.
use Rattle.std.proofs.Common.{◌≡◌, ◌∙◌, Bool, List, [], ◌∷◌, ◌++◌, map, Option, refl, ap, sym}
use Rattle.scalar_val.specs.declared.val.Val.TheVariants as val
use Rattle.scalar_val.specs.ValText.{val_text}
use Rattle.request_model.specs.declared.document.GValue.{GValue}
use Rattle.request_model.specs.declared.document.GValue.TheVariants as v
use Rattle.request_model.specs.declared.document.GValue.TheVariants.{rolls-Var, rolls-Int, rolls-Text, rolls-Bool, rolls-Null, rolls-Enum, rolls-Many, rolls-Object}
use Rattle.request_model.specs.declared.document.GValue.TheViews.{outs-Var, outs-Int, outs-Text, outs-Bool, outs-Null, outs-Enum, outs-Many, outs-Object, out-GPair}
use Rattle.request_model.specs.declared.document.GValue.TheFolds.{fold-roll-GValue, fold_out-GPair}
use Rattle.request_model.specs.declared.document.GPair.{GPair}
use Rattle.request_model.specs.declared.document.Directive.{Directive}
use Rattle.request_model.specs.declared.document.Selection.{Selection}
use Rattle.request_model.specs.declared.document.Selection.TheVariants as s
use Rattle.request_model.specs.declared.document.Selection.TheVariants.{rolls-Field, rolls-Spread, rolls-Inline}
use Rattle.request_model.specs.declared.document.Selection.TheFolds.{fold-Selection, fold-roll-Selection, para-roll-Selection}
use Rattle.request_model.specs.declared.flat.FlatField.{FlatField}
use Rattle.request_model.specs.declared.flat.FlatField.TheOpen.{FlatField-F}
use Rattle.request_model.specs.declared.flat.FlatField.TheViews.{roll-FlatField}
use Rattle.request_model.specs.declared.flat.FlatField.TheFolds.{fold-FlatField, fold-roll-FlatField}
use Rattle.request_model.specs.Strings.{Text}
use Rattle.request_model.specs.Selection.{Scope, Collected, Collecting, selection_step, collect_one, unless_dropped, is_dropped, with_field, response_key, in_order, noted_if, concatenated, spreads_step, directives_step}
use Rattle.request_model.specs.Canonical.{value_step, pair_step, value_text, pair_text}
use Rattle.scalar_val.specs.Joined.{named_text, in_brackets, in_braces}

-- ---- selections

pub paired : {A : Type 0} (f : Selection → A) (xs : List Selection) → map (λ (e : Selection × A). e.0) (map (λ x. (x, f x)) xs) ≡ xs
paired f [] = refl
paired f (x ∷ xs) = ap (λ ys. x ∷ ys) (paired f xs)

pub second_of : {A : Type 0} (f : Selection → A) (xs : List Selection) → map (λ (e : Selection × A). e.1) (map (λ x. (x, f x)) xs) ≡ map f xs
second_of f [] = refl
second_of f (x ∷ xs) = ap (λ ys. f x ∷ ys) (second_of f xs)

module _ (scope : Scope) (spread : Text → Collecting) where
  abbrev collect : Selection → Collecting
  collect = collect_one scope spread

  pub collect-Field : (alias : Option Text) (name : Text) (args : List GPair) (ds : List Directive) (set : List Selection) (c : Collected) →
      collect_one scope spread (s.Field alias name args ds set) c ≡ unless_dropped (is_dropped scope ds) (with_field (record { key = response_key alias name; name = name; args = args; select = set })) c
  unfolding collect_one
  collect-Field alias name args ds set c =
      ap (λ (x : Selection). collect x c) (sym (rolls-Field alias name args ds set)) ∙ ap (λ (f : Collecting). f c) (para-roll-Selection Collecting (selection_step scope spread) _)
      ∙ ap (λ xs. unless_dropped (is_dropped scope ds) (with_field (record { key = response_key alias name; name = name; args = args; select = xs })) c) (paired collect set)

  pub collect-Spread : (name : Text) (ds : List Directive) (c : Collected) → collect_one scope spread (s.Spread name ds) c ≡ unless_dropped (is_dropped scope ds) (spread name) c
  unfolding collect_one
  collect-Spread name ds c = ap (λ (x : Selection). collect x c) (sym (rolls-Spread name ds)) ∙ ap (λ (f : Collecting). f c) (para-roll-Selection Collecting (selection_step scope spread) _)

  pub collect-Inline : (on : Option Text) (ds : List Directive) (set : List Selection) (c : Collected) →
      collect_one scope spread (s.Inline on ds set) c ≡ unless_dropped (is_dropped scope ds) (λ b. in_order (map (collect_one scope spread) set) (noted_if on b)) c
  unfolding collect_one
  collect-Inline on ds set c =
      ap (λ (x : Selection). collect x c) (sym (rolls-Inline on ds set)) ∙ ap (λ (f : Collecting). f c) (para-roll-Selection Collecting (selection_step scope spread) _)
      ∙ ap (λ (fs : List Collecting). unless_dropped (is_dropped scope ds) (λ b. in_order fs (noted_if on b)) c) (second_of collect set)

pub spreads-Field : (alias : Option Text) (name : Text) (args : List GPair) (ds : List Directive) (set : List Selection) →
    fold-Selection (List Text) spreads_step (s.Field alias name args ds set) ≡ concatenated (map (fold-Selection (List Text) spreads_step) set)
spreads-Field alias name args ds set = ap (fold-Selection (List Text) spreads_step) (sym (rolls-Field alias name args ds set)) ∙ fold-roll-Selection (List Text) spreads_step _

pub spreads-Spread : (name : Text) (ds : List Directive) → fold-Selection (List Text) spreads_step (s.Spread name ds) ≡ name ∷ []
spreads-Spread name ds = ap (fold-Selection (List Text) spreads_step) (sym (rolls-Spread name ds)) ∙ fold-roll-Selection (List Text) spreads_step _

pub spreads-Inline : (on : Option Text) (ds : List Directive) (set : List Selection) →
    fold-Selection (List Text) spreads_step (s.Inline on ds set) ≡ concatenated (map (fold-Selection (List Text) spreads_step) set)
spreads-Inline on ds set = ap (fold-Selection (List Text) spreads_step) (sym (rolls-Inline on ds set)) ∙ fold-roll-Selection (List Text) spreads_step _

pub directives-Field : (alias : Option Text) (name : Text) (args : List GPair) (ds : List Directive) (set : List Selection) →
    fold-Selection (List Directive) directives_step (s.Field alias name args ds set) ≡ ds ++ concatenated (map (fold-Selection (List Directive) directives_step) set)
directives-Field alias name args ds set = ap (fold-Selection (List Directive) directives_step) (sym (rolls-Field alias name args ds set)) ∙ fold-roll-Selection (List Directive) directives_step _

pub directives-Spread : (name : Text) (ds : List Directive) → fold-Selection (List Directive) directives_step (s.Spread name ds) ≡ ds
directives-Spread name ds = ap (fold-Selection (List Directive) directives_step) (sym (rolls-Spread name ds)) ∙ fold-roll-Selection (List Directive) directives_step _

pub directives-Inline : (on : Option Text) (ds : List Directive) (set : List Selection) →
    fold-Selection (List Directive) directives_step (s.Inline on ds set) ≡ ds ++ concatenated (map (fold-Selection (List Directive) directives_step) set)
directives-Inline on ds set = ap (fold-Selection (List Directive) directives_step) (sym (rolls-Inline on ds set)) ∙ fold-roll-Selection (List Directive) directives_step _

-- ---- values

abbrev text : GValue → Text
text = value_text

pub value_text-Var : (name : Text) → value_text (v.Var name) ≡ 36 ∷ name
value_text-Var name = ap text (sym (rolls-Var name)) ∙ fold-roll-GValue Text Text value_step pair_step _

pub value_text-Int : (digits : Text) → value_text (v.Int digits) ≡ digits
value_text-Int digits = ap text (sym (rolls-Int digits)) ∙ fold-roll-GValue Text Text value_step pair_step _

pub value_text-Text : (s : Text) → value_text (v.Text s) ≡ val_text (val.Text s)
value_text-Text s = ap text (sym (rolls-Text s)) ∙ fold-roll-GValue Text Text value_step pair_step _

pub value_text-Bool : (b : Bool) → value_text (v.Bool b) ≡ val_text (val.Bool b)
value_text-Bool b = ap text (sym (rolls-Bool b)) ∙ fold-roll-GValue Text Text value_step pair_step _

pub value_text-Null : value_text v.Null ≡ val_text val.Null
value_text-Null = ap text (sym rolls-Null) ∙ fold-roll-GValue Text Text value_step pair_step _

pub value_text-Enum : (name : Text) → value_text (v.Enum name) ≡ name
value_text-Enum name = ap text (sym (rolls-Enum name)) ∙ fold-roll-GValue Text Text value_step pair_step _

pub value_text-Many : (items : List GValue) → value_text (v.Many items) ≡ in_brackets (map value_text items)
value_text-Many items = ap text (sym (rolls-Many items)) ∙ fold-roll-GValue Text Text value_step pair_step _

pub value_text-Object : (pairs : List GPair) → value_text (v.Object pairs) ≡ in_braces (map pair_text pairs)
value_text-Object pairs = ap text (sym (rolls-Object pairs)) ∙ fold-roll-GValue Text Text value_step pair_step _

pub pair_text-is : (p : GPair) → pair_text p ≡ named_text (out-GPair p).name (value_text (out-GPair p).value)
pair_text-is p = fold_out-GPair Text Text value_step pair_step p

-- a fold of a field
pub fold-field : {A : Type 0} (step : FlatField-F A → A) (key name : Text) (args : List GPair) (nested : Bool) (conditions : List Text) (fields : List FlatField) →
    fold-FlatField A step (roll-FlatField (record { key = key; name = name; args = args; nested = nested; conditions = conditions; fields = fields })) ≡
    step (record { key = key; name = name; args = args; nested = nested; conditions = conditions; fields = map (fold-FlatField A step) fields })
fold-field step key name args nested conditions fields = fold-roll-FlatField _ step _

pub ruleset selections = (collect-Field, collect-Spread, collect-Inline, spreads-Field, spreads-Spread, spreads-Inline, directives-Field, directives-Spread, directives-Inline)

pub ruleset canonical_texts = (fold-field, value_text-Var, value_text-Int, value_text-Text, value_text-Bool, value_text-Null, value_text-Enum, value_text-Many, value_text-Object, pair_text-is, outs-Var, outs-Int, outs-Text, outs-Bool, outs-Null, outs-Enum, outs-Many, outs-Object)
