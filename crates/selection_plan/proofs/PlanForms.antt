-- The fields of a plan, an equation for each meaning of a name.
use Rattle.std.proofs.Common.{◌≡◌, ◌∙◌, ℕ, List, map, ap, ap₂, sym}
use Rattle.std.proofs.lemmas.Simd.{map-map}
use Rattle.plan_model.specs.declared.plan.Field.{Field}
use Rattle.plan_model.specs.declared.plan.Field.TheVariants as field
use Rattle.role_model.specs.declared.metadata.LinkDef.{LinkDef}
use Rattle.role_model.specs.Roles.{View}
use Rattle.request_model.specs.declared.document.GPair.{GPair}
use Rattle.request_model.specs.declared.flat.FlatField.{FlatField}
use Rattle.request_model.specs.declared.flat.FlatField.TheOpen.{FlatField-F}
use Rattle.request_model.specs.declared.flat.FlatField.TheViews.{out-FlatField}
use Rattle.request_model.specs.declared.flat.FlatField.TheFolds.{fold_out-FlatField}
use Rattle.request_model.specs.Strings.{Text}
use Rattle.query_model.specs.declared.session.SessionSlot.{SessionSlot}
use Rattle.query_model.specs.Names.{Meant, ALink, Typename, AColumn, Unseen, meant}
use Rattle.query_model.specs.Plans.{link_select, meant_field, plan_step, plan_field}

module _ (v : View) (names : List Text) (slots : List SessionSlot) where
  abbrev each_field : FlatField → ℕ → Field
  each_field g t = plan_field v names slots t g

  abbrev over_fields : FlatField → FlatField-F (ℕ → Field)
  over_fields f = record {
    key = (out-FlatField f).key;
    name = (out-FlatField f).name;
    args = (out-FlatField f).args;
    nested = (out-FlatField f).nested;
    conditions = (out-FlatField f).conditions;
    fields = map each_field (out-FlatField f).fields;
  }

  field_is : (table : ℕ) (f : FlatField) (m : Meant) → meant v table (out-FlatField f).name ≡ m →
      plan_field v names slots table f ≡ meant_field v names slots (over_fields f) m
  field_is table f m e =
      ap (λ (g : ℕ → Field). g table) (fold_out-FlatField (ℕ → Field) (plan_step v names slots) f)
      ∙ ap (meant_field v names slots (over_fields f)) e

  pub typename_field : (table : ℕ) (f : FlatField) → meant v table (out-FlatField f).name ≡ Typename → plan_field v names slots table f ≡ field.Typename (out-FlatField f).key
  typename_field table f e = field_is table f Typename e

  pub unseen_field : (table : ℕ) (f : FlatField) → meant v table (out-FlatField f).name ≡ Unseen → plan_field v names slots table f ≡ field.Typename (out-FlatField f).key
  unseen_field table f e = field_is table f Unseen e

  pub column_field : (table column : ℕ) (f : FlatField) → meant v table (out-FlatField f).name ≡ AColumn column →
      plan_field v names slots table f ≡ field.Column (out-FlatField f).key column
  column_field table column f e = field_is table f (AColumn column) e

  pub link_field_is : (table : ℕ) (l : LinkDef) (f : FlatField) → meant v table (out-FlatField f).name ≡ ALink l →
      plan_field v names slots table f ≡ field.Link (out-FlatField f).key l.from l.to
      (link_select v names slots l (out-FlatField f).args (map (plan_field v names slots l.table) (out-FlatField f).fields))
  link_field_is table l f e =
      field_is table f (ALink l) e
      ∙ ap (λ fs. field.Link (out-FlatField f).key l.from l.to (link_select v names slots l (out-FlatField f).args fs))
      (map-map (λ (g : ℕ → Field). g l.table) each_field (out-FlatField f).fields)

  pub made_link : (table : ℕ) (l : LinkDef) (f : FlatField) (key : Text) (args : List GPair) (fields : List Field) (made : Field) → meant v table (out-FlatField f).name ≡ ALink l →
      key ≡ (out-FlatField f).key → args ≡ (out-FlatField f).args → fields ≡ map (plan_field v names slots l.table) (out-FlatField f).fields →
      made ≡ field.Link key l.from l.to (link_select v names slots l args fields) → made ≡ plan_field v names slots table f
  made_link table l f key args fields made e is_key are_args are_fields m =
      m ∙ ap₂ (λ (k : Text) (ps : List GPair). field.Link k l.from l.to (link_select v names slots l ps fields)) is_key are_args
      ∙ ap (λ fs. field.Link (out-FlatField f).key l.from l.to (link_select v names slots l (out-FlatField f).args fs)) are_fields
      ∙ sym (link_field_is table l f e)
