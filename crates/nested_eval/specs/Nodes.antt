-- What is written of a plan whose tables were read, and when it is what the plan gives. This project's own.
use Rattle.std.specs.Prelude.{ℕ, ◌≡◌, ◌++◌, Bool, true, ◌&&◌, IsTrue, List, map}
use Rattle.std.specs.List.{list_all}
use Rattle.scalar_val.specs.Joined.{Text, in_braces}
use Rattle.scalar_val.specs.ValText.{val_text}
use Rattle.scalar_val.specs.Values.{cell}
use Rattle.data_model.specs.declared.catalog.Catalog.{Catalog}
use Rattle.data_model.specs.Rows.{Row, Rows, Database}
use Rattle.plan_model.specs.declared.filter.Binding.{Binding}
use Rattle.plan_model.specs.declared.plan.Field.{Field}
use Rattle.plan_model.specs.declared.plan.Select.{Select}
use Rattle.plan_model.specs.FilterFits.{itself}
use Rattle.plan_model.specs.Outcomes.{Pair, answer_text}
use Rattle.plan_model.specs.Planned.{extent, field_pair}
use Rattle.plan_model.specs.Readiness.{is_ready_field}
use Rattle.nested_eval.specs.declared.node.Part.{Part}
use Rattle.nested_eval.specs.declared.node.Part.TheOpen.{Part-F, Node-F}
use Rattle.nested_eval.specs.declared.node.Part.TheFolds.{fold-Part, fold-Node}
use Rattle.nested_eval.specs.declared.node.Node.{Node}
use Rattle.nested_eval.specs.Sources.{Sourced, source_of, taken_below, rows_fit}

-- what a part writes for a row, and a node for a parent's row
abbrev pub Telling : Type 0
Telling = Row → Text

abbrev pub texts_of : List Telling → Row → List Text
texts_of parts row = map (λ (p : Telling). p row) parts

abbrev pub object_of : List Telling → Row → Text
object_of parts row = in_braces (texts_of parts row)

module _ (b : Binding) where
  abbrev pub part_step : Part-F Telling Telling → Telling
  part_step (Part-F.Column key column) row = key ++ val_text (cell row column)
  part_step (Part-F.Typename text) row = text
  part_step (Part-F.Link key node) row = key ++ node row

  abbrev pub node_step : Node-F Telling Telling → Telling
  node_step n parent = answer_text (extent b n.source.select) (map (object_of n.parts) (taken_below b n.source parent))

  abbrev pub part_text : Part → Telling
  part_text = fold-Part Telling Telling part_step node_step

  abbrev pub node_text : Node → Telling
  node_text = fold-Node Telling Telling part_step node_step

  -- the objects of rows
  abbrev pub objects_of : List Part → Rows → List Text
  objects_of parts rows = map (object_of (map part_text parts)) rows

  -- ---- conditions fit the rows and the values

  abbrev pub part_ready_step : Part-F Bool Bool → Bool
  part_ready_step (Part-F.Column key column) = true
  part_ready_step (Part-F.Typename text) = true
  part_ready_step (Part-F.Link key node) = node

  abbrev pub node_ready_step : Node-F Bool Bool → Bool
  node_ready_step n = rows_fit b n.source && list_all itself n.parts

  abbrev pub part_ready : Part → Bool
  part_ready = fold-Part Bool Bool part_ready_step node_ready_step

  abbrev pub node_ready : Node → Bool
  node_ready = fold-Node Bool Bool part_ready_step node_ready_step

  abbrev pub parts_ready : List Part → Bool
  parts_ready parts = list_all itself (map part_ready parts)

-- ---- a plan's selections that were read

module _ (names : List Text) (catalog : Catalog) (db : Database) where
  pub record PartMeans (f : Field) (table : ℕ) (p : Part) : Type 0 where
    pub text : (b : Binding) (row : Row) → part_text b p row ≡ field_pair names b db f table row
    pub ready : (b : Binding) → IsTrue (is_ready_field catalog b f) → IsTrue (part_ready b p)

  pub record PartsMean (fs : List Field) (table : ℕ) (ps : List Part) : Type 0 where
    pub texts : (b : Binding) (row : Row)
        → texts_of (map (part_text b) ps) row ≡ map (λ (p : Pair). p table row) (map (field_pair names b db) fs)
    pub ready : (b : Binding) → IsTrue (list_all itself (map (is_ready_field catalog b) fs)) → IsTrue (parts_ready b ps)

  pub record NodeMeans (s : Select) (from to : List ℕ) (n : Node) : Type 0 where
    pub source : n.source ≡ source_of db s from to
    pub parts : PartsMean s.fields s.table n.parts
