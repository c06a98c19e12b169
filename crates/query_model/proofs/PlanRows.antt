-- A worked plan: a reader's posts with a limit and a list from variables.
use Rattle.std.proofs.Common.{◌≡◌, [], ◌∷◌, Some, None, false}
use Rattle.std.specs.Prelude.{codes}
use Rattle.std.specs.Fmt.{digits}
use Rattle.json.specs.Print.{escape_byte}
use Rattle.scalar_val.specs.declared.val.Val.TheVariants as val
use Rattle.data_model.specs.Rows.{Database}
use Rattle.plan_model.specs.declared.filter.Binding.{Binding}
use Rattle.plan_model.specs.declared.filter.Filter.TheVariants as filter
use Rattle.plan_model.specs.declared.filter.Items.TheVariants as items
use Rattle.plan_model.specs.declared.filter.Op.TheVariants as compare
use Rattle.plan_model.specs.declared.filter.Operand.TheVariants as operand
use Rattle.plan_model.specs.declared.filter.Slot.TheVariants.{One, Many}
use Rattle.plan_model.specs.declared.plan.Field.TheVariants as field
use Rattle.plan_model.specs.declared.plan.Field.TheViews.{roll-Select}
use Rattle.plan_model.specs.declared.plan.Plan.{Plan}
use Rattle.plan_model.specs.declared.plan.Shape.TheVariants as shape
use Rattle.role_model.specs.Roles.{View}
use Rattle.plan_model.proofs.Truths.{truths}
use Rattle.request_model.specs.declared.document.GValue.TheVariants as v
use Rattle.request_model.specs.declared.flat.Flat.{Flat}
use Rattle.request_model.proofs.SelectionRules.{canonical_texts}
use Rattle.query_model.specs.Plans.{plan_of}
use Rattle.plan_model.specs.Planned.{planned}
use Rattle.query_model.proofs.QueryRules.{queries}
use Rattle.plan_model.proofs.PlanRules.{plans}
use Rattle.query_model.proofs.Samples.{posts, leaf, node, subscription, pair, one, order_by, int, post}

abbrev as_reader : View
as_reader = record { metadata = posts; role = codes "reader" }

-- subscription { post(where: {id: {_in: $ids}}, order_by: {title: asc}, limit: $n) { id author { __typename } } }
abbrev chosen_posts : Flat
chosen_posts = subscription []
    (node (codes "post") (pair (codes "where") (one (codes "id") (one (codes "_in") (v.Var (codes "ids")))) ∷ order_by (codes "title") (codes "asc") ∷ pair (codes "limit") (v.Var (codes "n")) ∷ [])
    (leaf (codes "id") ∷ node (codes "author") [] (leaf (codes "__typename") ∷ []) ∷ []))

-- the variables are numbered in order of name: ids, n
abbrev chosen_plan : Plan
chosen_plan = record {
  key = codes "post";
  names = codes "user" ∷ codes "post" ∷ [];
  root = roll-Select (record {
    table = 1;
    shape = shape.List;
    filter = filter.And (
        filter.And (filter.And (filter.Among 0 false (items.Var 0) ∷ []) ∷ [])
        ∷ filter.And (filter.And (filter.Cmp 1 compare.Eq (operand.Sess 0) ∷ []) ∷ []) ∷ []);
    order = record { column = 2; descending = false; nulls_first = false } ∷ [];
    limit = Some (operand.Var 1);
    offset = None;
    cap = None;
    fields =
        field.Column (codes "id") 0
        ∷ field.Link (codes "author") (1 ∷ []) (0 ∷ []) (roll-Select (record {
          table = 0;
          shape = shape.One;
          filter = filter.And (filter.And [] ∷ []);
          order = [];
          limit = None;
          offset = None;
          cap = None;
          fields = field.Typename (codes "__typename") ∷ [];
        })) ∷ [];
  });
}

plan : plan_of as_reader chosen_posts ≡ Some chosen_plan
plan = simp (queries, canonical_texts)

-- on two posts of author 1 the limit of 1 takes the first by title
abbrev bound : Binding
bound = record { vars = Many (int 1 ∷ int 2 ∷ int 3 ∷ []) ∷ One (int 1) ∷ []; session = int 1 ∷ []; cursor = val.Null }

abbrev three_posts : Database
three_posts = ((int 1 ∷ val.Null ∷ []) ∷ []) ∷ (post 1 (int 1) (codes "b") ∷ post 2 (int 1) (codes "a") ∷ post 3 (int 2) (codes "A") ∷ []) ∷ []

planned_text : planned chosen_plan bound three_posts ≡
    record { text = codes "{\"data\":{\"post\":[{\"id\":2,\"author\":{\"__typename\":\"user\"}}]}}"; rows = 1; last = val.Null }
unfolding digits escape_byte
planned_text = simp (plans, truths)
