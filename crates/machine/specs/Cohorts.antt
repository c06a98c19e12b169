-- Which queries are of one poller, and which of one cohort (Hasura's live query architecture, "Multiplexing"), as tests.
-- What makes two queries equal here is this project's own.
use Rattle.std.specs.Prelude.{Bool, true, false, ◌&&◌}
use Rattle.std.specs.Ordering.{is_eq}
use Rattle.std.specs.Str.{bytes_eq}
use lib.Pointwise.{pointwise}
use Rattle.scalar_val.specs.declared.val.Val.{Val}
use Rattle.scalar_val.specs.ValOrder.{val_cmp}
use Rattle.scalar_val.specs.declared.word.Word.{Word}
use Rattle.scalar_val.specs.declared.word.Word.TheVariants as word
use Rattle.plan_model.specs.declared.filter.Binding.{Binding}
use Rattle.plan_model.specs.declared.filter.Slot.{Slot}
use Rattle.plan_model.specs.declared.filter.Slot.TheVariants.{One, Many}
use Rattle.request_model.specs.Canonical.{canonical}
use Rattle.query_model.specs.Queries.{Query}

abbrev pub same_word : Word → Word → Bool
same_word word.Query word.Query = true
same_word word.Subscription word.Subscription = true
same_word word.Query word.Subscription = false
same_word word.Subscription word.Query = false

abbrev pub same_value : Val → Val → Bool
same_value a b = is_eq (val_cmp a b)

abbrev pub same_slot : Slot → Slot → Bool
same_slot (One a) (One b) = same_value a b
same_slot (Many xs) (Many ys) = pointwise same_value xs ys
same_slot (One a) (Many ys) = false
same_slot (Many xs) (One b) = false

-- queries that differ in variables alone have one poller: their operation words, roles and canonical texts are equal
abbrev pub same_poller : Query → Query → Bool
same_poller p q =
    same_word p.selection.kind q.selection.kind && bytes_eq p.role q.role
    && bytes_eq (canonical p.selection) (canonical q.selection)

-- the values of variables, those of session variables and the cursors are equal
abbrev pub same_binding : Binding → Binding → Bool
same_binding a b =
    pointwise same_slot a.vars b.vars && pointwise same_value a.session b.session && same_value a.cursor b.cursor
