-- Worked texts of clients, and what they say to the machine.
use Rattle.std.proofs.Common.{
  Bool,
  false,
  IsTrue,
  ◌≡◌,
  ◌⊎◌,
  inl,
  inr,
  List,
  [],
  ◌∷◌,
  ◌++◌,
  None,
  Ok,
  Err,
  refl,
  subst,
  arith,
}
use Rattle.std.specs.Prelude.{codes}
use Rattle.std.specs.List.{AllByRecursion}
use Rattle.serde_json.proofs.OnLiterals.{serde_json_on_literals}
use Rattle.serde_json.specs.Data.{no_members}
use Rattle.scalar_val.specs.declared.word.Word.TheVariants as word
use Rattle.request_model.specs.declared.document.Directive.{Directive}
use Rattle.request_model.specs.declared.document.Selection.{Selection}
use Rattle.request_model.specs.declared.document.Selection.TheVariants as s
use Rattle.request_model.specs.declared.document.OpWord.TheVariants as op
use Rattle.request_model.specs.declared.document.Definition.TheVariants as d
use Rattle.request_model.specs.declared.document.Document.{Document}
use Rattle.request_model.specs.Lexemes.{lexemes, front}
use Rattle.request_model.specs.Grammar.{
  no_more,
  no_arguments,
  plain,
  field,
  no_selections,
  more_selections,
  a_set,
  no_set,
  some_set,
  no_name,
  no_variables,
  subscription as subscription_word,
  operation,
  a_document,
}
use Rattle.request_model.specs.Place.{Reads}
use Rattle.request_model.specs.Selection.{
  InReach,
  FieldsConflict,
  scope,
  most_levels,
  Operation,
  Fragment,
  IsReached,
  spread_there,
  spread_further,
  flat_of,
  HasFault,
  fault_order,
  Flattens,
  flattened,
}
use Rattle.request_model.proofs.SelectionRules.{selections, canonical_texts}
use Rattle.request_model.proofs.Worked.{missing_bracket}
use Rattle.query_model.specs.Admission.{syntax_at}
use Rattle.query_model.specs.Selecting.{unread, selected}
use Rattle.machine.specs.Messages.{
  Init,
  Subscribe,
  Complete,
  Ping,
  Pong,
  Bad,
  Says,
  init,
  subscribe,
  complete,
  ping,
  pong,
  bad,
}
use Rattle.machine.proofs.Samples.{all_users, asks}

pub bare_init : Says (codes "{\"type\":\"connection_init\"}") (Init None)
unfolding serde_json_on_literals
bare_init = init

complete_of_id : Says (codes "{\"type\":\"complete\",\"id\":\"a\"}") (Complete (codes "a"))
unfolding serde_json_on_literals
complete_of_id = complete

a_ping : Says (codes "{\"type\":\"ping\"}") Ping
unfolding serde_json_on_literals
a_ping = ping

a_pong : Says (codes "{\"type\":\"pong\",\"payload\":{}}") Pong
unfolding serde_json_on_literals
a_pong = pong

no_json : Says (codes "hello") Bad
unfolding serde_json_on_literals
no_json = bad

no_id : Says (codes "{\"type\":\"complete\"}") Bad
unfolding serde_json_on_literals
no_id = bad

-- ---- a subscribe

-- subscription { user { id name } }
abbrev operation_of_users : Operation
operation_of_users = record {
  word = op.Subscription;
  name = None;
  vars = [];
  directives = [];
  select = s.Field None (codes "user") [] [] (s.Field None (codes "id") [] [] []
      ∷ s.Field None (codes "name") [] [] [] ∷ []) ∷ [];
}

abbrev document : Document
document = record {
  definitions = d.Operation operation_of_users.word None [] [] operation_of_users.select ∷ [];
}

users_read : Reads (codes "subscription { user { id name } }") document
unfolding lexemes front
users_read = record {
  fits = omega arith;
  good = refl;
  derives = (
    a_document (operation subscription_word no_name no_variables no_more
        (a_set (field plain no_arguments no_more
        (some_set (a_set (field plain no_arguments no_more no_set)
        (more_selections (field plain no_arguments no_more no_set) no_selections)))) no_selections)) no_more,
    (refl, (refl, (refl, (refl, (refl, (refl, (refl, (refl, tt)))))))),
  );
}

users_flat : flat_of document no_members operation_of_users word.Subscription ≡ all_users
users_flat = simp selections

no_fragment : (f : Fragment) → IsReached [] operation_of_users.select f → ⊥
no_fragment f (spread_there name h e) = cc
no_fragment f (spread_further name r h e) = cc

refuted : (b : Bool) → b ≡ false → IsTrue b → ⊥
refuted b e h = cc

no_reach : (test : List Directive → List Selection → Bool) →
    test operation_of_users.directives operation_of_users.select ≡ false → InReach [] operation_of_users test → ⊥
no_reach test none (inl h) = refuted _ none h
no_reach test none (inr (f, r, h)) = no_fragment f r

neither : {A B : Type 0} → (A → ⊥) → (B → ⊥) → A ⊎ B → ⊥
neither f g (inl a) = f a
neither f g (inr b) = g b

no : ⊥ → ⊥
no x = x

-- no field of one key differs from the first, neither at the root nor below
no_conflict : FieldsConflict (scope document no_members operation_of_users) most_levels operation_of_users.select → ⊥
no_conflict h =
    let pair = neither no no in
    neither (neither no (neither pair (neither pair no))) no (simp selections at h)

no_faults : AllByRecursion (λ x. HasFault document no_members operation_of_users x → ⊥) fault_order
no_faults = (
  λ e. cc,
  (
    no_reach _ (simp selections),
    (
      λ h. no_fragment h.0 h.1,
      (
        λ h. elim h as (λ x. ⊥) [ inl k ↦ refuted _ refl k | inr k ↦ no_reach _ (simp selections) k ],
        (
          no_reach _ (simp selections),
          (
            refuted _ (simp (selections, canonical_texts)),
            (λ h. elim h as (λ x. ⊥) [ inl k ↦ refuted _ refl k | inr k ↦ no_conflict k ], tt),
          ),
        ),
      ),
    ),
  ),
)

users_flattened : Flattens document None no_members (Ok all_users)
users_flattened = subst (λ f. Flattens document None no_members (Ok f)) users_flat
    (flattened {o = operation_of_users} refl no_faults refl)

-- its selection is the fields of its query
pub subscribe_users : Says
    (codes "{\"type\":\"subscribe\",\"id\":\"a\",\"payload\":{\"query\":\"subscription { user { id name } }\"}}")
    (Subscribe (codes "a") (asks all_users))
unfolding serde_json_on_literals
subscribe_users = subscribe (record { values = refl; selection = selected users_read users_flattened })

-- a query at fault has its refusal
subscribe_fault : Says
    (codes "{\"type\":\"subscribe\",\"id\":\"h\",\"payload\":{\"query\":\"subscription { user { id } \","
    ++ codes "\"variables\":{}}}")
    (Subscribe (codes "h") (record { selection = Err (syntax_at 27); values = no_members }))
unfolding serde_json_on_literals
subscribe_fault = subscribe (record { values = refl; selection = unread missing_bracket })
