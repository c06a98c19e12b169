-- Admission of a flat selection, from the answers of its steps.
use Rattle.std.proofs.Common.{◌≡◌, ◌∙◌, Option, Some, None, Result, Ok, Err, List, ap}
use Rattle.serde_json.specs.Data.{Members}
use Rattle.role_model.specs.declared.metadata.Metadata.{Metadata}
use Rattle.role_model.specs.declared.session.Session.{Session}
use Rattle.request_model.specs.declared.flat.FlatField.{FlatField}
use Rattle.request_model.specs.declared.flat.Flat.{Flat}
use Rattle.query_model.specs.declared.fault.QueryFault.{QueryFault}
use Rattle.query_model.specs.declared.session.SessionValue.{SessionValue}
use Rattle.query_model.specs.declared.variable.Variable.{Variable}
use Rattle.query_model.specs.Queries.{selection_slots}
use Rattle.query_model.specs.Walk.{walk_fault}
use Rattle.query_model.specs.Admission.{Admitted, admitted, and_next, unless_fault, one_root, variables_of, slots_given, role_view, query_with}

module _ (m : Metadata) (session : Session) (values : Members) (s : Flat) where
  abbrev with_slots : FlatField → List Variable → Result (List SessionValue) QueryFault → Result Admitted QueryFault
  with_slots f vars given = and_next given (λ slots. Ok (query_with m session values s f vars slots))

  abbrev the_slots : Result (List SessionValue) QueryFault
  the_slots = slots_given session (selection_slots (role_view m session values s) s)

  abbrev walked : FlatField → List Variable → Option QueryFault → Result Admitted QueryFault
  walked f vars fault = unless_fault fault (with_slots f vars the_slots)

  abbrev with_variables : FlatField → Result (List Variable) QueryFault → Result Admitted QueryFault
  with_variables f found =
      and_next found (λ vars. walked f vars (walk_fault vars (role_view m session values s) s f))

  by_root : (f : FlatField) → one_root s.fields ≡ Ok f →
      admitted m session values s ≡ with_variables f (variables_of values s.vars)
  by_root f e = ap (λ r. and_next r (λ g. with_variables g (variables_of values s.vars))) e

  by_variables : (f : FlatField) (vars : List Variable) → one_root s.fields ≡ Ok f →
      variables_of values s.vars ≡ Ok vars →
      admitted m session values s ≡ walked f vars (walk_fault vars (role_view m session values s) s f)
  by_variables f vars e v = by_root f e ∙ ap (with_variables f) v

  by_walk : (f : FlatField) (vars : List Variable) → one_root s.fields ≡ Ok f →
      variables_of values s.vars ≡ Ok vars → walk_fault vars (role_view m session values s) s f ≡ None →
      admitted m session values s ≡ with_slots f vars the_slots
  by_walk f vars e v w = by_variables f vars e v ∙ ap (walked f vars) w

  pub not_one_root : (e : QueryFault) → one_root s.fields ≡ Err e → admitted m session values s ≡ Err e
  not_one_root e is = ap (λ r. and_next r (λ g. with_variables g (variables_of values s.vars))) is

  pub bad_variable : (f : FlatField) (e : QueryFault) → one_root s.fields ≡ Ok f →
      variables_of values s.vars ≡ Err e → admitted m session values s ≡ Err e
  bad_variable f e is v = by_root f is ∙ ap (with_variables f) v

  pub bad_field : (f : FlatField) (vars : List Variable) (e : QueryFault) → one_root s.fields ≡ Ok f →
      variables_of values s.vars ≡ Ok vars → walk_fault vars (role_view m session values s) s f ≡ Some e →
      admitted m session values s ≡ Err e
  bad_field f vars e is v w = by_variables f vars is v ∙ ap (walked f vars) w

  pub bad_session : (f : FlatField) (vars : List Variable) (e : QueryFault) → one_root s.fields ≡ Ok f →
      variables_of values s.vars ≡ Ok vars → walk_fault vars (role_view m session values s) s f ≡ None →
      the_slots ≡ Err e → admitted m session values s ≡ Err e
  bad_session f vars e is v w g = by_walk f vars is v w ∙ ap (with_slots f vars) g

  pub admitted_with : (f : FlatField) (vars : List Variable) (given : List SessionValue) → one_root s.fields ≡ Ok f →
      variables_of values s.vars ≡ Ok vars → walk_fault vars (role_view m session values s) s f ≡ None →
      the_slots ≡ Ok given → admitted m session values s ≡ Ok (query_with m session values s f vars given)
  admitted_with f vars given is v w g = by_walk f vars is v w ∙ ap (with_slots f vars) g
