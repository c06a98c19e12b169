-- An admitted query has a plan: its root is one field, which the role sees.
use Rattle.std.proofs.Common.{◌≡◌, List, [], ◌∷◌, Option, Some, None, option_map, Result, Ok, Err, refl, ap, sym, subst, ◌∙◌}
use Rattle.plan_model.specs.declared.plan.Plan.{Plan}
use Rattle.request_model.specs.declared.flat.FlatField.{FlatField}
use Rattle.request_model.specs.declared.flat.FlatField.TheViews.{out-FlatField}
use Rattle.request_model.specs.declared.flat.Flat.{Flat}
use Rattle.role_model.specs.Roles.{View}
use Rattle.query_model.specs.declared.fault.QueryFault.{QueryFault}
use Rattle.query_model.specs.Names.{Root, RowsOf, RowOf, StreamOf, NoRoot}
use Rattle.query_model.specs.declared.variable.Variable.{Variable}
use Rattle.query_model.specs.Queries.{view_of, root_of, selection_slots, text_variables}
use Rattle.query_model.specs.Refusals.{or_then}
use Rattle.query_model.specs.Walk.{root_fault}
use Rattle.query_model.specs.Admission.{Admitted, one_root, role_view}
use Rattle.query_model.specs.Plans.{root_select, plan_with, root_plan, plan_of}
use Rattle.query_model.specs.AdmissionLaws.{PlansAreThere}
use Rattle.admission_laws.proofs.SharedPlans.{made_of}

pub only_root : (fields : List FlatField) (f : FlatField) → one_root fields ≡ Ok f → fields ≡ f ∷ []
only_root [] f h = absurd (let q : ◌≡◌ {A = Result FlatField QueryFault} (Err _) (Ok f) = h in cc)
only_root (g ∷ []) f h = let q : ◌≡◌ {A = Result FlatField QueryFault} (Ok g) (Ok f) = h in let e : g ≡ f = cc in ap (λ u. u ∷ []) e
only_root (g ∷ k ∷ fs) f h = absurd (let q : ◌≡◌ {A = Result FlatField QueryFault} (Err _) (Ok f) = h in cc)

-- no first fault of two means that there is neither
pub neither : (a b : Option QueryFault) → or_then a b ≡ None → (a ≡ None) × (b ≡ None)
neither (Some x) b h = absurd (let q : ◌≡◌ {A = Option QueryFault} (Some x) None = h in cc)
neither None b h = (refl, h)

abbrev plan_at : View → Flat → FlatField → Root → Option Plan
plan_at w s f r = option_map (plan_with w (out-FlatField f).key) (root_select w (text_variables s) (selection_slots w s) r (out-FlatField f))

root_there : (vars : List Variable) (w : View) (s : Flat) (f : FlatField) (r : Root) → root_fault vars w r (out-FlatField f) ≡ None → plan_at w s f r ≡ None → ⊥
root_there vars w s f (RowsOf table) h n = let q : ◌≡◌ {A = Option Plan} (Some _) None = n in cc
root_there vars w s f (RowOf table) h n = let q : ◌≡◌ {A = Option Plan} (Some _) None = n in cc
root_there vars w s f (StreamOf table) h n = let q : ◌≡◌ {A = Option Plan} (Some _) None = n in cc
root_there vars w s f NoRoot h n = let q : ◌≡◌ {A = Option QueryFault} (Some _) None = h in cc

pub plans_are_there : PlansAreThere
plans_are_there m a i none =
    let made = made_of m i.session i.values i.selection a i.gives in
    let w = role_view m i.session i.values i.selection in
    let s = i.selection in
    let f = made.root in
    let walked = (neither _ _ made.walked).1 in
    let here : plan_of w s ≡ None = subst (λ (b : Admitted). plan_of (view_of m b.query) b.query.selection ≡ None) (sym made.is) none in
    root_there made.vars w s f (root_of w s.kind f) walked (ap (root_plan w s) (sym (only_root s.fields f made.one)) ∙ here)
