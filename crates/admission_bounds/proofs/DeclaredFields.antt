-- Where the walk finds no fault in a selection, each variable of its canonical text is declared.
use Rattle.std.proofs.Common.{◌≡◌, ℕ, Bool, true, false, ◌&&◌, ◌||◌, List, [], ◌∷◌, ◌++◌, map, flat_map, Option, None, ap, sym, ◌∙◌, subst}
use Rattle.std.proofs.lemmas.Bool.{and_parts}
use Rattle.std.proofs.lemmas.List.Folds.{list_all-map}
use Rattle.std.specs.List.{list_all, AllByRecursion}
use Rattle.role_model.specs.Roles.{View}
use Rattle.request_model.specs.declared.flat.FlatField.{FlatField}
use Rattle.request_model.specs.declared.flat.FlatField.TheOpen.{FlatField-F}
use Rattle.request_model.specs.declared.flat.FlatField.TheViews.{roll-FlatField}
use Rattle.request_model.specs.declared.flat.FlatField.TheFolds.{fold-roll-FlatField, ind-FlatField}
use Rattle.request_model.specs.Strings.{Text}
use Rattle.request_model.specs.Selection.{concatenated}
use Rattle.request_model.specs.SelectionLaws.{is_name, is_written_pair, is_empty, itself, written_field_step}
use Rattle.request_model.proofs.ReadArguments.{firsts}
use Rattle.request_model.proofs.ReadFields.{is_written_field}
use Rattle.query_model.specs.declared.fault.FaultKind.TheVariants as fault
use Rattle.query_model.specs.declared.fault.QueryFault.{QueryFault}
use Rattle.query_model.specs.Names.{Root, RowsOf, RowOf, StreamOf, NoRoot, Meant, Typename, AColumn, ALink, Unseen, meant}
use Rattle.query_model.specs.declared.variable.Variable.{Variable}
use Rattle.query_model.specs.Queries.{value_names, field_names_step}
use Rattle.query_model.specs.Refusals.{refusal, refused_if, first_of}
use Rattle.query_model.specs.ArgumentFaults.{Known, no_arguments, list_arguments, stream_arguments, key_names, key_arguments, link_arguments, arguments_fault}
use Rattle.query_model.specs.Walk.{scalar_fault, object_fault, meant_fault, field_fault_step, field_fault, judging, stream_needs, root_fault}
use Rattle.query_model.proofs.Positions.{each_joined_all}
use Rattle.admission_laws.proofs.BareNames.{all_names}
use Rattle.admission_laws.proofs.FittingPlans.{object_passes}
use Rattle.admission_laws.proofs.PlansThere.{neither}
use Rattle.admission_laws.proofs.TypedValues.{clash, some_none, passed_if}
use Rattle.admission_bounds.proofs.DeclaredValues.{IsDeclared}
use Rattle.admission_bounds.proofs.DeclaredArguments.{bare_value, Told, Judges, none_judges, list_judges, stream_judges, key_judges, link_judges, arguments_told}

module _ (vars : List Variable) (v : View) where
  abbrev TellsAll : List Text → Type 0
  TellsAll = Told vars v

  abbrev own_names : {A : Type 0} → FlatField-F A → List Text
  own_names f = flat_map (λ p. value_names (bare_value p)) f.args

  abbrev judge : FlatField → ℕ → Option QueryFault
  judge = field_fault vars v

  abbrev Ready : FlatField → Type 0
  Ready x = is_written_field x ≡ true → (table : ℕ) → judge x table ≡ None → TellsAll (all_names x)

  fields_told : (table : ℕ) (xs : List FlatField) → AllByRecursion Ready xs → list_all is_written_field xs ≡ true → first_of (map (λ (g : ℕ → Option QueryFault). g table) (map judge xs)) ≡ None → TellsAll (concatenated (map all_names xs))
  fields_told table [] each w h = tt
  fields_told table (x ∷ xs) each w h =
      let parts = neither (judge x table) (first_of (map (λ (g : ℕ → Option QueryFault). g table) (map judge xs))) h in
      let written = and_parts (is_written_field x) (list_all is_written_field xs) w in
      each_joined_all (IsDeclared vars) (all_names x) (concatenated (map all_names xs)) (each.0 written.0 table parts.0) (fields_told table xs each.1 written.1 parts.1)

  -- a field that gives objects of a table
  object_told : (known : Known) → Judges vars v known → (required : List Text) (table : ℕ) (f : FlatField-F (ℕ → Option QueryFault)) (inner : List Text) → object_fault vars v known required table f ≡ None →
      (first_of (map (λ (g : ℕ → Option QueryFault). g table) f.fields) ≡ None → TellsAll inner) → TellsAll (own_names f ++ inner)
  object_told known judges required table f inner h told =
      let passes = object_passes vars v known required table f h in
      each_joined_all (IsDeclared vars) (own_names f) inner (arguments_told vars v known judges f.args passes.arguments) (told passes.fields)

  module _ (f : FlatField-F FlatField) where
    abbrev judged : FlatField-F (ℕ → Option QueryFault)
    judged = record { key = f.key; name = f.name; args = f.args; nested = f.nested; conditions = f.conditions; fields = map judge f.fields }

    abbrev inner_names : List Text
    inner_names = concatenated (map all_names f.fields)

    none_inside : (xs : List FlatField) (nested : Bool) → (nested || is_empty (map is_written_field xs)) ≡ true → nested ≡ false → TellsAll (concatenated (map all_names xs))
    none_inside [] nested h e = tt
    none_inside (x ∷ xs) true h e = absurd (clash e)
    none_inside (x ∷ xs) false h e = absurd (clash (sym h))

    scalar_told : (f.nested || is_empty (map is_written_field f.fields)) ≡ true → scalar_fault vars v judged ≡ None → TellsAll (own_names f ++ inner_names)
    scalar_told w h =
        let parts = neither (refused_if f.nested fault.WrongType f.name) (arguments_fault vars v (no_arguments vars v) f.args) h in
        each_joined_all (IsDeclared vars) (own_names f) inner_names (arguments_told vars v (no_arguments vars v) (none_judges vars v) f.args parts.1)
        (none_inside f.fields f.nested w (passed_if f.nested fault.WrongType f.name parts.0))

    meant_told : AllByRecursion Ready f.fields → (f.nested || is_empty (map is_written_field f.fields)) ≡ true → list_all is_written_field f.fields ≡ true → (x : Meant) → meant_fault vars v judged x ≡ None → TellsAll (own_names f ++ inner_names)
    meant_told each n w Typename h = scalar_told n h
    meant_told each n w (AColumn c) h = scalar_told n h
    meant_told each n w Unseen h = absurd (some_none (refusal fault.NoField f.name) h)
    meant_told each n w (ALink l) h = object_told (link_arguments vars v l) (link_judges vars v l) [] l.table judged inner_names h (λ k. fields_told l.table f.fields each w k)

    written_parts : is_written_field (roll-FlatField f) ≡ true → ((f.nested || is_empty (map is_written_field f.fields)) ≡ true) × (list_all is_written_field f.fields ≡ true)
    written_parts w =
        let own = is_name f.key && is_name f.name && list_all is_written_pair f.args in
        let nested = f.nested || is_empty (map is_written_field f.fields) in
        let all = and_parts (own && nested) (list_all itself (map is_written_field f.fields)) (sym (fold-roll-FlatField Bool written_field_step f) ∙ w) in
        ((and_parts own nested all.0).1, sym (list_all-map itself is_written_field f.fields) ∙ all.1)

    rolled_ready : AllByRecursion Ready f.fields → Ready (roll-FlatField f)
    rolled_ready each w table h =
        let written = written_parts w in
        subst TellsAll (sym (fold-roll-FlatField (List Text) field_names_step f))
        (meant_told each written.0 written.1 (meant v table f.name) (ap (λ (g : ℕ → Option QueryFault). g table) (sym (fold-roll-FlatField (ℕ → Option QueryFault) (field_fault_step vars v) f)) ∙ h))

  ready : (x : FlatField) → Ready x
  ready = ind-FlatField Ready (λ f y is. rolled_ready f (subst (λ z. AllByRecursion Ready z.fields) is (firsts Ready y.fields)))

  all_ready : (xs : List FlatField) → AllByRecursion Ready xs
  all_ready [] = tt
  all_ready (x ∷ xs) = (ready x, all_ready xs)

  pub root_told : (root : Root) (f : FlatField-F FlatField) → list_all is_written_field f.fields ≡ true → root_fault vars v root f ≡ None → TellsAll (own_names f ++ concatenated (map all_names f.fields))
  root_told NoRoot f w h = absurd (some_none (refusal fault.NoField f.name) h)
  root_told (RowsOf table) f w h =
      object_told (list_arguments vars v table) (list_judges vars v table) [] table (judging vars v f) (concatenated (map all_names f.fields)) h (λ k. fields_told table f.fields (all_ready f.fields) w k)
  root_told (RowOf table) f w h =
      object_told (key_arguments vars v table) (key_judges vars v table) (key_names vars v table) table (judging vars v f) (concatenated (map all_names f.fields)) h (λ k. fields_told table f.fields (all_ready f.fields) w k)
  root_told (StreamOf table) f w h =
      object_told (stream_arguments vars v table) (stream_judges vars v table) (stream_needs vars v) table (judging vars v f) (concatenated (map all_names f.fields)) h (λ k. fields_told table f.fields (all_ready f.fields) w k)
