-- The variables of a canonical text are declared ones, each once, and so no more than those of an operation of the text.
use Rattle.std.proofs.Common.{◌≡◌, Bool, true, ◌&&◌, ◌||◌, List, [], ◌∷◌, length, map, flat_map, Result, Ok, Err, refl, ap, ap₂, sym, subst, ◌∙◌, arith, nat_cmp}
use Rattle.std.proofs.lemmas.Bool.{and_parts}
use Rattle.std.proofs.lemmas.Cmp.{nat_list_cmp_total}
use Rattle.std.proofs.lemmas.List.{length-map}
use Rattle.std.proofs.lemmas.List.Folds.{list_all-map}
use Rattle.std.proofs.lemmas.Map.Text.{is_eq-slice_cmp}
use Rattle.std.specs.Cmp.Lexicographic.{slice_cmp}
use Rattle.std.specs.List.{list_all, list_any, AllByRecursion}
use Rattle.std.specs.Str.{bytes_eq}
use Rattle.serde_json.specs.Data.{Members}
use Rattle.request_model.specs.declared.document.VarDef.{VarDef}
use Rattle.request_model.specs.declared.flat.FlatField.{FlatField}
use Rattle.request_model.specs.declared.flat.FlatField.TheViews.{out-FlatField}
use Rattle.request_model.specs.declared.flat.FlatField.TheFolds.{fold_out-FlatField}
use Rattle.request_model.specs.Strings.{Text}
use Rattle.request_model.specs.SelectionLaws.{is_name, is_written_pair, is_empty, itself, written_field_step}
use Rattle.request_model.proofs.ReadFields.{is_written_field}
use Rattle.request_model.proofs.WrittenFlats.{flats_are_written}
use Rattle.query_model.specs.declared.fault.FaultKind.{FaultKind}
use Rattle.query_model.specs.declared.fault.QueryFault.{QueryFault}
use Rattle.query_model.specs.declared.variable.Variable.{Variable}
use Rattle.query_model.specs.Variables.{variable_of}
use Rattle.query_model.specs.Queries.{field_names_step, root_of}
use Rattle.query_model.specs.Admission.{with_variable, variables_of}
use Rattle.admission_laws.proofs.BareNames.{all_names}
use Rattle.admission_laws.proofs.PlansThere.{neither, only_root}
use Rattle.query_model.proofs.Positions.{each_joined_all}
use Rattle.admission_bounds.specs.Bounds.{VariablesAreFew}
use Rattle.admission_bounds.proofs.DistinctLists.{has_tie, distinct_few}
use Rattle.admission_bounds.proofs.VariableLexemes.{variables_within}
use Rattle.admission_bounds.proofs.DeclaredValues.{IsDeclared, AllDeclared}
use Rattle.admission_bounds.proofs.DeclaredFields.{root_told}

-- ---- variables are as many as their definitions

same_length : (values : Members) (ds : List VarDef) (xs : List Variable) → variables_of values ds ≡ Ok xs → length xs ≡ length ds
same_length values [] xs h = let q : ◌≡◌ {A = Result (List Variable) QueryFault} (Ok []) (Ok xs) = h in let e : xs ≡ [] = cc in ap length e
same_length values (d ∷ ds) xs h = go (variable_of values d) (variables_of values ds) (same_length values ds) h
  where
    go : (r : Result Variable FaultKind) (more : Result (List Variable) QueryFault) → ((ys : List Variable) → more ≡ Ok ys → length ys ≡ length ds) → with_variable d.name r more ≡ Ok xs → length xs ≡ length (d ∷ ds)
    go (Err e) more rest k = absurd (let q : ◌≡◌ {A = Result (List Variable) QueryFault} (Err _) (Ok xs) = k in cc)
    go (Ok x) (Err e) rest k = absurd (let q : ◌≡◌ {A = Result (List Variable) QueryFault} (Err e) (Ok xs) = k in cc)
    go (Ok x) (Ok ys) rest k =
        let q : ◌≡◌ {A = Result (List Variable) QueryFault} (Ok (x ∷ ys)) (Ok xs) = k in
        let e : xs ≡ x ∷ ys = cc in
        let l : length xs ≡ length (x ∷ ys) = ap length e in
        let more = rest ys refl in
        omega (arith, l, more)

-- ---- names that are declared are among those of the variables

module _ (vars : List Variable) where
  abbrev names : List Text
  names = map (λ (x : Variable). x.name) vars

  abbrev IsAmong : Text → Type 0
  IsAmong n = has_tie (slice_cmp nat_cmp) nat_list_cmp_total names n ≡ true

  among : (n : Text) → IsDeclared vars n → IsAmong n
  among n h = go vars ∙ h
    where
      go : (xs : List Variable) → has_tie (slice_cmp nat_cmp) nat_list_cmp_total (map (λ (x : Variable). x.name) xs) n ≡ list_any (λ (x : Variable). bytes_eq n x.name) xs
      go [] = refl
      go (x ∷ xs) = ap₂ (λ a b. a || b) (is_eq-slice_cmp n x.name) (go xs)

  all_among : (ns : List Text) → AllDeclared vars ns → AllByRecursion IsAmong ns
  all_among [] all = tt
  all_among (n ∷ ns) all = (among n all.0, all_among ns all.1)

-- ---- the law

inner_written : (f : FlatField) → is_written_field f ≡ true → list_all is_written_field (out-FlatField f).fields ≡ true
inner_written f w =
    let o = out-FlatField f in
    let own = is_name o.key && is_name o.name && list_all is_written_pair o.args && (o.nested || is_empty (map is_written_field o.fields)) in
    sym (list_all-map itself is_written_field o.fields) ∙ (and_parts own (list_all itself (map is_written_field o.fields)) (sym (fold_out-FlatField Bool written_field_step f) ∙ w)).1

pub variables_are_few : VariablesAreFew
variables_are_few v text operation given values d s f vars reads flattens read one walked =
    let only = only_root s.fields f one in
    let written = subst (λ fs. list_all is_written_field fs ≡ true) only (flats_are_written text d operation given s reads flattens) in
    let told = subst (AllDeclared vars) (sym (fold_out-FlatField (List Text) field_names_step f))
    (root_told vars v (root_of v s.kind f) (out-FlatField f) (inner_written f (and_parts (is_written_field f) true written).0) (neither _ _ walked).1) in
    let declared : AllDeclared vars (flat_map all_names s.fields) = subst (λ fs. AllDeclared vars (flat_map all_names fs)) (sym only) (each_joined_all (IsDeclared vars) (all_names f) [] told tt) in
    let distinct = distinct_few (slice_cmp nat_cmp) nat_list_cmp_total (flat_map all_names s.fields) (names vars) (all_among vars (flat_map all_names s.fields) declared) in
    let named : length (names vars) ≡ length vars = length-map vars (λ (x : Variable). x.name) in
    let same = same_length values s.vars vars read in
    let within = variables_within text d operation given s reads flattens in
    omega (arith, distinct, named, same, within)
