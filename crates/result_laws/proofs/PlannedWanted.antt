-- The rows that a plan's selections want with a binding are those that the query wants.
use Rattle.std.proofs.Common.{◌≡◌, ℕ, Bool, true, false, ◌&&◌, if◌then◌else◌, List, [], ◌∷◌, map, unwrap_or, option_and_then, Option, Some, None, refl, ap, sym, ◌∙◌}
use Rattle.std.specs.List.{AllByRecursion}
use Rattle.scalar_val.specs.declared.val.Kind.TheVariants as kind
use Rattle.scalar_val.specs.declared.val.Val.TheVariants as val
use Rattle.data_model.specs.Rows.{Row}
use Rattle.plan_model.specs.declared.filter.Binding.{Binding}
use Rattle.plan_model.specs.declared.filter.Filter.{Filter}
use Rattle.plan_model.specs.declared.filter.Filter.TheVariants as filter
use Rattle.plan_model.specs.declared.filter.TruthValue.{TruthValue}
use Rattle.plan_model.specs.declared.filter.TruthValue.TheVariants.{Yes, No, Unknown}
use Rattle.role_model.specs.declared.metadata.Metadata.{Metadata}
use Rattle.role_model.specs.Roles.{filter_seen}
use Rattle.plan_model.specs.Truth.{all_of, is_yes, truth_of}
use Rattle.plan_model.proofs.Truths.{truth_of-And}
use Rattle.request_model.specs.declared.document.GValue.{GValue}
use Rattle.request_model.specs.declared.document.GValue.TheOpen.{GValue-F}
use Rattle.request_model.specs.declared.document.GValue.TheViews.{out-GValue}
use Rattle.request_model.specs.declared.document.GPair.{GPair}
use Rattle.request_model.specs.Strings.{Text}
use Rattle.query_model.specs.Names.{variable_in, variable_by, literal_by, null_or_fitted}
use Rattle.plan_model.specs.Values.{number_in}
use Rattle.query_model.specs.Variables.{value_by, value_read, number_read}
use Rattle.query_model.specs.Conditions.{where_filter}
use Rattle.query_model.specs.declared.session.SessionSlot.{SessionSlot}
use Rattle.query_model.specs.declared.session.SessionValue.{SessionValue}
use Rattle.query_model.specs.Queries.{Query, value_names, slots_by, table_slots, view_of}
use Rattle.query_model.specs.ValueFaults.{null_by, is_null_literal}
use Rattle.query_model.specs.Results.{passes, values, permitted_by, is_permitted}
use Rattle.plan_model.specs.PlanFits.{width}
use Rattle.query_model.specs.Plans.{operands, operand_of, permission, permission_by, count_operand}
use Rattle.plan_model.specs.Planned.{number_bound}
use Rattle.admission_laws.proofs.GoodMetadata.{GoodMetadata}
use Rattle.admission_laws.proofs.TypedValues.{Typed, clash}
use Rattle.admission_laws.proofs.PassedValues.{ListedIn, read_bound}
use Rattle.admission_laws.proofs.PassedConditions.{AllListed}
use Rattle.result_laws.proofs.SameTruths.{Alike, alike-And, where_same}
use Rattle.result_laws.proofs.SamePermissions.{Present, permission_same}

yes_one : (x : TruthValue) → is_yes (all_of (x ∷ [])) ≡ (is_yes x && true)
yes_one Yes = refl
yes_one No = refl
yes_one Unknown = refl

yes_two : (x y : TruthValue) → is_yes (all_of (x ∷ y ∷ [])) ≡ (is_yes x && is_yes y)
yes_two Yes Yes = refl
yes_two Yes No = refl
yes_two Yes Unknown = refl
yes_two No Yes = refl
yes_two No No = refl
yes_two No Unknown = refl
yes_two Unknown Yes = refl
yes_two Unknown No = refl
yes_two Unknown Unknown = refl

module _ (m : Metadata) (q : Query) (names : List Text) (slots : List SessionSlot) (b : Binding) (all : AllByRecursion Typed q.variables) (told : map (λ (x : SessionValue). x.slot) q.session ≡ slots)
    (bound : b.session ≡ map (λ (x : SessionValue). x.value) q.session) (good : GoodMetadata m) where
  abbrev pub KnownAt : ℕ → Type 0
  KnownAt table = AllByRecursion (Present m q names slots b told bound table (width m.catalog table)) (table_slots (view_of m q) table)

  -- beside the role's filter
  pub guarded : (table : ℕ) → KnownAt table → (x : TruthValue) (row : Row) →
      is_yes (all_of (x ∷ map (λ (part : Row → TruthValue). part row) (map (truth_of b) (permission (view_of m q) names slots table)))) ≡ (is_yes x && is_permitted m q table row)
  guarded table h x row = go (filter_seen (view_of m q) table) refl h
    where
      go : (o : Option Filter) → filter_seen (view_of m q) table ≡ o → AllByRecursion (Present m q names slots b told bound table (width m.catalog table)) (slots_by (view_of m q) table o) →
          is_yes (all_of (x ∷ map (λ (part : Row → TruthValue). part row) (map (truth_of b) (permission_by (view_of m q) names slots table o)))) ≡ (is_yes x && permitted_by m q table row o)
      go None e k = yes_one x
      go (Some f) e k = yes_two x _ ∙ ap (λ y. is_yes x && is_yes y) (permission_same m q names slots b told bound table (width m.catalog table) f (good.filters q.role table f e) k row)

  abbrev pub HearsIn : Option GValue → Type 0
  HearsIn (Some x) = AllListed (view_of m q) names slots b q.variables all (value_names x)
  HearsIn None = Unit {0}

  where_alike : (table : ℕ) (o : Option GValue) → HearsIn o → Alike b (where_filter (view_of m q) (operands (view_of m q) names slots) table o) (where_filter (view_of m q) (values m q) table o)
  where_alike table (Some x) h = where_same (view_of m q) names slots b q.variables all table x h
  where_alike table None h = alike-And b [] [] tt

  -- `where` and the role's filter
  pub asked_same : (table : ℕ) → KnownAt table → (o : Option GValue) → HearsIn o → (row : Row) →
      is_yes (truth_of b (filter.And (where_filter (view_of m q) (operands (view_of m q) names slots) table o ∷ permission (view_of m q) names slots table)) row) ≡ (passes (where_filter (view_of m q) (values m q) table o) row && is_permitted m q table row)
  asked_same table known o h row =
      ap is_yes (truth_of-And b _ row) ∙ guarded table known (truth_of b (where_filter (view_of m q) (operands (view_of m q) names slots) table o) row) row
      ∙ ap (λ y. is_yes y && is_permitted m q table row) (where_alike table o h row)

  -- ---- counts

  abbrev pub ListedAt : Option GValue → Type 0
  ListedAt (Some x) = ListedIn (view_of m q) names slots b q.variables all (variable_in x)
  ListedAt None = Unit {0}

  pub number_same : (o : Option GValue) → ListedAt o → number_bound b (count_operand (view_of m q) names slots o) ≡ number_read q.variables o
  number_same None h = refl
  number_same (Some x) h = go (is_null_literal x) refl
    where
      null_read : (f : GValue-F GValue GPair) → out-GValue x ≡ f → null_by f ≡ true → None ≡ number_in (value_read q.variables kind.Int x)
      null_read GValue-F.Null e k = sym (ap (λ (f : GValue-F GValue GPair). number_in (value_by q.variables (unwrap_or (option_and_then (null_or_fitted kind.Int) (literal_by f)) val.Null) (variable_by f))) e)
      null_read (GValue-F.Var name) e k = absurd (clash (sym k))
      null_read (GValue-F.Int t) e k = absurd (clash (sym k))
      null_read (GValue-F.Text t) e k = absurd (clash (sym k))
      null_read (GValue-F.Bool t) e k = absurd (clash (sym k))
      null_read (GValue-F.Enum name) e k = absurd (clash (sym k))
      null_read (GValue-F.Many xs) e k = absurd (clash (sym k))
      null_read (GValue-F.Object ps) e k = absurd (clash (sym k))

      go : (c : Bool) → is_null_literal x ≡ c → number_bound b (if c then None else Some (operand_of (view_of m q) names slots kind.Int x)) ≡ number_in (value_read q.variables kind.Int x)
      go true e = null_read (out-GValue x) refl e
      go false e = ap number_in (sym (read_bound (view_of m q) names slots b q.variables all kind.Int x h))
