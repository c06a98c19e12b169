-- What becomes of an operation.
use Rattle.std.proofs.Common.{Option, Result, Ok, Err, ◌≡◌, ◌∙◌, ◌⊎◌, inl, inr, ◌<◌, ◌≤◌, ◌+◌, ◌||◌, ◌↔◌, sym, ap, refl, subst, arith, ℕ, nat_lt, Bool, true, false, List, [], ◌∷◌, ◌++◌, map, Some, None, IsTrue}
use Rattle.std.specs.List.{AllByRecursion, filter_map}
use Rattle.std.proofs.lemmas.Bool.Decides.{nat_tests}
use Rattle.serde_json.specs.Data.{Members}
use Rattle.request_model.specs.declared.document.Document.{Document}
use Rattle.request_model.specs.declared.document.Selection.{Selection}
use Rattle.request_model.specs.declared.flat.FlatField.{FlatField}
use Rattle.request_model.specs.declared.flat.FlatFault.{FlatFault}
use Rattle.request_model.specs.declared.flat.FlatFault.TheVariants as fault
use Rattle.scalar_val.specs.declared.word.Word.{Word}
use Rattle.request_model.specs.declared.flat.Flat.{Flat}
use Rattle.request_model.specs.Strings.{Text}
use Rattle.request_model.specs.declared.document.VarDef.{VarDef}
use Rattle.gql_flat.specs.declared.flattening.Whole.{Whole}
use Rattle.request_model.specs.Selection.{repeats, Fragment, operations, chosen, Flattens, refused, flattened, Scope, Operation, Group, collected, fields_seen, is_large, levels, size, most_levels, most_fields, FieldsConflict, HasFault, fault_order, IsFirst, served, scope, shares_name, flat_of}
use Rattle.gql_flat.specs.declared.fields.Tally.{Tally}
use Rattle.gql_flat.specs.Fields.{AreFields, AreTooLarge, Conflicts, field_down, FailsSo}
use Rattle.gql_scope.specs.Refusals.{Refuses, refusals}
use Rattle.gql_flat.specs.Whole.{IsWhole, OperationFlattens}
use Rattle.gql_flat.proofs.FieldRules.{conflicts_are}
use Rattle.std.proofs.lemmas.Bool.{or_left, or_right, or_from}

-- ---- limits

not_above : (m n : ℕ) → m ≤ n → nat_lt n m ≡ false
not_above m n h = grind (arith, nat_tests)

above : (m n : ℕ) → n < m → nat_lt n m ≡ true
above m n h = grind (arith, nat_tests)

pub small : (fields : List FlatField) → levels fields ≤ most_levels → size fields ≤ most_fields → is_large fields ≡ false
small fields l n = or_from _ _ (not_above (levels fields) most_levels l) (not_above (size fields) most_fields n)

large_by : (fields : List FlatField) → (most_levels < levels fields) ⊎ (most_fields < 0 + size fields) → is_large fields ≡ true
large_by fields (inl h) = or_left _ _ (above (levels fields) most_levels h)
large_by fields (inr h) = or_right (nat_lt most_levels (levels fields)) _ (above (size fields) most_fields (omega (arith, h)))

-- the groups of the whole selection set
pub large_whole : (s : Scope) (set : List Selection) (groups : List Group) → groups ≡ (collected s set).groups → AreTooLarge s most_levels groups 0 → IsTrue (is_large (fields_seen s set))
large_whole s set groups e h = large_by (fields_seen s set) (subst (λ gs. AreTooLarge s most_levels gs 0) e h)

module _ (s : Scope) (set : List Selection) (groups : List Group) (fields : List FlatField) (b a : Tally) (e : groups ≡ (collected s set).groups) (zero_before : b.fields ≡ 0) (x : AreFields s most_levels groups b a fields) where
  pub whole_fields : fields ≡ fields_seen s set
  whole_fields = x.are ∙ ap (map (field_down s most_levels)) e

  pub whole_small : is_large (fields_seen s set) ≡ false
  whole_small = subst (λ fs. is_large fs ≡ false) whole_fields (small fields x.high (omega (arith, x.counted, x.few, zero_before)))

  of_either : b.conflict ≡ false → IsTrue b.conflict ⊎ Conflicts s most_levels groups → FieldsConflict s most_levels set
  of_either f (inl h) = let none : true ≡ false = sym h ∙ f in cc
  of_either f (inr c) = (conflicts_are s most_levels set).1 (subst (λ gs. Conflicts s most_levels gs) e c)

  pub whole_conflict : b.conflict ≡ false → IsTrue a.conflict ↔ FieldsConflict s most_levels set
  whole_conflict f = (λ h. of_either f (x.conflict.0 h), λ c. x.conflict.1 (inr (subst (λ gs. Conflicts s most_levels gs) (sym e) ((conflicts_are s most_levels set).0 c))))

-- ---- the first fault

in_front : (H : FlatFault → Type 0) (ys zs : List FlatFault) (x : FlatFault) → IsFirst H ys x → IsFirst H (ys ++ zs) x
in_front H [] zs x h = absurd h
in_front H (y ∷ ys) zs x (inl h) = inl h
in_front H (y ∷ ys) zs x (inr h) = inr (h.0, in_front H ys zs x h.1)

module _ (d : Document) (values : Members) (o : Operation) where
  pub not_served : served o.word ≡ None → IsFirst (HasFault d values o) fault_order fault.NotServed
  not_served h = inl (h, refl)

  module _ (s : Scope) (here : s ≡ scope d values o) (w : Word) (is_served : served o.word ≡ Some w) where
    serves : served o.word ≡ None → ⊥
    serves h = let both : Some w ≡ None = sym is_served ∙ h in cc

    pub refused_first : (x : FlatFault) → IsFirst (Refuses s o) refusals x → IsFirst (HasFault d values o) fault_order x
    refused_first x h = inr (serves, in_front (HasFault d values o) refusals (fault.TooLarge ∷ fault.Conflict ∷ []) x (subst (λ z. IsFirst (Refuses z o) refusals x) here h))

    module _ (out : AllByRecursion (λ x. Refuses s o x → ⊥) refusals) where
      none_refuses : AllByRecursion (λ x. HasFault d values o x → ⊥) refusals
      none_refuses = subst (λ z. AllByRecursion (λ x. Refuses z o x → ⊥) refusals) here out

      pub too_large_first : IsTrue (is_large (fields_seen s o.select)) → IsFirst (HasFault d values o) fault_order fault.TooLarge
      too_large_first h =
          let n = none_refuses in
          inr (serves, inr (n.0, inr (n.1.0, inr (n.1.1.0, inr (n.1.1.1.0, inl (subst (λ z. IsTrue (is_large (fields_seen z o.select))) here h, refl))))))

      pub fails_whole : (x : FlatFault) → FailsSo x (IsTrue (is_large (fields_seen s o.select))) → (x ≡ fault.NoMemory) ⊎ IsFirst (HasFault d values o) fault_order x
      fails_whole x (inl h) = inl h
      fails_whole x (inr h) = inr (subst (λ y. IsFirst (HasFault d values o) fault_order y) (sym h.0) (too_large_first h.1))

      module _ (fits : is_large (fields_seen s o.select) ≡ false) where
        not_large : HasFault d values o fault.TooLarge → ⊥
        not_large h = let none : true ≡ false = sym h ∙ subst (λ z. is_large (fields_seen z o.select) ≡ false) here fits in cc

        pub conflict_first : HasFault d values o fault.Conflict → IsFirst (HasFault d values o) fault_order fault.Conflict
        conflict_first h = let n = none_refuses in inr (serves, inr (n.0, inr (n.1.0, inr (n.1.1.0, inr (n.1.1.1.0, inr (not_large, inl (h, refl)))))))

        pub field_conflict : FieldsConflict s most_levels o.select → HasFault d values o fault.Conflict
        field_conflict h = inr (subst (λ z. FieldsConflict z most_levels o.select) here h)

        no_conflict : (FieldsConflict s most_levels o.select → ⊥) → shares_name d o ≡ false → HasFault d values o fault.Conflict → ⊥
        no_conflict f g (inl h) = let none : true ≡ false = sym h ∙ g in cc
        no_conflict f g (inr h) = f (subst (λ z. FieldsConflict z most_levels o.select) (sym here) h)

        pub no_fault : (FieldsConflict s most_levels o.select → ⊥) → shares_name d o ≡ false → AllByRecursion (λ x. HasFault d values o x → ⊥) fault_order
        no_fault f g = let n = none_refuses in (serves, (n.0, (n.1.0, (n.1.1.0, (n.1.1.1.0, (not_large, (no_conflict f g, tt)))))))

pub chosen_is : (wanted read : Option Text) (os slice : List Operation) (r : Result Operation FlatFault) → read ≡ wanted → slice ≡ os → r ≡ chosen read slice → chosen wanted os ≡ r
chosen_is wanted read os slice r ew eo e = sym (e ∙ ap (λ v. chosen v slice) ew ∙ ap (chosen wanted) eo)

pub flattens : (d : Document) (wanted : Option Text) (values : Members) (o : Operation) (r : Result Flat FlatFault) → chosen wanted (operations d) ≡ Ok o → OperationFlattens d values o r → (r ≡ Err fault.NoMemory → ⊥) → Flattens d wanted values r
flattens d wanted values o (Ok f) here x memory = subst (λ g. Flattens d wanted values (Ok g)) (sym x.is) (flattened here x.no_fault x.served_as)
flattens d wanted values o (Err e) here (inl h) memory = absurd (memory (ap Err h))
flattens d wanted values o (Err e) here (inr h) memory = refused here h

pub shares_is : (d : Document) (values : Members) (o : Operation) (s : Scope) (os : List Operation) (b : Bool) → s ≡ scope d values o → os ≡ operations d →
    b ≡ (repeats (filter_map (λ (p : Operation). p.name) os) || repeats (map (λ (f : Fragment). f.name) s.fragments) || repeats (map (λ (v : VarDef). v.name) s.vars)) → shares_name d o ≡ b
shares_is d values o s os b here eo e =
    sym (e ∙ ap (λ ps. repeats (filter_map (λ (p : Operation). p.name) ps) || repeats (map (λ (f : Fragment). f.name) s.fragments) || repeats (map (λ (v : VarDef). v.name) s.vars)) eo
    ∙ ap (λ (z : Scope). repeats (filter_map (λ (p : Operation). p.name) (operations d)) || repeats (map (λ (f : Fragment). f.name) z.fragments) || repeats (map (λ (v : VarDef). v.name) z.vars)) here)

pub flat_is : (d : Document) (values : Members) (o : Operation) (s : Scope) (w : Word) (whole : Whole) (f : Flat) → s ≡ scope d values o → IsWhole s o.select whole →
    f ≡ record { kind = w; vars = o.vars; conditions = whole.conditions; fields = whole.fields } → f ≡ flat_of d values o w
flat_is d values o s w whole f here x e =
    let flat : List Text → List FlatField → Flat = λ cs fs. record { kind = w; vars = o.vars; conditions = cs; fields = fs } in
    e ∙ ap (λ cs. flat cs whole.fields) x.conditions ∙ ap (flat (collected s o.select).conditions) x.fields ∙ ap (λ (z : Scope). flat (collected z o.select).conditions (fields_seen z o.select)) here
