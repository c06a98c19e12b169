-- What the walk lets pass as a value is bound, and of the kind that is wanted.
use Rattle.std.proofs.Common.{◌≡◌, ℕ, ℤ, pos, negsuc, Bool, true, false, not, ◌&&◌, ◌||◌, if◌then◌else◌, List, [], ◌∷◌, map, int_lt, nat_le, slice_get, is_none, unwrap_or, Option, Some, None, option_map, option_and_then, refl, ap, sym, ◌∙◌, arith}
use Rattle.std.proofs.lemmas.Bool.{and_from, and_parts}
use Rattle.std.proofs.lemmas.Bool.Decides.{nat_tests}
use Rattle.std.specs.List.{list_all, AllByRecursion}
use Rattle.scalar_val.specs.declared.val.Kind.{Kind}
use Rattle.scalar_val.specs.declared.val.Kind.TheVariants as kind
use Rattle.scalar_val.specs.declared.val.Val.{Val}
use Rattle.scalar_val.specs.declared.val.Val.TheVariants as val
use Rattle.scalar_val.specs.Spellings.{fitted}
use Rattle.plan_model.specs.declared.filter.Binding.{Binding}
use Rattle.plan_model.specs.declared.filter.Operand.{Operand}
use Rattle.plan_model.specs.declared.filter.Operand.TheVariants.{Const, Var}
use Rattle.plan_model.specs.declared.filter.Items.TheVariants as items
use Rattle.plan_model.specs.declared.filter.Slot.{Slot}
use Rattle.plan_model.specs.declared.filter.Slot.TheVariants.{One, Many}
use Rattle.role_model.specs.JsonFilters.{slot_of}
use Rattle.role_model.specs.Roles.{View}
use Rattle.scalar_val.specs.Values.{is_null}
use Rattle.plan_model.specs.Values.{one_value, operand_value}
use Rattle.plan_model.specs.FilterFits.{is_one, is_many, operand_fits, items_fit}
use Rattle.request_model.specs.declared.document.GValue.{GValue}
use Rattle.request_model.specs.Strings.{Text}
use Rattle.query_model.specs.declared.fault.FaultKind.TheVariants as fault
use Rattle.query_model.specs.Names.{literal, literal_value, null_or_fitted, variable_in, items_in}
use Rattle.query_model.specs.declared.variable.VarType.{VarType}
use Rattle.query_model.specs.declared.variable.Variable.{Variable}
use Rattle.query_model.specs.Variables.{variable_slot, value_by, value_read}
use Rattle.plan_model.specs.Values.{number_in}
use Rattle.query_model.specs.declared.session.SessionSlot.{SessionSlot}
use Rattle.query_model.specs.Refusals.{refusal, refused_if, or_then, first_of}
use Rattle.query_model.specs.ValueFaults.{by_variable, null_fault, literal_fault, single_fault, is_null_slot, list_fault, is_null_literal}
use Rattle.query_model.specs.CountFaults.{is_below, negative_fault, count_literal_fault, count_fault, batch_fault}
use Rattle.query_model.specs.Plans.{operand_by, operand_of, items_or, items_of, count_operand}
use Rattle.plan_model.specs.BindingFits.{is_number, count_fits}
use Rattle.admission_laws.proofs.PlansThere.{neither}
use Rattle.admission_laws.proofs.TypedValues.{is_of, is_int, Typed, typed, Declared, declared, passed_if, clash, some_none, fitted_of}

-- ---- numbers

zero_least : (n : ℕ) → nat_le 0 n ≡ true
zero_least n = grind (arith, nat_tests)

at_least_zero : (z : ℤ) → int_lt z (pos 0) ≡ false → unwrap_or (option_map (nat_le 0) (number_in (val.Int z))) false ≡ true
at_least_zero (pos n) h = zero_least n
at_least_zero (negsuc n) h = absurd (clash h)

one_below : (n : ℕ) → int_lt (pos n) (pos 1) ≡ false → nat_le 1 n ≡ true
one_below n h = grind (arith, nat_tests)

at_least_one : (z : ℤ) → int_lt z (pos 1) ≡ false → unwrap_or (option_map (nat_le 1) (number_in (val.Int z))) false ≡ true
at_least_one (pos n) h = one_below n h
at_least_one (negsuc n) h = absurd (clash h)

module _ (w : View) (names : List Text) (slots : List SessionSlot) (b : Binding) (vars : List Variable) (all : AllByRecursion Typed vars) where
  -- the binding has the variable's value in its slot
  abbrev pub Listed : Text → Type 0
  Listed n = slice_get b.vars (slot_of names n) ≡ Some (variable_slot vars n)

  abbrev pub ListedIn : Option Text → Type 0
  ListedIn (Some n) = Listed n
  ListedIn None = Unit {0}

  abbrev the_operand : Kind → GValue → Operand
  the_operand k x = operand_of w names slots k x

  -- ---- slots

  null_or_kind : (k : Kind) (t : VarType) (x : Val) → t.listed ≡ false → k ≡ t.kind → typed t (One x) ≡ true → (is_null x || is_of k x) ≡ true
  null_or_kind k t x l e h = go (is_null x) h
    where
      go : (c : Bool) → (c || (not t.listed && is_of t.kind x)) ≡ true → (c || is_of k x) ≡ true
      go true i = refl
      go false i = ap (λ z. is_of z x) e ∙ (and_parts (not t.listed) (is_of t.kind x) i).1

  one_slot : (k : Kind) (s : Slot) → Declared vars all false k s → (is_one (Some s) ≡ true) × ((is_null (one_value (Some s)) || is_of k (one_value (Some s))) ≡ true)
  one_slot k (One x) d = (refl, null_or_kind k d.0 x d.1 d.2 d.3)
  one_slot k (Many xs) d = absurd (clash (sym d.3 ∙ d.1))

  many_slot : (k : Kind) (s : Slot) → Declared vars all true k s → is_null_slot vars s ≡ false → is_many (Some s) ≡ true
  many_slot k (Many xs) d n = refl
  many_slot k (One x) d n = absurd (clash (sym (go (is_null x) d.3) ∙ n))
    where
      go : (c : Bool) → (c || (not d.0.listed && is_of d.0.kind x)) ≡ true → c ≡ true
      go true i = refl
      go false i = absurd (clash (sym (and_parts (not d.0.listed) (is_of d.0.kind x) i).0 ∙ ap not d.1))

  not_null : (c e : Bool) → (c || e) ≡ true → c ≡ false → e ≡ true
  not_null true e h n = absurd (clash n)
  not_null false e h n = h

  -- ---- single values

  pub record Passed (k : Kind) (o : Operand) : Type 0 where
    pub fits : operand_fits b o ≡ true
    pub of_kind : is_of k (operand_value b o) ≡ true

  literal_is : (k : Kind) (o : Option Val) → literal_fault vars [] k o ≡ None → is_of k (unwrap_or (option_and_then (null_or_fitted k) o) val.Null) ≡ true
  literal_is k None h = absurd (some_none (refusal fault.WrongType []) h)
  literal_is k (Some y) h =
      let parts = neither (null_fault vars [] y) (refused_if (is_none (fitted k y)) fault.WrongType []) h in
      go (is_null y) (passed_if (is_null y) fault.NullOperand [] parts.0) (fitted k y) (passed_if (is_none (fitted k y)) fault.WrongType [] parts.1) (fitted_of k y)
    where
      go : (c : Bool) → c ≡ false → (o : Option Val) → is_none o ≡ false → ((z : Val) → o ≡ Some z → is_of k z ≡ true) → is_of k (unwrap_or (if c then Some val.Null else o) val.Null) ≡ true
      go true n o i good = absurd (clash n)
      go false n None i good = absurd (clash i)
      go false n (Some z) i good = good z refl

  -- the name that takes the blame doesn't matter
  unblamed_if : (c : Bool) (k : Text) → refused_if c fault.WrongType k ≡ None → refused_if c fault.WrongType [] ≡ None
  unblamed_if c k h = ap (λ z. refused_if z fault.WrongType []) (passed_if c fault.WrongType k h)

  unblamed : (place : Text) (k : Kind) (o : Option Val) → literal_fault vars place k o ≡ None → literal_fault vars [] k o ≡ None
  unblamed place k None h = absurd (some_none (refusal fault.WrongType place) h)
  unblamed place k (Some y) h =
      let parts = neither (null_fault vars place y) (refused_if (is_none (fitted k y)) fault.WrongType place) h in
      ap (λ z. or_then (refused_if z fault.NullOperand []) (refused_if (is_none (fitted k y)) fault.WrongType [])) (passed_if (is_null y) fault.NullOperand place parts.0)
      ∙ unblamed_if (is_none (fitted k y)) place parts.1

  variable_fits : (n : Text) → Listed n → is_one (Some (variable_slot vars n)) ≡ true → operand_fits b (Var (slot_of names n)) ≡ true
  variable_fits n l h = ap is_one l ∙ h

  pub single_good : (place : Text) (k : Kind) (x : GValue) → ListedIn (variable_in x) → single_fault vars place k x ≡ None → Passed k (the_operand k x)
  single_good place k x l h = go (variable_in x) l h
    where
      go : (o : Option Text) → ListedIn o → by_variable vars false k (λ s. null_fault vars place (one_value (Some s))) (literal_fault vars place k (literal x)) o ≡ None → Passed k (operand_by w names slots (Const (literal_value k x)) o)
      go None l h = record { fits = refl; of_kind = literal_is k (literal x) (unblamed place k (literal x) h) }
      go (Some n) l h =
          let d = declared vars all false k (λ s. null_fault vars place (one_value (Some s))) n h in
          let s = one_slot k (variable_slot vars n) d.0 in
          let v = not_null _ (is_of k (one_value (Some (variable_slot vars n)))) s.1 (passed_if (is_null (one_value (Some (variable_slot vars n)))) fault.NullOperand place d.1) in
          record { fits = variable_fits n l s.0; of_kind = ap (λ z. is_of k (one_value z)) l ∙ v }

  -- ---- lists of values

  abbrev pub ItemsListed : List GValue → Type 0
  ItemsListed xs = AllByRecursion (λ x. ListedIn (variable_in x)) xs

  each_good : (place : Text) (k : Kind) (xs : List GValue) → ItemsListed xs → first_of (map (single_fault vars place k) xs) ≡ None → list_all (operand_fits b) (map (the_operand k) xs) ≡ true
  each_good place k [] l h = refl
  each_good place k (x ∷ xs) l h =
      let parts = neither (single_fault vars place k x) (first_of (map (single_fault vars place k) xs)) h in
      and_from (operand_fits b (the_operand k x)) _ (single_good place k x l.0 parts.0).fits (each_good place k xs l.1 parts.1)

  pub list_good : (place : Text) (k : Kind) (x : GValue) → ListedIn (variable_in x) → ItemsListed (items_in x) → list_fault vars place k x ≡ None → items_fit b (items_of w names slots k x) ≡ true
  list_good place k x l is h = go (variable_in x) l h
    where
      go : (o : Option Text) → ListedIn o → by_variable vars true k (λ s. refused_if (is_null_slot vars s) fault.NullOperand place) (first_of (map (single_fault vars place k) (items_in x))) o ≡ None →
          items_fit b (items_or w names slots (items.Each (map (the_operand k) (items_in x))) o) ≡ true
      go None l h = each_good place k (items_in x) is h
      go (Some n) l h =
          let d = declared vars all true k (λ s. refused_if (is_null_slot vars s) fault.NullOperand place) n h in
          ap is_many l ∙ many_slot k (variable_slot vars n) d.0 (passed_if (is_null_slot vars (variable_slot vars n)) fault.NullOperand place d.1)

  -- ---- counts

  counted_value : (x : Val) → (is_null x || is_int x) ≡ true → is_below vars (pos 0) x ≡ false → (is_null x || is_number b 0 x) ≡ true
  counted_value val.Null h k = refl
  counted_value (val.Int z) h k = at_least_zero z k
  counted_value (val.Bool z) h k = absurd (clash (sym h))
  counted_value (val.Big z) h k = absurd (clash (sym h))
  counted_value (val.Text z) h k = absurd (clash (sym h))
  counted_value (val.Uuid z) h k = absurd (clash (sym h))

  or_second : (c e : Bool) → e ≡ true → (c || e) ≡ true
  or_second true e h = refl
  or_second false e h = h

  pub count_good : (place : Text) (x : GValue) → ListedIn (variable_in x) → count_fault vars place x ≡ None → count_fits b (count_operand w names slots (Some x)) ≡ true
  count_good place x l h = outer (is_null_literal x) refl
    where
      inner : (o : Option Text) → ListedIn o → by_variable vars false kind.Int (λ s. negative_fault vars place (one_value (Some s))) (or_then (literal_fault vars place kind.Int (literal x)) (negative_fault vars place (literal_value kind.Int x))) o ≡ None →
          (operand_fits b (operand_by w names slots (Const (literal_value kind.Int x)) o) && (is_null (operand_value b (operand_by w names slots (Const (literal_value kind.Int x)) o)) || is_number b 0 (operand_value b (operand_by w names slots (Const (literal_value kind.Int x)) o)))) ≡ true
      inner None l h =
          let parts = neither (literal_fault vars place kind.Int (literal x)) (negative_fault vars place (literal_value kind.Int x)) h in
          counted_value (literal_value kind.Int x) (or_second (is_null (literal_value kind.Int x)) (is_int (literal_value kind.Int x)) (literal_is kind.Int (literal x) (unblamed place kind.Int (literal x) parts.0)))
          (passed_if (is_below vars (pos 0) (literal_value kind.Int x)) fault.WrongType place parts.1)
      inner (Some n) l h =
          let d = declared vars all false kind.Int (λ s. negative_fault vars place (one_value (Some s))) n h in
          let s = one_slot kind.Int (variable_slot vars n) d.0 in
          let v = counted_value (one_value (Some (variable_slot vars n))) s.1 (passed_if (is_below vars (pos 0) (one_value (Some (variable_slot vars n)))) fault.WrongType place d.1) in
          and_from (operand_fits b (Var (slot_of names n))) _ (variable_fits n l s.0) (ap (λ z. is_null (one_value z) || is_number b 0 (one_value z)) l ∙ v)

      outer : (c : Bool) → is_null_literal x ≡ c → count_fits b (if c then None else Some (the_operand kind.Int x)) ≡ true
      outer true e = refl
      outer false e = inner (variable_in x) l (go (variable_in x) h)
        where
          go : (o : Option Text) → by_variable vars false kind.Int (λ s. negative_fault vars place (one_value (Some s))) (count_literal_fault vars place x) o ≡ None →
              by_variable vars false kind.Int (λ s. negative_fault vars place (one_value (Some s))) (or_then (literal_fault vars place kind.Int (literal x)) (negative_fault vars place (literal_value kind.Int x))) o ≡ None
          go (Some n) k = k
          go None k = ap (λ c. if c then None else or_then (literal_fault vars place kind.Int (literal x)) (negative_fault vars place (literal_value kind.Int x))) (sym e) ∙ k

  -- ---- the batch of a stream

  batch_number : (x : Val) → is_int x ≡ true → is_below vars (pos 1) x ≡ false → is_number b 1 x ≡ true
  batch_number (val.Int z) h k = at_least_one z k
  batch_number val.Null h k = absurd (clash (sym h))
  batch_number (val.Bool z) h k = absurd (clash (sym h))
  batch_number (val.Big z) h k = absurd (clash (sym h))
  batch_number (val.Text z) h k = absurd (clash (sym h))
  batch_number (val.Uuid z) h k = absurd (clash (sym h))

  pub read_bound : (k : Kind) (x : GValue) → ListedIn (variable_in x) → value_read vars k x ≡ operand_value b (the_operand k x)
  read_bound k x l = go (variable_in x) l
    where
      go : (o : Option Text) → ListedIn o → value_by vars (literal_value k x) o ≡ operand_value b (operand_by w names slots (Const (literal_value k x)) o)
      go None l = refl
      go (Some n) l = ap one_value (sym l)

  pub batch_good : (place : Text) (x : GValue) → ListedIn (variable_in x) → batch_fault vars place x ≡ None → (operand_fits b (the_operand kind.Int x) && is_number b 1 (operand_value b (the_operand kind.Int x))) ≡ true
  batch_good place x l h =
      let parts = neither (single_fault vars place kind.Int x) (refused_if (is_below vars (pos 1) (value_read vars kind.Int x)) fault.WrongType place) h in
      let good = single_good place kind.Int x l parts.0 in
      and_from (operand_fits b (the_operand kind.Int x)) _ good.fits
      (batch_number (operand_value b (the_operand kind.Int x)) good.of_kind (ap (is_below vars (pos 1)) (sym (read_bound kind.Int x l)) ∙ passed_if (is_below vars (pos 1) (value_read vars kind.Int x)) fault.WrongType place parts.1))
