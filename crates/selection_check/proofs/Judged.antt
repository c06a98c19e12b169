-- Conditions that are judged, an equation for each form.
use Rattle.std.proofs.Common.{◌≡◌, ◌∙◌, ℕ, Bool, false, ◌||◌, List, [], ◌∷◌, map, Option, Some, if◌then◌else◌, refl, ap, sym, arith}
use Rattle.std.proofs.lemmas.Bool.{false_from_ne_true}
use Rattle.std.proofs.lemmas.Slice.Eq.{bytes_eq-Decides}
use Rattle.std.specs.Prelude.{codes}
use Rattle.std.specs.List.{list_any}
use Rattle.std.specs.Str.{bytes_eq}
use Rattle.role_model.specs.Roles.{View, column_seen}
use Rattle.request_model.specs.declared.document.GValue.{GValue}
use Rattle.request_model.specs.declared.document.GValue.TheVariants as v
use Rattle.request_model.specs.declared.document.GValue.TheVariants.{rolls-Many, rolls-Object}
use Rattle.request_model.specs.declared.document.GValue.TheOpen.{GValue-F}
use Rattle.request_model.specs.declared.document.GValue.TheViews.{out-GValue, roll-GValue, roll-out-GValue}
use Rattle.request_model.specs.declared.document.GValue.TheFolds.{map-GValue}
use Rattle.request_model.specs.declared.document.GPair.{GPair}
use Rattle.request_model.specs.Strings.{Text}
use Rattle.query_model.specs.declared.fault.FaultKind.TheVariants as fault
use Rattle.query_model.specs.declared.fault.QueryFault.{QueryFault}
use Rattle.query_model.specs.declared.variable.Variable.{Variable}
use Rattle.query_model.specs.Names.{pair_name, pair_value}
use Rattle.query_model.specs.Refusals.{refusal, refused, or_then, first_of, pairs_fault}
use Rattle.query_model.specs.ConditionFaults.{Judged, judged, judged_at, column_fault, keys_fault, condition_step}
use Rattle.query_model.proofs.QueryRules.{judged-is, judged-key, judged-object, judged-object-many, judged-several}

module _ (vars : List Variable) (w : View) (table : ℕ) where
  -- the keys of an object are pairs
  keys_are_pairs : (before : List Text) (ps : List GPair)
      → keys_fault vars w table before (map (λ p. (p, judged_at vars w p)) ps)
      ≡ pairs_fault (refusal fault.NoArgument) (λ p. judged_at vars w p table) before ps
  keys_are_pairs before [] = refl
  keys_are_pairs before (p ∷ ps) =
      ap (λ (o : Option QueryFault).
      or_then (if list_any (bytes_eq (pair_name p)) before then Some (refusal fault.NoArgument (pair_name p)) else judged_at vars w p table) o)
      (keys_are_pairs (pair_name p ∷ before) ps)

  pub one-Object : (pairs : List GPair) (blamed : Text)
      → (judged vars w (v.Object pairs)).one blamed table
      ≡ pairs_fault (refusal fault.NoArgument) (λ p. judged_at vars w p table) [] pairs
  one-Object pairs blamed = judged-object vars w pairs blamed table ∙ keys_are_pairs [] pairs

  pub many-Object : (pairs : List GPair) (blamed : Text)
      → (judged vars w (v.Object pairs)).many blamed table
      ≡ pairs_fault (refusal fault.NoArgument) (λ p. judged_at vars w p table) [] pairs
  many-Object pairs blamed = judged-object-many vars w pairs blamed table ∙ keys_are_pairs [] pairs

  each : (blamed : Text) (xs : List GValue)
      → first_of (map (λ (x : GValue × Judged). x.1.one blamed table) (map (λ y. (y, judged vars w y)) xs))
      ≡ first_of (map (λ x. (judged vars w x).one blamed table) xs)
  each blamed [] = refl
  each blamed (x ∷ xs) =
      ap (λ (o : Option QueryFault). or_then ((judged vars w x).one blamed table) o) (each blamed xs)

  pub many-Many : (items : List GValue) (blamed : Text)
      → (judged vars w (v.Many items)).many blamed table
      ≡ first_of (map (λ x. (judged vars w x).one blamed table) items)
  many-Many items blamed = judged-several vars w items blamed table ∙ each blamed items

  abbrev layer : GValue-F GValue GPair → Judged
  layer f = condition_step vars w (map-GValue GValue GPair (GValue × Judged) (GPair × (ℕ → Option QueryFault)) (λ y. (y, judged vars w y)) (λ p. (p, judged_at vars w p)) f)

  one_of_other : (x : GValue) (blamed : Text) → ((pairs : List GPair) → x ≡ v.Object pairs → ⊥)
      → (f : GValue-F GValue GPair) → x ≡ roll-GValue f → (layer f).one blamed table ≡ refused fault.WrongType blamed
  one_of_other x blamed h (GValue-F.Object pairs) is = absurd (h pairs (is ∙ rolls-Object pairs))
  one_of_other x blamed h (GValue-F.Var name) is = refl
  one_of_other x blamed h (GValue-F.Int digits) is = refl
  one_of_other x blamed h (GValue-F.Text s) is = refl
  one_of_other x blamed h (GValue-F.Bool b) is = refl
  one_of_other x blamed h GValue-F.Null is = refl
  one_of_other x blamed h (GValue-F.Enum name) is = refl
  one_of_other x blamed h (GValue-F.Many items) is = refl

  -- no other value is a condition
  pub one-other : (x : GValue) (blamed : Text) → ((pairs : List GPair) → x ≡ v.Object pairs → ⊥)
      → (judged vars w x).one blamed table ≡ refused fault.WrongType blamed
  one-other x blamed h =
      ap (λ (j : Judged). j.one blamed table) (judged-is vars w x)
      ∙ one_of_other x blamed h (out-GValue x) (sym (roll-out-GValue x))

  many_of_other : (x : GValue) (blamed : Text) → ((pairs : List GPair) → x ≡ v.Object pairs → ⊥)
      → ((items : List GValue) → x ≡ v.Many items → ⊥)
      → (f : GValue-F GValue GPair) → x ≡ roll-GValue f → (layer f).many blamed table ≡ refused fault.WrongType blamed
  many_of_other x blamed h k (GValue-F.Object pairs) is = absurd (h pairs (is ∙ rolls-Object pairs))
  many_of_other x blamed h k (GValue-F.Var name) is = refl
  many_of_other x blamed h k (GValue-F.Int digits) is = refl
  many_of_other x blamed h k (GValue-F.Text s) is = refl
  many_of_other x blamed h k (GValue-F.Bool b) is = refl
  many_of_other x blamed h k GValue-F.Null is = refl
  many_of_other x blamed h k (GValue-F.Enum name) is = refl
  many_of_other x blamed h k (GValue-F.Many items) is = absurd (k items (is ∙ rolls-Many items))

  -- nor a list of them
  pub many-other : (x : GValue) (blamed : Text) → ((pairs : List GPair) → x ≡ v.Object pairs → ⊥)
      → ((items : List GValue) → x ≡ v.Many items → ⊥)
      → (judged vars w x).many blamed table ≡ refused fault.WrongType blamed
  many-other x blamed h k =
      ap (λ (j : Judged). j.many blamed table) (judged-is vars w x)
      ∙ many_of_other x blamed h k (out-GValue x) (sym (roll-out-GValue x))

  pub key_is : (p : GPair)
      → judged_at vars w p table
      ≡ (if bytes_eq (pair_name p) (codes "_and") || bytes_eq (pair_name p) (codes "_or")
      then (judged vars w (pair_value p)).many (pair_name p) table
      else if bytes_eq (pair_name p) (codes "_not") then (judged vars w (pair_value p)).one (pair_name p) table
      else column_fault vars w table (pair_name p) (pair_value p) (column_seen w table (pair_name p)))
  key_is p = judged-key vars w p table

  other_text : (s t : Text) → (s ≡ t → ⊥) → bytes_eq s t ≡ false
  other_text s t h = false_from_ne_true (bytes_eq s t) (λ e. h (grind (arith, bytes_eq-Decides s t)))

  pub key_of_column : (p : GPair) → (pair_name p ≡ codes "_and" → ⊥) → (pair_name p ≡ codes "_or" → ⊥)
      → (pair_name p ≡ codes "_not" → ⊥)
      → judged_at vars w p table
      ≡ column_fault vars w table (pair_name p) (pair_value p) (column_seen w table (pair_name p))
  key_of_column p h k l =
      let name = pair_name p in
      let several = (judged vars w (pair_value p)).many name table in
      let one = (judged vars w (pair_value p)).one name table in
      let column = column_fault vars w table name (pair_value p) (column_seen w table name) in
      key_is p
      ∙ ap (λ (b : Bool). if b || bytes_eq name (codes "_or") then several else if bytes_eq name (codes "_not") then one else column)
      (other_text name (codes "_and") h)
      ∙ ap (λ (b : Bool). if b then several else if bytes_eq name (codes "_not") then one else column)
      (other_text name (codes "_or") k)
      ∙ ap (λ (b : Bool). if b then one else column) (other_text name (codes "_not") l)
