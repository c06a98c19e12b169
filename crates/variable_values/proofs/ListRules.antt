-- A list that is read item by item: what was read, before what is left.
use Rattle.std.proofs.Common.{◌≡◌, ℕ, suc, ◌+◌, ◌<◌, length, drop, drop-cons, add-one, get_or, sym, List, [], ◌∷◌, ◌++◌, append_assoc, Option, Some, None, option_map, Result, Ok, Err, refl, ap, ◌∙◌}
use Rattle.std.specs.Prelude.{option_and_then}
use Rattle.scalar_val.specs.declared.val.Val.{Val}
use Rattle.query_model.specs.declared.fault.QueryFault.{QueryFault}
use Rattle.query_model.specs.declared.variable.VarType.{VarType}
use Rattle.query_model.specs.declared.variable.Variable.{Variable}
use Rattle.query_model.specs.Variables.{item_value, item_values}
use Rattle.query_model.specs.Admission.{with_variable}
use Rattle.request_model.specs.Strings.{Text}

pub next_is : {A : Type 0} (xs : List A) (i : ℕ) (x : A) → i < length xs → x ≡ get_or xs i x →
    drop i xs ≡ x ∷ drop (i + 1) xs
next_is xs i x h e = rw (add-one i) (drop-cons xs i x h ∙ ap (λ y. y ∷ drop (suc i) xs) (sym e))

-- ---- items

abbrev pub after_items : List Val → Option (List Val) → Option (List Val)
after_items done rest = option_map (λ ys. done ++ ys) rest

pub no_items_yet : (rest : Option (List Val)) → after_items [] rest ≡ rest
no_items_yet (Some ys) = refl
no_items_yet None = refl

pub one_more_item : (done : List Val) (y : Val) (rest : Option (List Val)) →
    after_items done (option_map (λ ys. y ∷ ys) rest) ≡ after_items (done ++ y ∷ []) rest
one_more_item done y (Some ys) = ap Some (simp append_assoc)
one_more_item done y None = refl

pub item_read : (t : VarType) (done : List Val) (x : Option Val) (xs : List (Option Val)) (y : Val) →
    option_and_then (item_value t) x ≡ Some y →
    after_items done (item_values t (x ∷ xs)) ≡ after_items (done ++ y ∷ []) (item_values t xs)
item_read t done x xs y e =
    ap (λ o. after_items done (option_and_then (λ z. option_map (λ ys. z ∷ ys) (item_values t xs)) o)) e
    ∙ one_more_item done y (item_values t xs)

-- ---- variables

abbrev pub after_variables : List Variable → Result (List Variable) QueryFault → Result (List Variable) QueryFault
after_variables done (Ok xs) = Ok (done ++ xs)
after_variables done (Err e) = Err e

pub no_variables_yet : (rest : Result (List Variable) QueryFault) → after_variables [] rest ≡ rest
no_variables_yet (Ok xs) = refl
no_variables_yet (Err e) = refl

pub one_more_variable : (done : List Variable) (x : Variable) (name : Text) (rest : Result (List Variable) QueryFault) →
    after_variables done (with_variable name (Ok x) rest) ≡ after_variables (done ++ x ∷ []) rest
one_more_variable done x name (Ok xs) = ap Ok (simp append_assoc)
one_more_variable done x name (Err e) = refl
